use Rattle.std.proofs.Common.{length, refl}
use Rattle.std.proofs.lemmas.Option.{slice_get_read, slice_get_past}
use Rattle.image_file.proofs.Walks.{none_at, none_next, one_at, one_next, other_at, other_next}
use Rattle.image_file.proofs.walk.output_at.Goals as goal

pub returns-in-None : goal.returns-in-None
returns-in-None c =
    let none = slice_get_past c.args.outputs.now c.args.k c.in-None.ensures.lookup.3 in
    record { entry = none_at (λ o. o.op) (λ o. o.ty) c.args.i c.args.k none; next = none_next (λ o. o.op) c.args.i c.args.k none }

pub returns-then-o-i : goal.returns-then-o-i
returns-then-o-i c =
    let outputs = c.args.outputs.now in
    let found = c.in-Some.ensures.lookup in
    let here = slice_get_read outputs (length outputs) c.args.k c.in-Some.o.now refl found.3.0 found.1 in
    record {
      entry = one_at (λ o. o.op) (λ o. o.ty) c.args.i c.args.k c.in-Some.o.now here c.if-o-i.true;
      next = one_next (λ o. o.op) c.args.i c.args.k c.in-Some.o.now here c.if-o-i.true;
    }

pub returns-else-o-i : goal.returns-else-o-i
returns-else-o-i c =
    let outputs = c.args.outputs.now in
    let found = c.in-Some.ensures.lookup in
    let here = slice_get_read outputs (length outputs) c.args.k c.in-Some.o.now refl found.3.0 found.1 in
    record {
      entry = other_at (λ o. o.op) (λ o. o.ty) c.args.i c.args.k c.in-Some.o.now here c.if-o-i.false;
      next = other_next (λ o. o.op) c.args.i c.args.k c.in-Some.o.now here c.if-o-i.false;
    }
