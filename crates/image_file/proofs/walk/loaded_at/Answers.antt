use Rattle.std.proofs.Common.{length, refl}
use Rattle.std.proofs.lemmas.Option.{slice_get_read, slice_get_past}
use Rattle.image_file.proofs.Walks.{none_at, none_next, one_at, one_next, other_at, other_next}
use Rattle.image_file.proofs.walk.loaded_at.Goals as goal

pub returns-in-None : goal.returns-in-None
returns-in-None c =
    let none = slice_get_past c.args.loads.now c.args.k c.in-None.ensures.lookup.3 in
    record { entry = none_at (λ l. l.load) (λ l. l.ty) c.args.i c.args.k none; next = none_next (λ l. l.load) c.args.i c.args.k none }

pub returns-then-l-i : goal.returns-then-l-i
returns-then-l-i c =
    let loads = c.args.loads.now in
    let found = c.in-Some.ensures.lookup in
    let here = slice_get_read loads (length loads) c.args.k c.in-Some.l.now refl found.3.0 found.1 in
    record {
      entry = one_at (λ l. l.load) (λ l. l.ty) c.args.i c.args.k c.in-Some.l.now here c.if-l-i.true;
      next = one_next (λ l. l.load) c.args.i c.args.k c.in-Some.l.now here c.if-l-i.true;
    }

pub returns-else-l-i : goal.returns-else-l-i
returns-else-l-i c =
    let loads = c.args.loads.now in
    let found = c.in-Some.ensures.lookup in
    let here = slice_get_read loads (length loads) c.args.k c.in-Some.l.now refl found.3.0 found.1 in
    record {
      entry = other_at (λ l. l.load) (λ l. l.ty) c.args.i c.args.k c.in-Some.l.now here c.if-l-i.false;
      next = other_next (λ l. l.load) c.args.i c.args.k c.in-Some.l.now here c.if-l-i.false;
    }
