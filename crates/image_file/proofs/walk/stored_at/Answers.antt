use Rattle.std.proofs.Common.{length, refl}
use Rattle.std.proofs.lemmas.Option.{slice_get_read, slice_get_past}
use Rattle.image_file.proofs.Walks.{none_stored, none_next, one_stored, one_next, other_stored, other_next}
use Rattle.image_file.proofs.walk.stored_at.Goals as goal

pub returns-in-None : goal.returns-in-None
returns-in-None c =
    let none = slice_get_past c.args.stores.now c.args.k c.in-None.ensures.lookup.3 in
    record { entry = none_stored c.args.loads.now c.args.i c.args.k none; next = none_next (λ n. n) c.args.i c.args.k none }

pub returns-then-n-i : goal.returns-then-n-i
returns-then-n-i c =
    let stores = c.args.stores.now in
    let found = c.in-Some.ensures.lookup in
    let here = slice_get_read stores (length stores) c.args.k c.in-Some.n.now refl found.3.0 found.1 in
    record {
      entry = one_stored c.args.loads.now c.args.i c.args.k c.in-Some.n.now here c.if-n-i.true c.cell_at.ensures;
      next = one_next (λ n. n) c.args.i c.args.k c.in-Some.n.now here c.if-n-i.true;
    }

pub returns-else-n-i : goal.returns-else-n-i
returns-else-n-i c =
    let stores = c.args.stores.now in
    let found = c.in-Some.ensures.lookup in
    let here = slice_get_read stores (length stores) c.args.k c.in-Some.n.now refl found.3.0 found.1 in
    record {
      entry = other_stored c.args.loads.now c.args.i c.args.k c.in-Some.n.now here c.if-n-i.false;
      next = other_next (λ n. n) c.args.i c.args.k c.in-Some.n.now here c.if-n-i.false;
    }
