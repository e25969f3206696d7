use Rattle.std.proofs.Common.{length, refl, sym, ap}
use Rattle.std.proofs.lemmas.Option.{slice_get_read, slice_get_past}
use Rattle.op_graph.specs.Rules.{cell_entry}
use Rattle.image_file.proofs.walk.cell_at.Goals as goal

pub returns-in-None : goal.returns-in-None
returns-in-None c = sym (ap (cell_entry c.args.k) (slice_get_past c.args.loads.now c.args.k c.in-None.ensures.lookup.3))

pub returns-in-Some : goal.returns-in-Some
returns-in-Some c =
    let loads = c.args.loads.now in
    let found = c.in-Some.ensures.lookup in
    sym (ap (cell_entry c.args.k) (slice_get_read loads (length loads) c.args.k c.in-Some.l.now refl found.3.0 found.1))
