use Rattle.std.proofs.Common.{length, refl, sym, ap}
use Rattle.std.proofs.lemmas.Option.{slice_get_read, slice_get_past}
use Rattle.op_graph.specs.Rules.{numbered}
use Rattle.image_file.proofs.walk.input_at.Goals as goal

pub returns-in-None : goal.returns-in-None
returns-in-None c = sym (ap (numbered c.args.i) (slice_get_past c.args.inputs.now c.args.i c.in-None.ensures.lookup.3))

pub returns-in-Some : goal.returns-in-Some
returns-in-Some c =
    let inputs = c.args.inputs.now in
    let found = c.in-Some.ensures.lookup in
    sym (ap (numbered c.args.i) (slice_get_read inputs (length inputs) c.args.i c.in-Some.v.now refl found.3.0 found.1))
