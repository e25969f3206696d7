use Rattle.std.proofs.Common.{◌≡◌, [], length, arith}
use Rattle.std.proofs.lemmas.Option.{get_or_from_slice_get}
use Rattle.pictures.specs.WavesElements.{name_element}
use Rattle.pictures.proofs.WavesGoing.{single_more}
use Rattle.vcp_outside.specs.Pens.{unmoved, and_then, same}
use Rattle.pictures.proofs.waves.cycles.then_names.Goals as goal

pub columns-init : goal.columns-init
columns-init g c = unmoved

pub columns-preserved : goal.columns-preserved
columns-preserved g c =
    let name = get_or_from_slice_get c.args.run.now.names c.columns.column c.name.result.now [] c.name.ensures in
    same (and_then c.columns.invariant (rw (c.top.ensures, c.bytes.ensures, ← name) at c.then_element-pen.ensures))
    (single_more (name_element c.args.run.now c.args.class.now c.args.x c.args.y) c.columns.column)

pub returns : goal.returns
returns g c =
    let all : c.columns.column ≡ length c.args.run.now.names = omega arith in
    rw all at c.columns.invariant
