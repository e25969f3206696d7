use Rattle.std.proofs.Common.{◌≡◌, ◌<◌, [], rules, arith, length, take, slice_index_or, w64}
use mir.Val.{SFits}
use Rattle.std.proofs.Math.Facts.{to_z-of_z}
use Rattle.std.proofs.lemmas.List.{append-nil, take_all}
use Rattle.std.proofs.lemmas.List.Folds.{flat_map-map}
use Rattle.std.proofs.lemmas.Option.{get_or_from_slice_get}
use Rattle.vcp_base.specs.Stops.{told_turn}
use Rattle.run_report.specs.Lines.{turn_text}
use Rattle.run_report.proofs.Texts.{all_at, flat_map-next}
use Rattle.run_report.proofs.lines.then_turns.Goals as goal

pub turns-init : goal.turns-init
turns-init g c sink name text is = rw append-nil is

pub turns-preserved : goal.turns-preserved
turns-preserved g c sink name text is =
    let fits : SFits w64 c.at-turn.result.value = search rules in
    let named : slice_index_or c.args.names.now c.at-turn.result.name [] ≡ c.at.result.now =
    get_or_from_slice_get c.args.names.now c.at-turn.result.name c.at.result.now [] c.at.ensures in
    let is = c.then_turn-pen.ensures sink name _ (c.turns.invariant sink name text is) in
    rw (flat_map-next (λ t. turn_text (told_turn c.args.names.now t)) text c.args.turns.now c.turns.i c.at-turn.result c.at-turn.ensures, named)
    (rw (to_z-of_z {w = w64} {z = c.at-turn.result.value} fits) at is)

pub returns : goal.returns
returns g c sink name text is =
    let whole : take c.turns.i c.args.turns.now ≡ c.args.turns.now = take_all c.turns.i c.args.turns.now (omega arith) in
    rw (flat_map-map turn_text (told_turn c.args.names.now) c.args.turns.now) (rw whole at (c.turns.invariant sink name text is))

pub at-requires : goal.at-requires
at-requires g c = all_at (λ t. t.name < length c.args.names.now) c.args.turns.now c.turns.i c.at-turn.result c.at-turn.ensures c.requires
