use Rattle.std.proofs.Common.{◌≡◌, ◌++◌, length, codes, decimal, flat_map, append_assoc, sym, ◌∙◌, add-one, arith}
use Rattle.fault_script.specs.Groups.{GroupFits, line_of}
use Rattle.verdict_tables.specs.Parts.{mark_text}
use Rattle.verdict_tables.specs.SumText.{fault_text}
use Rattle.verdict_tables.proofs.Going.{chosen, not_chosen}
use Rattle.verdict_tables.proofs.Picking.{at_place}
use Rattle.vcp_outside.specs.Pens.{unmoved, and_then, same}
use Rattle.verdict_tables.proofs.standing.then_standing_in.Goals as goal

pub groups-init : goal.groups-init
groups-init g c = unmoved

pub then_group-requires : goal.then_group-requires
then_group-requires g c =
    (at_place (GroupFits c.args.graph.now) c.args.part.now.script c.groups.i c.at-group.result.now c.at-group.ensures c.requires.fits.fits).some

pub groups-preserved : goal.groups-preserved
groups-preserved g c =
    let group = c.at-group.result.now in
    let faults = flat_map (fault_text c.args.graph.now) group in
    let told = same (and_then c.then_group.ensures (and_then c.text-pen.ensures c.then_faults-pen.ensures))
    (sym (append_assoc (mark_text c.args.mark) (decimal (line_of group)) (codes " stands in a cell\n" ++ faults))) in
    rw (add-one c.groups.i, c.at-group.ensures, c.at.ensures)
    (and_then c.groups.invariant (chosen _ _ _ (sym c.is_ended.ensures ∙ c.if-not-is_ended.false) told))

pub groups-preserved-then-not-is_ended : goal.groups-preserved-then-not-is_ended
groups-preserved-then-not-is_ended g c =
    rw (add-one c.groups.i, c.at-group.ensures, c.at.ensures)
    (and_then c.groups.invariant (not_chosen _ _ (sym c.is_ended.ensures ∙ c.if-not-is_ended.true)))

pub returns : goal.returns
returns g c =
    let all : c.groups.i ≡ length c.args.endings.now = omega (arith, c.groups-test.false, c.groups.auto.i-end, c.len-i-end.ensures) in
    rw all at c.groups.invariant
