use Rattle.std.proofs.Common.{◌≡◌, ℕ, List, ◌++◌, length, codes, append_assoc, sym, ◌∙◌, add-one, arith}
use Rattle.fault_script.specs.Groups.{GroupFits}
use Rattle.fault_injector.specs.Names.{Names}
use Rattle.verdict_tables.proofs.Going.{chosen, not_chosen}
use Rattle.verdict_tables.proofs.Picking.{at_place}
use Rattle.vcp_outside.specs.Pens.{unmoved, and_then, same}
use Rattle.verdict_tables.proofs.unseen.then_unseen_in.Goals as goal

pieces : (mark number shows faults : List ℕ)
    → mark ++ ((number ++ (codes " " ++ (shows ++ codes "\n"))) ++ faults) ≡ (mark ++ number) ++ (codes " " ++ (shows ++ (codes "\n" ++ faults)))
pieces mark number shows faults = simp append_assoc

pub groups-init : goal.groups-init
groups-init g c = unmoved

pub then_group-requires : goal.then_group-requires
then_group-requires g c =
    (at_place (GroupFits c.args.graph.now) c.args.part.now.script c.groups.i c.at-group.result.now c.at-group.ensures c.requires.fits.fits).some

pub then_verdict-requires : goal.then_verdict-requires
then_verdict-requires g c =
    at_place (Names (length c.args.graph.now.outputs) (length c.args.graph.now.operations)) c.args.part.now.verdicts c.groups.i c.at-verdict.result
    c.at-verdict.ensures c.requires.fits.names

pub groups-preserved : goal.groups-preserved
groups-preserved g c =
    let last = and_then c.then_verdict.ensures (and_then c.text-pen-in-groups.ensures c.then_faults-pen.ensures) in
    let judged = same (and_then c.then_group.ensures (and_then c.text-pen.ensures last)) (pieces _ _ _ _) in
    rw (add-one c.groups.i, c.at-group.ensures, c.at-verdict.ensures)
    (and_then c.groups.invariant (chosen _ _ _ (sym c.is_unseen.ensures ∙ c.if-not-is_unseen.false) judged))

pub groups-preserved-then-not-is_unseen : goal.groups-preserved-then-not-is_unseen
groups-preserved-then-not-is_unseen g c =
    rw (add-one c.groups.i, c.at-group.ensures, c.at-verdict.ensures)
    (and_then c.groups.invariant (not_chosen _ _ (sym c.is_unseen.ensures ∙ c.if-not-is_unseen.true)))

pub returns : goal.returns
returns g c =
    let all : c.groups.i ≡ length c.args.part.now.verdicts = omega (arith, c.groups-test.false, c.groups.auto.i-end, c.len-i-end.ensures) in
    rw all at c.groups.invariant
