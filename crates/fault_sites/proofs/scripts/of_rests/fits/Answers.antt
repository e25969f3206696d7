use Rattle.std.proofs.Common.{ap, ◌∙◌}
use Rattle.fault_script.specs.ScriptOf.{most_faults}
use Rattle.fault_sites.specs.declared.budget.Budget.{Budget}
use Rattle.fault_sites.specs.Rests.{groups}
use Rattle.fault_sites.specs.Spending.{behind, has_begun}
use Rattle.fault_sites.proofs.GroupsFit.{groups_some}
use Rattle.fault_sites.proofs.Spending.{begun_tells}
use Rattle.fault_sites.proofs.scripts.of_rests.fits.Goals as goal

pub returns : goal.returns
returns c =
    let gs = groups c.args.graph.now c.args.cycles in
    c.has_begun.ensures
    ∙ (ap (λ (b : Budget). has_begun most_faults c.args.part.left b) (c.then_rests.ensures.left ∙ ap (λ (b : Budget). behind b gs) c.budget_of-budget.ensures)
    ∙ begun_tells c.args.part.skip c.args.part.left most_faults gs
    (groups_some c.args.graph.now c.args.cycles c.entries_keep_their_rules.ensures c.len-operations.ensures.rules.part c.requires.few))
