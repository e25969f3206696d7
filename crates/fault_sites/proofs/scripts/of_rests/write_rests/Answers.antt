use Rattle.std.proofs.Common.{◌≡◌, List, ◌++◌, codes, ap, sym, ◌∙◌, rules}
use Rattle.fault_script.specs.ScriptOf.{most_faults}
use Rattle.fault_sites.specs.declared.budget.Budget.{Budget}
use Rattle.fault_sites.specs.declared.site.Site.{Site}
use Rattle.fault_sites.specs.Rests.{fitting, groups, groups_text, kept_groups}
use Rattle.fault_sites.specs.Spending.{fed_groups, within}
use Rattle.fault_sites.proofs.Ended.{ended_lines, groups_ended}
use Rattle.fault_sites.proofs.Spending.{within_part}
use Rattle.vcp_outside.specs.Pens.{ended}
use Rattle.fault_sites.proofs.scripts.of_rests.write_rests.Goals as goal

pub returns : goal.returns
returns g c =
    let p = c.args.part in
    let gs : List (List Site) = groups c.args.graph.now c.args.cycles in
    let fit : List (List Site) = fitting most_faults (kept_groups p gs) in
    let is : within c.budget_of.result gs ≡ fit = ap (λ (b : Budget). within b gs) c.budget_of.ensures ∙ within_part p.skip p.left most_faults gs in
    let remark = c.then_remark-pen.ensures _ _ _ c.new.ensures in
    let told = c.then_within.ensures _ _ _ remark in
    ended g.O.Sink.seen (search rules) told c.end.ensures
    (ended_lines (codes "rest") c.args.digest.now (fed_groups fit) (groups_text fit) (groups_ended fit)
    ∙ ap (λ (hs : List (List Site)). (codes "# sites rest of " ++ c.args.digest.now) ++ fed_groups hs ++ codes "\n") (sym is))
