use Rattle.std.proofs.Common.{[], sym, ap, ◌∙◌}
use Rattle.std.proofs.lemmas.Option.{get_or_from_slice_get}
use Rattle.op_graph.specs.Lists.{Lists}
use Rattle.coded_machine.specs.CycleEnds.{stored_words}
use Rattle.fault_injector.specs.Begun.{answers_in}
use Rattle.fault_injector.specs.References.{KeptRun}
use Rattle.fault_injector.proofs.campaign.reruns.passing.store_cycle.Goals as goal

pub returns-clause-items : goal.returns-clause-items
returns-clause-items c =
    let r : KeptRun = c.args.reference.now in
    let other = answers_in c.cycle-answers.result in
    c.store_answers.ensures.items
    ∙ (ap (λ (g : Lists). stored_words g other) c.graph.ensures
    ∙ ap (stored_words r.graph) (sym (get_or_from_slice_get r.answers c.args.n other [] c.cycle-answers.ensures)))
