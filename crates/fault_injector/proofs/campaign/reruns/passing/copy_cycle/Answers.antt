use Rattle.std.proofs.Common.{[], sym, ◌∙◌}
use Rattle.std.proofs.Math.Nat.{le_trans}
use Rattle.std.proofs.lemmas.Option.{get_or_from_slice_get}
use Rattle.fault_injector.specs.Begun.{answers_in}
use Rattle.fault_injector.specs.References.{KeptRun}
use Rattle.fault_injector.proofs.KeptAnswers.{whole_few}
use Rattle.fault_injector.proofs.PassedOver.{whole_there}
use Rattle.fault_injector.proofs.campaign.reruns.passing.copy_cycle.Goals as goal

pub copy_answers-requires : goal.copy_answers-requires
copy_answers-requires c =
    let r : KeptRun = c.args.reference.now in
    let other = answers_in c.cycle-answers.result in
    let few =
    whole_few r.graph.operations other
    (whole_there r.graph r.table 0 r.rows r.answers c.args.n other c.cycles-sound.ensures.sound.5 c.cycle-answers.ensures) in
    le_trans few c.requires.room

pub returns-clause-items : goal.returns-clause-items
returns-clause-items c =
    let r : KeptRun = c.args.reference.now in
    c.copy_answers.ensures.items ∙ sym (get_or_from_slice_get r.answers c.args.n (answers_in c.cycle-answers.result) [] c.cycle-answers.ensures)
