use Rattle.std.proofs.Common.{sym, ◌∙◌}
use Rattle.vcp_study_core.proofs.SumWords.{behind_first, behind_name, form_named}
use Rattle.vcp_study_core.proofs.words.command_of.Goals as goal

pub named_words-requires : goal.named_words-requires
named_words-requires c =
    sym (behind_name c.args.words.now c.next.new.self c.name.new.self c.in-Some-name.name.now
    (behind_first c.args.words.now c.next.new.self c.in-Some.command.now (sym c.new-left.ensures ∙ c.in-Some.ensures.some)) c.in-Some-name.ensures)

pub returns-in-Some-name-clause-form : goal.returns-in-Some-name-clause-form
returns-in-Some-name-clause-form c =
    let form = rw c.bytes.ensures at c.named_words.ensures.form in
    form
    ∙ form_named c.args.words.now c.next.new.self c.name.new.self c.in-Some.command.now c.in-Some-name.name.now
    (sym c.new-left.ensures ∙ c.in-Some.ensures.some) c.in-Some-name.ensures
