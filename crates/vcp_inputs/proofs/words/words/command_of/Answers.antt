use Rattle.std.proofs.Common.{rules, ◌∷◌, ◌∙◌, sym, Some}
use Rattle.vcp_inputs.specs.Forms.{end_then, form}
use Rattle.vcp_inputs.proofs.FormsByFiles.{at_end, before_end, by_files}
use Rattle.vcp_inputs.proofs.Sound.{of_form}
use Rattle.vcp_inputs.proofs.words.words.command_of.Goals as goal

pub returns-in_default-named_command-clause-form : goal.returns-in_default-named_command-clause-form
returns-in_default-named_command-clause-form c =
    let is = c.in_default-named_command.ensures end_then ∙ by_files (c.bytes.result.now ∷ c.next.new.self) in
    search (rules, is)

pub returns-then-is_end-clause-form : goal.returns-then-is_end-clause-form
returns-then-is_end-clause-form c =
    let is = c.in-Some-named_command.ensures end_then ∙ by_files (c.bytes.result.now ∷ c.next.new.self) in
    let said = at_end (form c.in-Some-named_command.command) c.named_command.new.words _ is (sym c.is_end.ensures ∙ c.if-is_end.true) in
    search (rules, said)

pub returns-then-is_end-clause-sound : goal.returns-then-is_end-clause-sound
returns-then-is_end-clause-sound c =
    let is = c.in-Some-named_command.ensures end_then ∙ by_files (c.bytes.result.now ∷ c.next.new.self) in
    of_form form (Some c.in-Some-named_command.command) (c.bytes.result.now ∷ c.next.new.self)
    (at_end (form c.in-Some-named_command.command) c.named_command.new.words _ is (sym c.is_end.ensures ∙ c.if-is_end.true))

pub returns-else-is_end-clause-form : goal.returns-else-is_end-clause-form
returns-else-is_end-clause-form c =
    let is = c.in-Some-named_command.ensures end_then ∙ by_files (c.bytes.result.now ∷ c.next.new.self) in
    let said = before_end (form c.in-Some-named_command.command) c.named_command.new.words _ is (sym c.is_end.ensures ∙ c.if-is_end.false) in
    search (rules, said)
