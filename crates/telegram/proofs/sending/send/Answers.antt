use Rattle.std.proofs.Common.{rules, ap, ◌∙◌, ◌≡◌, ℤ, arith, to_z, of_z, to_z-of_z, w64}
use Rattle.coded_unit.specs.declared.call.Answer.TheVariants as answer
use Rattle.coded_unit.specs.Right.{Right}
use Rattle.telegram.specs.Sendings.{telegram_word}
use Rattle.telegram.proofs.RightSending.{honest_answer, failed_rose}
use Rattle.telegram.proofs.sending.send.Goals as goal

pub returns-clause-honest : goal.returns-clause-honest
returns-clause-honest g c = λ same small.
    let value : to_z w64 (of_z w64 c.args.value) ≡ c.args.value = grind (arith, to_z-of_z) in
    honest_answer _ _ _ _ c.perform.ensures.wrong same small
    ∙ (ap Right c.call_of-call.ensures.call
    ∙ (c.call_of-call.ensures.right ∙ ap (λ (v : ℤ). answer.Word (telegram_word c.args.id c.args.seed c.args.step c.args.number v)) value))

pub returns-clause-failed : goal.returns-clause-failed
returns-clause-failed g c = λ none.
    failed_rose _ _ _ _ _ (ap Right c.call_of-call.ensures.call ∙ c.call_of-call.ensures.right) c.perform.ensures.wrong none

pub call_of-call-requires : goal.call_of-call-requires
call_of-call-requires g c = search rules
