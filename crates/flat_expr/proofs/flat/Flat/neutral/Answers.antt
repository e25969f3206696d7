use Rattle.std.proofs.Common.{◌≡◌, rules, None, sym, ◌∙◌, subst, w64}
use Rattle.std.specs.Prelude.{FitsSigned, IfErr}
use Rattle.std.proofs.lemmas.Int.{to_z-of_z}
use Rattle.std.proofs.lemmas.Result.{err_from_is_err_and}
use Rattle.flat_expr.specs.State.{Refuses, neutral_place}
use Rattle.flat_expr.proofs.Operators.{made_neutral, neutral_there, neutral_new, neutral_pushed, neutral_room}
use Rattle.flat_expr.proofs.Refusals.{constant_refuses}
use Rattle.flat_expr.proofs.flat.Flat.neutral.Goals as goal

pub returns-in-Some-clause-made : goal.returns-in-Some-clause-made
returns-in-Some-clause-made c =
    neutral_there c.args.self.now c.args.one c.in-Some.k c.neutral_there.ensures.state (sym c.neutral_there.ensures.place ∙ c.in-Some.is)

pub keep_neutral-requires : goal.keep_neutral-requires
keep_neutral-requires c =
    let fits : FitsSigned w64 c.neutral_number.result = search rules in
    let number = to_z-of_z w64 c.neutral_number.result fits ∙ c.neutral_number.ensures.is in
    (made_neutral c.args.self.now c.push.new.self c.args.one _ c.in_ok-k.k number c.in_ok-k.ensures.ok).place

pub returns-clause-made : goal.returns-clause-made
returns-clause-made c =
    let fits : FitsSigned w64 c.neutral_number.result = search rules in
    let number = to_z-of_z w64 c.neutral_number.result fits ∙ c.neutral_number.ensures.is in
    let none : neutral_place c.args.self.now c.args.one ≡ None = sym c.neutral_there.ensures.place ∙ c.in_default.is in
    let none_now : neutral_place c.push.new.self c.args.one ≡ None =
    neutral_pushed c.args.self.now c.push.new.self _ c.args.one c.in_ok-k.k c.in_ok-k.ensures.ok ∙ none in
    rw c.keep_neutral.ensures
    (neutral_new c.args.self.now c.push.new.self c.args.one c.in_ok-k.k none none_now
    (made_neutral c.args.self.now c.push.new.self c.args.one _ c.in_ok-k.k number c.in_ok-k.ensures.ok))

pub returns-in_err-k-clause-refuses : goal.returns-in_err-k-clause-refuses
returns-in_err-k-clause-refuses c =
    let none : neutral_place c.args.self.now c.args.one ≡ None = sym c.neutral_there.ensures.place ∙ c.in_default.is in
    let q = err_from_is_err_and c.from_residual.result c.from_residual.ensures.1 in
    let h = constant_refuses c.args.self.now c.push.new.self c.push.result c.neutral_there.ensures.state
    (neutral_room c.args.self.now c.args.one none) c.push.ensures.err c.push.ensures.full in
    rw (q.1, q.2) (subst (λ r. IfErr r (λ e. Refuses c.args.self.now c.push.new.self 0 e)) c.in_err-k.was h)
