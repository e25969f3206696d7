-- Step: the answer to a call whose operands carry signatures, the stamp and differences.
use Rattle.std.specs.Prelude.{◌≡◌, ℤ, pos, ◌+ℤ◌, ◌-ℤ◌, ◌*ℤ◌}
use Rattle.vcp_base.specs.declared.kind.Kind.{Kind}
use Rattle.vcp_base.specs.Kinds.{multiplier, outcome}
use Rattle.coded_unit.specs.declared.call.Call.{Call}
use Rattle.coded_unit.specs.declared.call.Answer.{Answer}
use Rattle.coded_unit.specs.Words.{modulo, coded}
use Rattle.coded_unit.specs.Right.{answer_of}

-- the sum of what three operands have, each times its multiplier
abbrev pub weighed : Kind → ℤ → ℤ → ℤ → ℤ
weighed kind d h k = multiplier kind 0 *ℤ d +ℤ multiplier kind 1 *ℤ h +ℤ multiplier kind 2 *ℤ k

-- The operands have the values v, w, x, the signatures e, f, g, the call's stamp and the differences d, h, k;
-- the correction is the one by which operands of these signatures give an answer of the signature s to an operation of
-- the kind `meant`.
pub record Carries (call : Call) (meant : Kind) (s e f g d h k v w x : ℤ) : Type 0 where
  pub first : call.a ≡ coded call.profile v (modulo call.profile (e +ℤ pos call.stamp +ℤ d))
  pub second : call.b ≡ coded call.profile w (modulo call.profile (f +ℤ pos call.stamp +ℤ h))
  pub third : call.c ≡ coded call.profile x (modulo call.profile (g +ℤ pos call.stamp +ℤ k))
  pub correction : call.corr ≡ modulo call.profile (s -ℤ multiplier meant 0 *ℤ e -ℤ multiplier meant 1 *ℤ f -ℤ multiplier meant 2 *ℤ g)

-- The answer tells the outcome of the kind at the operands' values, and a word of it has the signature s, the
-- call's stamp, and as difference the operands' differences, each times its multiplier.
abbrev pub StepLaw : Call → Answer → Type 0
StepLaw call given =
    (s e f g d h k v w x : ℤ) → Carries call call.kind s e f g d h k v w x →
    given ≡ answer_of call.profile (outcome call.kind call.from call.ty call.imm v w x)
    (modulo call.profile (s +ℤ pos call.stamp +ℤ weighed call.kind d h k))

-- The same where another kind is carried out than was meant: by so much as the two weigh the operands' signatures
-- differently, the difference is greater.
abbrev pub ExchangedLaw : Call → Answer → Type 0
ExchangedLaw call given =
    (meant : Kind) (s e f g d h k v w x : ℤ) → Carries call meant s e f g d h k v w x →
    given ≡ answer_of call.profile (outcome call.kind call.from call.ty call.imm v w x)
    (modulo call.profile (s +ℤ pos call.stamp +ℤ (weighed call.kind d h k +ℤ (weighed call.kind e f g -ℤ weighed meant e f g))))
