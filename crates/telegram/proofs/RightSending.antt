-- RightSending: the right answer to the call of a sending, and what a unit's count says of its answer.
use Rattle.std.proofs.Common.{refl, ℕ, ◌≡◌, ◌<◌, ◌≤◌, ◌+◌, ◌-◌, ◌^◌, nat_lt, Bool, true, false, cond, Ok, Err, ℤ, pos, ◌+ℤ◌, ◌*ℤ◌, ap, ◌∙◌, inl, inr, arith}
use Rattle.std.proofs.lemmas.Bool.{lt-ltb, ltb-true, ltb-false}
use Rattle.std.proofs.lemmas.Int.{ints}
use Rattle.vcp_base.specs.declared.code.Profile.TheVariants as profile
use Rattle.vcp_base.specs.declared.kind.StopKind.TheVariants as stop
use Rattle.vcp_base.specs.declared.ty.Ty.TheVariants as ty
use Rattle.vcp_base.specs.Code.{modulus}
use Rattle.vcp_base.specs.Types.{fits}
use Rattle.vcp_outside.specs.Counts.{Rose}
use Rattle.coded_unit.specs.declared.call.Answer.{Answer}
use Rattle.coded_unit.specs.declared.call.Answer.TheVariants as answer
use Rattle.coded_unit.specs.Log.{Counts, one_more}
use Rattle.coded_unit.specs.Right.{Right, answer_of, residue_of}
use Rattle.coded_unit.specs.Words.{modulo, coded}
use Rattle.coded_unit.specs.WordLaws.{WordLaws}
use Rattle.signature_table.specs.Signatures.{signature, stamp}
use Rattle.telegram.specs.Sendings.{send_call, telegram_residue, telegram_word, IsNoWord}

-- a CONST has no operands: its residue is the signature and the stamp
pub right_sending : (laws : WordLaws profile.Narrow) (id seed step n : ℕ) (v : ℤ) → fits ty.Dint v ≡ true
    → telegram_residue id seed step n < modulus profile.Narrow → Right (send_call id seed step n v) ≡ answer.Word (telegram_word id seed step n v)
right_sending laws id seed step n v fit below =
    let p = profile.Narrow in
    let b = signature p seed id in
    let d = stamp step n in
    let zero = modulo p (pos 0) in
    let r = residue_of (send_call id seed step n v) in
    let sum : pos 0 *ℤ pos zero +ℤ pos 0 *ℤ pos zero +ℤ pos 0 *ℤ pos zero +ℤ pos b +ℤ pos 1 *ℤ pos d ≡ pos (b + d) = omega (arith, ints) in
    let same : r ≡ b + d = ap (modulo p) sum ∙ laws.small (b + d) below in
    ap (λ (t : Bool). answer_of p (cond t (Ok v) (Err stop.Range)) r) fit ∙ ap (λ (s : ℕ). answer.Word (coded p v s)) same

one_more_below : (n : ℕ) → n < 2 ^ 64 - 1 → one_more n ≡ n + 1
one_more_below n small = ap (λ (t : Bool). cond t (n + 1) n) (lt-ltb n (2 ^ 64 - 1) small)

-- where the count stays, below its last value, the answer is the right one
pub honest_answer : (given right : Answer) (before now : ℕ) → Counts given right before now → now ≡ before → before < 2 ^ 64 - 1 → given ≡ right
honest_answer given right before now (inl h) same small = h.0
honest_answer given right before now (inr h) same small =
    let more : one_more before ≡ before + 1 = one_more_below before small in
    let here : now ≡ one_more before = h.1 in
    absurd (omega arith)

counted_rose : (before : ℕ) (t : Bool) → (t ≡ true → before < 2 ^ 64 - 1) → (t ≡ false → 2 ^ 64 - 1 ≤ before) → Rose before (cond t (before + 1) before)
counted_rose before true below above = omega arith
counted_rose before false below above =
    let most = above refl in
    omega arith

-- an answer that isn't the right one, which is a word, has the count rise
pub failed_rose : (given right : Answer) (w : ℤ) (before now : ℕ) → right ≡ answer.Word w → Counts given right before now → IsNoWord given → Rose before now
failed_rose given right w before now word (inl h) none = absurd (none w (h.0 ∙ word))
failed_rose given right w before now word (inr h) none =
    let rose : Rose before (one_more before) =
    counted_rose before (nat_lt before (2 ^ 64 - 1)) (λ t. ltb-true before (2 ^ 64 - 1) t) (λ t. ltb-false before (2 ^ 64 - 1) t) in
    let here : now ≡ one_more before = h.1 in
    omega (arith, here, rose)
