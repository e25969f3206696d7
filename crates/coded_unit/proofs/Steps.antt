-- The right answer to a call whose operands carry signatures, the stamp and differences.
use Rattle.std.proofs.Common.{◌≡◌, pos, ◌+ℤ◌, ◌-ℤ◌, ◌*ℤ◌, ap, ◌∙◌, arith}
use Rattle.std.proofs.lemmas.Int.{ints}
use Rattle.vcp_base.specs.Kinds.{multiplier, outcome}
use Rattle.coded_unit.specs.declared.call.Call.{Call}
use Rattle.coded_unit.specs.Words.{modulo, value_part}
use Rattle.coded_unit.specs.Right.{residue, residue_of, answer_of, Right}
use Rattle.coded_unit.specs.Step.{Carries, StepLaw, ExchangedLaw, weighed}
use Rattle.coded_unit.proofs.Modular.{modulo_below, modulo_coded, value_part_coded, residues_cancel}

-- the right answer keeps the step law
pub right_steps : (call : Call) → StepLaw call (Right call)
right_steps call s e f g d h k v w x carries =
    let q = call.profile in
    let kind = call.kind in
    let p = pos call.stamp in
    let va : value_part q call.a ≡ v = ap (value_part q) carries.first ∙ value_part_coded q v _ (modulo_below q _) in
    let vb : value_part q call.b ≡ w = ap (value_part q) carries.second ∙ value_part_coded q w _ (modulo_below q _) in
    let vc : value_part q call.c ≡ x = ap (value_part q) carries.third ∙ value_part_coded q x _ (modulo_below q _) in
    let ra : modulo q call.a ≡ modulo q (e +ℤ p +ℤ d) = ap (modulo q) carries.first ∙ modulo_coded q v _ (modulo_below q _) in
    let rb : modulo q call.b ≡ modulo q (f +ℤ p +ℤ h) = ap (modulo q) carries.second ∙ modulo_coded q w _ (modulo_below q _) in
    let rc : modulo q call.c ≡ modulo q (g +ℤ p +ℤ k) = ap (modulo q) carries.third ∙ modulo_coded q x _ (modulo_below q _) in
    let same_residue : residue_of call ≡ modulo q (s +ℤ p +ℤ (multiplier kind 0 *ℤ d +ℤ multiplier kind 1 *ℤ h +ℤ multiplier kind 2 *ℤ k)) =
    ap (λ y. residue q kind y (modulo q call.b) (modulo q call.c) call.corr call.stamp) ra
    ∙ ap (λ y. residue q kind (modulo q (e +ℤ p +ℤ d)) y (modulo q call.c) call.corr call.stamp) rb
    ∙ ap (λ y. residue q kind (modulo q (e +ℤ p +ℤ d)) (modulo q (f +ℤ p +ℤ h)) y call.corr call.stamp) rc
    ∙ ap (λ y. residue q kind (modulo q (e +ℤ p +ℤ d)) (modulo q (f +ℤ p +ℤ h)) (modulo q (g +ℤ p +ℤ k)) y call.stamp) carries.correction
    ∙ residues_cancel q (multiplier kind 0) (multiplier kind 1) (multiplier kind 2) e f g d h k s p in
    let gives = outcome kind call.from call.ty call.imm in
    ap (λ y. answer_of q (gives y (value_part q call.b) (value_part q call.c)) (residue_of call)) va
    ∙ ap (λ y. answer_of q (gives v y (value_part q call.c)) (residue_of call)) vb
    ∙ ap (λ y. answer_of q (gives v w y) (residue_of call)) vc
    ∙ ap (answer_of q (gives v w x)) same_residue

-- and it keeps it for another kind than was meant: the correction is then the one for a signature that differs
pub exchanged_steps : (call : Call) → ExchangedLaw call (Right call)
exchanged_steps call meant s e f g d h k v w x carries =
    let q = call.profile in
    let kind = call.kind in
    let more = weighed kind e f g -ℤ weighed meant e f g in
    let here : Carries call kind (s +ℤ more) e f g d h k v w x = record {
      first = carries.first;
      second = carries.second;
      third = carries.third;
      correction = carries.correction ∙ ap (modulo q) (omega (arith, ints));
    } in
    right_steps call (s +ℤ more) e f g d h k v w x here
    ∙ ap (λ z. answer_of q (outcome kind call.from call.ty call.imm v w x) (modulo q z)) (omega (arith, ints))
