use Rattle.std.proofs.Common.{◌≡◌, ◌∙◌, ◌≤◌, ◌+◌, Some, length, sym, subst, ℤ, to_z, of_z, arith, rules, append_assoc}
use mir.Val.{SFits}
use Rattle.std.proofs.Math.Facts as facts
use mir.Syntax.{w64}
use Rattle.std.proofs.lemmas.Int.{to_z-of_z}
use Rattle.std.specs.Fmt.{signed_decimal}
use Rattle.vcp_outside.specs.Gathering.{EndsAt}
use Rattle.run_report.proofs.Digits.{behind_a_byte}
use Rattle.run_report.proofs.lines.then_cell.Goals as goal

same_value : (x y : ℤ) → Some x ≡ Some y → x ≡ y
same_value x y e = cc

pub returns-clause-digits : goal.returns-clause-digits
returns-clause-digits g c = λ value there.
    let before = c.args.line.now.pending in
    let after = c.value.new.self.pending in
    let same : to_z w64 (of_z w64 c.at.result) ≡ c.at.result = grind (arith, to_z-of_z) in
    subst (λ v. length before + 1 + length (signed_decimal v) ≤ 256 → EndsAt after (length before + 1) (signed_decimal v))
    (same ∙ same_value c.at.result value (sym c.at.ensures ∙ there))
    (behind_a_byte c.args.line.now c.mark.new.self c.value.new.self _ _ c.mark.ensures.kept c.value.ensures.kept)

pub returns-clause-gathers : goal.returns-clause-gathers
returns-clause-gathers g c = λ value there start before text is.
    let fits : SFits w64 c.at.result = search rules in
    let same = same_value c.at.result value (sym c.at.ensures ∙ there) in
    let all = rw (facts.to_z-of_z {w = w64} {z = c.at.result} fits, same) at (c.value.ensures.gathers _ _ _ (c.mark.ensures.gathers start before text is)) in
    simp append_assoc at all
