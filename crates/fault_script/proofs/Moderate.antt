-- Moderate: what a line adds is at most 2^62 in size.
use Rattle.std.proofs.Common.{◌≡◌, ℕ, Bool, true, false, cond, List, [], ◌∷◌, codes, bytes_eq, Option, Some, None, option_and_then, refl, ℤ}
use Rattle.std.specs.Prelude.{IfSome, option_map}
use Rattle.vcp_base.specs.declared.kind.Kind.{Kind}
use Rattle.vcp_base.specs.Numerals.{integer_of}
use Rattle.vcp_base.specs.Words.{is_end, only}
use Rattle.vcp_base.specs.Integers.{is_addend}
use Rattle.fault_script.specs.declared.act.Act.{Act}
use Rattle.fault_script.specs.declared.act.Act.TheVariants as act
use Rattle.fault_script.specs.Fits.{is_moderate}
use Rattle.fault_script.specs.Forms.{act_of, addend_of, index_of, kind_of, operand_act, operand_change, result_act}

abbrev pub IsModerate : Option Act → Type 0
IsModerate o = IfSome o (λ a. is_moderate a ≡ true)

-- ---- the number that is added

tested : (e : ℤ) (b : Bool) → is_addend e ≡ b → IfSome (cond b (Some e) None) (λ e. is_addend e ≡ true)
tested e true is = is
tested e false is = tt

of_integer : (o : Option ℤ) → IfSome (option_and_then (λ e. cond (is_addend e) (Some e) None) o) (λ e. is_addend e ≡ true)
of_integer None = tt
of_integer (Some e) = tested e (is_addend e) refl

of_word : (o : Option (List ℕ)) → IfSome (option_and_then addend_of o) (λ e. is_addend e ≡ true)
of_word None = tt
of_word (Some w) = of_integer (integer_of w)

-- ---- the acts

either : (b : Bool) (x y : Option Act) → IsModerate x → IsModerate y → IsModerate (cond b x y)
either true x y p q = p
either false x y p q = q

added : (j : ℕ) (o : Option ℤ) → IfSome o (λ e. is_addend e ≡ true) → IsModerate (option_map (λ e. act.OperandAdd j e) o)
added j None h = tt
added j (Some e) h = h

read : (j : ℕ) (o : Option ℕ) → IsModerate (option_map (λ r. act.OperandFrom j r) o)
read j None = tt
read j (Some r) = refl

given : (o : Option ℤ) → IfSome o (λ e. is_addend e ≡ true) → IsModerate (option_map (λ e. act.ResultAdd e) o)
given None h = tt
given (Some e) h = h

operated : (o : Option Kind) → IsModerate (option_map (λ k. act.Operator k) o)
operated None = tt
operated (Some k) = refl

changed : (j : ℕ) (how : List ℕ) (more : List (List ℕ)) → IsModerate (operand_change j how more)
changed j how more =
    either (bytes_eq how (codes "add")) _ _ (added j (option_and_then addend_of (only more)) (of_word (only more)))
    (either (bytes_eq how (codes "from")) _ _ (read j (option_and_then index_of (only more)))
    (either (bytes_eq how (codes "stale")) _ _ (either (is_end more) (Some (act.OperandStale j)) None refl tt) tt))

changed_at : (how : List ℕ) (more : List (List ℕ)) (o : Option ℕ) → IsModerate (option_and_then (λ j. operand_change j how more) o)
changed_at how more None = tt
changed_at how more (Some j) = changed j how more

operand : (more : List (List ℕ)) → IsModerate (operand_act more)
operand [] = tt
operand (j ∷ []) = tt
operand (j ∷ how ∷ more) = changed_at how more (index_of j)

result : (more : List (List ℕ)) → IsModerate (result_act more)
result [] = tt
result (how ∷ more) = either (bytes_eq how (codes "add")) _ _ (given (option_and_then addend_of (only more)) (of_word (only more))) tt

pub moderate_act : (verb : List ℕ) (more : List (List ℕ)) → IsModerate (act_of verb more)
moderate_act verb more =
    either (bytes_eq verb (codes "operand")) _ _ (operand more)
    (either (bytes_eq verb (codes "result")) _ _ (result more)
    (either (bytes_eq verb (codes "operator")) _ _ (operated (option_and_then kind_of (only more)))
    (either (bytes_eq verb (codes "skip")) _ _ (either (is_end more) (Some act.Skip) None refl tt) tt)))
