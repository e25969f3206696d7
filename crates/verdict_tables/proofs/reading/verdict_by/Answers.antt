use Rattle.std.proofs.Common.{◌≡◌, ℕ, Bool, true, false, cond, None, Some, Ok, Err, ap, sym, ◌∙◌}
use Rattle.fault_injector.specs.declared.verdicts.Verdict.{Verdict}
use Rattle.verdict_tables.specs.declared.fault.VerdictsFault.TheVariants as fault
use Rattle.verdict_tables.specs.Reading.{verdict_or}
use Rattle.verdict_tables.proofs.Kept.{kept}
use Rattle.verdict_tables.proofs.reading.verdict_by.Goals as goal

-- the verdict that is meant, where its line is this one
is_told : (number : ℕ) (v : Verdict) (is : Bool) → is ≡ true → verdict_or number (cond is (Some v) None) ≡ Ok v
is_told number v is holds = ap (λ (b : Bool). verdict_or number (cond b (Some v) None)) holds

-- and none where it isn't
isn't_told : (number : ℕ) (v : Verdict) (is : Bool) → is ≡ false → verdict_or number (cond is (Some v) None) ≡ Err (fault.Verdict number)
isn't_told number v is fails = ap (λ (b : Bool). verdict_or number (cond b (Some v) None)) fails

pub returns-then-is_text-clause-ok : goal.returns-then-is_text-clause-ok
returns-then-is_text-clause-ok c =
    let same = kept c.new-told.result c.verdict_line.new.out _ c.new-told.ensures c.in-Ok.ensures.whole in
    let told = sym (rw (c.bytes.ensures, same) at c.is_text.ensures) ∙ c.if-is_text.true in
    rw (← c.meant.ensures.value, c.in-Some.is) (is_told c.args.number c.in-Some.verdict _ told)

pub returns-in-Ok-clause-refusal : goal.returns-in-Ok-clause-refusal
returns-in-Ok-clause-refusal c =
    let same = kept c.new-told.result c.verdict_line.new.out _ c.new-told.ensures c.in-Ok.ensures.whole in
    let told = sym (rw (c.bytes.ensures, same) at c.is_text.ensures) ∙ c.if-is_text.false in
    λ other. rw (← c.meant.ensures.value, c.in-Some.is) (isn't_told c.args.number c.in-Some.verdict _ told)
