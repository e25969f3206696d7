-- Failing: what is written where the outputs of a released cycle couldn't all be written.
use Rattle.std.proofs.Common.{ℕ, ◌≡◌, ◌∙◌, sym, subst, List, [], ◌∷◌, ℤ, append-nil, Option, Result, Ok, Err, OnOk, refl}
use Rattle.std.specs.Result.{IsErr}
use Rattle.vcp_outside.specs.declared.failed.Failed.{Failed}
use Rattle.vcp_outside.specs.Written.{Writes}
use Rattle.coded_machine.specs.declared.cycle_end.CycleEnd.{CycleEnd}
use Rattle.coded_machine.specs.declared.cycle_end.CycleEnd.TheVariants as end
use Rattle.coded_machine.specs.Runs.{row_if}
use Rattle.coded_machine.specs.Cycles.{cycle_end}
use Rattle.coded_machine.specs.RowRuns.{texts_from}

pub failed_row : (text : ℕ → List ℤ
    → List ℕ) (n : ℕ) (row : List ℤ) (old new : Option (List ℕ)) (before now : ℕ) (bytes : List ℕ) (e : Failed) (q : Result CycleEnd Failed) →
    IsErr q → bytes ≡ text n row → Writes {T = Unit {0}} old new before now bytes (Err e) → Writes old new before now
    (texts_from text n (row_if (cycle_end q) row)) q
failed_row text n row old new before now bytes e (Ok x) failed is h = absurd cc
failed_row text n row old new before now bytes e (Err f) failed is h =
    let k : Writes {T = Unit {0}} {E = Failed} old new before now (texts_from text n (row ∷ [])) (Err e) =
    subst (λ b. Writes {T = Unit {0}} {E = Failed} old new before now b (Err e)) (is ∙ sym (append-nil (text n row))) h in
    record { whole = tt; part = k.part; cause = record { later = k.cause.later; capped = k.cause.capped; stayed = tt; failed = k.cause.failed } }

-- what is written where they could
pub released_row : (text : ℕ → List ℤ → List ℕ) (n : ℕ) (row : List ℤ) {old new : Option (List ℕ)} {before now : ℕ} {bytes : List ℕ}
    {r : Result (Unit {0}) Failed} → r ≡ Ok tt → bytes ≡ text n row → Writes old new before now bytes r
    → Writes {T = CycleEnd} {E = Failed} old new before now (texts_from text n (row ∷ [])) (Ok end.Released)
released_row text n row {old = old} {new = new} {before = before} {now = now} {bytes = bytes} done is h =
    let whole : Writes {T = Unit {0}} {E = Failed} old new before now bytes (Ok tt) =
    subst (λ q. Writes {T = Unit {0}} {E = Failed} old new before now bytes q) done h in
    let k : Writes {T = Unit {0}} {E = Failed} old new before now (texts_from text n (row ∷ [])) (Ok tt) =
    subst (λ b. Writes {T = Unit {0}} {E = Failed} old new before now b (Ok tt)) (is ∙ sym (append-nil (text n row))) whole in
    record { whole = k.whole; part = tt; cause = record { later = k.cause.later; capped = k.cause.capped; stayed = k.cause.stayed; failed = tt } }

pub failed_released : (q : Result CycleEnd Failed) → IsErr q → cycle_end q ≡ end.Released
failed_released (Ok e) failed = absurd cc
failed_released (Err f) failed = refl

pub failed_keeps : (q : Result CycleEnd Failed) → IsErr q → (P : Type 0) → OnOk q P
failed_keeps (Ok e) failed P = absurd cc
failed_keeps (Err f) failed P = tt
