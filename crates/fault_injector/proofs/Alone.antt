-- Alone: a group that is judged alone, behind a run without faults of its own.
use Rattle.std.proofs.Common.{◌≡◌, ℕ, ◌<◌, ◌≤◌, ◌-◌, ◌^◌, List, [], ◌∷◌, ℤ, Result, Ok, Err, IfOk, refl, sym, subst, ◌∙◌, arith}
use Rattle.coded_unit.specs.Seen.{StoodStill, UnitSeen}
use Rattle.op_graph.specs.Lists.{Lists}
use Rattle.signature_table.specs.Signatures.{Numbers}
use Rattle.fault_script.specs.declared.act.Fault.{Fault}
use Rattle.fault_injector.specs.declared.verdicts.Verdict.{Verdict}
use Rattle.fault_injector.specs.Groups.{JudgedAlone}
use Rattle.fault_injector.specs.Laws.{GroupLaws}
use Rattle.fault_injector.specs.References.{KeptRun, RanOver}
use Rattle.fault_injector.specs.Reruns.{Reran}

-- what holds of a run that is kept holds of what it was made from
pub at_kept : (P : Numbers → Lists → List (List ℤ) → Type 0) (r : KeptRun) (t : Numbers) (g : Lists) (rows : List (List ℤ)) → r.graph ≡ g → r.table ≡ t
    → r.rows ≡ rows → P r.table r.graph r.rows → P t g rows
at_kept P r t g rows graph table same p =
    subst (λ (xs : List (List ℤ)). P t g xs) same (subst (λ (h : Lists). P t h r.rows) graph (subst (λ (u : Numbers). P u r.graph r.rows) table p))

-- where nothing was counted through both of two parts, nothing was in either
pub parted : (a b c : ℕ) → a ≤ b → b ≤ c → StoodStill a c → StoodStill a b × StoodStill b c
parted a b c low high still =
    let same : b ≡ a = omega (arith, low, high, still.0) in ((same, still.1), (still.0 ∙ sym same, subst (λ (n : ℕ). n < 2 ^ 64 - 1) (sym same) still.1))

pub if_ok : {X E : Type 0} (P Q : X → Type 0) (x : Result X E) → ((v : X) → P v → Q v) → IfOk x P → IfOk x Q
if_ok P Q (Ok v) f h = f v h
if_ok P Q (Err e) f h = tt

-- the calls of the run without faults, and then those of the rerun
pub judged_alone : GroupLaws → (t : Numbers) (g : Lists) (rows : List (List ℤ)) (r : KeptRun) (faults : List Fault) (v : Verdict) (before mid now : UnitSeen)
    → r.graph ≡ g → r.table ≡ t → r.rows ≡ rows → RanOver g t rows r.answers r.end before.log mid.log before.wrong mid.wrong
    → Reran r.table r.graph faults r.rows r.answers mid now v → JudgedAlone t g rows faults v before now
judged_alone laws t g rows r faults v before mid now graph table same ran reran = (
  r.answers,
  laws.goes_on t g rows r.answers (faults ∷ []) [] faults v before mid now
      (laws.starts t g rows r.answers (faults ∷ []) r.end before mid ran) refl
      (at_kept (λ (u : Numbers) (h : Lists) (xs : List (List ℤ)). Reran u h faults xs r.answers mid now v) r t g rows graph table same reran),
)
