-- Touched: which operations acts reach, and what holds of the others.
use Rattle.std.specs.Prelude.{◌≡◌, ◌≢◌, ℕ, ◌+◌, ◌<◌, ◌≤◌, List, length, slice_get, Some, None, ℤ, pos, ◌*ℤ◌}
use Rattle.vcp_base.specs.Values.{at}
use Rattle.op_graph.specs.declared.op.Op.{Op}
use Rattle.op_graph.specs.GraphRun.{Cycle, initial}
use Rattle.op_graph.specs.Lists.{Lists}
use Rattle.op_graph.specs.Rules.{IsGraph}
use Rattle.signature_table.specs.Signatures.{Numbers}
use Rattle.fault_script.specs.declared.act.Act.{Act}
use Rattle.fault_script.specs.Changes.{Acts}
use Rattle.fault_script.specs.Differences.{difference_at, made}
use Rattle.fault_injector.specs.FaultRun.{run_under}
use Rattle.fault_injector.specs.Verdicts.{plain_cycles}
use Rattle.weight_audit.specs.Paths.{Reached}
use Rattle.weight_audit.specs.Weights.{sums}

-- operation q is touched in cycle m: from an operation at which an act is, in this cycle or an earlier one, it is reached across the borders between
pub record IsTouched (g : Lists) (acts : Acts) (m q : ℕ) : Type 0 where
  pub cycle : ℕ
  pub op : ℕ
  pub stands : acts cycle op ≡ None → ⊥
  pub more : ℕ
  pub borders : cycle + more ≡ m
  pub path : Reached g q more op

-- An operation that isn't touched has the same value in both cycles, as far as both reach it; and where one of them stops there, the other doesn't get
-- past it, but stops there, too, and for the same cause.
pub record SameUntouched (g : Lists) (acts : Acts) (m : ℕ) (c p : Cycle) : Type 0 where
  pub values : (q : ℕ) → (IsTouched g acts m q → ⊥) → q < length c.values → q < length p.values → at c.values q ≡ at p.values q
  pub stops : (q : ℕ) → (IsTouched g acts m q → ⊥) → length c.values ≡ q → q ≤ length p.values → (length p.values ≡ q) × (p.stop ≡ c.stop)
  pub stops_back : (q : ℕ) → (IsTouched g acts m q → ⊥) → length p.values ≡ q → q ≤ length c.values → (length c.values ≡ q) × (c.stop ≡ p.stop)

-- in each cycle that both runs have
abbrev pub UntouchedAreSame : Type 0
UntouchedAreSame = (t : Numbers) (g : Lists) (acts : Acts) (rows : List (List ℤ)) (m : ℕ) (c p : Cycle) → IsGraph g
    → slice_get (run_under t g acts rows) m ≡ Some c → slice_get (plain_cycles g (initial g) rows) m ≡ Some p → SameUntouched g acts m c p

-- an operation that isn't touched has no difference
abbrev pub UntouchedDifferByNothing : Type 0
UntouchedDifferByNothing = (t : Numbers) (g : Lists) (acts : Acts) (m q : ℕ) → IsGraph g → (IsTouched g acts m q → ⊥) → difference_at t g acts m q ≡ pos 0

-- Where acts are at operation k alone and from cycle n on, and operation q isn't reached from there across fewer than h borders, its difference in cycle
-- n + h is what the act of cycle n makes alone, times the sum over paths, and nothing else, whatever acts come later.
abbrev pub FirstComesAlone : Type 0
FirstComesAlone = (t : Numbers) (g : Lists) (acts : Acts) (n k h q : ℕ) (op : Op) (a : Act) → IsGraph g → slice_get g.operations k ≡ Some op → acts n k ≡ Some a
    → ((m : ℕ) → m < n → acts m k ≡ None) → ((m r : ℕ) → r ≢ k → acts m r ≡ None) → ((borders : ℕ) → borders < h → Reached g q borders k → ⊥)
    → difference_at t g acts (n + h) q ≡ at (sums g q h) k *ℤ made t g op a
