-- Rows: the acts of a class at an operation, row by row and column by column.
use Rattle.std.proofs.Common.{◌≡◌, ◌≢◌, ℕ, zero, suc, ◌-◌, ◌<◌, ℤ, Bool, true, cond, nat_lt, List, [], ◌++◌, length, slice_get, Option, Some, None, refl, sym, ap, ap₂, ◌∙◌, append_assoc, arith}
use Rattle.std.proofs.lemmas.List.{append-nil}
use Rattle.std.proofs.lemmas.Bool.Decides.{nat_tests}
use Rattle.vcp_base.specs.Kinds.{operands}
use Rattle.vcp_base.specs.Values.{at}
use Rattle.op_graph.specs.declared.op.Op.{Op}
use Rattle.op_graph.specs.Lists.{Lists}
use Rattle.fault_script.specs.declared.act.Act.{Act}
use Rattle.fault_script.specs.declared.act.Act.TheVariants as act
use Rattle.fault_sites.specs.declared.class.Class.{Class}
use Rattle.fault_sites.specs.declared.class.Class.TheVariants as class
use Rattle.fault_sites.specs.declared.run_class.RunClass.TheVariants as run
use Rattle.fault_sites.specs.Acts.{act_at, acts_at, acts_in, addition, columns, row_at, rows, sites_by}
use Rattle.fault_sites.specs.Flips.{flips_in, flips_of}
use Rattle.fault_sites.specs.Late.{lates_in, lates_of}
use Rattle.fault_sites.specs.RunActs.{act_at as run_act_at, columns as run_columns, rows as run_rows}
use Rattle.fault_sites.specs.RunCycle.{RunCycle, expected_word}
use Rattle.fault_sites.specs.Sites.{acts_of, each_below, has_acts, sited, sites_at, sites_in}
use Rattle.fault_sites.proofs.RunFit.{there_is}

pub addition_past : (j : ℕ) (e : ℤ) → j ≢ 0 → act.OperandAdd (j - 1) e ≡ addition j e
addition_past zero e past = absurd (past refl)
addition_past (suc j) e past = ap (λ n. act.OperandAdd n e) (omega arith)

same_below : {X : Type 0} (f h : ℕ → List X) (n : ℕ) → ((i : ℕ) → i < n → f i ≡ h i) → each_below f n ≡ each_below h n
same_below f h zero e = refl
same_below f h (suc i) e = ap₂ (λ xs ys. xs ++ ys) (same_below f h i (λ j lt. e j (omega arith))) (e i (omega arith))

-- the first number, and then the others
front_below : {X : Type 0} (f : ℕ → List X) (n : ℕ) → f 0 ++ each_below (λ j. f (suc j)) n ≡ each_below f (suc n)
front_below f zero = append-nil (f 0)
front_below f (suc n) = sym (append_assoc (f 0) (each_below (λ j. f (suc j)) n) (f (suc n))) ∙ ap (λ xs. xs ++ f (suc n)) (front_below f n)

acts_are : (c : Class) (g : Lists) (k : ℕ) (op : Op) → acts_of c g k op ≡ each_below (row_at (act_at c g op) (columns c k)) (rows c op)
acts_are class.Bits g k op = front_below (row_at (act_at class.Bits g op) (columns class.Bits k)) (operands op.kind)
acts_are class.Stale g k op = refl
acts_are class.Skip g k op = refl
acts_are class.From g k op = refl
acts_are class.Operator g k op = refl

at_are : (c : Class) (g : Lists) (n k : ℕ) (o : Option Op) → has_acts c n ≡ true
    → sites_at c g n k o ≡ sited n k (acts_at (rows c) (columns c k) (act_at c g) o)
at_are c g n k None has = refl
at_are c g n k (Some op) has =
    ap (λ (b : Bool). cond b (sited n k (acts_of c g k op)) []) has ∙ ap (λ (acts : List Act). sited n k acts) (acts_are c g k op)

-- the sites of a class in a cycle
pub class_sites : (c : Class) (g : Lists) (n : ℕ) → has_acts c n ≡ true → sites_in c g n ≡ sites_by (rows c) (columns c) (λ _. act_at c g) g n
class_sites c g n has =
    same_below (λ k. sites_at c g n k (slice_get g.operations k)) (λ k. sited n k (acts_in (rows c) (columns c) (λ _. act_at c g) g k)) (length g.operations)
    (λ k lt. at_are c g n k (slice_get g.operations k) has)

flips_at : (c : RunCycle) (k : ℕ) (op : Op) → slice_get c.graph.operations k ≡ Some op
    → sited c.cycle k (flips_of (expected_word c.table c.cycle k (at c.values k)))
    ≡ sited c.cycle k (acts_in (run_rows run.Flips) (run_columns run.Flips c.graph) (run_act_at run.Flips c) c.graph k)
flips_at c k op there =
    ap (λ (o : Option Op). sited c.cycle k (acts_at (run_rows run.Flips) (run_columns run.Flips c.graph k) (run_act_at run.Flips c k) o)) (sym there)

-- the flips of a cycle
pub flip_sites : (c : RunCycle)
    → flips_in c ≡ sites_by (run_rows run.Flips) (run_columns run.Flips c.graph) (run_act_at run.Flips c) c.graph c.cycle
flip_sites c =
    same_below (λ k. sited c.cycle k (flips_of (expected_word c.table c.cycle k (at c.values k))))
    (λ k. sited c.cycle k (acts_in (run_rows run.Flips) (run_columns run.Flips c.graph) (run_act_at run.Flips c) c.graph k)) (length c.graph.operations)
    (λ k lt. let (op, there) = there_is c.graph.operations k lt in flips_at c k op there)

lates_at_are : (c : RunCycle) (k : ℕ) (o : Option Op)
    → lates_of c k o ≡ acts_at (run_rows run.Late) (run_columns run.Late c.graph k) (run_act_at run.Late c k) o
lates_at_are c k None = refl
lates_at_are c k (Some op) = refl

-- the late words of a cycle
pub late_sites : (c : RunCycle) → 0 < c.cycle
    → lates_in c ≡ sites_by (run_rows run.Late) (run_columns run.Late c.graph) (run_act_at run.Late c) c.graph c.cycle
late_sites c later =
    let has : nat_lt 0 c.cycle ≡ true = grind (arith, nat_tests) in
    rw has
    (same_below (λ k. sited c.cycle k (lates_of c k (slice_get c.graph.operations k)))
    (λ k. sited c.cycle k (acts_in (run_rows run.Late) (run_columns run.Late c.graph) (run_act_at run.Late c) c.graph k)) (length c.graph.operations)
    (λ k lt. ap (λ (acts : List Act). sited c.cycle k acts) (lates_at_are c k (slice_get c.graph.operations k))))
