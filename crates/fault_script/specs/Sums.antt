-- Sums: the differences of several faults add up, where each adds a number to a word.
use Rattle.std.specs.Prelude.{◌≡◌, ℕ, Bool, true, false, List, [], ◌∷◌, ℤ, pos, ◌+ℤ◌}
use Rattle.std.specs.List.{AllPass}
use Rattle.coded_unit.specs.Words.{modulo}
use Rattle.op_graph.specs.Lists.{Lists}
use Rattle.signature_table.specs.Signatures.{Numbers}
use Rattle.fault_script.specs.declared.act.Act.{Act}
use Rattle.fault_script.specs.declared.act.Act.TheVariants as act
use Rattle.fault_script.specs.declared.act.Fault.{Fault}
use Rattle.fault_script.specs.Changes.{acts_of}
use Rattle.fault_script.specs.Differences.{difference_at}
use Rattle.fault_script.specs.Groups.{Apart}

-- the act adds a number to the word of an operand or to the answer
abbrev pub adds : Act → Bool
adds (act.OperandAdd j e) = true
adds (act.OperandFrom j r) = false
adds (act.OperandStale j) = false
adds (act.ResultAdd e) = true
adds (act.Operator other) = false
adds act.Skip = false

-- the sum of the differences that each of these faults makes alone at operation k in cycle n
abbrev pub sum_of_each : Numbers → Lists → List Fault → ℕ → ℕ → ℤ
sum_of_each t g [] n k = pos 0
sum_of_each t g (f ∷ faults) n k = difference_at t g (acts_of (f ∷ [])) n k +ℤ sum_of_each t g faults n k

-- The difference of a group whose acts add numbers is the sum of those of its faults, each as a group of one: as integers, and so modulo the constant
-- of the graph's code.
pub record AddsUp (t : Numbers) (g : Lists) (faults : List Fault) (n k : ℕ) : Type 0 where
  pub sum : difference_at t g (acts_of faults) n k ≡ sum_of_each t g faults n k
  pub residue : modulo g.profile (difference_at t g (acts_of faults) n k) ≡ modulo g.profile (sum_of_each t g faults n k)

abbrev pub DifferencesAddUp : Numbers → Lists → Type 0
DifferencesAddUp t g = (faults : List Fault) → AllPass (λ f. adds f.act) faults → Apart faults → (n k : ℕ) → AddsUp t g faults n k
