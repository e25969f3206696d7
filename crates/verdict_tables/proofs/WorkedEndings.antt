-- Worked: how groups of faults end on a counter, worked by hand.
use Rattle.std.specs.Prelude.{◌≡◌, refl, ℕ, List, [], ◌∷◌, ℤ, pos, negsuc}
use Rattle.vcp_base.specs.declared.code.Profile.TheVariants as profile
use Rattle.vcp_base.specs.declared.kind.Kind.{Kind}
use Rattle.vcp_base.specs.declared.kind.Kind.TheVariants as kind
use Rattle.vcp_base.specs.declared.ty.Ty.TheVariants as ty
use Rattle.coded_unit.specs.Words.{modulo, value_part, coded}
use Rattle.op_graph.specs.declared.op.Op.{Op}
use Rattle.op_graph.specs.Lists.{Lists}
use Rattle.signature_table.specs.Signatures.{Numbers, signature}
use Rattle.fault_script.specs.declared.act.Act.{Act}
use Rattle.fault_script.specs.declared.act.Act.TheVariants as act
use Rattle.fault_script.specs.declared.act.Fault.{Fault}
use Rattle.verdict_tables.specs.declared.endless.ending.SameEnding.TheVariants as ends
use Rattle.verdict_tables.specs.Endings.{ending_of}

abbrev operation : Kind → ℕ → ℕ → ℤ → Op
operation k a b imm =
    record { kind = k; from = ty.Dint; ty = ty.Dint; a = a; b = b; c = 0; imm = imm; spot = record { line = 0; col = 0 }; turn = 0 }

abbrev graph : List Op → ℕ → ℕ → Lists
graph ops out store = record {
  profile = profile.Narrow;
  names = [];
  inputs = [];
  outputs = record { name = 0; ty = ty.Dint; op = out } ∷ [];
  loads = record { name = 0; ty = ty.Dint; init = pos 0; load = 0 } ∷ [];
  stores = store ∷ [];
  turn_nodes = [];
  operations = ops;
}

-- n := n + 1; y := n
abbrev counts : Lists
counts = graph (operation kind.Load 0 0 (pos 0) ∷ operation kind.Const 0 0 (pos 1) ∷ operation kind.Add 0 1 (pos 0)
    ∷ operation kind.Out 2 0 (pos 0) ∷ operation kind.Store 2 0 (pos 0) ∷ []) 3 4

-- n := 7 in each cycle, and y := 1: what the cell has is read by no other operation than its LOAD
abbrev overwrites : Lists
overwrites = graph (operation kind.Load 0 0 (pos 0) ∷ operation kind.Const 0 0 (pos 1) ∷ operation kind.Const 0 0 (pos 7)
    ∷ operation kind.Out 1 0 (pos 0) ∷ operation kind.Store 2 0 (pos 0) ∷ []) 3 4

abbrev numbers : Numbers
numbers = record { profile = profile.Narrow; seed = 0; step = 1; corrections = [] }

abbrev at : ℕ → ℕ → Act → Fault
at n k a = record { line = 1; cycle = n; op = k; act = a }

abbrev three : List (List ℤ)
three = [] ∷ [] ∷ [] ∷ []

-- a STORE that is skipped in the last cycle leaves the word of the cycle before in its cell
stands_at_the_end : ending_of numbers counts (at 2 4 act.Skip ∷ []) three ≡ ends.Stands
unfolding signature modulo value_part coded
stands_at_the_end = refl

-- the same where only the residue differs: the value is the one of the run without
stands_by_its_residue : ending_of numbers overwrites (at 2 4 act.Skip ∷ []) three ≡ ends.Stands
unfolding signature modulo value_part coded
stands_by_its_residue = refl

-- in the cycle before, it is overwritten
overwritten : ending_of numbers overwrites (at 1 4 act.Skip ∷ []) three ≡ ends.DiedOut
unfolding signature modulo value_part coded
overwritten = refl

-- it reaches no cell at all
reaches_no_cell : ending_of numbers counts (at 2 3 (act.ResultAdd (pos 1)) ∷ []) three ≡ ends.DiedOut
unfolding signature modulo value_part coded
reaches_no_cell = refl

-- a fault behind the last row
behind_the_rows : ending_of numbers counts (at 3 4 act.Skip ∷ []) three ≡ ends.NeverReached
unfolding signature modulo value_part coded
behind_the_rows = refl

-- of two faults one is reached
one_of_two : ending_of numbers counts (at 7 4 act.Skip ∷ at 2 4 (act.ResultAdd (negsuc 0)) ∷ []) three ≡ ends.Stands
unfolding signature modulo value_part coded
one_of_two = refl

-- there is nothing to run
no_rows : ending_of numbers counts (at 0 4 (act.ResultAdd (pos 1)) ∷ []) [] ≡ ends.NeverReached
unfolding signature modulo value_part coded
no_rows = refl
