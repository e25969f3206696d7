-- PairRows: worked rows of verdicts by a pair and of their lines, computed by the definitions alone.
use Rattle.std.proofs.Common.{◌≡◌, ℕ, List, [], ◌∷◌, ◌++◌, refl, ℤ, pos, codes}
use Rattle.std.specs.Fmt.{digits}
use Rattle.vcp_base.specs.declared.code.Profile.TheVariants as profile
use Rattle.vcp_base.specs.declared.kind.Kind.{Kind}
use Rattle.vcp_base.specs.declared.kind.Kind.TheVariants as kind
use Rattle.vcp_base.specs.declared.ty.Ty.TheVariants as ty
use Rattle.coded_unit.specs.Words.{modulo, value_part}
use Rattle.op_graph.specs.declared.op.Op.{Op}
use Rattle.op_graph.specs.Lists.{Lists, nothing}
use Rattle.signature_table.specs.Signatures.{Numbers, signature}
use Rattle.fault_script.specs.declared.act.Act.{Act}
use Rattle.fault_script.specs.declared.act.Act.TheVariants as act
use Rattle.fault_script.specs.declared.act.Fault.{Fault}
use Rattle.fault_injector.specs.declared.campaign.pairs.verdict.PairVerdict.{PairVerdict}
use Rattle.fault_injector.specs.declared.campaign.pairs.verdict.PairVerdict.TheVariants as held
use Rattle.fault_injector.specs.GroupLines.{group_text, pair_totals_text, totals_of}
use Rattle.fault_injector.specs.PairVerdicts.{told_verdicts}

abbrev at : ℕ → ℕ → Act → Fault
at n k a = record { line = 1; cycle = n; op = k; act = a }

abbrev on_dint : Kind → ℕ → ℕ → ℤ → Op
on_dint k a b imm = record { kind = k; from = ty.Dint; ty = ty.Dint; a = a; b = b; c = 0; imm = imm; spot = record { line = 0; col = 0 }; turn = 0 }

abbrev of_operations : ℕ → List Op → Lists
of_operations out ops = record (nothing profile.Narrow) { outputs = record { name = 0; ty = ty.Dint; op = out } ∷ []; operations = ops }

-- y := x + 1
abbrev narrow : Lists
narrow = of_operations 3 (on_dint kind.Input 0 0 (pos 0) ∷ on_dint kind.Const 0 0 (pos 1) ∷ on_dint kind.Add 0 1 (pos 0) ∷ on_dint kind.Out 2 0 (pos 0) ∷ [])

-- n := n + 1; y := n
abbrev counts : Lists
counts = record (of_operations 3 (on_dint kind.Load 0 0 (pos 0) ∷ on_dint kind.Const 0 0 (pos 1) ∷ on_dint kind.Add 0 1 (pos 0) ∷ on_dint kind.Out 2 0 (pos 0)
    ∷ on_dint kind.Store 2 0 (pos 0) ∷ [])) { loads = record { name = 0; ty = ty.Dint; init = pos 0; load = 0 } ∷ []; stores = 4 ∷ [] }

-- of the seed 0; no correction is read
abbrev numbers : Numbers
numbers = record { profile = profile.Narrow; seed = 0; step = 1; corrections = [] }

-- y := a / b; z := a + b
abbrev divides : Lists
divides = record (of_operations 4 (on_dint kind.Input 0 0 (pos 0) ∷ on_dint kind.Input 0 0 (pos 1) ∷ on_dint kind.Div 0 1 (pos 0)
    ∷ on_dint kind.Add 0 1 (pos 0)
    ∷ on_dint kind.Out 2 0 (pos 0)
    ∷ on_dint kind.Out 3 0 (pos 1)
    ∷ [])) { outputs = record { name = 0; ty = ty.Dint; op = 4 } ∷ record { name = 0; ty = ty.Dint; op = 5 } ∷ [] }

abbrev on_five : List (List ℤ)
on_five = (pos 5 ∷ []) ∷ []

-- cycles of a graph without inputs
abbrev five_cycles : List (List ℤ)
five_cycles = [] ∷ [] ∷ [] ∷ [] ∷ [] ∷ []

-- the second divides by zero
abbrev pairs : List (List ℤ)
pairs = (pos 7 ∷ pos 2 ∷ []) ∷ (pos 9 ∷ pos 0 ∷ []) ∷ (pos 3 ∷ pos 1 ∷ []) ∷ []

-- the verdicts with the seed 0 on these inputs
abbrev told_under : Lists → List (List Fault) → List (List ℤ) → List PairVerdict
told_under g groups rows = told_verdicts numbers g groups rows

-- a wrong value that the residue agrees with, a word in another one's place, another function
each_held : told_under narrow ((at 0 2 (act.OperandAdd 0 (pos 2147483647)) ∷ []) ∷ (at 0 2 (act.OperandFrom 1 0) ∷ []) ∷ (at 0 2 (act.Operator kind.Sub) ∷ [])
    ∷ []) on_five ≡ held.Held 0 ∷ held.Held 0 ∷ held.Held 0 ∷ []
unfolding signature modulo value_part
each_held = refl

-- nothing added, a late word, a late word and what makes up for its difference, and a word that only the next cycle reads
some_held : told_under counts ((at 0 0 (act.ResultAdd (pos 0)) ∷ []) ∷ (at 2 4 act.Skip ∷ [])
    ∷ (at 1 4 act.Skip ∷ at 2 0 (act.OperandAdd 0 (pos 1)) ∷ []) ∷ (at 4 4 (act.ResultAdd (pos 3)) ∷ []) ∷ []) five_cycles
    ≡ held.Same ∷ held.Held 3 ∷ held.Held 2 ∷ held.Same ∷ []
unfolding signature modulo value_part
some_held = refl

-- a run that goes on where the other stops, and faults behind the stop
beside_a_stop : told_under divides ((at 1 1 (act.ResultAdd (pos 2147483647)) ∷ []) ∷ (at 0 0 (act.ResultAdd (pos 2147483647)) ∷ []) ∷ (at 1 2 act.Skip ∷ [])
    ∷ (at 2 0 (act.ResultAdd (pos 9)) ∷ []) ∷ (at 1 3 (act.ResultAdd (pos 1)) ∷ []) ∷ []) pairs
    ≡ held.Held 1 ∷ held.Held 0 ∷ held.Held 1 ∷ held.Same ∷ held.Same ∷ []
unfolding signature modulo value_part
beside_a_stop = refl

lines : group_text 1 held.Same ++ (group_text 2 (held.Held 3) ++ (group_text 4 (held.Held 0)
    ++ pair_totals_text (totals_of (held.Same ∷ held.Held 3 ∷ held.Held 0 ∷ []))))
    ≡ codes "1 same\n2 held 3\n4 held 0\npairs 3 same 1 held 2\n"
unfolding digits
lines = refl

no_lines : pair_totals_text (totals_of []) ≡ codes "pairs 0 same 0 held 0\n"
unfolding digits
no_lines = refl
