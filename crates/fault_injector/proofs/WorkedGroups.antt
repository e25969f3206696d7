-- WorkedGroups: verdicts of groups of faults on small programs, worked by hand from the code's rules.
use Rattle.std.specs.Prelude.{◌≡◌, refl, ℕ, List, [], ◌∷◌, ℤ, pos, negsuc}
use Rattle.vcp_base.specs.declared.code.Profile.TheVariants as profile
use Rattle.vcp_base.specs.declared.kind.Kind.{Kind}
use Rattle.vcp_base.specs.declared.kind.Kind.TheVariants as kind
use Rattle.vcp_base.specs.declared.ty.Ty.TheVariants as ty
use Rattle.coded_unit.specs.Words.{modulo, value_part}
use Rattle.op_graph.specs.declared.op.Op.{Op}
use Rattle.op_graph.specs.Lists.{Lists}
use Rattle.signature_table.specs.Signatures.{signature}
use Rattle.fault_script.specs.declared.act.Act.{Act}
use Rattle.fault_script.specs.declared.act.Act.TheVariants as act
use Rattle.fault_script.specs.declared.act.Fault.{Fault}
use Rattle.fault_injector.specs.declared.verdicts.Verdict.{Verdict}
use Rattle.fault_injector.specs.declared.verdicts.Verdict.TheVariants as verdict
use Rattle.fault_injector.specs.Verdicts.{verdict_of}
use Rattle.fault_injector.proofs.WorkedVerdicts.{operation, of_operations, adds_one, counts, narrow, of_seed}

abbrev at : ℕ → ℕ → Act → Fault
at n k a = record { line = 1; cycle = n; op = k; act = a }

-- the verdict of a group with the seed 0 on these inputs
abbrev verdict_under : Lists → List Fault → List (List ℤ) → Verdict
verdict_under g faults rows = verdict_of (of_seed g.profile 0) g faults rows

abbrev on_dint : Kind → ℕ → ℕ → ℤ → Op
on_dint k a b imm = operation k ty.Dint a b imm

-- m := a + b; s := m * 2; d := m - b
abbrev two_sums : Lists
two_sums = record (of_operations profile.Narrow ty.Dint 6 (on_dint kind.Input 0 0 (pos 0) ∷ on_dint kind.Input 0 0 (pos 1) ∷ on_dint kind.Add 0 1 (pos 0)
    ∷ on_dint kind.Const 0 0 (pos 2)
    ∷ on_dint kind.Mul 2 3 (pos 0)
    ∷ on_dint kind.Sub 2 1 (pos 0)
    ∷ on_dint kind.Out 4 0 (pos 0)
    ∷ on_dint kind.Out 5 0 (pos 1)
    ∷ [])) { outputs = record { name = 0; ty = ty.Dint; op = 6 } ∷ record { name = 0; ty = ty.Dint; op = 7 } ∷ [] }

-- y := a / b; z := a + b
abbrev divides : Lists
divides = record (of_operations profile.Narrow ty.Dint 4 (on_dint kind.Input 0 0 (pos 0) ∷ on_dint kind.Input 0 0 (pos 1) ∷ on_dint kind.Div 0 1 (pos 0)
    ∷ on_dint kind.Add 0 1 (pos 0)
    ∷ on_dint kind.Out 2 0 (pos 0)
    ∷ on_dint kind.Out 3 0 (pos 1)
    ∷ [])) { outputs = record { name = 0; ty = ty.Dint; op = 4 } ∷ record { name = 0; ty = ty.Dint; op = 5 } ∷ [] }

-- y := x + older; older := old; old := x
abbrev keeps : Lists
keeps = record (of_operations profile.Narrow ty.Dint 4 (on_dint kind.Input 0 0 (pos 0) ∷ on_dint kind.Load 0 0 (pos 0) ∷ on_dint kind.Add 0 1 (pos 0)
    ∷ on_dint kind.Load 0 0 (pos 1)
    ∷ on_dint kind.Out 2 0 (pos 0)
    ∷ on_dint kind.Store 3 0 (pos 0)
    ∷ on_dint kind.Store 0 0 (pos 1)
    ∷ [])) {
      loads = record { name = 0; ty = ty.Dint; init = pos 0; load = 1 } ∷ record { name = 0; ty = ty.Dint; init = pos 0; load = 3 } ∷ [];
      stores = 5 ∷ 6 ∷ [];
    }

abbrev wide : Lists
wide = adds_one profile.Wide ty.Lint

abbrev on_five : List (List ℤ)
on_five = (pos 5 ∷ []) ∷ []

-- cycles of a graph without inputs
abbrev five_cycles : List (List ℤ)
five_cycles = [] ∷ [] ∷ [] ∷ [] ∷ [] ∷ []

abbrev pairs : List (List ℤ)
pairs = (pos 7 ∷ pos 2 ∷ []) ∷ (pos 9 ∷ pos 0 ∷ []) ∷ (pos 3 ∷ pos 1 ∷ []) ∷ []

abbrev five_values : List (List ℤ)
five_values = (pos 1 ∷ []) ∷ (pos 2 ∷ []) ∷ (pos 3 ∷ []) ∷ (pos 4 ∷ []) ∷ (pos 5 ∷ []) ∷ []

alone_before : verdict_under narrow (at 0 2 (act.OperandAdd 0 (pos 7)) ∷ []) on_five ≡ verdict.Refused 0 0 644245103 644245096
unfolding signature modulo value_part
alone_before = refl

alone_behind : verdict_under narrow (at 0 3 (act.OperandAdd 0 (negsuc 6)) ∷ []) on_five ≡ verdict.Refused 0 0 644245089 644245096
unfolding signature modulo value_part
alone_behind = refl

-- two differences that cancel
cancel : verdict_under narrow (at 0 2 (act.OperandAdd 0 (pos 7)) ∷ at 0 3 (act.OperandAdd 0 (negsuc 6)) ∷ []) on_five ≡ verdict.Same
unfolding signature modulo value_part
cancel = refl

-- a late word, and what makes up for its difference, not for its value
made_up : verdict_under counts (at 2 4 act.Skip ∷ at 3 0 (act.ResultAdd (pos 1)) ∷ []) five_cycles ≡ verdict.Wrong 3 0 (pos 3) (pos 4)
unfolding signature modulo value_part
made_up = refl

-- a word skipped again and again
skipped_on : verdict_under counts (at 1 4 act.Skip ∷ at 2 4 act.Skip ∷ at 3 4 act.Skip ∷ []) five_cycles ≡ verdict.Refused 2 0 644245097 644245098
unfolding signature modulo value_part
skipped_on = refl

cancel_at_load : verdict_under counts (at 1 4 act.Skip ∷ at 2 0 (act.OperandAdd 0 (pos 1)) ∷ []) five_cycles ≡ verdict.Wrong 2 0 (pos 2) (pos 3)
unfolding signature modulo value_part
cancel_at_load = refl

-- a stale operand that was changed in the cycle before
stale_of_changed : verdict_under counts (at 1 4 (act.ResultAdd (pos 5)) ∷ at 2 2 (act.OperandStale 0) ∷ []) five_cycles ≡ verdict.Refused 2 0 644245097 644245098
unfolding signature modulo value_part
stale_of_changed = refl

-- the word of a register that another fault changed
from_changed : verdict_under counts (at 1 0 (act.ResultAdd (pos 1)) ∷ at 1 2 (act.OperandFrom 1 0) ∷ []) five_cycles ≡ verdict.Refused 1 0 429496734 644245097
unfolding signature modulo value_part
from_changed = refl

two_brought : verdict_under two_sums (at 0 4 (act.OperandAdd 0 (pos 3)) ∷ at 0 2 (act.ResultAdd (negsuc 0)) ∷ []) pairs ≡ verdict.Refused 0 0 214748371 214748367
unfolding signature modulo value_part
two_brought = refl

-- values change, residues don't
values_change : verdict_under two_sums (at 0 0 (act.ResultAdd (pos 2147483647)) ∷ at 2 1 (act.ResultAdd (negsuc 2147483646)) ∷ []) pairs ≡ verdict.Wrong 0 0 (pos 20) (pos 18)
unfolding signature modulo value_part
values_change = refl

-- the run without the faults stops in cycle 1
runs_on : verdict_under divides (at 1 1 (act.ResultAdd (pos 2147483647)) ∷ []) pairs ≡ verdict.RanOn 1
unfolding signature modulo value_part
runs_on = refl

-- a value differs before
wrong_before : verdict_under divides (at 0 0 (act.ResultAdd (pos 2147483647)) ∷ at 1 1 (act.ResultAdd (pos 2147483647)) ∷ []) pairs ≡ verdict.Wrong 0 0 (pos 4) (pos 3)
unfolding signature modulo value_part
wrong_before = refl

-- an effect before the stop and one behind it
stops_alike : verdict_under divides (at 1 3 (act.ResultAdd (pos 1)) ∷ at 1 1 (act.ResultAdd (pos 1)) ∷ []) pairs ≡ verdict.Same
unfolding signature modulo value_part
stops_alike = refl

-- what runs on with a wrong residue is refused
refused_first : verdict_under divides (at 1 1 (act.ResultAdd (pos 2147483648)) ∷ []) pairs ≡ verdict.Refused 1 0 858993467 858993462
unfolding signature modulo value_part
refused_first = refl

-- a difference that two cells keep, and that cancels two cycles later
two_cycles_later : verdict_under keeps (at 1 6 (act.ResultAdd (pos 4)) ∷ at 3 0 (act.ResultAdd (negsuc 3)) ∷ []) five_values ≡ verdict.Same
unfolding signature modulo value_part
two_cycles_later = refl

kept_alone : verdict_under keeps (at 1 6 (act.ResultAdd (pos 4)) ∷ []) five_values ≡ verdict.Refused 3 0 858993468 858993464
unfolding signature modulo value_part
kept_alone = refl

-- in the wide code
wide_cancel : verdict_under wide (at 0 2 (act.OperandAdd 0 (pos 2305843009213693951)) ∷ at 0 3 (act.ResultAdd (negsuc 2305843009213693950)) ∷ []) on_five ≡ verdict.Same
unfolding signature modulo value_part
wide_cancel = refl

wide_refused : verdict_under wide (at 0 2 (act.OperandAdd 0 (pos 2147483647)) ∷ at 0 3 (act.ResultAdd (negsuc 2147483645)) ∷ []) on_five ≡ verdict.Refused 0 0 461168601842738793 461168601842738792
unfolding signature modulo value_part
wide_refused = refl
