-- Worked: verdicts of faults on small programs, worked by hand from the code's rules.
use Rattle.std.specs.Prelude.{◌≡◌, refl, ℕ, List, [], ◌∷◌, ◌^◌, ℤ, pos, negsuc}
use Rattle.vcp_base.specs.declared.code.Profile.{Profile}
use Rattle.vcp_base.specs.declared.code.Profile.TheVariants as profile
use Rattle.vcp_base.specs.declared.kind.Kind.{Kind}
use Rattle.vcp_base.specs.declared.kind.Kind.TheVariants as kind
use Rattle.vcp_base.specs.declared.kind.StopKind.TheVariants as stop
use Rattle.vcp_base.specs.declared.ty.Ty.{Ty}
use Rattle.vcp_base.specs.declared.ty.Ty.TheVariants as ty
use Rattle.coded_unit.specs.Words.{modulo, value_part}
use Rattle.op_graph.specs.declared.op.Op.{Op}
use Rattle.op_graph.specs.Lists.{Lists}
use Rattle.signature_table.specs.Signatures.{Numbers, signature}
use Rattle.fault_script.specs.declared.act.Act.{Act}
use Rattle.fault_script.specs.declared.act.Act.TheVariants as act
use Rattle.fault_injector.specs.declared.verdicts.Verdict.{Verdict}
use Rattle.fault_injector.specs.declared.verdicts.Verdict.TheVariants as verdict
use Rattle.fault_injector.specs.Verdicts.{verdict_of}

abbrev pub operation : Kind → Ty → ℕ → ℕ → ℤ → Op
operation k t a b imm = record { kind = k; from = t; ty = t; a = a; b = b; c = 0; imm = imm; spot = record { line = 0; col = 0 }; turn = 0 }

-- a graph of these operations with one output, without cells
abbrev pub of_operations : Profile → Ty → ℕ → List Op → Lists
of_operations p t out ops = record {
  profile = p;
  names = [];
  inputs = [];
  outputs = record { name = 0; ty = t; op = out } ∷ [];
  loads = [];
  stores = [];
  turn_nodes = [];
  operations = ops;
}

-- y := x + 1
abbrev pub adds_one : Profile → Ty → Lists
adds_one p t = of_operations p t 3 (operation kind.Input t 0 0 (pos 0) ∷ operation kind.Const t 0 0 (pos 1) ∷ operation kind.Add t 0 1
    (pos 0) ∷ operation kind.Out t 2 0 (pos 0) ∷ [])

-- y := NOT b
abbrev negates : Lists
negates = of_operations profile.Narrow ty.Bool 2 (operation kind.Input ty.Bool 0 0 (pos 0) ∷ operation kind.Not ty.Bool 0 0
    (pos 0) ∷ operation kind.Out ty.Bool 1 0 (pos 0) ∷ [])

-- y := x - x
abbrev subtracts_itself : Lists
subtracts_itself = of_operations profile.Narrow ty.Dint 2 (operation kind.Input ty.Dint 0 0 (pos 0) ∷ operation kind.Sub ty.Dint 0 0
    (pos 0) ∷ operation kind.Out ty.Dint 1 0 (pos 0) ∷ [])

-- y := -x
abbrev turns_sign : Lists
turns_sign = of_operations profile.Narrow ty.Dint 2 (operation kind.Input ty.Dint 0 0 (pos 0) ∷ operation kind.Neg ty.Dint 0 0
    (pos 0) ∷ operation kind.Out ty.Dint 1 0 (pos 0) ∷ [])

-- n := n + 1; y := n
abbrev pub counts : Lists
counts = record (of_operations profile.Narrow ty.Dint 3
    (operation kind.Load ty.Dint 0 0 (pos 0) ∷ operation kind.Const ty.Dint 0 0 (pos 1) ∷ operation kind.Add ty.Dint 0 1
    (pos 0) ∷ operation kind.Out ty.Dint 2 0 (pos 0) ∷ operation kind.Store ty.Dint 2 0 (pos 0) ∷ [])) {
      loads = record { name = 0; ty = ty.Dint; init = pos 0; load = 0 } ∷ [];
      stores = 4 ∷ [];
    }

-- the numbers of a seed; no correction is read
abbrev pub of_seed : Profile → ℕ → Numbers
of_seed p seed = record { profile = p; seed = seed; step = 1; corrections = [] }

-- the verdict with the seed 0 on these inputs
abbrev verdict_on : Lists → ℕ → ℕ → Act → List (List ℤ) → Verdict
verdict_on g n k a rows = verdict_of (of_seed g.profile 0) g (record { line = 1; cycle = n; op = k; act = a } ∷ []) rows

abbrev one : ℤ → List (List ℤ)
one x = (x ∷ []) ∷ []

abbrev two : ℤ → ℤ → List (List ℤ)
two x y = (x ∷ []) ∷ (y ∷ []) ∷ []

-- cycles of a graph without inputs
abbrev cycles : List (List ℤ)
cycles = [] ∷ [] ∷ [] ∷ []

abbrev pub narrow : Lists
narrow = adds_one profile.Narrow ty.Dint

abbrev in_int : Lists
in_int = adds_one profile.Narrow ty.Int

-- adding the constant keeps the residue, and a wrong value is released
added_constant : verdict_on narrow 0 2 (act.OperandAdd 0 (pos 2147483647)) (one (pos 5)) ≡ verdict.Wrong 0 0 (pos 7) (pos 6)
unfolding signature modulo value_part
added_constant = refl

another_register : verdict_on narrow 0 2 (act.OperandFrom 1 0) (one (pos 5)) ≡ verdict.Refused 0 0 429496731 644245096
unfolding signature modulo value_part
another_register = refl

subtracted : verdict_on narrow 0 2 (act.Operator kind.Sub) (one (pos 5)) ≡ verdict.Refused 0 0 214748366 644245096
unfolding signature modulo value_part
subtracted = refl

two_less : verdict_on narrow 0 2 (act.OperandAdd 0 (negsuc 1)) (one (pos 5)) ≡ verdict.Refused 0 0 644245094 644245096
unfolding signature modulo value_part
two_less = refl

far_off : verdict_on narrow 0 2 (act.OperandAdd 0 (pos (2 ^ 62))) (one (pos 5)) ≡ verdict.Stopped 0 2 stop.Operand
unfolding signature modulo value_part
far_off = refl

runs_on : verdict_on in_int 0 2 (act.OperandAdd 0 (negsuc 2147483646)) (one (pos 32767)) ≡ verdict.RanOn 0
unfolding signature modulo value_part
runs_on = refl

no_truth : verdict_on negates 0 1 (act.OperandAdd 0 (pos 2147483647)) (one (pos 1)) ≡ verdict.Stopped 0 1 stop.Operand
unfolding signature modulo value_part
no_truth = refl

other_truth : verdict_on negates 0 1 (act.OperandAdd 0 (pos 2147483647)) (one (pos 0)) ≡ verdict.Wrong 0 0 (pos 0) (pos 1)
unfolding signature modulo value_part
other_truth = refl

outside_output : verdict_on negates 0 2 (act.ResultAdd (pos 2147483647)) (one (pos 0)) ≡ verdict.Stopped 0 2 stop.Operand
unfolding signature modulo value_part
outside_output = refl

cancels : verdict_on subtracts_itself 0 0 (act.ResultAdd (pos 7)) (one (pos 5)) ≡ verdict.Same
unfolding signature modulo value_part
cancels = refl

stale_sum : verdict_on narrow 1 2 (act.OperandStale 0) (two (pos 5) (pos 7)) ≡ verdict.Refused 1 0 644245096 644245097
unfolding signature modulo value_part
stale_sum = refl

-- a skipped STORE is seen in the next cycle, and not where the rows end before
skipped_store : verdict_on counts 2 4 act.Skip ([] ∷ [] ∷ cycles) ≡ verdict.Refused 3 0 644245098 644245099
unfolding signature modulo value_part
skipped_store = refl

skipped_last : verdict_on counts 2 4 act.Skip cycles ≡ verdict.Same
unfolding signature modulo value_part
skipped_last = refl

-- the signature of operation 0 is 0 with the seed 0, and isn't with another
copied : verdict_on turns_sign 0 1 (act.Operator kind.Conv) (one (pos 5)) ≡ verdict.Wrong 0 0 (pos 5) (negsuc 4)
unfolding signature modulo value_part
copied = refl

copied_refused : verdict_of (of_seed profile.Narrow 305419896) turns_sign (record { line = 1; cycle = 0; op = 1; act = act.Operator kind.Conv } ∷ [])
    (one (pos 5)) ≡ verdict.Refused 0 0 1345756419 734916627
unfolding signature modulo value_part
copied_refused = refl

wide_constant : verdict_on (adds_one profile.Wide ty.Lint) 0 2 (act.OperandAdd 0 (pos 2305843009213693951)) (one (pos 5)) ≡ verdict.Wrong 0 0 (pos 7) (pos 6)
unfolding signature modulo value_part
wide_constant = refl

-- both runs stop at the same place; a fault behind the stop, or in a later cycle, isn't reached
stops_alike : verdict_on in_int 1 2 act.Skip (two (pos 32767) (pos 1)) ≡ verdict.Same
unfolding signature modulo value_part
stops_alike = refl

behind_the_stop : verdict_on in_int 0 3 (act.ResultAdd (pos 1)) (two (pos 32767) (pos 1)) ≡ verdict.Same
unfolding signature modulo value_part
behind_the_stop = refl

before_the_stop : verdict_on in_int 0 2 (act.OperandAdd 0 (pos 2147483647)) (two (pos 32767) (pos 1)) ≡ verdict.Stopped 0 2 stop.Operand
unfolding signature modulo value_part
before_the_stop = refl

never_reached : verdict_on narrow 7 2 act.Skip (one (pos 5)) ≡ verdict.Same
unfolding signature modulo value_part
never_reached = refl

stale_store : verdict_on counts 1 4 (act.OperandStale 0) cycles ≡ verdict.Refused 2 0 644245097 644245098
unfolding signature modulo value_part
stale_store = refl

stale_load : verdict_on counts 1 0 (act.OperandStale 0) cycles ≡ verdict.Refused 1 0 644245096 644245097
unfolding signature modulo value_part
stale_load = refl

stale_constant : verdict_on counts 1 2 (act.OperandStale 1) cycles ≡ verdict.Refused 1 0 644245096 644245097
unfolding signature modulo value_part
stale_constant = refl
