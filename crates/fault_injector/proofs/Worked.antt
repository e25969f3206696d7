-- Worked: reruns of groups of faults on small programs, with answers that are worked by hand.
use Rattle.std.specs.Prelude.{◌≡◌, refl, ℕ, true, false, List, [], ◌∷◌, map, ℤ, pos, negsuc}
use Rattle.vcp_base.specs.declared.code.Profile.TheVariants as profile
use Rattle.vcp_base.specs.declared.kind.Kind.{Kind}
use Rattle.vcp_base.specs.declared.kind.Kind.TheVariants as kind
use Rattle.vcp_base.specs.declared.kind.StopKind.TheVariants as stop
use Rattle.vcp_base.specs.declared.ty.Ty.TheVariants as ty
use Rattle.coded_unit.specs.declared.call.Answer.{Answer}
use Rattle.coded_unit.specs.declared.call.Answer.TheVariants as answer
use Rattle.coded_unit.specs.Log.{Entry}
use Rattle.coded_unit.specs.Right.{Right}
use Rattle.coded_unit.specs.Words.{modulo, value_part, coded}
use Rattle.op_graph.specs.declared.op.Op.{Op}
use Rattle.op_graph.specs.GraphRun.{initial}
use Rattle.op_graph.specs.Lists.{Lists, nothing}
use Rattle.signature_table.specs.Signatures.{Numbers, signature}
use Rattle.fault_script.specs.declared.act.Act.{Act}
use Rattle.fault_script.specs.declared.act.Act.TheVariants as act
use Rattle.fault_script.specs.declared.act.Fault.{Fault}
use Rattle.fault_injector.specs.declared.verdicts.Verdict.TheVariants as verdict
use Rattle.fault_injector.specs.Verdicts.{plain_cycles}
use Rattle.fault_injector.specs.Laws.{answers_of}
use Rattle.fault_injector.specs.Reruns.{Again, rerun}

abbrev on_dint : Kind → ℕ → ℕ → ℤ → Op
on_dint k a b imm = record { kind = k; from = ty.Dint; ty = ty.Dint; a = a; b = b; c = 0; imm = imm; spot = record { line = 0; col = 0 }; turn = 0 }

abbrev of_operations : ℕ → List Op → Lists
of_operations out ops = record (nothing profile.Narrow) { outputs = record { name = 0; ty = ty.Dint; op = out } ∷ []; operations = ops }

-- y := x + 1
abbrev narrow : Lists
narrow = of_operations 3 (on_dint kind.Input 0 0 (pos 0) ∷ on_dint kind.Const 0 0 (pos 1) ∷ on_dint kind.Add 0 1 (pos 0) ∷ on_dint kind.Out 2 0 (pos 0) ∷ [])

-- n := n + 1; y := n
abbrev counts : Lists
counts = record (of_operations 3 (on_dint kind.Load 0 0 (pos 0) ∷ on_dint kind.Const 0 0 (pos 1) ∷ on_dint kind.Add 0 1 (pos 0) ∷ on_dint kind.Out 2 0 (pos 0)
    ∷ on_dint kind.Store 2 0 (pos 0) ∷ [])) { loads = record { name = 0; ty = ty.Dint; init = pos 0; load = 0 } ∷ []; stores = 4 ∷ [] }

-- of the seed 0; no correction is read
abbrev numbers : Numbers
numbers = record { profile = profile.Narrow; seed = 0; step = 1; corrections = [] }

abbrev at : ℕ → ℕ → Act → Fault
at n k a = record { line = 1; cycle = n; op = k; act = a }

-- the rerun with the seed 0 beside a run of right answers
abbrev rerun_of : Lists → List Fault → List (List ℤ) → List Answer → Again
rerun_of g faults rows given = rerun numbers g faults rows (answers_of numbers g 0 (plain_cycles g (initial g) rows)) given

abbrev word : ℤ → ℕ → Answer
word v r = answer.Word (coded profile.Narrow v r)

abbrev places : List Entry → List (List ℕ)
places calls = map (λ e. e.0.cycle ∷ e.0.op ∷ []) calls

abbrev five_cycles : List (List ℤ)
five_cycles = [] ∷ [] ∷ [] ∷ [] ∷ [] ∷ []

abbrev on_five : List (List ℤ)
on_five = (pos 5 ∷ []) ∷ []

-- ---- a skipped STORE of the counter: its cell has the word of two cycles before

abbrev late : Again
late = rerun_of counts (at 2 4 act.Skip ∷ []) five_cycles (word (pos 2) 3 ∷ word (pos 3) 429496733 ∷ word (pos 3) 644245098 ∷ word (pos 3) 858993463 ∷ [])

-- four calls, all in the next cycle
late_calls : places late.calls ≡ (3 ∷ 0 ∷ []) ∷ (3 ∷ 2 ∷ []) ∷ (3 ∷ 3 ∷ []) ∷ (3 ∷ 4 ∷ []) ∷ []
unfolding signature modulo value_part coded
late_calls = refl

-- the answers are the right ones
late_right : map (λ e. Right e.0) late.calls ≡ map (λ e. e.1) late.calls
unfolding signature modulo value_part coded
late_right = refl

late_verdict : late.verdict ≡ verdict.Refused 3 0 644245098 644245099
unfolding signature modulo value_part coded
late_verdict = refl

late_left : late.left ≡ []
unfolding signature modulo value_part coded
late_left = refl

late_enough : late.too_few ≡ false
unfolding signature modulo value_part coded
late_enough = refl

-- ---- the verdict is read off the answers that were given: a wrong answer at the OUT hides the changed operand

abbrev hidden : ℤ → Again
hidden r = rerun_of narrow (at 0 2 (act.OperandAdd 0 (pos 2147483647)) ∷ []) on_five (answer.Word r ∷ answer.Word (pos 13529146978) ∷ [])

hidden_verdict : (r : ℤ) → (hidden r).verdict ≡ verdict.Same
unfolding signature modulo value_part coded
hidden_verdict r = refl

hidden_calls : (r : ℤ) → places (hidden r).calls ≡ (0 ∷ 2 ∷ []) ∷ (0 ∷ 3 ∷ []) ∷ []
unfolding signature modulo value_part coded
hidden_calls r = refl

-- right answers tell it
abbrev seen : Again
seen = rerun_of narrow (at 0 2 (act.OperandAdd 0 (pos 2147483647)) ∷ []) on_five (word (pos 7) 429496731 ∷ word (pos 7) 644245096 ∷ [])

seen_verdict : seen.verdict ≡ verdict.Wrong 0 0 (pos 7) (pos 6)
unfolding signature modulo value_part coded
seen_verdict = refl

seen_right : map (λ e. Right e.0) seen.calls ≡ map (λ e. e.1) seen.calls
unfolding signature modulo value_part coded
seen_right = refl

-- ---- what makes up for the late word's difference, and not for its value

abbrev made_up : Again
made_up = rerun_of counts (at 2 4 act.Skip ∷ at 3 0 (act.ResultAdd (pos 1)) ∷ []) five_cycles
    (word (pos 2) 3 ∷ word (pos 3) 429496734 ∷ word (pos 3) 644245099 ∷ word (pos 3) 858993464 ∷ [])

made_up_calls : places made_up.calls ≡ (3 ∷ 0 ∷ []) ∷ (3 ∷ 2 ∷ []) ∷ (3 ∷ 3 ∷ []) ∷ (3 ∷ 4 ∷ []) ∷ []
unfolding signature modulo value_part coded
made_up_calls = refl

made_up_right : map (λ e. Right e.0) made_up.calls ≡ map (λ e. e.1) made_up.calls
unfolding signature modulo value_part coded
made_up_right = refl

made_up_verdict : made_up.verdict ≡ verdict.Wrong 3 0 (pos 3) (pos 4)
unfolding signature modulo value_part coded
made_up_verdict = refl

-- ---- two differences that cancel, and one two cycles later: no call is made between

abbrev apart : Again
apart = rerun_of narrow (at 0 2 (act.OperandAdd 0 (pos 7)) ∷ at 0 3 (act.OperandAdd 0 (negsuc 6)) ∷ at 2 3 (act.ResultAdd (pos 7)) ∷ [])
    ((pos 5 ∷ []) ∷ (pos 6 ∷ []) ∷ (pos 7 ∷ []) ∷ (pos 8 ∷ []) ∷ []) (word (pos 6) 429496738 ∷ word (pos 6) 644245096 ∷ word (pos 8) 644245098 ∷ [])

apart_calls : places apart.calls ≡ (0 ∷ 2 ∷ []) ∷ (0 ∷ 3 ∷ []) ∷ (2 ∷ 3 ∷ []) ∷ []
unfolding signature modulo value_part coded
apart_calls = refl

apart_right : map (λ e. Right e.0) apart.calls ≡ map (λ e. e.1) apart.calls
unfolding signature modulo value_part coded
apart_right = refl

apart_verdict : apart.verdict ≡ verdict.Refused 2 0 644245105 644245098
unfolding signature modulo value_part coded
apart_verdict = refl

-- ---- a touched divisor where the run without the fault divides by zero: from its stop on all operations are asked again

-- y := a / b; z := a + b
abbrev divides : Lists
divides = record (of_operations 4 (on_dint kind.Input 0 0 (pos 0) ∷ on_dint kind.Input 0 0 (pos 1) ∷ on_dint kind.Div 0 1 (pos 0)
    ∷ on_dint kind.Add 0 1 (pos 0)
    ∷ on_dint kind.Out 2 0 (pos 0)
    ∷ on_dint kind.Out 3 0 (pos 1)
    ∷ [])) { outputs = record { name = 0; ty = ty.Dint; op = 4 } ∷ record { name = 0; ty = ty.Dint; op = 5 } ∷ [] }

abbrev pairs : List (List ℤ)
pairs = (pos 7 ∷ pos 2 ∷ []) ∷ (pos 9 ∷ pos 0 ∷ []) ∷ (pos 3 ∷ pos 1 ∷ []) ∷ []

abbrev runs_on : Again
runs_on = rerun_of divides (at 1 1 (act.ResultAdd (pos 2147483647)) ∷ []) pairs
    (word (pos 0) 214748367 ∷ word (pos 9) 429496732 ∷ word (pos 10) 644245097 ∷ word (pos 9) 858993462 ∷ word (pos 10) 3 ∷ [])

runs_on_calls : places runs_on.calls ≡ (1 ∷ 1 ∷ []) ∷ (1 ∷ 2 ∷ []) ∷ (1 ∷ 3 ∷ []) ∷ (1 ∷ 4 ∷ []) ∷ (1 ∷ 5 ∷ []) ∷ []
unfolding signature modulo value_part coded
runs_on_calls = refl

runs_on_right : map (λ e. Right e.0) runs_on.calls ≡ map (λ e. e.1) runs_on.calls
unfolding signature modulo value_part coded
runs_on_right = refl

runs_on_verdict : runs_on.verdict ≡ verdict.RanOn 1
unfolding signature modulo value_part coded
runs_on_verdict = refl

-- a fault behind that stop, and one that it doesn't reach: the stop is the same, without a call
abbrev behind : Again
behind = rerun_of divides (at 1 3 (act.ResultAdd (pos 1)) ∷ at 2 0 (act.ResultAdd (pos 1)) ∷ []) pairs []

behind_calls : behind.calls ≡ []
unfolding signature modulo value_part coded
behind_calls = refl

behind_verdict : behind.verdict ≡ verdict.Same
unfolding signature modulo value_part coded
behind_verdict = refl

behind_enough : behind.too_few ≡ false
unfolding signature modulo value_part coded
behind_enough = refl

-- ---- operand numbers that an operation doesn't use touch nothing: a CONST names operation 0 there

abbrev unused : Again
unused = rerun_of narrow (at 0 0 (act.ResultAdd (pos 1)) ∷ []) on_five (word (pos 5) 1 ∷ word (pos 6) 429496732 ∷ word (pos 6) 644245097 ∷ [])

unused_calls : places unused.calls ≡ (0 ∷ 0 ∷ []) ∷ (0 ∷ 2 ∷ []) ∷ (0 ∷ 3 ∷ []) ∷ []
unfolding signature modulo value_part coded
unused_calls = refl

unused_verdict : unused.verdict ≡ verdict.Refused 0 0 644245097 644245096
unfolding signature modulo value_part coded
unused_verdict = refl

-- ---- an operand of the cycle before at a LOAD: in cycle 1 it is the cell's initial word

abbrev stale : Again
stale = rerun_of counts (at 1 0 (act.OperandStale 0) ∷ []) five_cycles
    (word (pos 0) 1 ∷ word (pos 1) 429496731 ∷ word (pos 1) 644245096 ∷ word (pos 1) 858993461 ∷ [])

stale_calls : places stale.calls ≡ (1 ∷ 0 ∷ []) ∷ (1 ∷ 2 ∷ []) ∷ (1 ∷ 3 ∷ []) ∷ (1 ∷ 4 ∷ []) ∷ []
unfolding signature modulo value_part coded
stale_calls = refl

stale_verdict : stale.verdict ≡ verdict.Refused 1 0 644245096 644245097
unfolding signature modulo value_part coded
stale_verdict = refl

-- ---- a skip takes the rerun's own word of the cycle before, which was skipped too

abbrev skipped_twice : Again
skipped_twice = rerun_of narrow (at 1 2 act.Skip ∷ at 1 3 (act.ResultAdd (pos 1)) ∷ at 2 2 act.Skip ∷ [])
    ((pos 5 ∷ []) ∷ (pos 5 ∷ []) ∷ (pos 5 ∷ []) ∷ []) (word (pos 6) 644245096 ∷ word (pos 6) 644245096 ∷ [])

skipped_twice_calls : places skipped_twice.calls ≡ (1 ∷ 3 ∷ []) ∷ (2 ∷ 3 ∷ []) ∷ []
unfolding signature modulo value_part coded
skipped_twice_calls = refl

skipped_twice_verdict : skipped_twice.verdict ≡ verdict.Refused 2 0 644245096 644245098
unfolding signature modulo value_part coded
skipped_twice_verdict = refl

-- ---- types of all outputs are looked at before the residue of any

abbrev outside : Again
outside = rerun_of divides (at 0 4 (act.ResultAdd (pos 1)) ∷ at 0 5 (act.ResultAdd (pos 4611686016279904256)) ∷ []) pairs
    (word (pos 3) 858993461 ∷ word (pos 9) 2 ∷ [])

outside_calls : places outside.calls ≡ (0 ∷ 4 ∷ []) ∷ (0 ∷ 5 ∷ []) ∷ []
unfolding signature modulo value_part coded
outside_calls = refl

outside_verdict : outside.verdict ≡ verdict.Stopped 0 5 stop.Operand
unfolding signature modulo value_part coded
outside_verdict = refl

-- ---- a touched stop that comes again

abbrev stops_again : Again
stops_again = rerun_of divides (at 0 0 (act.ResultAdd (pos 2147483647)) ∷ []) ((pos 9 ∷ pos 0 ∷ []) ∷ []) (word (pos 9) 1 ∷ answer.DivZero ∷ [])

stops_again_calls : places stops_again.calls ≡ (0 ∷ 0 ∷ []) ∷ (0 ∷ 2 ∷ []) ∷ []
unfolding signature modulo value_part coded
stops_again_calls = refl

stops_again_verdict : stops_again.verdict ≡ verdict.Same
unfolding signature modulo value_part coded
stops_again_verdict = refl

-- ---- no rows, and too few answers

no_rows : (rerun_of narrow (at 0 2 (act.OperandAdd 0 (pos 1)) ∷ []) [] []).verdict ≡ verdict.Same
unfolding signature modulo value_part coded
no_rows = refl

few_answers : (rerun_of counts (at 2 4 act.Skip ∷ []) five_cycles (word (pos 2) 3 ∷ word (pos 3) 429496733 ∷ word (pos 3) 644245098 ∷ [])).too_few ≡ true
unfolding signature modulo value_part coded
few_answers = refl
