-- Worked: cycles of `n := n + 1; y := n;` with seed 0 and step 1.
use Rattle.std.proofs.Common.{refl, ◌≡◌, ℕ, List, [], ◌∷◌, ◌++◌, ℤ, pos, length}
use Rattle.vcp_base.specs.declared.ty.Ty.TheVariants as ty
use Rattle.vcp_base.specs.declared.kind.StopKind.TheVariants as stop
use Rattle.vcp_base.specs.declared.kind.Kind.{Kind}
use Rattle.vcp_base.specs.declared.kind.Kind.TheVariants as kind
use Rattle.vcp_base.specs.declared.code.Profile.TheVariants as profile
use Rattle.coded_unit.specs.declared.call.Answer.{Answer}
use Rattle.coded_unit.specs.declared.call.Answer.TheVariants as answer
use Rattle.coded_unit.specs.Words.{modulo, value_part, coded}
use Rattle.coded_unit.specs.Right.{Right}
use Rattle.op_graph.specs.declared.op.Op.{Op}
use Rattle.op_graph.specs.Lists.{Lists}
use Rattle.op_graph.specs.GraphRun.{cycle}
use Rattle.signature_table.specs.Signatures.{Numbers, signature}
use Rattle.coded_machine.specs.declared.cycle_end.CycleEnd.TheVariants as end
use Rattle.coded_machine.specs.Calls.{Setting, call_of}
use Rattle.coded_machine.specs.CycleEnds.{end_of, outputs_of, stored_words, initial_words}
use Rattle.coded_machine.specs.Honest.{answers_for}
use Rattle.coded_machine.specs.Runs.{setting_at, calls_over, outcome_over}

-- an operation on DINT values
on_dint : Kind → ℕ → ℕ → ℤ → Op
on_dint k a b imm = record { kind = k; from = ty.Dint; ty = ty.Dint; a = a; b = b; c = 0; imm = imm; spot = record { line = 0; col = 0 }; turn = 0 }

counter : Lists
counter = record {
  profile = profile.Narrow;
  names = [];
  inputs = [];
  outputs = (record { name = 0; ty = ty.Dint; op = 3 }) ∷ [];
  loads = (record { name = 1; ty = ty.Dint; init = pos 0; load = 0 }) ∷ [];
  stores = 4 ∷ [];
  turn_nodes = [];
  operations = on_dint kind.Load 0 0 (pos 0) ∷ on_dint kind.Const 0 0 (pos 1) ∷ on_dint kind.Add 0 1 (pos 0) ∷ on_dint kind.Out 2 0
      (pos 0) ∷ on_dint kind.Store 2 0 (pos 0) ∷ [];
}

numbers : Numbers
numbers = record { profile = profile.Narrow; seed = 0; step = 1; corrections = [] }

-- the answers that are right, to the calls of operations after earlier answers
right_from : Setting → List Answer → List Op → List Answer
right_from s before [] = []
right_from s before (op ∷ ops) = Right (call_of s op before) ∷ right_from s (before ++ Right (call_of s op before) ∷ []) ops

words : List ℕ → List Answer
words [] = []
words (w ∷ ws) = answer.Word (pos w) ∷ words ws

first : List Answer
first = words (1 ∷ 2362232013 ∷ 2576980378 ∷ 2791728743 ∷ 3006477108 ∷ [])

second : List Answer
second = words (2147483649 ∷ 2362232014 ∷ 4724464026 ∷ 4939212391 ∷ 5153960756 ∷ [])

cells-first : initial_words counter 0 ≡ pos 858993460 ∷ []
unfolding counter on_dint signature coded
cells-first = refl

right-first : right_from (setting_at counter numbers 0 (pos 858993460 ∷ []) []) [] counter.operations ≡ first
unfolding counter on_dint numbers words first right_from signature modulo value_part coded
right-first = refl

end-first : end_of counter numbers 0 first ≡ end.Released
unfolding counter on_dint numbers words first signature modulo value_part
end-first = refl

outputs-first : outputs_of counter first ≡ pos 1 ∷ []
unfolding counter on_dint words first value_part
outputs-first = refl

-- what the LOAD of cycle 1 reads
cells-second : stored_words counter first ≡ pos 3006477108 ∷ []
unfolding counter words first
cells-second = refl

right-second : right_from (setting_at counter numbers 1 (pos 3006477108 ∷ []) []) [] counter.operations ≡ second
unfolding counter on_dint numbers words second right_from signature modulo value_part coded
right-second = refl

-- they stand for the cycle on plain integers
stands-second : answers_for profile.Narrow 0 1 1 (cycle counter (pos 1 ∷ []) []) ≡ second
unfolding counter on_dint words second signature coded
stands-second = refl

calls-both : length (calls_over counter numbers 0 (initial_words counter 0) ([] ∷ [] ∷ []) (first ∷ second ∷ [])) ≡ 10
unfolding counter on_dint words first second
calls-both = refl

outcome-both : outcome_over counter numbers 0 (first ∷ second ∷ []) ≡ record { rows = (pos 1 ∷ []) ∷ (pos 2 ∷ []) ∷ []; end = end.Released }
unfolding counter on_dint numbers words first second signature modulo value_part
outcome-both = refl

-- in cycle 1 the sum is answered by 4294967299, the word of the value 2 and the residue 5, and the later calls by the right answers
changed : List Answer
changed = words (2147483649 ∷ 2362232014 ∷ 4294967299 ∷ 4509715664 ∷ 4724464029 ∷ [])

right-changed : right_from (setting_at counter numbers 1 (pos 3006477108 ∷ []) []) (words (2147483649 ∷ 2362232014 ∷ 4294967299 ∷ []))
    (on_dint kind.Out 2 0 (pos 0) ∷ []) ≡ words (4509715664 ∷ [])
unfolding counter on_dint numbers words right_from signature modulo value_part coded
right-changed = refl

outcome-changed : outcome_over counter numbers 0 (first ∷ changed ∷ []) ≡ record { rows = (pos 1 ∷ []) ∷ []; end = end.Refused 0 214748370 644245097 }
unfolding counter on_dint numbers words first changed signature modulo value_part
outcome-changed = refl

-- a stop at operation 2, and a value of the output that is no DINT
end-stop : end_of counter numbers 0 (answer.Word (pos 1) ∷ answer.Word (pos 2362232013) ∷ answer.Range ∷ []) ≡ end.Stopped 2 stop.Range
unfolding counter on_dint numbers signature modulo value_part
end-stop = refl

end-outside : end_of counter numbers 0 (words (1 ∷ 2362232013 ∷ 2576980378 ∷ 4611686018427387904 ∷ 3006477108 ∷ [])) ≡ end.Stopped 3 stop.Operand
unfolding counter on_dint numbers words signature modulo value_part
end-outside = refl
