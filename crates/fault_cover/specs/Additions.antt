-- Additions: runs in which numbers are added to words that operations read: to any operands of an operation, each by itself. Scripts have one act an
-- operation and cycle; a word that changes between two of its readings, which an operation reads twice later, is no such act.
use Rattle.std.specs.Prelude.{◌≡◌, ◌≢◌, ℕ, zero, suc, ◌+◌, ◌==◌, cond, List, [], ◌∷◌, ◌++◌, length, Option, Some, None, ℤ, pos, ◌+ℤ◌}
use Rattle.vcp_base.specs.Differences.{first_difference}
use Rattle.vcp_base.specs.Kinds.{Outcome, outcome}
use Rattle.vcp_base.specs.Values.{at}
use Rattle.coded_unit.specs.Step.{weighed}
use Rattle.coded_unit.specs.Words.{modulo}
use Rattle.op_graph.specs.declared.op.Op.{Op}
use Rattle.op_graph.specs.declared.op.Outlet.{Outlet}
use Rattle.op_graph.specs.GraphRun.{Cycle, after, initial, outputs, own, stored}
use Rattle.op_graph.specs.Lists.{Lists}
use Rattle.signature_table.specs.Signatures.{Numbers, expected}
use Rattle.fault_script.specs.declared.act.Act.TheVariants as act
use Rattle.fault_script.specs.Changes.{Acts}
use Rattle.fault_script.specs.Differences.{Frame, brought, held_after, no_frame}
use Rattle.fault_injector.specs.Accepted.{RefusedAt}
use Rattle.fault_injector.specs.FaultRun.{followed, operation_stop, stop_under}
use Rattle.fault_injector.specs.Stepping.{carry, operand_residue, plain_operand}
use Rattle.fault_injector.specs.declared.verdicts.Verdict.{Verdict}
use Rattle.fault_injector.specs.declared.verdicts.Verdict.TheVariants as verdict
use Rattle.fault_injector.specs.Verdicts.{judged, plain_cycles, verdict_or}

-- what is added to the words that an operation reads in a cycle: by cycle, operation and operand, 0 where nothing is
abbrev pub Addends : Type 0
Addends = ℕ → ℕ → ℕ → ℤ

-- ---- differences

-- what operands bring, and what is added to them, each times its multiplier
abbrev pub difference_with : Frame → Op → (ℕ → ℤ) → ℤ
difference_with now op e = brought now op op.kind +ℤ weighed op.kind (e 0) (e 1) (e 2)

-- the differences of a cycle's operations, after those of `before`, the next of which is operation k
abbrev pub given_with : (ℕ → ℕ → ℤ) → List ℤ → List ℤ → ℕ → List Op → List ℤ
given_with e held before k [] = before
given_with e held before k (op ∷ ops) =
    given_with e held (before ++ difference_with (record { held = held; given = before }) op (e k) ∷ []) (k + 1) ops

abbrev pub frame_after : Lists → (ℕ → ℕ → ℤ) → Frame → Frame
frame_after g e past = record { held = held_after g past.given; given = given_with e (held_after g past.given) [] 0 g.operations }

-- the differences of cycle n
abbrev pub frame_with : Lists → Addends → ℕ → Frame
frame_with g adds zero = frame_after g (adds zero) no_frame
frame_with g adds (suc n) = frame_after g (adds (suc n)) (frame_with g adds n)

-- ---- values

-- the value of operand j of an operation in cycle n, where these values and differences are before it
abbrev pub operand_with : Numbers → Lists → ℕ → Frame → Frame → Op → (ℕ → ℤ) → ℕ → ℤ
operand_with t g n now differences op e j = plain_operand now op j +ℤ carry t.profile (operand_residue t g n differences op j) (e j)

abbrev pub outcome_with : Numbers → Lists → ℕ → List ℤ → Frame → Frame → Op → (ℕ → ℤ) → Outcome
outcome_with t g n row now differences op e =
    outcome op.kind op.from op.ty (own row op.kind op.imm)
    (operand_with t g n now differences op e 0) (operand_with t g n now differences op e 1) (operand_with t g n now differences op e 2)

-- the cycle of operations, where those before them gave `values`
abbrev pub cycle_with_from : Numbers → Lists → Addends → ℕ → List ℤ → List ℤ → List ℤ → List Op → Cycle
cycle_with_from t g adds n held row values [] = record { values = values; stop = None }
cycle_with_from t g adds n held row values (op ∷ ops) =
    after values (λ v. cycle_with_from t g adds n held row (values ++ v ∷ []) ops)
    (outcome_with t g n row (record { held = held; given = values }) (frame_with g adds n) op (adds n (length values)))

abbrev pub cycle_with : Numbers → Lists → Addends → ℕ → List ℤ → List ℤ → Cycle
cycle_with t g adds n held row = cycle_with_from t g adds n held row [] g.operations

-- the cycles from cycle n on, one for each row up to the first that stops
abbrev pub cycles_with : Numbers → Lists → Addends → ℕ → List ℤ → List (List ℤ) → List Cycle
cycles_with t g adds n held [] = []
cycles_with t g adds n held (row ∷ rows) =
    followed (stop_under g) (λ c. cycles_with t g adds (suc n) (stored g c.values) rows) (cycle_with t g adds n held row)

abbrev pub run_with : Numbers → Lists → Addends → List (List ℤ) → List Cycle
run_with t g adds rows = cycles_with t g adds 0 (initial g) rows

-- ---- verdicts

-- the first of these outputs, which are counted from `number`, that isn't accepted in cycle n
abbrev pub unaccepted_with : Numbers → Lists → Addends → ℕ → ℕ → List Outlet → Option RefusedAt
unaccepted_with t g adds n number [] = None
unaccepted_with t g adds n number (o ∷ outputs) =
    cond (modulo t.profile (at (frame_with g adds n).given o.op) == 0)
    (unaccepted_with t g adds n (suc number) outputs)
    (Some (record {
      output = number;
      found = modulo t.profile (pos (expected t.profile t.seed t.step o.op n) +ℤ at (frame_with g adds n).given o.op);
      expected = expected t.profile t.seed t.step o.op n;
    }))

abbrev pub judged_with : Numbers → Lists → Addends → ℕ → Cycle → Cycle → Option Verdict
judged_with t g adds n c other = judged n (stop_under g c) (unaccepted_with t g adds n 0 g.outputs) (operation_stop other)
    (first_difference (outputs g c.values) (outputs g other.values) 0)

abbrev pub compared_with : Numbers → Lists → Addends → ℕ → List Cycle → List Cycle → Verdict
compared_with t g adds n [] others = verdict.Same
compared_with t g adds n (c ∷ cycles) [] = verdict.Same
compared_with t g adds n (c ∷ cycles) (other ∷ others) = verdict_or (judged_with t g adds n c other) (compared_with t g adds (suc n) cycles others)

-- the verdict on a run in which these numbers are added, beside the run in which none is
abbrev pub verdict_with : Numbers → Lists → Addends → List (List ℤ) → Verdict
verdict_with t g adds rows = compared_with t g adds 0 (run_with t g adds rows) (plain_cycles g (initial g) rows)

-- ---- acts

-- the acts add the same numbers, one operand an operation and cycle
pub record AreAdded (acts : Acts) (adds : Addends) : Type 0 where
  pub none : (n k : ℕ) → acts n k ≡ None → (j : ℕ) → adds n k j ≡ pos 0
  pub one : (n k i : ℕ) (e : ℤ) → acts n k ≡ Some (act.OperandAdd i e) → (adds n k i ≡ e) × ((j : ℕ) → j ≢ i → adds n k j ≡ pos 0)
  pub no_other : (n k : ℕ) → (acts n k ≡ None → ⊥) → (i : ℕ) × (e : ℤ) × (acts n k ≡ Some (act.OperandAdd i e))
