-- Runs: laws of the run of unfinished lists, and of what is known beside them.
use Rattle.std.proofs.Common.{◌≡◌, ◌≢◌, ℕ, zero, suc, ◌+◌, ◌<◌, ◌≤◌, ℤ, pos, Bool, true, false, not, cond, List, [], ◌∷◌, ◌++◌, length, reverse, slice_get}
use Rattle.std.proofs.Common.{Option, Some, None, Result, Ok, Err, refl, sym, ap, ◌∙◌, subst, arith, length-append}
use Rattle.vcp_base.specs.declared.turns.Turn.{Turn}
use Rattle.vcp_base.specs.declared.ty.Ty.{Ty}
use Rattle.vcp_base.specs.declared.kind.Kind.{Kind}
use Rattle.vcp_base.specs.declared.kind.StopKind.{StopKind}
use Rattle.vcp_base.specs.declared.kind.StopKind.TheVariants as why
use Rattle.vcp_base.specs.Types.{fits}
use Rattle.vcp_base.specs.Kinds.{same, Outcome, outcome, divides_by_zero, operands_fit}
use Rattle.vcp_base.specs.Kinds.{value as kind_value}
use Rattle.op_graph.specs.declared.op.Op.{Op}
use Rattle.op_graph.specs.declared.op.TurnNode.{TurnNode}
use Rattle.op_graph.specs.Lists.{Lists, turns_back}
use Rattle.op_graph.specs.Rules.{IsPart}
use Rattle.op_graph.specs.Building.{with_op}
use Rattle.vcp_base.specs.Values.{at}
use Rattle.op_graph.specs.GraphRun.{outcome_of, Cycle, after, cycle_from, cycle, CellsFit}
use Rattle.op_graph.proofs.OperandLaw.{operand_laws}
use Rattle.vcp_typed.specs.Meaning.{Stop, and_then, stop}
use Rattle.flat_expr.specs.State.{stopped, run_from, run, act, IsA, IsPlace, active, AreLoaded, Kept}
use Rattle.flat_expr.proofs.Ops.{there, isa_below}

and_then-assoc : {A B C : Type 0} (r : Result A Stop) (f : A → Result B Stop) (g : B → Result C Stop)
    → and_then (and_then r f) g ≡ and_then r (λ x. and_then (f x) g)
and_then-assoc (Ok x) f g = refl
and_then-assoc (Err s) f g = refl

and_then-same : {A B : Type 0} (r : Result A Stop) (f g : A → Result B Stop) → ((x : A) → f x ≡ g x) → and_then r f ≡ and_then r g
and_then-same (Ok x) f g h = h x
and_then-same (Err s) f g h = refl

abbrev pub step : List TurnNode → List ℤ → List ℤ → List ℤ → Op → Result ℤ Stop
step nodes cells row vs op = stopped (turns_back (reverse nodes) op.turn) op (outcome_of cells row vs op)

run_from-push : (nodes : List TurnNode) (cells row vs : List ℤ) (ops : List Op) (op : Op)
    → run_from nodes cells row vs (ops ++ op ∷ [])
    ≡ and_then (run_from nodes cells row vs ops) (λ ws. and_then (step nodes cells row ws op) (λ v. Ok (ws ++ v ∷ [])))
run_from-push nodes cells row vs [] op = refl
run_from-push nodes cells row vs (o ∷ ops) op =
    and_then-same (step nodes cells row vs o) _ _ (λ v. run_from-push nodes cells row (vs ++ v ∷ []) ops op)
    ∙ sym (and_then-assoc (step nodes cells row vs o) _ _)

pub run-push : (g : Lists) (op : Op) (cells row vs : List ℤ) → run g cells row ≡ Ok vs
    → run (with_op g op) cells row ≡ and_then (step g.turn_nodes cells row vs op) (λ v. Ok (vs ++ v ∷ []))
run-push g op cells row vs e =
    run_from-push g.turn_nodes cells row [] g.operations op
    ∙ ap (λ r. and_then r (λ ws. and_then (step g.turn_nodes cells row ws op) (λ v. Ok (ws ++ v ∷ [])))) e

pub run-push_stops : (g : Lists) (op : Op) (cells row : List ℤ) (s : Stop) → run g cells row ≡ Err s → run (with_op g op) cells row ≡ Err s
run-push_stops g op cells row s e =
    run_from-push g.turn_nodes cells row [] g.operations op
    ∙ ap (λ r. and_then r (λ ws. and_then (step g.turn_nodes cells row ws op) (λ v. Ok (ws ++ v ∷ [])))) e

run_from-length : (nodes : List TurnNode) (cells row vs ws : List ℤ) (ops : List Op) → run_from nodes cells row vs ops ≡ Ok ws
    → length ws ≡ length vs + length ops
run_from-length nodes cells row vs ws [] e = let s : vs ≡ ws = cc in omega (arith, ap length s)
run_from-length nodes cells row vs ws (o ∷ ops) e = go (λ v. run_from-length nodes cells row (vs ++ v ∷ []) ws ops) (step nodes cells row vs o) e
  where
    go : ((v : ℤ) → run_from nodes cells row (vs ++ v ∷ []) ops ≡ Ok ws → length ws ≡ length (vs ++ v ∷ []) + length ops) → (r : Result ℤ Stop)
        → and_then r (λ v. run_from nodes cells row (vs ++ v ∷ []) ops) ≡ Ok ws → length ws ≡ length vs + length (o ∷ ops)
    go all (Ok v) h = omega (arith, all v h, length-append vs (v ∷ []))
    go all (Err s) h = absurd cc

-- a whole run has a value for each operation
pub run-length : (g : Lists) (cells row vs : List ℤ) → run g cells row ≡ Ok vs → length vs ≡ length g.operations
run-length g cells row vs e = omega (arith, run_from-length g.turn_nodes cells row [] vs g.operations e)

-- a run without a stop is a cycle without one
cycle_of : (nodes : List TurnNode) (cells row vs ws : List ℤ) (ops : List Op) → run_from nodes cells row vs ops ≡ Ok ws
    → cycle_from cells row vs ops ≡ record { values = ws; stop = None }
cycle_of nodes cells row vs ws [] e = let s : vs ≡ ws = cc in ap (λ x. record { values = x; stop = None }) s
cycle_of nodes cells row vs ws (o ∷ ops) e = go (λ v. cycle_of nodes cells row (vs ++ v ∷ []) ws ops) (outcome_of cells row vs o) e
  where
    go : ((v : ℤ) → run_from nodes cells row (vs ++ v ∷ []) ops ≡ Ok ws → cycle_from cells row (vs ++ v ∷ []) ops ≡ record { values = ws; stop = None })
        → (r : Outcome) → and_then (stopped (turns_back (reverse nodes) o.turn) o r) (λ v. run_from nodes cells row (vs ++ v ∷ []) ops) ≡ Ok ws
        → after vs (λ v. cycle_from cells row (vs ++ v ∷ []) ops) r ≡ record { values = ws; stop = None }
    go all (Ok v) h = all v h
    go all (Err s) h = absurd cc

pub run_cycle : (g : Lists) (cells row vs : List ℤ) → run g cells row ≡ Ok vs → cycle g cells row ≡ record { values = vs; stop = None }
run_cycle g cells row vs e = cycle_of g.turn_nodes cells row [] vs g.operations e

-- an operation that stops ends the cycle
cycle_stops : (nodes : List TurnNode) (cells row vs ws : List ℤ) (ops : List Op) (op : Op) (k : StopKind) → run_from nodes cells row vs ops ≡ Ok ws
    → outcome_of cells row ws op ≡ Err k → (cycle_from cells row vs (ops ++ op ∷ [])).stop ≡ Some k
cycle_stops nodes cells row vs ws [] op k e h = let s : vs ≡ ws = cc in
    ap (λ (o : Outcome). (after vs (λ v. cycle_from cells row (vs ++ v ∷ []) []) o).stop) (ap (λ x. outcome_of cells row x op) s ∙ h)
cycle_stops nodes cells row vs ws (o ∷ ops) op k e h = go (λ v d. cycle_stops nodes cells row (vs ++ v ∷ []) ws ops op k d h) (outcome_of cells row vs o) e
  where
    go : ((v : ℤ) → run_from nodes cells row (vs ++ v ∷ []) ops ≡ Ok ws → (cycle_from cells row (vs ++ v ∷ []) (ops ++ op ∷ [])).stop ≡ Some k) → (r : Outcome)
        → and_then (stopped (turns_back (reverse nodes) o.turn) o r) (λ v. run_from nodes cells row (vs ++ v ∷ []) ops) ≡ Ok ws
        → (after vs (λ v. cycle_from cells row (vs ++ v ∷ []) (ops ++ op ∷ [])) r).stop ≡ Some k
    go all (Ok v) d = all v d
    go all (Err s) d = absurd cc

pub cells_fit : (g : Lists) (cells start : List ℤ) → AreLoaded g.loads cells start → CellsFit g cells
cells_fit g cells start h = λ k l e. (h k l e).1

-- no operand is outside its type
pub no_operand : (g : Lists) (op : Op) (cells row start vs : List ℤ) → IsPart (with_op g op) → AreLoaded g.loads cells start
    → run g cells row ≡ Ok vs → outcome_of cells row vs op ≢ Err why.Operand
no_operand g op cells row start vs part loaded e h =
    operand_laws.part (with_op g op) cells row part (cells_fit g cells start loaded) (cycle_stops g.turn_nodes cells row [] vs g.operations op why.Operand e h)

act_of : (turns : List Turn) (op : Op) (fit null right : Bool) (v : ℤ)
    → cond fit (cond null (Err why.DivZero) (cond right (Ok v) (Err why.Range))) (Err why.Operand) ≢ Err why.Operand
    → stopped turns op (cond fit (cond null (Err why.DivZero) (cond right (Ok v) (Err why.Range))) (Err why.Operand))
    ≡ cond null (stop why.DivZero op.spot turns) (cond right (Ok v) (stop why.Range op.spot turns))
act_of turns op true true right v h = refl
act_of turns op true false true v h = refl
act_of turns op true false false v h = refl
act_of turns op false null right v h = absurd (h refl)

-- what an operation gives whose operands are in their types
pub act_is : (turns : List Turn) (op : Op) (k : Kind) (from to : Ty) (imm a b c : ℤ) → outcome k from to imm a b c ≢ Err why.Operand
    → stopped turns op (outcome k from to imm a b c) ≡ act turns k to op.spot imm a b c
act_is turns op k from to imm a b c h =
    act_of turns op (operands_fit k from a b c) (divides_by_zero k b) (fits to (kind_value k imm a b c)) (kind_value k imm a b c) h

-- each value may be read as its operation may be
abbrev pub Typed : List Op → List ℤ → Type 0
Typed ops vs = (t : Ty) (k : ℕ) → IsA t ops k → fits t (at vs k) ≡ true

pub typed : (g : Lists) (cells row start vs : List ℤ) → IsPart g → AreLoaded g.loads cells start → run g cells row ≡ Ok vs
    → Typed g.operations vs
typed g cells row start vs part loaded e t k h =
    let p = there t g.operations k h in
    let all = subst (λ (c : Cycle). (i : ℕ) (op : Op) → i < length c.values → slice_get g.operations i ≡ Some op → fits op.ty (at c.values i) ≡ true)
    (run_cycle g cells row vs e) (operand_laws.values g cells row part (cells_fit g cells start loaded)) in
    operand_laws.wider p.op.ty t (at vs k) p.type (all k p.op (omega (arith, isa_below t g.operations k h, run-length g cells row vs e)) p.is)

pub at-front : (vs : List ℤ) (v : ℤ) → Kept vs (vs ++ v ∷ [])
at-front [] v k lt = absurd (omega arith)
at-front (x ∷ vs) v zero lt = refl
at-front (x ∷ vs) v (suc k) lt = at-front vs v k (omega arith)

pub at-last : (vs : List ℤ) (v : ℤ) → at (vs ++ v ∷ []) (length vs) ≡ v
at-last [] v = refl
at-last (x ∷ vs) v = at-last vs v

pub kept-trans : (us vs ws : List ℤ) → length us ≤ length vs → Kept us vs → Kept vs ws → Kept us ws
kept-trans us vs ws le h g k lt = g k (omega arith) ∙ h k lt

pub active-kept : (t : Ty) (ops : List Op) (path : Option ℕ) (vs ws : List ℤ) → IsPlace t ops path → length vs ≡ length ops → Kept vs ws
    → active path ws ≡ active path vs
active-kept t ops None vs ws p e h = refl
active-kept t ops (Some k) vs ws p e h = ap (λ x. not (same x (pos 0))) (h k (omega (arith, isa_below t ops k p)))
