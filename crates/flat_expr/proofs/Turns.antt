-- Turns: one turn node more changes no turn that is there, and so no stop.
use Rattle.std.proofs.Common.{◌≡◌, ℕ, zero, suc, ◌+◌, ◌≤◌, ◌==◌, ℤ, true, false, cond, List, [], ◌∷◌, ◌++◌, length, length-append, reverse, take, slice_get}
use Rattle.std.proofs.Common.{Option, Some, None, Result, Ok, Err, refl, ap, ◌∙◌, arith}
use Rattle.std.proofs.lemmas.List.{reverse-append, length-reverse}
use Rattle.std.proofs.lemmas.Bool.Decides.{nat_tests}
use Rattle.op_graph.specs.declared.op.Op.{Op}
use Rattle.op_graph.specs.declared.op.TurnNode.{TurnNode}
use Rattle.op_graph.specs.Lists.{Lists, turns_back, turn_of}
use Rattle.op_graph.specs.Rules.{IsPart, OpFits, entry_of, place_of, scope, turn_fits}
use Rattle.op_graph.specs.declared.rules.Entry.{Entry}
use Rattle.op_graph.specs.Building.{with_turn_node}
use Rattle.op_graph.specs.GraphRun.{outcome_of}
use Rattle.vcp_typed.specs.Meaning.{Stop, and_then}
use Rattle.flat_expr.specs.State.{State, IsState, Nests, run_from, stopped}

not_last : (a n : ℕ) → n ≤ a → (suc a == n) ≡ false
not_last a n h = grind (arith, nat_tests)

back_more : (nodes : List TurnNode) (t : TurnNode) (n : ℕ) → n ≤ length nodes → turns_back (t ∷ nodes) n ≡ turns_back nodes n
back_more nodes t n h = ap (λ b. cond b (turns_back nodes t.parent ++ turn_of t ∷ []) (turns_back nodes n)) (not_last (length nodes) n h)

pub turns_more : (nodes : List TurnNode) (t : TurnNode) (n : ℕ) → n ≤ length nodes → turns_back (reverse (nodes ++ t ∷ [])) n ≡ turns_back (reverse nodes) n
turns_more nodes t n h = ap (λ l. turns_back l n) (reverse-append nodes (t ∷ [])) ∙ back_more (reverse nodes) t n (omega (arith, length-reverse nodes))

-- each operation's turn is there
abbrev pub TurnsThere : ℕ → List Op → Type 0
TurnsThere n [] = Unit {0}
TurnsThere n (op ∷ ops) = (op.turn ≤ n) × TurnsThere n ops

and_then-both : {A B : Type 0} (r q : Result A Stop) (f g : A → Result B Stop) → r ≡ q → ((x : A) → f x ≡ g x) → and_then r f ≡ and_then q g
and_then-both (Ok x) q f g e h = h x ∙ ap (λ r. and_then r g) e
and_then-both (Err s) q f g e h = ap (λ r. and_then r g) e

pub run_more : (nodes : List TurnNode) (t : TurnNode) (cells row vs : List ℤ) (ops : List Op) → TurnsThere (length nodes) ops
    → run_from (nodes ++ t ∷ []) cells row vs ops ≡ run_from nodes cells row vs ops
run_more nodes t cells row vs [] h = refl
run_more nodes t cells row vs (op ∷ ops) h =
    and_then-both _ _ _ _ (ap (λ u. stopped u op (outcome_of cells row vs op)) (turns_more nodes t op.turn h.0))
    (λ v. run_more nodes t cells row (vs ++ v ∷ []) ops h.1)

turn_there : (o : Option Entry) (turns n : ℕ) → turn_fits o turns n ≡ true → n ≤ turns
turn_there None turns n h = grind (arith, nat_tests)
turn_there (Some e) turns n h = grind (arith, nat_tests)

all_there : (n : ℕ) (ops : List Op) → ((i : ℕ) (op : Op) → slice_get ops i ≡ Some op → op.turn ≤ n) → TurnsThere n ops
all_there n [] h = tt
all_there n (op ∷ ops) h = (h zero op refl, all_there n ops (λ i o e. h (suc i) o e))

-- the rules of the operations of unfinished graphs
abbrev pub OperationLaw : Type 0
OperationLaw =
    (g : Lists) (k : ℕ) (op : Op) → IsPart g → slice_get g.operations k ≡ Some op → OpFits (place_of (scope g) k) (length g.turn_nodes) (take k g.operations) op

last_turn : (nodes : List TurnNode) (t : TurnNode)
    → turns_back (reverse (nodes ++ t ∷ [])) (length nodes + 1) ≡ turns_back (reverse nodes) t.parent ++ turn_of t ∷ []
last_turn nodes t =
    let here : (suc (length (reverse nodes)) == length nodes + 1) ≡ true = let e = length-reverse nodes in grind (arith, nat_tests) in
    ap (λ l. turns_back l (length nodes + 1)) (reverse-append nodes (t ∷ [])) ∙ rw here refl

pub nested : (s : State) (node : TurnNode) → IsState s → IsPart (with_turn_node s.graph node) → OperationLaw
    → Nests s (record s { graph = with_turn_node s.graph node }) node (length s.graph.turn_nodes + 1)
nested s node i part law = record {
  before = i;
  after = record {
    part = part;
    code = i.code;
    names = i.names;
    few = i.few;
    inits = i.inits;
    variables = i.variables;
    long = i.long;
    known = i.known;
    inputs = i.inputs;
    columns = i.columns;
    loads = i.loads;
    held = i.held;
    cells = i.cells;
    no_outputs = i.no_outputs;
    no_stores = i.no_stores;
    path = i.path;
    turn = let more = length-append s.graph.turn_nodes (node ∷ []) in omega (arith, i.turn, more);
    nought = i.nought;
    unit = i.unit;
  };
  number = refl;
  is = refl;
  runs = λ cells row.
      run_more s.graph.turn_nodes node cells row [] s.graph.operations
      (all_there (length s.graph.turn_nodes) s.graph.operations
      (λ k op e. turn_there (entry_of (place_of (scope s.graph) k) op.kind) (length s.graph.turn_nodes) op.turn (law s.graph k op i.part e).turn));
  turns = λ k le. turns_more s.graph.turn_nodes node k le;
  here = last_turn s.graph.turn_nodes node;
}
