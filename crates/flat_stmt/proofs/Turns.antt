-- Turns: assignments, statements one after another, and the turns of FOR.
use Rattle.std.proofs.Common.{◌≡◌, ℕ, ◌+◌, ◌<◌, ◌≤◌, ℤ, Bool, true, false, cond, List, [], ◌∷◌, ◌++◌, length, length-append, slice_set, Result, Ok, Err, refl, sym}
use Rattle.std.proofs.Common.{ap, ◌∙◌, subst, arith}
use Rattle.std.proofs.lemmas.List.{length-map}
use Rattle.vcp_base.specs.declared.turns.Turn.{Turn}
use Rattle.vcp_base.specs.declared.ty.Ty.{Ty}
use Rattle.vcp_base.specs.declared.ty.Ty.TheVariants as ty
use Rattle.op_graph.specs.declared.op.TurnNode.{TurnNode}
use Rattle.op_graph.specs.Building.{with_turn_node}
use Rattle.op_graph.specs.Lists.{turns_of}
use Rattle.vcp_base.specs.Values.{at}
use Rattle.vcp_typed.specs.TExprTree.{TExprTree}
use Rattle.vcp_typed.specs.Meaning.{Stop, and_then, value, turn}
use Rattle.vcp_typed.specs.Size.{expr_size}
use Rattle.vcp_typed.specs.Checked.{ty_of}
use Rattle.flat_expr.specs.Laws.{Laws}
use Rattle.flat_expr.specs.State.{State, IsState, active, Kept, Knows, Continues, Makes, Flattens, Assigns, Nests, giving, guarded, meaning_of, run}
use Rattle.flat_stmt.specs.Moves.{here, EndsIn, Tells, Moves, Any, where_reached, Does, setting}
use Rattle.flat_stmt.proofs.Algebra.{With, Binds, extends-trans, moves_then, moves_same, moves_nothing, moves_with, then_do, ends_weaker}
use Rattle.flat_stmt.proofs.Branches.{lasts_any, lasts_active}

-- ---- statements one after another

pub does_nothing : (a : State) → IsState a → Does a a 0 (λ m. Ok m)
does_nothing a i = record {
  path = refl;
  moves = moves_same a a Any Any 0 0 (λ b m. Ok (here b m)) (where_reached (λ m. Ok m)) (omega arith) (λ vs h. h)
      (λ vs now h. same_thing (active a.path vs) now) (moves_nothing a Any i);
}
  where
    same_thing : (b : Bool) (m : List ℤ) → Ok (here b m) ≡ where_reached (λ m. Ok m) b m
    same_thing true m = refl
    same_thing false m = refl

pub does_same : (a b : State) (n k : ℕ) (f g : List ℤ → Result (List ℤ) Stop) → n ≤ k → ((m : List ℤ) → f m ≡ g m) → Does a b n f → Does a b k g
does_same a b n k f g le is d = record {
  path = d.path;
  moves = moves_same a b Any Any n k (where_reached f) (where_reached g) le (λ vs h. h)
      (λ vs now h. ap (λ x. cond (active a.path vs) (and_then x (λ n. Ok (here (active a.path vs) n))) (Ok (here (active a.path vs) now))) (is now)) d.moves;
}

pub does_then : Laws → (a b c : State) (n k : ℕ) (f g : List ℤ → Result (List ℤ) Stop) → Does a b n f → Does b c k g → Does a c (n + k) (λ m. and_then (f m) g)
does_then laws a b c n k f g p q = record {
  path = q.path ∙ p.path;
  moves = moves_same a c Any Any (n + k) (n + k) (then_do (where_reached f) (where_reached g)) (where_reached (λ m. and_then (f m) g)) (omega arith) (λ vs h. h)
      (λ vs now h. same_thing (active a.path vs) now)
      (moves_then laws a b c Any n k (where_reached f) (where_reached g) (lasts_any a) p.moves q.moves);
}
  where
    one : (x : Result (List ℤ) Stop)
        → and_then (and_then x (λ n. Ok (here true n))) (λ h. where_reached g h.reached h.slots) ≡ and_then (and_then x g) (λ n. Ok (here true n))
    one (Ok m) = refl
    one (Err s) = refl

    same_thing : (b : Bool) (m : List ℤ) → then_do (where_reached f) (where_reached g) b m ≡ where_reached (λ m. and_then (f m) g) b m
    same_thing true m = one (f m)
    same_thing false m = refl

-- what statements keep
pub does_continues : (a b : State) (n : ℕ) (f : List ℤ → Result (List ℤ) Stop) → Does a b n f → Continues a b
does_continues a b n f d = subst (λ p. Continues a (record b { path = p })) (sym d.path) d.moves.continues

-- ---- assignments

assigns_moves : Laws → (a b : State) (slot k : ℕ) (x : ℤ) → Assigns a b slot k → Moves a b (λ vs. at vs k ≡ x) 1 (where_reached (setting slot x))
assigns_moves laws a b slot k x f = record {
  continues = subst (λ p. Continues a (record b { path = p })) f.continues.path f.continues;
  path = f.continues.after.path;
  count = f.count;
  few = omega (arith, ap length f.nodes);
  gives = λ cells row start now vs r loaded knows such.
      let h = f.gives cells row start now vs r loaded knows in
      let len = laws.long a.graph cells row vs r in
      ends (active a.path vs) now vs start (run b.graph cells row) h.0 h.1 h.2
      (subst (λ y. Knows b start (cond (active a.path vs) (slice_set now slot y) now) h.0) such h.3)
      (ap (λ p. active p h.0) f.continues.path ∙ lasts_active laws a ty.Bool a.path (active a.path vs) f.continues.before.path vs h.0 len h.2 refl);
}
  where
    ends : (c : Bool) (now vs start : List ℤ) (all : Result (List ℤ) Stop) (ws : List ℤ) → all ≡ Ok ws → Kept vs ws
        → Knows b start (cond c (slice_set now slot x) now) ws → active b.path ws ≡ c → EndsIn (Tells b start vs) (where_reached (setting slot x) c now) all
    ends true now vs start all ws e kept knows reached = (ws, e, record { kept = kept; knows = knows; reached = reached })
    ends false now vs start all ws e kept knows reached = (ws, e, record { kept = kept; knows = knows; reached = reached })

-- the slot gets the expression's value
pub assigned : Laws → (a b c : State) (e : TExprTree) (slot k : ℕ) → Flattens a b e k → Assigns b c slot k
    → Does a c (1 + expr_size e) (λ m. and_then (value (turns_of a.graph a.turn) e m) (λ v. Ok (slice_set m slot v)))
assigned laws a b c e slot k f g = record {
  path = g.continues.path ∙ f.follows.path;
  moves = moves_same a c Any Any (expr_size e + 1) (1 + expr_size e) (where_reached does) (where_reached does) (omega arith) (λ vs h. h) (λ vs now h. refl)
      (moves_with laws a b c (ty_of e) Any k (expr_size e) 1 (meaning_of a e) (where_reached does) (λ v. where_reached (setting slot v)) (lasts_any a) f
      (λ v. moves_same b c (λ vs. at vs k ≡ v) (With Any k v) 1 1 (where_reached (setting slot v)) (where_reached (setting slot v)) (omega arith) (λ vs h. h.1)
      (λ vs now h. refl) (assigns_moves laws b c slot k v g))
      (λ now vs types h. binds (active a.path vs) (value (turns_of a.graph a.turn) e now) now));
}
  where
    does : List ℤ → Result (List ℤ) Stop
    does m = and_then (value (turns_of a.graph a.turn) e m) (λ v. Ok (slice_set m slot v))

    binds : (b : Bool) (x : Result ℤ Stop) (m : List ℤ)
        → Binds (guarded b x) (cond b (and_then (and_then x (λ v. Ok (slice_set m slot v))) (λ n. Ok (here b n))) (Ok (here b m)))
        (λ v. where_reached (setting slot v) b m)
    binds true (Ok v) m = refl
    binds true (Err s) m = refl
    binds false x m = λ v. refl

-- the slot gets a constant
pub assigned_constant : Laws → (a b c : State) (t : Ty) (v : ℤ) (slot k : ℕ) → Makes a b t 1 (giving v) k → Assigns b c slot k → Does a c 2 (setting slot v)
assigned_constant laws a b c t v slot k f g = record {
  path = g.continues.path ∙ f.follows.path;
  moves = moves_with laws a b c t Any k 1 1 (giving v) (where_reached (setting slot v)) (λ x. where_reached (setting slot x)) (lasts_any a) f
      (λ x. moves_same b c (λ vs. at vs k ≡ x) (With Any k x) 1 1 (where_reached (setting slot x)) (where_reached (setting slot x)) (omega arith) (λ vs h. h.1)
      (λ vs now h. refl) (assigns_moves laws b c slot k x g))
      (λ now vs types h. refl);
}

-- ---- turns

-- the turns round a place stay
pub same_turns : (a b : State) → Continues a b → turns_of b.graph b.turn ≡ turns_of a.graph a.turn
same_turns a b f = ap (turns_of b.graph) f.turn ∙ f.turns a.turn f.before.turn

-- what is done in a new turn, and then the turn of before again
pub nested : (a b c : State) (node : TurnNode) (n k : ℕ) (f : List ℤ → Result (List ℤ) Stop) → Nests a b node n → Does (record b { turn = n }) c k f
    → length c.graph.turn_nodes ≤ length a.graph.turn_nodes + k → Does a (record c { turn = a.turn }) k f
nested a b c node n k f nest d few = record {
  path = d1.path;
  moves = record {
    continues = record {
      before = nest.before;
      after = returned (record c { path = a.path }) a.turn d1.moves.continues.after
          (omega (arith, nest.before.turn, d1.moves.continues.nodes, length-append a.graph.turn_nodes (node ∷ [])));
      slots = d1.moves.continues.slots;
      path = refl;
      turn = refl;
      profile = d1.moves.continues.profile;
      nodes = omega (arith, d1.moves.continues.nodes, length-append a.graph.turn_nodes (node ∷ []));
      turns = λ j le. d1.moves.continues.turns j (omega (arith, le, length-append a.graph.turn_nodes (node ∷ [])))
          ∙ subst (λ s. turns_of s.graph j ≡ turns_of a.graph j) nest.is (nest.turns j le);
      operations = d1.moves.continues.operations;
      cells = d1.moves.continues.cells;
      turn_nodes = extends-trans a.graph.turn_nodes (a.graph.turn_nodes ++ node ∷ []) c.graph.turn_nodes (node ∷ [], refl) d1.moves.continues.turn_nodes;
      ends = d1.moves.continues.ends;
      longer = d1.moves.continues.longer;
      typed = d1.moves.continues.typed;
      loads = d1.moves.continues.loads;
      stops = λ cells row s e. d1.moves.continues.stops cells row s (runs cells row ∙ e);
    };
    path = d1.moves.path;
    count = d1.moves.count;
    few = few;
    gives = λ cells row start now vs r loaded knows such.
        ends_weaker (Tells c start vs) (Tells (record c { turn = a.turn }) start vs) (where_reached f (active a.path vs) now) (run c.graph cells row)
        (λ h ws e t. record {
          kept = t.kept;
          knows =
              record { long = t.knows.long; each = t.knows.each; nought = t.knows.nought; unit = t.knows.unit };
          reached = t.reached;
        })
        (d1.moves.gives cells row start now vs (runs cells row ∙ r) loaded
        (record { long = knows.long; each = knows.each; nought = knows.nought; unit = knows.unit }) such);
  };
}
  where
    inner : State
    inner = record a { graph = with_turn_node a.graph node; turn = n }

    d1 : Does inner c k f
    d1 = subst (λ s. Does (record s { turn = n }) c k f) nest.is d

    runs : (cells row : List ℤ) → run (with_turn_node a.graph node) cells row ≡ run a.graph cells row
    runs cells row = subst (λ s. run s.graph cells row ≡ run a.graph cells row) nest.is (nest.runs cells row)

    returned : (s : State) (t : ℕ) → IsState s → t ≤ length s.graph.turn_nodes → IsState (record s { turn = t })
    returned s t i le =
        record {
          part = i.part;
          code = i.code;
          names = i.names;
          few = i.few;
          inits = i.inits;
          variables = i.variables;
          long = i.long;
          known = i.known;
          inputs = i.inputs;
          columns = i.columns;
          loads = i.loads;
          held = i.held;
          cells = i.cells;
          no_outputs = i.no_outputs;
          no_stores = i.no_stores;
          path =
              i.path;
          turn = le;
          nought = i.nought;
          unit = i.unit;
        }

-- a turn: the control variable gets its value, and the body is done
pub turned : Laws → (s0 s1 s2 s3 s4 : State) (t : Ty) (slot n k nb : ℕ) (v : ℤ) (body : List Turn → List ℤ → Result (List ℤ) Stop)
    → Nests s0 s1 (record { parent = s0.turn; name = slot; value = v }) n →
    Makes (record s1 { turn = n }) s2 t 1 (giving v) k → Assigns s2 s3 slot k → Does s3 s4 nb (body (turns_of s3.graph s3.turn)) →
    Does s0 (record s4 { turn = s0.turn }) (2 + nb) (turn slot (λ x. body (turns_of s0.graph s0.turn ++ record { name = slot; value = x } ∷ [])) v)
turned laws s0 s1 s2 s3 s4 t slot n k nb v body nest f g d =
    nested s0 s1 s4 node n (2 + nb) (turn slot (λ x. body (turns_of s0.graph s0.turn ++ record { name = slot; value = x } ∷ [])) v) nest
    (does_then laws (record s1 { turn = n }) s3 s4 2 nb (setting slot v) (body (turns_of s0.graph s0.turn ++ record { name = slot; value = v } ∷ [])) first
    (subst (λ ts. Does s3 s4 nb (body ts))
    (same_turns (record s1 { turn = n }) s3 (does_continues (record s1 { turn = n }) s3 2 (setting slot v) first) ∙ nest.here) d))
    (omega (
      arith,
      d.moves.few,
      ap length g.nodes,
      ap length f.follows.turn_nodes,
      subst (λ s. length s.graph.turn_nodes ≤ length s0.graph.turn_nodes + 1)
          (sym nest.is) (omega (arith, length-append s0.graph.turn_nodes (node ∷ []))),
    ))
  where
    node : TurnNode
    node = record { parent = s0.turn; name = slot; value = v }

    first : Does (record s1 { turn = n }) s3 2 (setting slot v)
    first = assigned_constant laws (record s1 { turn = n }) s2 s3 t v slot k f g

-- a turn node that was added is there, and so is a slot's name
pub nest_there : (old new : State) (node : TurnNode) (n : ℕ) → Nests old new node n → n ≤ length new.graph.turn_nodes
nest_there old new node n h =
    let all = ap (λ (s : State). length s.graph.turn_nodes) h.is in
    let long = length-append old.graph.turn_nodes (node ∷ []) in
    omega (arith, all, long, h.number)

pub slot_named : (s : State) (slot : ℕ) → IsState s → slot < length s.slots → slot < length s.graph.names
slot_named s slot i inside = let names = ap length i.names in let all = length-map s.slots (λ x. x.name) in omega (arith, inside, names, all)
