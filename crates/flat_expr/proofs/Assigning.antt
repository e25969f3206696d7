-- Assigning: a slot gets the value of an operation, without and with a path condition.
use Rattle.std.proofs.Common.{◌≡◌, ◌≢◌, ℕ, ◌+◌, ◌<◌, ◌≤◌, ℤ, pos, Bool, true, false, not, cond, List, length, reverse, get_or, set, slice_set, ◌==◌, Some, None}
use Rattle.std.proofs.Common.{Result, Ok, refl, sym, ap, ap₂, ◌∙◌, subst, arith, length-set, get_or-set_same, get_or-set_other, ⊎_elim}
use Rattle.std.proofs.lemmas.Bool.{cases_eq}
use Rattle.std.proofs.lemmas.Bool.Decides.{nat_tests}
use Rattle.vcp_base.specs.declared.spot.Spot.{Spot}
use Rattle.vcp_base.specs.declared.ty.Ty.{Ty}
use Rattle.vcp_base.specs.declared.ty.Ty.TheVariants as ty
use Rattle.vcp_base.specs.declared.kind.Kind.TheVariants as kind
use Rattle.vcp_base.specs.Kinds.{same}
use Rattle.vcp_base.specs.Values.{at}
use Rattle.op_graph.specs.Lists.{turns_of, turns_back}
use Rattle.vcp_typed.specs.Meaning.{Stop}
use Rattle.flat_expr.specs.State.{State, IsState, IsA, IsPlace, active, KnowsOne, Knows, exactly, IsValue, Kept, Ends, placed, Meant, Computes, Makes}
use Rattle.flat_expr.specs.State.{Reads, one_slot, no_slot, reading, acts, run}
use Rattle.flat_expr.specs.State.{Assigns}
use Rattle.flat_expr.proofs.Loads.{unknown_fewer}
use Rattle.flat_expr.proofs.Steps.{extends-same, then_reading, weaker, stays, as_good-is}
use Rattle.flat_expr.proofs.Operators.{some_is, in_range-fits, sel_fits, flip}

-- one slot has a new place, and a new value that this place has
pub knows-set : (s : State) (slot k : ℕ) (start now next ws : List ℤ) → slot < length s.known → length next ≡ length now → at ws k ≡ at next slot
    → ((j : ℕ) → j ≢ slot → at next j ≡ at now j) → Knows s start now ws → Knows (placed s slot k) start next ws
knows-set s slot k start now next ws lt long here others h = record {
  long = long ∙ h.long;
  each = λ j ltj. ⊎_elim
      (λ (e : j ≡ slot). subst (λ o. KnowsOne o ws (at next j) (at start j))
      (sym (ap (λ x. get_or (set s.known slot (Some k)) x None) e ∙ get_or-set_same s.known slot (Some k) None lt)) (here ∙ ap (at next) (sym e)))
      (λ (ne : j ≢ slot). subst (λ o. KnowsOne o ws (at next j) (at start j)) (sym (get_or-set_other s.known slot j (Some k) None ne))
      (subst (λ x. KnowsOne (get_or s.known j None) ws x (at start j)) (sym (others j ne)) (h.each j ltj)))
      (cases_eq j slot);
  nought = h.nought;
  unit = h.unit;
}

-- operation k's value where the place is reached, and else the slot's own
abbrev pub between : State → ℕ → ℕ → Meant
between s slot k = λ now vs. Ok (Some (cond (active s.path vs) (at vs k) (at now slot)))

not_equal : (a b : ℕ) → b ≢ a → (a == b) ≡ false
not_equal a b h = grind (arith, nat_tests)

-- the slot gets the place of what is between
pub set_assigns : {p : ℕ → Bool} (s0 s1 : State) (t : Ty) (n slot k j : ℕ) → n ≤ 1 → slot < length s0.slots → IsState (placed s1 slot j)
    → ((i : ℕ) → i ≢ slot → p i ≡ false) → Computes s0 s1 p t n (between s0 slot k) j → Assigns s0 (placed s1 slot j) slot k
set_assigns s0 s1 t n slot k j le lt state only f = record {
  continues = record {
    before = f.follows.before;
    after = state;
    slots = f.follows.slots;
    path = f.follows.path;
    turn = f.follows.turn;
    profile = f.follows.profile;
    nodes = let same_nodes = ap length f.follows.turn_nodes in omega (arith, same_nodes);
    turns = λ m below. ap (λ l. turns_back (reverse l) m) f.follows.turn_nodes;
    operations = f.follows.operations;
    cells = f.follows.cells;
    turn_nodes = extends-same s0.graph.turn_nodes s1.graph.turn_nodes f.follows.turn_nodes;
    ends = (f.follows.inputs, f.follows.outputs, f.follows.stores);
    longer = f.follows.longer;
    typed = f.follows.typed;
    loads = f.follows.loads;
    stops = f.follows.stops;
  };
  others = λ i ne. get_or-set_other s1.known slot i (Some j) None ne ∙ f.unread i (only i ne);
  nodes = f.follows.turn_nodes;
  count = let fewer = unknown_fewer s1.known slot j in omega (arith, f.count, fewer);
  gives = λ cells row start now vs r loaded knows. go vs start now (run s1.graph cells row) knows.long (active s0.path vs)
      (f.gives cells row start now vs r loaded knows);
}
  where
    lt1 : slot < length s1.known
    lt1 = omega (arith, lt, ap length f.follows.slots, f.follows.after.long)

    go : (vs start now : List ℤ) (all : Result (List ℤ) Stop) → length now ≡ length s0.slots → (b : Bool)
        → Ends (λ o ws. Kept vs ws × Knows s1 start now ws × IsValue o (at ws j)) (Ok (Some (cond b (at vs k) (at now slot)))) all →
        (ws : List ℤ) × (all ≡ Ok ws) × Kept vs ws × Knows (placed s1 slot j) start (cond b (slice_set now slot (at vs k)) now) ws
    go vs start now all long true h = (
      h.0,
      h.1,
      h.2.0,
      knows-set s1 slot j start now (slice_set now slot (at vs k)) h.0 lt1 (length-set now slot (at vs k))
          (h.2.2 ∙ sym (get_or-set_same now slot (at vs k) (pos 0) (omega (arith, lt, long)))) (λ i ne. get_or-set_other now slot i (at vs k) (pos 0) ne) h.2.1,
    )
    go vs start now all long false h = (h.0, h.1, h.2.0, knows-set s1 slot j start now now h.0 lt1 refl h.2.2 (λ i ne. refl) h.2.1)

-- without a path condition
pub assigned : (s : State) (t : Ty) (slot k : ℕ) → slot < length s.slots → IsState s → IsState (placed s slot k) → s.path ≡ None → IsA t s.graph.operations k
    → Assigns s (placed s slot k) slot k
assigned s t slot k lt i state none h =
    set_assigns s s t 0 slot k k (omega arith) lt state (λ i ne. refl)
    (weaker s s t 0 0 (λ now vs. Ok (Some (at vs k))) (between s slot k) k (omega arith)
    (λ now vs types. as_good-is _ _ (ap (λ p. Ok (Some (cond (active p vs) (at vs k) (at now slot)))) (sym none))) (stays s t k i h))

-- under a path condition: the old value's LOAD where it isn't known, then SEL
pub chosen : (s0 s1 s2 : State) (t : Ty) (slot path k old j : ℕ) (spot : Spot) → slot < length s0.slots → s0.path ≡ Some path → IsState (placed s2 slot j)
    → IsA t s0.graph.operations k →
    Reads s0 s1 slot t old → Makes s1 s2 t 1 (acts s1 kind.Sel t path old k spot) j → Assigns s0 (placed s2 slot j) slot k
chosen s0 s1 s2 t slot path k old j spot lt some state hk g h =
    set_assigns s0 s2 t (0 + 1) slot k j (omega arith) lt state (λ i ne. not_equal slot i ne)
    (then_reading (one_slot slot) no_slot (one_slot slot) (λ i h. (h, refl)) s0 s1 s2 t t 0 1 (reading slot) (acts s1 kind.Sel t path old k spot)
    (between s0 slot k) old j g h (record {
      stops = λ now vs s x. absurd cc;
      goes = λ now vs ws o is kept same_path types val.
          let here : at ws old ≡ at now slot = some_is o (at now slot) (at ws old) is val in
          let z = same (at ws path) (pos 0) in
          let pl : IsA ty.Bool s0.graph.operations path = subst (IsPlace ty.Bool s0.graph.operations) some g.follows.before.path in
          let e1 = in_range-fits t spot (turns_of s1.graph s1.turn) (cond z (at ws old) (at ws k))
          (sel_fits t z (at ws old) (at ws k) (types t old g.place) (types t k (g.follows.typed t k hk))) in
          let e2 : cond z (at ws old) (at ws k) ≡ cond (active s0.path vs) (at vs k) (at now slot) =
          ap₂ (λ x y. cond z x y) here (kept t k hk) ∙ flip z (at vs k) (at now slot)
          ∙ ap (λ x. cond (not (same x (pos 0))) (at vs k) (at now slot)) (kept ty.Bool path pl)
          ∙ ap (λ p. cond (active p vs) (at vs k) (at now slot)) (sym some) in
          as_good-is _ _ (ap exactly e1 ∙ ap (λ x. Ok (Some x)) e2);
    }))
