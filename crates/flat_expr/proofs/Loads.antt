-- Loads: the first read of a slot.
use Rattle.std.proofs.Common.{◌≡◌, ◌≢◌, ℕ, zero, suc, ◌<◌, ◌≤◌, ℤ, Bool, true, false, ◌&&◌, cond, List, [], ◌∷◌, ◌++◌, length, reverse, slice_get, get_or, set, ◌==◌}
use Rattle.std.proofs.Common.{Option, Some, None, Ok, Err, refl, sym, ap, ◌∙◌, subst, arith, length-append, length-set, get_or-set_same, get_or-set_other}
use Rattle.std.proofs.Common.{⊎_elim}
use Rattle.std.proofs.lemmas.Bool.{cases_eq}
use Rattle.std.proofs.lemmas.Bool.Decides.{nat_tests}
use Rattle.std.proofs.lemmas.List.{length-map}
use Rattle.std.proofs.lemmas.Option.{slice_get_within}
use Rattle.vcp_base.specs.Limits.{most_cells}
use Rattle.vcp_base.specs.declared.ty.Ty.TheVariants as ty
use Rattle.vcp_base.specs.declared.kind.Kind.TheVariants as kind
use Rattle.vcp_base.specs.declared.kind.StopKind.TheVariants as why
use Rattle.vcp_base.specs.Types.{fits}
use Rattle.op_graph.specs.declared.op.Op.{Op}
use Rattle.op_graph.specs.declared.op.Loaded.{Loaded}
use Rattle.op_graph.specs.Lists.{turns_back}
use Rattle.op_graph.specs.Rules.{IsPart}
use Rattle.op_graph.specs.Building.{with_load, entry_op}
use Rattle.vcp_base.specs.Values.{at}
use Rattle.vcp_typed.specs.declared.slot.Slot.{Slot}
use Rattle.vcp_typed.specs.Meaning.{and_then}
use Rattle.vcp_typed.specs.SourceRun.{is_input}
use Rattle.flat_expr.specs.State.{State, stopped, unknown, others, IsHeld, IsCell, IsState, IsA, IsPlace, KnowsOne, Reads, run}
use Rattle.flat_expr.proofs.Ops.{get_push, get_last, isa_push, isa_last, place_push}
use Rattle.flat_expr.proofs.Runs.{step, run-push, run-push_stops, run-length, at-front, at-last}
use Rattle.flat_expr.proofs.Steps.{follows-self, knows-kept}

-- the slot is one known more
pub unknown_set : (known : List (Option ℕ)) (slot k : ℕ) → slot < length known → get_or known slot None ≡ None
    → suc (unknown (set known slot (Some k))) ≡ unknown known
unknown_set [] slot k lt e = absurd (omega arith)
unknown_set (None ∷ known) zero k lt e = refl
unknown_set (Some j ∷ known) zero k lt e = absurd cc
unknown_set (None ∷ known) (suc slot) k lt e = ap suc (unknown_set known slot k (omega arith) e)
unknown_set (Some j ∷ known) (suc slot) k lt e = unknown_set known slot k (omega arith) e

pub others_fewer : (slots : List Slot) → others slots ≤ length slots
others_fewer [] = omega arith
others_fewer (s ∷ slots) = let h = others_fewer slots in by_section (is_input s.section) (others slots) (length slots) h
  where
    by_section : (b : Bool) (n m : ℕ) → n ≤ m → cond b n (suc n) ≤ suc m
    by_section true n m le = omega arith
    by_section false n m le = omega arith

pub not_same : (a b : ℕ) → (a == b) ≡ false → b ≢ a
not_same a b h = grind (arith, nat_tests)

-- a slot that an operation holds
pub held : (s : State) (slot k : ℕ) (x : Slot) → IsState s → slice_get s.slots slot ≡ Some x → get_or s.known slot None ≡ Some k
    → Reads s s slot x.ty k
held s slot k x i e there = record {
  follows = follows-self s i;
  unread = λ other h. refl;
  place = subst (IsPlace x.ty s.graph.operations) there (i.known slot x e);
  count = omega arith;
  gives = λ cells row start now vs r loaded knows.
      (vs, r, ((λ j lt. refl), knows, subst (λ o. KnowsOne o vs (at now slot) (at start slot)) there (knows.each slot (slice_get_within s.slots slot x e))));
}

-- what was read at a place of the table is what is known there
pub place_read : (known : List (Option ℕ)) (slot : ℕ) (o p : Option ℕ) → slot < length known → o ≡ get_or known slot o → o ≡ p → get_or known slot None ≡ p
place_read [] slot o p lt is e = absurd (omega (arith, lt))
place_read (x ∷ xs) zero o p lt is e = sym is ∙ e
place_read (x ∷ xs) (suc n) o p lt is e = place_read xs n o p (omega (arith, lt)) is e

-- a slot's name is there, and a place in the table of what is known
pub name_there : (s : State) (slot : ℕ) → IsState s → slot < length s.slots → slot < length s.graph.names
name_there s slot i inside = let names = ap length i.names in let all = length-map s.slots (λ x. x.name) in omega (arith, inside, names, all)

pub known_there : (s : State) (slot : ℕ) → IsState s → slot < length s.slots → slot < length s.known
known_there s slot i inside = omega (arith, inside, i.long)

-- there is room for the cell of a slot that no operation holds
pub cell_there : (s : State) (slot : ℕ) → IsState s → slot < length s.slots → get_or s.known slot None ≡ None → length s.graph.loads < most_cells
cell_there s slot i inside none =
    omega (arith, i.cells, i.few, others_fewer s.slots, unknown_set s.known slot 0 (known_there s slot i inside) none)

-- the state after a LOAD
abbrev pub loading : State → ℕ → Slot → State
loading s slot x = record s { graph = with_load s.graph slot x.ty x.init x.spot; known = set s.known slot (Some (length s.graph.operations)) }

pub some_held : (b : Bool) (k : ℕ) → IsHeld b (Some k)
some_held true k = tt
some_held false k = tt

pub still_held : (known : List (Option ℕ)) (slot k j : ℕ) → IsHeld true (get_or known j None) → IsHeld true (get_or (set known slot (Some k)) j None)
still_held [] slot k j h = h
still_held (o ∷ known) zero k zero h = tt
still_held (o ∷ known) zero k (suc j) h = h
still_held (o ∷ known) (suc slot) k zero h = h
still_held (o ∷ known) (suc slot) k (suc j) h = still_held known slot k j h

pub not_held : (b : Bool) → IsHeld b None → b ≡ false
not_held true h = absurd h
not_held false h = refl

abbrev load_entry : State → ℕ → Slot → Loaded
load_entry s slot x = record { name = slot; ty = x.ty; init = x.init; load = length s.graph.operations }

abbrev load_op : State → Slot → Op
load_op s x = entry_op kind.Load x.ty 0 (length s.graph.loads) x.spot

pub load_state : (s : State) (slot : ℕ) (x : Slot) → IsState s → slice_get s.slots slot ≡ Some x → get_or s.known slot None ≡ None
    → IsPart (with_load s.graph slot x.ty x.init x.spot) → IsState (loading s slot x)
load_state s slot x i e none part = record {
  part = part;
  code = i.code;
  names = i.names;
  few = i.few;
  inits = i.inits;
  long = length-set s.known slot (Some (length s.graph.operations)) ∙ i.long;
  known = λ j y ej. ⊎_elim
      (λ (same : j ≡ slot).
      let xy : x ≡ y = let both : Some x ≡ Some y = sym e ∙ ap (slice_get s.slots) (sym same) ∙ ej in cc in
      subst (IsPlace y.ty (s.graph.operations ++ load_op s x ∷ []))
      (sym (ap (λ n. get_or (set s.known slot (Some (length s.graph.operations))) n None) same
      ∙ get_or-set_same s.known slot (Some (length s.graph.operations)) None lt))
      (isa_last y.ty s.graph.operations (load_op s x) (length s.graph.operations) refl (ap (λ (z : Slot). z.ty) xy)))
      (λ (other : j ≢ slot).
      subst (IsPlace y.ty (s.graph.operations ++ load_op s x ∷ []))
      (sym (get_or-set_other s.known slot j (Some (length s.graph.operations)) None other))
      (place_push y.ty s.graph.operations (load_op s x) (get_or s.known j None) (i.known j y ej)))
      (cases_eq j slot);
  variables = i.variables;
  inputs = λ j y ej. ⊎_elim
      (λ (same : j ≡ slot).
      subst (IsHeld (is_input y.section))
      (sym (ap (λ n. get_or (set s.known slot (Some (length s.graph.operations))) n None) same
      ∙ get_or-set_same s.known slot (Some (length s.graph.operations)) None lt))
      (some_held (is_input y.section) (length s.graph.operations)))
      (λ (other : j ≢ slot). subst (IsHeld (is_input y.section)) (sym (get_or-set_other s.known slot j (Some (length s.graph.operations)) None other))
      (i.inputs j y ej))
      (cases_eq j slot);
  columns = i.columns;
  loads = λ n l q. ⊎_elim
      (λ (last : n ≡ length s.graph.loads).
      let same : load_entry s slot x ≡ l = let both : Some (load_entry s slot x) ≡ Some l = sym (get_last s.graph.loads (load_entry s slot x))
      ∙ ap (slice_get (s.graph.loads ++ load_entry s slot x ∷ [])) (sym last) ∙ q in cc in
      subst (IsCell s.slots) same
      (record {
        of = x;
        there = e;
        variable = not_held (is_input x.section) (subst (IsHeld (is_input x.section)) none (i.inputs slot x e));
        ty = refl;
        init =
            refl;
      }))
      (λ (other : n ≢ length s.graph.loads).
      let below : n < length (s.graph.loads ++ load_entry s slot x ∷ []) = slice_get_within (s.graph.loads ++ load_entry s slot x ∷ []) n l q in
      i.loads n l (sym (get_push s.graph.loads (load_entry s slot x) n
      (let count = length-append s.graph.loads (load_entry s slot x ∷ []) in omega (arith, other, below, count))) ∙ q))
      (cases_eq n (length s.graph.loads));
  held = λ n l q. ⊎_elim
      (λ (last : n ≡ length s.graph.loads).
      let same : load_entry s slot x ≡ l = let both : Some (load_entry s slot x) ≡ Some l = sym (get_last s.graph.loads (load_entry s slot x))
      ∙ ap (slice_get (s.graph.loads ++ load_entry s slot x ∷ [])) (sym last) ∙ q in cc in
      subst (λ (m : Loaded). IsHeld true (get_or (set s.known slot (Some (length s.graph.operations))) m.name None)) same
      (subst (IsHeld true) (sym (get_or-set_same s.known slot (Some (length s.graph.operations)) None lt)) tt))
      (λ (other : n ≢ length s.graph.loads).
      let below : n < length (s.graph.loads ++ load_entry s slot x ∷ []) = slice_get_within (s.graph.loads ++ load_entry s slot x ∷ []) n l q in
      still_held s.known slot (length s.graph.operations) l.name
      (i.held n l (sym (get_push s.graph.loads (load_entry s slot x) n
      (let count = length-append s.graph.loads (load_entry s slot x ∷ []) in omega (arith, other, below, count))) ∙ q)))
      (cases_eq n (length s.graph.loads));
  no_outputs = i.no_outputs;
  no_stores = i.no_stores;
  cells = omega (
    arith,
    i.cells,
    unknown_set s.known slot (length s.graph.operations) lt none,
    length-append s.graph.loads
        ((record { name = slot; ty = x.ty; init = x.init; load = length s.graph.operations }) ∷ []),
  );
  path = place_push ty.Bool s.graph.operations (load_op s x) s.path i.path;
  turn = i.turn;
  nought = place_push ty.Int s.graph.operations (load_op s x) s.nought i.nought;
  unit = place_push ty.Int s.graph.operations (load_op s x) s.unit i.unit;
}
  where
    lt : slot < length s.known
    lt = omega (arith, slice_get_within s.slots slot x e, i.long)

pub load_of : (s : State) (x : Slot) (cells row vs : List ℤ) → fits x.ty (at cells (length s.graph.loads)) ≡ true
    → step s.graph.turn_nodes cells row vs (load_op s x) ≡ Ok (at cells (length s.graph.loads))
load_of s x cells row vs e = go (fits x.ty v) e
  where
    v : ℤ
    v = at cells (length s.graph.loads)

    go : (b : Bool) → b ≡ true
        → stopped (turns_back (reverse s.graph.turn_nodes) 0) (load_op s x)
        (cond (b && true && true) (cond false (Err why.DivZero) (cond b (Ok (at cells (length s.graph.loads))) (Err why.Range))) (Err why.Operand)) ≡ Ok
        (at cells (length s.graph.loads))
    go true h = refl
    go false h = absurd cc

pub loaded : (s : State) (slot : ℕ) (x : Slot) → IsState s → IsState (loading s slot x) → slice_get s.slots slot ≡ Some x → get_or s.known slot None ≡ None
    → Reads s (loading s slot x) slot x.ty (length s.graph.operations)
loaded s slot x i j e none = record {
  follows = record {
    before = i;
    after = j;
    slots = refl;
    path = refl;
    turn = refl;
    profile = refl;
    turn_nodes = refl;
    inputs = refl;
    outputs = refl;
    stores = refl;
    operations = (load_op s x ∷ [], refl);
    cells = (cell ∷ [], refl);
    places = λ n k h. ⊎_elim
        (λ (same : n ≡ slot). let q : None ≡ Some k = sym none ∙ ap (λ m. get_or s.known m None) (sym same) ∙ h in absurd cc)
        (λ (other : n ≢ slot). get_or-set_other s.known slot n (Some (length s.graph.operations)) None other ∙ h)
        (cases_eq n slot);
    longer = omega (arith, length-append s.graph.operations (load_op s x ∷ []));
    typed = λ t k h. isa_push t s.graph.operations (load_op s x) k h;
    loads = λ cells start h n l q. h n l (get_push s.graph.loads cell n (slice_get_within s.graph.loads n l q) ∙ q);
    stops = λ cells row r h. run-push_stops s.graph (load_op s x) cells row r h;
  };
  unread = λ other h. get_or-set_other s.known slot other (Some (length s.graph.operations)) None (not_same slot other h);
  place = isa_last x.ty s.graph.operations (load_op s x) (length s.graph.operations) refl refl;
  count = let fewer = unknown_set s.known slot (length s.graph.operations) (omega (arith, slice_get_within s.slots slot x e, i.long)) none in
      omega (arith, length-append s.graph.operations (load_op s x ∷ []), fewer);
  gives = λ cells row start now vs r loaded knows.
      let len = run-length s.graph cells row vs r in
      let here = loaded (length s.graph.loads) cell (get_last s.graph.loads cell) in
      let v = at cells (length s.graph.loads) in
      let ws = vs ++ v ∷ [] in
      let ran : run (with_load s.graph slot x.ty x.init x.spot) cells row ≡ Ok ws = run-push s.graph (load_op s x) cells row vs r
      ∙ ap (λ q. and_then q (λ y. Ok (vs ++ y ∷ []))) (load_of s x cells row vs here.1) in
      let last : at ws (length s.graph.operations) ≡ v = ap (at ws) (sym len) ∙ at-last vs v in
      let before : at now slot ≡ at start slot =
      subst (λ o. KnowsOne o vs (at now slot) (at start slot)) none (knows.each slot (slice_get_within s.slots slot x e)) in
      let is : at ws (length s.graph.operations) ≡ at now slot = last ∙ here.0 ∙ sym before in
      let kept = knows-kept s start now vs ws i len (at-front vs v) knows in (
        ws,
        ran,
        (
          at-front vs v,
          record {
            long = knows.long;
            each = λ n lt. ⊎_elim
                (λ (same : n ≡ slot).
                subst (λ o. KnowsOne o ws (at now n) (at start n))
                (sym (ap (λ m. get_or (set s.known slot (Some (length s.graph.operations))) m None) same
                ∙ get_or-set_same s.known slot (Some (length s.graph.operations)) None (omega (arith, slice_get_within s.slots slot x e, i.long))))
                (is ∙ ap (at now) (sym same)))
                (λ (other : n ≢ slot).
                subst (λ o. KnowsOne o ws (at now n) (at start n)) (sym (get_or-set_other s.known slot n (Some (length s.graph.operations)) None other))
                (kept.each n lt))
                (cases_eq n slot);
            nought = kept.nought;
            unit = kept.unit;
          },
          is,
        ),
      );
}
  where
    cell : Loaded
    cell = record { name = slot; ty = x.ty; init = x.init; load = length s.graph.operations }

-- ---- a slot that is set

pub unknown_fewer : (known : List (Option ℕ)) (slot k : ℕ) → unknown (set known slot (Some k)) ≤ unknown known
unknown_fewer [] slot k = omega arith
unknown_fewer (None ∷ known) zero k = omega arith
unknown_fewer (Some j ∷ known) zero k = omega arith
unknown_fewer (None ∷ known) (suc slot) k = omega (arith, unknown_fewer known slot k)
unknown_fewer (Some j ∷ known) (suc slot) k = unknown_fewer known slot k

pub set_state : (s : State) (slot k : ℕ) → IsState s → slot < length s.slots → ((x : Slot) → slice_get s.slots slot ≡ Some x → IsA x.ty s.graph.operations k)
    → IsState (record s { known = set s.known slot (Some k) })
set_state s slot k i lt fit = record {
  part = i.part;
  code = i.code;
  names = i.names;
  few = i.few;
  inits = i.inits;
  long = length-set s.known slot (Some k) ∙ i.long;
  known = λ j y ej. ⊎_elim
      (λ (same : j ≡ slot).
      subst (IsPlace y.ty s.graph.operations)
      (sym (ap (λ n. get_or (set s.known slot (Some k)) n None) same ∙ get_or-set_same s.known slot (Some k) None (omega (arith, lt, i.long))))
      (fit y (ap (slice_get s.slots) (sym same) ∙ ej)))
      (λ (other : j ≢ slot). subst (IsPlace y.ty s.graph.operations) (sym (get_or-set_other s.known slot j (Some k) None other)) (i.known j y ej))
      (cases_eq j slot);
  variables = i.variables;
  inputs = λ j y ej. ⊎_elim
      (λ (same : j ≡ slot).
      subst (IsHeld (is_input y.section))
      (sym (ap (λ n. get_or (set s.known slot (Some k)) n None) same ∙ get_or-set_same s.known slot (Some k) None (omega (arith, lt, i.long))))
      (some_held (is_input y.section) k))
      (λ (other : j ≢ slot). subst (IsHeld (is_input y.section)) (sym (get_or-set_other s.known slot j (Some k) None other)) (i.inputs j y ej))
      (cases_eq j slot);
  columns = i.columns;
  loads = i.loads;
  held = λ n l q. still_held s.known slot k l.name (i.held n l q);
  no_outputs = i.no_outputs;
  no_stores = i.no_stores;
  cells = omega (arith, i.cells, unknown_fewer s.known slot k);
  path = i.path;
  turn = i.turn;
  nought = i.nought;
  unit = i.unit;
}
