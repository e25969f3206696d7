-- Closing: an OUT, a LOAD before it, and a STORE more, at the end of a cycle.
use Rattle.std.proofs.Common.{◌≡◌, ◌≢◌, ℕ, zero, suc, ◌+◌, ◌<◌, ◌≤◌, ℤ, Bool, true, false, ◌&&◌, cond, List, [], ◌∷◌, ◌++◌, length, map, reverse, take, get_or}
use Rattle.std.proofs.Common.{set, slice_get, slice_index_or, All, Option, Some, None, Result, Ok, Err, refl, sym, ap, ap₂, ◌∙◌, subst, arith, append_assoc}
use Rattle.std.proofs.Common.{length-set, get_or-set_same, get_or-set_other, ⊎_elim}
use Rattle.std.proofs.lemmas.Bool.{cases_eq}
use Rattle.std.proofs.lemmas.List.{append-nil, length_push, map-append, take_all, take-append-le}
use Rattle.std.proofs.lemmas.List.Elements.{All-push}
use Rattle.std.proofs.lemmas.Option.{slice_get_within}
use Rattle.std.specs.Prelude.{IfErr, ◌↔◌}
use Rattle.vcp_base.specs.Limits.{most_operations}
use Rattle.op_graph.specs.declared.build.Build.{Build}
use Rattle.op_graph.specs.declared.build.Build.TheVariants as build
use Rattle.vcp_base.specs.declared.columns.Column.{Column}
use Rattle.vcp_base.specs.declared.spot.Spot.{Spot}
use Rattle.vcp_base.specs.declared.ty.Ty.{Ty}
use Rattle.vcp_base.specs.declared.kind.Kind.TheVariants as kind
use Rattle.vcp_base.specs.declared.kind.StopKind.TheVariants as why
use Rattle.vcp_base.specs.Types.{fits}
use Rattle.vcp_base.specs.Values.{at}
use Rattle.op_graph.specs.declared.op.Op.{Op}
use Rattle.op_graph.specs.declared.op.Loaded.{Loaded}
use Rattle.op_graph.specs.declared.op.Outlet.{Outlet}
use Rattle.op_graph.specs.declared.op.TurnNode.{TurnNode}
use Rattle.op_graph.specs.Lists.{Lists, turns_back, column, output_column}
use Rattle.op_graph.specs.Rules.{IsPart, Each, OutputFits, StoreFits}
use Rattle.op_graph.specs.Building.{entry_op, with_load, with_output, with_store}
use Rattle.st_tree.specs.declared.program.Section.{Section}
use Rattle.st_tree.specs.declared.program.Section.TheVariants as section
use Rattle.vcp_typed.specs.declared.slot.Slot.{Slot}
use Rattle.vcp_typed.specs.Fitting.{output_columns}
use Rattle.vcp_typed.specs.Meaning.{and_then}
use Rattle.vcp_typed.specs.SourceRun.{is_input, is_output, outputs}
use Rattle.flat_expr.specs.Closing.{Closes}
use Rattle.flat_expr.specs.Told.{names_of}
use Rattle.flat_expr.specs.State.{State, IsState, IsA, IsPlace, IsHeld, IsCell, KnowsOne, AreLoaded, Kept, Finishes, IsNeeded, unknown, others, last_of, last_size}
use Rattle.flat_expr.specs.State.{out_size, outs_from, whole_size, reserved, run, stopped}
use Rattle.flat_expr.proofs.Ops.{get_push, get_last, isa_last, place_push}
use Rattle.flat_expr.proofs.Runs.{step, run-push, run-push_stops, run-length, typed, at-front, at-last}
use Rattle.flat_expr.proofs.Steps.{extends-self, extends-trans, knows_one-kept, slot_there}
use Rattle.flat_expr.proofs.Loads.{unknown_set, load_of, still_held, some_held, not_held}
use Rattle.flat_expr.proofs.Beginning.{sum_more}

-- ---- how many operations the outputs add

outs_split : (slots : List Slot) (known : List (Option ℕ)) (n : ℕ) (x : Slot) → slice_get slots n ≡ Some x → n < length known
    → outs_from slots known n ≡ out_size (is_output x.section) (get_or known n None) + outs_from slots known (suc n)
outs_split [] known n x e lt = absurd cc
outs_split (s ∷ slots) [] n x e lt = absurd (omega arith)
outs_split (s ∷ slots) (o ∷ known) zero x e lt = let same : s ≡ x = cc in ap (λ (y : Slot). out_size (is_output y.section) o + outs_from slots known zero) same
outs_split (s ∷ slots) (o ∷ known) (suc n) x e lt = outs_split slots known n x e (omega arith)

-- an output's LOAD was two of them, with the STORE
outs_loaded : (slots : List Slot) (known : List (Option ℕ)) (n k : ℕ) (x : Slot) → slice_get slots n ≡ Some x → n < length known → is_output x.section ≡ true
    → get_or known n None ≡ None → outs_from slots (set known n (Some k)) n + 2 ≡ outs_from slots known n
outs_loaded [] known n k x e lt is_one none = absurd cc
outs_loaded (s ∷ slots) [] n k x e lt is_one none = absurd (omega arith)
outs_loaded (s ∷ slots) (o ∷ known) zero k x e lt is_one none =
    let same : s ≡ x = cc in go (is_output s.section) o (outs_from slots known zero) (ap (λ (y : Slot). is_output y.section) same ∙ is_one) none
  where
    go : (b : Bool) (o : Option ℕ) (r : ℕ) → b ≡ true → o ≡ None → out_size b (Some k) + r + 2 ≡ out_size b o + r
    go true None r h e = omega arith
    go true (Some j) r h e = absurd cc
    go false o r h e = absurd cc
outs_loaded (s ∷ slots) (o ∷ known) (suc n) k x e lt is_one none = outs_loaded slots known n k x e (omega arith) is_one none

outs_over : (slots : List Slot) (known : List (Option ℕ)) → outs_from slots known (length slots) ≡ 0
outs_over [] known = refl
outs_over (s ∷ slots) [] = refl
outs_over (s ∷ slots) (o ∷ known) = outs_over slots known

outs_within : (slots : List Slot) (known : List (Option ℕ)) → outs_from slots known 0 ≤ length (output_columns slots) + unknown known + unknown known
outs_within [] known = omega arith
outs_within (s ∷ slots) [] = omega arith
outs_within (s ∷ slots) (o ∷ known) = go (is_output s.section) o (outs_within slots known)
  where
    go : (b : Bool) (o : Option ℕ) → outs_from slots known 0 ≤ length (output_columns slots) + unknown known + unknown known →
        out_size b o + outs_from slots known 0 ≤ length (cond b ((record { name = s.name; ty = s.ty }) ∷ output_columns slots) (output_columns slots))
        + unknown (o ∷ known) + unknown (o ∷ known)
    go true None h = omega arith
    go true (Some k) h = omega arith
    go false None h = omega arith
    go false (Some k) h = omega arith

-- ---- the begin

pub closes_begin : (s : State) → IsState s → Closes s 0 0 s.graph s.known
closes_begin s i = record {
  from = i;
  part = i.part;
  profile = refl;
  names = refl;
  inputs = refl;
  turn_nodes = refl;
  operations = extends-self s.graph.operations;
  needed = ([], sym (append-nil s.graph.loads), λ k d lt. absurd (omega arith));
  kept = λ slot k e. e;
  long = i.long;
  places = i.known;
  ins = i.inputs;
  cells = i.loads;
  held = i.held;
  room = i.cells;
  columns = ap (map (output_column s.graph.names)) i.no_outputs;
  below = subst (λ l. All (λ (o : Outlet). o.name < 0) l) (sym i.no_outputs) (λ k d lt. absurd (omega arith));
  so_far = ap length i.no_stores;
  size = let none = ap length i.no_stores in omega (arith, none);
  loads = λ cells start h. h;
  stops = λ cells row e h. h;
  gives = λ cells row start now vs r loaded knows. (
    vs,
    r,
    knows.each,
    ap (map (λ (o : Outlet). at vs o.op)) i.no_outputs,
    subst (λ l. map (λ n. at vs n) l ≡ map (λ (m : Loaded). at now m.name) (take (length l) s.graph.loads)) (sym i.no_stores) refl,
  );
}

-- ---- values of OUTs and STOREs that are there stay

outs_kept : (names n : ℕ) (before xs : List Outlet) (vs ws : List ℤ) → n ≤ length vs → Kept vs ws → Each (OutputFits names n) before xs
    → map (λ (o : Outlet). at ws o.op) xs ≡ map (λ (o : Outlet). at vs o.op) xs
outs_kept names n before [] vs ws le kept h = refl
outs_kept names n before (x ∷ xs) vs ws le kept h =
    let lt = h.0.operation in
    ap₂ (λ v l. v ∷ l) (kept x.op (omega (arith, lt, le))) (outs_kept names n (before ++ x ∷ []) xs vs ws le kept h.1)

stores_kept : (loads : List Loaded) (n : ℕ) (before xs : List ℕ) (vs ws : List ℤ) → n ≤ length vs → Kept vs ws → Each (StoreFits loads n) before xs
    → map (λ k. at ws k) xs ≡ map (λ k. at vs k) xs
stores_kept loads n before [] vs ws le kept h = refl
stores_kept loads n before (x ∷ xs) vs ws le kept h =
    let lt = h.0.store in
    ap₂ (λ v l. v ∷ l) (kept x (omega (arith, lt, le))) (stores_kept loads n (before ++ x ∷ []) xs vs ws le kept h.1)

-- ---- a slot's column and value

columns_more : (slots : List Slot) (n : ℕ) (x : Slot) → slice_get slots n ≡ Some x →
    output_columns (take (suc n) slots) ≡ cond (is_output x.section) (output_columns (take n slots) ++ (record { name = x.name; ty = x.ty }) ∷ [])
    (output_columns (take n slots))
columns_more [] n x e = absurd cc
columns_more (s ∷ slots) zero x e = let same : s ≡ x = cc in ap (λ (y : Slot). cond (is_output y.section) ((record { name = y.name; ty = y.ty }) ∷ []) []) same
columns_more (s ∷ slots) (suc n) x e = go (is_output s.section) (is_output x.section) (columns_more slots n x e)
  where
    col : Column
    col = record { name = s.name; ty = s.ty }

    last : Column
    last = record { name = x.name; ty = x.ty }

    go : (a b : Bool) → output_columns (take (suc n) slots) ≡ cond b (output_columns (take n slots) ++ last ∷ []) (output_columns (take n slots)) →
        cond a (col ∷ output_columns (take (suc n) slots)) (output_columns (take (suc n) slots)) ≡ cond b
        (cond a (col ∷ output_columns (take n slots)) (output_columns (take n slots)) ++ last ∷ [])
        (cond a (col ∷ output_columns (take n slots)) (output_columns (take n slots)))
    go true true h = ap (λ l. col ∷ l) h
    go true false h = ap (λ l. col ∷ l) h
    go false true h = h
    go false false h = h

outputs_more : (slots : List Slot) (now : List ℤ) (n : ℕ) (x : Slot) → slice_get slots n ≡ Some x → length now ≡ length slots →
    outputs (take (suc n) slots) now ≡ cond (is_output x.section) (outputs (take n slots) now ++ at now n ∷ []) (outputs (take n slots) now)
outputs_more [] now n x e len = absurd cc
outputs_more (s ∷ slots) [] n x e len = absurd (omega arith)
outputs_more (s ∷ slots) (v ∷ now) zero x e len = let same : s ≡ x = cc in ap (λ (y : Slot). cond (is_output y.section) (v ∷ []) []) same
outputs_more (s ∷ slots) (v ∷ now) (suc n) x e len = go (is_output s.section) (is_output x.section) (outputs_more slots now n x e (omega arith))
  where
    go : (a b : Bool) → outputs (take (suc n) slots) now ≡ cond b (outputs (take n slots) now ++ at now n ∷ []) (outputs (take n slots) now) →
        cond a (v ∷ outputs (take (suc n) slots) now) (outputs (take (suc n) slots) now) ≡ cond b
        (cond a (v ∷ outputs (take n slots) now) (outputs (take n slots) now) ++ at now n ∷ [])
        (cond a (v ∷ outputs (take n slots) now) (outputs (take n slots) now))
    go true true h = ap (λ l. v ∷ l) h
    go true false h = ap (λ l. v ∷ l) h
    go false true h = h
    go false false h = h

by_test : {X : Type 0} (b c : Bool) (x y : X) → b ≡ c → cond b x y ≡ cond c x y
by_test b c x y e = ap (λ d. cond d x y) e

all_more : (n : ℕ) (xs : List Outlet) → All (λ (o : Outlet). o.name < n) xs → All (λ (o : Outlet). o.name < suc n) xs
all_more n xs h = λ k d lt. let below = h k d lt in omega (arith, below)

-- ---- a slot that is no output

pub closes_skip : (s : State) (n m : ℕ) (g : Lists) (known : List (Option ℕ)) (x : Slot) → slice_get s.slots n ≡ Some x → is_output x.section ≡ false
    → Closes s n m g known → Closes s (suc n) m g known
closes_skip s n m g known x e isnt h = record {
  from = h.from;
  part = h.part;
  profile = h.profile;
  names = h.names;
  inputs = h.inputs;
  turn_nodes = h.turn_nodes;
  operations = h.operations;
  needed = h.needed;
  kept = h.kept;
  long = h.long;
  places = h.places;
  ins = h.ins;
  cells = h.cells;
  held = h.held;
  room = h.room;
  columns = h.columns ∙ sym (columns_more s.slots n x e ∙ by_test (is_output x.section) false _ _ isnt);
  below = all_more n g.outputs h.below;
  so_far = h.so_far;
  size =
      let lt : n < length known = let inside = slice_get_within s.slots n x e in omega (arith, inside, h.long) in
      let none = ap (λ b. out_size b (get_or known n None)) isnt in
      omega (arith, h.size, outs_split s.slots known n x e lt, none);
  loads = h.loads;
  stops = h.stops;
  gives = λ cells row start now vs r loaded knows.
      let f = h.gives cells row start now vs r loaded knows in
      (f.0, f.1, f.2, f.3 ∙ sym (outputs_more s.slots now n x e knows.long ∙ by_test (is_output x.section) false _ _ isnt), f.4);
}

-- ---- a LOAD

-- what isn't held now wasn't before
not_then : (o : Option ℕ) → ((k : ℕ) → o ≡ Some k → None ≡ Some k) → o ≡ None
not_then None h = refl
not_then (Some k) h = let both : None ≡ Some k = h k refl in absurd cc

pub closes_load : (s : State) (n m : ℕ) (g : Lists) (known : List (Option ℕ)) (x : Slot) → slice_get s.slots n ≡ Some x → is_output x.section ≡ true
    → get_or known n None ≡ None → IsPart (with_load g n x.ty x.init x.spot) → Closes s n m g known →
    Closes s n m (with_load g n x.ty x.init x.spot) (set known n (Some (length g.operations)))
closes_load s n m g known x e is_one none part h = record {
  from = h.from;
  part = part;
  profile = h.profile;
  names = h.names;
  inputs = h.inputs;
  turn_nodes = h.turn_nodes;
  operations = extends-trans s.graph.operations g.operations (g.operations ++ op ∷ []) h.operations (op ∷ [], refl);
  needed = (
    h.needed.0 ++ cell ∷ [],
    ap (λ l. l ++ cell ∷ []) h.needed.1 ∙ append_assoc s.graph.loads h.needed.0 (cell ∷ []),
    All-push (IsNeeded s) h.needed.0 cell h.needed.2 (x, e, is_one, not_then (get_or s.known n None) (λ k q. sym none ∙ h.kept n k q)),
  );
  kept = λ j k q. ⊎_elim
      (λ (same : j ≡ n). let both : None ≡ Some k = sym none ∙ ap (λ i. get_or known i None) (sym same) ∙ h.kept j k q in absurd cc)
      (λ (other : j ≢ n). get_or-set_other known n j (Some (length g.operations)) None other ∙ h.kept j k q)
      (cases_eq j n);
  long = length-set known n (Some (length g.operations)) ∙ h.long;
  places = λ j y ej. ⊎_elim
      (λ (same : j ≡ n).
      let xy : x ≡ y = let both : Some x ≡ Some y = sym e ∙ ap (slice_get s.slots) (sym same) ∙ ej in cc in
      subst (IsPlace y.ty (g.operations ++ op ∷ []))
      (sym (ap (λ m. get_or (set known n (Some (length g.operations))) m None) same ∙ get_or-set_same known n (Some (length g.operations)) None lt))
      (isa_last y.ty g.operations op (length g.operations) refl (ap (λ (z : Slot). z.ty) xy)))
      (λ (other : j ≢ n).
      subst (IsPlace y.ty (g.operations ++ op ∷ []))
      (sym (get_or-set_other known n j (Some (length g.operations)) None other))
      (place_push y.ty g.operations op (get_or known j None) (h.places j y ej)))
      (cases_eq j n);
  ins = λ j y ej. ⊎_elim
      (λ (same : j ≡ n).
      subst (IsHeld (is_input y.section))
      (sym (ap (λ m. get_or (set known n (Some (length g.operations))) m None) same ∙ get_or-set_same known n (Some (length g.operations)) None lt))
      (some_held (is_input y.section) (length g.operations)))
      (λ (other : j ≢ n). subst (IsHeld (is_input y.section)) (sym (get_or-set_other known n j (Some (length g.operations)) None other)) (h.ins j y ej))
      (cases_eq j n);
  cells = λ j l q. ⊎_elim
      (λ (last : j ≡ length g.loads).
      subst (IsCell s.slots) (last_is j l last q)
      (record {
        of = x;
        there = e;
        variable = not_held (is_input x.section) (subst (IsHeld (is_input x.section)) none (h.ins n x e));
        ty = refl;
        init =
            refl;
      }))
      (λ (other : j ≢ length g.loads). h.cells j l (earlier j l other q))
      (cases_eq j (length g.loads));
  held = λ j l q. ⊎_elim
      (λ (last : j ≡ length g.loads).
      subst (λ (m : Loaded). IsHeld true (get_or (set known n (Some (length g.operations))) m.name None)) (last_is j l last q)
      (subst (IsHeld true) (sym (get_or-set_same known n (Some (length g.operations)) None lt)) tt))
      (λ (other : j ≢ length g.loads). still_held known n (length g.operations) l.name (h.held j l (earlier j l other q)))
      (cases_eq j (length g.loads));
  room = omega (arith, h.room, fewer, length_push g.loads cell);
  columns = h.columns;
  below = h.below;
  so_far = h.so_far;
  size = omega (arith, h.size, outs_loaded s.slots known n (length g.operations) x e lt is_one none, length_push g.operations op, length_push g.loads cell);
  loads = λ cells start all. h.loads cells start (front cells start all);
  stops = λ cells row r q. run-push_stops g op cells row r (h.stops cells row r q);
  gives = λ cells row start now vs r loaded knows.
      let f = h.gives cells row start now vs r (front cells start loaded) knows in
      let ws = f.0 in
      let len = run-length g cells row ws f.1 in
      let v = at cells (length g.loads) in
      let here = loaded (length g.loads) cell (get_last g.loads cell) in
      let us = ws ++ v ∷ [] in
      let ran : run (with_load g n x.ty x.init x.spot) cells row ≡ Ok us = run-push g op cells row ws f.1
      ∙ ap (λ q. and_then q (λ y. Ok (ws ++ y ∷ []))) (load_of (record s { graph = g }) x cells row ws here.1) in
      let last : at us (length g.operations) ≡ v = ap (at us) (sym len) ∙ at-last ws v in
      let before : at now n ≡ at start n = subst (λ o. KnowsOne o ws (at now n) (at start n)) none (f.2 n (slice_get_within s.slots n x e)) in (
        us,
        ran,
        (λ j below. ⊎_elim
            (λ (same : j ≡ n).
            subst (λ o. KnowsOne o us (at now j) (at start j))
            (sym (ap (λ m. get_or (set known n (Some (length g.operations))) m None) same ∙ get_or-set_same known n (Some (length g.operations)) None lt))
            (last ∙ here.0 ∙ sym before ∙ ap (at now) (sym same)))
            (λ (other : j ≢ n).
            subst (λ o. KnowsOne o us (at now j) (at start j)) (sym (get_or-set_other known n j (Some (length g.operations)) None other))
            (told_kept j below ws us start now len (at-front ws v) (f.2 j below)))
            (cases_eq j n)),
        outs_kept (length g.names) (length g.operations) [] g.outputs ws us (omega (arith, len)) (at-front ws v) h.part.outputs ∙ f.3,
        stores_kept g.loads (length g.operations) [] g.stores ws us (omega (arith, len)) (at-front ws v) h.part.stores ∙ f.4
            ∙ ap (map (λ (m : Loaded). at now m.name)) (sym (take-append-le (length g.stores) g.loads (cell ∷ []) h.part.stored)),
      );
}
  where
    cell : Loaded
    cell = record { name = n; ty = x.ty; init = x.init; load = length g.operations }

    op : Op
    op = entry_op kind.Load x.ty 0 (length g.loads) x.spot

    lt : n < length known
    lt = let inside = slice_get_within s.slots n x e in omega (arith, inside, h.long)

    fewer : suc (unknown (set known n (Some (length g.operations)))) ≡ unknown known
    fewer = unknown_set known n (length g.operations) lt none

    front : (cells start : List ℤ) → AreLoaded (g.loads ++ cell ∷ []) cells start → AreLoaded g.loads cells start
    front cells start all j l q = all j l (get_push g.loads cell j (slice_get_within g.loads j l q) ∙ q)

    last_is : (j : ℕ) (l : Loaded) → j ≡ length g.loads → slice_get (g.loads ++ cell ∷ []) j ≡ Some l → cell ≡ l
    last_is j l last q = let both : Some cell ≡ Some l = sym (get_last g.loads cell) ∙ ap (slice_get (g.loads ++ cell ∷ [])) (sym last) ∙ q in cc

    earlier : (j : ℕ) (l : Loaded) → j ≢ length g.loads → slice_get (g.loads ++ cell ∷ []) j ≡ Some l → slice_get g.loads j ≡ Some l
    earlier j l other q =
        let below = slice_get_within (g.loads ++ cell ∷ []) j l q in
        let count = length_push g.loads cell in
        sym (get_push g.loads cell j (omega (arith, other, below, count))) ∙ q

    told_kept : (j : ℕ) → j < length s.slots → (ws us start now : List ℤ) → length ws ≡ length g.operations → Kept ws us
        → KnowsOne (get_or known j None) ws (at now j) (at start j) → KnowsOne (get_or known j None) us (at now j) (at start j)
    told_kept j below ws us start now len kept one =
        let y = slot_there s.slots j below in
        knows_one-kept y.0.ty (record s { graph = g }) (get_or known j None) ws us (at now j) (at start j) (h.places j y.0 y.1) len kept one

-- ---- an OUT

out_of : (nodes : List TurnNode) (t : Ty) (k j : ℕ) (spot : Spot) (cells row vs : List ℤ) → fits t (at vs k) ≡ true
    → step nodes cells row vs (entry_op kind.Out t k j spot) ≡ Ok (at vs k)
out_of nodes t k j spot cells row vs e = go (fits t (at vs k)) e
  where
    go : (b : Bool) → b ≡ true
        → stopped (turns_back (reverse nodes) 0) (entry_op kind.Out t k j spot)
        (cond (b && true && true) (cond false (Err why.DivZero) (cond b (Ok (at vs k)) (Err why.Range))) (Err why.Operand)) ≡ Ok (at vs k)
    go true h = refl
    go false h = absurd cc

store_of : (nodes : List TurnNode) (t : Ty) (k j : ℕ) (spot : Spot) (cells row vs : List ℤ) → fits t (at vs k) ≡ true
    → step nodes cells row vs (entry_op kind.Store t k j spot) ≡ Ok (at vs k)
store_of nodes t k j spot cells row vs e = go (fits t (at vs k)) e
  where
    go : (b : Bool) → b ≡ true
        → stopped (turns_back (reverse nodes) 0) (entry_op kind.Store t k j spot)
        (cond (b && true && true) (cond false (Err why.DivZero) (cond b (Ok (at vs k)) (Err why.Range))) (Err why.Operand)) ≡ Ok (at vs k)
    go true h = refl
    go false h = absurd cc

name_of_slot : (slots : List Slot) (n : ℕ) (x : Slot) → slice_get slots n ≡ Some x → slice_index_or (names_of slots) n [] ≡ x.name
name_of_slot [] n x e = absurd cc
name_of_slot (s ∷ slots) zero x e = let same : s ≡ x = cc in ap (λ (y : Slot). y.name) same
name_of_slot (s ∷ slots) (suc n) x e = name_of_slot slots n x e

pub closes_out : (s : State) (n m k : ℕ) (g : Lists) (known : List (Option ℕ)) (x : Slot) → slice_get s.slots n ≡ Some x → is_output x.section ≡ true
    → get_or known n None ≡ Some k → IsPart (with_output g n x.ty k x.spot) → Closes s n m g known →
    Closes s (suc n) m (with_output g n x.ty k x.spot) known
closes_out s n m k g known x e is_one place part h = record {
  from = h.from;
  part = part;
  profile = h.profile;
  names = h.names;
  inputs = h.inputs;
  turn_nodes = h.turn_nodes;
  operations = extends-trans s.graph.operations g.operations (g.operations ++ op ∷ []) h.operations (op ∷ [], refl);
  needed = h.needed;
  kept = h.kept;
  long = h.long;
  places = λ j y ej. place_push y.ty g.operations op (get_or known j None) (h.places j y ej);
  ins = h.ins;
  cells = h.cells;
  held = h.held;
  room = h.room;
  columns = map-append (output_column g.names) g.outputs (out ∷ [])
      ∙ ap₂ (λ l (c : List ℕ). l ++ (let one : Column = record { name = c; ty = x.ty } in one) ∷ []) h.columns
      (ap (λ l. slice_index_or l n []) (h.names ∙ h.from.names) ∙ name_of_slot s.slots n x e)
      ∙ sym (columns_more s.slots n x e ∙ by_test (is_output x.section) true _ _ is_one);
  below = All-push (λ (o : Outlet). o.name < suc n) g.outputs out (all_more n g.outputs h.below) (omega arith);
  so_far = h.so_far;
  size =
      let lt : n < length known = let inside = slice_get_within s.slots n x e in omega (arith, inside, h.long) in
      let one = ap₂ (λ b o. out_size b o) is_one place in
      omega (arith, h.size, outs_split s.slots known n x e lt, one, length_push g.operations op);
  loads = h.loads;
  stops = λ cells row r q. run-push_stops g op cells row r (h.stops cells row r q);
  gives = λ cells row start now vs r loaded knows.
      let f = h.gives cells row start now vs r loaded knows in
      let ws = f.0 in
      let len = run-length g cells row ws f.1 in
      let v = at ws k in
      let us = ws ++ v ∷ [] in
      let fit : fits x.ty v ≡ true = typed g cells row start ws h.part loaded f.1 x.ty k there in
      let ran : run (with_output g n x.ty k x.spot) cells row ≡ Ok us = run-push g op cells row ws f.1
      ∙ ap (λ q. and_then q (λ y. Ok (ws ++ y ∷ []))) (out_of g.turn_nodes x.ty k (length g.outputs) x.spot cells row ws fit) in
      let last : at us (length g.operations) ≡ v = ap (at us) (sym len) ∙ at-last ws v in
      let is : v ≡ at now n = subst (λ o. KnowsOne o ws (at now n) (at start n)) place (f.2 n (slice_get_within s.slots n x e)) in (
        us,
        ran,
        (λ j below. let y = slot_there s.slots j below in
            knows_one-kept y.0.ty (record s { graph = g }) (get_or known j None) ws us (at now j) (at start j) (h.places j y.0 y.1) len (at-front ws v)
            (f.2 j below)),
        map-append (λ (o : Outlet). at us o.op) g.outputs (out ∷ [])
            ∙ ap₂ (λ l z. l ++ z ∷ [])
            (outs_kept (length g.names) (length g.operations) [] g.outputs ws us (omega (arith, len)) (at-front ws v) h.part.outputs ∙ f.3) (last ∙ is)
            ∙ sym (outputs_more s.slots now n x e knows.long ∙ by_test (is_output x.section) true _ _ is_one),
        stores_kept g.loads (length g.operations) [] g.stores ws us (omega (arith, len)) (at-front ws v) h.part.stores ∙ f.4,
      );
}
  where
    out : Outlet
    out = record { name = n; ty = x.ty; op = length g.operations }

    op : Op
    op = entry_op kind.Out x.ty k (length g.outputs) x.spot

    there : IsA x.ty g.operations k
    there = subst (IsPlace x.ty g.operations) place (h.places n x e)

-- ---- a STORE

take_one_more : {X : Type 0} (xs : List X) (j : ℕ) (x : X) → slice_get xs j ≡ Some x → take (suc j) xs ≡ take j xs ++ x ∷ []
take_one_more [] j x e = absurd cc
take_one_more (y ∷ xs) zero x e = let same : y ≡ x = cc in ap (λ z. z ∷ []) same
take_one_more (y ∷ xs) (suc j) x e = ap (λ l. y ∷ l) (take_one_more xs j x e)

pub cell_place : (s : State) (n m k : ℕ) (g : Lists) (known : List (Option ℕ)) (l : Loaded) → slice_get g.loads m ≡ Some l → get_or known l.name None ≡ Some k
    → Closes s n m g known → IsA l.ty g.operations k
cell_place s n m k g known l e place h =
    let cell = h.cells m l e in
    subst (λ t. IsA t g.operations k) (sym cell.ty) (subst (IsPlace cell.of.ty g.operations) place (h.places l.name cell.of cell.there))

pub closes_store : (s : State) (n m k : ℕ) (g : Lists) (known : List (Option ℕ)) (l : Loaded) (spot : Spot) → slice_get g.loads m ≡ Some l
    → get_or known l.name None ≡ Some k → IsPart (with_store g l.ty k spot) → Closes s n m g known →
    Closes s n (suc m) (with_store g l.ty k spot) known
closes_store s n m k g known l spot e place part h = record {
  from = h.from;
  part = part;
  profile = h.profile;
  names = h.names;
  inputs = h.inputs;
  turn_nodes = h.turn_nodes;
  operations = extends-trans s.graph.operations g.operations (g.operations ++ op ∷ []) h.operations (op ∷ [], refl);
  needed = h.needed;
  kept = h.kept;
  long = h.long;
  places = λ j y ej. place_push y.ty g.operations op (get_or known j None) (h.places j y ej);
  ins = h.ins;
  cells = h.cells;
  held = h.held;
  room = h.room;
  columns = h.columns;
  below = h.below;
  so_far = let more = length_push g.stores (length g.operations) in omega (arith, more, h.so_far);
  size = omega (arith, h.size, length_push g.operations op, length_push g.stores (length g.operations));
  loads = h.loads;
  stops = λ cells row r q. run-push_stops g op cells row r (h.stops cells row r q);
  gives = λ cells row start now vs r loaded knows.
      let f = h.gives cells row start now vs r loaded knows in
      let ws = f.0 in
      let len = run-length g cells row ws f.1 in
      let v = at ws k in
      let us = ws ++ v ∷ [] in
      let fit : fits l.ty v ≡ true = typed g cells row start ws h.part loaded f.1 l.ty k there in
      let ran : run (with_store g l.ty k spot) cells row ≡ Ok us = run-push g op cells row ws f.1
      ∙ ap (λ q. and_then q (λ y. Ok (ws ++ y ∷ []))) (store_of g.turn_nodes l.ty k (length g.stores) spot cells row ws fit) in
      let last : at us (length g.operations) ≡ v = ap (at us) (sym len) ∙ at-last ws v in
      let is : v ≡ at now l.name =
      subst (λ o. KnowsOne o ws (at now l.name) (at start l.name)) place (f.2 l.name (slice_get_within s.slots l.name cell.of cell.there)) in
      let more : suc (length g.stores) ≡ length (g.stores ++ length g.operations ∷ []) = let one = length_push g.stores (length g.operations) in
      omega (arith, one) in (
        us,
        ran,
        (λ j below. let y = slot_there s.slots j below in
            knows_one-kept y.0.ty (record s { graph = g }) (get_or known j None) ws us (at now j) (at start j) (h.places j y.0 y.1) len (at-front ws v)
            (f.2 j below)),
        outs_kept (length g.names) (length g.operations) [] g.outputs ws us (omega (arith, len)) (at-front ws v) h.part.outputs ∙ f.3,
        map-append (λ m. at us m) g.stores (length g.operations ∷ [])
            ∙ ap₂ (λ q z. q ++ z ∷ []) (stores_kept g.loads (length g.operations) [] g.stores ws us (omega (arith, len)) (at-front ws v) h.part.stores ∙ f.4)
            (last ∙ is)
            ∙ sym (map-append (λ (m : Loaded). at now m.name) (take (length g.stores) g.loads) (l ∷ []))
            ∙ ap (map (λ (m : Loaded). at now m.name)) (sym (take_one_more g.loads (length g.stores) l (ap (slice_get g.loads) h.so_far ∙ e)))
            ∙ ap (λ j. map (λ (m : Loaded). at now m.name) (take j g.loads)) more,
      );
}
  where
    op : Op
    op = entry_op kind.Store l.ty k (length g.stores) spot

    cell : IsCell s.slots l
    cell = h.cells m l e

    there : IsA l.ty g.operations k
    there = cell_place s n m k g known l e place h

-- ---- how many OUTs and STOREs there are at most

section_last : (c : Section) → (c ≡ section.Constant → ⊥) → cond (is_output c) 1 0 + cond (is_input c) 0 1 ≤ last_of c
section_last section.Input v = omega arith
section_last section.Output v = omega arith
section_last section.Local v = omega arith
section_last section.Retain v = omega arith
section_last section.Constant v = absurd (v refl)

last_room : (slots : List Slot) → ((i : ℕ) (x : Slot) → slice_get slots i ≡ Some x → x.section ≡ section.Constant → ⊥)
    → length (output_columns slots) + others slots ≤ last_size slots
last_room [] v = omega arith
last_room (s ∷ slots) v =
    let rest = last_room slots (λ i x e. v (suc i) x e) in
    let one = section_last s.section (v 0 s refl) in
    let sum : last_size (s ∷ slots) ≡ last_of s.section + last_size slots = sum_more (λ (x : Slot). last_of x.section) s slots in
    go (is_output s.section) (is_input s.section) (last_of s.section) (last_size slots) (last_size (s ∷ slots)) rest one sum
  where
    go : (a b : Bool) (t u w : ℕ) → length (output_columns slots) + others slots ≤ u → cond a 1 0 + cond b 0 1 ≤ t → w ≡ t + u →
        length (cond a ((record { name = s.name; ty = s.ty }) ∷ output_columns slots) (output_columns slots)) + cond b (others slots) (suc (others slots)) ≤ w
    go true true t u w r o e = omega arith
    go true false t u w r o e = omega arith
    go false true t u w r o e = omega arith
    go false false t u w r o e = omega arith

-- the whole graph has no more operations than are reserved and the end of a cycle may add
pub whole_room : (s : State) → IsState s → whole_size s ≤ reserved s + last_size s.slots
whole_room s i = let room = last_room s.slots i.variables in let outs = outs_within s.slots s.known in omega (arith, i.cells, room, outs)

-- a LOAD is refused only where the whole graph has no room
pub load_room : (s : State) (n m : ℕ) (g : Lists) (known : List (Option ℕ)) (x : Slot) (most : ℕ) → Closes s n m g known → slice_get s.slots n ≡ Some x
    → is_output x.section ≡ true → get_or known n None ≡ None → length g.operations ≡ most → most < whole_size s
load_room s n m g known x most h e is_one none all =
    let lt : n < length known = let inside = slice_get_within s.slots n x e in omega (arith, inside, h.long) in
    omega (arith, h.size, h.part.stored, outs_loaded s.slots known n 0 x e lt is_one none, all)

-- an OUT
pub out_room : (s : State) (n m : ℕ) (g : Lists) (known : List (Option ℕ)) (k : ℕ) (x : Slot) (most : ℕ) → Closes s n m g known → slice_get s.slots n ≡ Some x
    → is_output x.section ≡ true → get_or known n None ≡ Some k → length g.operations ≡ most → most < whole_size s
out_room s n m g known k x most h e is_one place all =
    let lt : n < length known = let inside = slice_get_within s.slots n x e in omega (arith, inside, h.long) in
    let one = ap₂ (λ b o. out_size b o) is_one place in
    omega (arith, h.size, h.part.stored, outs_split s.slots known n x e lt, one, all)

-- a STORE
pub store_room : (s : State) (n m : ℕ) (g : Lists) (known : List (Option ℕ)) (most : ℕ) → Closes s n m g known → m < length g.loads → length g.operations ≡ most
    → most < whole_size s
store_room s n m g known most h less all = omega (arith, h.size, h.so_far, less, all)

-- ---- the whole

pub finishes : (s : State) (m : ℕ) (g : Lists) (known : List (Option ℕ)) → m ≡ length g.loads → Closes s (length s.slots) m g known → Finishes s g
finishes s m g known full h = record {
  profile = h.profile;
  names = h.names ∙ h.from.names;
  turn_nodes = h.turn_nodes;
  inputs = h.inputs;
  operations = h.operations;
  needed = h.needed;
  ins = ap₂ (λ l q. map (column l) q) h.names h.inputs ∙ h.from.columns;
  outs = h.columns ∙ ap output_columns (take_all (length s.slots) s.slots (omega arith));
  whole = record { part = h.part; all_stored = h.so_far ∙ full };
  size = let over = outs_over s.slots known in omega (arith, h.size, h.so_far, full, over);
  cells = h.cells;
  loads = h.loads;
  stops = h.stops;
  gives = λ cells row start now vs r loaded knows.
      let f = h.gives cells row start now vs r loaded knows in (
        f.0,
        f.1,
        f.3 ∙ ap (λ l. outputs l now) (take_all (length s.slots) s.slots (omega arith)),
        f.4
            ∙ ap (map (λ (m : Loaded). at now m.name)) (take_all (length g.stores) g.loads (omega (arith, h.so_far, full))),
      );
}

-- ---- refusals of a builder

pub refused_by : (r : Result ℕ Build) (n : ℕ) (P : Type 0) → ((r ≡ Err build.Full) ↔ (n ≡ most_operations)) → (n ≡ most_operations → P)
    → IfErr r (λ why. why ≡ build.Full → P)
refused_by (Ok k) n P full p = tt
refused_by (Err e) n P full p = λ is. p (full.0 (ap (λ x. Err x) is))
