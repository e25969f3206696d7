-- Top: the graph means the program, over every list of rows.
use Rattle.std.proofs.Common.{◌≡◌, ℕ, zero, suc, ℤ, Bool, true, false, cond, List, [], ◌∷◌, ◌++◌, map, length, reverse, slice_get, Some, None, Result, Ok, Err}
use Rattle.std.proofs.Common.{refl, sym, ap, ap₂, ◌∙◌, subst, arith, length-append}
use Rattle.std.specs.Prelude.{IfOk}
use Rattle.std.proofs.lemmas.List.{append_assoc}
use Rattle.vcp_base.specs.Types.{fits, AreIn}
use Rattle.vcp_base.specs.Kinds.{Outcome}
use Rattle.op_graph.specs.declared.op.Op.{Op}
use Rattle.op_graph.specs.declared.op.Loaded.{Loaded}
use Rattle.op_graph.specs.declared.op.TurnNode.{TurnNode}
use Rattle.op_graph.specs.Lists.{Lists, turns_back, turns_of}
use Rattle.vcp_base.specs.Values.{at}
use Rattle.op_graph.specs.GraphRun.{outcome_of, Cycle, after, cycle_from, after_cycle, stored}
use Rattle.op_graph.specs.GraphRun.{Run as GraphOutcome, cycle as graph_cycle, run_from as graph_from, initial as first_cells, outputs as graph_outputs}
use Rattle.vcp_typed.specs.declared.slot.Slot.{Slot}
use Rattle.vcp_typed.specs.Fitting.{AreRows, AreFit, input_types, input_columns, output_columns}
use Rattle.vcp_base.specs.Code.{is_wide}
use Rattle.vcp_typed.specs.Meaning.{Stop, and_then, do_stmts}
use Rattle.vcp_typed.specs.SourceRun.{Program, Run, is_input, initial, with_inputs, outputs, cycle, run_from}
use Rattle.vcp_typed.specs.SourceRun.{after_cycle as after_source}
use Rattle.flat_expr.specs.Begin.{Begins}
use Rattle.flat_expr.specs.State.{State, active, AreLoaded, IsCell, Finishes, stopped}
use Rattle.flat_expr.specs.State.{run_from as ops_from, run as graph_run}
use Rattle.vcp_base.specs.Stops.{told_stop}
use Rattle.flat_expr.specs.Told.{Told, names_of, source_end, halted_at, graph_end, Means}
use Rattle.flat_stmt.specs.Moves.{here, EndsIn, Tells, where_reached, Does}

-- ---- a run of operations, and the cycle of a graph

cycle_of : (nodes : List TurnNode) (cells row vs ws : List ℤ) (ops : List Op) → ops_from nodes cells row vs ops ≡ Ok ws
    → cycle_from cells row vs ops ≡ record { values = ws; stop = None }
cycle_of nodes cells row vs ws [] e = let s : vs ≡ ws = cc in ap (λ x. record { values = x; stop = None }) s
cycle_of nodes cells row vs ws (o ∷ ops) e = go (λ v. cycle_of nodes cells row (vs ++ v ∷ []) ws ops) (outcome_of cells row vs o) e
  where
    go : ((v : ℤ) → ops_from nodes cells row (vs ++ v ∷ []) ops ≡ Ok ws → cycle_from cells row (vs ++ v ∷ []) ops ≡ record { values = ws; stop = None })
        → (r : Outcome) → and_then (stopped (turns_back (reverse nodes) o.turn) o r) (λ v. ops_from nodes cells row (vs ++ v ∷ []) ops) ≡ Ok ws
        → after vs (λ v. cycle_from cells row (vs ++ v ∷ []) ops) r ≡ record { values = ws; stop = None }
    go all (Ok v) h = all v h
    go all (Err s) h = absurd cc

-- the operation at which a cycle stops
record StopsAt (nodes : List TurnNode) (ops : List Op) (c : Cycle) (s : Stop) : Type 0 where
  op : Op
  there : slice_get ops (length c.values) ≡ Some op
  kind : c.stop ≡ Some s.kind
  spot : op.spot ≡ s.spot
  turns : turns_back (reverse nodes) op.turn ≡ s.turns

get_at : (front : List Op) (op : Op) (ops : List Op) (n : ℕ) → n ≡ length front → slice_get (front ++ op ∷ ops) n ≡ Some op
get_at [] op ops n e = ap (λ k. slice_get (op ∷ ops) k) e
get_at (x ∷ front) op ops zero e = absurd (omega (arith, e))
get_at (x ∷ front) op ops (suc n) e = get_at front op ops n (omega (arith, e))

stops_at : (nodes : List TurnNode) (cells row vs : List ℤ) (front ops : List Op) (s : Stop) → length vs ≡ length front → ops_from nodes cells row vs ops ≡ Err s
    → StopsAt nodes (front ++ ops) (cycle_from cells row vs ops) s
stops_at nodes cells row vs front [] s long e = absurd cc
stops_at nodes cells row vs front (o ∷ ops) s long e =
    go (λ v h. stops_at nodes cells row (vs ++ v ∷ []) (front ++ o ∷ []) ops s (omega (arith, long, length-append vs (v ∷ []), length-append front (o ∷ []))) h)
    (outcome_of cells row vs o) e
  where
    go : ((v : ℤ) → ops_from nodes cells row (vs ++ v ∷ []) ops ≡ Err s → StopsAt nodes ((front ++ o ∷ []) ++ ops) (cycle_from cells row (vs ++ v ∷ []) ops) s)
        → (r : Outcome) → and_then (stopped (turns_back (reverse nodes) o.turn) o r) (λ v. ops_from nodes cells row (vs ++ v ∷ []) ops) ≡ Err s →
        StopsAt nodes (front ++ o ∷ ops) (after vs (λ v. cycle_from cells row (vs ++ v ∷ []) ops) r) s
    go all (Ok v) h = subst (λ l. StopsAt nodes l (cycle_from cells row (vs ++ v ∷ []) ops) s) (append_assoc front (o ∷ []) ops) (all v h)
    go all (Err k) h =
        let is : (record { kind = k; spot = o.spot; turns = turns_back (reverse nodes) o.turn }) ≡ s = cc in
        record {
          op = o;
          there = get_at front o ops (length vs) long;
          kind = ap (λ (x : Stop). Some x.kind) is;
          spot = ap (λ (x : Stop). x.spot) is;
          turns = ap (λ (x : Stop). x.turns) is;
        }

-- ---- lists

slot_at : (f : Slot → ℤ) (slots : List Slot) (i : ℕ) (x : Slot) → slice_get slots i ≡ Some x → at (map f slots) i ≡ f x
slot_at f [] i x e = absurd cc
slot_at f (s ∷ slots) zero x e = let is : s ≡ x = cc in ap f is
slot_at f (s ∷ slots) (suc i) x e = slot_at f slots i x e

load_at : (f : Loaded → ℤ) (loads : List Loaded) (j : ℕ) (l : Loaded) → slice_get loads j ≡ Some l → at (map f loads) j ≡ f l
load_at f [] j l e = absurd cc
load_at f (x ∷ loads) zero l e = let is : x ≡ l = cc in ap f is
load_at f (x ∷ loads) (suc j) l e = load_at f loads j l e

loads_same : (f g : Loaded → ℤ) (loads : List Loaded) → ((j : ℕ) (l : Loaded) → slice_get loads j ≡ Some l → f l ≡ g l) → map f loads ≡ map g loads
loads_same f g [] h = refl
loads_same f g (l ∷ loads) h = ap₂ (λ x xs. x ∷ xs) (h zero l refl) (loads_same f g loads (λ j. h (suc j)))

fit_at : (slots : List Slot) (m : List ℤ) (i : ℕ) (x : Slot) → AreFit slots m → slice_get slots i ≡ Some x → fits x.ty (at m i) ≡ true
fit_at [] m i x h e = absurd cc
fit_at (s ∷ slots) [] i x h e = absurd h
fit_at (s ∷ slots) (v ∷ m) zero x h e = let is : s ≡ x = cc in subst (λ (y : Slot). fits y.ty v ≡ true) is h.0
fit_at (s ∷ slots) (v ∷ m) (suc i) x h e = fit_at slots m i x h.1 e

fit_long : (slots : List Slot) (m : List ℤ) → AreFit slots m → length m ≡ length slots
fit_long [] [] h = refl
fit_long [] (v ∷ m) h = absurd h
fit_long (s ∷ slots) [] h = absurd h
fit_long (s ∷ slots) (v ∷ m) h = ap suc (fit_long slots m h.1)

-- a slot that is no input keeps its value at the begin of a cycle
kept_at : (slots : List Slot) (row m : List ℤ) (i : ℕ) (x : Slot) → length m ≡ length slots → slice_get slots i ≡ Some x → is_input x.section ≡ false
    → at (with_inputs slots row m) i ≡ at m i
kept_at [] row m i x long e none = absurd cc
kept_at (s ∷ slots) row [] i x long e none = absurd (omega (arith, long))
kept_at (s ∷ slots) [] (v ∷ m) i x long e none = refl
kept_at (s ∷ slots) (r ∷ row) (v ∷ m) zero x long e none =
    let is : s ≡ x = cc in
    ap (λ b. at (cond b (r ∷ with_inputs slots row m) (v ∷ with_inputs slots (r ∷ row) m)) zero) (ap (λ (y : Slot). is_input y.section) is ∙ none)
kept_at (s ∷ slots) (r ∷ row) (v ∷ m) (suc i) x long e none =
    either (is_input s.section) (r ∷ with_inputs slots row m) (v ∷ with_inputs slots (r ∷ row) m) i (at m i)
    (kept_at slots row m i x (omega (arith, long)) e none) (kept_at slots (r ∷ row) m i x (omega (arith, long)) e none)
  where
    either : (b : Bool) (xs ys : List ℤ) (i : ℕ) (y : ℤ) → at xs (suc i) ≡ y → at ys (suc i) ≡ y → at (cond b xs ys) (suc i) ≡ y
    either true xs ys i y h k = h
    either false xs ys i y h k = k

-- ---- runs as they are told

tell_graph : Lists → GraphOutcome → Told
tell_graph g r = record { rows = r.rows; end = graph_end g r.end }

tell_source : Program → Run → Told
tell_source p r = record { rows = r.rows; end = source_end (names_of p.slots) r.end }

abbrev more : List ℤ → Told → Told
more row t = record { rows = row ∷ t.rows; end = t.end }

-- in a checked program every value is in its type
pub record ValuesFit (p : Program) : Type 0 where
  pub initial : AreFit p.slots (initial p.slots)
  pub cycle : (row m : List ℤ) → AreIn (input_types p.slots) row → AreFit p.slots m → IfOk (cycle p m row) (AreFit p.slots)

module _ (p : Program) (g : Lists) (s0 s1 : State) (n : ℕ) (law : ValuesFit p) (b : Begins s0 p) (d : Does s0 s1 n (do_stmts [] p.body))
    (f : Finishes s1 g) where
  slots1 : s1.slots ≡ p.slots
  slots1 = d.moves.continues.slots ∙ b.slots

  cell : (j : ℕ) (l : Loaded) → slice_get g.loads j ≡ Some l → IsCell p.slots l
  cell j l e = subst (λ slots. IsCell slots l) slots1 (f.cells j l e)

  loaded : (row m cells : List ℤ) → AreFit p.slots m → cells ≡ map (λ l. at m l.name) g.loads → AreLoaded g.loads cells (with_inputs p.slots row m)
  loaded row m cells fit is j l e =
      let c = cell j l e in
      let here_is : at cells j ≡ at m l.name = ap (λ x. at x j) is ∙ load_at (λ l. at m l.name) g.loads j l e in (
        here_is ∙ sym (kept_at p.slots row m l.name c.of (fit_long p.slots m fit) c.there c.variable),
        ap₂ (λ t v. fits t v) c.ty here_is
            ∙ fit_at p.slots m l.name c.of fit c.there,
      )

  -- what the cycle of the graph comes to
  ends : (row m cells : List ℤ) → AreIn (input_types p.slots) row → AreFit p.slots m → cells ≡ map (λ l. at m l.name) g.loads → (x : Result (List ℤ) Stop)
      → x ≡ cycle p m row →
      EndsIn (λ next ws. (graph_outputs g ws ≡ outputs p.slots next) × (stored g ws ≡ map (λ l. at next l.name) g.loads)) x (graph_run g cells row)
  ends row m cells fits_row fit is x e =
      let start = with_inputs p.slots row m in
      let load = loaded row m cells fit is in
      let begin = b.gives cells row m fits_row (fit_long p.slots m fit) in
      let h = d.moves.gives cells row start start begin.0 begin.1 (f.loads cells start load) begin.2 tt in
      go x start load begin.0 (subst (λ r. EndsIn (Tells s1 start begin.0) (and_then r (λ k. Ok (here true k))) (graph_run s1.graph cells row)) (sym e)
      (subst (λ o. EndsIn (Tells s1 start begin.0) (where_reached (do_stmts [] p.body) (active o begin.0) start) (graph_run s1.graph cells row)) b.path h))
    where
      go : (r : Result (List ℤ) Stop) (start : List ℤ) → AreLoaded g.loads cells start → (vs : List ℤ)
          → EndsIn (Tells s1 start vs) (and_then r (λ k. Ok (here true k))) (graph_run s1.graph cells row) →
          EndsIn (λ next ws. (graph_outputs g ws ≡ outputs p.slots next) × (stored g ws ≡ map (λ l. at next l.name) g.loads)) r (graph_run g cells row)
      go (Ok next) start load vs h =
          let q = f.gives cells row start next h.0 h.1 load h.2.knows in
          (q.0, q.1, (q.2 ∙ ap (λ slots. outputs slots next) slots1, q.3))
      go (Err s) start load vs h = f.stops cells row s h

  same_end : (s : Stop) (cells row : List ℤ) → graph_run g cells row ≡ Err s → (next : List ℤ → GraphOutcome) →
      tell_graph g (after_cycle g (graph_cycle g cells row).values next (graph_cycle g cells row).stop)
      ≡ record { rows = []; end = source_end (names_of p.slots) (Some s) }
  unfolding tell_graph tell_source
  same_end s cells row e next =
      let h = stops_at g.turn_nodes cells row [] [] g.operations s refl e in
      ap (λ k. tell_graph g (after_cycle g (graph_cycle g cells row).values next k)) h.kind
      ∙ ap (λ o. record { rows = []; end = halted_at g s.kind o }) h.there
      ∙ ap (λ x. record { rows = []; end = Some (told_stop g.names s.kind x (turns_of g h.op.turn)) }) h.spot
      ∙ ap (λ x. record { rows = []; end = Some (told_stop g.names s.kind s.spot x) }) h.turns
      ∙ ap (λ x. record { rows = []; end = Some (told_stop x s.kind s.spot s.turns) }) (f.names ∙ ap names_of slots1)

  one_row : (row : List ℤ) (rows : List (List ℤ)) (m cells : List ℤ) (r : Result (List ℤ) Stop)
      → EndsIn (λ next ws. (graph_outputs g ws ≡ outputs p.slots next) × (stored g ws ≡ map (λ l. at next l.name) g.loads)) r (graph_run g cells row)
      → IfOk r (AreFit p.slots) →
      ((next held : List ℤ) → AreFit p.slots next → held ≡ map (λ l. at next l.name) g.loads → tell_graph g (graph_from g held rows) ≡ tell_source p
      (run_from p next rows)) →
      tell_graph g (graph_from g cells (row ∷ rows)) ≡ tell_source p (after_source p.slots (λ next. run_from p next rows) r)
  unfolding tell_graph tell_source
  one_row row rows m cells (Ok next) e fit rest =
      ap (λ (c : Cycle). tell_graph g (after_cycle g c.values (λ held. graph_from g held rows) c.stop))
      (cycle_of g.turn_nodes cells row [] e.0 g.operations e.1)
      ∙ ap₂ more e.2.0 (rest next (stored g e.0) fit e.2.1)
  one_row row rows m cells (Err s) e fit rest = same_end s cells row e (λ held. graph_from g held rows)

  all_rows : (rows : List (List ℤ)) (m cells : List ℤ) → AreRows (input_types p.slots) rows → AreFit p.slots m → cells ≡ map (λ l. at m l.name) g.loads
      → tell_graph g (graph_from g cells rows) ≡ tell_source p (run_from p m rows)
  unfolding tell_graph tell_source
  all_rows [] m cells h fit is = refl
  all_rows (row ∷ rows) m cells h fit is =
      one_row row rows m cells (cycle p m row) (ends row m cells h.0 fit is (cycle p m row) refl) (law.cycle row m h.0 fit)
      (λ next held. all_rows rows next held h.1)

  pub means : Means g p
  unfolding tell_graph tell_source
  means = record {
    code = ap is_wide (f.profile ∙ d.moves.continues.profile) ∙ b.code;
    inputs = f.ins ∙ ap input_columns slots1;
    outputs = f.outs ∙ ap output_columns slots1;
    runs = λ rows h. all_rows rows (initial p.slots) (first_cells g) h law.initial
        (loads_same (λ l. l.init) (λ l. at (initial p.slots) l.name) g.loads
        (λ j l e. let c = cell j l e in c.init ∙ sym (slot_at (λ s. s.init) p.slots l.name c.of c.there)));
  }

-- no turn is round the body
pub no_turns : (s : State) (p : Program) → Begins s p → turns_of s.graph s.turn ≡ []
no_turns s p b = ap (λ l. turns_back (reverse l) s.turn) b.nodes
