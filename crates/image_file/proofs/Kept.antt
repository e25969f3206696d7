-- What was read keeps the rules of a graph, and what keeps them is read.
use Rattle.std.proofs.Common.{◌≡◌, ℕ, zero, suc, ◌-◌, ◌<◌, ◌≤◌, ◌&&◌, ◌||◌, not, nat_lt, Bool, true, false, List, [], ◌∷◌, ◌++◌, length, map, slice_get, All, Option, Some, None, bytes_eq, refl, sym, ap, subst, ◌∙◌, append_assoc, arith}
use Rattle.std.specs.List.{list_any}
use Rattle.std.specs.Prelude.{FitsSigned}
use Rattle.std.specs.Int.{w64}
use Rattle.std.proofs.lemmas.Bool.{leb-true, ltb-true, lt-ltb}
use Rattle.std.proofs.lemmas.List.{length-map, map-append, length_push}
use Rattle.std.proofs.lemmas.List.Elements.{All-cons, All-nil}
use Rattle.std.proofs.lemmas.Slice.Eq.{bytes_eq-Decides}
use Rattle.vcp_base.specs.declared.code.Profile.{Profile}
use Rattle.vcp_base.specs.Names.{SameName, NameFits}
use Rattle.vcp_base.specs.Code.{admits}
use Rattle.op_graph.specs.declared.op.Op.{Op}
use Rattle.op_graph.specs.declared.op.Cell.{Cell}
use Rattle.op_graph.specs.declared.op.Loaded.{Loaded}
use Rattle.op_graph.specs.declared.op.Var.{Var}
use Rattle.op_graph.specs.declared.op.Outlet.{Outlet}
use Rattle.op_graph.specs.declared.op.TurnNode.{TurnNode}
use Rattle.op_graph.specs.Lists.{joined}
use Rattle.op_graph.specs.Rules.{Each, IsPart, InputFits, OutputFits, LoadFits, StoreFits, TurnNodeFits, Operates, LoadedBefore, Admitted, PlaceFits}
use Rattle.image_file.proofs.Entries.{each_more, Under, under_all, get_last}
use Rattle.image_file.specs.Entries.{lower, above, number_of, rises, name_by, name_piece, input_piece, output_piece, cell_piece, turn_piece}
use Rattle.image_file.specs.Image.{Parts, load_of, store_of, Said, said, image_piece, head_piece, counts_piece, op_by, op_piece, parts_of, entry_counts, later_counts, op_number, op_operands, later_lists}
use Rattle.image_file.specs.Graphs.{lists_of, HasImage}

pub both : (a b : Bool) → (a && b) ≡ true → (a ≡ true) × (b ≡ true)
both true b e = (refl, e)
both false b e = absurd cc

pub and : (a b : Bool) → a ≡ true → b ≡ true → (a && b) ≡ true
and true b e f = f
and false b e f = absurd cc

neither : (a b : Bool) → (a || b) ≡ false → (a ≡ false) × (b ≡ false)
neither true b e = absurd cc
neither false b e = (refl, e)

not_true : (a : Bool) → not a ≡ true → a ≡ false
not_true true e = absurd cc
not_true false e = refl

-- ---- numbers that rise

under_more : {X : Type 0} (f : X → ℕ) (m n : ℕ) (xs : List X) → m ≤ n → Under f m xs → Under f n xs
under_more f m n [] le h = tt
under_more f m n (x ∷ xs) le h = (omega (arith, h.0), under_more f m n xs le h.1)

under_push : {X : Type 0} (f : X → ℕ) (n : ℕ) (xs : List X) (x : X) → Under f n xs → f x < n → Under f n (xs ++ x ∷ [])
under_push f n [] x h lt = (lt, tt)
under_push f n (y ∷ xs) x h lt = (h.0, under_push f n xs x h.1 lt)

under_map : {X Y : Type 0} (g : X → Y) (f : Y → ℕ) (n : ℕ) (xs : List X) → Under (λ x. f (g x)) n xs → Under f n (map g xs)
under_map g f n [] h = tt
under_map g f n (x ∷ xs) h = (h.0, under_map g f n xs h.1)

-- what is above the last one is above all
abbrev Over : {X : Type 0} → (X → ℕ) → List X → Type 0
Over f earlier = (z : ℕ) → rises f earlier z ≡ true → Under f z earlier

over_nothing : {X : Type 0} (f : X → ℕ) → Over f []
over_nothing f z e = tt

rises_last : {X : Type 0} (f : X → ℕ) (xs : List X) (x : X) (z : ℕ) → rises f (xs ++ x ∷ []) z ≡ nat_lt (f x) z
rises_last f xs x z =
    let len = length_push xs x in
    let place : length (xs ++ x ∷ []) - 1 ≡ length xs = omega arith in
    ap (λ o. above (number_of f o) z) (ap (slice_get (xs ++ x ∷ [])) place ∙ get_last xs x)

over_push : {X : Type 0} (f : X → ℕ) (earlier : List X) (x : X) → Over f earlier → rises f earlier (f x) ≡ true → Over f (earlier ++ x ∷ [])
over_push f earlier x over r z e =
    let lt : f x < z = ltb-true _ _ (sym (rises_last f earlier x z) ∙ e) in
    under_push f z earlier x (under_more f (f x) z earlier (omega arith) (over (f x) r)) lt

each_rising : {X : Type 0} (f : X → ℕ) (P : List X → X → Type 0) (earlier xs : List X) → Over f earlier
    → ((b : List X) (x : X) → P b x → rises f b (f x) ≡ true) → Each P earlier xs → Each (λ b x. P b x × Under f (f x) b) earlier xs
each_rising f P earlier [] over r h = tt
each_rising f P earlier (x ∷ xs) over r h =
    let here = r earlier x h.0 in
    ((h.0, over (f x) here), each_rising f P (earlier ++ x ∷ []) xs (over_push f earlier x over here) r h.1)

last_below : {X : Type 0} (f : X → ℕ) (n : ℕ) (xs : List X) (o : Option X) (k : ℕ) → slice_get xs k ≡ o → All (λ w. f w < n) xs → above (number_of f o) n ≡ true
last_below f n xs None k e all = refl
last_below f n [] (Some x) k e all = absurd cc
last_below f n (y ∷ xs) (Some x) zero e all = let same : y ≡ x = cc in lt-ltb _ _ (subst (λ z. f z < n) same (all 0 x (omega arith)))
last_below f n (y ∷ xs) (Some x) (suc k) e all = last_below f n xs (Some x) k e (λ i d lt. all (suc i) d (omega arith))

pub all_rises : {X : Type 0} (f : X → ℕ) (n : ℕ) (xs : List X) → All (λ w. f w < n) xs → rises f xs n ≡ true
all_rises f n xs all = last_below f n xs (slice_get xs (length xs - 1)) (length xs - 1) refl all

each_all : {X : Type 0} (P : List X → X → Type 0) (Q : X → Type 0) (earlier xs : List X) → ((b : List X) (x : X) → P b x → Q x) → Each P earlier xs → All Q xs
each_all P Q earlier [] f h = All-nil Q
each_all P Q earlier (x ∷ xs) f h = All-cons Q x xs (f earlier x h.0) (each_all P Q (earlier ++ x ∷ []) xs f h.1)

pub each_with_all : {X : Type 0} (P : List X → X → Type 0) (Q : X → Type 0) (earlier xs : List X) → All Q xs → Each P earlier xs
    → Each (λ b x. P b x × Q x) earlier xs
each_with_all P Q earlier [] all h = tt
each_with_all P Q earlier (x ∷ xs) all h = ((h.0, all 0 x (omega arith)), each_with_all P Q (earlier ++ x ∷ []) xs (λ i d lt. all (suc i) d (omega arith)) h.1)

-- ---- names

clash : true ≡ false → ⊥
clash e = cc

decided : (t : Bool) → (t ≡ true → ⊥) → t ≡ false
decided true never = absurd (never refl)
decided false _ = refl

unequal : (a b : List ℕ) → (a ≡ b → ⊥) → bytes_eq a b ≡ false
unequal a b never = decided (bytes_eq a b) (λ e. never ((bytes_eq-Decides a b).0 e))

new_all : (n : List ℕ) (ms : List (List ℕ)) → list_any (bytes_eq (lower n)) (map lower ms) ≡ false → All (λ m. SameName m n → ⊥) ms
new_all n [] e = All-nil (λ m. SameName m n → ⊥)
new_all n (m ∷ ms) e =
    let parts = neither (bytes_eq (lower n) (lower m)) (list_any (bytes_eq (lower n)) (map lower ms)) e in
    All-cons (λ m. SameName m n → ⊥) m ms
    (λ same. let yes : bytes_eq (lower n) (lower m) ≡ true = (bytes_eq-Decides (lower n) (lower m)).1 (sym same) in absurd (clash (sym yes ∙ parts.0)))
    (new_all n ms parts.1)

pub none_any : (n : List ℕ) (ms : List (List ℕ)) → All (λ m. SameName m n → ⊥) ms → list_any (bytes_eq (lower n)) (map lower ms) ≡ false
none_any n [] all = refl
none_any n (m ∷ ms) all =
    ap (λ b. b || list_any (bytes_eq (lower n)) (map lower ms)) (unequal (lower n) (lower m) (λ e. all 0 m (omega arith) (sym e)))
    ∙ none_any n ms (λ i d lt. all (suc i) d (omega arith))

-- ---- cells

abbrev CellFits : Profile → ℕ → ℕ → List Cell → Cell → Type 0
CellFits p names operations b c = ((cell_piece p names operations b).fits c × Under (λ d. d.load) c.load b) × Under (λ d. d.store) c.store b

loads_fit : (p : Profile) (names operations : ℕ) (earlier cs : List Cell) → Each (CellFits p names operations) earlier cs
    → Each (LoadFits names operations) (map load_of earlier) (map load_of cs)
unfolding cell_piece
loads_fit p names operations earlier [] h = tt
loads_fit p names operations earlier (c ∷ cs) h =
    let r = h.0.0.0 in
    let load = both _ _ r.1.1.1.0.1 in (
      record {
        name = ltb-true _ _ r.0.1;
        init = r.1.1.0.1;
        load = ltb-true _ _ load.0;
        load_rises = under_all (λ m. m.load) c.load (map load_of earlier) (under_map load_of (λ m. m.load) c.load earlier h.0.0.1);
      },
      subst (λ b. Each (LoadFits names operations) b (map load_of cs)) (map-append load_of earlier (c ∷ []))
          (loads_fit p names operations (earlier ++ c ∷ []) cs h.1),
    )

get_at : (earlier : List Cell) (c : Cell) (cs : List Cell) → slice_get (map load_of (earlier ++ c ∷ cs)) (length earlier) ≡ Some (load_of c)
get_at [] c cs = refl
get_at (b ∷ earlier) c cs = get_at earlier c cs

stores_fit : (p : Profile) (names operations : ℕ) (loads : List Loaded) (earlier cs : List Cell) → loads ≡ map load_of (earlier ++ cs)
    → Each (CellFits p names operations) earlier cs → Each (StoreFits loads operations) (map store_of earlier) (map store_of cs)
unfolding cell_piece
stores_fit p names operations loads earlier [] e h = tt
stores_fit p names operations loads earlier (c ∷ cs) e h =
    let r = h.0.0.0 in
    let store = both _ _ r.1.1.1.1.0.1 in
    let first = both _ _ store.0 in
    let here : slice_get loads (length (map store_of earlier)) ≡ Some (load_of c) = ap (λ k. slice_get loads k) (length-map earlier store_of)
    ∙ ap (λ l. slice_get l (length earlier)) e ∙ get_at earlier c cs in (
      record {
        store = ltb-true _ _ first.1;
        store_rises = under_all (λ m. m) c.store (map store_of earlier) (under_map store_of (λ m. m) c.store earlier h.0.1);
        after_load =
            subst (λ o. LoadedBefore o c.store) (sym here) (ltb-true _ _ first.0);
      },
      subst (λ b. Each (StoreFits loads operations) b (map store_of cs)) (map-append store_of earlier (c ∷ []))
          (stores_fit p names operations loads (earlier ++ c ∷ []) cs (e ∙ ap (map load_of) (sym (append_assoc earlier (c ∷ []) cs))) h.1),
    )

-- ---- what each list of an image says

all_map : {X Y : Type 0} (Q : Y → Type 0) (f : X → Y) (xs : List X) → All (λ x. Q (f x)) xs → All Q (map f xs)
all_map Q f [] all = All-nil Q
all_map Q f (x ∷ xs) all = All-cons Q (f x) (map f xs) (all 0 x (omega arith)) (all_map Q f xs (λ i d lt. all (suc i) d (omega arith)))

pub names_keep : (xs : List (List ℕ)) → Each (λ b. (name_piece b).fits) [] xs → Each (NameFits (λ n. n)) [] xs
unfolding name_by
names_keep xs h =
    each_more _ _ (length xs) [] xs (omega arith)
    (λ b x lt r. let size = both _ _ r.0.1 in let name = both _ _ r.1.0.1 in
    record { short = leb-true _ _ size.1; letters = name.0; new = new_all x b (not_true _ name.1) }) h

pub inputs_keep : (p : Profile) (names : ℕ) (xs : List Var) → Each (λ b. (input_piece p names b).fits) [] xs → Each (InputFits names) [] xs
unfolding input_piece
inputs_keep p names xs h =
    each_more _ _ (length xs) [] xs (omega arith)
    (λ b x lt r. record { name = ltb-true _ _ (both _ _ r.0.0.1).0; name_rises = under_all (λ w. w.name) x.name b r.1 })
    (each_rising (λ w. w.name) (λ b v. (input_piece p names b).fits v) [] xs (over_nothing (λ (w : Var). w.name)) (λ b v r. (both _ _ r.0.1).1) h)

pub outputs_keep : (p : Profile) (names operations : ℕ) (xs : List Outlet) → Each (λ b. (output_piece p names operations b).fits) [] xs
    → Each (OutputFits names operations) [] xs
unfolding output_piece
outputs_keep p names operations xs h =
    each_more _ _ (length xs) [] xs (omega arith)
    (λ b x lt r. record {
      name = ltb-true _ _ (both _ _ r.0.0.0.1).0;
      name_rises = under_all (λ w. w.name) x.name b r.0.1;
      operation =
          ltb-true _ _ (both _ _ r.0.0.1.1.0.1).0;
      operation_rises = under_all (λ w. w.op) x.op b r.1;
    })
    (each_rising (λ w. w.op) (λ b v. (output_piece p names operations b).fits v × Under (λ w. w.name) v.name b) [] xs (over_nothing (λ (w : Outlet). w.op))
    (λ b v r. (both _ _ r.0.1.1.0.1).1)
    (each_rising (λ w. w.name) (λ b v. (output_piece p names operations b).fits v) [] xs (over_nothing (λ (w : Outlet). w.name))
    (λ b v r. (both _ _ r.0.1).1) h))

cells_rise : (p : Profile) (names operations : ℕ) (cs : List Cell) → Each (λ b. (cell_piece p names operations b).fits) [] cs
    → Each (CellFits p names operations) [] cs
unfolding cell_piece
cells_rise p names operations cs h =
    each_rising (λ c. c.store) (λ b c. (cell_piece p names operations b).fits c × Under (λ d. d.load) c.load b) [] cs (over_nothing (λ (c : Cell). c.store))
    (λ b c r. (both _ _ r.0.1.1.1.1.0.1).1)
    (each_rising (λ c. c.load) (λ b c. (cell_piece p names operations b).fits c) [] cs (over_nothing (λ (c : Cell). c.load))
    (λ b c r. (both _ _ r.1.1.1.0.1).1) h)

pub loads_keep : (p : Profile) (names operations : ℕ) (cs : List Cell) → Each (λ b. (cell_piece p names operations b).fits) [] cs
    → Each (LoadFits names operations) [] (map load_of cs)
loads_keep p names operations cs h = loads_fit p names operations [] cs (cells_rise p names operations cs h)

pub stores_keep : (p : Profile) (names operations : ℕ) (cs : List Cell) → Each (λ b. (cell_piece p names operations b).fits) [] cs
    → Each (StoreFits (map load_of cs) operations) [] (map store_of cs)
stores_keep p names operations cs h = stores_fit p names operations (map load_of cs) [] cs refl (cells_rise p names operations cs h)

types_keep : (p : Profile) (names operations : ℕ) (cs : List Cell) → Each (λ b. (cell_piece p names operations b).fits) [] cs
    → All (λ l. admits p l.ty ≡ true) (map load_of cs)
unfolding cell_piece
types_keep p names operations cs h = all_map (λ l. admits p l.ty ≡ true) load_of cs (each_all _ (λ (c : Cell). admits p c.ty ≡ true) [] cs (λ b c r. r.1.0.0) h)

turns_keep : (names : ℕ) (xs : List TurnNode) → Each (λ b. (turn_piece names b).fits) [] xs → Each (TurnNodeFits names) [] xs
unfolding turn_piece
turns_keep names xs h = each_more _ _ (length xs) [] xs (omega arith) (λ b x lt r. record { parent = leb-true _ _ r.0.1; name = ltb-true _ _ r.1.0.1 }) h

values_keep : (names : ℕ) (xs : List TurnNode) → Each (λ b. (turn_piece names b).fits) [] xs → All (λ t. FitsSigned w64 t.value) xs
unfolding turn_piece
values_keep names xs h = each_all _ _ [] xs (λ b x r. r.1.1.0.0) h

operations_keep : (s : Said) (xs : List Op) → Each (λ b. (op_piece s b).fits) [] xs → Each (Operates s.scope s.turn_nodes) [] xs
unfolding op_by op_operands op_number
operations_keep s xs h =
    each_more _ _ (length xs) [] xs (omega arith)
    (λ b x lt r. record {
      kind = r.0.1;
      from = r.1.0.1;
      ty = r.1.1.0.1;
      a = r.1.1.1.0.1;
      b = r.1.1.1.1.0.1;
      c = r.1.1.1.1.1.0.1;
      imm = r.1.1.1.1.1.1.0.1;
      turn =
          r.1.1.1.1.1.1.1.1.1.0.1;
    }) h

places_keep : (s : Said) (xs : List Op) → Each (λ b. (op_piece s b).fits) [] xs → All (λ op. PlaceFits op.spot) xs
unfolding op_by op_operands op_number
places_keep s xs h = each_all _ (λ (op : Op). PlaceFits op.spot) [] xs (λ b x r. (r.1.1.1.1.1.1.1.0.0, r.1.1.1.1.1.1.1.1.0.0)) h

admitted_keep : (s : Said) (xs : List Op) → Each (λ b. (op_piece s b).fits) [] xs → All (Admitted s.profile) xs
unfolding op_by op_operands op_number
admitted_keep s xs h = each_all _ (Admitted s.profile) [] xs (λ b x r. (r.1.0.0, r.1.1.0.0)) h

-- ---- the whole

pub fits_graph : (p : Parts) → image_piece.fits p → HasImage (lists_of p) p.seed p.step
unfolding image_piece later_lists head_piece counts_piece entry_counts later_counts
fits_graph p h =
    let g = lists_of p in
    let head = h.0.1.1.1.1.1.1.1.1 in
    let numbers = head.1.1 in
    let step = both _ _ head.1.0.1 in
    let enough = both _ _ numbers.1.1.1.1.1.1.0.1 in
    let names = length p.names in
    let ops = length p.operations in
    let len_loads : length (map load_of p.cells) ≡ length p.cells = length-map p.cells load_of in
    let len_stores : length (map store_of p.cells) ≡ length p.cells = length-map p.cells store_of in
    let s : Said = said p.profile p.seed p.step p.inputs p.outputs p.cells (length p.turn_nodes) in
    let part : IsPart g = record {
      few_names = leb-true _ _ numbers.1.0.1;
      few_inputs = leb-true _ _ numbers.1.1.0.1;
      few_outputs = leb-true _ _ numbers.1.1.1.0.1;
      few_cells = omega (arith, leb-true _ _ numbers.1.1.1.1.0.1);
      few_turn_nodes = leb-true _ _ numbers.1.1.1.1.1.0.1;
      few_operations = leb-true _ _ enough.1;
      enough_operations = omega (arith, leb-true _ _ enough.0);
      stored = omega arith;
      names = names_keep p.names h.1.0.1;
      inputs = inputs_keep p.profile names p.inputs h.1.1.0.1;
      outputs = outputs_keep p.profile names ops p.outputs h.1.1.1.0.1;
      loads = loads_keep p.profile names ops p.cells h.1.1.1.1.0.1;
      stores = stores_keep p.profile names ops p.cells h.1.1.1.1.0.1;
      turn_nodes = turns_keep names p.turn_nodes h.1.1.1.1.1.0.1;
      operations = operations_keep s p.operations h.1.1.1.1.1.1.0.1;
      widths = record { places = places_keep s p.operations h.1.1.1.1.1.1.0.1; values = values_keep names p.turn_nodes h.1.1.1.1.1.0.1 };
      types = record { operations = admitted_keep s p.operations h.1.1.1.1.1.1.0.1; loads = types_keep p.profile names ops p.cells h.1.1.1.1.0.1 };
    } in
    record {
      graph = record { part = part; all_stored = len_stores ∙ sym len_loads };
      seed_to = ltb-true _ _ numbers.0.1;
      step_from = leb-true _ _ step.0;
      step_to = leb-true _ _ step.1;
    }

-- cells, and the parts of them
loads_joined : (cs : List Cell) → joined (map load_of cs) (map store_of cs) ≡ cs
loads_joined [] = refl
loads_joined (c ∷ cs) = ap (λ r. c ∷ r) (loads_joined cs)

pub parts_back : (p : Parts) → parts_of (lists_of p) p.seed p.step ≡ p
parts_back p =
    ap (λ cs. record {
      profile = p.profile;
      step = p.step;
      seed = p.seed;
      names = p.names;
      inputs = p.inputs;
      outputs = p.outputs;
      cells = cs;
      turn_nodes =
          p.turn_nodes;
      operations = p.operations;
    }) (loads_joined p.cells)
