-- Parts: what each call of a builder adds keeps the rules.
use Rattle.std.proofs.Common.{◌≡◌, ℕ, ◌+◌, ◌<◌, ◌≤◌, ◌==◌, ℤ, pos, true, List, [], ◌∷◌, ◌++◌, length, slice_get, All, Option, Some, None, refl, sym, ap, subst}
use Rattle.std.proofs.Common.{◌∙◌, arith, zero-add}
use Rattle.std.proofs.lemmas.List.{length_push}
use Rattle.std.proofs.lemmas.Option.{slice_get_past, slice_get_within, get_or_from_slice_get}
use Rattle.std.proofs.lemmas.Bool.{ne_eqb}
use Rattle.std.specs.Ordering.{int_eq}
use Rattle.std.proofs.lemmas.Cmp.{int_eq_equiv}
use Rattle.vcp_base.specs.declared.spot.Spot.{Spot}
use Rattle.vcp_base.specs.declared.ty.Ty.{Ty}
use Rattle.vcp_base.specs.declared.ty.Ty.TheVariants as ty
use Rattle.vcp_base.specs.declared.kind.Kind.TheVariants as kind
use Rattle.vcp_base.specs.Types.{fits}
use Rattle.op_graph.specs.declared.op.Outlet.{Outlet}
use Rattle.op_graph.specs.declared.op.Var.{Var}
use Rattle.op_graph.specs.declared.op.Op.{Op}
use Rattle.op_graph.specs.declared.op.Loaded.{Loaded}
use Rattle.op_graph.specs.declared.op.TurnNode.{TurnNode}
use Rattle.op_graph.specs.Lists.{Lists}
use Rattle.std.specs.Int.{w64}
use Rattle.std.specs.Prelude.{FitsSigned}
use Rattle.std.proofs.lemmas.List.Elements.{All-push}
use Rattle.vcp_base.specs.declared.code.Profile.{Profile}
use Rattle.vcp_base.specs.declared.code.Profile.TheVariants as profile
use Rattle.vcp_base.specs.Code.{admits}
use Rattle.vcp_base.specs.Limits.{most_names, most_cells, most_turn_nodes, most_operations}
use Rattle.vcp_base.specs.Names.{NameFits}
use Rattle.op_graph.specs.Rules.{Admitted, PlaceFits, Scope, scope, place_of, Each, IsPart, InputFits, OutputFits, LoadFits, StoreFits}
use Rattle.op_graph.specs.declared.rules.Place.{Place}
use Rattle.op_graph.specs.Rules.{TurnNodeFits, OpFits, Operates, turn_fits, LoadedBefore, operand_fits, numbered, same_type, entry, cell_entry}
use Rattle.op_graph.specs.declared.rules.Entry.{Entry}
use Rattle.op_graph.specs.Building.{nowhere, entry_op, with_name, with_turn_node, with_op, with_input, with_load, with_output, with_store, type_of}
use Rattle.op_graph.proofs.Entries.{each_push, each_more, Under, each_under, under_all, rising_count, le_more, under_none, found_push, found_last, stored_none}
use Rattle.op_graph.proofs.Entries.{stored_push, get_push, get_last, stored_more, stored_last, under_get, eqb_self, get_some}

-- the rules that read how many names and operations there are
record Counted (g : Lists) (names ops : ℕ) : Type 0 where
  inputs : Each (InputFits names) [] g.inputs
  outputs : Each (OutputFits names ops) [] g.outputs
  loads : Each (LoadFits names ops) [] g.loads
  stores : Each (StoreFits g.loads ops) [] g.stores
  turn_nodes : Each (TurnNodeFits names) [] g.turn_nodes

counted : (g : Lists) (n m : ℕ) → IsPart g → length g.names ≤ n → length g.operations ≤ m → Counted g n m
counted g n m p ln lm = record {
  inputs = each_more _ _ (length g.inputs) [] g.inputs (omega arith) (λ b x lt h. record { name = omega (arith, h.name); name_rises = h.name_rises }) p.inputs;
  outputs = each_more _ _ (length g.outputs) [] g.outputs (omega arith)
      (λ b x lt h. record {
        name = omega (arith, h.name);
        name_rises = h.name_rises;
        operation = omega (arith, h.operation);
        operation_rises =
            h.operation_rises;
      }) p.outputs;
  loads = each_more _ _ (length g.loads) [] g.loads (omega arith)
      (λ b x lt h. record { name = omega (arith, h.name); init = h.init; load = omega (arith, h.load); load_rises = h.load_rises }) p.loads;
  stores = each_more _ _ (length g.stores) [] g.stores (omega arith)
      (λ b x lt h. record { store = omega (arith, h.store); store_rises = h.store_rises; after_load = h.after_load }) p.stores;
  turn_nodes = each_more _ _ (length g.turn_nodes) [] g.turn_nodes (omega arith)
      (λ b x lt h. record { parent = h.parent; name = omega (arith, h.name) }) p.turn_nodes;
}

-- inputs are no more than names
few_inputs : (n : ℕ) (xs : List Var) → Each (InputFits n) [] xs → length xs ≤ n
few_inputs n xs h = let e : 0 + length xs ≤ n =
    rising_count (InputFits n) (λ v. v.name) n 0 [] xs (λ b x q. q.name) (λ b x q. q.name_rises) (λ z all. omega arith) (omega arith) h in omega arith

few_outputs : (n m : ℕ) (xs : List Outlet) → Each (OutputFits n m) [] xs → length xs ≤ n
few_outputs n m xs h = let e : 0 + length xs ≤ n =
    rising_count (OutputFits n m) (λ v. v.name) n 0 [] xs (λ b x q. q.name) (λ b x q. q.name_rises) (λ z all. omega arith) (omega arith) h in omega arith

-- nothing stands yet at the number of the next operation
record Free (g : Lists) : Type 0 where
  outputs : Under (λ o. o.op) (length g.operations) g.outputs
  loads : Under (λ c. c.load) (length g.operations) g.loads
  stores : Under (λ n. n) (length g.operations) g.stores

free : (g : Lists) → IsPart g → Free g
free g p = record {
  outputs = each_under _ (λ o. o.op) (length g.operations) [] g.outputs (λ b x h. h.operation) p.outputs;
  loads = each_under _ (λ c. c.load) (length g.operations) [] g.loads (λ b x h. h.load) p.loads;
  stores = each_under _ (λ n. n) (length g.operations) [] g.stores (λ b x h. h.store) p.stores;
}

abbrev place : Option Entry → Option Entry → Option Entry → Option Entry → Place
place a b c d = record { input = a; load = b; store = c; out = d }

place_is : (a a' b b' c c' d d' : Option Entry) → a ≡ a' → b ≡ b' → c ≡ c' → d ≡ d' → place a b c d ≡ place a' b' c' d'
place_is a a' b b' c c' d d' e f h i = ap (λ x. place x b c d) e ∙ ap (λ x. place a' x c d) f ∙ ap (λ x. place a' b' x d) h ∙ ap (λ x. place a' b' c' x) i

place_none : (g : Lists) → IsPart g → place_of (scope g) (length g.operations) ≡ nowhere
place_none g p = let f = free g p in
    place_is _ None _ None _ None _ None
    (ap (numbered (length g.operations)) (slice_get_past g.inputs (length g.operations) (omega (arith, p.enough_operations))))
    (under_none (λ c. c.load) (λ c. c.ty) (length g.operations) 0 g.loads f.loads)
    (stored_none g.loads (length g.operations) 0 g.stores f.stores)
    (under_none (λ o. o.op) (λ o. o.ty) (length g.operations) 0 g.outputs f.outputs)

turn_fits_more : (e : Option Entry) (m n k : ℕ) → m ≤ n → turn_fits e m k ≡ true → turn_fits e n k ≡ true
turn_fits_more None m n k le h = le_more k m n h le
turn_fits_more (Some e) m n k le h = h

-- the operations below n have the places that they had, and there are no fewer turn nodes
record Wider (n : ℕ) (s t : Scope) (turns more : ℕ) : Type 0 where
  places : (i : ℕ) → i < n → place_of s i ≡ place_of t i
  turn_nodes : turns ≤ more

ops_more : (n : ℕ) (s t : Scope) (turns more : ℕ) (ops : List Op) → length ops ≤ n → Wider n s t turns more → Each (Operates s turns) [] ops
    → Each (Operates t more) [] ops
ops_more n s t turns more ops le w h = each_more (Operates s turns) (Operates t more) n [] ops (omega arith) (λ b op lt o.
    let same : OpFits (place_of t (length b)) turns b op = subst (λ p. OpFits p turns b op) (w.places (length b) lt) o in
    record {
      kind = same.kind;
      from = same.from;
      ty = same.ty;
      a = same.a;
      b = same.b;
      c = same.c;
      imm = same.imm;
      turn = turn_fits_more _ _ _ op.turn w.turn_nodes same.turn;
    }) h

pub with_name_fits : (g : Lists) (n : List ℕ) → IsPart g → length g.names < most_names → NameFits (λ m. m) g.names n → IsPart (with_name g n)
with_name_fits g n p few h =
    let len = length_push g.names n in
    let c = counted g (length (g.names ++ n ∷ [])) (length g.operations) p (omega arith) (omega arith) in
    record {
      widths = record { places = p.widths.places; values = p.widths.values };
      types = record { operations = p.types.operations; loads = p.types.loads };
      few_names = omega arith;
      few_inputs = p.few_inputs;
      few_outputs = p.few_outputs;
      few_cells = p.few_cells;
      few_turn_nodes = p.few_turn_nodes;
      few_operations = p.few_operations;
      enough_operations = p.enough_operations;
      stored = p.stored;
      names = each_push (NameFits (λ m. m)) [] g.names n p.names h;
      inputs = c.inputs;
      outputs = c.outputs;
      loads = c.loads;
      stores = c.stores;
      turn_nodes = c.turn_nodes;
      operations = p.operations;
    }

pub with_turn_node_fits : (g : Lists) (t : TurnNode) → IsPart g → length g.turn_nodes < most_turn_nodes → TurnNodeFits (length g.names) g.turn_nodes t
    → FitsSigned w64 t.value → IsPart (with_turn_node g t)
with_turn_node_fits g t p few h wide =
    let len = length_push g.turn_nodes t in
    record {
      widths = record { places = p.widths.places; values = All-push (λ (n : TurnNode). FitsSigned w64 n.value) g.turn_nodes _ p.widths.values wide };
      types = record { operations = p.types.operations; loads = p.types.loads };
      few_names = p.few_names;
      few_inputs = p.few_inputs;
      few_outputs = p.few_outputs;
      few_cells = p.few_cells;
      few_turn_nodes = omega arith;
      few_operations = p.few_operations;
      enough_operations = p.enough_operations;
      stored = p.stored;
      names = p.names;
      inputs = p.inputs;
      outputs = p.outputs;
      loads = p.loads;
      stores = p.stores;
      turn_nodes = each_push (TurnNodeFits (length g.names)) [] g.turn_nodes t p.turn_nodes h;
      operations = ops_more (length g.operations) (scope g) (scope g) (length g.turn_nodes) _ g.operations (omega arith)
          (record { places = λ i lt. refl; turn_nodes = omega arith }) p.operations;
    }

pub with_op_fits : (g : Lists) (op : Op) → IsPart g → length g.operations < most_operations → OpFits nowhere (length g.turn_nodes) g.operations op
    → PlaceFits op.spot → Admitted g.profile op → IsPart (with_op g op)
with_op_fits g op p few h wide admitted =
    let len = length_push g.operations op in
    let c = counted g (length g.names) (length (g.operations ++ op ∷ [])) p (omega arith) (omega arith) in
    record {
      widths = record { places = All-push (λ (o : Op). PlaceFits o.spot) g.operations _ p.widths.places wide; values = p.widths.values };
      types = record { operations = All-push (Admitted g.profile) g.operations _ p.types.operations admitted; loads = p.types.loads };
      few_names = p.few_names;
      few_inputs = p.few_inputs;
      few_outputs = p.few_outputs;
      few_cells = p.few_cells;
      few_turn_nodes = p.few_turn_nodes;
      few_operations = omega arith;
      enough_operations = omega (arith, p.enough_operations);
      stored = p.stored;
      names = p.names;
      inputs = c.inputs;
      outputs = c.outputs;
      loads = c.loads;
      stores = c.stores;
      turn_nodes = c.turn_nodes;
      operations = each_push (Operates (scope g) (length g.turn_nodes)) [] g.operations op p.operations
          (subst (λ q. OpFits q (length g.turn_nodes) g.operations op) (sym (place_none g p)) h);
    }

same_self : (t : Ty) → same_type t t ≡ true
same_self ty.Bool = refl
same_self ty.Int = refl
same_self ty.Dint = refl
same_self ty.Lint = refl

number_self : (m n : ℕ) → m ≡ n → int_eq (pos m) (pos n) ≡ true
number_self m n e = rw e (int_eq_equiv.refl (pos n))

at_place : (g : Lists) (turns : ℕ) (op : Op) (q r : Place) → q ≡ r → OpFits r turns g.operations op → OpFits q turns g.operations op
at_place g turns op q r e h = subst (λ s. OpFits s turns g.operations op) (sym e) h

pub with_input_fits : (g : Lists) (name : ℕ) (t : Ty) (spot : Spot) → IsPart g → length g.inputs ≡ length g.operations → name < length g.names
    → All (λ w. w.name < name) g.inputs → PlaceFits spot → admits g.profile t ≡ true → IsPart (with_input g name t spot)
with_input_fits g name t spot p front there rising wide admitted =
    let few : length g.operations < most_operations = omega (arith, p.few_inputs) in
    let new = with_input g name t spot in
    let v : Var = record { name = name; ty = t } in
    let len = length_push g.operations (entry_op kind.Input t 0 (length g.inputs) spot) in
    let len_inputs = length_push g.inputs v in
    let k = counted g (length g.names) (length new.operations) p (omega arith) (omega arith) in
    let f = free g p in
    let wider : Wider (length g.operations) (scope g) (scope new) (length g.turn_nodes) (length g.turn_nodes) = record {
      places = λ i lt. place_is _ _ _ _ _ _ _ _ (ap (numbered i) (sym (get_push g.inputs v i (omega arith)))) refl refl refl;
      turn_nodes = omega arith;
    } in
    let here = place_is _ (Some (entry (length g.operations) t)) _ None _ None _ None
    (ap (numbered (length g.operations)) (ap (slice_get (g.inputs ++ v ∷ [])) (sym front) ∙ get_last g.inputs v))
    (under_none (λ d. d.load) (λ d. d.ty) (length g.operations) 0 g.loads f.loads)
    (stored_none g.loads (length g.operations) 0 g.stores f.stores)
    (under_none (λ o. o.op) (λ o. o.ty) (length g.operations) 0 g.outputs f.outputs) in
    let inputs : Each (InputFits (length g.names)) [] (g.inputs ++ v ∷ []) =
    each_push (InputFits (length g.names)) [] g.inputs v k.inputs (record { name = there; name_rises = rising }) in
    let no_more = few_inputs (length g.names) (g.inputs ++ v ∷ []) inputs in
    record {
      widths = record { places = All-push (λ (o : Op). PlaceFits o.spot) g.operations _ p.widths.places wide; values = p.widths.values };
      types = record { operations = All-push (Admitted g.profile) g.operations _ p.types.operations (admitted, admitted); loads = p.types.loads };
      few_names = p.few_names;
      few_inputs = omega (arith, p.few_names);
      few_outputs = p.few_outputs;
      few_cells = p.few_cells;
      few_turn_nodes = p.few_turn_nodes;
      few_operations = omega arith;
      enough_operations = omega (arith, p.enough_operations);
      stored = p.stored;
      names = p.names;
      inputs = inputs;
      outputs = k.outputs;
      loads = k.loads;
      stores = k.stores;
      turn_nodes = k.turn_nodes;
      operations = each_push (Operates (scope new) (length g.turn_nodes)) [] g.operations _
          (ops_more (length g.operations) (scope g) (scope new) (length g.turn_nodes) (length g.turn_nodes) g.operations (omega arith) wider p.operations)
          (at_place g (length g.turn_nodes) _ _ _ here
          (record {
            kind = refl;
            from = same_self t;
            ty = same_self t;
            a = refl;
            b = refl;
            c = refl;
            imm =
                number_self (length g.inputs) (length g.operations) front;
            turn = refl;
          }));
    }

pub with_load_fits : (g : Lists) (name : ℕ) (t : Ty) (init : ℤ) (spot : Spot) → IsPart g → length g.operations < most_operations → length g.loads < most_cells
    → name < length g.names → fits t init ≡ true → PlaceFits spot → admits g.profile t ≡ true → IsPart (with_load g name t init spot)
with_load_fits g name t init spot p few few_cells there fit wide admitted =
    let new = with_load g name t init spot in
    let c : Loaded = record { name = name; ty = t; init = init; load = length g.operations } in
    let len = length_push g.operations (entry_op kind.Load t 0 (length g.loads) spot) in
    let len_loads = length_push g.loads c in
    let k = counted g (length g.names) (length new.operations) p (omega arith) (omega arith) in
    let f = free g p in
    let wider : Wider (length g.operations) (scope g) (scope new) (length g.turn_nodes) (length g.turn_nodes) = record {
      places = λ i lt. place_is _ _ _ _ _ _ _ _ refl
          (sym (found_push (λ d. d.load == i) (λ d. d.ty) 0 g.loads c (ne_eqb (length g.operations) i (λ e. omega arith))))
          (sym (stored_more g.loads c i 0 g.stores (omega (arith, p.stored)))) refl;
      turn_nodes = omega arith;
    } in
    let here = place_is _ None _ (Some (entry (0 + length g.loads) t)) _ None _ None
    (ap (numbered (length g.operations)) (slice_get_past g.inputs (length g.operations) (omega (arith, p.enough_operations))))
    (found_last (λ d. d.load == length g.operations) (λ d. d.ty) 0 g.loads c (under_none (λ d. d.load) (λ d. d.ty) (length g.operations) 0 g.loads f.loads)
    (eqb_self (length g.operations)))
    (stored_more g.loads c (length g.operations) 0 g.stores (omega (arith, p.stored)) ∙ stored_none g.loads (length g.operations) 0 g.stores f.stores)
    (under_none (λ o. o.op) (λ o. o.ty) (length g.operations) 0 g.outputs f.outputs) in
    record {
      widths = record { places = All-push (λ (o : Op). PlaceFits o.spot) g.operations _ p.widths.places wide; values = p.widths.values };
      types = record {
        operations = All-push (Admitted g.profile) g.operations _ p.types.operations (admitted, admitted);
        loads =
            All-push (λ (l : Loaded). admits g.profile l.ty ≡ true) g.loads c p.types.loads admitted;
      };
      few_names = p.few_names;
      few_inputs = p.few_inputs;
      few_outputs = p.few_outputs;
      few_cells = omega arith;
      few_turn_nodes = p.few_turn_nodes;
      few_operations = omega arith;
      enough_operations = omega (arith, p.enough_operations);
      stored = omega (arith, p.stored);
      names = p.names;
      inputs = k.inputs;
      outputs = k.outputs;
      loads = each_push (LoadFits (length g.names) (length new.operations)) [] g.loads c k.loads
          (record { name = there; init = fit; load = omega arith; load_rises = under_all (λ d. d.load) (length g.operations) g.loads f.loads });
      stores = each_more _ _ (length g.stores) [] g.stores (omega arith)
          (λ b x lt h. record {
            store = h.store;
            store_rises = h.store_rises;
            after_load =
                subst (λ o. LoadedBefore o x) (sym (get_push g.loads c (length b) (omega (arith, p.stored)))) h.after_load;
          }) k.stores;
      turn_nodes = k.turn_nodes;
      operations = each_push (Operates (scope new) (length g.turn_nodes)) [] g.operations _
          (ops_more (length g.operations) (scope g) (scope new) (length g.turn_nodes) (length g.turn_nodes) g.operations (omega arith) wider p.operations)
          (at_place g (length g.turn_nodes) _ _ _ here
          (record {
            kind = refl;
            from = same_self t;
            ty = same_self t;
            a = refl;
            b = refl;
            c = refl;
            imm =
                number_self (length g.loads) (0 + length g.loads) (omega arith);
            turn = refl;
          }));
    }

pub with_output_fits : (g : Lists) (name : ℕ) (t : Ty) (value : ℕ) (spot : Spot) → IsPart g → length g.operations < most_operations → name < length g.names
    → All (λ o. o.name < name) g.outputs → operand_fits g.operations (Some t) value ≡ true → PlaceFits spot → admits g.profile t ≡ true
    → IsPart (with_output g name t value spot)
with_output_fits g name t value spot p few there rising reads wide admitted =
    let new = with_output g name t value spot in
    let o : Outlet = record { name = name; ty = t; op = length g.operations } in
    let len = length_push g.operations (entry_op kind.Out t value (length g.outputs) spot) in
    let len_outputs = length_push g.outputs o in
    let k = counted g (length g.names) (length new.operations) p (omega arith) (omega arith) in
    let f = free g p in
    let wider : Wider (length g.operations) (scope g) (scope new) (length g.turn_nodes) (length g.turn_nodes) = record {
      places = λ i lt. place_is _ _ _ _ _ _ _ _ refl refl refl
          (sym (found_push (λ x. x.op == i) (λ x. x.ty) 0 g.outputs o (ne_eqb (length g.operations) i (λ e. omega arith))));
      turn_nodes = omega arith;
    } in
    let here = place_is _ None _ None _ None _ (Some (entry (0 + length g.outputs) t))
    (ap (numbered (length g.operations)) (slice_get_past g.inputs (length g.operations) (omega (arith, p.enough_operations))))
    (under_none (λ d. d.load) (λ d. d.ty) (length g.operations) 0 g.loads f.loads)
    (stored_none g.loads (length g.operations) 0 g.stores f.stores)
    (found_last (λ x. x.op == length g.operations) (λ x. x.ty) 0 g.outputs o (under_none (λ x. x.op) (λ x. x.ty) (length g.operations) 0 g.outputs f.outputs)
    (eqb_self (length g.operations))) in
    let outputs : Each (OutputFits (length g.names) (length new.operations)) [] (g.outputs ++ o ∷ []) =
    each_push (OutputFits (length g.names) (length new.operations)) [] g.outputs o k.outputs
    (record {
      name = there;
      name_rises = rising;
      operation = omega arith;
      operation_rises =
          under_all (λ x. x.op) (length g.operations) g.outputs f.outputs;
    }) in
    let no_more = few_outputs (length g.names) (length new.operations) (g.outputs ++ o ∷ []) outputs in
    record {
      widths = record { places = All-push (λ (o : Op). PlaceFits o.spot) g.operations _ p.widths.places wide; values = p.widths.values };
      types = record { operations = All-push (Admitted g.profile) g.operations _ p.types.operations (admitted, admitted); loads = p.types.loads };
      few_names = p.few_names;
      few_inputs = p.few_inputs;
      few_outputs = omega (arith, p.few_names);
      few_cells = p.few_cells;
      few_turn_nodes = p.few_turn_nodes;
      few_operations = omega arith;
      enough_operations = omega (arith, p.enough_operations);
      stored = p.stored;
      names = p.names;
      inputs = k.inputs;
      outputs = outputs;
      loads = k.loads;
      stores = k.stores;
      turn_nodes = k.turn_nodes;
      operations = each_push (Operates (scope new) (length g.turn_nodes)) [] g.operations _
          (ops_more (length g.operations) (scope g) (scope new) (length g.turn_nodes) (length g.turn_nodes) g.operations (omega arith) wider p.operations)
          (at_place g (length g.turn_nodes) _ _ _ here
          (record {
            kind = refl;
            from = same_self t;
            ty = same_self t;
            a = reads;
            b = refl;
            c = refl;
            imm =
                number_self (length g.outputs) (0 + length g.outputs) (omega arith);
            turn = refl;
          }));
    }

loaded_type : (q : Profile) (loads : List Loaded) (k : ℕ) (c : Loaded) → All (λ (l : Loaded). admits q l.ty ≡ true) loads → slice_get loads k ≡ Some c
    → admits q c.ty ≡ true
loaded_type q loads k c all there =
    subst (λ (l : Loaded). admits q l.ty ≡ true) (get_or_from_slice_get loads k c c there) (all k c (slice_get_within loads k c there))

with_store_fits : (g : Lists) (c : Loaded) (value : ℕ) (spot : Spot) → IsPart g → length g.operations < most_operations
    → slice_get g.loads (length g.stores) ≡ Some c → operand_fits g.operations (Some c.ty) value ≡ true → PlaceFits spot → IsPart (with_store g c.ty value spot)
with_store_fits g c value spot p few cell reads wide =
    let new = with_store g c.ty value spot in
    let len = length_push g.operations (entry_op kind.Store c.ty value (length g.stores) spot) in
    let len_stores = length_push g.stores (length g.operations) in
    let k = counted g (length g.names) (length new.operations) p (omega arith) (omega arith) in
    let f = free g p in
    let within_loads = slice_get_within g.loads (length g.stores) c cell in
    let wider : Wider (length g.operations) (scope g) (scope new) (length g.turn_nodes) (length g.turn_nodes) = record {
      places = λ i lt. place_is _ _ _ _ _ _ _ _ refl refl
          (sym (stored_push g.loads i 0 g.stores (length g.operations) (ne_eqb (length g.operations) i (λ e. omega arith)))) refl;
      turn_nodes = omega arith;
    } in
    let here = place_is _ None _ None _ (Some (entry (0 + length g.stores) c.ty)) _ None
    (ap (numbered (length g.operations)) (slice_get_past g.inputs (length g.operations) (omega (arith, p.enough_operations))))
    (under_none (λ d. d.load) (λ d. d.ty) (length g.operations) 0 g.loads f.loads)
    (stored_last g.loads (length g.operations) 0 g.stores f.stores
    ∙ ap (cell_entry (0 + length g.stores)) (ap (slice_get g.loads) (zero-add (length g.stores)) ∙ cell))
    (under_none (λ o. o.op) (λ o. o.ty) (length g.operations) 0 g.outputs f.outputs) in
    record {
      widths = record { places = All-push (λ (o : Op). PlaceFits o.spot) g.operations _ p.widths.places wide; values = p.widths.values };
      types = (let admitted : admits g.profile c.ty ≡ true = loaded_type g.profile g.loads (length g.stores) c p.types.loads cell in
          record { operations = All-push (Admitted g.profile) g.operations _ p.types.operations (admitted, admitted); loads = p.types.loads });
      few_names = p.few_names;
      few_inputs = p.few_inputs;
      few_outputs = p.few_outputs;
      few_cells = p.few_cells;
      few_turn_nodes = p.few_turn_nodes;
      few_operations = omega arith;
      enough_operations = omega (arith, p.enough_operations);
      stored = omega arith;
      names = p.names;
      inputs = k.inputs;
      outputs = k.outputs;
      loads = k.loads;
      stores = each_push (StoreFits g.loads (length new.operations)) [] g.stores (length g.operations) k.stores
          (record {
            store = omega arith;
            store_rises = under_all (λ n. n) (length g.operations) g.stores f.stores;
            after_load =
                subst (λ o. LoadedBefore o (length g.operations)) (sym cell)
                (under_get (λ d. d.load) (length g.operations) g.loads (length g.stores) c f.loads cell);
          });
      turn_nodes = k.turn_nodes;
      operations = each_push (Operates (scope new) (length g.turn_nodes)) [] g.operations _
          (ops_more (length g.operations) (scope g) (scope new) (length g.turn_nodes) (length g.turn_nodes) g.operations (omega arith) wider p.operations)
          (at_place g (length g.turn_nodes) _ _ _ here
          (record {
            kind = refl;
            from = same_self c.ty;
            ty = same_self c.ty;
            a = reads;
            b = refl;
            c = refl;
            imm =
                number_self (length g.stores) (0 + length g.stores) (omega arith);
            turn = refl;
          }));
    }

stored_at_place : (g : Lists) (o : Option Loaded) (value : ℕ) (spot : Spot) → slice_get g.loads (length g.stores) ≡ o → IsPart g
    → length g.operations < most_operations → length g.stores < length g.loads → operand_fits g.operations (Some (type_of o)) value ≡ true → PlaceFits spot
    → IsPart (with_store g (type_of o) value spot)
stored_at_place g None value spot e p few there reads wide = absurd (omega (arith, get_some g.loads (length g.stores) e))
stored_at_place g (Some c) value spot e p few there reads wide = with_store_fits g c value spot p few e reads wide

pub with_cell_fits : (g : Lists) (cell value : ℕ) (spot : Spot) → IsPart g → length g.operations < most_operations → cell ≡ length g.stores
    → cell < length g.loads → operand_fits g.operations (Some (type_of (slice_get g.loads cell))) value ≡ true → PlaceFits spot
    → IsPart (with_store g (type_of (slice_get g.loads cell)) value spot)
with_cell_fits g cell value spot p few next there reads wide =
    stored_at_place g (slice_get g.loads cell) value spot (ap (slice_get g.loads) (sym next)) p few (omega arith) reads wide

-- ---- the same lists in the wide code

wide_admits : (t : Ty) → admits profile.Wide t ≡ true
wide_admits ty.Bool = refl
wide_admits ty.Int = refl
wide_admits ty.Dint = refl
wide_admits ty.Lint = refl
