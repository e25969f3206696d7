-- Beginning: the state before the body, whose inputs are known.
use Rattle.std.proofs.Common.{◌≡◌, ℕ, zero, suc, ◌+◌, ◌<◌, ◌≤◌, ℤ, Bool, true, false, cond, List, [], ◌∷◌, ◌++◌, length, map, reverse, take, get_or, slice_get}
use Rattle.std.proofs.Common.{slice_index_or, All, Option, Some, None, Ok, Err, refl, sym, ap, ap₂, ◌∙◌, subst, arith, append_assoc, fold}
use Rattle.std.specs.Prelude.{sum_by}
use Rattle.vcp_base.specs.declared.kind.StopKind.TheVariants as why
use Rattle.op_graph.specs.Lists.{turns_back}
use Rattle.vcp_typed.specs.Meaning.{and_then}
use Rattle.std.proofs.lemmas.List.{append-nil, length_push, length-take-le}
use Rattle.vcp_base.specs.declared.columns.Column.{Column}
use Rattle.vcp_base.specs.declared.code.Profile.{Profile}
use Rattle.vcp_base.specs.Code.{is_wide}
use Rattle.vcp_base.specs.declared.kind.Kind.TheVariants as kind
use Rattle.vcp_base.specs.Limits.{most_names}
use Rattle.vcp_base.specs.Names.{NameFits, SameName}
use Rattle.vcp_base.specs.Types.{fits, AreIn, within}
use Rattle.vcp_base.specs.Values.{at}
use Rattle.op_graph.specs.declared.op.Op.{Op}
use Rattle.op_graph.specs.declared.op.Var.{Var}
use Rattle.op_graph.specs.declared.op.TurnNode.{TurnNode}
use Rattle.op_graph.specs.Lists.{Lists, column, nothing}
use Rattle.op_graph.specs.Rules.{IsPart}
use Rattle.op_graph.specs.Building.{entry_op, with_input}
use Rattle.st_tree.specs.declared.program.Section.{Section}
use Rattle.st_tree.specs.declared.program.Section.TheVariants as section
use Rattle.vcp_typed.specs.declared.slot.Slot.{Slot}
use Rattle.vcp_typed.specs.Checked.{SlotsFit, IsChecked}
use Rattle.vcp_typed.specs.Fitting.{input_types, input_columns}
use Rattle.vcp_typed.specs.Size.{section_size}
use Rattle.vcp_typed.specs.SourceRun.{Program, is_input, with_inputs}
use Rattle.flat_expr.specs.Begin.{Begins, inputs_from, input_ops, held_from, entered, begun}
use Rattle.vcp_typed.specs.Wide.{wide}
use Rattle.flat_expr.specs.State.{SlotsAllowed, IsState, IsPlace, IsHeld, KnowsOne, unknown, others, last_of, last_size, run_from, stopped}
use Rattle.flat_expr.specs.Told.{names_of}
use Rattle.flat_expr.proofs.Codes.{slots_allowed}
use Rattle.flat_expr.proofs.Ops.{isa, within_self}
use Rattle.flat_expr.proofs.Runs.{step}

-- ---- one slot more, for the loops

pub inputs_push : (n : ℕ) (xs : List Slot) (s : Slot)
    → inputs_from n (xs ++ s ∷ []) ≡ cond (is_input s.section) (inputs_from n xs ++ (record { name = n + length xs; ty = s.ty }) ∷ []) (inputs_from n xs)
inputs_push n [] s = ap (λ m. cond (is_input s.section) ((record { name = m; ty = s.ty }) ∷ []) []) (let e : n ≡ n + 0 = omega arith in e)
inputs_push n (x ∷ xs) s =
    let e : suc n + length xs ≡ n + suc (length xs) = omega arith in
    ap (λ l. cond (is_input x.section) (record { name = n; ty = x.ty } ∷ l) l)
    (inputs_push (suc n) xs s
    ∙ ap (λ m. cond (is_input s.section) (inputs_from (suc n) xs ++ (record { name = m; ty = s.ty }) ∷ []) (inputs_from (suc n) xs)) e)
    ∙ swap (is_input x.section) (is_input s.section) (inputs_from (suc n) xs) (record { name = n; ty = x.ty }) (record { name = n + suc (length xs); ty = s.ty })
  where
    swap : (a b : Bool) (l : List Var) (v w : Var)
        → cond a (v ∷ cond b (l ++ w ∷ []) l) (cond b (l ++ w ∷ []) l) ≡ cond b (cond a (v ∷ l) l ++ w ∷ []) (cond a (v ∷ l) l)
    swap true true l v w = refl
    swap true false l v w = refl
    swap false true l v w = refl
    swap false false l v w = refl

pub ops_push : (j : ℕ) (xs : List Slot) (s : Slot)
    → input_ops j (xs ++ s ∷ [])
    ≡ cond (is_input s.section) (input_ops j xs ++ entry_op kind.Input s.ty 0 (j + length (input_ops j xs)) s.spot ∷ []) (input_ops j xs)
ops_push j [] s = ap (λ m. cond (is_input s.section) (entry_op kind.Input s.ty 0 m s.spot ∷ []) []) (let e : j ≡ j + 0 = omega arith in e)
ops_push j (x ∷ xs) s = go (is_input x.section) (ops_push (suc j) xs s) (ops_push j xs s)
  where
    go : (a : Bool)
        → input_ops (suc j) (xs ++ s ∷ [])
        ≡ cond (is_input s.section) (input_ops (suc j) xs ++ entry_op kind.Input s.ty 0 (suc j + length (input_ops (suc j) xs)) s.spot ∷ [])
        (input_ops (suc j) xs) →
        input_ops j (xs ++ s ∷ []) ≡ cond (is_input s.section) (input_ops j xs ++ entry_op kind.Input s.ty 0 (j + length (input_ops j xs)) s.spot ∷ [])
        (input_ops j xs) →
        cond a (entry_op kind.Input x.ty 0 j x.spot ∷ input_ops (suc j) (xs ++ s ∷ [])) (input_ops j (xs ++ s ∷ [])) ≡
        cond (is_input s.section)
        (cond a (entry_op kind.Input x.ty 0 j x.spot ∷ input_ops (suc j) xs) (input_ops j xs) ++ entry_op kind.Input s.ty 0
        (j + length (cond a (entry_op kind.Input x.ty 0 j x.spot ∷ input_ops (suc j) xs) (input_ops j xs))) s.spot ∷ [])
        (cond a (entry_op kind.Input x.ty 0 j x.spot ∷ input_ops (suc j) xs) (input_ops j xs))
    go false f g = g
    go true f g =
        let e : suc j + length (input_ops (suc j) xs) ≡ j + suc (length (input_ops (suc j) xs)) = omega arith in
        ap (λ l. entry_op kind.Input x.ty 0 j x.spot ∷ l)
        (f ∙ ap (λ m. cond (is_input s.section) (input_ops (suc j) xs ++ entry_op kind.Input s.ty 0 m s.spot ∷ []) (input_ops (suc j) xs)) e)
        ∙ inside (is_input s.section) (entry_op kind.Input x.ty 0 j x.spot) (input_ops (suc j) xs) _
      where
        inside : (b : Bool) (o : Op) (l : List Op) (w : Op) → o ∷ cond b (l ++ w ∷ []) l ≡ cond b ((o ∷ l) ++ w ∷ []) (o ∷ l)
        inside true o l w = refl
        inside false o l w = refl

pub held_push : (j : ℕ) (xs : List Slot) (s : Slot)
    → held_from j (xs ++ s ∷ []) ≡ held_from j xs ++ cond (is_input s.section) (Some (j + length (input_ops j xs))) None ∷ []
held_push j [] s = first (is_input s.section)
  where
    first : (b : Bool) → cond b (Some j ∷ []) (None ∷ []) ≡ cond b (Some (j + 0)) None ∷ []
    first true = let e : j ≡ j + 0 = omega arith in ap (λ m. Some m ∷ []) e
    first false = refl
held_push j (x ∷ xs) s = go (is_input x.section) (held_push (suc j) xs s) (held_push j xs s)
  where
    go : (a : Bool)
        → held_from (suc j) (xs ++ s ∷ []) ≡ held_from (suc j) xs ++ cond (is_input s.section) (Some (suc j + length (input_ops (suc j) xs))) None ∷ [] →
        held_from j (xs ++ s ∷ []) ≡ held_from j xs ++ cond (is_input s.section) (Some (j + length (input_ops j xs))) None ∷ [] →
        cond a (Some j ∷ held_from (suc j) (xs ++ s ∷ [])) (None ∷ held_from j (xs ++ s ∷ [])) ≡
        cond a (Some j ∷ held_from (suc j) xs) (None ∷ held_from j xs) ++ cond (is_input s.section)
        (Some (j + length (cond a (entry_op kind.Input x.ty 0 j x.spot ∷ input_ops (suc j) xs) (input_ops j xs)))) None ∷ []
    go false f g = ap (λ l. None ∷ l) g
    go true f g =
        let e : suc j + length (input_ops (suc j) xs) ≡ j + suc (length (input_ops (suc j) xs)) = omega arith in
        ap (λ l. Some j ∷ l) (f ∙ ap (λ m. held_from (suc j) xs ++ cond (is_input s.section) (Some m) None ∷ []) e)

pub as_many : (n j : ℕ) (xs : List Slot) → length (inputs_from n xs) ≡ length (input_ops j xs)
as_many n j [] = refl
as_many n j (x ∷ xs) = go (is_input x.section) (as_many (suc n) (suc j) xs) (as_many (suc n) j xs)
  where
    go : (a : Bool) → length (inputs_from (suc n) xs) ≡ length (input_ops (suc j) xs) → length (inputs_from (suc n) xs) ≡ length (input_ops j xs) →
        length (cond a ((record { name = n; ty = x.ty }) ∷ inputs_from (suc n) xs) (inputs_from (suc n) xs)) ≡ length
        (cond a (entry_op kind.Input x.ty 0 j x.spot ∷ input_ops (suc j) xs) (input_ops j xs))
    go true f g = ap suc f
    go false f g = g

-- the names of inputs are below the number of the next slot
Below : ℕ → List Var → Type 0
Below n [] = Unit {0}
Below n (v ∷ vs) = (v.name < n) × Below n vs

below_of : (m n : ℕ) (xs : List Slot) → n + length xs ≤ m → Below m (inputs_from n xs)
unfolding Below
below_of m n [] le = tt
below_of m n (x ∷ xs) le = go (is_input x.section) (below_of m (suc n) xs (omega arith))
  where
    go : (a : Bool) → Below m (inputs_from (suc n) xs) → Below m (cond a ((record { name = n; ty = x.ty }) ∷ inputs_from (suc n) xs) (inputs_from (suc n) xs))
    go true h = (omega arith, h)
    go false h = h

all_below : (n : ℕ) (vs : List Var) → Below n vs → All (λ (v : Var). v.name < n) vs
unfolding Below
all_below n [] h = λ k d lt. absurd (omega arith)
all_below n (v ∷ vs) h = λ k d lt. at_place (all_below n vs h.1) k d lt
  where
    at_place : All (λ (w : Var). w.name < n) vs → (k : ℕ) (d : Var) → k < suc (length vs) → (slice_index_or (v ∷ vs) k d).name < n
    at_place rest zero d lt = h.0
    at_place rest (suc k) d lt = rest k d (omega arith)

pub names_rise : (xs : List Slot) → All (λ (v : Var). v.name < length xs) (inputs_from 0 xs)
names_rise xs = all_below (length xs) (inputs_from 0 xs) (below_of (length xs) 0 xs (omega arith))

-- ---- names

pub name_fits : (slots : List Slot) (before : List Slot) (i : ℕ) (s : Slot) → SlotsFit before slots → slice_get slots i ≡ Some s
    → NameFits (λ (r : Slot). r.name) (before ++ take i slots) s.name
name_fits [] before i s h e = absurd cc
name_fits (x ∷ slots) before zero s h e = let same : x ≡ s = cc in
    subst (λ b. NameFits (λ (r : Slot). r.name) b s.name) (sym (append-nil before))
    (subst (λ (y : Slot). NameFits (λ (r : Slot). r.name) before y.name) same h.0.name)
name_fits (x ∷ slots) before (suc i) s h e =
    subst (λ b. NameFits (λ (r : Slot). r.name) b s.name) (append_assoc before (x ∷ []) (take i slots)) (name_fits slots (before ++ x ∷ []) i s h.1 e)

named_all : (n : List ℕ) (xs : List Slot) → All (λ (x : Slot). SameName x.name n → ⊥) xs → All (λ (m : List ℕ). SameName m n → ⊥) (names_of xs)
named_all n [] h = λ k d lt. absurd (omega arith)
named_all n (x ∷ xs) h = λ k d lt. at_place (named_all n xs (λ j e below. h (suc j) e (omega arith))) k d lt
  where
    at_place : All (λ (m : List ℕ). SameName m n → ⊥) (names_of xs) → (k : ℕ) (d : List ℕ) → k < length (names_of (x ∷ xs))
        → SameName (slice_index_or (names_of (x ∷ xs)) k d) n → ⊥
    at_place rest zero d lt = h 0 x (omega arith)
    at_place rest (suc k) d lt = rest k d (omega arith)

pub own_name_fits : (slots : List Slot) (i : ℕ) (s : Slot) → SlotsFit [] slots → slice_get slots i ≡ Some s
    → NameFits (λ (n : List ℕ). n) (names_of (take i slots)) s.name
own_name_fits slots i s h e = let f = name_fits slots [] i s h e in record { short = f.short; letters = f.letters; new = named_all s.name (take i slots) f.new }

-- ---- what the state knows

fit_at : (slots before : List Slot) (i : ℕ) (s : Slot) → SlotsFit before slots → slice_get slots i ≡ Some s
    → (fits s.ty s.init ≡ true) × (s.section ≡ section.Constant → ⊥)
fit_at [] before i s h e = absurd cc
fit_at (x ∷ slots) before zero s h e = let same : x ≡ s = cc in
    subst (λ (y : Slot). (fits y.ty y.init ≡ true) × (y.section ≡ section.Constant → ⊥)) same (h.0.init, h.0.variable)
fit_at (x ∷ slots) before (suc i) s h e = fit_at slots (before ++ x ∷ []) i s h.1 e

pub held_long : (j : ℕ) (slots : List Slot) → length (held_from j slots) ≡ length slots
held_long j [] = refl
held_long j (s ∷ slots) = go (is_input s.section) (held_long (suc j) slots) (held_long j slots)
  where
    go : (a : Bool) → length (held_from (suc j) slots) ≡ length slots → length (held_from j slots) ≡ length slots
        → length (cond a (Some j ∷ held_from (suc j) slots) (None ∷ held_from j slots)) ≡ suc (length slots)
    go true f g = ap suc f
    go false f g = ap suc g

held_place : (before : List Op) (slots : List Slot) (i : ℕ) (s : Slot) → slice_get slots i ≡ Some s
    → IsPlace s.ty (before ++ input_ops (length before) slots) (get_or (held_from (length before) slots) i None)
held_place before [] i s e = absurd cc
held_place before (x ∷ slots) i s e =
    go (is_input x.section) i e (λ k h. held_place (before ++ op ∷ []) slots k s h) (λ k h. held_place before slots k s h)
  where
    op : Op
    op = entry_op kind.Input x.ty 0 (length before) x.spot

    more : length (before ++ op ∷ []) ≡ suc (length before)
    more = let h = length_push before op in omega (arith, h)

    here : (xs ys : List Op) → slice_get (xs ++ op ∷ ys) (length xs) ≡ Some op
    here [] ys = refl
    here (y ∷ xs) ys = here xs ys

    go : (a : Bool) (k : ℕ) → slice_get (x ∷ slots) k ≡ Some s →
        ((m : ℕ) → slice_get slots m ≡ Some s → IsPlace s.ty ((before ++ op ∷ []) ++ input_ops (length (before ++ op ∷ [])) slots)
        (get_or (held_from (length (before ++ op ∷ [])) slots) m None)) →
        ((m : ℕ) → slice_get slots m ≡ Some s → IsPlace s.ty (before ++ input_ops (length before) slots) (get_or (held_from (length before) slots) m None)) →
        IsPlace s.ty (before ++ cond a (op ∷ input_ops (suc (length before)) slots) (input_ops (length before) slots))
        (get_or (cond a (Some (length before) ∷ held_from (suc (length before)) slots) (None ∷ held_from (length before) slots)) k None)
    go true zero h f g = let same : x ≡ s = cc in
        isa s.ty (before ++ op ∷ input_ops (suc (length before)) slots) (length before) op (here before _)
        (ap (λ (y : Slot). within y.ty s.ty) same ∙ within_self s.ty)
    go true (suc k) h f g =
        subst (λ m. IsPlace s.ty (before ++ op ∷ input_ops m slots) (get_or (held_from m slots) k None)) more
        (subst (λ l. IsPlace s.ty l (get_or (held_from (length (before ++ op ∷ [])) slots) k None))
        (append_assoc before (op ∷ []) (input_ops (length (before ++ op ∷ [])) slots)) (f k h))
    go false zero h f g = tt
    go false (suc k) h f g = g k h

held_inputs : (j : ℕ) (slots : List Slot) (i : ℕ) (s : Slot) → slice_get slots i ≡ Some s → IsHeld (is_input s.section) (get_or (held_from j slots) i None)
held_inputs j [] i s e = absurd cc
held_inputs j (x ∷ slots) zero s e = let same : x ≡ s = cc in
    subst (λ (y : Slot). IsHeld (is_input y.section) (get_or (held_from j (x ∷ slots)) 0 None)) same (go (is_input x.section))
  where
    go : (a : Bool) → IsHeld a (get_or (cond a (Some j ∷ held_from (suc j) slots) (None ∷ held_from j slots)) 0 None)
    go true = tt
    go false = tt
held_inputs j (x ∷ slots) (suc i) s e = go (is_input x.section) (held_inputs (suc j) slots i s e) (held_inputs j slots i s e)
  where
    go : (a : Bool) → IsHeld (is_input s.section) (get_or (held_from (suc j) slots) i None) → IsHeld (is_input s.section) (get_or (held_from j slots) i None) →
        IsHeld (is_input s.section) (get_or (cond a (Some j ∷ held_from (suc j) slots) (None ∷ held_from j slots)) (suc i) None)
    go true f g = f
    go false f g = g

unknown_others : (j : ℕ) (slots : List Slot) → unknown (held_from j slots) ≡ others slots
unknown_others j [] = refl
unknown_others j (s ∷ slots) = go (is_input s.section) (unknown_others (suc j) slots) (unknown_others j slots)
  where
    go : (a : Bool) → unknown (held_from (suc j) slots) ≡ others slots → unknown (held_from j slots) ≡ others slots
        → unknown (cond a (Some j ∷ held_from (suc j) slots) (None ∷ held_from j slots)) ≡ cond a (others slots) (suc (others slots))
    go true f g = f
    go false f g = ap suc g

name_at : (before : List (List ℕ)) (n : List ℕ) (after : List (List ℕ)) → slice_index_or (before ++ n ∷ after) (length before) [] ≡ n
name_at [] n after = refl
name_at (m ∷ before) n after = name_at before n after

columns_from : (before : List (List ℕ)) (slots : List Slot) → map (column (before ++ names_of slots)) (inputs_from (length before) slots) ≡ input_columns slots
columns_from before [] = refl
columns_from before (s ∷ slots) =
    go (is_input s.section)
    (subst (λ m. map (column (before ++ s.name ∷ names_of slots)) (inputs_from m slots) ≡ input_columns slots) more
    (subst (λ l. map (column l) (inputs_from (length (before ++ s.name ∷ [])) slots) ≡ input_columns slots) (append_assoc before (s.name ∷ []) (names_of slots))
    (columns_from (before ++ s.name ∷ []) slots)))
  where
    more : length (before ++ s.name ∷ []) ≡ suc (length before)
    more = let h = length_push before s.name in omega (arith, h)

    go : (a : Bool) → map (column (before ++ s.name ∷ names_of slots)) (inputs_from (suc (length before)) slots) ≡ input_columns slots →
        map (column (before ++ s.name ∷ names_of slots))
        (cond a ((record { name = length before; ty = s.ty }) ∷ inputs_from (suc (length before)) slots) (inputs_from (suc (length before)) slots)) ≡ cond a
        ((record { name = s.name; ty = s.ty }) ∷ input_columns slots) (input_columns slots)
    go true rest =
        ap (λ (n : List ℕ). (let c : Column = record { name = n; ty = s.ty } in c) ∷ map (column (before ++ s.name ∷ names_of slots))
        (inputs_from (suc (length before)) slots)) (name_at before s.name (names_of slots))
        ∙ ap (λ l. (let c : Column = record { name = s.name; ty = s.ty } in c) ∷ l) rest
    go false rest = rest

pub begun_state : (profile : Profile) (slots : List Slot) → SlotsAllowed profile slots → SlotsFit [] slots → length slots ≤ most_names
    → IsPart (entered profile (names_of slots) slots) → IsState (begun profile slots)
begun_state profile slots code fit few part = record {
  part = part;
  code = code;
  names = refl;
  few = few;
  inits = λ i s e. (fit_at slots [] i s fit e).0;
  variables = λ i s e. (fit_at slots [] i s fit e).1;
  long = held_long 0 slots;
  known = λ i s e. held_place [] slots i s e;
  inputs = λ i s e. held_inputs 0 slots i s e;
  columns = columns_from [] slots;
  loads = λ j l e. absurd cc;
  held = λ j l e. absurd cc;
  cells = let same = unknown_others 0 slots in omega (arith, same);
  no_outputs = refl;
  no_stores = refl;
  path = tt;
  turn = omega arith;
  nought = tt;
  unit = tt;
}

-- ---- the count

fold_from : (f : Slot → ℕ) (a : ℕ) (slots : List Slot) → fold (λ b x. b + f x) a slots ≡ a + fold (λ b x. b + f x) 0 slots
fold_from f a [] = omega arith
fold_from f a (s ∷ slots) = let h = fold_from f (a + f s) slots in let g = fold_from f (0 + f s) slots in omega (arith, h, g)

pub sum_more : (f : Slot → ℕ) (s : Slot) (slots : List Slot) → sum_by f (s ∷ slots) ≡ f s + sum_by f slots
sum_more f s slots = let h = fold_from f (0 + f s) slots in omega (arith, h)

section_room : (c : Section) → (c ≡ section.Constant → ⊥) → 1 + last_of c ≤ section_size c
section_room section.Input v = omega arith
section_room section.Output v = omega arith
section_room section.Local v = omega arith
section_room section.Retain v = omega arith
section_room section.Constant v = absurd (v refl)

room_for : (before slots : List Slot) (j : ℕ) → SlotsFit before slots
    → (length (input_ops j slots) + unknown (held_from j slots)) + last_size slots ≤ sum_by (λ x. section_size x.section) slots
room_for before [] j fit = omega arith
room_for before (s ∷ slots) j fit = go (is_input s.section) (room_for (before ++ s ∷ []) slots (suc j) fit.1) (room_for (before ++ s ∷ []) slots j fit.1)
  where
    sums : (sum_by (λ (x : Slot). section_size x.section) (s ∷ slots) ≡ section_size s.section + sum_by (λ (x : Slot). section_size x.section) slots)
        × (last_size (s ∷ slots) ≡ last_of s.section + last_size slots)
    sums = (sum_more (λ x. section_size x.section) s slots, sum_more (λ x. last_of x.section) s slots)

    go : (a : Bool) → (length (input_ops (suc j) slots) + unknown (held_from (suc j) slots)) + last_size slots ≤ sum_by (λ x. section_size x.section) slots →
        (length (input_ops j slots) + unknown (held_from j slots)) + last_size slots ≤ sum_by (λ x. section_size x.section) slots →
        (length (cond a (entry_op kind.Input s.ty 0 j s.spot ∷ input_ops (suc j) slots) (input_ops j slots)) + unknown
        (cond a (Some j ∷ held_from (suc j) slots) (None ∷ held_from j slots))) + last_size (s ∷ slots) ≤ sum_by (λ x. section_size x.section) (s ∷ slots)
    go true f g = let one = section_room s.section fit.0.variable in omega (arith, f, one, sums.0, sums.1)
    go false f g = let one = section_room s.section fit.0.variable in omega (arith, g, one, sums.0, sums.1)

-- ---- the run of the INPUTs

middle : (xs : List ℤ) (y : ℤ) (ys : List ℤ) → at (xs ++ y ∷ ys) (length xs) ≡ y
middle [] y ys = refl
middle (z ∷ xs) y ys = middle xs y ys

input_step : (nodes : List TurnNode) (cells vs rest : List ℤ) (x : ℤ) (s : Slot) → fits s.ty x ≡ true →
    step nodes cells (vs ++ x ∷ rest) vs (entry_op kind.Input s.ty 0 (length vs) s.spot) ≡ Ok x
input_step nodes cells vs rest x s fit =
    ap (λ (v : ℤ). stopped (turns_back (reverse nodes) 0) (entry_op kind.Input s.ty 0 (length vs) s.spot) (cond (fits s.ty v) (Ok v) (Err why.Range)))
    (middle vs x rest)
    ∙ ap (λ b. stopped (turns_back (reverse nodes) 0) (entry_op kind.Input s.ty 0 (length vs) s.spot) (cond b (Ok x) (Err why.Range))) fit

run_inputs : (nodes : List TurnNode) (cells vs row : List ℤ) (slots : List Slot) → AreIn (input_types slots) row
    → run_from nodes cells (vs ++ row) vs (input_ops (length vs) slots) ≡ Ok (vs ++ row)
run_inputs nodes cells vs [] [] fit = ap Ok (sym (append-nil vs))
run_inputs nodes cells vs (x ∷ row) [] fit = absurd fit
run_inputs nodes cells vs row (s ∷ slots) fit =
    go (is_input s.section) row fit (λ r h. run_inputs nodes cells vs r slots h) (λ x r h. run_inputs nodes cells (vs ++ x ∷ []) r slots h)
  where
    go : (a : Bool) (r : List ℤ) → AreIn (cond a (s.ty ∷ input_types slots) (input_types slots)) r
        → ((q : List ℤ) → AreIn (input_types slots) q → run_from nodes cells (vs ++ q) vs (input_ops (length vs) slots) ≡ Ok (vs ++ q)) →
        ((x : ℤ) (q : List ℤ) → AreIn (input_types slots) q → run_from nodes cells ((vs ++ x ∷ []) ++ q) (vs ++ x ∷ [])
        (input_ops (length (vs ++ x ∷ [])) slots) ≡ Ok ((vs ++ x ∷ []) ++ q)) →
        run_from nodes cells (vs ++ r) vs
        (cond a (entry_op kind.Input s.ty 0 (length vs) s.spot ∷ input_ops (suc (length vs)) slots) (input_ops (length vs) slots)) ≡ Ok (vs ++ r)
    go false r h others next = others r h
    go true [] h others next = absurd h
    go true (x ∷ r) h others next =
        let more : length (vs ++ x ∷ []) ≡ suc (length vs) = let e = length_push vs x in omega (arith, e) in
        ap (λ q. and_then q (λ v. run_from nodes cells (vs ++ x ∷ r) (vs ++ v ∷ []) (input_ops (suc (length vs)) slots))) (input_step nodes cells vs r x s h.0)
        ∙ ap (λ m. run_from nodes cells (vs ++ x ∷ r) (vs ++ x ∷ []) (input_ops m slots)) (sym more)
        ∙ ap (λ l. run_from nodes cells l (vs ++ x ∷ []) (input_ops (length (vs ++ x ∷ [])) slots)) (sym (append_assoc vs (x ∷ []) r))
        ∙ next x r h.1
        ∙ ap Ok (append_assoc vs (x ∷ []) r)

none_held : (j : ℕ) (slots : List Slot) (i : ℕ) → AreIn (input_types slots) [] → get_or (held_from j slots) i None ≡ None
none_held j [] i fit = refl
none_held j (s ∷ slots) i fit = go (is_input s.section) i fit (λ k h. none_held j slots k h)
  where
    go : (a : Bool) (k : ℕ) → AreIn (cond a (s.ty ∷ input_types slots) (input_types slots)) []
        → ((n : ℕ) → AreIn (input_types slots) [] → get_or (held_from j slots) n None ≡ None) →
        get_or (cond a (Some j ∷ held_from (suc j) slots) (None ∷ held_from j slots)) k None ≡ None
    go true k h others = absurd h
    go false zero h others = refl
    go false (suc k) h others = others k h

knows_inputs : (vs row m : List ℤ) (slots : List Slot) (i : ℕ) → AreIn (input_types slots) row → length m ≡ length slots → i < length slots →
    KnowsOne (get_or (held_from (length vs) slots) i None) (vs ++ row) (at (with_inputs slots row m) i) (at (with_inputs slots row m) i)
knows_inputs vs row m [] i fit len lt = absurd (omega arith)
knows_inputs vs row [] (s ∷ slots) i fit len lt = absurd (omega arith)
knows_inputs vs [] (v ∷ m) (s ∷ slots) i fit len lt =
    subst (λ o. KnowsOne o (vs ++ []) (at (v ∷ m) i) (at (v ∷ m) i)) (sym (none_held (length vs) (s ∷ slots) i fit)) refl
knows_inputs vs (x ∷ row) (v ∷ m) (s ∷ slots) i fit len lt =
    go (is_input s.section) i fit lt
    (λ k h below. knows_inputs (vs ++ x ∷ []) row m slots k h (omega arith) below)
    (λ k h below. knows_inputs vs (x ∷ row) m slots k h (omega arith) below)
  where
    more : length (vs ++ x ∷ []) ≡ suc (length vs)
    more = let e = length_push vs x in omega (arith, e)

    go : (a : Bool) (k : ℕ) → AreIn (cond a (s.ty ∷ input_types slots) (input_types slots)) (x ∷ row) → k < suc (length slots) →
        ((n : ℕ) → AreIn (input_types slots) row → n < length slots → KnowsOne (get_or (held_from (length (vs ++ x ∷ [])) slots) n None) ((vs ++ x ∷ []) ++ row)
        (at (with_inputs slots row m) n) (at (with_inputs slots row m) n)) →
        ((n : ℕ) → AreIn (input_types slots) (x ∷ row) → n < length slots → KnowsOne (get_or (held_from (length vs) slots) n None) (vs ++ x ∷ row)
        (at (with_inputs slots (x ∷ row) m) n) (at (with_inputs slots (x ∷ row) m) n)) →
        KnowsOne (get_or (cond a (Some (length vs) ∷ held_from (suc (length vs)) slots) (None ∷ held_from (length vs) slots)) k None) (vs ++ x ∷ row)
        (at (cond a (x ∷ with_inputs slots row m) (v ∷ with_inputs slots (x ∷ row) m)) k)
        (at (cond a (x ∷ with_inputs slots row m) (v ∷ with_inputs slots (x ∷ row) m)) k)
    go true zero h below first second = middle vs x row
    go true (suc k) h below first second =
        subst (λ l. KnowsOne (get_or (held_from (suc (length vs)) slots) k None) l (at (with_inputs slots row m) k) (at (with_inputs slots row m) k))
        (append_assoc vs (x ∷ []) row)
        (subst (λ j. KnowsOne (get_or (held_from j slots) k None) ((vs ++ x ∷ []) ++ row) (at (with_inputs slots row m) k)
        (at (with_inputs slots row m) k)) more (first k h.1 (omega arith)))
    go false zero h below first second = refl
    go false (suc k) h below first second = second k h (omega arith)

with_inputs-long : (slots : List Slot) (row m : List ℤ) → length m ≡ length slots → length (with_inputs slots row m) ≡ length slots
with_inputs-long [] row [] len = refl
with_inputs-long [] row (v ∷ m) len = refl
with_inputs-long (s ∷ slots) row [] len = absurd (omega arith)
with_inputs-long (s ∷ slots) [] (v ∷ m) len = len
with_inputs-long (s ∷ slots) (x ∷ row) (v ∷ m) len =
    go (is_input s.section) (with_inputs-long slots row m (omega arith)) (with_inputs-long slots (x ∷ row) m (omega arith))
  where
    go : (a : Bool) → length (with_inputs slots row m) ≡ length slots → length (with_inputs slots (x ∷ row) m) ≡ length slots
        → length (cond a (x ∷ with_inputs slots row m) (v ∷ with_inputs slots (x ∷ row) m)) ≡ suc (length slots)
    go true f g = ap suc f
    go false f g = ap suc g

pub begins : (profile : Profile) (p : Program) → is_wide profile ≡ wide p → IsChecked p → IsPart (entered profile (names_of p.slots) p.slots)
    → Begins (begun profile p.slots) p
begins profile p code checked part = record {
  state = begun_state profile p.slots (slots_allowed profile p code) checked.slots checked.few part;
  code = code;
  is = refl;
  slots = refl;
  path = refl;
  turn = refl;
  nodes = refl;
  loads = refl;
  count = let room = room_for [] p.slots 0 checked.slots in omega (arith, room);
  gives = λ cells row m fit len. (
    row,
    run_inputs [] cells [] row p.slots fit,
    record { long = with_inputs-long p.slots row m len; each = λ i lt. knows_inputs [] row m p.slots i fit len lt; nought = tt; unit = tt },
  );
}

-- ---- one INPUT more

enter_is : (profile : Profile) (names : List (List ℕ)) (before : List Slot) (s : Slot) →
    cond (is_input s.section) (with_input (entered profile names before) (length before) s.ty s.spot) (entered profile names before) ≡ entered profile names
    (before ++ s ∷ [])
enter_is profile names before s = go (is_input s.section) ∙ ap₂ made (sym (inputs_push 0 before s)) (sym (ops_push 0 before s))
  where
    made : List Var → List Op → Lists
    made x y = record (nothing profile) { names = names; inputs = x; operations = y }

    var : ℕ → Var
    var n = record { name = n; ty = s.ty }

    op : ℕ → Op
    op n = entry_op kind.Input s.ty 0 n s.spot

    go : (a : Bool) → cond a (with_input (entered profile names before) (length before) s.ty s.spot) (entered profile names before) ≡
        made (cond a (inputs_from 0 before ++ var (0 + length before) ∷ []) (inputs_from 0 before))
        (cond a (input_ops 0 before ++ op (0 + length (input_ops 0 before)) ∷ []) (input_ops 0 before))
    go true =
        let first : length before ≡ 0 + length before = omega arith in
        let second : length (inputs_from 0 before) ≡ 0 + length (input_ops 0 before) = let same = as_many 0 0 before in omega (arith, same) in
        ap₂ (λ n m. made (inputs_from 0 before ++ var n ∷ []) (input_ops 0 before ++ op m ∷ [])) first second
    go false = refl

pub enter_next : (profile : Profile) (names : List (List ℕ)) (slots : List Slot) (i : ℕ) (s : Slot) (g g' : Lists) → i ≤ length slots
    → take (i + 1) slots ≡ take i slots ++ s ∷ [] → g ≡ entered profile names (take i slots) →
    g' ≡ cond (is_input s.section) (with_input g i s.ty s.spot) g → g' ≡ entered profile names (take (i + 1) slots)
enter_next profile names slots i s g g' le more is new =
    new
    ∙ ap (λ x. cond (is_input s.section) (with_input x i s.ty s.spot) x) is
    ∙ ap (λ n. cond (is_input s.section) (with_input (entered profile names (take i slots)) n s.ty s.spot) (entered profile names (take i slots)))
    (sym (length-take-le i slots le))
    ∙ enter_is profile names (take i slots) s
    ∙ ap (entered profile names) (sym more)

pub known_next : (profile : Profile) (slots : List Slot) (i : ℕ) (s : Slot) (g : Lists) (names : List (List ℕ)) (known known' : List (Option ℕ)) (k : Option ℕ)
    → take (i + 1) slots ≡ take i slots ++ s ∷ [] → g ≡ entered profile names (take i slots) → known ≡ held_from 0 (take i slots) →
    k ≡ cond (is_input s.section) (Some (length g.operations)) None → known' ≡ known ++ k ∷ [] → known' ≡ held_from 0 (take (i + 1) slots)
known_next profile slots i s g names known known' k more is held place new =
    let number : length g.operations ≡ 0 + length (input_ops 0 (take i slots)) = let same = ap (λ (x : Lists). length x.operations) is in omega (arith, same) in
    new
    ∙ ap₂ (λ l q. l ++ q ∷ []) held (place ∙ ap (λ n. cond (is_input s.section) (Some n) None) number)
    ∙ sym (held_push 0 (take i slots) s)
    ∙ ap (held_from 0) (sym more)
