-- OperandLaw: the operations of a graph read values of the types in which they read them. Other crates cite `operand_laws` alone.
use Rattle.std.proofs.Common.{◌≡◌, ◌≢◌, ℕ, zero, suc, ◌+◌, ◌<◌, ◌≤◌, ◌==◌, ℤ, pos, negsuc, Bool, true, false, not, ◌&&◌, cond, List, [], ◌∷◌, ◌++◌, length, map}
use Rattle.std.proofs.Common.{take, slice_get, slice_index_or, All, Option, Some, None, Ok, Err, refl, sym, ap, subst, ◌∙◌, append_assoc, length-append, arith}
use Rattle.std.proofs.Common.{nat_lt, IfSome, below_more}
use Rattle.std.specs.Prelude.{unsigned_abs}
use Rattle.std.specs.Option.{is_some}
use Rattle.std.specs.Ordering.{int_eq}
use Rattle.std.proofs.lemmas.Bool.Decides.{nat_tests, Decides-int_eq}
use Rattle.std.proofs.lemmas.List.{append-nil, length-take-le, length_push}
use Rattle.std.proofs.lemmas.Option.{slice_get_within}
use Rattle.vcp_base.specs.declared.ty.Ty.{Ty}
use Rattle.vcp_base.specs.declared.ty.Ty.TheVariants as ty
use Rattle.vcp_base.specs.declared.kind.Kind.{Kind}
use Rattle.vcp_base.specs.declared.kind.Kind.TheVariants as kind
use Rattle.vcp_base.specs.declared.kind.StopKind.{StopKind}
use Rattle.vcp_base.specs.declared.kind.StopKind.TheVariants as stop
use Rattle.vcp_base.specs.Types.{fits, within}
use Rattle.vcp_base.specs.Values.{at}
use Rattle.vcp_base.specs.Kinds.{operands, operand_type, takes, operands_fit, Outcome}
use Rattle.op_graph.specs.declared.op.Op.{Op}
use Rattle.op_graph.specs.declared.op.Loaded.{Loaded}
use Rattle.op_graph.specs.declared.op.Outlet.{Outlet}
use Rattle.op_graph.specs.Lists.{Lists}
use Rattle.op_graph.specs.Rules.{scope, place_of, Each, IsGraph, IsPart, LoadFits, StoreFits, OutputFits, OpFits, Operates, entry, entry_of}
use Rattle.op_graph.specs.declared.rules.Place.{Place}
use Rattle.op_graph.specs.declared.rules.Entry.{Entry}
use Rattle.op_graph.specs.Rules.{found, stored_by, cell_entry, kind_fits, agree, is_input, is_load, is_store, is_out, same_type, from_fits, ty_fits, reads_as}
use Rattle.op_graph.specs.Rules.{operand_fits, imm_fits}
use Rattle.op_graph.specs.GraphRun.{read, operand, outcome_of, Cycle, after, cycle_from, cycle, initial, stored, Run, after_cycle, run_from, graph_run}
use Rattle.op_graph.specs.GraphRun.{CellsFit, OutputsFit, ValuesFit}
use Rattle.op_graph.specs.Laws.{OperandLaws}
use Rattle.op_graph.proofs.Entries.{eqb_self, last_of_push, other, get_last}

-- ---- types

within_fits : (s t : Ty) (v : ℤ) → within s t ≡ true → fits s v ≡ true → fits t v ≡ true
within_fits ty.Bool ty.Bool v w h = h
within_fits ty.Bool ty.Int v w h = absurd cc
within_fits ty.Bool ty.Dint v w h = absurd cc
within_fits ty.Bool ty.Lint v w h = absurd cc
within_fits ty.Int ty.Bool v w h = absurd cc
within_fits ty.Int ty.Int v w h = h
within_fits ty.Int ty.Dint (pos n) w h = grind (arith, nat_tests)
within_fits ty.Int ty.Dint (negsuc n) w h = grind (arith, nat_tests)
within_fits ty.Int ty.Lint (pos n) w h = grind (arith, nat_tests)
within_fits ty.Int ty.Lint (negsuc n) w h = grind (arith, nat_tests)
within_fits ty.Dint ty.Bool v w h = absurd cc
within_fits ty.Dint ty.Int v w h = absurd cc
within_fits ty.Dint ty.Dint v w h = h
within_fits ty.Dint ty.Lint (pos n) w h = grind (arith, nat_tests)
within_fits ty.Dint ty.Lint (negsuc n) w h = grind (arith, nat_tests)
within_fits ty.Lint ty.Bool v w h = absurd cc
within_fits ty.Lint ty.Int v w h = absurd cc
within_fits ty.Lint ty.Dint v w h = absurd cc
within_fits ty.Lint ty.Lint v w h = h

same_type_is : (s t : Ty) → same_type s t ≡ true → s ≡ t
same_type_is ty.Bool ty.Bool h = refl
same_type_is ty.Bool ty.Int h = absurd cc
same_type_is ty.Bool ty.Dint h = absurd cc
same_type_is ty.Bool ty.Lint h = absurd cc
same_type_is ty.Int ty.Bool h = absurd cc
same_type_is ty.Int ty.Int h = refl
same_type_is ty.Int ty.Dint h = absurd cc
same_type_is ty.Int ty.Lint h = absurd cc
same_type_is ty.Dint ty.Bool h = absurd cc
same_type_is ty.Dint ty.Int h = absurd cc
same_type_is ty.Dint ty.Dint h = refl
same_type_is ty.Dint ty.Lint h = absurd cc
same_type_is ty.Lint ty.Bool h = absurd cc
same_type_is ty.Lint ty.Int h = absurd cc
same_type_is ty.Lint ty.Dint h = absurd cc
same_type_is ty.Lint ty.Lint h = refl

-- ---- lists

pub each_at : {X : Type 0} (P : List X → X → Type 0) (before xs : List X) (i : ℕ) (x : X) → Each P before xs → slice_get xs i ≡ Some x
    → P (before ++ take i xs) x
each_at P before [] i x h e = absurd cc
each_at P before (y ∷ xs) zero x h e = let same : y ≡ x = cc in subst (λ b. P b x) (sym (append-nil before)) (subst (λ z. P before z) same h.0)
each_at P before (y ∷ xs) (suc i) x h e = subst (λ b. P b x) (append_assoc before (y ∷ []) (take i xs)) (each_at P (before ++ y ∷ []) xs i x h.1 e)

map_at : {X : Type 0} (f : X → ℤ) (xs : List X) (i : ℕ) (x : X) → slice_get xs i ≡ Some x → at (map f xs) i ≡ f x
map_at f [] i x e = absurd cc
map_at f (y ∷ xs) zero x e = let same : y ≡ x = cc in ap f same
map_at f (y ∷ xs) (suc i) x e = map_at f xs i x e

at_push : (values : List ℤ) (v : ℤ) (i : ℕ) → i < length values → at (values ++ v ∷ []) i ≡ at values i
at_push [] v i lt = absurd (omega arith)
at_push (x ∷ values) v zero lt = refl
at_push (x ∷ values) v (suc i) lt = at_push values v i (omega arith)

pub get_there : {X : Type 0} (xs : List X) (i : ℕ) → i < length xs → (x : X) × (slice_get xs i ≡ Some x)
get_there [] i lt = absurd (omega arith)
get_there (x ∷ xs) zero lt = (x, refl)
get_there (x ∷ xs) (suc i) lt = get_there xs i (omega arith)

-- ---- values of the types of operations

-- each value is in the type of the operation at its place
Typed : List Op → List ℤ → Type 0
Typed ops values = (i : ℕ) (op : Op) → i < length values → slice_get ops i ≡ Some op → fits op.ty (at values i) ≡ true

-- ---- operands

fits_where : (b : Bool) (t : Ty) (v : ℤ) → (b ≡ true → fits t v ≡ true) → cond b (fits t (cond b v (pos 0))) true ≡ true
fits_where true t v h = h refl
fits_where false t v h = refl

reads_typed : (before : List Op) (values : List ℤ) (t : Ty) (n : ℕ) (o : Option Op) → slice_get before n ≡ o
    → ((op : Op) → o ≡ Some op → fits op.ty (at values n) ≡ true) → (elim o [ None ↦ false | Some op ↦ within op.ty t ]) ≡ true → fits t (at values n) ≡ true
reads_typed before values t n None e typed h = absurd cc
reads_typed before values t n (Some op) e typed h = within_fits op.ty t (at values n) h (typed op refl)

operand_typed : (before : List Op) (values : List ℤ) (b : Bool) (t : Ty) (n : ℕ) → operand_fits before (cond b (Some t) None) n ≡ true → Typed before values
    → length values ≡ length before → b ≡ true → fits t (at values n) ≡ true
unfolding Typed
operand_typed before values true t n h typed len e =
    reads_typed before values t n (slice_get before n) refl (λ op there. typed n op (let lt = slice_get_within before n op there in omega arith) there) h
operand_typed before values false t n h typed len e = absurd cc

-- a LOAD reads a value of its type
LoadReads : List ℤ → Kind → Ty → ℤ → Type 0
LoadReads cells kind.Load from imm = fits from (at cells (unsigned_abs imm)) ≡ true
LoadReads cells _ from imm = Unit {0}

takes_operand : (cells values : List ℤ) (before : List Op) (k : Kind) (from : Ty) (imm : ℤ) (j n : ℕ) → operand_fits before (reads_as k from j) n ≡ true
    → LoadReads cells k from imm → Typed before values → length values ≡ length before
    → takes k j from (cond (nat_lt j (operands k)) (read cells values k imm n) (pos 0)) ≡ true
unfolding LoadReads
takes_operand cells values before kind.Load from imm j n h load typed len = fits_where (nat_lt j 1) from (at cells (unsigned_abs imm)) (λ e. load)
takes_operand cells values before k from imm j n h load typed len =
    fits_where (nat_lt j (operands k)) (operand_type k j from) (at values n)
    (λ e. operand_typed before values (nat_lt j (operands k)) (operand_type k j from) n h typed len e)

-- ---- what a LOAD reads

-- the cell that an entry names is there, counted from k
HasCell : List Loaded → ℕ → Entry → Type 0
HasCell loads k e = (i : ℕ) × (l : Loaded) × (e.number ≡ k + i) × (slice_get loads i ≡ Some l) × (l.ty ≡ e.ty)

later_cell : (l : Loaded) (loads : List Loaded) (k : ℕ) (e : Entry) → HasCell loads (k + 1) e → HasCell (l ∷ loads) k e
unfolding HasCell
later_cell l loads k e h = (suc h.0, h.1, omega (arith, h.2), h.3, h.4)

found_by : (l : Loaded) (loads : List Loaded) (k : ℕ) (e : Entry) (b : Bool) (rest : Option Entry) → (rest ≡ Some e → HasCell loads (k + 1) e)
    → cond b (Some (entry k l.ty)) rest ≡ Some e → HasCell (l ∷ loads) k e
unfolding HasCell
found_by l loads k e true rest next h = let same : entry k l.ty ≡ e = cc in
    (zero, l, subst (λ (x : Entry). x.number ≡ k + 0) same (omega arith), refl, ap (λ (x : Entry). x.ty) same)
found_by l loads k e false rest next h = later_cell l loads k e (next h)

found_cell : (loads : List Loaded) (p : Loaded → Bool) (k : ℕ) (e : Entry) → found p (λ l. l.ty) k loads ≡ Some e → HasCell loads k e
found_cell [] p k e h = absurd cc
found_cell (l ∷ loads) p k e h = found_by l loads k e (p l) _ (λ g. found_cell loads p (k + 1) e g) h

number_is : (v : ℤ) (n : ℕ) → int_eq v (pos n) ≡ true → v ≡ pos n
number_is v n h = (Decides-int_eq v (pos n)).0 h

load_reads_by : (g : Lists) (cells : List ℤ) (o : Option Entry) (from to : Ty) (imm : ℤ) → CellsFit g cells → ((e : Entry) → o ≡ Some e → HasCell g.loads 0 e)
    → is_some o ≡ true → from_fits o kind.Load from ≡ true → imm_fits o kind.Load to imm ≡ true → fits from (at cells (unsigned_abs imm)) ≡ true
unfolding HasCell
load_reads_by g cells None from to imm held there is_load same number = absurd cc
load_reads_by g cells (Some e) from to imm held there is_load same number =
    let cell = there e refl in
    let at_number : unsigned_abs imm ≡ cell.0 = ap unsigned_abs (number_is imm e.number number) ∙ (omega (arith, cell.2)) in
    let types : cell.1.ty ≡ from = cell.4 ∙ same_type_is e.ty from same in
    subst (λ i. fits from (at cells i) ≡ true) (sym at_number) (subst (λ t. fits t (at cells cell.0) ≡ true) types (held cell.0 cell.1 cell.3))

pub second_of_four : (a b c d : Bool) → (a && b && c && d) ≡ true → b ≡ true
second_of_four true true c d h = refl
second_of_four true false c d h = absurd cc
second_of_four false true c d h = absurd cc
second_of_four false false c d h = absurd cc

third_of_four : (a b c d : Bool) → (a && b && c && d) ≡ true → c ≡ true
third_of_four true true true d h = refl
third_of_four true true false d h = absurd cc
third_of_four true false true d h = absurd cc
third_of_four true false false d h = absurd cc
third_of_four false true true d h = absurd cc
third_of_four false true false d h = absurd cc
third_of_four false false true d h = absurd cc
third_of_four false false false d h = absurd cc

load_reads : (g : Lists) (cells : List ℤ) (i : ℕ) (k : Kind) (from to : Ty) (imm : ℤ) → CellsFit g cells → kind_fits (place_of (scope g) i) k ≡ true
    → from_fits (entry_of (place_of (scope g) i) k) k from ≡ true → imm_fits (entry_of (place_of (scope g) i) k) k to imm ≡ true → LoadReads cells k from imm
unfolding LoadReads
load_reads g cells i kind.Load from to imm held h types number =
    load_reads_by g cells (place_of (scope g) i).load from to imm held (λ e is. found_cell g.loads (λ l. l.load == i) 0 e is)
    (second_of_four _ (is_some (place_of (scope g) i).load) _ _ h) types number
load_reads g cells i _ from to imm held h types number = tt

-- ---- one operation

operands_typed : (g : Lists) (turns : ℕ) (cells values : List ℤ) (before : List Op) (op : Op) → CellsFit g cells → Operates (scope g) turns before op
    → Typed before values → length values ≡ length before
    → operands_fit op.kind op.from (operand cells values op 0 op.a) (operand cells values op 1 op.b) (operand cells values op 2 op.c) ≡ true
operands_typed g turns cells values before op held o typed len =
    let load = load_reads g cells (length before) op.kind op.from op.ty op.imm held o.kind o.from o.imm in
    let first = takes_operand cells values before op.kind op.from op.imm 0 op.a o.a load typed len in
    let second = takes_operand cells values before op.kind op.from op.imm 1 op.b o.b load typed len in
    let third = takes_operand cells values before op.kind op.from op.imm 2 op.c o.c load typed len in
    rw (first, second, third) refl

-- an outcome where the operands fit: no stop at an operand, and a value of the result's type
record Fair (to : Ty) (o : Outcome) : Type 0 where
  no_operand : o ≢ Err stop.Operand
  typed : (v : ℤ) → o ≡ Ok v → fits to v ≡ true

fair_by : (to : Ty) (a b c : Bool) (v : ℤ) → a ≡ true → c ≡ fits to v
    → Fair to (cond a (cond b (Err stop.DivZero) (cond c (Ok v) (Err stop.Range))) (Err stop.Operand))
fair_by to false b c v h e = absurd cc
fair_by to true true c v h e = record { no_operand = λ f. absurd cc; typed = λ w f. absurd cc }
fair_by to true false true v h e = record { no_operand = λ f. absurd cc; typed = λ w f. let same : v ≡ w = cc in subst (λ z. fits to z ≡ true) same (sym e) }
fair_by to true false false v h e = record { no_operand = λ f. absurd cc; typed = λ w f. absurd cc }

outcome_fair : (g : Lists) (turns : ℕ) (cells row values : List ℤ) (before : List Op) (op : Op) → CellsFit g cells → Operates (scope g) turns before op
    → Typed before values → length values ≡ length before → Fair op.ty (outcome_of cells row values op)
outcome_fair g turns cells row values before op held o typed len =
    fair_by op.ty _ _ _ _ (operands_typed g turns cells values before op held o typed len) refl

-- ---- one cycle

-- a cycle that does not stop at an operand, whose values have the types of their operations, and which is whole where it does not stop
record Sound (ops : List Op) (c : Cycle) : Type 0 where
  no_operand : c.stop ≢ Some stop.Operand
  typed : Typed ops c.values
  whole : c.stop ≡ None → length c.values ≡ length ops

get_front : {X : Type 0} (xs ys : List X) (i : ℕ) → i < length xs → slice_get (xs ++ ys) i ≡ slice_get xs i
get_front [] ys i lt = absurd (omega arith)
get_front (x ∷ xs) ys zero lt = refl
get_front (x ∷ xs) ys (suc i) lt = get_front xs ys i (omega arith)

typed_front : (before rest : List Op) (values : List ℤ) → Typed before values → length values ≤ length before → Typed (before ++ rest) values
unfolding Typed
typed_front before rest values typed le = λ i x lt there. typed i x lt (sym (get_front before rest i (omega arith)) ∙ there)

typed_push : (before : List Op) (op : Op) (values : List ℤ) (v : ℤ) → Typed before values → length values ≡ length before → fits op.ty v ≡ true
    → Typed (before ++ op ∷ []) (values ++ v ∷ [])
unfolding Typed
typed_push before op values v typed len fit =
    let P : ℕ → Type 0 = λ i. (x : Op) → slice_get (before ++ op ∷ []) i ≡ Some x → fits x.ty (at (values ++ v ∷ []) i) ≡ true in
    let below : (i : ℕ) → i < length values → P i =
    λ i lt x there. subst (λ z. fits x.ty z ≡ true) (sym (at_push values v i lt))
    (typed i x lt (sym (get_front before (op ∷ []) i (omega arith)) ∙ there)) in
    let here : P (length values) = λ x there.
    let last : slice_get (before ++ op ∷ []) (length values) ≡ Some op = ap (slice_get (before ++ op ∷ [])) len ∙ get_last before op in
    let same : op ≡ x = cc in
    subst (λ z. fits x.ty z ≡ true) (sym (last_of_push values v (pos 0))) (subst (λ (y : Op). fits y.ty v ≡ true) same fit) in
    let all : (i : ℕ) → i < length values + 1 → P i = below_more P (length values) below here in
    λ i x lt there. all i (omega (arith, length_push values v)) x there

sound_after : (all : List Op) (values : List ℤ) (next : ℤ → Cycle) (to : Ty) (o : Outcome) → Fair to o → Typed all values
    → ((v : ℤ) → o ≡ Ok v → Sound all (next v)) → Sound all (after values next o)
sound_after all values next to (Ok v) fair typed rest = rest v refl
sound_after all values next to (Err why) fair typed rest = record { no_operand = λ e. fair.no_operand cc; typed = typed; whole = λ e. absurd cc }

cycle_sound : (g : Lists) (turns : ℕ) (cells row values : List ℤ) (before ops : List Op) → CellsFit g cells → Each (Operates (scope g) turns) before ops
    → Typed before values → length values ≡ length before → Sound (before ++ ops) (cycle_from cells row values ops)
cycle_sound g turns cells row values before [] held h typed len =
    subst (λ all. Sound all (record { values = values; stop = None })) (sym (append-nil before))
    (record { no_operand = λ e. absurd cc; typed = typed; whole = λ e. len })
cycle_sound g turns cells row values before (op ∷ ops) held h typed len =
    let fair = outcome_fair g turns cells row values before op held h.0 typed len in
    sound_after (before ++ op ∷ ops) values _ op.ty (outcome_of cells row values op) fair (typed_front before (op ∷ ops) values typed (omega arith))
    (λ v is. subst (λ all. Sound all (cycle_from cells row (values ++ v ∷ []) ops)) (append_assoc before (op ∷ []) ops)
    (cycle_sound g turns cells row (values ++ v ∷ []) (before ++ op ∷ []) ops held h.1 (typed_push before op values v typed len (fair.typed v is))
    (simp length-append (omega arith))))

-- ---- cells

middle_of : {X : Type 0} (xs ys : List X) (x d : X) → slice_index_or (xs ++ x ∷ ys) (length xs) d ≡ x
middle_of [] ys x d = refl
middle_of (z ∷ xs) ys x d = middle_of xs ys x d

earlier_store : (loads : List Loaded) (m : ℕ) (before xs : List ℕ) (x i n : ℕ) → Each (StoreFits loads m) (before ++ x ∷ []) xs → slice_get xs i ≡ Some n
    → x < n
earlier_store loads m before xs x i n h e =
    let fit : StoreFits loads m ((before ++ x ∷ []) ++ take i xs) n = each_at (StoreFits loads m) (before ++ x ∷ []) xs i n h e in
    let all : All (λ y. y < n) (before ++ x ∷ take i xs) = subst (λ ys. All (λ y. y < n) ys) (append_assoc before (x ∷ []) (take i xs)) fit.store_rises in
    subst (λ y. y < n) (middle_of before (take i xs) x x) (all (length before) x (simp length-append (omega arith)))

stored_first : (loads : List Loaded) (m k : ℕ) (before xs : List ℕ) (i n : ℕ) → Each (StoreFits loads m) before xs → slice_get xs i ≡ Some n
    → stored_by loads n k xs ≡ cell_entry (k + i) (slice_get loads (k + i))
stored_first loads m k before [] i n h e = absurd cc
stored_first loads m k before (x ∷ xs) zero n h e =
    let same : x ≡ n = cc in
    let test : (x == n) ≡ true = subst (λ y. (x == y) ≡ true) same (eqb_self x) in
    rw test (ap (λ j. cell_entry j (slice_get loads j)) (omega arith))
stored_first loads m k before (x ∷ xs) (suc i) n h e =
    rw (other x n (earlier_store loads m before xs x i n h.1 e))
    (stored_first loads m (k + 1) (before ++ x ∷ []) xs i n h.1 e ∙ ap (λ j. cell_entry j (slice_get loads j)) (omega arith))

not_none : (o : Option Entry) (e : Entry) → o ≡ Some e → not (is_some o) ≡ true → ⊥
not_none None e is h = absurd cc
not_none (Some x) e is h = absurd cc

store_type : (p : Place) (k : Kind) (from to : Ty) (e : Entry) → p.store ≡ Some e → kind_fits p k ≡ true → from_fits (entry_of p k) k from ≡ true
    → ty_fits k from to ≡ true → e.ty ≡ to
store_type p kind.Store from to e is h reads types = same_type_is e.ty from (subst (λ o. from_fits o kind.Store from ≡ true) is reads)
    ∙ same_type_is from to types
store_type p k from to e is h reads types =
    absurd (not_none p.store e is
    (third_of_four (agree (is_input k) (is_some p.input)) (agree (is_load k) (is_some p.load)) (not (is_some p.store)) (agree (is_out k) (is_some p.out)) h))

stored_fits : (g : Lists) (values : List ℤ) → IsGraph g → Typed g.operations values → length values ≡ length g.operations → CellsFit g (stored g values)
unfolding Typed
stored_fits g values graph typed len = λ k l there.
    let below : k < length g.loads = slice_get_within g.loads k l there in
    let n = get_there g.stores k (omega (arith, graph.all_stored)) in
    let store : StoreFits g.loads (length g.operations) (take k g.stores) n.0 =
    each_at (StoreFits g.loads (length g.operations)) [] g.stores k n.0 graph.part.stores n.1 in
    let op = get_there g.operations n.0 store.store in
    let front : length (take n.0 g.operations) ≡ n.0 = length-take-le n.0 g.operations (omega (arith, store.store)) in
    let operates : Operates (scope g) (length g.turn_nodes) (take n.0 g.operations) op.0 =
    each_at (Operates (scope g) (length g.turn_nodes)) [] g.operations n.0 op.0 graph.part.operations op.1 in
    let fit : OpFits (place_of (scope g) n.0) (length g.turn_nodes) (take n.0 g.operations) op.0 =
    subst (λ i. OpFits (place_of (scope g) i) (length g.turn_nodes) (take n.0 g.operations) op.0) front operates in
    let cell : stored_by g.loads n.0 0 g.stores ≡ Some (entry k l.ty) = stored_first g.loads (length g.operations) 0 [] g.stores k n.0 graph.part.stores n.1
    ∙ ap (λ i. cell_entry i (slice_get g.loads i)) (omega arith) ∙ ap (cell_entry k) there in
    let type : l.ty ≡ op.0.ty = store_type (place_of (scope g) n.0) op.0.kind op.0.from op.0.ty (entry k l.ty) cell fit.kind fit.from fit.ty in
    let value : at (stored g values) k ≡ at values n.0 = map_at (λ i. at values i) g.stores k n.0 n.1 in
    let fits_op : fits op.0.ty (at values n.0) ≡ true = typed n.0 op.0 (omega (arith, store.store)) op.1 in
    subst (λ z. fits l.ty z ≡ true) (sym value) (subst (λ t. fits t (at values n.0) ≡ true) (sym type) fits_op)

-- ---- outputs

earlier_out : (names m : ℕ) (before xs : List Outlet) (x : Outlet) (i : ℕ) (o : Outlet) → Each (OutputFits names m) (before ++ x ∷ []) xs
    → slice_get xs i ≡ Some o → x.op < o.op
earlier_out names m before xs x i o h e =
    let fit : OutputFits names m ((before ++ x ∷ []) ++ take i xs) o = each_at (OutputFits names m) (before ++ x ∷ []) xs i o h e in
    let all : All (λ (p : Outlet). p.op < o.op) (before ++ x ∷ take i xs) =
    subst (λ ps. All (λ (p : Outlet). p.op < o.op) ps) (append_assoc before (x ∷ []) (take i xs)) fit.operation_rises in
    subst (λ (p : Outlet). p.op < o.op) (middle_of before (take i xs) x x) (all (length before) x (simp length-append (omega arith)))

out_first : (names m k : ℕ) (before xs : List Outlet) (i : ℕ) (o : Outlet) → Each (OutputFits names m) before xs → slice_get xs i ≡ Some o
    → found (λ p. p.op == o.op) (λ p. p.ty) k xs ≡ Some (entry (k + i) o.ty)
out_first names m k before [] i o h e = absurd cc
out_first names m k before (x ∷ xs) zero o h e =
    let same : x ≡ o = cc in
    let test : (x.op == o.op) ≡ true = subst (λ (y : Outlet). (x.op == y.op) ≡ true) same (eqb_self x.op) in
    rw test (ap (λ (y : Outlet). Some (entry k y.ty)) same ∙ ap (λ j. Some (entry j o.ty)) (omega arith))
out_first names m k before (x ∷ xs) (suc i) o h e =
    rw (other x.op o.op (earlier_out names m before xs x i o h.1 e))
    (out_first names m (k + 1) (before ++ x ∷ []) xs i o h.1 e ∙ ap (λ j. Some (entry j o.ty)) (omega arith))

fourth_of_four : (a b c d : Bool) → (a && b && c && d) ≡ true → d ≡ true
fourth_of_four true true true d h = h
fourth_of_four true true false d h = absurd cc
fourth_of_four true false true d h = absurd cc
fourth_of_four true false false d h = absurd cc
fourth_of_four false true true d h = absurd cc
fourth_of_four false true false d h = absurd cc
fourth_of_four false false true d h = absurd cc
fourth_of_four false false false d h = absurd cc

out_type : (p : Place) (k : Kind) (from to : Ty) (e : Entry) → p.out ≡ Some e → kind_fits p k ≡ true → from_fits (entry_of p k) k from ≡ true
    → ty_fits k from to ≡ true → e.ty ≡ to
out_type p kind.Out from to e is h reads types = same_type_is e.ty from (subst (λ o. from_fits o kind.Out from ≡ true) is reads) ∙ same_type_is from to types
out_type p k from to e is h reads types =
    absurd (not_none p.out e is
    (fourth_of_four (agree (is_input k) (is_some p.input)) (agree (is_load k) (is_some p.load)) (agree (is_store k) (is_some p.store)) (not (is_some p.out)) h))

outputs_fit : (g : Lists) (values : List ℤ) → IsGraph g → Typed g.operations values → length values ≡ length g.operations → OutputsFit g values
unfolding Typed
outputs_fit g values graph typed len = λ k o there.
    let fits_list : OutputFits (length g.names) (length g.operations) (take k g.outputs) o =
    each_at (OutputFits (length g.names) (length g.operations)) [] g.outputs k o graph.part.outputs there in
    let op = get_there g.operations o.op fits_list.operation in
    let front : length (take o.op g.operations) ≡ o.op = length-take-le o.op g.operations (omega (arith, fits_list.operation)) in
    let operates : Operates (scope g) (length g.turn_nodes) (take o.op g.operations) op.0 =
    each_at (Operates (scope g) (length g.turn_nodes)) [] g.operations o.op op.0 graph.part.operations op.1 in
    let fit : OpFits (place_of (scope g) o.op) (length g.turn_nodes) (take o.op g.operations) op.0 =
    subst (λ i. OpFits (place_of (scope g) i) (length g.turn_nodes) (take o.op g.operations) op.0) front operates in
    let out : found (λ p. p.op == o.op) (λ p. p.ty) 0 g.outputs ≡ Some (entry (0 + k) o.ty) =
    out_first (length g.names) (length g.operations) 0 [] g.outputs k o graph.part.outputs there in
    let type : o.ty ≡ op.0.ty = out_type (place_of (scope g) o.op) op.0.kind op.0.from op.0.ty (entry (0 + k) o.ty) out fit.kind fit.from fit.ty in
    let fits_op : fits op.0.ty (at values o.op) ≡ true = typed o.op op.0 (omega (arith, fits_list.operation)) op.1 in
    subst (λ t. fits t (at values o.op) ≡ true) (sym type) fits_op

initial_fits : (g : Lists) → IsGraph g → CellsFit g (initial g)
initial_fits g graph = λ k l there.
    let fit = each_at (LoadFits (length g.names) (length g.operations)) [] g.loads k l graph.part.loads there in
    subst (λ z. fits l.ty z ≡ true) (sym (map_at (λ m. m.init) g.loads k l there)) fit.init

-- ---- the law

typed_nothing : (ops : List Op) → Typed ops []
unfolding Typed
typed_nothing ops = λ i op lt there. absurd (omega arith)

sound : (g : Lists) (cells row : List ℤ) → IsGraph g → CellsFit g cells → Sound g.operations (cycle g cells row)
sound g cells row graph held = cycle_sound g (length g.turn_nodes) cells row [] [] g.operations held graph.part.operations (typed_nothing []) refl

cycle_without_operand_stop : (g : Lists) (cells row : List ℤ) → IsGraph g → CellsFit g cells → (cycle g cells row).stop ≢ Some stop.Operand
cycle_without_operand_stop g cells row graph held = (sound g cells row graph held).no_operand

cycle_keeps_types : (g : Lists) (cells row : List ℤ) → IsGraph g → CellsFit g cells → (cycle g cells row).stop ≡ None
    → CellsFit g (stored g (cycle g cells row).values)
cycle_keeps_types g cells row graph held whole = let c = sound g cells row graph held in stored_fits g (cycle g cells row).values graph c.typed (c.whole whole)

cycle_outputs_fit : (g : Lists) (cells row : List ℤ) → IsGraph g → CellsFit g cells → (cycle g cells row).stop ≡ None
    → OutputsFit g (cycle g cells row).values
cycle_outputs_fit g cells row graph held whole = let c = sound g cells row graph held in outputs_fit g (cycle g cells row).values graph c.typed (c.whole whole)

after_cycle_fair : (g : Lists) (values : List ℤ) (next : List ℤ → Run) (s : Option StopKind) → s ≢ Some stop.Operand
    → (s ≡ None → IfSome (next (stored g values)).end (λ e. e.kind ≢ stop.Operand)) → IfSome (after_cycle g values next s).end (λ e. e.kind ≢ stop.Operand)
after_cycle_fair g values next None fair rest = rest refl
after_cycle_fair g values next (Some why) fair rest = λ e. fair (ap Some e)

run_fair : (g : Lists) (cells : List ℤ) (rows : List (List ℤ)) → IsGraph g → CellsFit g cells → IfSome (run_from g cells rows).end (λ e. e.kind ≢ stop.Operand)
run_fair g cells [] graph held = tt
run_fair g cells (row ∷ rows) graph held =
    after_cycle_fair g (cycle g cells row).values (λ kept. run_from g kept rows) (cycle g cells row).stop (cycle_without_operand_stop g cells row graph held)
    (λ whole. run_fair g (stored g (cycle g cells row).values) rows graph (cycle_keeps_types g cells row graph held whole))

run_without_operand_stop : (g : Lists) (rows : List (List ℤ)) → IsGraph g → IfSome (graph_run g rows).end (λ e. e.kind ≢ stop.Operand)
run_without_operand_stop g rows graph = run_fair g (initial g) rows graph (initial_fits g graph)

part_sound : (g : Lists) (cells row : List ℤ) → IsPart g → CellsFit g cells → Sound g.operations (cycle g cells row)
part_sound g cells row part held = cycle_sound g (length g.turn_nodes) cells row [] [] g.operations held part.operations (typed_nothing []) refl

part_without_operand_stop : (g : Lists) (cells row : List ℤ) → IsPart g → CellsFit g cells → (cycle g cells row).stop ≢ Some stop.Operand
part_without_operand_stop g cells row part held = (part_sound g cells row part held).no_operand

part_values_fit : (g : Lists) (cells row : List ℤ) → IsPart g → CellsFit g cells → ValuesFit g (cycle g cells row).values
unfolding Typed
part_values_fit g cells row part held = (part_sound g cells row part held).typed

pub operand_laws : OperandLaws
operand_laws = record {
  cycle = λ g held row graph fit. cycle_without_operand_stop g held row graph fit;
  cells_at_first = λ g graph. initial_fits g graph;
  cells_kept = λ g held row graph fit whole. cycle_keeps_types g held row graph fit whole;
  outputs = λ g held row graph fit whole. cycle_outputs_fit g held row graph fit whole;
  part = λ g held row part fit. part_without_operand_stop g held row part fit;
  values = λ g held row part fit. part_values_fit g held row part fit;
  run = λ g rows graph. run_without_operand_stop g rows graph;
  wider = within_fits;
}
