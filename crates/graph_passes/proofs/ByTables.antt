-- ByTables: the part by tables, entry by entry, and parts by numberings that agree.
use Rattle.std.proofs.Common.{◌≡◌, ◌≢◌, ◌⊎◌, ⊎_elim, inl, inr, ℕ, zero, suc, ◌+◌, ◌<◌, ◌==◌, ℤ, pos, Bool, true, false, cond, List, [], ◌∷◌, ◌++◌, length, map}
use Rattle.std.proofs.Common.{take, slice_get, slice_index_or, Option, Some, None, refl, sym, ap, subst, ◌∙◌, arith}
use Rattle.std.specs.Prelude.{unsigned_abs}
use Rattle.std.proofs.lemmas.Option.{slice_get_within}
use Rattle.std.proofs.lemmas.List.{length-take-le}
use Rattle.std.proofs.lemmas.Bool.Decides.{nat_tests, eqb_tells}
use Rattle.vcp_base.specs.declared.ty.Ty.{Ty}
use Rattle.vcp_base.specs.declared.kind.Kind.{Kind}
use Rattle.vcp_base.specs.declared.kind.Kind.TheVariants as kind
use Rattle.vcp_base.specs.Types.{within}
use Rattle.op_graph.specs.declared.op.Op.{Op}
use Rattle.op_graph.specs.declared.op.Outlet.{Outlet}
use Rattle.op_graph.specs.declared.op.Loaded.{Loaded}
use Rattle.op_graph.specs.Lists.{Lists}
use Rattle.op_graph.specs.Rules.{IsGraph, scope, place_of, operand_fits, reads_as, OpFits}
use Rattle.op_graph.specs.Laws.{EntryLaws, WalkLaws}
use Rattle.graph_passes.specs.Part.{Numbering, below, chosen, own_number, moved, moved_output, moved_load, part_of}
use Rattle.graph_passes.proofs.Copies.{take_next}
use Rattle.graph_passes.proofs.CellOperations.{has_store}
use Rattle.graph_passes.proofs.Keeping.{has_cell}

-- ---- one more entry

one_kept : {Y : Type 0} (b c : Bool) (y z : Y) (ys : List Y) →
    cond b (y ∷ cond c (ys ++ z ∷ []) ys) (cond c (ys ++ z ∷ []) ys) ≡ cond c (cond b (y ∷ ys) ys ++ z ∷ []) (cond b (y ∷ ys) ys)
one_kept true true y z ys = refl
one_kept true false y z ys = refl
one_kept false true y z ys = refl
one_kept false false y z ys = refl

chosen_push : {X Y : Type 0} (choice : ℕ → Bool) (f : X → Y) (s i : ℕ) (xs : List X) (x : X) → i ≡ length xs + s →
    chosen choice f s (xs ++ x ∷ []) ≡ cond (choice i) (chosen choice f s xs ++ f x ∷ []) (chosen choice f s xs)
chosen_push choice f s i [] x is = let same : s ≡ i = omega (arith, is) in ap (λ n. cond (choice n) (f x ∷ []) []) same
chosen_push choice f s i (y ∷ xs) x is =
    ap (λ l. cond (choice s) (f y ∷ l) l) (chosen_push choice f (suc s) i xs x (omega (arith, is)))
    ∙ one_kept (choice s) (choice i) (f y) (f x) (chosen choice f (suc s) xs)

chosen_next : {X Y : Type 0} (choice : ℕ → Bool) (f : X → Y) (xs : List X) (i : ℕ) (x : X) → slice_get xs i ≡ Some x →
    chosen choice f 0 (take (i + 1) xs) ≡ cond (choice i) (chosen choice f 0 (take i xs) ++ f x ∷ []) (chosen choice f 0 (take i xs))
chosen_next choice f xs i x there =
    let inside = slice_get_within xs i x there in
    let long = length-take-le i xs (omega (arith, inside)) in
    ap (chosen choice f 0) (take_next xs i x there) ∙ chosen_push choice f 0 i (take i xs) x (omega (arith, long))

-- a list that holds what is chosen of the first entries of another, and what is chosen of one more of them
pub kept_pushed : {X Y : Type 0} (choice : ℕ → Bool) (f : X → Y) (new old : List Y) (xs : List X) (i : ℕ) (b : Bool) (x : X) (y : Y) →
    new ≡ cond b (old ++ y ∷ []) old → old ≡ chosen choice f 0 (take i xs) → b ≡ choice i → y ≡ f x → slice_get xs i ≡ Some x →
    new ≡ chosen choice f 0 (take (i + 1) xs)
kept_pushed choice f new old xs i b x y pushed held keep is there =
    let before = chosen choice f 0 (take i xs) in
    pushed ∙ ap (λ l. cond b (l ++ y ∷ []) l) held ∙ ap (λ z. cond b (before ++ z ∷ []) before) is ∙ ap (λ c. cond c (before ++ f x ∷ []) before) keep
    ∙ sym (chosen_next choice f xs i x there)

pub output_moved : (m : Numbering) (o : Outlet) (n : ℕ) → n ≡ m.number o.op → record o { op = n } ≡ moved_output m o
output_moved m o n is = ap (λ k. record o { op = k }) is

pub load_moved : (m : Numbering) (l : Loaded) (n : ℕ) → n ≡ m.number l.load → record l { load = n } ≡ moved_load m l
load_moved m l n is = ap (λ k. record l { load = k }) is

-- the part of a graph is the graph with these lists
pub part_made : (m : Numbering) (g h : Lists) (outputs : List Outlet) (loads : List Loaded) (stores : List ℕ) (ops : List Op) → h ≡ g
    → outputs ≡ map (moved_output m) g.outputs → loads ≡ chosen m.kept_cell (moved_load m) 0 g.loads → stores ≡ chosen m.kept_cell m.number 0 g.stores
    → ops ≡ chosen m.kept (moved m) 0 g.operations
    → record h { outputs = outputs; loads = loads; stores = stores; operations = ops } ≡ part_of m g
part_made m g h outputs loads stores ops same a b c d = rw (same, a, b, c, d) refl

-- ---- tables

pub at_front : {X : Type 0} (d : X) (xs ys : List X) (i : ℕ) → i < length xs → slice_index_or (xs ++ ys) i d ≡ slice_index_or xs i d
at_front d [] ys i lt = absurd (omega arith)
at_front d (x ∷ xs) ys zero lt = refl
at_front d (x ∷ xs) ys (suc i) lt = at_front d xs ys i (omega (arith, lt))

pub at_end : {X : Type 0} (d : X) (xs : List X) (x : X) → slice_index_or (xs ++ x ∷ []) (length xs) d ≡ x
at_end d [] x = refl
at_end d (y ∷ xs) x = at_end d xs x

pub place_by : (i n : ℕ) → i < n + 1 → (i < n) ⊎ (i ≡ n)
place_by i n lt = ⊎_elim
    (λ (h : ((i == n) ≡ true) × (i ≡ n)). inr h.1)
    (λ (h : ((i == n) ≡ false) × (i ≢ n)). inl (let ne = h.1 in omega (arith, lt, ne)))
    (eqb_tells i n)

-- what holds of all entries, and of one more
pub each_pushed : {X : Type 0} (d : X) (P : ℕ → X → Type 0) (xs : List X) (x : X) (n : ℕ) → length xs ≡ n →
    ((i : ℕ) → i < n → P i (slice_index_or xs i d)) → P n x → (i : ℕ) → i < n + 1 → P i (slice_index_or (xs ++ x ∷ []) i d)
each_pushed d P xs x n many each last i lt = ⊎_elim
    (λ (less : i < n). subst (λ v. P i v) (sym (at_front d xs (x ∷ []) i (omega (arith, less, many)))) (each i less))
    (λ (here : i ≡ n).
    let at : i ≡ length xs = here ∙ sym many in
    subst (λ v. P i v) (sym (ap (λ k. slice_index_or (xs ++ x ∷ []) k d) at ∙ at_end d xs x)) (subst (λ k. P k x) (sym here) last))
    (place_by i n lt)

pub map_index : {X Y : Type 0} (f : X → Y) (xs : List X) (i : ℕ) (x : X) (d : Y) → slice_get xs i ≡ Some x → slice_index_or (map f xs) i d ≡ f x
map_index f [] i x d there = absurd cc
map_index f (y ∷ xs) zero x d there = let same : y ≡ x = cc in ap f same
map_index f (y ∷ xs) (suc i) x d there = map_index f xs i x d there

pub below_same : (c d : ℕ → Bool) (n : ℕ) → ((i : ℕ) → i < n → c i ≡ d i) → below c n ≡ below d n
below_same c d zero all = refl
below_same c d (suc n) all =
    let rest = below_same c d n (λ i lt. all i (omega (arith, lt))) in
    step (c n) (d n) (below c n) (below d n) (all n (omega arith)) rest
  where
    step : (a b : Bool) (x y : ℕ) → a ≡ b → x ≡ y → cond a (suc x) x ≡ cond b (suc y) y
    step a b x y e h = ap (λ z. cond a (suc z) z) h ∙ ap (λ z. cond z (suc y) y) e

-- ---- parts by numberings that agree

pub record Agree (g : Lists) (m n : Numbering) : Type 0 where
  pub kept : (i : ℕ) → i < length g.operations → m.kept i ≡ n.kept i
  pub number : (i : ℕ) → i < length g.operations → m.number i ≡ n.number i
  pub kept_cell : (k : ℕ) → k < length g.loads → m.kept_cell k ≡ n.kept_cell k
  pub cell_number : (k : ℕ) → k < length g.loads → m.cell_number k ≡ n.cell_number k

chosen_same : {X Y : Type 0} (c d : ℕ → Bool) (f h : X → Y) (s : ℕ) (xs : List X) →
    ((i : ℕ) (x : X) → slice_get xs i ≡ Some x → (c (i + s) ≡ d (i + s)) × (f x ≡ h x)) → chosen c f s xs ≡ chosen d h s xs
chosen_same c d f h s [] all = refl
chosen_same c d f h s (x ∷ xs) all =
    let here = all 0 x refl in
    let start : 0 + s ≡ s = omega arith in
    let choice : c s ≡ d s = subst (λ n. c n ≡ d n) start here.0 in
    let rest = chosen_same c d f h (suc s) xs (λ i z there.
    let next : suc i + s ≡ i + suc s = omega arith in
    let a = all (suc i) z there in (subst (λ n. c n ≡ d n) next a.0, a.1)) in
    ap (λ b. cond b (f x ∷ chosen c f (suc s) xs) (chosen c f (suc s) xs)) choice
    ∙ ap (λ y. cond (d s) (y ∷ chosen c f (suc s) xs) (chosen c f (suc s) xs)) here.1
    ∙ ap (λ l. cond (d s) (h x ∷ l) l) rest

map_same : {X Y : Type 0} (f h : X → Y) (xs : List X) → ((i : ℕ) (x : X) → slice_get xs i ≡ Some x → f x ≡ h x) → map f xs ≡ map h xs
map_same f h [] all = refl
map_same f h (x ∷ xs) all = ap (λ y. y ∷ map f xs) (all 0 x refl) ∙ ap (λ l. h x ∷ l) (map_same f h xs (λ i z there. all (suc i) z there))

inside_by : (before : List Op) (n : ℕ) (t : Ty) (o : Option Op) → slice_get before n ≡ o → elim o [ None ↦ false | Some op ↦ within op.ty t ] ≡ true →
    n < length before
inside_by before n t None is h = absurd cc
inside_by before n t (Some op) is h = slice_get_within before n op is

-- an operand that is read is before
pub operand_in_front : (before : List Op) (n : ℕ) (t : Ty) → operand_fits before (Some t) n ≡ true → n < length before
operand_in_front before n t h = inside_by before n t (slice_get before n) refl h

-- what an operand names is an operation
operand_inside : (before : List Op) (o : Option Ty) (n many : ℕ) → operand_fits before o n ≡ true → length before < many → n < many
operand_inside before None n many h lt = let is : (n == 0) ≡ true = h in let none : n ≡ 0 = grind (arith, nat_tests) in omega (arith, none, lt)
operand_inside before (Some t) n many h lt = let in_front = operand_in_front before n t h in omega (arith, in_front, lt)

own_same : (k : Kind) (imm : ℤ) (m n : Numbering) → (k ≡ kind.Load → m.cell_number (unsigned_abs imm) ≡ n.cell_number (unsigned_abs imm)) →
    (k ≡ kind.Store → m.cell_number (unsigned_abs imm) ≡ n.cell_number (unsigned_abs imm)) → own_number m k imm ≡ own_number n k imm
own_same kind.Load imm m n load store = ap pos (load refl)
own_same kind.Store imm m n load store = ap pos (store refl)
own_same _ imm m n load store = refl

moved_same : (entries : EntryLaws) (walks : WalkLaws) (g : Lists) → IsGraph g → (m n : Numbering) → Agree g m n → (i : ℕ) (op : Op) →
    slice_get g.operations i ≡ Some op → moved m op ≡ moved n op
moved_same entries walks g graph m n agree i op there =
    let fit : OpFits (place_of (scope g) i) (length g.turn_nodes) (take i g.operations) op = entries.operation g i op graph.part there in
    let inside = slice_get_within g.operations i op there in
    let long = length-take-le i g.operations (omega (arith, inside)) in
    let front : length (take i g.operations) < length g.operations = omega (arith, inside, long) in
    let same : (o : Option Ty) (k : ℕ) → operand_fits (take i g.operations) o k ≡ true → m.number k ≡ n.number k = λ o k fits.
    agree.number k (operand_inside (take i g.operations) o k (length g.operations) fits front) in
    let own = own_same op.kind op.imm m n
    (λ is. let cell = has_cell walks g graph i 0 [] op.kind op.ty op.imm is fit.kind fit.imm in
    agree.cell_number (unsigned_abs op.imm) (slice_get_within g.loads (unsigned_abs op.imm) cell.cell cell.there))
    (λ is. let stored = has_store walks g graph i op.kind op.ty op.imm is fit.kind fit.imm in
    let in_stores = slice_get_within g.stores (unsigned_abs op.imm) i stored in
    let all = graph.all_stored in
    agree.cell_number (unsigned_abs op.imm) (omega (arith, in_stores, all))) in
    ap (λ a. record op { a = a; b = m.number op.b; c = m.number op.c; imm = own_number m op.kind op.imm })
    (same (reads_as op.kind op.from 0) op.a fit.a)
    ∙ ap (λ b. record op { a = n.number op.a; b = b; c = m.number op.c; imm = own_number m op.kind op.imm })
    (same (reads_as op.kind op.from 1) op.b fit.b)
    ∙ ap (λ c. record op { a = n.number op.a; b = n.number op.b; c = c; imm = own_number m op.kind op.imm })
    (same (reads_as op.kind op.from 2) op.c fit.c)
    ∙ ap (λ v. record op { a = n.number op.a; b = n.number op.b; c = n.number op.c; imm = v }) own

pub part_same : (entries : EntryLaws) (walks : WalkLaws) (g : Lists) → IsGraph g → (m n : Numbering) → Agree g m n → part_of m g ≡ part_of n g
part_same entries walks g graph m n agree =
    let all = graph.all_stored in
    let outputs : map (moved_output m) g.outputs ≡ map (moved_output n) g.outputs = map_same (moved_output m) (moved_output n) g.outputs (λ k o there.
    output_moved n o (m.number o.op) (agree.number o.op (entries.output g k o graph.part there).operation)) in
    let loads : chosen m.kept_cell (moved_load m) 0 g.loads ≡ chosen n.kept_cell (moved_load n) 0 g.loads =
    chosen_same m.kept_cell n.kept_cell (moved_load m) (moved_load n) 0 g.loads (λ k l there.
    let inside = slice_get_within g.loads k l there in
    (agree.kept_cell (k + 0) (omega (arith, inside)), load_moved n l (m.number l.load) (agree.number l.load (entries.load g k l graph.part there).load))) in
    let stores : chosen m.kept_cell m.number 0 g.stores ≡ chosen n.kept_cell n.number 0 g.stores =
    chosen_same m.kept_cell n.kept_cell m.number n.number 0 g.stores (λ k s there.
    let inside = slice_get_within g.stores k s there in
    (agree.kept_cell (k + 0) (omega (arith, inside, all)), agree.number s (entries.store g k s graph.part there).store)) in
    let operations : chosen m.kept (moved m) 0 g.operations ≡ chosen n.kept (moved n) 0 g.operations =
    chosen_same m.kept n.kept (moved m) (moved n) 0 g.operations (λ i op there.
    let inside = slice_get_within g.operations i op there in
    (agree.kept (i + 0) (omega (arith, inside)), moved_same entries walks g graph m n agree i op there)) in
    ap (λ l. record g {
      outputs = l;
      loads = chosen m.kept_cell (moved_load m) 0 g.loads;
      stores = chosen m.kept_cell m.number 0 g.stores;
      operations = chosen m.kept (moved m) 0 g.operations;
    })
    outputs
    ∙ ap (λ l. record g {
      outputs = map (moved_output n) g.outputs;
      loads = l;
      stores = chosen m.kept_cell m.number 0 g.stores;
      operations = chosen m.kept (moved m) 0 g.operations;
    })
    loads
    ∙ ap (λ l. record g {
      outputs = map (moved_output n) g.outputs;
      loads = chosen n.kept_cell (moved_load n) 0 g.loads;
      stores = l;
      operations = chosen m.kept (moved m) 0 g.operations;
    })
    stores
    ∙ ap (λ l. record g {
      outputs = map (moved_output n) g.outputs;
      loads = chosen n.kept_cell (moved_load n) 0 g.loads;
      stores = chosen n.kept_cell n.number 0 g.stores;
      operations = l;
    })
    operations
