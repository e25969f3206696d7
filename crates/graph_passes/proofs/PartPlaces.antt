-- PartPlaces: what the operations of a part are by its other lists.
use Rattle.std.proofs.Common.{◌≡◌, ℕ, zero, suc, ◌+◌, ◌≤◌, ◌==◌, Bool, true, false, cond, List, [], ◌∷◌, length, map, slice_get, Option, Some, None, inl, inr}
use Rattle.std.proofs.Common.{refl, sym, ap, subst, ◌∙◌, arith}
use Rattle.std.proofs.lemmas.Bool.{ne_eqb, cases_lt}
use Rattle.std.proofs.lemmas.Option.{slice_get_past}
use Rattle.vcp_base.specs.declared.ty.Ty.{Ty}
use Rattle.op_graph.specs.declared.op.Outlet.{Outlet}
use Rattle.op_graph.specs.declared.op.Loaded.{Loaded}
use Rattle.op_graph.specs.Lists.{Lists}
use Rattle.op_graph.specs.Rules.{IsGraph, scope, place_of, entry, numbered, found, stored_by, cell_entry}
use Rattle.op_graph.specs.declared.rules.Place.{Place}
use Rattle.op_graph.specs.declared.rules.Entry.{Entry}
use Rattle.graph_passes.specs.Part.{Numbering, below, chosen, moved_output, moved_load, part_of, IsClosed, KeepsEntries}
use Rattle.graph_passes.proofs.Chosen.{chosen_at}
use Rattle.graph_passes.proofs.Rising.{below_le, below_all, length_chosen, same_number}

-- a cell's entry with its new number
abbrev pub renumbered : (ℕ → Bool) → Option Entry → Option Entry
renumbered choice None = None
renumbered choice (Some e) = Some (entry (below choice e.number) e.ty)

-- ---- lists of cells

other_test : (kept : ℕ → Bool) (a i : ℕ) → kept a ≡ false → kept i ≡ true → (a == i) ≡ false
other_test kept a i out picked = ne_eqb a i (λ e. contrary (subst (λ n. kept n ≡ false) e out) picked)
  where
    contrary : {b : Bool} → b ≡ false → b ≡ true → ⊥
    contrary f t = absurd cc

found_by : (choice : ℕ → Bool) (s : ℕ) (t : Ty) (b p q : Bool) (old new late : Option Entry) → choice s ≡ b → (b ≡ true → q ≡ p) → (b ≡ false → p ≡ false) →
    (b ≡ true → late ≡ renumbered choice old) → (b ≡ false → new ≡ renumbered choice old) →
    cond b (cond q (Some (entry (below choice s) t)) late) new ≡ renumbered choice (cond p (Some (entry s t)) old)
found_by choice s t true true q old new late is same out rest skip = let e = same refl in ap (λ x. cond x (Some (entry (below choice s) t)) late) e
found_by choice s t true false q old new late is same out rest skip = let e = same refl in ap (λ x. cond x (Some (entry (below choice s) t)) late) e ∙ rest refl
found_by choice s t false true q old new late is same out rest skip = absurd (let e : true ≡ false = out refl in cc)
found_by choice s t false false q old new late is same out rest skip = skip refl

-- what the chosen cells say of operation i
loads_found : (choice kept : ℕ → Bool) (number : ℕ → ℕ) (i : ℕ) → kept i ≡ true → ((a : ℕ) → kept a ≡ true → number a ≡ below kept a) →
    (s : ℕ) (xs : List Loaded) → ((k : ℕ) (l : Loaded) → slice_get xs k ≡ Some l → kept l.load ≡ choice (k + s)) →
    found (λ (l : Loaded). l.load == below kept i) (λ l. l.ty) (below choice s) (chosen choice (λ
    (l : Loaded). record l { load = number l.load }) s xs) ≡ renumbered choice (found (λ (l : Loaded). l.load == i) (λ l. l.ty) s xs)
loads_found choice kept number i picked numbers s [] own = refl
loads_found choice kept number i picked numbers s (l ∷ xs) own =
    loads_by choice kept number i picked numbers s l xs (choice s) refl (own 0 l refl ∙ ap choice (let e : 0 + s ≡ s = omega arith in e))
    (loads_found choice kept number i picked numbers (suc s) xs (λ k x there. own (suc k) x there
    ∙ ap choice (let e : suc k + s ≡ k + suc s = omega arith in e)))
  where
    split : (choice : ℕ → Bool) (p : Loaded → Bool) (s : ℕ) (y : Loaded) (ys : List Loaded) (b : Bool) →
        found p (λ l. l.ty) (below choice s) (cond b (y ∷ ys) ys) ≡ cond b (cond (p y) (Some (entry (below choice s) y.ty)) (found p (λ l. l.ty)
        (below choice s + 1) ys)) (found p (λ l. l.ty) (below choice s) ys)
    split choice p s y ys true = refl
    split choice p s y ys false = refl

    loads_by : (choice kept : ℕ → Bool) (number : ℕ → ℕ) (i : ℕ) → kept i ≡ true → ((a : ℕ) → kept a ≡ true → number a ≡ below kept a) →
        (s : ℕ) (l : Loaded) (xs : List Loaded) (b : Bool) → choice s ≡ b → kept l.load ≡ choice s →
        found (λ (x : Loaded). x.load == below kept i) (λ x. x.ty) (below choice (suc s)) (chosen choice (λ
        (x : Loaded). record x { load = number x.load }) (suc s) xs) ≡ renumbered choice (found (λ (x : Loaded). x.load == i) (λ x. x.ty) (suc s) xs) →
        found (λ (x : Loaded). x.load == below kept i) (λ x. x.ty) (below choice s) (cond b (record l { load = number l.load } ∷ chosen choice (λ
        (x : Loaded). record x { load = number x.load }) (suc s) xs) (chosen choice (λ (x : Loaded). record x { load = number x.load }) (suc s) xs)) ≡
        renumbered choice (cond (l.load == i) (Some (entry s l.ty)) (found (λ (x : Loaded). x.load == i) (λ x. x.ty) (s + 1) xs))
    loads_by choice kept number i picked numbers s l xs b is own rest =
        let new = record l { load = number l.load } in
        let ys = chosen choice (λ (x : Loaded). record x { load = number x.load }) (suc s) xs in
        let test = λ (x : Loaded). x.load == below kept i in
        let on : suc s ≡ s + 1 = omega arith in
        let step : below choice (suc s) ≡ cond b (suc (below choice s)) (below choice s) = ap (λ t. cond t (suc (below choice s)) (below choice s)) is in
        let late : found (λ (x : Loaded). x.load == i) (λ x. x.ty) (suc s) xs ≡ found (λ (x : Loaded). x.load == i) (λ x. x.ty) (s + 1) xs = ap (λ n. found
        (λ (x : Loaded). x.load == i) (λ x. x.ty) n xs) on in
        let keeps : kept l.load ≡ b = own ∙ is in
        split choice test s new ys b
        ∙ found_by choice s l.ty b (l.load == i) (number l.load == below kept i) (found (λ (x : Loaded). x.load == i) (λ x. x.ty) (s + 1) xs) (found test
        (λ x. x.ty) (below choice s) ys) (found test (λ x. x.ty) (below choice s + 1) ys) is
        (λ e. ap (λ n. n == below kept i) (numbers l.load (keeps ∙ e)) ∙ same_number kept l.load i (keeps ∙ e) picked)
        (λ e. other_test kept l.load i (keeps ∙ e) picked)
        (λ e. ap (λ n. found test (λ x. x.ty) n ys) (let more : below choice s + 1 ≡ suc (below choice s) = omega arith in more ∙ sym (step
        ∙ ap (λ t. cond t (suc (below choice s)) (below choice s)) e)) ∙ rest ∙ ap (renumbered choice) late)
        (λ e. ap (λ n. found test (λ x. x.ty) n ys) (sym (step ∙ ap (λ t. cond t (suc (below choice s)) (below choice s)) e)) ∙ rest
        ∙ ap (renumbered choice) late)

cell_by : (choice : ℕ → Bool) (s : ℕ) (b p q : Bool) (o new_cell old new late : Option Entry) → (b ≡ true → q ≡ p) → (b ≡ false → p ≡ false) → (b ≡ true →
    new_cell ≡ renumbered choice o) → (b ≡ true → late ≡ renumbered choice old) → (b ≡ false → new ≡ renumbered choice old) →
    cond b (cond q new_cell late) new ≡ renumbered choice (cond p o old)
cell_by choice s true true q o new_cell old new late same out cell rest skip = let e = same refl in ap (λ x. cond x new_cell late) e ∙ cell refl
cell_by choice s true false q o new_cell old new late same out cell rest skip = let e = same refl in ap (λ x. cond x new_cell late) e ∙ rest refl
cell_by choice s false true q o new_cell old new late same out cell rest skip = absurd (let e : true ≡ false = out refl in cc)
cell_by choice s false false q o new_cell old new late same out cell rest skip = skip refl

-- what the chosen STOREs say of operation i
stores_found : (choice kept : ℕ → Bool) (number : ℕ → ℕ) (i : ℕ) (loads news : List Loaded) → kept i ≡ true → ((a : ℕ) → kept a ≡ true →
    number a ≡ below kept a) → ((k : ℕ) → choice k ≡ true → cell_entry (below choice k) (slice_get news (below choice k)) ≡ renumbered choice (cell_entry k
    (slice_get loads k))) →
    (s : ℕ) (xs : List ℕ) → ((k n : ℕ) → slice_get xs k ≡ Some n → kept n ≡ choice (k + s)) →
    stored_by news (below kept i) (below choice s) (chosen choice number s xs) ≡ renumbered choice (stored_by loads i s xs)
stores_found choice kept number i loads news picked numbers cells s [] own = refl
stores_found choice kept number i loads news picked numbers cells s (n ∷ xs) own =
    stores_by choice kept number i loads news picked numbers cells s n xs (choice s) refl (own 0 n refl ∙ ap choice (let e : 0 + s ≡ s = omega arith in e))
    (stores_found choice kept number i loads news picked numbers cells (suc s) xs (λ k x there. own (suc k) x there
    ∙ ap choice (let e : suc k + s ≡ k + suc s = omega arith in e)))
  where
    split : (news : List Loaded) (j k : ℕ) (y : ℕ) (ys : List ℕ) (b : Bool) →
        stored_by news j k (cond b (y ∷ ys) ys) ≡ cond b (cond (y == j) (cell_entry k (slice_get news k)) (stored_by news j (k + 1) ys)) (stored_by news j k ys)
    split news j k y ys true = refl
    split news j k y ys false = refl

    stores_by : (choice kept : ℕ → Bool) (number : ℕ → ℕ) (i : ℕ) (loads news : List Loaded) → kept i ≡ true → ((a : ℕ) → kept a ≡ true →
        number a ≡ below kept a) → ((k : ℕ) → choice k ≡ true → cell_entry (below choice k) (slice_get news (below choice k)) ≡ renumbered choice (cell_entry k
        (slice_get loads k))) →
        (s n : ℕ) (xs : List ℕ) (b : Bool) → choice s ≡ b → kept n ≡ choice s →
        stored_by news (below kept i) (below choice (suc s)) (chosen choice number (suc s) xs) ≡ renumbered choice (stored_by loads i (suc s) xs) →
        stored_by news (below kept i) (below choice s) (cond b (number n ∷ chosen choice number (suc s) xs) (chosen choice number
        (suc s) xs)) ≡ renumbered choice (cond (n == i) (cell_entry s (slice_get loads s)) (stored_by loads i (s + 1) xs))
    stores_by choice kept number i loads news picked numbers cells s n xs b is own rest =
        let ys = chosen choice number (suc s) xs in
        let j = below kept i in
        let on : suc s ≡ s + 1 = omega arith in
        let step : below choice (suc s) ≡ cond b (suc (below choice s)) (below choice s) = ap (λ t. cond t (suc (below choice s)) (below choice s)) is in
        let late : stored_by loads i (suc s) xs ≡ stored_by loads i (s + 1) xs = ap (λ k. stored_by loads i k xs) on in
        let keeps : kept n ≡ b = own ∙ is in
        split news j (below choice s) (number n) ys b
        ∙ cell_by choice s b (n == i) (number n == j) (cell_entry s (slice_get loads s)) (cell_entry (below choice s) (slice_get news (below choice s)))
        (stored_by loads i (s + 1) xs) (stored_by news j (below choice s) ys) (stored_by news j (below choice s + 1) ys)
        (λ e. ap (λ k. k == j) (numbers n (keeps ∙ e)) ∙ same_number kept n i (keeps ∙ e) picked)
        (λ e. other_test kept n i (keeps ∙ e) picked)
        (λ e. cells s (is ∙ e))
        (λ e. ap (λ k. stored_by news j k ys) (let more : below choice s + 1 ≡ suc (below choice s) = omega arith in more ∙ sym (step
        ∙ ap (λ t. cond t (suc (below choice s)) (below choice s)) e)) ∙ rest ∙ ap (renumbered choice) late)
        (λ e. ap (λ k. stored_by news j k ys) (sym (step ∙ ap (λ t. cond t (suc (below choice s)) (below choice s)) e)) ∙ rest ∙ ap (renumbered choice) late)

outs_found : (kept : ℕ → Bool) (m : Numbering) (i s : ℕ) (xs : List Outlet) → ((a : ℕ) → kept a ≡ true → m.number a ≡ below kept a) → kept i ≡ true →
    ((k : ℕ) (o : Outlet) → slice_get xs k ≡ Some o → kept o.op ≡ true) →
    found (λ (o : Outlet). o.op == below kept i) (λ o. o.ty) s (map (moved_output m) xs) ≡ found (λ (o : Outlet). o.op == i) (λ o. o.ty) s xs
outs_found kept m i s [] numbers picked own = refl
outs_found kept m i s (o ∷ xs) numbers picked own =
    let mine = own 0 o refl in
    let test : (m.number o.op == below kept i) ≡ (o.op == i) = ap (λ n. n == below kept i) (numbers o.op mine) ∙ same_number kept o.op i mine picked in
    ap (λ t. cond t (Some (entry s o.ty)) (found (λ (x : Outlet). x.op == below kept i) (λ x. x.ty) (s + 1) (map (moved_output m) xs))) test
    ∙ ap (cond (o.op == i) (Some (entry s o.ty))) (outs_found kept m i (s + 1) xs numbers picked (λ k p there. own (suc k) p there))

-- ---- the place of an operation

get_none : {X : Type 0} (xs : List X) (i : ℕ) → slice_get xs i ≡ None → length xs ≤ i
get_none [] i e = omega arith
get_none (x ∷ xs) zero e = absurd cc
get_none (x ∷ xs) (suc i) e = let rest = get_none xs i e in omega (arith, rest)

cell_case : (m : Numbering) (loads : List Loaded) (k : ℕ) (o : Option Loaded) → m.kept_cell k ≡ true → slice_get loads k ≡ o →
    cell_entry (below m.kept_cell k) (slice_get (chosen m.kept_cell (moved_load m) 0 loads) (below m.kept_cell k)) ≡ renumbered m.kept_cell (cell_entry k o)
cell_case m loads k None picked there =
    let long = length_chosen m.kept_cell (moved_load m) loads in
    let over = below_le m.kept_cell (length loads) k (get_none loads k there) in
    ap (cell_entry (below m.kept_cell k)) (slice_get_past (chosen m.kept_cell (moved_load m) 0 loads) (below m.kept_cell k) (omega (arith, long, over)))
cell_case m loads k (Some l) picked there = ap (cell_entry (below m.kept_cell k)) (chosen_at m.kept_cell (moved_load m) k l loads there picked)

cell_moves : (m : Numbering) (loads : List Loaded) (k : ℕ) → m.kept_cell k ≡ true →
    cell_entry (below m.kept_cell k) (slice_get (chosen m.kept_cell (moved_load m) 0 loads) (below m.kept_cell k)) ≡ renumbered m.kept_cell (cell_entry k
    (slice_get loads k))
cell_moves m loads k picked = cell_case m loads k (slice_get loads k) picked refl

-- what the operation is in the part, by what it is in the graph
pub record Moves (m : Numbering) (p q : Place) : Type 0 where
  pub input : q.input ≡ p.input
  pub load : q.load ≡ renumbered m.kept_cell p.load
  pub store : q.store ≡ renumbered m.kept_cell p.store
  pub out : q.out ≡ p.out

pub place_moves : (m : Numbering) (g : Lists) → IsGraph g → IsClosed m g → KeepsEntries m g → (i : ℕ) → m.kept i ≡ true →
    Moves m (place_of (scope g) i) (place_of (scope (part_of m g)) (below m.kept i))
place_moves m g graph closed keeps i picked = record {
  input = elim (cases_lt i (length g.inputs)) [
    | inl less ↦ ap (λ n. numbered n (slice_get g.inputs n)) (below_all m.kept i (λ k lt. keeps.inputs k (omega (arith, lt, less))))
    | inr after ↦
        let all = below_all m.kept (length g.inputs) keeps.inputs in
        let grown = below_le m.kept (length g.inputs) i after in
        let old : numbered i (slice_get g.inputs i) ≡ None = ap (numbered i) (slice_get_past g.inputs i after) in
        let new : numbered (below m.kept i) (slice_get g.inputs (below m.kept i)) ≡ None = ap (numbered (below m.kept i)) (slice_get_past g.inputs
        (below m.kept i) (omega (arith, all, grown))) in
        new ∙ sym old
  ];
  load = loads_found m.kept_cell m.kept m.number i picked closed.kept_number 0 g.loads (λ k l there. keeps.loads k l there
      ∙ ap m.kept_cell (let e : k ≡ k + 0 = omega arith in e));
  store = stores_found m.kept_cell m.kept m.number i g.loads (chosen m.kept_cell (moved_load m) 0 g.loads) picked closed.kept_number
      (cell_moves m g.loads) 0 g.stores (λ k n there. keeps.stores k n there ∙ ap m.kept_cell (let e : k ≡ k + 0 = omega arith in e));
  out = outs_found m.kept m i 0 g.outputs closed.kept_number picked keeps.outputs;
}
