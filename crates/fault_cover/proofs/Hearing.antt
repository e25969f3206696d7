-- Hearing: what is told of faults is one thing; which of it is of an operation; and how many faults there are.
use Rattle.std.proofs.Common.{◌≡◌, ◌≢◌, ⊎_elim, ℕ, zero, suc, ◌+◌, ◌-◌, ◌*◌, ◌<◌, ◌≤◌, ◌^◌, ◌==◌, Bool, true, false, cond, List, [], ◌∷◌, ◌++◌, length}
use Rattle.std.proofs.Common.{map, All}
use Rattle.std.proofs.Common.{slice_get, Option, Some, None, refl, sym, ap, ap₂, subst, ◌∙◌, arith, length-append}
use Rattle.std.specs.List.{filter}
use Rattle.std.proofs.lemmas.Bool.Decides.{eqb_tells}
use Rattle.std.proofs.lemmas.List.{length-map}
use Rattle.std.proofs.lemmas.Nat.{mul-le}
use Rattle.std.proofs.lemmas.List.Elements.{All-filter, All-head, All-tail, filter-append}
use Rattle.vcp_base.specs.declared.kind.Kind.{Kind}
use Rattle.vcp_base.specs.Kinds.{operands}
use Rattle.vcp_base.specs.Spellings.{kinds}
use Rattle.op_graph.specs.declared.op.Op.{Op}
use Rattle.op_graph.specs.Lists.{Lists}
use Rattle.op_graph.specs.Rules.{IsPart, is_out}
use Rattle.fault_script.specs.declared.act.Act.TheVariants as act
use Rattle.fault_sites.specs.Sites.{each_below, from, from_one, may_replace, may_stand, operator, operator_one, stale}
use Rattle.fault_cover.specs.declared.class.CoverClass.{CoverClass}
use Rattle.fault_cover.specs.declared.class.CoverClass.TheVariants as cover
use Rattle.fault_cover.specs.declared.disturbance.Disturbance.{Disturbance}
use Rattle.fault_cover.specs.declared.disturbance.Disturbance.TheVariants as disturbance
use Rattle.fault_cover.specs.Classes.{Single, disturbances, fault_at, late_one, lates_at, may_be_late, of_classes, of_classes_at, singles, singles_at}
use Rattle.fault_cover.specs.Classes.{singles_of}
use Rattle.fault_cover.specs.CoverText.{AreHeard, Covered, Heard, IsCovered, heard_at, heard_of}
use Rattle.fault_cover.specs.Leftovers.{AreCovered}
use Rattle.fault_cover.specs.Sources.{readings}
use Rattle.fault_cover.specs.Telling.{Subject, Tells}
use Rattle.fault_cover.proofs.Below.{length_below, nothing_below, nothing_to}
use Rattle.fault_cover.proofs.Enumerating.{few_operands}
use Rattle.fault_cover.proofs.Exclusive.{tells_one}
use Rattle.fault_cover.proofs.Going.{heard_both, heard_none}
use Rattle.fault_cover.proofs.Placing.{readings_most}

-- ---- one thing is told of each fault

module _ (s : Subject) where
  abbrev IsTold : Heard → Type 0
  IsTold h = Tells s h.fault.op h.fault.does h.told

  one_heard : (h j : Heard) → h.fault ≡ j.fault → IsTold h → IsTold j → h ≡ j
  one_heard h j same one other =
      let told = tells_one s h.fault.op h.fault.does h.told j.told one (subst (λ (f : Single). Tells s f.op f.does j.told) (sym same) other) in
      ap₂ (λ (f : Single) x. let made : Heard = record { fault = f; told = x } in made) same told

  all_heard : (xs ys : List Heard) → map (λ (h : Heard). h.fault) xs ≡ map (λ (h : Heard). h.fault) ys → All IsTold xs → All IsTold ys → xs ≡ ys
  all_heard [] [] e one other = refl
  all_heard [] (j ∷ ys) e one other = absurd cc
  all_heard (h ∷ xs) [] e one other = absurd cc
  all_heard (h ∷ xs) (j ∷ ys) e one other =
      let head : h.fault ≡ j.fault = cc in
      let tail : map (λ (h : Heard). h.fault) xs ≡ map (λ (h : Heard). h.fault) ys = cc in
      ap₂ (λ x zs. x ∷ zs) (one_heard h j head (All-head IsTold h xs one) (All-head IsTold j ys other))
      (all_heard xs ys tail (All-tail IsTold h xs one) (All-tail IsTold j ys other))

  pub heard_once : (faults : List Single) (one other : List Heard) → AreHeard s faults one → AreHeard s faults other → one ≡ other
  heard_once faults one other first second = all_heard one other (first.faults_are ∙ sym second.faults_are) first.told second.told

-- ---- of one operation

chosen_one : (h : Heard) (kept : List Heard) (faults : List Single) (b : Bool) → map (λ (x : Heard). x.fault) kept ≡ faults
    → map (λ (x : Heard). x.fault) (cond b (h ∷ kept) kept) ≡ cond b (h.fault ∷ faults) faults
chosen_one h kept faults true rest = ap (λ zs. h.fault ∷ zs) rest
chosen_one h kept faults false rest = rest

chosen_faults : (k : ℕ) (xs : List Heard)
    → map (λ (h : Heard). h.fault) (filter (λ (h : Heard). h.fault.op == k) xs) ≡ filter (λ (f : Single). f.op == k) (map (λ (h : Heard). h.fault) xs)
chosen_faults k [] = refl
chosen_faults k (h ∷ xs) =
    chosen_one h (filter (λ (x : Heard). x.fault.op == k) xs) (filter (λ (f : Single). f.op == k) (map (λ (x : Heard). x.fault) xs)) (h.fault.op == k)
    (chosen_faults k xs)

all_there : (k i : ℕ) (ds : List Disturbance) → (i == k) ≡ true → filter (λ (f : Single). f.op == k) (map (fault_at i) ds) ≡ map (fault_at i) ds
all_there k i [] is = refl
all_there k i (d ∷ ds) is =
    ap (λ b. cond b (fault_at i d ∷ filter (λ (f : Single). f.op == k) (map (fault_at i) ds)) (filter (λ (f : Single). f.op == k) (map (fault_at i) ds))) is
    ∙ ap (λ zs. fault_at i d ∷ zs) (all_there k i ds is)

none_there : (k i : ℕ) (ds : List Disturbance) → (i == k) ≡ false → filter (λ (f : Single). f.op == k) (map (fault_at i) ds) ≡ []
none_there k i [] is = refl
none_there k i (d ∷ ds) is =
    ap (λ b. cond b (fault_at i d ∷ filter (λ (f : Single). f.op == k) (map (fault_at i) ds)) (filter (λ (f : Single). f.op == k) (map (fault_at i) ds))) is
    ∙ none_there k i ds is

module _ (c : CoverClass) (g : Lists) (k : ℕ) where
  abbrev of_k : List Single → List Single
  of_k xs = filter (λ (f : Single). f.op == k) xs

  all_at : (i : ℕ) (o : Option Op) → (i == k) ≡ true → of_k (singles_at c g i o) ≡ singles_at c g i o
  all_at i None is = refl
  all_at i (Some op) is = all_there k i (disturbances c g i op) is

  none_at : (i : ℕ) (o : Option Op) → (i == k) ≡ false → of_k (singles_at c g i o) ≡ []
  none_at i None is = refl
  none_at i (Some op) is = none_there k i (disturbances c g i op) is

  of_k_below : (n : ℕ) → of_k (each_below (λ i. singles_of c g i) n) ≡ each_below (λ i. of_k (singles_of c g i)) n
  of_k_below zero = refl
  of_k_below (suc n) =
      filter-append (λ (f : Single). f.op == k) (each_below (λ i. singles_of c g i) n) (singles_of c g n)
      ∙ ap (λ xs. xs ++ of_k (singles_of c g n)) (of_k_below n)

  not_it : (i : ℕ) → i ≢ k → (i == k) ≡ false
  not_it i differs = ⊎_elim
      (λ (e : ((i == k) ≡ true) × (i ≡ k)). absurd (differs e.1)) (λ (e : ((i == k) ≡ false) × (i ≢ k)). e.0) (eqb_tells i k)

  it : (k == k) ≡ true
  it = ⊎_elim (λ (e : ((k == k) ≡ true) × (k ≡ k)). e.0) (λ (e : ((k == k) ≡ false) × (k ≢ k)). absurd (e.1 refl)) (eqb_tells k k)

  pub of_k_singles : k < length g.operations → of_k (singles c g) ≡ singles_of c g k
  of_k_singles inside =
      let f : ℕ → List Single = λ i. of_k (singles_of c g i) in
      of_k_below (length g.operations)
      ∙ nothing_to f (suc k) (length g.operations) (omega (arith, inside)) (λ i low high. none_at i (slice_get g.operations i) (not_it i (λ e. omega (
        arith,
        low,
        e,
      ))))
      ∙ ap (λ xs. xs ++ f k) (nothing_below f k (λ i lt. none_at i (slice_get g.operations i) (not_it i (λ e. omega (arith, lt, e)))))
      ∙ all_at k (slice_get g.operations k) it

of_k_classes : (classes : List CoverClass) (g : Lists) (k : ℕ) → k < length g.operations
    → filter (λ (f : Single). f.op == k) (of_classes classes g) ≡ of_classes_at classes g k
of_k_classes [] g k inside = refl
of_k_classes (c ∷ classes) g k inside =
    filter-append (λ (f : Single). f.op == k) (singles c g) (of_classes classes g)
    ∙ ap₂ (λ xs ys. xs ++ ys) (of_k_singles c g k inside) (of_k_classes classes g k inside)

chosen_heard : (s : Subject) (k : ℕ) (faults : List Single) (heard : List Heard) → AreHeard s faults heard
    → AreHeard s (filter (λ (f : Single). f.op == k) faults) (filter (λ (h : Heard). h.fault.op == k) heard)
chosen_heard s k faults heard are = record {
  faults_are = chosen_faults k heard ∙ ap (filter (λ (f : Single). f.op == k)) are.faults_are;
  told = All-filter (λ (h : Heard). h.fault.op == k) (IsTold s) heard are.told;
}

of_all : (s : Subject) (covered : List Covered) → All (IsCovered s) covered → AreHeard s (of_classes (map (λ (c : Covered). c.class) covered) s.graph)
    (heard_of covered)
of_all s [] all = heard_none
of_all s (c ∷ covered) all =
    heard_both (singles c.class s.graph) (of_classes (map (λ (c : Covered). c.class) covered) s.graph) c.heard (heard_of covered)
    (All-head (IsCovered s) c covered all) (of_all s covered (All-tail (IsCovered s) c covered all))

-- of all these classes
pub heard_of_are : (s : Subject) (classes : List CoverClass) (covered : List Covered) → AreCovered s classes covered
    → AreHeard s (of_classes classes s.graph) (heard_of covered)
heard_of_are s classes covered are =
    subst (λ cs. AreHeard s (of_classes cs s.graph) (heard_of covered)) are.classes_are (of_all s covered are.all)

pub heard_at_are : (s : Subject) (classes : List CoverClass) (covered : List Covered) (k : ℕ) → k < length s.graph.operations → AreCovered s classes covered
    → AreHeard s (of_classes_at classes s.graph k) (heard_at covered k)
heard_at_are s classes covered k inside are =
    subst (λ xs. AreHeard s xs (heard_at covered k)) (of_k_classes classes s.graph k inside)
    (chosen_heard s k (of_classes classes s.graph) (heard_of covered) (heard_of_are s classes covered are))

-- ---- how many

one_if : {X : Type 0} (b : Bool) (x : X) → length (cond b (x ∷ []) []) ≤ 1
one_if true x = omega arith
one_if false x = omega arith

few_from : (op : Op) (j r : ℕ) (o : Option Op) → length (from_one op j r o) ≤ 1
few_from op j r None = omega arith
few_from op j r (Some source) = one_if (may_replace op j r source) (act.OperandFrom j r)

few_late : (g : Lists) (op : Op) (j r : ℕ) (o : Option Op) → length (late_one g op j r o) ≤ 1
few_late g op j r None = omega arith
few_late g op j r (Some source) = one_if (may_be_late g op j r source) (disturbance.Late j r)

few_operator : (k : Kind) (o : Option Kind) → length (operator_one k o) ≤ 1
few_operator k None = omega arith
few_operator k (Some other) = one_if (may_stand k other) (act.Operator other)

few_if : {X : Type 0} (b : Bool) (xs : List X) (most : ℕ) → length xs ≤ most → length (cond b [] xs) ≤ most
few_if true xs most h = omega arith
few_if false xs most h = h

three_times : (n m most : ℕ) → n ≤ 3 → m ≤ most → n * m ≤ 3 * most
three_times n m most few low = mul-le n m 3 most few low

module _ (g : Lists) (part : IsPart g) (k : ℕ) (inside : k < length g.operations) (op : Op) where
  few_disturbances : (c : CoverClass) → length (disturbances c g k op) ≤ 2 ^ 33
  few_disturbances cover.Add =
      let few = length_below (λ j. disturbance.AddToOperand j ∷ []) (operands op.kind) 1 (λ i lt. omega arith) in
      omega (arith, few, few_operands op.kind)
  few_disturbances cover.Rest =
      let few = length_below (λ i. disturbance.AddToRest (i + 1) ∷ []) (length (readings g k) - 2) 1 (λ i lt. omega arith) in
      let most = readings_most g k part in
      few_if (is_out op.kind) (each_below (λ i. disturbance.AddToRest (i + 1) ∷ []) (length (readings g k) - 2)) (2 ^ 33) (omega (arith, few, most))
  few_disturbances cover.Stale =
      let few = length_below (λ j. act.OperandStale j ∷ []) (operands op.kind) 1 (λ i lt. omega arith) in
      omega (arith, few, few_operands op.kind, length-map (stale op) disturbance.Does)
  few_disturbances cover.Skip = omega arith
  few_disturbances cover.From =
      let few = length_below (λ j. each_below (λ r. from_one op j r (slice_get g.operations r)) k) (operands op.kind) (k * 1)
      (λ j lt. length_below (λ r. from_one op j r (slice_get g.operations r)) k 1 (λ r low. few_from op j r (slice_get g.operations r))) in
      let most = three_times (operands op.kind) (k * 1) 65536 (few_operands op.kind) (let n = part.few_operations in omega (arith, n, inside)) in
      omega (arith, few, most, length-map (from g k op) disturbance.Does)
  few_disturbances cover.Late =
      let few = length_below (λ j. lates_at g k op j) (operands op.kind) ((length g.operations - k) * 1)
      (λ j lt. length_below (λ i. late_one g op j (k + i) (slice_get g.operations (k + i))) (length g.operations - k) 1
      (λ i low. few_late g op j (k + i) (slice_get g.operations (k + i)))) in
      let most = three_times (operands op.kind) ((length g.operations - k) * 1) 65536 (few_operands op.kind) (let n = part.few_operations in omega (
        arith,
        n,
      )) in
      omega (arith, few, most)
  few_disturbances cover.Operator =
      let few = length_below (λ code. operator_one op.kind (slice_get kinds code)) 19 1 (λ code lt. few_operator op.kind (slice_get kinds code)) in
      omega (arith, few, length-map (operator op) disturbance.Does)

few_at : (c : CoverClass) (g : Lists) (part : IsPart g) (k : ℕ) → k < length g.operations → (o : Option Op) → length (singles_at c g k o) ≤ 2 ^ 33
few_at c g part k inside None = omega arith
few_at c g part k inside (Some op) = let few = few_disturbances g part k inside op c in omega (arith, few, length-map (disturbances c g k op) (fault_at k))

few_singles : (c : CoverClass) (g : Lists) → IsPart g → length (singles c g) ≤ 2 ^ 50
few_singles c g part =
    let few = length_below (λ k. singles_of c g k) (length g.operations) (2 ^ 33) (λ k lt. few_at c g part k lt (slice_get g.operations k)) in
    let n = part.few_operations in
    omega (arith, few, n)

many_heard : (s : Subject) → IsPart s.graph → (covered : List Covered) → All (IsCovered s) covered → length (heard_of covered) ≤ length covered * 2 ^ 50
many_heard s part [] all = omega arith
many_heard s part (c ∷ covered) all =
    let one = All-head (IsCovered s) c covered all in
    let long : length c.heard ≡ length (singles c.class s.graph) = sym (length-map c.heard (λ (h : Heard). h.fault)) ∙ ap length one.faults_are in
    let more = many_heard s part covered (All-tail (IsCovered s) c covered all) in
    omega (arith, long, more, few_singles c.class s.graph part, length-append c.heard (heard_of covered))

-- of at most seven classes there are few
pub few_heard : (s : Subject) → IsPart s.graph → (classes : List CoverClass) (covered : List Covered) → map (λ (c : Covered). c.class) covered ≡ classes
    → All (IsCovered s) covered → length classes ≤ 7 → length (heard_of covered) < 2 ^ 62
few_heard s part classes covered are all few =
    let long : length covered ≡ length classes = sym (length-map covered (λ (c : Covered). c.class)) ∙ ap length are in
    let most = many_heard s part covered all in
    omega (arith, few, long, most)
