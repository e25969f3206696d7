-- WholeDrawing: each operation has one box, and each pair of an operand and its reader one line.
use Rattle.std.proofs.Common.{◌≡◌, inl, inr, ℕ, zero, suc, ◌<◌, List, [], ◌∷◌, ◌++◌, length, Some, slice_get, refl, sym, ap, ◌∙◌, arith, length-append}
use Rattle.std.proofs.lemmas.Bool.{cases_order}
use Rattle.std.proofs.lemmas.Option.{slice_get_within}
use Rattle.op_graph.specs.declared.op.Op.{Op}
use Rattle.op_graph.specs.Lists.{Lists}
use Rattle.pictures.specs.declared.layout.BoxPlace.{BoxPlace}
use Rattle.pictures.specs.Arrangement.{place_at}
use Rattle.vcp_outside.specs.Drawing.{each_below}
use Rattle.pictures.specs.Drawn.{box_of, box_drawn, box_at, boxes_below}
use Rattle.pictures.specs.Whole.{DrawsOperations}

-- ---- boxes

module _ {X : Type 0} where
  get_front : (xs ys : List X) (k : ℕ) → k < length xs → slice_get (xs ++ ys) k ≡ slice_get xs k
  get_front [] ys k lt = absurd (omega (arith, lt))
  get_front (x ∷ xs) ys zero lt = refl
  get_front (x ∷ xs) ys (suc k) lt = get_front xs ys k (omega (arith, lt))

  get_behind : (xs ys : List X) → slice_get (xs ++ ys) (length xs) ≡ slice_get ys 0
  get_behind [] ys = refl
  get_behind (x ∷ xs) ys = get_behind xs ys

  many_below : (f : ℕ → List X) (n : ℕ) → ((k : ℕ) → k < n → length (f k) ≡ 1) → length (each_below f n) ≡ n
  many_below f zero one = refl
  many_below f (suc n) one =
      let before : length (each_below f n) ≡ n = many_below f n (λ k lt. one k (omega (arith, lt))) in
      let last : length (f n) ≡ 1 = one n (omega arith) in
      length-append (each_below f n) (f n) ∙ omega (arith, before, last)

  at_below : (f : ℕ → List X) (n k : ℕ) → ((i : ℕ) → i < n → length (f i) ≡ 1) → k < n → slice_get (each_below f n) k ≡ slice_get (f k) 0
  at_below f zero k one lt = absurd (omega (arith, lt))
  at_below f (suc n) k one lt =
      let before : length (each_below f n) ≡ n = many_below f n (λ i l. one i (omega (arith, l))) in
      elim (cases_order k n) [
        | inl e ↦ ap (slice_get (each_below f (suc n))) (e ∙ sym before) ∙ (get_behind (each_below f n) (f n) ∙ ap (λ i. slice_get (f i) 0) (sym e))
        | inr (inl l) ↦ get_front (each_below f n) (f n) k (omega (arith, l, before)) ∙ at_below f n k (λ i m. one i (omega (arith, m))) l
        | inr (inr l) ↦ absurd (omega (arith, l, lt))
      ]

pub there_is : {X : Type 0} (xs : List X) (i : ℕ) → i < length xs → (x : X) × (slice_get xs i ≡ Some x)
there_is [] i lt = absurd (omega (arith, lt))
there_is (x ∷ xs) zero lt = (x, refl)
there_is (x ∷ xs) (suc i) lt = there_is xs i (omega (arith, lt))

module _ {L : Type 0} (g : Lists) (MayLook : ℕ → L → Type 0) (looks : ℕ → L) (places : List BoxPlace)
    (look : (n : ℕ) → n < length g.operations → MayLook n (looks n)) where
  box_is : (n : ℕ) (op : Op) → slice_get g.operations n ≡ Some op → box_at g looks places n ≡ box_of g n (looks n) (place_at places n) op ∷ []
  box_is n op there = ap (box_drawn g n (looks n) (place_at places n)) there

  one_box : (n : ℕ) → n < length g.operations → length (box_at g looks places n) ≡ 1
  one_box n lt = let op = there_is g.operations n lt in ap length (box_is n op.0 op.1)

  pub draws_operations : DrawsOperations g MayLook places (boxes_below g looks places (length g.operations))
  draws_operations = record {
    many = many_below (box_at g looks places) (length g.operations) one_box;
    each = λ n op there.
        let lt = slice_get_within g.operations n op there in (
          box_of g n (looks n) (place_at places n) op,
          at_below (box_at g looks places) (length g.operations) n one_box lt ∙ ap (λ bs. slice_get bs 0) (box_is n op there),
          record { number = refl; operation = refl; own = refl; look = look n lt; place = refl },
        );
  }
