-- Queueing: marks, and the queue of those that are marked.
use Rattle.std.proofs.Common.{◌≡◌, ◌⊎◌, ⊎_elim, inl, inr, ℕ, zero, suc, ◌+◌, ◌<◌, ◌≤◌, Bool, true, false, cond, List, [], ◌∷◌, ◌++◌, length, set, replicate, take}
use Rattle.std.proofs.Common.{slice_get, Some, refl, sym, ap, subst, ◌∙◌, length-append, arith}
use Rattle.std.proofs.lemmas.List.{length-set}
use Rattle.graph_passes.specs.Tables.{marked}
use Rattle.graph_passes.specs.Marking.{marks_in, Queues, Grows}

-- what was written in a slice that a list lent is the list
front : (xs ys : List Bool) → take (length xs) (xs ++ ys) ≡ xs
front [] ys = refl
front (x ∷ xs) ys = ap (λ l. x ∷ l) (front xs ys)

pub given_back : (n : ℕ) (xs ys : List Bool) → n ≡ length xs → take n (xs ++ ys) ≡ xs
given_back n xs ys e = ap (λ k. take k (xs ++ ys)) e ∙ front xs ys

-- ---- one more mark

set_keeps : (marks : List Bool) (n k : ℕ) → marked marks k ≡ true → marked (set marks n true) k ≡ true
set_keeps [] n k h = absurd cc
set_keeps (m ∷ marks) zero zero h = refl
set_keeps (m ∷ marks) zero (suc k) h = h
set_keeps (m ∷ marks) (suc n) zero h = h
set_keeps (m ∷ marks) (suc n) (suc k) h = set_keeps marks n k h

set_sound : (marks : List Bool) (n k : ℕ) → marked (set marks n true) k ≡ true → (marked marks k ≡ true) ⊎ (k ≡ n)
set_sound [] n k h = absurd cc
set_sound (m ∷ marks) zero zero h = inr refl
set_sound (m ∷ marks) zero (suc k) h = inl h
set_sound (m ∷ marks) (suc n) zero h = inl h
set_sound (m ∷ marks) (suc n) (suc k) h = ⊎_elim (λ (e : marked marks k ≡ true). inl e) (λ (e : k ≡ n). inr (ap suc e)) (set_sound marks n k h)

set_marks : (marks : List Bool) (n : ℕ) → n < length marks → marked (set marks n true) n ≡ true
set_marks [] n lt = absurd (omega arith)
set_marks (m ∷ marks) zero lt = refl
set_marks (m ∷ marks) (suc n) lt = set_marks marks n (omega (arith, lt))

one_more_in : (m : Bool) (x y : ℕ) → x ≡ suc y → cond m (suc x) x ≡ suc (cond m (suc y) y)
one_more_in true x y e = ap suc e
one_more_in false x y e = e

set_count : (marks : List Bool) (n : ℕ) → n < length marks → marked marks n ≡ false → marks_in (set marks n true) ≡ suc (marks_in marks)
set_count [] n lt h = absurd (omega arith)
set_count (m ∷ marks) zero lt h = let same : m ≡ false = h in ap (λ b. suc (cond b (suc (marks_in marks)) (marks_in marks))) (sym same)
set_count (m ∷ marks) (suc n) lt h = one_more_in m (marks_in (set marks n true)) (marks_in marks) (set_count marks n (omega (arith, lt)) h)

few_by : (m : Bool) (x n : ℕ) → x ≤ n → cond m (suc x) x ≤ suc n
few_by true x n le = omega (arith, le)
few_by false x n le = omega (arith, le)

pub marks_few : (marks : List Bool) → marks_in marks ≤ length marks
marks_few [] = omega arith
marks_few (m ∷ marks) = few_by m (marks_in marks) (length marks) (marks_few marks)

pub marked_inside : (marks : List Bool) (k : ℕ) → marked marks k ≡ true → k < length marks
marked_inside [] k h = absurd cc
marked_inside (m ∷ marks) zero h = omega arith
marked_inside (m ∷ marks) (suc k) h = let rest = marked_inside marks k h in omega (arith, rest)

-- ---- the queue

pub get_longer : {X : Type 0} (xs ys : List X) (p : ℕ) (x : X) → slice_get xs p ≡ Some x → slice_get (xs ++ ys) p ≡ Some x
get_longer [] ys p x there = absurd cc
get_longer (y ∷ xs) ys zero x there = there
get_longer (y ∷ xs) ys (suc p) x there = get_longer xs ys p x there

pub get_last : {X : Type 0} (xs : List X) (x : X) → slice_get (xs ++ x ∷ []) (length xs) ≡ Some x
get_last [] x = refl
get_last (y ∷ xs) x = get_last xs x

pub get_pushed : {X : Type 0} (xs : List X) (p : ℕ) (x y : X) → slice_get (xs ++ x ∷ []) p ≡ Some y → (slice_get xs p ≡ Some y) ⊎ (y ≡ x)
get_pushed [] zero x y there = inr (let same : x ≡ y = cc in sym same)
get_pushed [] (suc p) x y there = absurd cc
get_pushed (z ∷ xs) zero x y there = inl there
get_pushed (z ∷ xs) (suc p) x y there = get_pushed xs p x y there

queues_more : (marks : List Bool) (queue : List ℕ) (n : ℕ) → n < length marks → marked marks n ≡ false → Queues marks queue
    → Queues (set marks n true) (queue ++ n ∷ [])
queues_more marks queue n lt free q = record {
  at = λ k now. ⊎_elim
      (λ (h : marked marks k ≡ true). let p = q.at k h in (p.0, get_longer queue (n ∷ []) p.0 k p.1))
      (λ (e : k ≡ n). (length queue, get_last queue n ∙ ap Some (sym e)))
      (set_sound marks n k now);
  are = λ p k there. ⊎_elim
      (λ (h : slice_get queue p ≡ Some k). set_keeps marks n k (q.are p k h))
      (λ (e : k ≡ n). subst (λ j. marked (set marks n true) j ≡ true) (sym e) (set_marks marks n lt))
      (get_pushed queue p n k there);
  count =
      let longer : length (queue ++ n ∷ []) ≡ length queue + 1 = length-append queue (n ∷ []) in
      let more = set_count marks n lt free in
      let same = q.count in
      omega (arith, longer, more, same);
}

-- where an operation isn't marked, the queue is shorter than the marks are many
pub unmarked_short : (marks : List Bool) (queue : List ℕ) (n : ℕ) → n < length marks → marked marks n ≡ false → Queues marks queue
    → length queue < length marks
unmarked_short marks queue n lt free q =
    let more = set_count marks n lt free in
    let few = marks_few (set marks n true) in
    let many = length-set marks n true in
    let same = q.count in
    omega (arith, more, few, many, same)

pub grows_by_one : (marks : List Bool) (queue : List ℕ) (n : ℕ) → n < length marks → marked marks n ≡ false → Queues marks queue →
    Grows (λ k. k ≡ n) marks queue (set marks n true) (queue ++ n ∷ [])
grows_by_one marks queue n lt free q = record {
  many = length-set marks n true;
  kept = λ k h. set_keeps marks n k h;
  sound = λ k h. set_sound marks n k h;
  order = λ p k there. get_longer queue (n ∷ []) p k there;
  lists = queues_more marks queue n lt free q;
}

pub grows_by_none : (P : ℕ → Type 0) (marks : List Bool) (queue : List ℕ) → Queues marks queue → Grows P marks queue marks queue
grows_by_none P marks queue q = record {
  many = refl;
  kept = λ k h. h;
  sound = λ k h. inl h;
  order = λ p k there. there;
  lists = q;
}

-- the same growth, of a larger set
pub grows_as : (P Q : ℕ → Type 0) (a : List Bool) (b : List ℕ) (c : List Bool) (d : List ℕ) → ((k : ℕ) → P k → Q k) → Grows P a b c d → Grows Q a b c d
grows_as P Q a b c d all g = record {
  many = g.many;
  kept = g.kept;
  sound = λ k h. ⊎_elim (λ (was : marked a k ≡ true). inl was) (λ (p : P k). inr (all k p)) (g.sound k h);
  order = g.order;
  lists = g.lists;
}

-- one growth after another
pub grows_on : (P Q R : ℕ → Type 0) (a : List Bool) (b : List ℕ) (c : List Bool) (d : List ℕ) (e : List Bool) (f : List ℕ) → Grows P a b c d → Grows Q c d e f →
    ((k : ℕ) → P k → (marked a k ≡ true) ⊎ R k) → ((k : ℕ) → Q k → (marked a k ≡ true) ⊎ R k) → Grows R a b e f
grows_on P Q R a b c d e f first second by_first by_second = record {
  many = second.many ∙ first.many;
  kept = λ k h. second.kept k (first.kept k h);
  sound = λ k h. ⊎_elim
      (λ (now : marked c k ≡ true). ⊎_elim (λ (was : marked a k ≡ true). inl was) (λ (p : P k). by_first k p) (first.sound k now))
      (λ (q : Q k). by_second k q)
      (second.sound k h);
  order = λ p k there. second.order p k (first.order p k there);
  lists = second.lists;
}

-- ---- at first

none_marked : (n k : ℕ) → marked (replicate n false) k ≡ true → ⊥
none_marked zero k e = absurd cc
none_marked (suc n) zero e = absurd cc
none_marked (suc n) (suc k) e = none_marked n k e

none_counted : (n : ℕ) → marks_in (replicate n false) ≡ 0
none_counted zero = refl
none_counted (suc n) = none_counted n

pub unmarked : (n : ℕ) (marks : List Bool) (k : ℕ) → marks ≡ replicate n false → marked marks k ≡ true → ⊥
unmarked n marks k none h = none_marked n k (subst (λ m. marked m k ≡ true) none h)

nothing_there : (p k : ℕ) → slice_get [] p ≡ Some k → ⊥
nothing_there p k e = absurd cc

pub queues_none : (n : ℕ) (marks : List Bool) (queue : List ℕ) → marks ≡ replicate n false → queue ≡ [] → Queues marks queue
queues_none n marks queue none empty = record {
  at = λ k h. absurd (unmarked n marks k none h);
  are = λ p k there. absurd (nothing_there p k (subst (λ q. slice_get q p ≡ Some k) empty there));
  count = ap length empty ∙ sym (ap marks_in none ∙ none_counted n);
}
