-- Rising: lists whose numbers rise, and the chosen entries of one.
use Rattle.std.proofs.Common.{◌≡◌, ℕ, zero, suc, ◌+◌, ◌-◌, ◌<◌, ◌≤◌, ◌==◌, Bool, true, false, cond, List, [], ◌∷◌, ◌++◌, length, take, slice_get}
use Rattle.std.proofs.Common.{slice_index_or, All, Some, inl, inr, refl, sym, ap, subst, ◌∙◌, append_assoc, length-append, arith}
use Rattle.std.proofs.lemmas.Bool.Decides.{nat_tests}
use Rattle.std.proofs.lemmas.Bool.{ne_eqb, cases_lt}
use Rattle.std.proofs.lemmas.List.{append-nil}
use Rattle.std.proofs.lemmas.List.Elements.{All-nil, All-cons}
use Rattle.op_graph.specs.Rules.{Each}
use Rattle.graph_passes.specs.Part.{below, chosen}
use Rattle.graph_passes.proofs.Chosen.{below_grows}

-- ---- how many are chosen

pub below_le : (choice : ℕ → Bool) (a b : ℕ) → a ≤ b → below choice a ≤ below choice b
below_le choice a b le = let e : (b - a) + a ≡ b = omega arith in subst (λ n. below choice a ≤ below choice n) e (below_grows choice a (b - a))

pub below_next : (choice : ℕ → Bool) (a : ℕ) → choice a ≡ true → below choice (suc a) ≡ suc (below choice a)
below_next choice a picked = ap (λ t. cond t (suc (below choice a)) (below choice a)) picked

pub below_lt : (choice : ℕ → Bool) (a b : ℕ) → choice a ≡ true → a < b → below choice a < below choice b
below_lt choice a b picked lt =
    let step = below_next choice a picked in
    let rest = below_le choice (suc a) b (omega (arith, lt)) in
    omega (arith, step, rest)

pub below_all : (choice : ℕ → Bool) (n : ℕ) → ((i : ℕ) → i < n → choice i ≡ true) → below choice n ≡ n
below_all choice zero all = refl
below_all choice (suc n) all = let rest = below_all choice n (λ i lt. all i (omega (arith, lt))) in below_next choice n (all n (omega arith)) ∙ ap suc rest

pub below_few : (choice : ℕ → Bool) (n : ℕ) → below choice n ≤ n
below_few choice zero = omega arith
below_few choice (suc n) = few_by (choice n) (below choice n) n (below_few choice n)
  where
    few_by : (b : Bool) (k n : ℕ) → k ≤ n → cond b (suc k) k ≤ suc n
    few_by true k n le = omega (arith, le)
    few_by false k n le = omega (arith, le)

-- two that are chosen have one number exactly where they are one
pub same_number : (choice : ℕ → Bool) (a b : ℕ) → choice a ≡ true → choice b ≡ true → (below choice a == below choice b) ≡ (a == b)
same_number choice a b x y = elim (cases_lt a b) [
  | inl less ↦
      let lt = below_lt choice a b x less in
      ne_eqb (below choice a) (below choice b) (λ e. omega (arith, lt, e)) ∙ sym (ne_eqb a b (λ e. omega (arith, less, e)))
  | inr past ↦ elim (cases_lt b a) [
    | inl less ↦
        let lt = below_lt choice b a y less in
        ne_eqb (below choice a) (below choice b) (λ e. omega (arith, lt, e)) ∙ sym (ne_eqb a b (λ e. omega (arith, less, e)))
    | inr back ↦
        let e : a ≡ b = omega (arith, past, back) in
        subst (λ n. (below choice a == below choice n) ≡ (a == n)) e (self (below choice a) ∙ sym (self a))
  ]
]
  where
    self : (n : ℕ) → (n == n) ≡ true
    self n = grind (arith, nat_tests)

length_by : {X : Type 0} (y : X) (ys : List X) (b : Bool) (s t n : ℕ) → t ≡ cond b (suc s) s → t + length ys ≡ n → s + length (cond b (y ∷ ys) ys) ≡ n
length_by y ys true s t n e h = omega (arith, e, h)
length_by y ys false s t n e h = omega (arith, e, h)

length_from : {X Y : Type 0} (choice : ℕ → Bool) (f : X → Y) (s : ℕ) (xs : List X) →
    below choice s + length (chosen choice f s xs) ≡ below choice (length xs + s)
length_from choice f s [] = let e : 0 + s ≡ s = omega arith in subst (λ n. below choice s + 0 ≡ below choice n) (sym e) (omega arith)
length_from choice f s (x ∷ xs) =
    let e : length xs + suc s ≡ suc (length xs) + s = omega arith in
    length_by (f x) (chosen choice f (suc s) xs) (choice s) (below choice s) (below choice (suc s)) (below choice (suc (length xs) + s)) refl
    (length_from choice f (suc s) xs ∙ ap (below choice) e)

pub length_chosen : {X Y : Type 0} (choice : ℕ → Bool) (f : X → Y) (xs : List X) → length (chosen choice f 0 xs) ≡ below choice (length xs)
length_chosen choice f xs =
    let h = length_from choice f 0 xs in
    let e : length xs + 0 ≡ length xs = omega arith in
    let g : below choice (length xs + 0) ≡ below choice (length xs) = ap (below choice) e in
    omega (arith, h, g)

-- ---- where a chosen entry comes from

pub record Origin {X Y : Type 0} (choice : ℕ → Bool) (f : X → Y) (s : ℕ) (xs : List X) (j : ℕ) (y : Y) : Type 0 where
  pub place : ℕ
  pub entry : X
  pub there : slice_get xs place ≡ Some entry
  pub picked : choice (place + s) ≡ true
  pub is : y ≡ f entry
  pub number : below choice s + j ≡ below choice (place + s)

origin_later : {X Y : Type 0} (choice : ℕ → Bool) (f : X → Y) (s j i : ℕ) (x : X) (xs : List X) (y : Y) → below choice s + j ≡ below choice (suc s) + i →
    Origin choice f (suc s) xs i y → Origin choice f s (x ∷ xs) j y
origin_later choice f s j i x xs y e o =
    let same : o.place + suc s ≡ suc o.place + s = omega arith in
    record {
      place = suc o.place;
      entry = o.entry;
      there = o.there;
      picked = subst (λ n. choice n ≡ true) same o.picked;
      is = o.is;
      number = e ∙ o.number
          ∙ ap (below choice) same;
    }

origin_by : {X Y : Type 0} (choice : ℕ → Bool) (f : X → Y) (s j : ℕ) (x : X) (xs : List X) (y : Y) (b : Bool) → choice s ≡ b → ((i : ℕ) →
    slice_get (chosen choice f (suc s) xs) i ≡ Some y → Origin choice f (suc s) xs i y) →
    slice_get (cond b (f x ∷ chosen choice f (suc s) xs) (chosen choice f (suc s) xs)) j ≡ Some y → Origin choice f s (x ∷ xs) j y
origin_by choice f s zero x xs y true is rest there =
    let start : s ≡ 0 + s = omega arith in
    record {
      place = 0;
      entry = x;
      there = refl;
      picked = subst (λ n. choice n ≡ true) start is;
      is = some_is
          (sym there);
      number = let zero_more : below choice s + 0 ≡ below choice s = omega arith in zero_more ∙ ap (below choice) start;
    }
  where
    some_is : {Z : Type 0} {a b : Z} → Some a ≡ Some b → a ≡ b
    some_is e = cc
origin_by choice f s (suc j) x xs y true is rest there =
    let next = below_next choice s is in
    origin_later choice f s (suc j) j x xs y (omega (arith, next)) (rest j there)
origin_by choice f s j x xs y false is rest there =
    let none : below choice (suc s) ≡ below choice s = ap (λ t. cond t (suc (below choice s)) (below choice s)) is in
    origin_later choice f s j j x xs y (omega (arith, none)) (rest j there)

pub origin_from : {X Y : Type 0} (choice : ℕ → Bool) (f : X → Y) (s j : ℕ) (xs : List X) (y : Y) → slice_get (chosen choice f s xs) j ≡ Some y →
    Origin choice f s xs j y
origin_from choice f s j [] y there = absurd cc
origin_from choice f s j (x ∷ xs) y there = origin_by choice f s j x xs y (choice s) refl (λ i h. origin_from choice f (suc s) i xs y h) there

-- the same, for a list that is numbered from 0
pub record From {X Y : Type 0} (choice : ℕ → Bool) (f : X → Y) (xs : List X) (j : ℕ) (y : Y) : Type 0 where
  pub place : ℕ
  pub entry : X
  pub there : slice_get xs place ≡ Some entry
  pub picked : choice place ≡ true
  pub is : y ≡ f entry
  pub number : j ≡ below choice place

pub origin : {X Y : Type 0} (choice : ℕ → Bool) (f : X → Y) (xs : List X) (j : ℕ) (y : Y) → slice_get (chosen choice f 0 xs) j ≡ Some y → From choice f xs j y
origin choice f xs j y there =
    let o = origin_from choice f 0 j xs y there in
    let same : o.place + 0 ≡ o.place = omega arith in
    let start : j ≡ below choice 0 + j = omega arith in
    record {
      place = o.place;
      entry = o.entry;
      there = o.there;
      picked = subst (λ n. choice n ≡ true) same o.picked;
      is = o.is;
      number = start ∙ o.number
          ∙ ap (below choice) same;
    }

-- ---- numbers that rise

abbrev pub Ascending : {X : Type 0} → (X → ℕ) → ℕ → List X → Type 0
Ascending f k [] = Unit {0}
Ascending f k (x ∷ xs) = (k ≤ f x) × Ascending f (suc (f x)) xs

last_of_push : {X : Type 0} (xs : List X) (x d : X) → slice_index_or (xs ++ x ∷ []) (length xs) d ≡ x
last_of_push [] x d = refl
last_of_push (y ∷ xs) x d = last_of_push xs x d

all_last : {X : Type 0} (f : X → ℕ) (z : ℕ) (xs : List X) (x : X) → All (λ w. f w < z) (xs ++ x ∷ []) → f x < z
all_last f z xs x all = subst (λ w. f w < z) (last_of_push xs x x) (all (length xs) x (simp length-append (omega arith)))

pub ascending_of : {X : Type 0} (P : List X → X → Type 0) (f : X → ℕ) (k : ℕ) (before xs : List X) → ((b : List X) (x : X) → P b x →
    All (λ w. f w < f x) b) → ((z : ℕ) → All (λ w. f w < z) before → k ≤ z) → Each P before xs → Ascending f k xs
ascending_of P f k before [] rises over h = tt
ascending_of P f k before (x ∷ xs) rises over h = (
  over (f x) (rises before x h.0),
  ascending_of P f (suc (f x)) (before ++ x ∷ []) xs rises (λ z all. let last = all_last f z before x all in
      omega (arith, last)) h.1,
)

ascending_less : {X : Type 0} (f : X → ℕ) (k m : ℕ) (xs : List X) → m ≤ k → Ascending f k xs → Ascending f m xs
ascending_less f k m [] le h = tt
ascending_less f k m (x ∷ xs) le h = (let first = h.0 in omega (arith, le, first), h.1)

ascending_by : {X Y : Type 0} (kept : ℕ → Bool) (g : X → Y) (h : Y → ℕ) (k n : ℕ) (x : X) (ys : List Y) (b : Bool) → k ≤ n →
    Ascending h (below kept (suc n)) ys → (b ≡ true → (kept n ≡ true) × (h (g x) ≡ below kept n)) → Ascending h (below kept k) (cond b (g x ∷ ys) ys)
ascending_by kept g h k n x ys true le rest own =
    let mine = own refl in
    let first = below_le kept k n le in
    let next : below kept (suc n) ≡ suc (h (g x)) = below_next kept n mine.0 ∙ ap suc (sym mine.1) in
    (let is = mine.1 in omega (arith, first, is), subst (λ j. Ascending h j ys) next rest)
ascending_by kept g h k n x ys false le rest own = ascending_less h (below kept (suc n)) (below kept k) ys (below_le kept k (suc n) (omega (arith, le))) rest

-- chosen entries whose operations are kept rise as the list did
pub chosen_ascends : {X Y : Type 0} (choice kept : ℕ → Bool) (g : X → Y) (f : X → ℕ) (h : Y → ℕ) (s k : ℕ) (xs : List X) → Ascending f k xs →
    ((i : ℕ) (x : X) → slice_get xs i ≡ Some x → choice (i + s) ≡ true → (kept (f x) ≡ true) × (h (g x) ≡ below kept (f x))) →
    Ascending h (below kept k) (chosen choice g s xs)
chosen_ascends choice kept g f h s k [] up own = tt
chosen_ascends choice kept g f h s k (x ∷ xs) up own =
    let start : s ≡ 0 + s = omega arith in
    ascending_by kept g h k (f x) x (chosen choice g (suc s) xs) (choice s) up.0
    (chosen_ascends choice kept g f h (suc s) (suc (f x)) xs up.1 (λ i z there picked. own (suc i) z there (subst (λ n. choice n ≡ true)
    (let e : i + suc s ≡ suc i + s = omega arith in e) picked)))
    (λ picked. own 0 x refl (subst (λ n. choice n ≡ true) start picked))

over_at : {X : Type 0} (f : X → ℕ) (k : ℕ) (xs : List X) (i : ℕ) (x : X) → Ascending f k xs → slice_get xs i ≡ Some x → k ≤ f x
over_at f k [] i x up there = absurd cc
over_at f k (y ∷ xs) zero x up there = let same : y ≡ x = cc in subst (λ z. k ≤ f z) same up.0
over_at f k (y ∷ xs) (suc i) x up there = let first = up.0 in let rest = over_at f (suc (f y)) xs i x up.1 there in omega (arith, first, rest)

pub rises_at : {X : Type 0} (f : X → ℕ) (k : ℕ) (xs : List X) (i : ℕ) (x : X) → Ascending f k xs → slice_get xs i ≡ Some x → All (λ w. f w < f x) (take i xs)
rises_at f k [] i x up there = absurd cc
rises_at f k (y ∷ xs) zero x up there = All-nil (λ w. f w < f x)
rises_at f k (y ∷ xs) (suc i) x up there = All-cons (λ w. f w < f x) y (take i xs) (let over = over_at f (suc (f y)) xs i x up.1 there in
    omega (arith, over)) (rises_at f (suc (f y)) xs i x up.1 there)

-- each entry fits, where each at its place does
pub each_of : {Y : Type 0} (P : List Y → Y → Type 0) (before ys : List Y) → ((i : ℕ) (y : Y) → slice_get ys i ≡ Some y → P (before ++ take i ys) y) →
    Each P before ys
each_of P before [] all = tt
each_of P before (y ∷ ys) all = (
  subst (λ b. P b y) (append-nil before) (all 0 y refl),
  each_of P (before ++ y ∷ []) ys (λ i z there. subst (λ b. P b z)
      (sym (append_assoc before (y ∷ []) (take i ys))) (all (suc i) z there)),
)

-- ---- how many operations there are at least

pub counted : {X : Type 0} (p : ℕ → Bool) (f : X → ℕ) (k n : ℕ) (xs : List X) → k ≤ n → Ascending f k xs → ((i : ℕ) (x : X) → slice_get xs i ≡ Some x →
    (f x < n) × (p (f x) ≡ true)) → below p k + length xs ≤ below p n
counted p f k n [] le up all = let h = below_le p k n le in omega (arith, h)
counted p f k n (x ∷ xs) le up all =
    let mine = all 0 x refl in
    let lt = mine.0 in
    let before = below_le p k (f x) up.0 in
    let next = below_next p (f x) mine.1 in
    let rest = counted p f (suc (f x)) n xs (omega (arith, lt)) up.1 (λ i z there. all (suc i) z there) in
    omega (arith, before, next, rest)
