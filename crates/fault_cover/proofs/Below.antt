-- Below: what holds of lists that are joined number by number.
use Rattle.std.proofs.Common.{◌≡◌, ℕ, zero, suc, ◌+◌, ◌-◌, ◌*◌, ◌/◌, ◌%◌, ◌<◌, ◌≤◌, List, [], ◌++◌, length, flat_map, refl, sym, ap, ◌∙◌, arith}
use Rattle.std.proofs.Common.{append_assoc, length-append, add-zero, ap₂}
use Rattle.std.proofs.lemmas.Grind.{flat_map-append}
use Rattle.std.proofs.lemmas.List.{append-nil}
use Rattle.std.proofs.lemmas.Nat.{div-mul-add}
use Rattle.std.proofs.Math.Nat.{add-suc, mod-eq_of_lt, mul-add-mod_self_right}
use Rattle.fault_sites.specs.Sites.{each_below}

pub same_below : {X : Type 0} (f g : ℕ → List X) (n : ℕ) → ((i : ℕ) → i < n → f i ≡ g i) → each_below f n ≡ each_below g n
same_below f g zero h = refl
same_below f g (suc i) h = ap₂ (λ xs ys. xs ++ ys) (same_below f g i (λ j l. h j (omega arith))) (h i (omega arith))

-- nothing is added where each number gives nothing
pub nothing_between : {X : Type 0} (f : ℕ → List X) (m n : ℕ) → ((i : ℕ) → m ≤ i → i < m + n → f i ≡ []) → each_below f (m + n) ≡ each_below f m
nothing_between f m zero h = ap (each_below f) (add-zero m)
nothing_between f m (suc n) h =
    ap (each_below f) (add-suc m n) ∙ ap (λ xs. each_below f (m + n) ++ xs) (h (m + n) (omega arith) (omega arith)) ∙ append-nil (each_below f (m + n))
    ∙ nothing_between f m n (λ i low high. h i low (omega arith))

pub nothing_to : {X : Type 0} (f : ℕ → List X) (m n : ℕ) → m ≤ n → ((i : ℕ) → m ≤ i → i < n → f i ≡ []) → each_below f n ≡ each_below f m
nothing_to f m n up h =
    let e : m + (n - m) ≡ n = omega arith in
    ap (each_below f) (sym e) ∙ nothing_between f m (n - m) (λ i low high. h i low (omega arith))

pub nothing_below : {X : Type 0} (f : ℕ → List X) (n : ℕ) → ((i : ℕ) → i < n → f i ≡ []) → each_below f n ≡ []
nothing_below f n h = nothing_to f 0 n (omega arith) (λ i low high. h i high)

pub below_plus : {X : Type 0} (f : ℕ → List X) (m n : ℕ) → each_below f (m + n) ≡ each_below f m ++ each_below (λ i. f (m + i)) n
below_plus f m zero = ap (each_below f) (add-zero m) ∙ sym (append-nil (each_below f m))
below_plus f m (suc n) =
    ap (each_below f) (add-suc m n) ∙ ap (λ xs. xs ++ f (m + n)) (below_plus f m n)
    ∙ append_assoc (each_below f m) (each_below (λ i. f (m + i)) n) (f (m + n))

pub flat_below : {X Y : Type 0} (g : X → List Y) (f : ℕ → List X) (n : ℕ) → flat_map g (each_below f n) ≡ each_below (λ i. flat_map g (f i)) n
flat_below g f zero = refl
flat_below g f (suc i) = flat_map-append g (each_below f i) (f i) ∙ ap (λ xs. xs ++ flat_map g (f i)) (flat_below g f i)

-- number by number of rows and places in them
pub rows_below : {X : Type 0} (f : ℕ → ℕ → List X) (w m : ℕ) → each_below (λ i. f (i / w) (i % w)) (m * w) ≡ each_below (λ b. each_below (f b) w) m
rows_below f w zero = let none : zero * w ≡ zero = omega arith in ap (each_below (λ i. f (i / w) (i % w))) none
rows_below f w (suc m) =
    let more : suc m * w ≡ m * w + w = omega arith in
    ap (each_below (λ i. f (i / w) (i % w))) more ∙ below_plus (λ i. f (i / w) (i % w)) (m * w) w
    ∙ ap₂ (λ xs ys. xs ++ ys) (rows_below f w m)
    (same_below (λ i. f ((m * w + i) / w) ((m * w + i) % w)) (f m) w
    (λ i lt. ap₂ f (div-mul-add m w i lt) (mul-add-mod_self_right m w i ∙ mod-eq_of_lt lt)))

pub length_below : {X : Type 0} (f : ℕ → List X) (n most : ℕ) → ((i : ℕ) → i < n → length (f i) ≤ most) → length (each_below f n) ≤ n * most
length_below f zero most h = omega arith
length_below f (suc i) most h =
    let front : length (each_below f i) ≤ i * most = length_below f i most (λ j l. h j (omega arith)) in
    let last : length (f i) ≤ most = h i (omega arith) in
    omega (arith, front, last, length-append (each_below f i) (f i))
