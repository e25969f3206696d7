-- Along: the numbers of a list, each times what a function says of its place, added up.
use Rattle.std.proofs.Common.{◌≡◌, ◌≢◌, ⊎_elim, ℕ, zero, suc, ◌+◌, ◌<◌, ◌≤◌, ◌==◌, cond, true, false, ℤ, pos, ◌+ℤ◌, ◌*ℤ◌, List, [], ◌∷◌, length, ap, ap₂, sym, ◌∙◌, refl, arith}
use Rattle.std.proofs.Math.IntN.{*ℤ_comm, *ℤ-zero, zero-*ℤ}
use Rattle.std.proofs.lemmas.Int.{ints}
use Rattle.std.proofs.lemmas.Bool.{eq-eqb}
use Rattle.std.proofs.lemmas.Bool.Decides.{eqb_tells}
use Rattle.vcp_base.specs.Values.{at}
use Rattle.weight_audit.proofs.Residues.{times_plus, plus_times, times_scaled}

-- the places are counted from k
abbrev pub along : (ℕ → ℤ) → ℕ → List ℤ → ℤ
along f k [] = pos 0
along f k (x ∷ xs) = x *ℤ f k +ℤ along f (suc k) xs

add_up : (a b c d e f : ℤ) → a ≡ b +ℤ c → d ≡ e +ℤ f → a +ℤ d ≡ (b +ℤ e) +ℤ (c +ℤ f)
add_up a b c d e f h i = omega (arith, ints)

pub along_plus : (f g : ℕ → ℤ) (k : ℕ) (xs : List ℤ) → along (λ i. f i +ℤ g i) k xs ≡ along f k xs +ℤ along g k xs
along_plus f g k [] = refl
along_plus f g k (x ∷ xs) =
    add_up (x *ℤ (f k +ℤ g k)) (x *ℤ f k) (x *ℤ g k) (along (λ i. f i +ℤ g i) (suc k) xs) (along f (suc k) xs) (along g (suc k) xs) (times_plus x (f k) (g k))
    (along_plus f g (suc k) xs)

pub times_assoc : (a b c : ℤ) → a *ℤ (b *ℤ c) ≡ (a *ℤ b) *ℤ c
times_assoc a b c = ap (λ z. a *ℤ z) (*ℤ_comm b c) ∙ times_scaled a c b ∙ *ℤ_comm c (a *ℤ b)

pub along_times : (f : ℕ → ℤ) (c : ℤ) (k : ℕ) (xs : List ℤ) → along (λ i. f i *ℤ c) k xs ≡ along f k xs *ℤ c
along_times f c k [] = sym (zero-*ℤ c)
along_times f c k (x ∷ xs) = ap₂ (λ a b. a +ℤ b) (times_assoc x (f k) c) (along_times f c (suc k) xs) ∙ sym (plus_times (x *ℤ f k) (along f (suc k) xs) c)

pub along_same : (f g : ℕ → ℤ) (k : ℕ) (xs : List ℤ) → ((j : ℕ) → k ≤ j → j < k + length xs → f j ≡ g j) → along f k xs ≡ along g k xs
along_same f g k [] same = refl
along_same f g k (x ∷ xs) same =
    ap₂ (λ a b. x *ℤ a +ℤ b) (same k (omega arith) (omega arith)) (along_same f g (suc k) xs (λ j le lt. same j (omega (arith, le)) (omega (arith, lt))))

pub along_zero : (f : ℕ → ℤ) (k : ℕ) (xs : List ℤ) → ((j : ℕ) → k ≤ j → f j ≡ pos 0) → along f k xs ≡ pos 0
along_zero f k [] none = refl
along_zero f k (x ∷ xs) none =
    ap₂ (λ a b. a +ℤ b) (ap (λ z. x *ℤ z) (none k (omega arith)) ∙ *ℤ-zero x) (along_zero f (suc k) xs (λ j le. none j (omega (arith, le))))

pub cond_no : (i n : ℕ) (c : ℤ) → i ≢ n → cond (i == n) c (pos 0) ≡ pos 0
cond_no i n c ne = ⊎_elim
    (λ (h : ((i == n) ≡ true) × (i ≡ n)). absurd (ne h.1))
    (λ (h : ((i == n) ≡ false) × (i ≢ n)). ap (λ b. cond b c (pos 0)) h.0)
    (eqb_tells i n)

pub cond_yes : (i n : ℕ) (c : ℤ) → i ≡ n → cond (i == n) c (pos 0) ≡ c
cond_yes i n c e = ap (λ b. cond b c (pos 0)) (eq-eqb i n e)

pick_zero : (a b : ℤ) → b ≡ pos 0 → a +ℤ b ≡ a
pick_zero a b e = omega (arith, ints)

zero_pick : (a b c : ℤ) → a ≡ pos 0 → b ≡ c → a +ℤ b ≡ c
zero_pick a b c e h = omega (arith, ints)

-- one place alone
pub along_pick : (n : ℕ) (c : ℤ) (k m : ℕ) (xs : List ℤ) → n ≡ k + m → along (λ i. cond (i == n) c (pos 0)) k xs ≡ at xs m *ℤ c
along_pick n c k zero [] e = sym (zero-*ℤ c)
along_pick n c k (suc m) [] e = sym (zero-*ℤ c)
along_pick n c k zero (x ∷ xs) e =
    pick_zero (x *ℤ cond (k == n) c (pos 0)) (along (λ i. cond (i == n) c (pos 0)) (suc k) xs)
    (along_zero (λ i. cond (i == n) c (pos 0)) (suc k) xs (λ j le. cond_no j n c (λ h. omega (arith, h, e, le))))
    ∙ ap (λ z. x *ℤ z) (cond_yes k n c (omega (arith, e)))
along_pick n c k (suc m) (x ∷ xs) e =
    zero_pick (x *ℤ cond (k == n) c (pos 0)) (along (λ i. cond (i == n) c (pos 0)) (suc k) xs) (at xs m *ℤ c)
    (ap (λ z. x *ℤ z) (cond_no k n c (λ h. omega (arith, h, e))) ∙ *ℤ-zero x)
    (along_pick n c (suc k) m xs (omega (arith, e)))

-- two lists, place by place
abbrev pub dot : List ℤ → List ℤ → ℤ
dot [] ys = pos 0
dot (x ∷ xs) [] = pos 0
dot (x ∷ xs) (y ∷ ys) = x *ℤ y +ℤ dot xs ys

pub dot_comm : (xs ys : List ℤ) → dot xs ys ≡ dot ys xs
dot_comm [] [] = refl
dot_comm [] (y ∷ ys) = refl
dot_comm (x ∷ xs) [] = refl
dot_comm (x ∷ xs) (y ∷ ys) = ap₂ (λ a b. a +ℤ b) (*ℤ_comm x y) (dot_comm xs ys)

along_dot : (f : ℕ → ℤ) (k : ℕ) (xs ys : List ℤ) → ((i j : ℕ) → j ≡ k + i → f j ≡ at ys i) → length xs ≡ length ys → along f k xs ≡ dot xs ys
along_dot f k [] ys is many = refl
along_dot f k (x ∷ xs) [] is many = absurd (omega (arith, many))
along_dot f k (x ∷ xs) (y ∷ ys) is many =
    ap₂ (λ a b. x *ℤ a +ℤ b) (is 0 k (omega arith)) (along_dot f (suc k) xs ys (λ i j e. is (suc i) j (omega (arith, e))) (omega (arith, many)))

pub along_exchange : (xs ys : List ℤ) → length xs ≡ length ys → along (at ys) 0 xs ≡ along (at xs) 0 ys
along_exchange xs ys many =
    along_dot (at ys) 0 xs ys (λ i j e. ap (at ys) (let h : j ≡ i = omega (arith, e) in h)) many ∙ dot_comm xs ys
    ∙ sym (along_dot (at xs) 0 ys xs (λ i j e. ap (at xs) (let h : j ≡ i = omega (arith, e) in h)) (sym many))
