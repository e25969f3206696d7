-- As many turns as a text has bytes, and one more, give all its records.
use Rattle.std.proofs.Common.{◌≡◌, ◌⊎◌, ◌<◌, ◌≤◌, ℕ, zero, suc, List, [], ◌∷◌, length, Option, Some, None, Bool, true, false, refl, ap, inl, inr, arith}
use Rattle.std.proofs.Common.{add-one, if◌then◌else◌}
use Rattle.csv.specs.Machine.{Read, next_record, step, is_end, fields_after, field_after, ends_at_end}
use Rattle.csv.specs.Reading.{records_from, records_next, default_config}
use Rattle.csv.specs.declared.parser.State.{State}
use Rattle.csv.specs.declared.parser.State.TheVariants as st
use Rattle.csv.specs.declared.parser.Config.{Config}
use Rattle.input_rows.specs.RecordsLeft.{records_left}

-- what a read leaves is shorter, or it is the end
abbrev Shorter : ℕ → Read → Type 0
Shorter n p = (length p.2 < n) ⊎ ((p.1 ≡ st.StartRecord) × (p.2 ≡ []))

pick : (b : Bool) (n : ℕ) (x p : Read) (o : Option Read) → Shorter n x → (o ≡ Some p → Shorter n p) → (if b then Some x else o) ≡ Some p → Shorter n p
pick true n x p o hx ho e = let q : x ≡ p = cc in rw (← q) hx
pick false n x p o hx ho e = ho e

longer : (n : ℕ) (p : Read) → Shorter n p → Shorter (suc n) p
longer n p (inl h) = inl (omega arith)
longer n p (inr h) = inr h

pub next_shorter : (cfg : Config) (s : State) (fields : List (List ℕ)) (field : List ℕ) (xs : List ℕ) (p : Read) → next_record cfg s fields field xs ≡ Some p
    → Shorter (length xs) p
unfolding next_record
next_shorter cfg s fields field [] p e = pick (ends_at_end s) 0 _ p None (inr (refl, refl)) (λ n. absurd (cc)) e
next_shorter cfg s fields field (c ∷ rest) p e =
    pick (is_end (step cfg s c).1) (suc (length rest)) _ p _ (inl (omega arith))
    (λ n. longer (length rest) p
    (next_shorter cfg (step cfg s c).0 (fields_after (step cfg s c).1 fields field) (field_after (step cfg s c).1 c field) rest p n)) e

none_left : (cfg : Config) (n : ℕ) → records_from cfg n st.StartRecord [] ≡ []
unfolding records_from next_record
none_left cfg zero = refl
none_left cfg (suc n) = refl

abbrev Agree : Config → ℕ → Type 0
Agree cfg k =
    (n m : ℕ) (s : State) (xs : List ℕ) → length xs ≤ n → length xs ≤ m → n ≤ k → m ≤ k → records_from cfg (suc n) s xs ≡ records_from cfg (suc m) s xs

one_read : (cfg : Config) (k n m : ℕ) (xs : List ℕ) (p : Read) → Agree cfg k → Shorter (length xs) p → length xs ≤ n → length xs ≤ m → n ≤ suc k → m ≤ suc k
    → records_from cfg n p.1 p.2 ≡ records_from cfg m p.1 p.2
one_read cfg k n m xs p ih (inr h) ln lm nk mk = rw (h.0, h.1, none_left cfg n, none_left cfg m) refl
one_read cfg k zero m xs p ih (inl h) ln lm nk mk = absurd (omega arith)
one_read cfg k (suc n) zero xs p ih (inl h) ln lm nk mk = absurd (omega arith)
one_read cfg k (suc n) (suc m) xs p ih (inl h) ln lm nk mk = ih n m p.1 p.2 (omega arith) (omega arith) (omega arith) (omega arith)

by_read : (cfg : Config) (k n m : ℕ) (xs : List ℕ) (o : Option Read) → Agree cfg k → ((p : Read) → o ≡ Some p → Shorter (length xs) p) → length xs ≤ n
    → length xs ≤ m → n ≤ suc k → m ≤ suc k → records_next (records_from cfg n) o ≡ records_next (records_from cfg m) o
by_read cfg k n m xs None ih f ln lm nk mk = refl
by_read cfg k n m xs (Some p) ih f ln lm nk mk = ap (λ l. p.0 ∷ l) (one_read cfg k n m xs p ih (f p refl) ln lm nk mk)

pub same_records : (cfg : Config) (k : ℕ) → Agree cfg k
unfolding records_from
same_records cfg zero zero zero s xs ln lm nk mk = refl
same_records cfg zero (suc n) m s xs ln lm nk mk = absurd (omega arith)
same_records cfg zero zero (suc m) s xs ln lm nk mk = absurd (omega arith)
same_records cfg (suc k) n m s xs ln lm nk mk = by_read cfg k n m xs (next_record cfg s [] [] xs) (same_records cfg k) (next_shorter cfg s [] [] xs) ln lm nk mk

tail_same : (cfg : Config) (n : ℕ) (p : Read) → Shorter n p → records_from cfg n p.1 p.2 ≡ records_from cfg (suc (length p.2)) p.1 p.2
tail_same cfg n p (inr h) = rw (h.0, h.1, none_left cfg n, none_left cfg (suc 0)) refl
tail_same cfg zero p (inl h) = absurd (omega arith)
tail_same cfg (suc n) p (inl h) = same_records cfg n n (length p.2) p.1 p.2 (omega arith) (omega arith) (omega arith) (omega arith)

-- the records after one
pub records_after : (s : State) (xs : List ℕ) (r : List (List ℕ)) (s2 : State) (ys : List ℕ) → next_record default_config s [] [] xs ≡ Some (r, s2, ys)
    → records_left s xs ≡ r ∷ records_left s2 ys
unfolding records_from
records_after s xs r s2 ys e =
    let tail : records_from default_config (length xs) s2 ys ≡ records_from default_config (suc (length ys)) s2 ys =
    tail_same default_config (length xs) (r, s2, ys) (next_shorter default_config s [] [] xs (r, s2, ys) e) in
    rw (add-one, e, add-one, ← tail) refl

pub no_records : (s : State) (xs : List ℕ) → next_record default_config s [] [] xs ≡ None → records_left s xs ≡ []
unfolding records_from
no_records s xs e = rw (add-one, e) refl
