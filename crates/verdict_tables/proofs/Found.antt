-- Found: the faults of a group one after another, and words one after another.
use Rattle.std.proofs.Common.{◌≡◌, ℕ, zero, suc, min, ◌+◌, ◌<◌, ◌≤◌, ◌==◌, ◌&&◌, ◌||◌, ◌⊎◌, inl, inr, Bool, true, false, cond, List, [], ◌∷◌, length, slice_get, drop, Some, ℤ, get_or, not, refl, ap, sym, ◌∙◌, arith}
use mir.Syntax.{w128}
use mir.Val.{SFits, of_z, to_z}
use Rattle.std.proofs.lemmas.Int.{to_z-of_z}
use Rattle.std.specs.List.{list_any}
use Rattle.std.specs.Ordering.{int_eq}
use Rattle.std.proofs.lemmas.Bool.Decides.{Decides-int_eq}
use Rattle.std.proofs.lemmas.Option.{slice_get_read}
use Rattle.fault_script.specs.declared.act.Fault.{Fault}
use Rattle.fault_script.specs.Changes.{acts_of}
use Rattle.verdict_tables.specs.Endings.{words_differ}
use Rattle.verdict_tables.proofs.Lists.{drop_there, drop_behind}

-- ---- the act of the first fault at an operation in a cycle

pub acts_here : (faults : List Fault) (i n k : ℕ) (f : Fault) (b : Bool) → slice_get faults i ≡ Some f → b ≡ (f.cycle == n && f.op == k) → b ≡ true
    → acts_of (drop i faults) n k ≡ Some f.act
acts_here faults i n k f b there is was =
    ap (λ (fs : List Fault). acts_of fs n k) (drop_there faults i f there)
    ∙ ap (λ (b : Bool). cond b (Some f.act) (acts_of (drop (i + 1) faults) n k)) (sym is ∙ was)

pub acts_behind : (faults : List Fault) (i n k : ℕ) (f : Fault) (b : Bool) → slice_get faults i ≡ Some f → b ≡ (f.cycle == n && f.op == k) → b ≡ false
    → acts_of (drop i faults) n k ≡ acts_of (drop (i + 1) faults) n k
acts_behind faults i n k f b there is was =
    ap (λ (fs : List Fault). acts_of fs n k) (drop_there faults i f there)
    ∙ ap (λ (b : Bool). cond b (Some f.act) (acts_of (drop (i + 1) faults) n k)) (sym is ∙ was)

-- ---- a test of each fault

pub any_here : (p : Fault → Bool) (faults : List Fault) (i : ℕ) (f : Fault) (b : Bool) → slice_get faults i ≡ Some f → b ≡ p f → b ≡ true
    → list_any p (drop i faults) ≡ true
any_here p faults i f b there is was =
    ap (list_any p) (drop_there faults i f there) ∙ ap (λ (b : Bool). b || list_any p (drop (i + 1) faults)) (sym is ∙ was)

pub any_behind : (p : Fault → Bool) (faults : List Fault) (i : ℕ) (f : Fault) (b : Bool) → slice_get faults i ≡ Some f → b ≡ p f → b ≡ false
    → list_any p (drop i faults) ≡ list_any p (drop (i + 1) faults)
any_behind p faults i f b there is was =
    ap (list_any p) (drop_there faults i f there) ∙ ap (λ (b : Bool). b || list_any p (drop (i + 1) faults)) (sym is ∙ was)

-- ---- words

none_beside : (words : List ℤ) → words_differ words [] ≡ false
none_beside [] = refl
none_beside (w ∷ words) = refl

further : (a b i : ℕ) → (a ≤ i) ⊎ (b ≤ i) → (suc a ≤ suc i) ⊎ (suc b ≤ suc i)
further a b i (inl h) = inl (omega (arith, h))
further a b i (inr h) = inr (omega (arith, h))

one_is_over : (a b i : ℕ) → min a b ≤ i → (a ≤ i) ⊎ (b ≤ i)
one_is_over zero b i h = inl (omega arith)
one_is_over (suc a) zero i h = inr (omega arith)
one_is_over (suc a) (suc b) zero h = absurd (omega (arith, h))
one_is_over (suc a) (suc b) (suc i) h = further a b i (one_is_over a b i (omega (arith, h)))

-- where one of both ends
pub differ_end : (words others : List ℤ) (i : ℕ) → min (length words) (length others) ≤ i → words_differ (drop i words) (drop i others) ≡ false
differ_end words others i over = ends (one_is_over (length words) (length others) i over) where
  ends : (length words ≤ i) ⊎ (length others ≤ i) → words_differ (drop i words) (drop i others) ≡ false
  ends (inl few) = ap (λ (xs : List ℤ). words_differ xs (drop i others)) (drop_behind words i few)
  ends (inr few) = ap (λ (xs : List ℤ). words_differ (drop i words) xs) (drop_behind others i few) ∙ none_beside (drop i words)

-- where both go on
within_both : (a b i : ℕ) → i < min a b → (i < a) × (i < b)
within_both zero b i h = absurd (omega (arith, h))
within_both (suc a) zero i h = absurd (omega (arith, h))
within_both (suc a) (suc b) zero h = (omega arith, omega arith)
within_both (suc a) (suc b) (suc i) h = let both = within_both a b i (omega (arith, h)) in (omega (arith, both.0), omega (arith, both.1))

pub same_word : (x y : ℤ) → SFits w128 x → SFits w128 y → of_z w128 x ≡ of_z w128 y → x ≡ y
same_word x y fits_x fits_y e = sym (to_z-of_z w128 x fits_x) ∙ (ap (to_z w128) e ∙ to_z-of_z w128 y fits_y)

is_false : (b : Bool) → (b ≡ true → ⊥) → b ≡ false
is_false true unlike = absurd (unlike refl)
is_false false unlike = refl

module _ (words others : List ℤ) (i : ℕ) (w o : ℤ) (within : i < min (length words) (length others)) (one : w ≡ get_or words i w)
    (other : o ≡ get_or others i o) where
  differ_by : (b : Bool) → int_eq w o ≡ b
      → words_differ (drop i words) (drop i others) ≡ (not b || words_differ (drop (i + 1) words) (drop (i + 1) others))
  differ_by b is =
      let both = within_both (length words) (length others) i within in
      ap (λ (xs : List ℤ). words_differ xs (drop i others)) (drop_there words i w (slice_get_read words (length words) i w refl both.0 one))
      ∙ ap (λ (xs : List ℤ). words_differ (w ∷ drop (i + 1) words) xs) (drop_there others i o (slice_get_read others (length others) i o refl both.1 other))
      ∙ ap (λ (b : Bool). not b || words_differ (drop (i + 1) words) (drop (i + 1) others)) is

  pub differ_behind : w ≡ o → words_differ (drop i words) (drop i others) ≡ words_differ (drop (i + 1) words) (drop (i + 1) others)
  differ_behind same = differ_by true ((Decides-int_eq w o).1 same)

  pub differ_here : (w ≡ o → ⊥) → words_differ (drop i words) (drop i others) ≡ true
  differ_here unlike = differ_by false (is_false (int_eq w o) (λ e. unlike ((Decides-int_eq w o).0 e)))
