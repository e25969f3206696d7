-- Words that are left from a place on.
use Rattle.std.proofs.Common.{◌≡◌, ◌≤◌, ◌<◌, ℕ, ◌+◌, true, false, nat_le, List, [], ◌∷◌, length, drop, slice_get, Some, inl, inr, refl, add-one}
use Rattle.std.proofs.Math.Seq.{drop-cons}
use Rattle.std.proofs.lemmas.Bool.Decides.{leb_tells}
use Rattle.std.proofs.lemmas.Option.{get_or_from_slice_get, slice_get_within}
use Rattle.std.proofs.lemmas.List.{drop_all}
use Rattle.vcp_inputs.specs.Forms.{is_end}

-- the word at a place is the first of those that are left
pub first_left : (words : List (List ℕ)) (i : ℕ) (w : List ℕ) → slice_get words i ≡ Some w → drop i words ≡ w ∷ drop (i + 1) words
first_left words i w at = rw (drop-cons words i [] (slice_get_within words i w at), get_or_from_slice_get words i w [] at, add-one) refl

-- none is left where all were passed
ended : (words : List (List ℕ)) (i : ℕ) → length words ≤ i → is_end (drop i words) ≡ true
ended words i h = rw (drop_all i words h) refl

more : (words : List (List ℕ)) (i : ℕ) → i < length words → is_end (drop i words) ≡ false
more words i h = rw (drop-cons words i [] h) refl

pub is_end_from : (words : List (List ℕ)) (i : ℕ) → nat_le (length words) i ≡ is_end (drop i words)
is_end_from words i = elim (leb_tells (length words) i) [
  | inl h ↦ rw (h.0, ended words i h.1) refl
  | inr h ↦ rw (h.0, more words i h.1) refl
]
