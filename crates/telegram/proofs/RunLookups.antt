-- Lookups: the word of a sender and a cycle among all that are kept one behind the other.
use Rattle.std.proofs.Common.{◌≡◌, ℕ, zero, suc, ◌+◌, ◌*◌, ◌<◌, ◌≤◌, List, [], ◌∷◌, ◌++◌, length, slice_get, slice_index_or, Some, ℤ, pos, refl, sym, ap, ◌∙◌, arith, append_assoc, append-nil, length-append, negsuc, ◌^◌, ◌≤ℤ◌, to_z, of_z, to_z-of_z, SFits, w64}
use Rattle.std.proofs.lemmas.Int.{ints}
use Rattle.coded_unit.specs.Words.{Middle}
use Rattle.vcp_base.specs.Values.{at}
use Rattle.telegram.specs.WireRun.{Every}

-- these lists one behind the other
abbrev pub joined : List (List ℤ) → List ℤ
joined [] = []
joined (row ∷ words) = row ++ joined words

pub joined_more : (words : List (List ℤ)) (row : List ℤ) → joined (words ++ row ∷ []) ≡ joined words ++ row
joined_more [] row = append-nil row
joined_more (r ∷ words) row = ap (λ (l : List ℤ). r ++ l) (joined_more words row) ∙ sym (append_assoc r (joined words) row)

get_left : (xs ys : List ℤ) (i : ℕ) → i < length xs → slice_get (xs ++ ys) i ≡ Some (at xs i)
get_left [] ys i within = absurd (omega (arith, within))
get_left (x ∷ xs) ys zero within = refl
get_left (x ∷ xs) ys (suc i) within = get_left xs ys i (omega (arith, within))

get_right : (xs ys : List ℤ) (i : ℕ) → slice_get (xs ++ ys) (length xs + i) ≡ slice_get ys i
get_right [] ys i = let same : 0 + i ≡ i = omega arith in ap (slice_get ys) same
get_right (x ∷ xs) ys i =
    let same : suc (length xs) + i ≡ suc (length xs + i) = omega arith in
    ap (slice_get (x ∷ (xs ++ ys))) same ∙ get_right xs ys i

next_row : (n senders : ℕ) → suc n * senders ≡ senders + n * senders
next_row n senders = omega arith

first_row : (senders : ℕ) → 0 * senders ≡ 0
first_row senders = omega arith

-- the word of a sender in a cycle
pub found : (words : List (List ℤ)) (senders n id : ℕ) → Every (λ row. length row ≡ senders) words → n < length words → id < senders
    → slice_get (joined words) (n * senders + id) ≡ Some (at (slice_index_or words n []) id)
found [] senders n id rows within below = absurd (omega (arith, within))
found (row ∷ words) senders zero id rows within below =
    let place : 0 * senders + id ≡ id = omega (arith, first_row senders) in
    ap (slice_get (row ++ joined words)) place ∙ get_left row (joined words) id (omega (arith, rows.0, below))
found (row ∷ words) senders (suc n) id rows within below =
    let place : suc n * senders + id ≡ length row + (n * senders + id) = omega (arith, next_row n senders, rows.0) in
    ap (slice_get (row ++ joined words)) place
    ∙ (get_right row (joined words) (n * senders + id) ∙ found words senders n id rows.1 (omega (arith, within)) below)

pub joined_length : (words : List (List ℤ)) (senders : ℕ) → Every (λ row. length row ≡ senders) words → length (joined words) ≡ length words * senders
joined_length [] senders rows = sym (first_row senders)
joined_length (row ∷ words) senders rows =
    let before = joined_length words senders rows.1 in
    omega (arith, before, length-append row (joined words), rows.0, next_row (length words) senders)

-- later cycles don't matter
pub earlier_row : (words later : List (List ℤ)) (n : ℕ) → n < length words → slice_index_or (words ++ later) n [] ≡ slice_index_or words n []
earlier_row [] later n within = absurd (omega (arith, within))
earlier_row (row ∷ words) later zero within = refl
earlier_row (row ∷ words) later (suc n) within = earlier_row words later n (omega (arith, within))

pub fewer : (m n s : ℕ) → m ≤ n → m * s ≤ n * s
fewer zero n s h = let none : 0 * s ≡ 0 = first_row s in omega (arith, none)
fewer (suc m) zero s h = absurd (omega (arith, h))
fewer (suc m) (suc n) s h = let before = fewer m n s (omega (arith, h)) in omega (arith, before, next_row m s, next_row n s)

-- there are at most sixteen times a million words
pub small_product : (n s : ℕ) → s ≤ 16 → n ≤ 1000000 → n * s ≤ 16000000
small_product n s few below = let most = fewer n 1000000 s below in omega (arith, most, few)

-- there is room for one cycle more
pub room_left : (len cap begun cycles s : ℕ) → len ≡ begun * s → cap ≡ cycles * s → begun < cycles → len + s ≤ cap
room_left len cap begun cycles s is room below =
    let most = fewer (suc begun) cycles s (omega (arith, below)) in omega (arith, is, room, most, next_row begun s)

-- the place of a word is one of those that are kept
pub place_within : (len begun n id s : ℕ) → len ≡ begun * s → n < begun → id < s → n * s + id < len
place_within len begun n id s is before below =
    let most = fewer (suc n) begun s (omega (arith, before)) in omega (arith, is, most, below, next_row n s)

-- what is added to a word has 64 bits
addend_fits : (e : ℤ) → Middle e → SFits w64 e
addend_fits (pos n) m = let most : pos n ≤ℤ pos (2 ^ 62) = m.1 in record { sfits = omega (arith, ints, most) }
addend_fits (negsuc n) m = let least : negsuc (2 ^ 62) ≤ℤ negsuc n = m.0 in record { sfits = omega (arith, ints, least) }

-- and is passed on as it is
pub same_addend : (e : ℤ) → Middle e → to_z w64 (of_z w64 e) ≡ e
same_addend e m = let fits = addend_fits e m in grind (arith, to_z-of_z)
