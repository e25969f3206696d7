-- What was taken of a file, from what was read of it.
use Rattle.std.proofs.Common.{◌≡◌, ◌≤◌, ◌⊎◌, ◌+◌, ◌<◌, inl, inr, ℕ, List, [], ◌++◌, take, length, Option}
use Rattle.std.proofs.Common.{Some, None, IsSome, IfSome, ◌∙◌, ap, sym, subst, refl, arith, append-nil, length-append, min, ◌-◌}
use Rattle.std.proofs.lemmas.Grind.{common_steps}
use Rattle.std.proofs.KnownBytes.{Consumes-trans, Consumes-kept}
use Rattle.std.specs.Io.KnownBytes.{Consumes, Keeps, IsAtEnd}
use Rattle.vcp_outside.specs.Counts.{Rose}
use Rattle.vcp_outside.specs.Held.{Held}
use Rattle.std.proofs.Common.{Result, Ok, Err}
use Rattle.vcp_outside.specs.ReadAll.{TakesBetween}
use Rattle.vcp_outside.specs.declared.reading.ReadAll.{ReadAll}
use Rattle.vcp_outside.specs.declared.reading.ReadAll.TheVariants as cause

-- a front that was read was taken
takes_front : (least most : ℕ) (held : Held) (name : List ℕ) (bytes rest : Option (List ℕ)) (front : List ℕ)
    → held name ≡ bytes → IsSome bytes → Consumes bytes rest front → least ≤ length front → length front ≤ most → TakesBetween least most held name rest
takes_front least most held name None rest front is some reads low high = absurd (cc)
takes_front least most held name (Some bytes) None front is some reads low high = absurd reads
takes_front least most held name (Some bytes) (Some left) front is some reads low high =
    (front, left, is ∙ ap Some reads, refl, low, high)

-- the same after one more piece, where it is told what is held
pub takes_more : (least most : ℕ) (held : Option Held) (name : List ℕ) (mid rest : Option (List ℕ)) (front piece : List ℕ)
    → IfSome held (λ h. IsSome (h name) × Consumes (h name) mid front) → Consumes mid rest piece → least ≤ length (front ++ piece)
    → length (front ++ piece) ≤ most
    → IfSome held (λ h. TakesBetween least most h name rest)
takes_more least most None name mid rest front piece reads more low high = tt
takes_more least most (Some held) name mid rest front piece reads more low high =
    takes_front least most held name (held name) rest (front ++ piece) refl reads.0 (Consumes-trans (held name) mid rest front piece reads.1 more) low high

-- the same after a read that failed, whatever else might be said
pub takes_no_more : (most : ℕ) (held : Option Held) (name : List ℕ) (mid rest : Option (List ℕ)) (front : List ℕ) (Else : Type 0)
    → IfSome held (λ h. IsSome (h name) × Consumes (h name) mid front) → Keeps mid rest → length front ≤ most
    → IfSome held (λ h. TakesBetween 0 most h name rest ⊎ Else)
takes_no_more most None name mid rest front Else reads kept high = tt
takes_no_more most (Some held) name mid rest front Else reads kept high =
    inl (takes_front 0 most held name (held name) rest front refl reads.0 (Consumes-kept (held name) mid rest front reads.1 kept) (omega arith) high)

-- what is so of whatever is held
pub whatever_held : {P : Held → Type 0} (held : Option Held) → ((h : Held) → P h) → IfSome held P
whatever_held None f = tt
whatever_held (Some h) f = f h

-- files that broke in the last call broke since the first one
pub broke_later : (held mid : Option Held) (name : List ℕ) (old before now : ℕ) → held ≡ mid → old ≤ before → IfSome mid (λ h. Rose before now)
    → IfSome held (λ h. (h name ≡ None) ⊎ Rose old now)
broke_later None mid name old before now same later rose = tt
broke_later (Some h) mid name old before now same later rose =
    let broke : Rose before now = subst (λ m. IfSome m (λ h. Rose before now)) (sym same) rose in
    inr (omega (arith, later, broke))

-- ---- counts

-- what stayed and then didn't fall
pub later_on : {a m b : ℕ} → m ≡ a → m ≤ b → a ≤ b
later_on same later = rw same at later

-- nor rose above the last value
pub capped_on : {a m b most : ℕ} → m ≡ a → (m ≤ most → b ≤ most) → a ≤ most → b ≤ most
capped_on same capped = rw same at capped

-- a count that stayed and then rose
pub rose_on : {a m b : ℕ} → m ≡ a → Rose m b → Rose a b
rose_on same rose = rw same at rose

-- as many reads as bytes
pub no_reads : (reads limit : ℕ) → reads ≤ reads + limit + 1
no_reads reads limit = omega arith

pub few_reads : (before reads limit len : ℕ) → reads ≤ before + len → len ≤ limit + 1 → reads ≤ before + limit + 1
few_reads before reads limit len few within = omega arith

pub one_more_read : (before reads now limit len shown : ℕ) → reads ≤ before + len → now ≡ reads + 1 → shown ≡ len → shown ≤ limit → now ≤ before + limit + 1
one_more_read before reads now limit len shown few more is within = omega arith

-- what is shown of a length
pub within_test : {shown len limit : ℕ} → shown ≡ len → shown ≤ limit → len ≤ limit
within_test is within = rw is at within

-- ---- the whole file

all_of : (limit : ℕ) (held : Held) (name : List ℕ) (bytes mid rest : Option (List ℕ)) (front text : List ℕ)
    → held name ≡ bytes → IsSome bytes → Consumes bytes mid front → Consumes mid rest [] → IsAtEnd rest → text ≡ front → length front ≤ limit
    → ((held name ≡ Some text) × (length text ≤ limit)) × TakesBetween (length text) limit held name rest
all_of limit held name None mid rest front text is some reads more end same within = absurd (cc)
all_of limit held name (Some bytes) None rest front text is some reads more end same within = absurd reads
all_of limit held name (Some bytes) (Some left) None front text is some reads more end same within = absurd more
all_of limit held name (Some bytes) (Some left) (Some none) front text is some reads more end same within =
    let whole : held name ≡ Some (text ++ none) = rw (is, same, reads, more) refl in
    let text_is : held name ≡ Some text = rw (end, append-nil text) at whole in
    rw same ((rw (same) at text_is, within), (front, none, rw (same) at whole, refl, omega arith, within))

-- a piece that was read for which there was room
pub piece_within : (limit shown room count : ℕ) (front buf chunk : List ℕ) → (count ≤ length buf) × (count ≡ length (take count buf)) → ¬ (count ≡ 0)
    → length buf ≡ length (take room chunk) → room ≡ min (limit + 1 - shown) 4096 → shown ≡ length front → shown ≤ limit
    → (1 ≤ length (front ++ take count buf)) × (length (front ++ take count buf) ≤ limit + 1)
piece_within limit shown room count front buf chunk bound some kept most is within =
    let short : length (take room chunk) ≤ room = grind (arith, common_steps) in
    let joined = length-append front (take count buf) in
    (omega (arith, joined, bound.1, some), omega (arith, joined, bound, kept, most, is, within, short))

-- nothing was read at the end
pub read_whole : (limit count : ℕ) (held : Option Held) (name : List ℕ) (mid rest : Option (List ℕ)) (front text buf : List ℕ)
    → IfSome held (λ h. IsSome (h name) × Consumes (h name) mid front) → Consumes mid rest (take count buf) → count ≡ 0 → IsAtEnd rest → text ≡ front
    → length front ≤ limit
    → IfSome held (λ h. (h name ≡ Some text) × (length text ≤ limit)) × IfSome held (λ h. TakesBetween (length text) limit h name rest)
read_whole limit count None name mid rest front text buf reads more none end same within = (tt, tt)
read_whole limit count (Some held) name mid rest front text buf reads more none end same within =
    let read : Consumes mid rest [] = rw none at more in
    all_of limit held name (held name) mid rest front text refl reads.0 reads.1 read end same within

-- one byte more than the limit was read
pub read_too_much : (limit len : ℕ) (held : Option Held) (name : List ℕ) (rest : Option (List ℕ)) (front : List ℕ)
    → IfSome held (λ h. IsSome (h name) × Consumes (h name) rest front) → len ≡ length front → limit < len → length front ≤ limit + 1
    → IfSome held (λ h. (bytes : List ℕ) × (h name ≡ Some bytes) × (limit < length bytes)) × IfSome held (λ h. TakesBetween (limit + 1) (limit + 1) h name rest)
read_too_much limit len None name rest front reads is more within = (tt, tt)
read_too_much limit len (Some held) name rest front reads is more within =
    let takes = takes_front (limit + 1) (limit + 1) held name (held name) rest front refl reads.0 reads.1 (omega arith) (omega arith) in
    ((takes.0 ++ takes.1, takes.2, omega (arith, length-append takes.0 takes.1, takes.4)), takes)

-- what is answered isn't that the files failed
pub memory_is_no_failure : {T : Type 0} (r : Result T ReadAll) → r ≡ Err cause.Memory → r ≡ Err cause.Failed → ⊥
memory_is_no_failure r is other = absurd cc

pub length_is_no_failure : {T : Type 0} (r : Result T ReadAll) → r ≡ Err cause.TooLong → r ≡ Err cause.Failed → ⊥
length_is_no_failure r is other = absurd cc

pub text_is_no_failure : {T : Type 0} (r : Result T ReadAll) (text : T) → r ≡ Ok text → r ≡ Err cause.Failed → ⊥
text_is_no_failure r text is other = absurd cc

-- ---- while a file is read

pub few_at_first : (len limit : ℕ) → len ≡ 0 → len ≤ limit + 1
few_at_first len limit none = omega (arith, none)

pub none_counted : (reads len : ℕ) → reads ≤ reads + len
none_counted reads len = omega arith

nothing_taken : (rest : Option (List ℕ)) (items : List ℕ) → items ≡ [] → Consumes rest rest items
nothing_taken None items none = tt
nothing_taken (Some left) items none = ap (λ (xs : List ℕ). xs ++ left) (sym none)

-- nothing is read of a file that was begun
pub begun : (held : Option Held) (name : List ℕ) (rest : Option (List ℕ)) (items : List ℕ) → IfSome held (λ h. IsSome rest × (rest ≡ h name)) → items ≡ []
    → IfSome held (λ h. IsSome (h name) × Consumes (h name) rest items)
begun None name rest items is none = tt
begun (Some held) name rest items is none =
    subst (λ (bytes : Option (List ℕ)). IsSome bytes × Consumes bytes rest items) is.1 (is.0, nothing_taken rest items none)

-- one more piece is read
pub reads_on : (held : Option Held) (name : List ℕ) (mid rest : Option (List ℕ)) (front piece items : List ℕ)
    → IfSome held (λ h. IsSome (h name) × Consumes (h name) mid front) → Consumes mid rest piece → items ≡ front ++ piece
    → IfSome held (λ h. IsSome (h name) × Consumes (h name) rest items)
reads_on None name mid rest front piece items reads more is = tt
reads_on (Some held) name mid rest front piece items reads more is =
    (reads.0, subst (λ (xs : List ℕ). Consumes (held name) rest xs) (sym is) (Consumes-trans (held name) mid rest front piece reads.1 more))

pub longer_by : (longer len count : ℕ) (front piece : List ℕ) → longer ≡ length (front ++ piece) → len ≡ length front → count ≡ length piece
    → longer ≡ len + count
longer_by longer len count front piece is was long = omega (arith, is, was, long, length-append front piece)

pub counted_on : (before reads now len longer count : ℕ) → reads ≤ before + len → now ≡ reads + 1 → longer ≡ len + count → ¬ (count ≡ 0)
    → now ≤ before + longer
counted_on before reads now len longer count few more is some = omega (arith, few, more, is, some)

pub less_room : (limit len longer count : ℕ) → longer ≡ len + count → ¬ (count ≡ 0) → len ≤ limit → limit + 1 - longer < limit + 1 - len
less_room limit len longer count is some within = omega (arith, is, some, within)
