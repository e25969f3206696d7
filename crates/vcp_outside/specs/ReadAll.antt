-- What reading a whole file answers and takes, where it is known what is held.
use Rattle.std.specs.Prelude.{◌≡◌, ◌⊎◌, ◌<◌, ◌≤◌, ◌+◌, ℕ, List, ◌++◌, length, Option, Some, None, Result, Ok, Err}
use Rattle.std.specs.Io.KnownBytes.{IsAtEnd}
use Rattle.vcp_outside.specs.declared.reading.ReadAll.{ReadAll}
use Rattle.vcp_outside.specs.declared.reading.ReadAll.TheVariants.{Failed, TooLong, Memory}
use Rattle.vcp_outside.specs.Counts.{Rose}
use Rattle.vcp_outside.specs.Held.{Held}

-- the bytes under the name, up to a limit; a name that is lacking, or files that broke; more bytes than the limit; nothing of memory
abbrev pub ReadsAll : Held → List ℕ → ℕ → ℕ → ℕ → Result (List ℕ) ReadAll → Type 0
ReadsAll held name limit before now (Ok text) = (held name ≡ Some text) × (length text ≤ limit)
ReadsAll held name limit before now (Err Failed) = (held name ≡ None) ⊎ Rose before now
ReadsAll held name limit before now (Err TooLong) = (bytes : List ℕ) × (held name ≡ Some bytes) × (limit < length bytes)
ReadsAll held name limit before now (Err Memory) = Unit {0}

-- between `least` and `most` bytes were taken from the front of the file, and the others are left
abbrev pub TakesBetween : ℕ → ℕ → Held → List ℕ → Option (List ℕ) → Type 0
TakesBetween least most held name rest =
    (front left : List ℕ) × (held name ≡ Some (front ++ left)) × (rest ≡ Some left) × (least ≤ length front) × (length front ≤ most)

-- How many bytes were taken. Of a text that is answered all of its own, within the limit. Where the files failed no
-- more than the limit, or nothing is left, as where the name is lacking. Of a file that is too long exactly one byte
-- more than the limit. Where an allocation failed at least one, for which it was, and at most one more than the limit.
abbrev pub Takes : Held → List ℕ → ℕ → Option (List ℕ) → Result (List ℕ) ReadAll → Type 0
Takes held name limit rest (Ok text) = TakesBetween (length text) limit held name rest
Takes held name limit rest (Err Failed) = TakesBetween 0 limit held name rest ⊎ IsAtEnd rest
Takes held name limit rest (Err TooLong) = TakesBetween (limit + 1) (limit + 1) held name rest
Takes held name limit rest (Err Memory) = TakesBetween 1 (limit + 1) held name rest
