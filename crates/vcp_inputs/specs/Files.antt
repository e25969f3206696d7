-- Files: what reading a whole file gives, and why one is rejected.
use Rattle.std.specs.Prelude.{ℕ, ◌≡◌, ◌⊎◌, ◌+◌, ◌<◌, ◌≤◌, List, length, drop, Option, Some, None, Result, Ok, Err}
use Rattle.vcp_outside.specs.Counts.{Rose}
use Rattle.vcp_outside.specs.Held.{Held}
use Rattle.vcp_inputs.specs.declared.refusal.Refusal.{Refusal}
use Rattle.vcp_inputs.specs.declared.refusal.Refusal.TheVariants as refusal
use Rattle.vcp_inputs.specs.declared.refusal.NoInput.{NoInput}
use Rattle.vcp_inputs.specs.declared.refusal.NoInput.TheVariants as input

-- a text is refused: it has more bytes than the limit; or for this cause, where it has not
pub data IsRefused (Why : List ℕ → Refusal → Type 0) (limit : ℕ) (text : List ℕ) : Refusal → Type 0 where
  long : limit < length text → IsRefused Why limit text refusal.Bytes
  short : (r : Refusal) → length text ≤ limit → Why text r → IsRefused Why limit text r

-- why there is nothing of the file under a name: it is lacking or the files broke, or the text is refused
abbrev pub NotLoaded : (List ℕ → Refusal → Type 0) → Held → List ℕ → ℕ → ℕ → ℕ → NoInput → Type 0
NotLoaded Why held name limit before now input.Unread = (held name ≡ None) ⊎ Rose before now
NotLoaded Why held name limit before now (input.Refused r) = (text : List ℕ) × (held name ≡ Some text) × IsRefused Why limit text r
NotLoaded Why held name limit before now input.Memory = Unit {0}

-- what is given of the file under a name, of whose text this is the value, or refused for this cause
abbrev pub Loads : {V : Type 0} → (List ℕ → V → Type 0) → (List ℕ → Refusal → Type 0) → Held → List ℕ → ℕ → ℕ → ℕ → Result V NoInput → Type 0
Loads Is Why held name limit before now (Ok v) = (text : List ℕ) × (held name ≡ Some text) × (length text ≤ limit) × Is text v
Loads Is Why held name limit before now (Err i) = NotLoaded Why held name limit before now i

-- no text is refused for another cause than its length
abbrev pub Never : List ℕ → Refusal → Type 0
Never text r = ⊥

-- what reading a file gives: its bytes, up to the limit, or why there are none
abbrev pub FileRead : Held → List ℕ → ℕ → ℕ → ℕ → Result (List ℕ) NoInput → Type 0
FileRead held name limit before now result = Loads (λ text bytes. bytes ≡ text) Never held name limit before now result

-- the file under a name has more bytes than a limit; one byte more than that was taken, and the others are left
abbrev pub LeavesLong : List ℕ → ℕ → Option (List ℕ) → Held → Type 0
LeavesLong name limit rest held = (bytes : List ℕ) × (held name ≡ Some bytes) × (limit < length bytes) × (rest ≡ Some (drop (limit + 1) bytes))

-- why there is nothing of a text that was read, where this is why it is refused
abbrev pub Untaken : (Refusal → Type 0) → NoInput → Type 0
Untaken Why input.Unread = ⊥
Untaken Why (input.Refused r) = Why r
Untaken Why input.Memory = Unit {0}
