-- Log: what a unit tells of its calls, and how it counts its wrong answers.
use Rattle.std.specs.Prelude.{ℕ, ◌≡◌, ◌≢◌, ◌+◌, ◌-◌, ◌^◌, nat_lt, List, [], ◌∷◌, ◌++◌, length, Option, Some, None, Bool, true, false, cond, ◌⊎◌}
use Rattle.coded_unit.specs.declared.call.Call.{Call}
use Rattle.coded_unit.specs.declared.call.Answer.{Answer}

-- a call and its answer
abbrev pub Entry : Type 0
Entry = Call × Answer

-- a log that is told before and after has these entries more; one that is not told before is not told after
abbrev pub GrowsBy : Option (List Entry) → Option (List Entry) → List Entry → Type 0
GrowsBy (Some before) (Some now) entries = now ≡ before ++ entries
GrowsBy (Some before) None entries = Unit {0}
GrowsBy None None entries = Unit {0}
GrowsBy None (Some now) entries = ⊥

-- the next count; a count stands still at 2^64 - 1
abbrev pub one_more : ℕ → ℕ
one_more n = cond (nat_lt n (2 ^ 64 - 1)) (n + 1) n

-- a count of wrong answers stands still at the right answer, and is the next count at any other
abbrev pub Counts : Answer → Answer → ℕ → ℕ → Type 0
Counts given right before now = ((given ≡ right) × (now ≡ before)) ⊎ ((given ≢ right) × (now ≡ one_more before))

-- what a unit with room for so many calls has kept, and whether it did a call past that room
pub record Kept : Type 0 where
  pub room : ℕ
  pub entries : List Entry
  pub past : Bool

-- before the first call
abbrev pub nothing_kept : ℕ → Kept
nothing_kept room = record { room = room; entries = []; past = false }

-- the log, which is told until a call went past the room
abbrev pub told : Kept → Option (List Entry)
told k = cond k.past None (Some k.entries)

-- what is kept after one more call: its entry at the end where there is room, else that a call went past it
abbrev pub after_call : Kept → Entry → Kept
after_call k entry =
    cond (nat_lt (length k.entries) k.room)
    (record k { entries = k.entries ++ entry ∷ [] })
    (record k { past = true })
