-- Leftovers: the lines of operations whose faults run on or are beyond the horizon.
use Rattle.std.specs.Prelude.{◌≡◌, ◌≢◌, ℕ, ◌+◌, ◌*◌, ◌/◌, ◌%◌, ◌<◌, ◌≤◌, ◌^◌, ◌==◌, cond, false, List, [], ◌∷◌, ◌++◌, length, map, flat_map, count_by}
use Rattle.std.specs.Prelude.{decimal, codes, Option, Some, None, All}
use Rattle.op_graph.specs.Lists.{Lists}
use Rattle.fault_sites.specs.Sites.{each_below}
use Rattle.fault_cover.specs.declared.class.CoverClass.{CoverClass}
use Rattle.fault_cover.specs.declared.left.Left.{Left}
use Rattle.fault_cover.specs.declared.left.LeftLine.{LeftLine}
use Rattle.fault_cover.specs.declared.left.LeftEffect.{LeftEffect}
use Rattle.fault_cover.specs.declared.left.LeftEffect.TheVariants as left
use Rattle.fault_cover.specs.declared.effect.Effect.{Effect}
use Rattle.fault_cover.specs.declared.effect.Effect.TheVariants as told
use Rattle.fault_cover.specs.CoverText.{Covered, Heard, IsCovered, count_told, heard_at, heard_of, is_beyond, number_text}
use Rattle.fault_cover.specs.Telling.{Subject}

-- ---- numbers that stand for a number of borders and an operation, of which there are w

abbrev pub key_if : ℕ → Effect → List ℕ
key_if w (told.Refused borders) = []
key_if w told.Nothing = []
key_if w (told.Shows borders output) = []
key_if w (told.RunsOn borders q) = (borders * w + q) ∷ []
key_if w told.Beyond = []

abbrev pub keys_of : ℕ → List Heard → List ℕ
keys_of w heard = flat_map (λ h. key_if w h.told) heard

-- how often a number is in a list
abbrev pub count_key : List ℕ → ℕ → ℕ
count_key keys key = count_by (λ x. x == key) keys

-- what is kept of the faults of an operation, where memory wasn't lacking
abbrev pub Leaves : Lists → Left → List Heard → Type 0
Leaves g l heard = (l.keys.lacked ≡ false → l.keys.list.items ≡ keys_of (length g.operations) heard) × (length heard < 2 ^ 62 → l.beyond ≡ count_told is_beyond heard)

-- none of a list is as great as `from` and below `most`
abbrev pub NoneFrom : List ℕ → ℕ → ℕ → Type 0
NoneFrom keys from most = (x : ℕ) → from ≤ x → x < most → count_key keys x ≡ 0

pub record IsLeastKey (keys : List ℕ) (from most key : ℕ) : Type 0 where
  pub high : from ≤ key
  pub low : key < most
  pub there : count_key keys key ≢ 0
  pub least : NoneFrom keys from key

-- this is the least of them, if there is one
abbrev pub IsLeast : List ℕ → ℕ → ℕ → Option ℕ → Type 0
IsLeast keys from most None = NoneFrom keys from most
IsLeast keys from most (Some key) = IsLeastKey keys from most key

-- ---- lines

-- of operation k so many run on, or are beyond
abbrev pub runs_on : ℕ → ℕ → ℕ → ℕ → LeftLine
runs_on k borders q n = record { at = k; told = left.RunsOn borders q; faults = n }

abbrev pub beyond : ℕ → ℕ → LeftLine
beyond k n = record { at = k; told = left.Beyond; faults = n }

-- those that run on where a number stands for, and those that are beyond; none where there are none
abbrev pub run_line : ℕ → ℕ → List ℕ → ℕ → LeftLine
run_line k w keys key = runs_on k (key / w) (key % w) (count_key keys key)

abbrev pub key_line : ℕ → ℕ → List ℕ → ℕ → List LeftLine
key_line k w keys key = cond (count_key keys key == 0) [] (run_line k w keys key ∷ [])

abbrev pub beyond_line : ℕ → ℕ → List LeftLine
beyond_line k n = cond (n == 0) [] (beyond k n ∷ [])

-- of operation k
abbrev pub lines_at : Lists → ℕ → List Heard → ℕ → List LeftLine
lines_at g horizon heard k =
    each_below (key_line k (length g.operations) (keys_of (length g.operations) heard)) ((horizon + 1) * length g.operations)
    ++ beyond_line k (count_told is_beyond heard)

-- what is reported of the faults of these classes, of which there are few
pub record AreCovered (s : Subject) (classes : List CoverClass) (covered : List Covered) : Type 0 where
  pub classes_are : map (λ c. c.class) covered ≡ classes
  pub all : All (IsCovered s) covered
  pub few : length (heard_of covered) < 2 ^ 62

-- the lines of operation k come behind others
abbrev pub AreLinesAt : Subject → List CoverClass → ℕ → List LeftLine → List LeftLine → Type 0
AreLinesAt s classes k old new =
    (covered : List Covered) → AreCovered s classes covered → new ≡ old ++ lines_at s.graph s.horizon (heard_at covered k) k

-- these are the lines of the first operations
abbrev pub AreLinesOf : Subject → List CoverClass → ℕ → List LeftLine → Type 0
AreLinesOf s classes n lines =
    (covered : List Covered) → AreCovered s classes covered → lines ≡ each_below (λ k. lines_at s.graph s.horizon (heard_at covered k) k) n

abbrev pub effect_text : LeftEffect → List ℕ
effect_text (left.RunsOn borders q) = codes "runs-on " ++ (decimal borders ++ (codes " " ++ decimal q))
effect_text left.Beyond = codes "beyond"

abbrev pub line_text : Lists → LeftLine → List ℕ
line_text g l = effect_text l.told ++ number_text g l.at l.faults
