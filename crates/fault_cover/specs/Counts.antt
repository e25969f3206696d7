-- Counts: what is counted of the faults of classes.
use Rattle.std.specs.Prelude.{◌≡◌, ℕ, ◌+◌, ◌<◌, ◌^◌, List, [], ◌∷◌, length, map, slice_index_or, All}
use Rattle.fault_cover.specs.declared.class.CoverClass.{CoverClass}
use Rattle.fault_cover.specs.declared.counting.ClassCount.{ClassCount}
use Rattle.fault_cover.specs.declared.counting.Counting.{Counting}
use Rattle.fault_cover.specs.declared.tally.Tally.{Tally}
use Rattle.fault_cover.specs.declared.effect.Effect.{Effect}
use Rattle.fault_cover.specs.declared.effect.Effect.TheVariants as told
use Rattle.fault_cover.specs.Classes.{singles}
use Rattle.fault_cover.specs.CoverText.{AreHeard, Covered, Heard, IsCovered, delays, tally}
use Rattle.fault_cover.specs.Telling.{Subject}

-- one more of which this is reported
abbrev pub counted : Tally → Effect → Tally
counted t (told.Refused borders) = record t { refused = t.refused + 1 }
counted t told.Nothing = record t { nothing = t.nothing + 1 }
counted t (told.Shows borders output) = record t { shows = t.shows + 1 }
counted t (told.RunsOn borders q) = record t { runs_on = t.runs_on + 1 }
counted t told.Beyond = record t { beyond = t.beyond + 1 }

-- two tallies together
abbrev pub together : Tally → Tally → Tally
together s t = record {
  refused = s.refused + t.refused;
  nothing = s.nothing + t.nothing;
  shows = s.shows + t.shows;
  runs_on = s.runs_on + t.runs_on;
  beyond = s.beyond + t.beyond;
}

-- how many are refused so many cycles later, a number a row
pub record AreDelays (rows : List ℕ) (heard : List Heard) : Type 0 where
  pub many : length rows ≡ 17
  pub each : (n : ℕ) → n < 17 → slice_index_or rows n 0 ≡ delays heard n

pub record IsCounted (c : Counting) (heard : List Heard) : Type 0 where
  pub tally_is : c.tally ≡ tally heard
  pub delays_are : AreDelays c.delays heard

-- as far as the counters count
abbrev pub Counts : Counting → List Heard → Type 0
Counts c heard = length heard < 2 ^ 62 → IsCounted c heard

-- what is counted of the faults of a class
pub record IsClassCount (s : Subject) (class : CoverClass) (n : ClassCount) : Type 0 where
  pub heard : List Heard
  pub are : AreHeard s (singles class s.graph) heard
  pub class_is : n.class ≡ class
  pub counts : Counts n.counting heard

-- each of these is what is counted of a class
abbrev pub AreCounted : List ClassCount → List Covered → Type 0
AreCounted [] [] = Unit {0}
AreCounted [] (c ∷ covered) = ⊥
AreCounted (n ∷ counts) [] = ⊥
AreCounted (n ∷ counts) (c ∷ covered) = (n.class ≡ c.class) × Counts n.counting c.heard × AreCounted counts covered

-- of these classes
pub record AreCountsOf (s : Subject) (classes : List CoverClass) (counts : List ClassCount) : Type 0 where
  pub covered : List Covered
  pub classes_are : map (λ c. c.class) covered ≡ classes
  pub all : All (IsCovered s) covered
  pub counted_are : AreCounted counts covered
