-- Walk: the stretches of a column, one after another.
use Rattle.std.proofs.Common.{◌≡◌, ℕ, zero, suc, ◌+◌, ◌-◌, ◌<◌, ◌≤◌, List, [], ◌∷◌, ◌++◌, length, refl, sym, ap, ◌∙◌, arith, append_assoc}
use Rattle.std.proofs.Math.Nat.{le_trans, mul-le-mul_right}
use Rattle.std.proofs.lemmas.List.{append-nil}
use Rattle.std.specs.List.{AllByRecursion}
use Rattle.vcp_outside.specs.Drawing.{each_below}
use Rattle.pictures.specs.declared.waves.stretches.Stretch.{Stretch}
use Rattle.pictures.specs.RunOf.{Recorded}
use Rattle.pictures.specs.WavesDrawn.{end_of, stretch_of, stretches_from, lane}
use Rattle.pictures.specs.WavesElements.{HasRoom}
use Rattle.pictures.proofs.WavesGoing.{each_more}
use Rattle.pictures.proofs.StretchEnds.{grows}
use Rattle.pictures.proofs.WavesWholeDrawing.{some_left, none_left}

-- these are the stretches of a column before a cycle
pub record IsBefore (run : Recorded) (column at : ℕ) (drawn : List Stretch) : Type 0 where
  pub most : ℕ
  pub enough : length run.rows ≤ at + most
  pub whole : lane run column ≡ drawn ++ stretches_from run column at most

pub begun : (run : Recorded) (column : ℕ) → IsBefore run column 0 []
begun run column = record { most = length run.rows; enough = omega arith; whole = refl }

next_of : (run : Recorded) (column at most : ℕ) (drawn : List Stretch) → at < length run.rows → length run.rows ≤ at + most
    → lane run column ≡ drawn ++ stretches_from run column at most → IsBefore run column (end_of run column at) (drawn ++ stretch_of run column at ∷ [])
next_of run column at zero drawn less enough whole = absurd (omega (arith, less, enough))
next_of run column at (suc most) drawn less enough whole =
    let more = grows run column at less in
    record {
      most = most;
      enough = omega (arith, more, enough);
      whole = whole
          ∙ (ap (λ (t : List Stretch). drawn ++ t) (some_left run column at most less)
          ∙ sym (append_assoc drawn (stretch_of run column at ∷ []) (stretches_from run column (end_of run column at) most)));
    }

-- one stretch more
next : (run : Recorded) (column at : ℕ) (drawn : List Stretch) → at < length run.rows → IsBefore run column at drawn
    → IsBefore run column (end_of run column at) (drawn ++ stretch_of run column at ∷ [])
next run column at drawn less before = next_of run column at before.most drawn less before.enough before.whole

pub next_at : (run : Recorded) (column at : ℕ) (s : Stretch) (drawn : List Stretch) → s ≡ stretch_of run column at → at < length run.rows
    → IsBefore run column at drawn → IsBefore run column s.end (drawn ++ s ∷ [])
next_at run column at s drawn e less before = rw e (next run column at drawn less before)

pub all : (run : Recorded) (column at : ℕ) (drawn : List Stretch) → length run.rows ≤ at → IsBefore run column at drawn → lane run column ≡ drawn
all run column at drawn h before =
    before.whole ∙ (ap (λ (t : List Stretch). drawn ++ t) (none_left run column at before.most h) ∙ append-nil drawn)

-- ---- their texts have room

both_have : (cell : ℕ) (xs ys : List Stretch) → AllByRecursion (HasRoom cell) xs → AllByRecursion (HasRoom cell) ys → AllByRecursion (HasRoom cell) (xs ++ ys)
both_have cell [] ys h k = k
both_have cell (x ∷ xs) ys h k = (h.0, both_have cell xs ys h.1 k)

pub one_has : (cell : ℕ) (xs : List Stretch) (s : Stretch) → AllByRecursion (HasRoom cell) xs → HasRoom cell s → AllByRecursion (HasRoom cell) (xs ++ s ∷ [])
one_has cell xs s h k = both_have cell xs (s ∷ []) h (k, tt)

-- a text that has room in narrow cycles has room in wider ones
pub wider : (here cell : ℕ) (s : Stretch) → here ≤ cell → HasRoom here s → HasRoom cell s
wider here cell s le has = le_trans has (mul-le-mul_right (s.end - s.start) le)

pub columns_have : (cell : ℕ) (run : Recorded) (n : ℕ) → AllByRecursion (HasRoom cell) (each_below (lane run) n) → AllByRecursion (HasRoom cell) (lane run n)
    → AllByRecursion (HasRoom cell) (each_below (lane run) (n + 1))
columns_have cell run n h k = rw (each_more (lane run) n) (both_have cell (each_below (lane run) n) (lane run n) h k)
