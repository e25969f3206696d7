-- PairEnds: how a cycle of two channels ends, read off the end and the row of outputs of each.
use Rattle.std.specs.Prelude.{◌≡◌, ◌≢◌, ℕ, ◌==◌, ◌&&◌, cond, List, take, slice_get, Option, Some, None, ℤ}
use Rattle.vcp_base.specs.Differences.{Difference, first_difference}
use Rattle.vcp_base.specs.Kinds.{same_stop}
use Rattle.coded_machine.specs.declared.cycle_end.CycleEnd.{CycleEnd}
use Rattle.coded_machine.specs.declared.cycle_end.CycleEnd.TheVariants as end
use Rattle.pair_channel.specs.declared.pair_end.PairEnd.{PairEnd}
use Rattle.pair_channel.specs.declared.pair_end.PairEnd.TheVariants as pair

-- the end of a cycle that both channels released: the first output whose values differ, if there is one
abbrev pub released_unless : Option Difference → PairEnd
released_unless None = pair.Released
released_unless (Some d) = pair.Differ d.place d.first d.second

-- How a cycle ends that the two channels ended so, with these rows of outputs. It is released where both released it and no output
-- differs; it is stopped where both stopped at one operation for one cause; in all other cases, two refusals among them, the channels parted.
abbrev pub both : CycleEnd → CycleEnd → List ℤ → List ℤ → PairEnd
both end.Released end.Released row other = released_unless (first_difference row other 0)
both (end.Stopped k why) (end.Stopped l cause) row other =
    cond (k == l && same_stop why cause) (pair.Stopped k why) (pair.Parted (end.Stopped k why) (end.Stopped l cause))
both e f row other = pair.Parted e f

-- output i is the first that has different values in these rows, namely these
pub record FirstDifference (row other : List ℤ) (i : ℕ) (x y : ℤ) : Type 0 where
  pub before : take i row ≡ take i other
  pub here : slice_get row i ≡ Some x
  pub there : slice_get other i ≡ Some y
  pub differ : x ≢ y

-- the two channels released the cycle, or stopped it at one operation for one cause
abbrev pub Alike : CycleEnd → CycleEnd → Type 0
Alike end.Released f = f ≡ end.Released
Alike (end.Stopped k why) f = f ≡ end.Stopped k why
Alike (end.Refused i found expected) f = ⊥

-- Why a cycle ended so that the two channels ended so, with these rows of outputs.
abbrev pub PairCause : CycleEnd → CycleEnd → List ℤ → List ℤ → PairEnd → Type 0
PairCause e f row other pair.Released = (e ≡ end.Released) × (f ≡ end.Released) × (row ≡ other)
PairCause e f row other (pair.Stopped k why) = (e ≡ end.Stopped k why) × (f ≡ end.Stopped k why)
PairCause e f row other (pair.Parted x y) = (x ≡ e) × (y ≡ f) × (Alike e f → ⊥)
PairCause e f row other (pair.Differ i x y) = (e ≡ end.Released) × (f ≡ end.Released) × FirstDifference row other i x y
