use Rattle.std.proofs.Common.{◌≡◌, ◌<◌, ◌^◌, List, length, take}
use Rattle.fault_cover.specs.Counts.{AreCounted}
use Rattle.fault_cover.specs.CoverText.{Covered, delays, heard_of}
use Rattle.fault_cover.proofs.counting.delayed.Given as goal

abbrev pub invariant-classes : goal.invariant-classes
invariant-classes l =
    (covered : List Covered) → AreCounted l.counts covered → length (heard_of covered) < 2 ^ 62 → l.all ≡ delays (heard_of (take l.i covered)) l.n
