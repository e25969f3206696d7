-- Seen: what contracts see, at one moment, of the objects that are handed in together.
use Rattle.std.specs.Prelude.{ℕ, ◌≡◌, List, [], Option}
use Rattle.std.specs.Io.KnownBytes.{Appends}
use Rattle.coded_unit.specs.Seen.{UnitSeen}
use Rattle.vcp_outside.specs.Seen.{FilesSeen, SinkSeen}
use Rattle.coded_machine.specs.Moments.{Moment}

-- all that is handed to a program
pub record Outside : Type 0 where
  pub files : FilesSeen
  pub unit : UnitSeen
  pub out : SinkSeen
  pub err : SinkSeen

abbrev pub outside : FilesSeen → UnitSeen → SinkSeen → SinkSeen → Outside
outside files unit out err = record { files = files; unit = unit; out = out; err = err }

abbrev pub moment_of : Outside → Moment
moment_of o = record { unit = o.unit; out = o.out }

-- ---- what is said of two moments

-- how much of a text was appended to what was written: a front of it, or a part that lacks something
abbrev pub Appending : Type 1
Appending = Option (List ℕ) → Option (List ℕ) → List ℕ → Type 0

-- the unit was not called, and nothing was written to the output
pub record Still (before after : Moment) : Type 0 where
  pub unit : after.unit ≡ before.unit
  pub out : Appends before.out.written after.out.written []
