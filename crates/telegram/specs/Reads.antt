-- Reads: what the lines so far give, whatever lines follow.
use Rattle.std.specs.Prelude.{ℕ, ◌<◌, List, ◌++◌, Option, option_map, ℤ, Result, Ok, Err}
use Rattle.telegram.specs.declared.event.Event.{Event}
use Rattle.telegram.specs.declared.event.Event.TheVariants as event
use Rattle.telegram.specs.declared.wire.Wire.{Wire}
use Rattle.telegram.specs.WireRun.{IsEvent}
use Rattle.telegram.specs.declared.script.wire_fault.WireFault.{WireFault}

-- events before what later lines come to
abbrev pub behind : List Event → Result (List Event) WireFault → Result (List Event) WireFault
behind es (Ok more) = Ok (es ++ more)
behind es (Err why) = Err why

-- numbers before those of later words
abbrev pub before : List ℤ → Option (List ℤ) → Option (List ℤ)
before vs more = option_map (λ ws. vs ++ ws) more

-- an event may come after so many cycles
abbrev pub MayCome : ℕ → Event → Type 0
MayCome begun (event.Cycle values) = Unit {0}
MayCome begun (event.Deliver line id number alter) = number < begun

pub record EventFits (w : Wire) (begun : ℕ) (e : Event) : Type 0 where
  pub is : IsEvent w e
  pub comes : MayCome begun e
