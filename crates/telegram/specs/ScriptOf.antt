-- ScriptOf: the wire and the events of a text, or its first refused line.
use Rattle.std.specs.Prelude.{ℕ, ◌+◌, ◌<◌, Bool, cond, List, [], ◌∷◌, Result, Ok, Err}
use Rattle.std.specs.List.{list_any}
use Rattle.std.specs.Str.Lines.{lines}
use Rattle.vcp_base.specs.Lines.{Line, read_lines}
use Rattle.vcp_base.specs.Words.{words}
use Rattle.telegram.specs.declared.event.Event.{Event}
use Rattle.telegram.specs.declared.event.Event.TheVariants as event
use Rattle.telegram.specs.declared.wire.Wire.{Wire}
use Rattle.telegram.specs.WireRun.{AreEvents, IsWire}
use Rattle.telegram.specs.declared.script.script.WireScript.{WireScript}
use Rattle.telegram.specs.declared.script.wire_fault.WireFault.{WireFault}
use Rattle.telegram.specs.declared.script.wire_fault.WireFault.TheVariants as refusal
use Rattle.telegram.specs.Forms.{head_of, event_of, names_wire}

-- how many cycles have begun after an event
abbrev pub begun_after : ℕ → Event → ℕ
begun_after begun (event.Cycle values) = begun + 1
begun_after begun (event.Deliver line id number alter) = begun

-- an event before those of the later lines, unless one of them is refused
abbrev pub onto : Event → Result (List Event) WireFault → Result (List Event) WireFault
onto e (Ok es) = Ok (e ∷ es)
onto e (Err why) = Err why

-- what a line says, and what the later ones come to behind it
abbrev pub with_event : Result Event WireFault → (Event → Result (List Event) WireFault) → Result (List Event) WireFault
with_event (Ok e) later = onto e (later e)
with_event (Err why) later = Err why

-- the events of these lines, after so many cycles, or the first refusal
abbrev pub events_of : Wire → ℕ → List Line → Result (List Event) WireFault
events_of w begun [] = Ok []
events_of w begun (line ∷ more) = with_event (event_of w begun line.number (words line.text)) (λ e. events_of w (begun_after begun e) more)

-- a wire and its events
abbrev pub whole : Wire → Result (List Event) WireFault → Result WireScript WireFault
whole w (Ok es) = Ok (record { wire = w; events = es })
whole w (Err why) = Err why

abbrev pub with_wire : Result Wire WireFault → (Wire → Result (List Event) WireFault) → Result WireScript WireFault
with_wire (Ok w) later = whole w (later w)
with_wire (Err why) later = Err why

-- the script of these lines, the first of which has the numbers of the wire
abbrev pub script_said : List Line → Result WireScript WireFault
script_said [] = Err (refusal.Form 1)
script_said (line ∷ more) = with_wire (head_of line.number (words line.text)) (λ w. events_of w 0 more)

-- the line's first word is `wire`
abbrev pub is_head : Line → Bool
is_head line = names_wire (words line.text)

-- The script of a text, or its first refused line. A text in which no line's first word is `wire` is refused at line 1. Lines end at LF, and a
-- CR before it is dropped; the last line needs no LF, and keeps a CR at its end. Empty lines and those that begin with `#` say nothing.
abbrev pub script_of : List ℕ → Result WireScript WireFault
script_of text = cond (list_any is_head (read_lines 1 (lines text))) (script_said (read_lines 1 (lines text))) (Err (refusal.Form 1))

-- ---- what holds of a script

-- what is delivered was sent: its cycle is one of those before it
abbrev pub AreSent : ℕ → List Event → Type 0
AreSent begun [] = Unit {0}
AreSent begun (event.Cycle values ∷ es) = AreSent (begun + 1) es
AreSent begun (event.Deliver line id number alter ∷ es) = (number < begun) × AreSent begun es

-- the wire's numbers are in their ranges, each event is one of the wire, and what is delivered was sent
pub record ScriptFits (script : WireScript) : Type 0 where
  pub wire : IsWire script.wire
  pub events : AreEvents script.wire script.events
  pub sent : AreSent 0 script.events
