-- Runs: what a wire's script leaves behind on any unit.
use Rattle.std.specs.Prelude.{◌≡◌, ◌<◌, ◌≤◌, ◌+◌, ◌-◌, ℕ, zero, suc, List, [], ◌∷◌, ◌++◌, length, Option, Some, None, IfSome, ℤ, Result, Ok, Err}
use Rattle.std.specs.Io.KnownBytes.{Appends}
use Rattle.vcp_outside.specs.Counts.{Rose}
use Rattle.vcp_outside.specs.Seen.{SinkSeen}
use Rattle.vcp_outside.specs.Written.{AppendsPart}
use Rattle.coded_unit.specs.Log.{GrowsBy}
use Rattle.coded_unit.specs.Seen.{UnitSeen, StaysHonest}
use Rattle.telegram.specs.declared.event.Event.{Event}
use Rattle.telegram.specs.declared.event.Event.TheVariants as event
use Rattle.telegram.specs.declared.receipt.Receipt.{Receipt}
use Rattle.telegram.specs.declared.receipt.Receipt.TheVariants as receipt
use Rattle.telegram.specs.declared.wire.Wire.{Wire}
use Rattle.telegram.specs.Deliveries.{delivered}
use Rattle.telegram.specs.Sendings.{IsNoWord}
use Rattle.telegram.specs.WireRead.{wire_read}
use Rattle.telegram.specs.WireRun.{Every, Handing, sent_in, wired}
use Rattle.telegram.specs.declared.runs.wire_end.WireEnd.{WireEnd}
use Rattle.telegram.specs.declared.runs.wire_end.WireEnd.TheVariants as end
use Rattle.telegram.specs.declared.runs.wire_end.WireRunFault.{WireRunFault}
use Rattle.telegram.specs.declared.runs.wire_end.WireRunFault.TheVariants as fault
use Rattle.telegram.specs.Sends.{Cut, calls_of}
use Rattle.telegram.specs.WireLines.{wire_end_text, handings_text, unsent_text}

-- ---- what is printed

-- the events before the cycle of this number begins
abbrev pub events_before : ℕ → List Event → List Event
events_before n [] = []
events_before zero (event.Cycle values ∷ es) = []
events_before (suc n) (event.Cycle values ∷ es) = event.Cycle values ∷ events_before n es
events_before n (event.Deliver line id number alter ∷ es) = event.Deliver line id number alter ∷ events_before n es

-- The handings that are told where the sendings had these words, a list of them a cycle, by the rules of the receiver: all of them; or where a
-- sending was answered by no word, those before its cycle.
abbrev pub told_handings : Wire → List Event → List (List ℤ) → Option Cut → List Handing
told_handings w es words None = wire_read w words es
told_handings w es words (Some c) = wire_read w words (events_before (length words) es)

-- what stands behind their lines: the totals, or who didn't send
abbrev pub told_end : List Event → List (List ℤ) → Option Cut → List Handing → List ℕ
told_end es words None handings = wire_end_text (length (sent_in es)) (length (delivered handings))
told_end es words (Some c) handings = unsent_text (length words) (length c.row)

-- what is read off these words: a line for each telegram that is handed, and what stands behind
abbrev pub told_text : Wire → List Event → List (List ℤ) → Option Cut → List ℕ
told_text w es words cut = handings_text (told_handings w es words cut) ++ told_end es words cut (told_handings w es words cut)

-- what is meant: the lines and the totals of the wire run
abbrev pub meant_text : Wire → List Event → List ℕ
meant_text w es = handings_text (wired w es) ++ wire_end_text (length (sent_in es)) (length (delivered (wired w es)))

-- how many values a receipt delivers
abbrev pub one_of : Receipt → ℕ
one_of (receipt.Delivered v) = 1
one_of (receipt.Early begun) = 0
one_of (receipt.Stray found expected) = 0
one_of (receipt.Order last) = 0
one_of (receipt.Age now) = 0
one_of receipt.Value = 0

-- ---- a run

-- Words for the first cycles, one for each sender; and where a sending of the next cycle was answered by no word, those of the senders before it.
pub record AreWords (w : Wire) (sent words : List (List ℤ)) (cut : Option Cut) : Type 0 where
  pub rows : Every (λ row. length row ≡ w.senders) words
  pub few : length words ≤ length sent
  pub cut_is : IfSome cut (λ c. (length words < length sent) × (length c.row < w.senders) × IsNoWord c.answer)

-- a part of what these words come to, whatever words the later cycles have
abbrev pub PartTold : Wire → List Event → List (List ℤ) → Option Cut → Option (List ℕ) → Option (List ℕ) → Type 0
PartTold w es words None old new =
    (later : List (List ℤ)) → length words + length later ≡ length (sent_in es) → AppendsPart old new (told_text w es (words ++ later) None)
PartTold w es words (Some c) old new = AppendsPart old new (told_text w es words (Some c))

-- the lines of all that is handed before the last cycle that was begun, and maybe more
abbrev pub EarlierTold : Wire → List Event → List (List ℤ) → Option Cut → Option (List ℕ) → Option (List ℕ) → Type 0
EarlierTold w es words None old new = (more : List ℕ) × Appends old new (handings_text (wire_read w words (events_before (length words - 1) es)) ++ more)
EarlierTold w es words (Some c) old new = (more : List ℕ) × Appends old new (handings_text (wire_read w words (events_before (length words) es)) ++ more)

-- How a run ended whose sendings had these answers. At the end of the script, with words for all cycles, all that is read off them is written; at a
-- sending that was answered by no word, all up to it; where a write failed, a part, with all lines before the last cycle that was begun. Where
-- there was no memory, nothing was done.
abbrev pub EndsSo : Wire → List Event → List (List ℤ) → Option Cut → SinkSeen → SinkSeen → Result WireEnd WireRunFault → Type 0
EndsSo w es words cut old new (Ok end.Complete) =
    (length words ≡ length (sent_in es)) × (cut ≡ None) × Appends old.written new.written (told_text w es words None)
EndsSo w es words cut old new (Ok (end.Unsent cycle id)) =
    (c : Cut) × (cut ≡ Some c) × (cycle ≡ length words) × (id ≡ length c.row) × Appends old.written new.written (told_text w es words (Some c))
EndsSo w es words cut old new (Err fault.Write) =
    Rose old.faults new.faults × PartTold w es words cut old.written new.written × EarlierTold w es words cut old.written new.written
EndsSo w es words cut old new (Err fault.Memory) = (new ≡ old) × (words ≡ []) × (cut ≡ None)

-- What comes where what is meant comes: to the end of the script, with words of which that is read; where a write failed, a part of it is written.
abbrev pub MeantSo : Wire → List Event → List (List ℤ) → SinkSeen → SinkSeen → Result WireEnd WireRunFault → Type 0
MeantSo w es words old new (Ok e) = (e ≡ end.Complete) × (told_text w es words None ≡ meant_text w es)
MeantSo w es words old new (Err fault.Write) = AppendsPart old.written new.written (meant_text w es)
MeantSo w es words old new (Err fault.Memory) = Unit {0}

-- the count of wrong answers rose where a sending was answered by no word
abbrev pub RoseBy : Option Cut → UnitSeen → UnitSeen → Type 0
RoseBy None before after = Unit {0}
RoseBy (Some c) before after = Rose before.wrong after.wrong

-- What a wire's script leaves behind. Where the log is told, it grew by one call a sender and cycle, in order, with the unit's answers, and by nothing
-- else; where it is not, these are some answers of that form. What is written is read off them by the rules of the receiver. Where no answer
-- was wrong, it is what is meant. Where there was no memory, no call was made.
pub record RunsWire (w : Wire) (es : List Event) (before after : UnitSeen) (old new : SinkSeen) (result : Result WireEnd WireRunFault) : Type 0 where
  pub words : List (List ℤ)
  pub cut : Option Cut
  pub are : AreWords w (sent_in es) words cut
  pub log : GrowsBy before.log after.log (calls_of w (sent_in es) words cut)
  pub ends : EndsSo w es words cut old new result
  pub rose : RoseBy cut before after
  pub honest : StaysHonest before after → MeantSo w es words old new result
  pub still : result ≡ Err fault.Memory → after ≡ before
