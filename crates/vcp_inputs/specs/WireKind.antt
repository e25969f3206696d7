-- WireKind: the script of a wire that is run: what holds after it, what holds where it was cut off, and what holds of all that is
-- delivered.
-- What `wire` writes and its status are read off the words that the unit answered, by the rules of the
-- receiver: a line for each telegram that is handed, and the totals, with status 0; or, up to the first
-- sending that is answered by no word, the lines before it and the one that says so, with status 3. A kept
-- log grew by exactly one call for each sender and cycle, in order, with these answers, up to the first that
-- is no word. So unless the status is 5, 6 or 7.
-- Where no answer was wrong, it is the text of the wire run, which speaks of values, signatures and numbers
-- and of no word, and the status 0; of a run that was cut off, a part of that text is there.
use Rattle.std.specs.Prelude.{ℕ, ℤ, ◌≡◌, ◌+◌, List, [], ◌++◌, length, Option, Some, None}
use Rattle.coded_unit.specs.Log.{GrowsBy}
use Rattle.coded_unit.specs.Seen.{UnitSeen, StaysHonest}
use Rattle.telegram.specs.Deliveries.{AreYoung, ComeFromSender, Rising, delivered}
use Rattle.telegram.specs.WireRead.{right_words}
use Rattle.telegram.specs.WireRun.{sent_in, wired}
use Rattle.telegram.specs.declared.script.script.WireScript.{WireScript}
use Rattle.telegram.specs.ScriptOf.{ScriptFits}
use Rattle.telegram.specs.Runs.{AreWords, EarlierTold, RoseBy, meant_text, told_handings, told_text}
use Rattle.telegram.specs.Sends.{Cut, calls_of}
use Rattle.coded_machine.specs.Moments.{Moment}
use Rattle.vcp_inputs.specs.Answer.{Answer, printed}
use Rattle.vcp_inputs.specs.Seen.{Appending}

-- the status: 3 where a sending was answered by no word
abbrev pub wire_status : Option Cut → ℕ
wire_status None = 0
wire_status (Some c) = 3

-- the answer where the sendings had these words: a line for each telegram that the receiver is handed, and the last line
abbrev pub wire_answer : WireScript → List (List ℤ) → Option Cut → Answer
wire_answer s words cut = record { out = told_text s.wire s.events words cut; err = []; status = wire_status cut }

-- the answer that is meant: the lines of the wire run, and the totals
abbrev pub wire_meant : WireScript → Answer
wire_meant s = printed (meant_text s.wire s.events)

-- The script was run, to its end or to a sending that was answered by no word. The told log grew by one call a sender and cycle, in order,
-- with these words, and what is answered is read off them by the rules of the receiver. Where no answer was wrong, it is what is meant; and
-- the count of wrong answers rose where a sending was answered by no word.
pub record WireDone (s : WireScript) (before after : UnitSeen) (x : Answer) : Type 0 where
  pub words : List (List ℤ)
  pub cut : Option Cut
  pub fits : ScriptFits s
  pub are : AreWords s.wire (sent_in s.events) words cut
  pub whole : cut ≡ None → length words ≡ length (sent_in s.events)
  pub log : GrowsBy before.log after.log (calls_of s.wire (sent_in s.events) words cut)
  pub read : x ≡ wire_answer s words cut
  pub rose : RoseBy cut before after
  pub honest : StaysHonest before after → x ≡ wire_meant s

-- so much of what these words come to was written, whatever words the later cycles have
abbrev pub WritesTold : Appending → WireScript → List (List ℤ) → Option Cut → Moment → Moment → Type 0
WritesTold Writes s words None before after =
    (later : List (List ℤ)) → length words + length later ≡ length (sent_in s.events)
    → Writes before.out.written after.out.written (wire_answer s (words ++ later) None).out
WritesTold Writes s words (Some c) before after = Writes before.out.written after.out.written (wire_answer s words (Some c)).out

-- Some of it was done, where `Writes` says how much was written: so much of what these words come to, by which the log grew, with the lines of
-- all that is handed before the last cycle that was begun. Where no answer was wrong, it is so much of what is meant.
pub record WireLeft (s : WireScript) (Writes : Appending) (before after : Moment) : Type 0 where
  pub words : List (List ℤ)
  pub cut : Option Cut
  pub fits : ScriptFits s
  pub are : AreWords s.wire (sent_in s.events) words cut
  pub log : GrowsBy before.unit.log after.unit.log (calls_of s.wire (sent_in s.events) words cut)
  pub text : WritesTold Writes s words cut before after
  pub earlier : EarlierTold s.wire s.events words cut before.out.written after.out.written
  pub rose : RoseBy cut before.unit after.unit
  pub honest : StaysHonest before.unit after.unit → Writes before.out.written after.out.written (wire_meant s).out

-- What holds of all that is told of a script's receiver. Whatever words are answered, the delivered numbers strictly rise, and nothing is
-- delivered before its sending nor more cycles after it than the age. Where all words are the right ones, what is told is the wire run, in which
-- what is delivered of a telegram that wasn't altered is what the heard sender sent under its number.
pub record DeliversRightly (s : WireScript) : Type 0 where
  pub rises : (words : List (List ℤ)) (cut : Option Cut) → Rising (delivered (told_handings s.wire s.events words cut))
  pub young : (words : List (List ℤ)) (cut : Option Cut) → AreYoung s.wire.age (told_handings s.wire s.events words cut)
  pub right : told_handings s.wire s.events (right_words s.wire 0 (sent_in s.events)) None ≡ wired s.wire s.events
  pub sent : ComeFromSender s.wire s.events (wired s.wire s.events)

-- so of each script that fits
abbrev pub WiresDeliver : Type 0
WiresDeliver = (s : WireScript) → ScriptFits s → DeliversRightly s
