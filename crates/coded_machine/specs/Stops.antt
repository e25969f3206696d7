-- Stops: entries of a log that end in the stop of a run, and the line that tells it.
use Rattle.std.specs.Prelude.{ℕ, ◌≡◌, true, false, List, [], ◌∷◌, ◌++◌, Option, Some}
use Rattle.std.specs.Io.KnownBytes.{Appends}
use Rattle.vcp_base.specs.declared.kind.Kind.TheVariants as kind
use Rattle.vcp_base.specs.declared.kind.StopKind.{StopKind}
use Rattle.vcp_base.specs.declared.kind.StopKind.TheVariants as stop
use Rattle.vcp_base.specs.Stops.{ToldStop}
use Rattle.vcp_base.specs.Types.{fits}
use Rattle.coded_unit.specs.declared.call.Call.{Call}
use Rattle.coded_unit.specs.declared.call.Answer.{Answer as UnitAnswer}
use Rattle.coded_unit.specs.Log.{Entry, GrowsBy}
use Rattle.coded_unit.specs.Words.{value_part}
use Rattle.coded_machine.specs.Calls.{is_word, word_of}
use Rattle.coded_machine.specs.CycleEnds.{stop_of}
use Rattle.coded_machine.specs.Moments.{Moment}

-- each of these is a call of cycle n that was answered by a word
abbrev pub AreWordsOf : ℕ → List Entry → Type 0
AreWordsOf n [] = Unit {0}
AreWordsOf n ((call, a) ∷ entries) = (call.cycle ≡ n) × (is_word a ≡ true) × AreWordsOf n entries

-- Entries end in this stop of operation k in cycle n: the last call is the operation's, and was answered by the stop; or all calls from the
-- operation's on are of that cycle and were answered by words, the operation is an output's, and the value of its word is outside the output's type.
pub data EndInStop (entries : List Entry) (n k : ℕ) (why : StopKind) : Type 0 where
  answered : (earlier : List Entry) (call : Call) (a : UnitAnswer) → entries ≡ earlier ++ (call, a) ∷ [] → call.cycle ≡ n → call.op ≡ k
      → stop_of a ≡ Some why → EndInStop entries n k why
  outside : (earlier later : List Entry) (call : Call) (a : UnitAnswer) → entries ≡ earlier ++ (call, a) ∷ later → call.op ≡ k → why ≡ stop.Operand
      → call.kind ≡ kind.Out → fits call.ty (value_part call.profile (word_of a)) ≡ false → AreWordsOf n ((call, a) ∷ later) → EndInStop entries n k why

-- the log grew by entries that end in this stop of operation k in cycle n; nothing is said where it is not told before and after
abbrev pub GrowsToStop : Option (List Entry) → Option (List Entry) → ℕ → ℕ → StopKind → Type 0
GrowsToStop before now n k why = (entries : List Entry) × GrowsBy before now entries × EndInStop entries n k why

-- The log grew to this stop of operation k, and the line of a stop of the same kind in the same cycle is the last that was written, where `line` is
-- what is written of a stop in a cycle.
pub record TellsStop (line : ℕ → ToldStop → List ℕ) (before after : Moment) (k : ℕ) (why : StopKind) : Type 0 where
  pub cycle : ℕ
  pub told : ToldStop
  pub kind : told.kind ≡ why
  pub front : List ℕ
  pub log : GrowsToStop before.unit.log after.unit.log cycle k why
  pub written : Appends before.out.written after.out.written (front ++ line cycle told)

-- and so it did with a stop of some operation
abbrev pub TellsSomeStop : (ℕ → ToldStop → List ℕ) → Moment → Moment → Type 0
TellsSomeStop line before after = (k : ℕ) × (why : StopKind) × TellsStop line before after k why
