-- A line that is gathered in a buffer on its way to a sink.
use Rattle.std.specs.Prelude.{◌≡◌, ℕ, List, ◌++◌, length, Option, Result}
use Rattle.vcp_outside.specs.declared.failed.Failed.{Failed}
use Rattle.vcp_outside.specs.Seen.{SinkSeen}
use Rattle.vcp_outside.specs.Written.{Writes}

-- a line on its way: the bytes that are still to be written, and how the writes before them went
pub record Gathered : Type 0 where
  pub pending : List ℕ
  pub so_far : Result (Unit {0}) Failed

-- This text is in the line: a front of it was written, or a part of that front after a failure, and the rest is still to
-- be written. `start` and `before` are what the sink told when the line began, `now` and `faults` what it tells now.
pub record IsGathered (start now : Option (List ℕ)) (before faults : ℕ) (text : List ℕ) (line : Gathered) : Type 0 where
  pub front : List ℕ
  pub joined : text ≡ front ++ line.pending
  pub written : Writes start now before faults front line.so_far

-- a call gathers these bytes: whatever text is in the line before it, that text and then the bytes are in it afterwards
abbrev pub Gathers : Option (List ℕ) → Option (List ℕ) → ℕ → ℕ → Gathered → Gathered → List ℕ → Type 0
Gathers old new faults_old faults_new line_old line_new bytes =
    (start : Option (List ℕ)) (before : ℕ) (text : List ℕ) → IsGathered start old before faults_old text line_old
    → IsGathered start new before faults_new (text ++ bytes) line_new

-- the same of a sink as it is seen before and after the call
abbrev pub GathersTo : SinkSeen → SinkSeen → Gathered → Gathered → List ℕ → Type 0
GathersTo old new line_old line_new bytes = Gathers old.written new.written old.faults new.faults line_old line_new bytes

-- the bytes are so many, and then this piece
pub record EndsAt (bytes : List ℕ) (at : ℕ) (piece : List ℕ) : Type 0 where
  pub front : List ℕ
  pub place : length front ≡ at
  pub joined : bytes ≡ front ++ piece
