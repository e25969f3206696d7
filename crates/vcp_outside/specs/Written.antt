-- What calls write to a sink.
use Rattle.std.specs.Prelude.{◌≡◌, ◌<◌, ℕ, List, ◌++◌, length, Option, Result, OnOk, OnErr}
use Rattle.std.specs.Io.KnownBytes.{Appends}
use Rattle.vcp_outside.specs.Counts.{HasCause}
use Rattle.vcp_outside.specs.Seen.{SinkSeen}

-- some front of these bytes was written: none, some or all of them
abbrev pub AppendsFront : Option (List ℕ) → Option (List ℕ) → List ℕ → Type 0
AppendsFront old new bytes = (front rest : List ℕ) × (bytes ≡ front ++ rest) × Appends old new front

-- a front of these bytes was written that lacks at least the last of them
abbrev pub AppendsPart : Option (List ℕ) → Option (List ℕ) → List ℕ → Type 0
AppendsPart old new bytes = (front rest : List ℕ) × (bytes ≡ front ++ rest) × (0 < length rest) × Appends old new front

-- a call writes all of these bytes, or fails where the count rose and has written a part of them
pub record Writes {T E : Type 0} (old new : Option (List ℕ)) (before now : ℕ) (bytes : List ℕ) (result : Result T E) : Type 0 where
  pub whole : OnOk result (Appends old new bytes)
  pub part : OnErr result (AppendsPart old new bytes)
  pub cause : HasCause before now result

-- the same of a sink as it is seen before and after the call
abbrev pub WritesTo : {T E : Type 0} → SinkSeen → SinkSeen → List ℕ → Result T E → Type 0
WritesTo old new bytes result = Writes old.written new.written old.faults new.faults bytes result
