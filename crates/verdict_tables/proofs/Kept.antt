-- Kept: what a sink in memory has, into which a text was written.
use Rattle.std.proofs.Common.{◌≡◌, ℕ, List, [], Some, ap}
use Rattle.std.specs.Io.KnownBytes.{Appends}
use Rattle.verdict_tables.specs.TextSink.{TextInMemory}

pub kept : (old new : TextInMemory) (text : List ℕ) → old ≡ record { bytes = []; faults = 0 }
    → Appends (Some old.bytes) (Some new.bytes) text → new.bytes ≡ text
kept old new text empty written = let none : old.bytes ≡ [] = ap (λ (s : TextInMemory). s.bytes) empty in rw none at written
