use Rattle.std.proofs.Common.{◌≡◌, ◌≤◌, ◌+◌, All, IfSome, length}
use Rattle.std.specs.Io.KnownBytes.{IsAtEnd}
use Rattle.verdict_tables.specs.Parts.{most_parts, IsWhole, PartFits}
use Rattle.vcp_study_core.specs.Forms.{names_of}
use Rattle.vcp_study_core.proofs.PartsRead.{SoFar}
use Rattle.vcp_study_core.proofs.parts.load_parts.Given as goal

abbrev pub invariant-parts : goal.invariant-parts
invariant-parts g l = record {
  read : IfSome (g.F.Files.seen l.fn.files).held (λ h. SoFar l.image h (names_of l.names) l.parts (names_of l.left));
  whole : All IsWhole l.parts;
  fits : All (PartFits l.image.graph) l.parts;
  few : length l.parts + length (names_of l.left) ≤ most_parts;
  held : (g.F.Files.seen l.files).held ≡ (g.F.Files.seen l.fn.files).held;
  later : (g.F.Files.seen l.fn.files).faults ≤ (g.F.Files.seen l.files).faults;
  broken_later : (g.F.Files.seen l.fn.files).broken ≤ (g.F.Files.seen l.files).broken;
  ended : IsAtEnd (g.F.Files.seen l.fn.files).rest → IsAtEnd (g.F.Files.seen l.files).rest;
}

abbrev pub decreases-parts : goal.decreases-parts
decreases-parts g l = length (names_of l.left)
