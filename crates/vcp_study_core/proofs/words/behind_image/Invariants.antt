use Rattle.std.proofs.Common.{◌≡◌, ◌-◌}
use Rattle.std.specs.Option.{option_map}
use Rattle.verdict_tables.specs.Parts.{most_parts}
use Rattle.vcp_study_core.specs.Forms.{behind_of}
use Rattle.vcp_study_core.proofs.SumWords.{and_before}
use Rattle.vcp_study_core.proofs.words.behind_image.Given as goal

abbrev pub invariant-parts : goal.invariant-parts
invariant-parts l = behind_of most_parts l.fn.words ≡ option_map (and_before l.i) (behind_of (most_parts - l.i) l.words)
