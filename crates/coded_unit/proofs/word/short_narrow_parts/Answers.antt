use Rattle.std.proofs.Common.{◌≡◌, ap, ◌∙◌, sym, subst, SFits, w64, to_z, of_z}
use mir.Syntax.{w128}
use Rattle.std.proofs.lemmas.Int.{to_z-of_z}
use Rattle.vcp_base.specs.declared.code.Profile.TheVariants as profile
use Rattle.coded_unit.specs.Words.{modulo, value_part}
use Rattle.coded_unit.proofs.word.short_narrow_parts.Goals as goal

same : (c : goal.After-narrow_split) → to_z w64 (of_z w64 c.in-Ok.code) ≡ c.args.code
same c =
    to_z-of_z w64 c.in-Ok.code (subst (SFits w64) (sym c.in-Ok.ensures.1) c.in-Ok.ensures.0) ∙ c.in-Ok.ensures.1
    ∙ to_z-of_z w128 c.args.code c.ranges.code

pub returns-in-Ok-clause-value : goal.returns-in-Ok-clause-value
returns-in-Ok-clause-value c = c.narrow_split.ensures.value ∙ ap (value_part profile.Narrow) (same c)

pub returns-in-Ok-clause-residue : goal.returns-in-Ok-clause-residue
returns-in-Ok-clause-residue c = c.narrow_split.ensures.residue ∙ ap (modulo profile.Narrow) (same c)

pub returns-in-Ok-clause-below : goal.returns-in-Ok-clause-below
returns-in-Ok-clause-below c = c.narrow_split.ensures.below
