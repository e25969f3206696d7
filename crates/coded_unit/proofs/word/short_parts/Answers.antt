use Rattle.std.proofs.Common.{◌≡◌, ◌<◌, IfSome}
use Rattle.vcp_base.specs.declared.code.Profile.TheVariants as profile
use Rattle.vcp_base.specs.Code.{modulus}
use Rattle.coded_unit.specs.Words.{modulo, value_part}
use Rattle.coded_unit.proofs.Parts.{known_as}
use Rattle.coded_unit.proofs.word.short_parts.Goals as goal

pub returns-in-Narrow-clause-value : goal.returns-in-Narrow-clause-value
returns-in-Narrow-clause-value c =
    known_as (λ p z. IfSome c.short_narrow_parts.result (λ parts. parts.value ≡ value_part p z)) c.args.profile profile.Narrow c.args.code c.ranges.code c.in-Narrow.is c.short_narrow_parts.ensures.value

pub returns-in-Narrow-clause-residue : goal.returns-in-Narrow-clause-residue
returns-in-Narrow-clause-residue c =
    known_as (λ p z. IfSome c.short_narrow_parts.result (λ parts. parts.residue ≡ modulo p z)) c.args.profile profile.Narrow c.args.code c.ranges.code c.in-Narrow.is c.short_narrow_parts.ensures.residue

pub returns-in-Narrow-clause-below : goal.returns-in-Narrow-clause-below
returns-in-Narrow-clause-below c =
    known_as (λ p z. IfSome c.short_narrow_parts.result (λ parts. parts.residue < modulus p)) c.args.profile profile.Narrow c.args.code c.ranges.code c.in-Narrow.is c.short_narrow_parts.ensures.below

pub returns-in-Wide-clause-value : goal.returns-in-Wide-clause-value
returns-in-Wide-clause-value c =
    known_as (λ p z. IfSome c.short_wide_parts.result (λ parts. parts.value ≡ value_part p z)) c.args.profile profile.Wide c.args.code c.ranges.code c.in-Wide.is c.short_wide_parts.ensures.value

pub returns-in-Wide-clause-residue : goal.returns-in-Wide-clause-residue
returns-in-Wide-clause-residue c =
    known_as (λ p z. IfSome c.short_wide_parts.result (λ parts. parts.residue ≡ modulo p z)) c.args.profile profile.Wide c.args.code c.ranges.code c.in-Wide.is c.short_wide_parts.ensures.residue

pub returns-in-Wide-clause-below : goal.returns-in-Wide-clause-below
returns-in-Wide-clause-below c =
    known_as (λ p z. IfSome c.short_wide_parts.result (λ parts. parts.residue < modulus p)) c.args.profile profile.Wide c.args.code c.ranges.code c.in-Wide.is c.short_wide_parts.ensures.below
