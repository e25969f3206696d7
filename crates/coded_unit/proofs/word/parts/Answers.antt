use Rattle.std.proofs.Common.{◌≡◌, pos, ap, sym, ◌∙◌}
use Rattle.vcp_base.specs.declared.code.Profile.TheVariants as profile
use Rattle.coded_unit.specs.Words.{modulo, value_part}
use Rattle.coded_unit.proofs.Modular.{value_part_zero, modulo_zero}
use Rattle.coded_unit.proofs.Parts.{zero_read, value_in, residue_in}
use Rattle.coded_unit.proofs.word.parts.Goals as goal

zero : (c : goal.Then-code-eq0) → c.args.code ≡ pos 0
zero c = zero_read c.args.code c.ranges.code c.if-code-eq0.true

pub returns-then-code-eq0-clause-value : goal.returns-then-code-eq0-clause-value
returns-then-code-eq0-clause-value c = sym (ap (value_part c.args.profile) (zero c) ∙ value_part_zero c.args.profile)

pub returns-then-code-eq0-clause-residue : goal.returns-then-code-eq0-clause-residue
returns-then-code-eq0-clause-residue c = sym (ap (modulo c.args.profile) (zero c) ∙ modulo_zero c.args.profile)

pub returns-in-Narrow-clause-value : goal.returns-in-Narrow-clause-value
returns-in-Narrow-clause-value c = value_in c.args.profile profile.Narrow c.args.code _ c.ranges.code c.in-Narrow.is c.narrow_parts.ensures.value

pub returns-in-Narrow-clause-residue : goal.returns-in-Narrow-clause-residue
returns-in-Narrow-clause-residue c = residue_in c.args.profile profile.Narrow c.args.code _ c.ranges.code c.in-Narrow.is c.narrow_parts.ensures.residue

pub returns-in-Wide-clause-value : goal.returns-in-Wide-clause-value
returns-in-Wide-clause-value c = value_in c.args.profile profile.Wide c.args.code _ c.ranges.code c.in-Wide.is c.wide_parts.ensures.value

pub returns-in-Wide-clause-residue : goal.returns-in-Wide-clause-residue
returns-in-Wide-clause-residue c = residue_in c.args.profile profile.Wide c.args.code _ c.ranges.code c.in-Wide.is c.wide_parts.ensures.residue
