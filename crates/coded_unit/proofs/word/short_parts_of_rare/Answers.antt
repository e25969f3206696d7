use Rattle.std.proofs.Common.{◌≡◌, IfSome, pos, ap, sym, ◌∙◌}
use Rattle.coded_unit.specs.Words.{modulo, value_part}
use Rattle.coded_unit.proofs.Modular.{value_part_zero, modulo_zero, modulus_positive}
use Rattle.coded_unit.proofs.Parts.{zero_read, read_as}
use Rattle.coded_unit.proofs.word.short_parts_of_rare.Goals as goal

zero : (c : goal.Then-code-eq0) → c.args.code ≡ pos 0
zero c = zero_read c.args.code c.ranges.code c.if-code-eq0.true

pub returns-then-code-eq0-clause-value : goal.returns-then-code-eq0-clause-value
returns-then-code-eq0-clause-value c = sym (ap (value_part c.args.profile) (zero c) ∙ value_part_zero c.args.profile)

pub returns-then-code-eq0-clause-residue : goal.returns-then-code-eq0-clause-residue
returns-then-code-eq0-clause-residue c = sym (ap (modulo c.args.profile) (zero c) ∙ modulo_zero c.args.profile)

pub returns-then-code-eq0-clause-below : goal.returns-then-code-eq0-clause-below
returns-then-code-eq0-clause-below c = modulus_positive c.args.profile

pub returns-clause-value : goal.returns-clause-value
returns-clause-value c =
    read_as (λ z. IfSome c.short_parts.result (λ parts. parts.value ≡ value_part c.args.profile z)) c.args.code c.ranges.code c.short_parts.ensures.value

pub returns-clause-residue : goal.returns-clause-residue
returns-clause-residue c =
    read_as (λ z. IfSome c.short_parts.result (λ parts. parts.residue ≡ modulo c.args.profile z)) c.args.code c.ranges.code c.short_parts.ensures.residue

pub returns-clause-below : goal.returns-clause-below
returns-clause-below c = c.short_parts.ensures.below
