use Rattle.std.proofs.Common.{◌≡◌, IfSome}
use Rattle.coded_unit.specs.Words.{modulo, value_part}
use Rattle.coded_unit.proofs.Parts.{word_as}
use Rattle.coded_unit.proofs.word.Word.rare_short_split.Goals as goal

pub returns-clause-value : goal.returns-clause-value
returns-clause-value c =
    word_as (λ z. IfSome c.short_parts_of_rare.result (λ parts. parts.value ≡ value_part c.args.profile z)) c.self.inside.code c.args.self c.self.invariant c.self.view_is
    c.short_parts_of_rare.ensures.value

pub returns-clause-residue : goal.returns-clause-residue
returns-clause-residue c =
    word_as (λ z. IfSome c.short_parts_of_rare.result (λ parts. parts.residue ≡ modulo c.args.profile z)) c.self.inside.code c.args.self c.self.invariant c.self.view_is
    c.short_parts_of_rare.ensures.residue

pub returns-clause-below : goal.returns-clause-below
returns-clause-below c = c.short_parts_of_rare.ensures.below
