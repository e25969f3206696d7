use Rattle.std.proofs.Common.{ap, ◌∙◌}
use mir.Syntax.{w128}
use Rattle.std.proofs.lemmas.Int.{to_z-of_z}
use Rattle.coded_unit.specs.Words.{nearest_word}
use Rattle.coded_unit.proofs.Bits.{read_fits}
use Rattle.coded_unit.proofs.Parts.{shifted_by, between_fits, between_size}
use Rattle.coded_unit.proofs.word.Word.shift.Goals as goal

pub overflow_cast-e : goal.overflow_cast-e
overflow_cast-e c = read_fits c.args.e c.ranges.e

pub overflow_add-self-inside : goal.overflow_add-self-inside
overflow_add-self-inside c = (shifted_by c.self.inside.code c.args.self c.args.e c.self.invariant c.self.view_is c.ranges.e).sum

pub invariant_of-result : goal.invariant_of-result
invariant_of-result c = between_size c.clamp.result c.clamp.ensures.lower_bound c.clamp.ensures.upper_bound

pub returns : goal.returns
returns c =
    to_z-of_z w128 c.clamp.result (between_fits c.clamp.result c.clamp.ensures.lower_bound c.clamp.ensures.upper_bound) ∙ c.clamp.ensures.value
    ∙ ap nearest_word (shifted_by c.self.inside.code c.args.self c.args.e c.self.invariant c.self.view_is c.ranges.e).is
