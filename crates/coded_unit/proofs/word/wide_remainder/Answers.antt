use Rattle.std.proofs.Common.{ap, ◌∙◌}
use mir.Syntax.{w128}
use Rattle.std.proofs.lemmas.Int.{to_z-of_z}
use Rattle.vcp_base.specs.declared.code.Profile.TheVariants as profile
use Rattle.coded_unit.specs.Words.{modulo}
use Rattle.coded_unit.proofs.Bits.{back}
use Rattle.coded_unit.proofs.Parts.{High, high_of, CutDown, cut_down}
use Rattle.coded_unit.proofs.word.wide_remainder.Goals as goal

high : (c : goal.After-struct_told-2-1) → High c.halves-high.result.0
high c =
    high_of c.args.code c.halves-high.result.0 c.halves-high.result.1 c.ranges.code c.requires.low c.requires.high c.halves-high.ensures.whole
    c.halves-high.ensures.least c.halves-high.ensures.most

cut : (c : goal.After-struct_told-2-1) → CutDown (back w128 c.args.code) (back w128 c.halves-high.result.0) c.halves-high.result.1
cut c =
    cut_down (back w128 c.args.code) c.halves-high.result.0 (back w128 c.halves-high.result.0) c.halves-high.result.1 c.halves-high.ensures.whole
    c.halves-high.ensures.least c.halves-high.ensures.most (high c).read

pub overflow_cast-high : goal.overflow_cast-high
overflow_cast-high c = (high c).fits

pub overflow_cast-low : goal.overflow_cast-low
overflow_cast-low c = (cut c).low

pub near_remainder-requires : goal.near_remainder-requires
near_remainder-requires c = record {
  whole = (cut c).whole;
  least = (cut c).least;
  most = (cut c).most;
  high_low = (high c).low;
  high_high = (high c).high;
}

pub returns-clause-value : goal.returns-clause-value
returns-clause-value c = c.near_remainder.ensures.value ∙ ap (modulo profile.Wide) (to_z-of_z w128 c.args.code c.ranges.code)

pub returns-clause-below : goal.returns-clause-below
returns-clause-below c = c.near_remainder.ensures.below
