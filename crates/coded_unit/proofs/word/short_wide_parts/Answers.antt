use Rattle.std.proofs.Common.{ap, ◌∙◌, w64}
use mir.Syntax.{w128}
use Rattle.std.proofs.lemmas.Int.{to_z-of_z}
use Rattle.vcp_base.specs.declared.code.Profile.TheVariants as profile
use Rattle.coded_unit.specs.Words.{modulo, value_part, Middle}
use Rattle.coded_unit.proofs.Bits.{back, as_read, middle_fits}
use Rattle.coded_unit.proofs.Parts.{CutDown, cut_down, middle_read}
use Rattle.coded_unit.proofs.word.short_wide_parts.Goals as goal

cut : (c : goal.In-Some) → CutDown (back w128 c.args.code) c.in-Some.high c.halves-high.result.1
cut c =
    cut_down (back w128 c.args.code) c.halves-high.result.0 c.in-Some.high c.halves-high.result.1 c.halves-high.ensures.whole c.halves-high.ensures.least
    c.halves-high.ensures.most (middle_read c.in-Some.high c.halves-high.result.0 c.in-Some.ensures.middle c.halves-high.ensures.small c.in-Some.ensures.same)

pub overflow_cast-low : goal.overflow_cast-low
overflow_cast-low c = (cut c).low

pub wide_split-requires : goal.wide_split-requires
wide_split-requires c = record {
  whole = (cut c).whole;
  least = (cut c).least;
  most = (cut c).most;
  middle = as_read w64 Middle c.in-Some.high (middle_fits c.in-Some.high c.in-Some.ensures.middle) c.in-Some.ensures.middle;
}

pub returns-in-Some-clause-value : goal.returns-in-Some-clause-value
returns-in-Some-clause-value c = c.wide_split.ensures.value ∙ ap (value_part profile.Wide) (to_z-of_z w128 c.args.code c.ranges.code)

pub returns-in-Some-clause-residue : goal.returns-in-Some-clause-residue
returns-in-Some-clause-residue c = c.wide_split.ensures.residue ∙ ap (modulo profile.Wide) (to_z-of_z w128 c.args.code c.ranges.code)

pub returns-in-Some-clause-below : goal.returns-in-Some-clause-below
returns-in-Some-clause-below c = c.wide_split.ensures.below
