use Rattle.std.proofs.Common.{rules, sym, ◌∙◌}
use Rattle.std.proofs.lemmas.Bool.{or_cases}
use Rattle.range_walk.proofs.Bits.{clamped_low, clamped_high}
use Rattle.range_walk.proofs.Conditions.{in_one}
use Rattle.range_walk.proofs.range.Range.met.Goals as goal

pub returns : goal.returns
returns c = λ v i b.
    let a = c.args.self in
    let bounds = c.args.bounds in
    c.tightened.ensures v (record {
      at_least =
          clamped_low a.low bounds.low c.clamp-low.result v (search rules) (search rules) (search rules) c.clamp-low.ensures.value i.at_least b.at_least;
      at_most =
          clamped_high a.high bounds.high c.clamp-high.result v (search rules) (search rules) (search rules) c.clamp-high.ensures.value i.at_most b.at_most;
      not_zero = λ e. in_one (or_cases a.nonzero bounds.nonzero (sym c.either_holds-nonzero.ensures ∙ e)) i.not_zero b.not_zero;
    })
