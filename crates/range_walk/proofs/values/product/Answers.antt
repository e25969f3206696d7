use Rattle.std.proofs.Common.{◌*ℤ◌, SFits, w64, rules, refl, sym, ◌∙◌}
use mir.Syntax.{w128}
use Rattle.std.proofs.lemmas.Bool.{and_parts}
use Rattle.range_walk.proofs.Bits.{of_bits, below_bits, above_bits, low_bits, high_bits}
use Rattle.range_walk.proofs.Integers.{le_trans, spans, product_within, product_nonzero}
use Rattle.range_walk.proofs.values.product.Goals as goal

pub returns : goal.returns
returns c = λ x y i j.
    let a = c.args.a in
    let b = c.args.b in
    let ll = c.times-low_low.ensures ∙ of_bits w64 ◌*ℤ◌ a.low b.low (search rules) (search rules) in
    let lh = c.times-low_high.ensures ∙ of_bits w64 ◌*ℤ◌ a.low b.high (search rules) (search rules) in
    let hl = c.times-high_low.ensures ∙ of_bits w64 ◌*ℤ◌ a.high b.low (search rules) (search rules) in
    let hh = c.times-high_high.ensures ∙ of_bits w64 ◌*ℤ◌ a.high b.high (search rules) (search rules) in
    let f : SFits w128 c.times-low_low.result = search rules in
    let g : SFits w128 c.times-low_high.result = search rules in
    let h : SFits w128 c.times-high_low.result = search rules in
    let k : SFits w128 c.times-high_high.result = search rules in
    let m : SFits w128 c.min.result = search rules in
    let n : SFits w128 c.min-2.result = search rules in
    let low : SFits w128 c.min-3.result = search rules in
    let p : SFits w128 c.max.result = search rules in
    let q : SFits w128 c.max-2.result = search rules in
    let high : SFits w128 c.max-3.result = search rules in
    let least = c.min-3.result in
    let most = c.max-3.result in
    let first_low = below_bits w128 least c.min.result c.min.result m refl c.min-3.ensures.self_bound in
    let second_low = below_bits w128 least c.min-2.result c.min-2.result n refl c.min-3.ensures.other_bound in
    let first_high = above_bits w128 most c.max.result c.max.result p refl c.max-3.ensures.self_bound in
    let second_high = above_bits w128 most c.max-2.result c.max-2.result q refl c.max-3.ensures.other_bound in
    let within = product_within a.low a.high b.low b.high x y least most i.at_least i.at_most j.at_least j.at_most
    (spans _ _ _
    (le_trans least c.min.result (a.low *ℤ b.low) first_low
    (below_bits w128 c.min.result c.times-low_low.result (a.low *ℤ b.low) f ll c.min.ensures.self_bound))
    (le_trans (a.low *ℤ b.low) c.max.result most
    (above_bits w128 c.max.result c.times-low_low.result (a.low *ℤ b.low) f ll c.max.ensures.self_bound) first_high))
    (spans _ _ _
    (le_trans least c.min.result (a.low *ℤ b.high) first_low
    (below_bits w128 c.min.result c.times-low_high.result (a.low *ℤ b.high) g lh c.min.ensures.other_bound))
    (le_trans (a.low *ℤ b.high) c.max.result most
    (above_bits w128 c.max.result c.times-low_high.result (a.low *ℤ b.high) g lh c.max.ensures.other_bound) first_high))
    (spans _ _ _
    (le_trans least c.min-2.result (a.high *ℤ b.low) second_low
    (below_bits w128 c.min-2.result c.times-high_low.result (a.high *ℤ b.low) h hl c.min-2.ensures.self_bound))
    (le_trans (a.high *ℤ b.low) c.max-2.result most
    (above_bits w128 c.max-2.result c.times-high_low.result (a.high *ℤ b.low) h hl c.max-2.ensures.self_bound) second_high))
    (spans _ _ _
    (le_trans least c.min-2.result (a.high *ℤ b.high) second_low
    (below_bits w128 c.min-2.result c.times-high_high.result (a.high *ℤ b.high) k hh c.min-2.ensures.other_bound))
    (le_trans (a.high *ℤ b.high) c.max-2.result most
    (above_bits w128 c.max-2.result c.times-high_high.result (a.high *ℤ b.high) k hh c.max-2.ensures.other_bound) second_high)) in
    record {
      at_least = low_bits w128 least (x *ℤ y) low within.at_least;
      at_most = high_bits w128 most (x *ℤ y) high within.at_most;
      not_zero = λ e.
          let both = and_parts a.nonzero b.nonzero (sym c.both_hold.ensures ∙ e) in
          product_nonzero x y (i.not_zero both.0) (j.not_zero both.1);
    }
