use Rattle.std.proofs.Common.{◌≡◌, ◌-◌, pos, ◌+ℤ◌, ◌*ℤ◌, ap, ◌∙◌, arith}
use mir.Syntax.{w128}
use mir.Val.{of_z, to_z}
use Rattle.std.proofs.lemmas.Int.{ints}
use Rattle.coded_unit.specs.Words.{modulo}
use Rattle.fault_cover.specs.declared.starts.Start.{Start}
use Rattle.fault_cover.proofs.Adding.{kept_below, part_behind, then_there}
use Rattle.fault_cover.proofs.telling.then_comes.Goals as goal

pub product-requires : goal.product-requires
product-requires c =
    let g = c.args.graph.now in
    let w = c.args.weights.now in
    let placed = c.requires.placed in
    let below = kept_below g w w.horizon c.requires.audit (c.words_split_in_one_way.ensures g.profile) c.args.start.now.op c.args.output
    (c.args.borders - c.args.start.now.borders) placed.op c.requires.output (omega (arith, c.requires.borders)) in
    let amount = placed.amount in
    let small = c.constants_are_in_range.ensures.small g.profile in
    record { first = omega (arith, amount, small); second = omega (arith, c.weight-weight.ensures, below, small) }

pub returns-then-borders-start-clause-value : goal.returns-then-borders-start-clause-value
returns-then-borders-start-clause-value c = λ s o is there.
    let g = c.args.graph.now in
    let borders = ap (λ (x : Start). x.borders) is in
    part_behind g (c.words_split_in_one_way.ensures g.profile) o.op c.args.borders c.args.before s c.requires.before
    (omega (arith, borders, c.if-borders-start.true))

pub returns-clause-value : goal.returns-clause-value
returns-clause-value c = λ s o is there.
    let g = c.args.graph.now in
    let w = c.args.weights.now in
    let start = c.args.start.now in
    let within = c.if-borders-start.false in
    let product = c.product.ensures in
    let m = to_z w128 (of_z w128 c.product.result) in
    let value : m ≡ pos start.amount *ℤ pos c.weight-weight.result = omega (arith, ints, product.value, product.low, product.high) in
    let weight_is = c.weight-weight.ensures ∙ c.requires.audit.weight start.op c.args.output (c.args.borders - start.borders) o c.requires.placed.op there
    (omega (arith, c.requires.borders)) in
    c.summed.ensures.value ∙ ap (λ q. modulo q (pos c.args.before +ℤ m)) c.profile.ensures.value
    ∙ then_there g (c.words_split_in_one_way.ensures g.profile) o.op c.args.borders c.args.before c.weight-weight.result m start s is
    (omega (arith, within)) weight_is value
