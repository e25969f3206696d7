use Rattle.std.proofs.Common.{◌≡◌, length, ap, sym, ◌∙◌, subst, arith}
use Rattle.std.proofs.lemmas.List.{with_items_is}
use Rattle.range_walk.specs.Walking.{Narrows}
use Rattle.range_audit.proofs.cases.narrowed.Goals as goal

pub narrow-requires : goal.narrow-requires
narrow-requires c =
    let before : length c.deref_mut.result.now ≡ length c.args.ranges.now =
    ap length (c.deref_mut.ensures.value ∙ c.in-Ok.ensures) in
    record { many = omega (arith, before, c.requires); cells = c.args.cycle.now.many }

pub returns-clause-many : goal.returns-clause-many
returns-clause-many c =
    let copy = c.in-Ok.copy in
    let new = c.narrow.new.ranges in
    let before : length c.deref_mut.result.now ≡ length c.args.ranges.now =
    ap length (c.deref_mut.ensures.value ∙ c.in-Ok.ensures) in
    let same : length new ≡ copy.len = omega (arith, before, c.narrow.ensures.many, c.deref_mut.ensures.len) in
    ap length (with_items_is copy new same) ∙ c.narrow.ensures.many ∙ before

pub returns-clause-fits : goal.returns-clause-fits
returns-clause-fits c =
    let g = c.args.cycle.now.graph.now in
    let cells = c.args.cycle.now.cells.now in
    let copy = c.in-Ok.copy in
    let new = c.narrow.new.ranges in
    let same_list = c.deref_mut.ensures.value ∙ c.in-Ok.ensures in
    let moved : Narrows g.operations cells c.args.ranges.now new = subst (λ rs. Narrows g.operations cells rs new) same_list c.narrow.ensures.fits in
    let before : length c.deref_mut.result.now ≡ length c.args.ranges.now = ap length same_list in
    let same : length new ≡ copy.len = omega (arith, before, c.narrow.ensures.many, c.deref_mut.ensures.len) in
    subst (λ rs. Narrows g.operations cells c.args.ranges.now rs) (sym (with_items_is copy new same)) moved
