use Rattle.std.proofs.Common.{◌≡◌, ◌≤◌, List, length, ap, sym, ◌∙◌, arith}
use Rattle.fault_sites.specs.declared.site.Site.{Site}
use Rattle.fault_sites.specs.Readings.{readings_within}
use Rattle.fault_sites.proofs.GroupsGoing.{groups_at_is}
use Rattle.fault_sites.proofs.Rising.{by_many, few_readings}
use Rattle.fault_sites.proofs.rests.count_at.Goals as goal

pub returns-clause-count : goal.returns-clause-count
returns-clause-count c = λ n.
    let many = by_many n c.word_at-rs.result.now c.first_rising.result c.first_rising.ensures in
    omega (arith, many, c.saturating_sub-before.ensures, c.saturating_sub-count.ensures, c.saturating_sub.ensures)
    ∙ ap (λ (gs : List (List Site)). length gs)
    (sym (groups_at_is c.args.graph.now c.args.more n c.args.k c.operation-op.result c.word_at-rs.result.now c.operation-op.ensures
    (sym c.is_out.ensures ∙ c.if-is_out.false) (c.requires.readings.each c.args.k c.word_at-rs.result.now c.word_at-rs.ensures)))

pub overflow_mul-result : goal.overflow_mul-result
overflow_mul-result c =
    let is : c.word_at-rs.result.now ≡ readings_within c.args.graph.now c.args.more c.args.k =
    c.requires.readings.each c.args.k c.word_at-rs.result.now c.word_at-rs.ensures in
    let few : length c.word_at-rs.result.now ≤ 262144 = rw is (few_readings c.args.graph.now c.args.more c.args.k c.len-operations.ensures.rules.part) in
    omega (arith, few, c.saturating_sub-count.ensures, c.saturating_sub.ensures)

pub returns-clause-few : goal.returns-clause-few
returns-clause-few c =
    let is : c.word_at-rs.result.now ≡ readings_within c.args.graph.now c.args.more c.args.k =
    c.requires.readings.each c.args.k c.word_at-rs.result.now c.word_at-rs.ensures in
    let few : length c.word_at-rs.result.now ≤ 262144 = rw is (few_readings c.args.graph.now c.args.more c.args.k c.len-operations.ensures.rules.part) in
    omega (arith, few, c.saturating_sub-count.ensures, c.saturating_sub.ensures)
