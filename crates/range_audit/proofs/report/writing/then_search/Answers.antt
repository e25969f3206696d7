use Rattle.std.proofs.Common.{◌≡◌, ◌<◌, length, true, arith}
use Rattle.std.specs.Prelude.{nat_lt}
use Rattle.std.proofs.lemmas.Bool.{lt-ltb}
use Rattle.range_audit.specs.RangeText.{most_searched}
use Rattle.range_audit.proofs.report.writing.then_search.Goals as goal

pub returns-then-len-gt-MOST_SEARCHED : goal.returns-then-len-gt-MOST_SEARCHED
returns-then-len-gt-MOST_SEARCHED g c =
    let many : most_searched < length c.args.graph.now.operations = omega (arith, c.if-len-gt-MOST_SEARCHED.true, c.len.ensures.count) in
    let is : nat_lt most_searched (length c.args.graph.now.operations) ≡ true = lt-ltb most_searched (length c.args.graph.now.operations) many in
    rw is c.text.ensures
