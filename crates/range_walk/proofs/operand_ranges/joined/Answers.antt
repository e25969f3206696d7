use Rattle.std.proofs.Common.{sym, ◌∙◌}
use Rattle.std.proofs.lemmas.Bool.{and_parts}
use Rattle.range_walk.proofs.operand_ranges.joined.Goals as goal

pub returns-then-both : goal.returns-then-both
returns-then-both c = λ v x y joins i j k. c.said_range.ensures x j (joins.both (c.says-both.ensures c.if-both.true v i))

pub returns-then-out : goal.returns-then-out
returns-then-out c = λ v x y joins i j k.
    let parts = and_parts c.says-not_both.result c.says-other.result (sym c.both_hold-out.ensures ∙ c.if-out.true) in
    c.said_range-then-out.ensures x j (joins.rest (c.says-not_both.ensures parts.0 v i) (c.says-other.ensures parts.1 y k))
