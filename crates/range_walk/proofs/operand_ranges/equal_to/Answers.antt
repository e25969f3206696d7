use Rattle.std.proofs.Common.{pos, sym}
use Rattle.range_walk.proofs.Backward.{not_there, equal_by, unequal_by}
use Rattle.range_walk.proofs.ValueBounds.{moved}
use Rattle.range_walk.proofs.operand_ranges.equal_to.Goals as goal

pub returns-then-yes : goal.returns-then-yes
returns-then-yes c = λ x y i j k. c.shared.ensures x j (moved c.args.b y x (sym (equal_by x y (c.is_only-yes.ensures c.if-yes.true _ i))) k)

pub returns-then-no : goal.returns-then-no
returns-then-no c = λ x y i j k.
    c.without.ensures x y j k (unequal_by x y (not_there c.args.r _ (pos 1) (c.excludes-no.ensures.out c.if-no.true) i))
