use Rattle.std.proofs.Common.{rules}
use Rattle.std.proofs.lemmas.Bool.{both_ways}
use Rattle.range_walk.proofs.Bits.{of_type_by}
use Rattle.range_walk.proofs.range.Bounds.are_of_type.Goals as goal

pub returns-then-first-self : goal.returns-then-first-self
returns-then-first-self c = λ e v b.
    of_type_by c.args.ty c.least-first.result c.greatest-last.result c.args.self.low c.args.self.high v (search rules) (search rules) (search rules)
    (search rules) c.least-first.ensures c.greatest-last.ensures c.if-first-self.true e b.at_least b.at_most

pub returns-else-first-self : goal.returns-else-first-self
returns-else-first-self c = λ e v b. absurd (both_ways _ c.if-first-self.false e)
