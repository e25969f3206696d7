use Rattle.range_walk.proofs.operand_ranges.copied.Goals as goal

pub returns : goal.returns
returns c = λ x y z i o. c.new.ensures x y z (c.shared.ensures x o.first i) o.second o.third
