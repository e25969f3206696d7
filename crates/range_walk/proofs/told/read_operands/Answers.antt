use Rattle.range_walk.proofs.told.read_operands.Goals as goal

pub returns : goal.returns
returns c = λ held vs hold fit le.
    c.new.ensures _ _ _ (c.operand_range-first.ensures held vs hold fit le) (c.operand_range-second.ensures held vs hold fit le)
    (c.operand_range-third.ensures held vs hold fit le)
