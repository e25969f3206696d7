use Rattle.range_walk.proofs.InputValues.{input_of_type}
use Rattle.range_walk.proofs.told.told_of.Goals as goal

pub returns-in-Input : goal.returns-in-Input
returns-in-Input c = λ held row vs o. input_of_type held row vs c.args.op.now c.of_type.result c.in-Input.is c.of_type.ensures

pub returns-in_default : goal.returns-in_default
returns-in_default c = λ held row vs o. c.told_by.ensures held row vs o.second (λ d. c.bounds_of-bounds.ensures held vs o d)
