use Rattle.fault_cover.proofs.Exclusive.{tells_one}
use Rattle.fault_cover.proofs.laws.one_thing_is_told.Goals as goal

pub returns : goal.returns
returns c = λ s k d x y one other. tells_one s k d x y one other
