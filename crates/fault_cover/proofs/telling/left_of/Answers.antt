use Rattle.std.proofs.lemmas.List.{take_rest}
use Rattle.fault_cover.proofs.telling.left_of.Goals as goal

pub returns : goal.returns
returns c = take_rest c.args.starts.now c.args.right
