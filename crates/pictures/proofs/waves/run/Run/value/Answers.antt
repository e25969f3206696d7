use Rattle.std.proofs.Common.{arith}
use Rattle.std.proofs.lemmas.Int.{ints}
use Rattle.std.proofs.lemmas.Grind.{elements}
use Rattle.pictures.proofs.waves.run.Run.value.Goals as goal

pub at-requires-2 : goal.at-requires-2
at-requires-2 c = grind (ints, arith, elements)

pub returns : goal.returns
returns c = grind (ints, arith, elements)
