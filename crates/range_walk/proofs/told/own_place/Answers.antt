use Rattle.std.proofs.Common.{ap, ◌∙◌, w64, rules}
use Rattle.std.specs.Prelude.{unsigned_abs}
use Rattle.std.proofs.lemmas.Int.{to_z-of_z}
use Rattle.range_walk.proofs.told.own_place.Goals as goal

pub returns : goal.returns
returns c = c.unsigned_abs.ensures.value ∙ ap unsigned_abs (to_z-of_z w64 c.args.op.now.imm (search rules))
