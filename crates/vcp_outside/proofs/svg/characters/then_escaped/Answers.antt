use Rattle.vcp_outside.specs.Characters.{escape_in}
use Rattle.vcp_outside.proofs.Gathering.{gathered_next}
use Rattle.vcp_outside.proofs.svg.characters.then_escaped.Goals as goal

pub bytes-preserved : goal.bytes-preserved
bytes-preserved g c =
    gathered_next (escape_in c.args.escaping) c.args.bytes.now c.bytes.i 0 _ _ _ _ _ _ c.bytes-test.true c.bytes.invariant c.then_byte.ensures
