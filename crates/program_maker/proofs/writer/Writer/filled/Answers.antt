use Rattle.std.proofs.Common.{subst, take_all, arith}
use Rattle.program_maker.specs.Written.{Writes}
use Rattle.program_maker.specs.MadeSource.{part, filled}
use Rattle.program_maker.proofs.Turns.{nothing, byte_more}
use Rattle.program_maker.proofs.writer.Writer.filled.Goals as goal

pub bytes-init : goal.bytes-init
bytes-init c = nothing

pub bytes-preserved : goal.bytes-preserved
bytes-preserved c =
    byte_more (part c.args.p c.args.q c.args.r) c.args.line.now c.bytes.byte-index c.bytes-test.true c.bytes.invariant c.part-self.ensures

pub returns : goal.returns
returns c =
    subst (λ line. Writes c.args.self c.bytes.self (filled c.args.p c.args.q c.args.r line)) (take_all c.bytes.byte-index c.args.line.now (omega arith))
    c.bytes.invariant
