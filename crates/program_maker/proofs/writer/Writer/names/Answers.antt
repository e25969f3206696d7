use Rattle.std.proofs.Common.{◌≡◌, subst, arith}
use Rattle.program_maker.specs.Written.{Writes}
use Rattle.program_maker.specs.MadeSource.{listed, variables, joined}
use Rattle.program_maker.proofs.Turns.{none, one_more}
use Rattle.program_maker.proofs.writer.Writer.names.Goals as goal

pub names-init : goal.names-init
names-init c = none listed

pub names-preserved : goal.names-preserved
names-preserved c = one_more listed c.names.i c.names.invariant c.listed-self.ensures

pub returns : goal.returns
returns c =
    let all : c.names.i ≡ variables = omega arith in
    subst (λ n. Writes c.args.self c.names.self (joined listed n)) all c.names.invariant
