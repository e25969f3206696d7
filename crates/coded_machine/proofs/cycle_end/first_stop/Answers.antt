use Rattle.std.proofs.Common.{sym}
use Rattle.coded_machine.proofs.Ends.{no_stop}
use Rattle.coded_machine.proofs.cycle_end.first_stop.Goals as goal

pub returns-then-not-halted : goal.returns-then-not-halted
returns-then-not-halted c = sym (no_stop 0 c.args.answers.now (c.requires.words c.if-not-halted.true))
