use Rattle.std.proofs.Common.{rules}
use Rattle.coded_machine.proofs.machine.Machine.call.Goals as goal

pub call_after-requires : goal.call_after-requires
call_after-requires c = search rules

pub returns : goal.returns
returns c = search rules
