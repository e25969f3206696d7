use Rattle.std.proofs.Common.{rules}
use Rattle.telegram.proofs.script.reader.read_wire.Goals as goal

pub returns-then-not-has_head : goal.returns-then-not-has_head
returns-then-not-has_head c = search rules

pub returns-in_default : goal.returns-in_default
returns-in_default c = search rules
