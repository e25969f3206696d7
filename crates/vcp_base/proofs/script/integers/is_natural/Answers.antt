use Rattle.std.proofs.Common.{sym, ◌∙◌}
use Rattle.vcp_base.proofs.Written.{natural_is}
use Rattle.vcp_base.proofs.script.integers.is_natural.Goals as goal

pub returns-then-not-is_empty : goal.returns-then-not-is_empty
returns-then-not-is_empty c = natural_is c.args.digits.now c.are_digits.result c.are_digits.ensures (sym c.is_empty.ensures ∙ c.if-not-is_empty.true)
