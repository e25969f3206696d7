use Rattle.std.proofs.Common.{◌+◌, suc, arith}
use Rattle.il_front.proofs.LineLaws.{goes-none, goes-some, at-place}
use Rattle.il_front.proofs.line.goes_on.Goals as goal

pub returns-then-count-last-lt2-clause-is : goal.returns-then-count-last-lt2-clause-is
returns-then-count-last-lt2-clause-is c = goes-none c.args.tokens.now.tokens c.args.last (omega arith) (omega arith)

pub returns-clause-is : goal.returns-clause-is
returns-clause-is c =
    goes-some c.args.tokens.now.tokens c.args.last c.at.result c.at-2.result c.at.ensures
    (at-place c.args.tokens.now.tokens (c.args.last + 1) (suc c.args.last) c.at-2.result c.at-2.ensures (omega arith))
