use Rattle.std.proofs.Common.{rules}
use Rattle.graph_passes.proofs.sharing.placed.Goals as goal

pub returns-then-not-joins : goal.returns-then-not-joins
returns-then-not-joins c = search rules

pub returns-in-Some : goal.returns-in-Some
returns-in-Some c = search rules

pub returns-in_err-enter : goal.returns-in_err-enter
returns-in_err-enter c = search rules

pub returns : goal.returns
returns c = search rules
