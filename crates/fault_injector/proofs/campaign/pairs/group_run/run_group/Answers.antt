use Rattle.std.proofs.Common.{refl, rules}
use Rattle.std.proofs.lemmas.Result.{err_from_is_err_and}
use Rattle.fault_injector.proofs.campaign.pairs.group_run.run_group.Goals as goal

pub paired-verdict-requires : goal.paired-verdict-requires
paired-verdict-requires g c = search rules

pub returns-in_err-carried-clause-ran : goal.returns-in_err-carried-clause-ran
returns-in_err-carried-clause-ran g c = rw (err_from_is_err_and c.from_residual.result c.from_residual.ensures.1).1 tt

pub returns-in_err-carried-clause-none : goal.returns-in_err-carried-clause-none
returns-in_err-carried-clause-none g c = rw (err_from_is_err_and c.from_residual.result c.from_residual.ensures.1).1 refl
