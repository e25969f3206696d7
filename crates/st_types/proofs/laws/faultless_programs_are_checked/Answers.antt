use Rattle.st_types.proofs.Faultless.{faultless-typed, typed-checked}
use Rattle.st_types.proofs.OneAnswer.{faultless-answered}
use Rattle.st_types.proofs.laws.faultless_programs_are_checked.Goals as goal

pub returns : goal.returns
returns c = record {
  is = faultless-typed;
  keeps = typed-checked;
  limits = faultless-answered;
}
