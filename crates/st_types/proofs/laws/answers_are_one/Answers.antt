use Rattle.st_types.proofs.Faultless.{is-typed-one, typed-refused}
use Rattle.st_types.proofs.OneAnswer.{one-refusal, an-answer}
use Rattle.st_types.proofs.laws.answers_are_one.Goals as goal

pub returns : goal.returns
returns c = record { some = an-answer; typed = is-typed-one; either = typed-refused; refused = one-refusal }
