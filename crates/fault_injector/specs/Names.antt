-- Names: which outputs and operations verdicts name.
use Rattle.std.specs.Prelude.{ℕ, ◌<◌}
use Rattle.fault_injector.specs.declared.verdicts.Verdict.{Verdict}
use Rattle.fault_injector.specs.declared.verdicts.Verdict.TheVariants as verdict

-- the output or the operation that a verdict names is below these numbers of outputs and of operations
abbrev pub Names : ℕ → ℕ → Verdict → Type 0
Names outputs operations verdict.Same = Unit {0}
Names outputs operations (verdict.Wrong cycle output got want) = output < outputs
Names outputs operations (verdict.RanOn cycle) = Unit {0}
Names outputs operations (verdict.Refused cycle output found wanted) = output < outputs
Names outputs operations (verdict.Stopped cycle op kind) = op < operations
