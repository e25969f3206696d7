-- Faulty: a unit that answers some of its calls with answers that are given beforehand.
use Rattle.std.specs.Prelude.{ℕ, nat_eq, List, [], Option, unwrap_or}
use Rattle.std.specs.Map.{lookup}
use Rattle.coded_unit.specs.declared.call.Call.{Call}
use Rattle.coded_unit.specs.declared.call.Answer.{Answer}
use Rattle.coded_unit.specs.Right.{Right}
use Rattle.coded_unit.specs.Log.{Kept, nothing_kept}

-- answers, each under the number of the call that gets it
abbrev pub Replacements : Type 0
Replacements = List (ℕ × Answer)

-- what such a unit has kept, how many calls it did, the answers that it will give in place of others, and how many
-- answers were not the right ones
pub record Faulty : Type 0 where
  pub kept : Kept
  pub calls : ℕ
  pub replacements : Replacements
  pub wrong : ℕ

-- before the first call, with every answer right
abbrev pub nothing_replaced : ℕ → Faulty
nothing_replaced room = record { kept = nothing_kept room; calls = 0; replacements = []; wrong = 0 }

-- the answer that stands in place of the right one at the call of a number, where there is one
abbrev pub replacement : Replacements → ℕ → Option Answer
replacement replacements number = lookup (nat_eq number) replacements

-- what the unit answers to its next call
abbrev pub next_answer : Faulty → Call → Answer
next_answer unit call = unwrap_or (replacement unit.replacements unit.calls) (Right call)
