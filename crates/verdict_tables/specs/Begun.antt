-- Begun: what a cycle begins with, as the code has it.
use Rattle.std.specs.Prelude.{ℕ, Option}
use Rattle.coded_machine.specs.Calls.{Setting}
use Rattle.coded_machine.specs.Runs.{setting_at}
use Rattle.fault_script.specs.declared.act.Act.{Act}
use Rattle.fault_script.specs.Changes.{acts_of}
use Rattle.fault_injector.specs.RunLaw.{Words}
use Rattle.verdict_tables.specs.declared.endless.answering.Begun.{Begun}

abbrev pub setting : Begun → Setting
setting b = setting_at b.setting.graph.now b.setting.table.now b.setting.cycle b.setting.held.now b.setting.row.now

-- the acts of the group in the cycle
abbrev pub acts : Begun → ℕ → Option Act
acts b = acts_of b.group.now b.setting.cycle

-- what the cycle before left
abbrev pub past : Begun → Words
past b = record { held = b.past.held.now; answers = b.past.answers.now }
