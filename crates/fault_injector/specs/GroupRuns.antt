-- GroupRuns: what the run of a group of faults on a pair of channels leaves.
use Rattle.std.specs.Prelude.{ℕ, ◌≡◌, ◌≤◌, List, [], Option, None, ℤ}
use Rattle.coded_unit.specs.declared.call.Answer.{Answer}
use Rattle.coded_unit.specs.Log.{Entry, GrowsBy}
use Rattle.coded_unit.specs.Seen.{UnitSeen, StaysHonest}
use Rattle.op_graph.specs.GraphRun.{initial}
use Rattle.op_graph.specs.Lists.{Lists}
use Rattle.signature_table.specs.Signatures.{Numbers}
use Rattle.coded_machine.specs.Calls.{Setting}
use Rattle.coded_machine.specs.CycleEnds.{initial_words}
use Rattle.fault_script.specs.declared.act.Fault.{Fault}
use Rattle.fault_script.specs.Changes.{none_kept}
use Rattle.fault_injector.specs.ScriptedRun.{ScriptedCycle, kept_through}
use Rattle.fault_injector.specs.Verdicts.{verdict_of}
use Rattle.pair_channel.specs.Beside.{AllBeside, beside}
use Rattle.fault_injector.specs.declared.campaign.pairs.verdict.PairVerdict.{PairVerdict}
use Rattle.fault_injector.specs.GroupCalls.{AskedFrom, AskedOver, joined}
use Rattle.fault_injector.specs.PairVerdicts.{told_verdict, verdict_read}

-- what is seen of a unit that carries out faults round another: its own count, and no log
abbrev pub outer_seen : ℕ → UnitSeen
outer_seen wrong = record { log = None; wrong = wrong }

-- what is seen of the processor, at every moment
abbrev pub processor_seen : UnitSeen
processor_seen = record { log = None; wrong = 0 }

-- What one cycle of the first channel left of the unit inside, and of the words that are kept for the faults.
pub record CycleAsked (faults : List Fault) (s : Setting) (keeps : List (Option ℤ)) (answers : List Answer) (kept : List (Option ℤ))
    (before after : UnitSeen) : Type 0 where
  pub calls : List Entry
  pub asked : AskedFrom faults s keeps [] s.graph.operations answers calls
  pub log : GrowsBy before.log after.log calls
  pub later : before.wrong ≤ after.wrong
  pub kept_is : kept ≡ kept_through faults s keeps [] s.graph.operations answers
  pub right : StaysHonest before after → ScriptedCycle faults s keeps [] s.graph.operations answers

-- The run of a group on a pair, off which this verdict is read. The first channel's answers are those of a pair's run beside the graph's: a whole
-- cycle for each row up to the first that isn't released. Where the unit's log is told, it grew by the calls of these cycles with the group's
-- changes, and by nothing else; where it isn't, these are some calls of that form. Where no answer was wrong, the verdict is the defined one.
pub record GroupRan (t : Numbers) (g : Lists) (faults : List Fault) (rows : List (List ℤ)) (before after : UnitSeen) (v : PairVerdict) : Type 0 where
  pub cycles : List (List Answer)
  pub calls : List (List Entry)
  pub all : AllBeside g t 0 (initial g) rows cycles
  pub asked : AskedOver t g faults 0 (none_kept faults) (initial_words g t.seed) rows cycles calls
  pub log : GrowsBy before.log after.log (joined calls)
  pub later : before.wrong ≤ after.wrong
  pub verdict_is : v ≡ verdict_read (beside g t 0 (initial g) rows cycles)
  pub honest : StaysHonest before after → v ≡ told_verdict (verdict_of t g faults rows)
