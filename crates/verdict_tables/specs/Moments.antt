-- Moments: what a run works on, from cycle to cycle.
use Rattle.std.specs.Prelude.{ℕ, ◌≡◌, ◌≤◌, Bool, true, false, ◌||◌, List, [], length, vec_capacity}
use Rattle.std.specs.List.{list_any}
use Rattle.coded_unit.specs.declared.call.Answer.{Answer}
use Rattle.op_graph.specs.Lists.{Lists}
use Rattle.signature_table.specs.Signatures.{Numbers}
use Rattle.coded_machine.specs.CycleEnds.{initial_words}
use Rattle.coded_machine.specs.Runs.{setting_at}
use Rattle.fault_script.specs.declared.act.Fault.{Fault}
use Rattle.fault_script.specs.Changes.{acts_of}
use Rattle.fault_injector.specs.RunLaw.{Words}
use Rattle.verdict_tables.specs.declared.endless.run.Work.{Work}
use Rattle.verdict_tables.specs.AnswersOver.{all_words, answers_in, held_next}
use Rattle.verdict_tables.specs.Endings.{comes_to}

-- there is room for the answers of a cycle and for the words of the cells
pub record Room (g : Lists) (w : Work) : Type 0 where
  pub own : length g.operations ≤ vec_capacity w.own
  pub past : length g.operations ≤ vec_capacity w.past
  pub past_held : length g.stores ≤ vec_capacity w.past_held
  pub held : length w.held.items ≡ length g.stores
  pub inputs : length w.inputs ≡ length g.inputs

-- what the cycle before left
abbrev pub past_of : Work → Words
past_of w = record { held = w.past_held.items; answers = w.past.items }

-- before the first cycle
pub record Begins (g : Lists) (t : Numbers) (w : Work) : Type 0 where
  pub held : w.held.items ≡ initial_words g t.seed
  pub past : w.past.items ≡ []
  pub past_held : w.past_held.items ≡ []
  pub reached : w.reached ≡ false

-- Cycle n was carried on the row that the work had, and had these answers, all of which are words or not.
pub record CycleDone (g : Lists) (t : Numbers) (faults : List Fault) (n : ℕ) (old new : Work) (words : Bool) : Type 0 where
  pub own : List Answer
  pub own_is : own ≡ answers_in (setting_at g t n old.held.items old.inputs) (acts_of faults n) (past_of old)
  pub words_is : words ≡ all_words own
  pub reached : new.reached ≡ (old.reached || list_any (comes_to n own) faults)
  pub held : new.held.items ≡ held_next g old.held.items own
  pub past : words ≡ true → past_of new ≡ record { held = old.held.items; answers = own }
