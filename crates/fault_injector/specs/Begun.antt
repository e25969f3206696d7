-- Begun: what the rerun of a cycle begins with, as the code has it; and what a call of it leaves of a unit.
use Rattle.std.specs.Prelude.{ℕ, ◌≡◌, List, [], ◌∷◌, ◌++◌, drop, length, Option, Some, None, false}
use Rattle.coded_unit.specs.declared.call.Answer.{Answer}
use Rattle.coded_unit.specs.Log.{Entry}
use Rattle.coded_machine.specs.Calls.{Carried}
use Rattle.coded_machine.specs.Honest.{stop_answer}
use Rattle.coded_machine.specs.Runs.{setting_at}
use Rattle.fault_script.specs.Changes.{acts_of}
use Rattle.fault_injector.specs.Scripts.{handed_by}
use Rattle.fault_injector.specs.declared.campaign.reruns.again.Begun.{Begun}
use Rattle.fault_injector.specs.declared.campaign.reruns.reference.CycleAnswers.{CycleAnswers}
use Rattle.fault_injector.specs.References.{words_answered}
use Rattle.fault_injector.specs.Reruns.{CycleAgain, Source, again, has, asks, ended}

-- the answers of a cycle: its words, and its stop behind them
abbrev pub answers_in : CycleAnswers → List Answer
answers_in c = words_answered c.words.now ++ stop_answer c.stop

-- what the cycle begins with
abbrev pub begun : Begun → CycleAgain
begun b = record {
  setting = setting_at b.graph.now b.table.now b.standing.cycle b.held.now b.row.now;
  acts = acts_of b.standing.group.now b.standing.cycle;
  past = record { held = b.past_held.now; answers = b.past.now };
  other = answers_in b.other;
  touched = b.touched.now;
}

-- an operation gets its answer so, and this call of a unit, or none, is made for it
abbrev pub Comes : Source → Option Answer → Option (List Entry) → Option (List Entry) → ℕ → ℕ → Type 0
Comes (has a) result x y i j = (result ≡ Some a) × Carried [] x y i j
Comes (asks call act word) result x y i j =
    (given : Answer) × (result ≡ Some (handed_by act word given)) × Carried ((call, given) ∷ []) x y i j
Comes ended result x y i j = (result ≡ None) × Carried [] x y i j

-- a rerun with these answers before goes on, whatever more the unit gives, as with these answers, between which no call is made
abbrev pub GoesOver : CycleAgain → List Answer → List Answer → Type 0
GoesOver c before own = (more : List Answer) →
    again c before (drop (length before) c.setting.graph.operations) more ≡ again c own (drop (length own) c.setting.graph.operations) more

-- What the rerun of a cycle left of a unit: there are answers, of which the rerun has these own ones, whatever more there are; and its calls with these
-- answers were carried.
pub record RanAgain (c : CycleAgain) (own : List Answer) (x y : Option (List Entry)) (i j : ℕ) : Type 0 where
  pub given : List Answer
  pub entries : List Entry
  pub comes : (more : List Answer) →
      again c [] c.setting.graph.operations (given ++ more) ≡ record { own = own; calls = entries; left = more; too_few = false }
  pub carried : Carried entries x y i j
