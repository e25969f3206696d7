-- Sound: what holds of every machine.
use Rattle.std.specs.Prelude.{ℕ, ◌≡◌, ◌≢◌, ◌≤◌, Bool, false, cond, length, IfSome}
use Rattle.vcp_base.specs.Limits.{most_cycles}
use Rattle.op_graph.specs.Rules.{IsGraph}
use Rattle.signature_table.specs.Signatures.{IsTable, IsTableOf}
use Rattle.coded_machine.specs.declared.cycle_end.CycleEnd.TheVariants as end
use Rattle.coded_machine.specs.Calls.{AllWords, Whole}
use Rattle.coded_machine.specs.State.{State, given}

-- The table is the graph's; there is room for an answer to each operation, and a word for each cell; the cycle under way
-- has no call to come where it is halted, and words alone as answers where it isn't; and an end that is repeated is no release.
pub record Sound (m : State) (halted : Bool) (capacity : ℕ) : Type 0 where
  pub graph : IsGraph m.graph
  pub table : IsTable m.table
  pub table_of : IsTableOf m.table m.graph
  pub room : length m.graph.operations ≤ capacity
  pub cells : length m.held ≡ length m.graph.stores
  pub few : length m.answers ≤ length m.graph.operations
  pub progress : cond halted (Whole m.graph.operations (given m)) (AllWords (given m))
  pub cycles : m.cycles ≤ most_cycles
  pub closed : IfSome m.ended (λ e. (e ≢ end.Released) × (m.under_way ≡ false))
