use Rattle.fault_injector.proofs.Untouched.{cycle_same, none_held, asks_no_more}
use Rattle.fault_injector.proofs.campaign.reruns.laws.nothing_differs_where_nothing_is_touched.Goals as goal

pub returns : goal.returns
returns c = record {
  cycle = cycle_same;
  cells = none_held;
  run = λ t g acts rows others n past held cell_marks left cells none ends.
      asks_no_more t g acts rows others n past held cell_marks left cells (λ m k above _. none m k above) ends;
}
