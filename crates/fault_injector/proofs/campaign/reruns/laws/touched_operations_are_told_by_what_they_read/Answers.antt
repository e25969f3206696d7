use Rattle.std.proofs.Common.{refl}
use Rattle.fault_injector.specs.Touched.{marks_at}
use Rattle.fault_injector.proofs.Marking.{marked_as_touched, mark_of_store}
use Rattle.fault_injector.proofs.campaign.reruns.laws.touched_operations_are_told_by_what_they_read.Goals as goal

pub returns : goal.returns
returns c = record {
  operation = marked_as_touched c.operands_are_there.ensures;
  cell = λ g acts others n i m there. mark_of_store (marks_at g acts others n).given g.stores i m there;
  first_cells = λ g acts others i. refl;
}
