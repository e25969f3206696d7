use Rattle.std.proofs.Common.{true, false}
use Rattle.vcp_base.specs.Kinds.{truth}
use Rattle.range_walk.proofs.ValueBounds.{only_truth, truth_between}
use Rattle.range_walk.proofs.values.truth_bounds.Goals as goal

pub returns-then-yes : goal.returns-then-yes
returns-then-yes c = λ b y n. only_truth c.only.result b true (y c.if-yes.true) c.only.ensures

pub returns-then-no : goal.returns-then-no
returns-then-no c = λ b y n. only_truth c.only-then-no.result b false (n c.if-no.true) c.only-then-no.ensures

pub returns : goal.returns
returns c = λ b y n. c.between.ensures (truth b) (truth_between b).at_least (truth_between b).at_most
