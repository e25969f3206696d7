-- Common: what the calls of a cycle have in common.
use Rattle.std.specs.Prelude.{◌≡◌}
use Rattle.op_graph.specs.Lists.{Lists}
use Rattle.signature_table.specs.Signatures.{Numbers, stamp}
use Rattle.coded_machine.specs.declared.calling.Begun.{Begun}

-- the code is the graph's, and the stamp that of the cycle
pub record IsBegun (g : Lists) (t : Numbers) (b : Begun) : Type 0 where
  pub profile : b.profile ≡ g.profile
  pub stamp : b.stamp ≡ stamp t.step b.cycle
