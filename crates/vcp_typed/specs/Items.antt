-- Items: the lists of nodes whose types refer back to themselves, as lists.
use Rattle.std.specs.Prelude.{List}
use Rattle.vcp_typed.specs.declared.stmt.TArm.{TArm}
use Rattle.vcp_typed.specs.declared.stmt.TArms.{TArms, out-TArms}
use Rattle.vcp_typed.specs.declared.stmt.TBranch.{TBranch}
use Rattle.vcp_typed.specs.declared.stmt.TBranches.{TBranches, out-TBranches}

-- the conditions of an IF with their bodies
abbrev pub tarm_items : TArms → List TArm
tarm_items arms = (out-TArms arms).items.items

-- the branches of a CASE
abbrev pub tbranch_items : TBranches → List TBranch
tbranch_items branches = (out-TBranches branches).items.items
