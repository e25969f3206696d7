-- Items: the lists of nodes whose types refer back to themselves, as lists.
use Rattle.std.specs.Prelude.{List}
use Rattle.st_tree.specs.declared.stmt.Arm.{Arm}
use Rattle.st_tree.specs.declared.stmt.Arms.{Arms, out-Arms}
use Rattle.st_tree.specs.declared.stmt.Branch.{Branch}
use Rattle.st_tree.specs.declared.stmt.Branches.{Branches, out-Branches}

-- the conditions of an IF with their bodies
abbrev pub arm_items : Arms → List Arm
arm_items arms = (out-Arms arms).items.items

-- the branches of a CASE
abbrev pub branch_items : Branches → List Branch
branch_items branches = (out-Branches branches).items.items
