use Rattle.st_tree.specs.StmtViews.{label_tree}
use Rattle.st_tree.specs.ProgramViews.{declared_tree, decl_tree, block_tree}
use Rattle.st_tree.proofs.Listed.{lists_trees}
use Rattle.st_tree.proofs.laws.trees_of_listed.Goals as goal

pub returns : goal.returns
returns c = record {
  labels = lists_trees label_tree;
  declared = lists_trees declared_tree;
  declarations = lists_trees decl_tree;
  blocks = lists_trees block_tree;
}
