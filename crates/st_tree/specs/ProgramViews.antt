-- ProgramViews: what a program holds.
use Rattle.std.specs.Prelude.{map}
use Rattle.st_tree.specs.declared.program.Declared.{Declared}
use Rattle.st_tree.specs.declared.program.Decl.{Decl}
use Rattle.st_tree.specs.declared.program.Block.{Block}
use Rattle.st_tree.specs.declared.program.Program.{Program}
use Rattle.st_tree.specs.ExprViews.{expr_tree_or_none}
use Rattle.st_tree.specs.StmtViews.{stmt_trees}
use Rattle.st_tree.specs.ProgramTree.{DeclaredTree, DeclTree, BlockTree, ProgramTree}

abbrev pub declared_tree : Declared → DeclaredTree
declared_tree d = record { name = d.name; spot = d.spot }

abbrev pub decl_tree : Decl → DeclTree
decl_tree d = record { names = map declared_tree d.names.items.items; ty = d.ty; init = expr_tree_or_none d.init }

abbrev pub block_tree : Block → BlockTree
block_tree b = record { section = b.section; decls = map decl_tree b.decls.items.items }

abbrev pub program_tree : Program → ProgramTree
program_tree p = record { name = p.name; blocks = map block_tree p.blocks.items.items; body = stmt_trees p.body.items.items }
