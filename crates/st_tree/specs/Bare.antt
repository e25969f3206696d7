-- Bare: a tree that has every spot at 0:0. Two trees are one, spots aside, where they are equal bare.
use Rattle.std.specs.Prelude.{Option, Some, None, map}
use Rattle.vcp_base.specs.declared.spot.Spot.{Spot}
use Rattle.st_tree.specs.ExprTree.{ExprTree, ExprTrees, literal, name, unary, binary, call, no_exprs, and_expr}
use Rattle.st_tree.specs.StmtTree.{LabelTree, StmtTree, StmtTrees, ArmTrees, BranchTrees, OtherTree, assign, if_, case, for_, no_stmts, and_stmt, no_arms}
use Rattle.st_tree.specs.StmtTree.{and_arm, no_branches, and_branch, no_other, other}
use Rattle.st_tree.specs.ProgramTree.{DeclaredTree, DeclTree, BlockTree, ProgramTree}

-- no place in a source
abbrev pub nowhere : Spot
nowhere = record { line = 0; col = 0 }

abbrev mutual
  pub bare_expr : ExprTree → ExprTree
  bare_expr (literal t v s) = literal t v nowhere
  bare_expr (name n s) = name n nowhere
  bare_expr (unary op a s) = unary op (bare_expr a) nowhere
  bare_expr (binary op a b s) = binary op (bare_expr a) (bare_expr b) nowhere
  bare_expr (call n es s) = call n (bare_exprs es) nowhere

  pub bare_exprs : ExprTrees → ExprTrees
  bare_exprs no_exprs = no_exprs
  bare_exprs (and_expr e es) = and_expr (bare_expr e) (bare_exprs es)

abbrev pub bare_expr_or_none : Option ExprTree → Option ExprTree
bare_expr_or_none None = None
bare_expr_or_none (Some e) = Some (bare_expr e)

abbrev pub bare_label : LabelTree → LabelTree
bare_label l = record { first = bare_expr l.first; last = bare_expr_or_none l.last }

abbrev mutual
  pub bare_stmt : StmtTree → StmtTree
  bare_stmt (assign n e s) = assign n (bare_expr e) nowhere
  bare_stmt (if_ arms o) = if_ (bare_arms arms) (bare_other o)
  bare_stmt (case e branches o s) = case (bare_expr e) (bare_branches branches) (bare_other o) nowhere
  bare_stmt (for_ n ns f l by body s) =
      for_ n nowhere (bare_expr f) (bare_expr l) (bare_expr_or_none by) (bare_stmts body) nowhere

  pub bare_stmts : StmtTrees → StmtTrees
  bare_stmts no_stmts = no_stmts
  bare_stmts (and_stmt s ss) = and_stmt (bare_stmt s) (bare_stmts ss)

  pub bare_arms : ArmTrees → ArmTrees
  bare_arms no_arms = no_arms
  bare_arms (and_arm c body s arms) = and_arm (bare_expr c) (bare_stmts body) nowhere (bare_arms arms)

  pub bare_branches : BranchTrees → BranchTrees
  bare_branches no_branches = no_branches
  bare_branches (and_branch ls body branches) =
      and_branch (map bare_label ls) (bare_stmts body) (bare_branches branches)

  pub bare_other : OtherTree → OtherTree
  bare_other no_other = no_other
  bare_other (other body) = other (bare_stmts body)

abbrev pub bare_declared : DeclaredTree → DeclaredTree
bare_declared d = record { name = d.name; spot = nowhere }

abbrev pub bare_decl : DeclTree → DeclTree
bare_decl d = record { names = map bare_declared d.names; ty = d.ty; init = bare_expr_or_none d.init }

abbrev pub bare_block : BlockTree → BlockTree
bare_block b = record { section = b.section; decls = map bare_decl b.decls }

abbrev pub bare : ProgramTree → ProgramTree
bare p = record { name = p.name; blocks = map bare_block p.blocks; body = bare_stmts p.body }
