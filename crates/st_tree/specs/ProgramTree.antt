-- ProgramTree: a program as what it holds, without pointers.
use Rattle.std.specs.Prelude.{ℕ, List, Option}
use Rattle.vcp_base.specs.declared.spot.Spot.{Spot}
use Rattle.vcp_base.specs.declared.ty.Ty.{Ty}
use Rattle.st_tree.specs.declared.program.Section.{Section}
use Rattle.st_tree.specs.ExprTree.{ExprTree}
use Rattle.st_tree.specs.StmtTree.{StmtTrees}

pub record DeclaredTree : Type 0 where
  pub name : List ℕ
  pub spot : Spot

pub record DeclTree : Type 0 where
  pub names : List DeclaredTree
  pub ty : Ty
  pub init : Option ExprTree

pub record BlockTree : Type 0 where
  pub section : Section
  pub decls : List DeclTree

pub record ProgramTree : Type 0 where
  pub name : List ℕ
  pub blocks : List BlockTree
  pub body : StmtTrees
