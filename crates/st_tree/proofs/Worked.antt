-- Worked trees: what is left of them bare, and lists with one item more.
use Rattle.std.proofs.Common.{◌≡◌, ℕ, List, [], ◌∷◌, Some, None, refl}
use Rattle.std.specs.Prelude.{pos}
use Rattle.vcp_base.specs.declared.spot.Spot.{Spot}
use Rattle.vcp_base.specs.declared.ty.Ty.TheVariants as ty
use Rattle.st_tree.specs.declared.expr.UnOp.TheVariants as sign
use Rattle.st_tree.specs.declared.expr.BinOp.TheVariants as op
use Rattle.st_tree.specs.declared.program.Section.TheVariants as section
use Rattle.st_tree.specs.ExprTree.{ExprTree, literal, name, unary, binary, call, no_exprs, and_expr}
use Rattle.st_tree.specs.StmtTree.{StmtTree, StmtTrees, ArmTrees, LabelTree, assign, if_, case, for_, no_stmts, and_stmt, no_arms, and_arm, no_branches}
use Rattle.st_tree.specs.StmtTree.{and_branch, no_other, other}
use Rattle.st_tree.specs.Appended.{exprs_and, stmts_and, arms_and, branches_and}
use Rattle.st_tree.specs.Bare.{nowhere, bare_expr, bare_stmt, bare}

-- a place of the first line
abbrev at : ℕ → Spot
at col = record { line = 1; col = col }

-- the names a, y, f and i
abbrev a : List ℕ
a = 97 ∷ []

abbrev y : List ℕ
y = 121 ∷ []

abbrev f : List ℕ
f = 102 ∷ []

-- -a + f(INT#2)
sum : bare_expr (binary op.Add (unary sign.Neg (name a (at 7)) (at 6)) (call f (and_expr (literal (Some ty.Int) (pos 2) (at 13)) no_exprs) (at 11)) (at 9))
    ≡ binary op.Add (unary sign.Neg (name a nowhere) nowhere) (call f (and_expr (literal (Some ty.Int) (pos 2) nowhere) no_exprs) nowhere) nowhere
sum = refl

-- y := a; keeps its names
assignment : bare_stmt (assign y (name a (at 6)) (at 1)) ≡ assign y (name a nowhere) nowhere
assignment = refl

-- IF a THEN y := a; ELSE END_IF
choice : bare_stmt (if_ (and_arm (name a (at 4)) (and_stmt (assign y (name a (at 16)) (at 11)) no_stmts) (at 1) no_arms) (other no_stmts))
    ≡ if_ (and_arm (name a nowhere) (and_stmt (assign y (name a nowhere) nowhere) no_stmts) nowhere no_arms) (other no_stmts)
choice = refl

-- no ELSE isn't an empty one
no-else : (arms : ArmTrees) → bare_stmt (if_ arms no_other) ≡ bare_stmt (if_ arms (other no_stmts)) → ⊥
no-else arms e = cc

-- a range is kept
selection : bare_stmt
    (case (name a (at 6))
    (and_branch (record { first = literal None (pos 3) (at 11); last = Some (literal None (pos 5) (at 14)) } ∷ []) no_stmts no_branches) no_other (at 1))
    ≡ case (name a nowhere)
    (and_branch (record { first = literal None (pos 3) nowhere; last = Some (literal None (pos 5) nowhere) } ∷ []) no_stmts no_branches) no_other nowhere
selection = refl

-- both spots of a FOR are set aside, its step is kept
repetition : bare_stmt (for_ y (at 5) (literal None (pos 1) (at 10)) (literal None (pos 9) (at 15)) (Some (literal None (pos 2) (at 20))) no_stmts (at 1))
    ≡ for_ y nowhere (literal None (pos 1) nowhere) (literal None (pos 9) nowhere) (Some (literal None (pos 2) nowhere)) no_stmts nowhere
repetition = refl

-- PROGRAM f VAR_INPUT a : INT; END_VAR END_PROGRAM
program : bare (record {
  name = f;
  blocks = record { section = section.Input; decls = record { names = record { name = a; spot = at 21 } ∷ []; ty = ty.Int; init = None } ∷ [] } ∷ [];
  body =
      no_stmts;
})
    ≡ record {
      name = f;
      blocks =
          record { section = section.Input; decls = record { names = record { name = a; spot = nowhere } ∷ []; ty = ty.Int; init = None } ∷ [] } ∷ [];
      body = no_stmts;
    }
program = refl

-- one more stands at the end
arguments : (d e : ExprTree) → exprs_and (exprs_and no_exprs d) e ≡ and_expr d (and_expr e no_exprs)
arguments d e = refl

statements : (s t : StmtTree) → stmts_and (stmts_and no_stmts s) t ≡ and_stmt s (and_stmt t no_stmts)
statements s t = refl

conditions : (c d : ExprTree) (body body2 : StmtTrees) (s t : Spot)
    → arms_and (arms_and no_arms c body s) d body2 t ≡ and_arm c body s (and_arm d body2 t no_arms)
conditions c d body body2 s t = refl

choices : (l m : List LabelTree) (body body2 : StmtTrees)
    → branches_and (branches_and no_branches l body) m body2 ≡ and_branch l body (and_branch m body2 no_branches)
choices l m body body2 = refl
