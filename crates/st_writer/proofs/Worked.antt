-- Worked: the canonical text of small programs.
use Rattle.std.specs.Prelude.{◌≡◌, refl, ℕ, List, [], ◌∷◌, ◌++◌, None, Some, pos, codes}
use Rattle.vcp_base.specs.declared.spot.Spot.{Spot}
use Rattle.vcp_base.specs.declared.ty.Ty.TheVariants as ty
use Rattle.st_tree.specs.declared.program.Section.TheVariants as section
use Rattle.st_tree.specs.declared.expr.UnOp.TheVariants as un
use Rattle.st_tree.specs.declared.expr.BinOp.TheVariants as bin
use Rattle.st_tree.specs.ExprTree.{ExprTree, literal, name, unary, binary, call, no_exprs, and_expr}
use Rattle.st_tree.specs.StmtTree.{assign, case, no_stmts, and_stmt, no_branches, and_branch, other}
use Rattle.st_writer.specs.Lexemes.{text_of}
use Rattle.st_writer.specs.CanonicalExpr.{expr}
use Rattle.st_writer.specs.CanonicalStmt.{stmt}
use Rattle.st_writer.specs.CanonicalProgram.{canonical}

abbrev o : Spot
o = record { line = 1; col = 1 }

abbrev v : List ℕ → ExprTree
v n = name n o

-- y := x + z on a DINT, into a LINT (numbers are not computed here: their digits are those of std)
increment : canonical (record {
  name = codes "p";
  blocks = record { section = section.Input; decls = record { names = record { name = codes "x"; spot = o } ∷ []; ty = ty.Dint; init = None } ∷ [] }
      ∷ record { section = section.Output; decls = record { names = record { name = codes "y"; spot = o } ∷ []; ty = ty.Lint; init = None } ∷ [] } ∷ [];
  body = and_stmt (assign (codes "y") (binary bin.Add (v (codes "x")) (v (codes "z")) o) o) no_stmts;
}) ≡ codes "PROGRAM p" ++ 10 ∷ codes "VAR_INPUT" ++ 10 ∷ codes "  x : DINT;" ++ 10 ∷ codes "END_VAR" ++ 10 ∷ codes "VAR_OUTPUT" ++ 10 ∷ codes "  y : LINT;"
    ++ 10
    ∷ codes "END_VAR" ++ 10 ∷ codes "  y := x + z;" ++ 10 ∷ codes "END_PROGRAM" ++ 10 ∷ []
increment = refl

-- brackets: the left operand of a level needs none, the right one does, and so does a weaker operator
subtractions : text_of (expr 1 (binary bin.Sub (binary bin.Sub (v (codes "a")) (v (codes "b")) o) (binary bin.Sub (v (codes "c")) (v (codes "d")) o) o))
    ≡ codes "a - b - (c - d)"
subtractions = refl

products : text_of
    (expr 1 (binary bin.Mul (binary bin.Add (v (codes "a")) (v (codes "b")) o)
    (unary un.Neg (unary un.Not (binary bin.Eq (v (codes "c")) (v (codes "d")) o) o) o) o)) ≡ codes "(a + b) * -NOT (c = d)"
products = refl

calls : text_of
    (expr 1 (call (codes "MAX")
    (and_expr (v (codes "a")) (and_expr (literal (Some ty.Bool) (pos 1) o) (and_expr (literal (Some ty.Bool) (pos 0) o) no_exprs))) o))
    ≡ codes "MAX(a, TRUE, FALSE)"
calls = refl

-- a CASE with a negative label, a range and an ELSE
selection : text_of
    (stmt 1 (case (v (codes "s"))
    (and_branch (record { first = unary un.Neg (v (codes "a")) o; last = None } ∷ record { first = v (codes "b"); last = Some (v (codes "c")) } ∷ [])
    (and_stmt (assign (codes "y") (v (codes "z")) o) no_stmts) no_branches) (other no_stmts) o))
    ≡ codes "  CASE s OF" ++ 10 ∷ codes "    -a, b..c:" ++ 10 ∷ codes "      y := z;" ++ 10 ∷ codes "  ELSE" ++ 10 ∷ codes "  END_CASE;" ++ 10 ∷ []
selection = refl
