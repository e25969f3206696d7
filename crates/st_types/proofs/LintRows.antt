-- LintRows: what typing tells of small programs over LINT, by hand, as TypingRows does of the other types.
use Rattle.std.specs.Prelude.{◌≡◌, refl, ℕ, ℤ, pos, List, [], ◌∷◌, Option, Some, None, codes}
use Rattle.vcp_base.specs.declared.ty.Ty.{Ty}
use Rattle.vcp_base.specs.declared.ty.Ty.TheVariants as ty
use Rattle.st_tree.specs.declared.expr.UnOp.TheVariants as un
use Rattle.st_tree.specs.declared.expr.BinOp.TheVariants as bin
use Rattle.st_tree.specs.declared.program.Section.TheVariants as section
use Rattle.st_tree.specs.ExprTree.{ExprTree, literal, name, unary, binary, call, no_exprs, and_expr}
use Rattle.st_tree.specs.StmtTree.{LabelTree, StmtTree, assign, case, for_, no_stmts, and_stmt, no_branches, and_branch, no_other}
use Rattle.st_tree.specs.ProgramTree.{BlockTree, ProgramTree}
use Rattle.vcp_typed.specs.declared.expr.Fun.{Fun}
use Rattle.vcp_typed.specs.declared.expr.Fun.TheVariants as fun
use Rattle.vcp_typed.specs.TExprTree as typed
use Rattle.vcp_typed.specs.TStmtTree as checked
use Rattle.st_types.specs.declared.fault.Rule.TheVariants as rule
use Rattle.st_types.specs.Faults.{fault}
use Rattle.st_types.specs.ExprTyping.{expr_of}
use Rattle.st_types.specs.Scope.{Entry}
use Rattle.st_types.specs.StmtTyping.{stmts_of}
use Rattle.st_types.specs.DeclTyping.{nothing_made, after_blocks}
use Rattle.st_types.proofs.LeastFaults.{first_fault}
use Rattle.st_types.proofs.TypingRows.{at, decl, vars, checks, label, range}

-- Lines 2 to 5 of each source, whose body is line 6.
abbrev header : List BlockTree
header =
    record {
      section = section.Input;
      decls = decl (codes "i") (at 2 11) ty.Int None ∷ decl (codes "d") (at 2 20) ty.Dint None ∷ decl (codes "l") (at 2 30) ty.Lint None ∷ [];
    }
    ∷ record {
      section = section.Output;
      decls =
          decl (codes "q") (at 3 12) ty.Lint None ∷ decl (codes "r") (at 3 22) ty.Dint None ∷ decl (codes "c") (at 3 31) ty.Bool None ∷ [];
    }
    ∷ record { section = section.Local; decls = decl (codes "m") (at 4 5) ty.Lint None ∷ [] }
    ∷ record { section = section.Constant; decls = decl (codes "T") (at 5 14) ty.Int (Some (literal None (pos 3) (at 5 23))) ∷ [] }
    ∷ []

-- the names that the header declares
abbrev names : List Entry
names = (after_blocks nothing_made header).entries

-- a program with this header, whose body is one statement
abbrev one : StmtTree → ProgramTree
one x = record { name = codes "p"; blocks = header; body = and_stmt x no_stmts }

abbrev set : List ℕ → ExprTree → ProgramTree
set n e = one (assign n e (at 6 1))

abbrev var : List ℕ → ℕ → ExprTree
var n col = name n (at 6 col)

abbrev num : ℕ → ℕ → ExprTree
num n col = literal None (pos n) (at 6 col)

-- `-` in the column before the number
abbrev minus : ℕ → ℕ → ExprTree
minus n col = unary un.Neg (num n (ℕ.suc col)) (at 6 col)

abbrev of_one : List ℕ → ExprTree → ExprTree
of_one f e = call f (and_expr e no_exprs) (at 6 6)

-- the greatest LINT
abbrev most : ℕ
most = 9223372036854775807

-- ---- programs without a fault, with their Size

-- q := i + l;
sum : checks (set (codes "q") (binary bin.Add (var (codes "i") 6) (var (codes "l") 10) (at 6 8))) ≡ (None, Some 20)
sum = refl

-- q := -9223372036854775807 - 1; the least LINT
least_value : checks (set (codes "q") (binary bin.Sub (minus most 6) (num 1 29) (at 6 27))) ≡ (None, Some 22)
least_value = refl

-- VAR a : LINT := -9223372036854775807; END_VAR
least_initial : checks (vars (decl (codes "a") (at 2 5) ty.Lint (Some (unary un.Neg (literal None (pos most) (at 2 18)) (at 2 17))) ∷ [])) ≡ (None, Some 4)
least_initial = refl

-- CASE l OF -9223372036854775807, 0..9223372036854775807: q := 1; END_CASE;
abbrev case_of : ExprTree → List LabelTree → ProgramTree
case_of e ls = one (case e (and_branch ls (and_stmt (assign (codes "q") (num 1 60) (at 6 55)) no_stmts) no_branches) no_other (at 6 1))

labels : checks (case_of (var (codes "l") 6) (label (minus most 11) ∷ range (num 0 33) (num most 36) ∷ [])) ≡ (None, Some 31)
labels = refl

-- FOR m := a TO b BY s DO END_FOR;
abbrev loop : List ℕ → ExprTree → ExprTree → Option ExprTree → ProgramTree
loop n a b s = one (for_ n (at 6 5) a b s no_stmts (at 6 1))

-- FOR m := -9223372036854775807 TO 9223372036854775807: 18446744073709551615 turns
all_turns : checks (loop (codes "m") (minus most 10) (num most 34) None) ≡ (None, Some 36893488147419103246)
all_turns = refl

-- ---- checked trees

-- 2147483648 is LINT, 2147483647 DINT
literals : expr_of names (binary bin.Add (num 2147483648 6) (num 2147483647 19) (at 6 17))
    ≡ Some (typed.binary bin.Add ty.Lint (typed.literal ty.Lint (pos 2147483648) (at 6 6)) (typed.literal ty.Lint (pos 2147483647) (at 6 19)) (at 6 17))
literals = refl

-- d + l, i + l: each is widened in one step
widened_dint : expr_of names (binary bin.Add (var (codes "d") 6) (var (codes "l") 10) (at 6 8))
    ≡ Some (typed.binary bin.Add ty.Lint (typed.widen ty.Lint (typed.get 1 ty.Dint)) (typed.get 2 ty.Lint) (at 6 8))
widened_dint = refl

widened_int : expr_of names (binary bin.Add (var (codes "i") 6) (var (codes "l") 10) (at 6 8))
    ≡ Some (typed.binary bin.Add ty.Lint (typed.widen ty.Lint (typed.get 0 ty.Int)) (typed.get 2 ty.Lint) (at 6 8))
widened_int = refl

-- (i + d) + l: the sum in DINT is widened, its operands aren't
widened_twice : expr_of names (binary bin.Add (binary bin.Add (var (codes "i") 7) (var (codes "d") 11) (at 6 9)) (var (codes "l") 16) (at 6 14))
    ≡ Some (typed.binary bin.Add ty.Lint
    (typed.widen ty.Lint (typed.binary bin.Add ty.Dint (typed.widen ty.Dint (typed.get 0 ty.Int)) (typed.get 1 ty.Dint) (at 6 9))) (typed.get 2 ty.Lint)
    (at 6 14))
widened_twice = refl

-- l < T: a constant becomes a literal of LINT
widened_constant : expr_of names (binary bin.Lt (var (codes "l") 6) (var (codes "T") 10) (at 6 8))
    ≡ Some (typed.binary bin.Lt ty.Lint (typed.get 2 ty.Lint) (typed.literal ty.Lint (pos 3) (at 6 10)) (at 6 8))
widened_constant = refl

-- d < 2147483648
compared : expr_of names (binary bin.Lt (var (codes "d") 6) (num 2147483648 10) (at 6 8))
    ≡ Some (typed.binary bin.Lt ty.Lint (typed.widen ty.Lint (typed.get 1 ty.Dint)) (typed.literal ty.Lint (pos 2147483648) (at 6 10)) (at 6 8))
compared = refl

-- conversions take a narrower number too, widened: LINT_TO_INT(40000), LINT_TO_DINT(i), DINT_TO_LINT(i)
abbrev converts : Fun → Ty → typed.TExprTree → Option typed.TExprTree
converts f t a = Some (typed.call f t (typed.and_texpr a typed.no_texprs) (at 6 6))

lint_to_int : expr_of names (of_one (codes "LINT_TO_INT") (num 40000 18)) ≡ converts fun.LintToInt ty.Int (typed.literal ty.Lint (pos 40000) (at 6 18))
lint_to_int = refl

lint_to_dint : expr_of names (of_one (codes "LINT_TO_DINT") (var (codes "i") 19)) ≡ converts fun.LintToDint ty.Dint (typed.widen ty.Lint (typed.get 0 ty.Int))
lint_to_dint = refl

dint_to_lint : expr_of names (of_one (codes "DINT_TO_LINT") (var (codes "i") 19)) ≡ converts fun.DintToLint ty.Lint (typed.widen ty.Dint (typed.get 0 ty.Int))
dint_to_lint = refl

int_to_lint : expr_of names (of_one (codes "INT_TO_LINT") (var (codes "i") 18)) ≡ converts fun.IntToLint ty.Lint (typed.get 0 ty.Int)
int_to_lint = refl

-- FOR m := 9223372036854775806 TO 9223372036854775807 DO END_FOR: two turns
two_turns : stmts_of names [] (and_stmt (for_ (codes "m") (at 6 5) (num 9223372036854775806 10) (num most 33) None no_stmts (at 6 1)) no_stmts)
    ≡ Some (checked.and_tstmt (checked.for_ 6 (pos 9223372036854775806) (pos 1) 2 checked.no_tstmts (at 6 5)) checked.no_tstmts)
two_turns = refl

-- FOR m := -9223372036854775807 TO 9223372036854775807 BY 9223372036854775807 DO END_FOR: three turns
three_turns : stmts_of names [] (and_stmt (for_ (codes "m") (at 6 5) (minus most 10) (num most 34) (Some (num most 57)) no_stmts (at 6 1)) no_stmts)
    ≡ Some (checked.and_tstmt (checked.for_ 6 (ℤ.negsuc 9223372036854775806) (pos most) 3 checked.no_tstmts (at 6 5)) checked.no_tstmts)
three_turns = refl

-- ---- the least faults

-- r := l; r := 2147483648; r := LINT#1;
narrows : first_fault (set (codes "r") (var (codes "l") 6)) ≡ Some (fault rule.Mismatch (at 6 1))
narrows = refl

narrows_literal : first_fault (set (codes "r") (num 2147483648 6)) ≡ Some (fault rule.Mismatch (at 6 1))
narrows_literal = refl

narrows_typed : first_fault (set (codes "r") (literal (Some ty.Lint) (pos 1) (at 6 6))) ≡ Some (fault rule.Mismatch (at 6 1))
narrows_typed = refl

-- VAR a : DINT := 2147483648; END_VAR
initial_beyond : first_fault (vars (decl (codes "a") (at 2 5) ty.Dint (Some (literal None (pos 2147483648) (at 2 17))) ∷ []))
    ≡ Some (fault rule.Mismatch (at 2 5))
initial_beyond = refl

-- q := INT_TO_LINT(d); q := DINT_TO_LINT(l); q := INT_TO_LINT(c);
int_of_dint : first_fault (set (codes "q") (of_one (codes "INT_TO_LINT") (var (codes "d") 18))) ≡ Some (fault rule.Mismatch (at 6 6))
int_of_dint = refl

dint_of_lint : first_fault (set (codes "q") (of_one (codes "DINT_TO_LINT") (var (codes "l") 19))) ≡ Some (fault rule.Mismatch (at 6 6))
dint_of_lint = refl

int_of_bool : first_fault (set (codes "q") (of_one (codes "INT_TO_LINT") (var (codes "c") 18))) ≡ Some (fault rule.Mismatch (at 6 6))
int_of_bool = refl

-- q := DINT#2147483648; a literal with a type is in it
beyond_written : first_fault (set (codes "q") (literal (Some ty.Dint) (pos 2147483648) (at 6 6))) ≡ Some (fault rule.Literal (at 6 6))
beyond_written = refl

-- FOR r := 1 TO 2147483648; r is DINT
bound_beyond : first_fault (loop (codes "r") (num 1 10) (num 2147483648 15) None) ≡ Some (fault rule.Bound (at 6 15))
bound_beyond = refl

-- CASE d OF 2147483648:
label_beyond : first_fault (case_of (var (codes "d") 6) (label (num 2147483648 11) ∷ [])) ≡ Some (fault rule.Label (at 6 11))
label_beyond = refl

-- ---- whole programs

-- PROGRAM p VAR_INPUT x : T; END_VAR VAR_OUTPUT y : T; END_VAR y := e; END_PROGRAM
abbrev of_type : Ty → ExprTree → ProgramTree
of_type t e = record {
  name = codes "p";
  blocks = record { section = section.Input; decls = decl (codes "x") (at 2 11) t None ∷ [] }
      ∷ record { section = section.Output; decls = decl (codes "y") (at 3 12) t None ∷ [] } ∷ [];
  body = and_stmt (assign (codes "y") e (at 4 1)) no_stmts;
}

-- y := x + 1; in LINT
next : checks (of_type ty.Lint (binary bin.Add (name (codes "x") (at 4 6)) (literal None (pos 1) (at 4 10)) (at 4 8))) ≡ (None, Some 11)
next = refl

-- y := 2147483648; in LINT, and in DINT
set_lint : checks (of_type ty.Lint (literal None (pos 2147483648) (at 4 6))) ≡ (None, Some 8)
set_lint = refl

set_dint : first_fault (of_type ty.Dint (literal None (pos 2147483648) (at 4 6))) ≡ Some (fault rule.Mismatch (at 4 1))
set_dint = refl
