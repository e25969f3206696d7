-- TypingRows: what typing tells of small programs, by hand. Lines 2 to 5 of each source are `header`, and line 6 is its body.
-- `first_fault` is the least fault, as `first-is-least` says, and None where there is none.
use Rattle.std.specs.Prelude.{◌≡◌, refl, ℕ, zero, suc, ◌+◌, ℤ, pos, true, false, List, [], ◌∷◌, map, Option, Some, None, option_map, codes}
use Rattle.std.proofs.Common.{arith}
use Rattle.vcp_base.specs.declared.spot.Spot.{Spot}
use Rattle.vcp_base.specs.declared.ty.Ty.{Ty}
use Rattle.vcp_base.specs.declared.ty.Ty.TheVariants as ty
use Rattle.st_tree.specs.declared.expr.UnOp.TheVariants as un
use Rattle.st_tree.specs.declared.expr.BinOp.{BinOp}
use Rattle.st_tree.specs.declared.expr.BinOp.TheVariants as bin
use Rattle.st_tree.specs.declared.program.Section.TheVariants as section
use Rattle.st_tree.specs.ExprTree.{ExprTree, literal, name, unary, binary, call, no_exprs, and_expr}
use Rattle.st_tree.specs.StmtTree.{LabelTree, StmtTree, StmtTrees, assign, if_, case, for_, no_stmts, and_stmt, no_arms, and_arm, no_branches, and_branch}
use Rattle.st_tree.specs.StmtTree.{no_other, other}
use Rattle.st_tree.specs.ProgramTree.{DeclaredTree, DeclTree, BlockTree, ProgramTree}
use Rattle.vcp_typed.specs.declared.expr.Fun.TheVariants as fun
use Rattle.vcp_typed.specs.Rules.{common, signed}
use Rattle.vcp_typed.specs.declared.slot.Slot.{Slot}
use Rattle.vcp_typed.specs.TExprTree as typed
use Rattle.vcp_typed.specs.TStmtTree as checked
use Rattle.vcp_typed.specs.SourceRun.{Program}
use Rattle.vcp_typed.specs.Size.{size}
use Rattle.st_types.specs.declared.fault.Fault.{Fault}
use Rattle.st_types.specs.declared.fault.Rule.TheVariants as rule
use Rattle.st_types.specs.Faults.{fault}
use Rattle.st_types.specs.ExprTyping.{sized, function, arity, function_type, expr_of}
use Rattle.st_types.specs.Scope.{Entry}
use Rattle.st_types.specs.StmtTyping.{turns_of, stmts_of}
use Rattle.st_types.specs.DeclTyping.{nothing_made, after_blocks}
use Rattle.st_types.specs.Typing.{typed_of, IsTyped, IsPast, Refuses}
use Rattle.st_types.specs.declared.fault.TypeFault.TheVariants as told
use Rattle.st_types.proofs.ExprLaws.{none-some}
use Rattle.st_types.proofs.LeastFaults.{first_fault, none-is-faultless}

abbrev pub at : ℕ → ℕ → Spot
at line col = record { line = line; col = col }

abbrev pub decl : List ℕ → Spot → Ty → Option ExprTree → DeclTree
decl n spot t init = record { names = record { name = n; spot = spot } ∷ []; ty = t; init = init }

abbrev header : List BlockTree
header =
    record {
      section = section.Input;
      decls = decl (codes "i") (at 2 11) ty.Int None ∷ decl (codes "d") (at 2 20) ty.Dint None ∷ decl (codes "b") (at 2 30) ty.Bool None ∷ [];
    }
    ∷ record {
      section = section.Output;
      decls =
          decl (codes "q") (at 3 12) ty.Dint None ∷ decl (codes "r") (at 3 22) ty.Int None ∷ decl (codes "c") (at 3 31) ty.Bool None ∷ [];
    }
    ∷ record { section = section.Local; decls = decl (codes "k") (at 4 5) ty.Int None ∷ [] }
    ∷ record { section = section.Constant; decls = decl (codes "T") (at 5 14) ty.Int (Some (literal None (pos 3) (at 5 23))) ∷ [] }
    ∷ []

-- the names that the header declares
abbrev names : List Entry
names = (after_blocks nothing_made header).entries

-- a program with this header, whose body is one statement
abbrev one : StmtTree → ProgramTree
one x = record { name = codes "p"; blocks = header; body = and_stmt x no_stmts }

-- a program of one block of variables in line 2, without a body
abbrev pub vars : List DeclTree → ProgramTree
vars ds = record { name = codes "p"; blocks = record { section = section.Local; decls = ds } ∷ []; body = no_stmts }

abbrev set : List ℕ → ExprTree → ProgramTree
set n e = one (assign n e (at 6 1))

-- the least fault, and the Size of the checked program
abbrev pub checks : ProgramTree → (Option Fault) × (Option ℕ)
checks p = (first_fault p, option_map size (typed_of p))

abbrev var : List ℕ → ℕ → ExprTree
var n col = name n (at 6 col)

abbrev num : ℕ → ℕ → ExprTree
num n col = literal None (pos n) (at 6 col)

-- q := n
abbrev body_of : ℕ → ℕ → ℕ → StmtTrees
body_of n col by = and_stmt (assign (codes "q") (num n by) (at 6 col)) no_stmts

-- CASE e OF L: q := 1; END_CASE;
abbrev case_of : ExprTree → List LabelTree → ProgramTree
case_of e ls = one (case e (and_branch ls (body_of 1 24 29) no_branches) no_other (at 6 1))

abbrev pub label : ExprTree → LabelTree
label e = record { first = e; last = None }

abbrev pub range : ExprTree → ExprTree → LabelTree
range a b = record { first = a; last = Some b }

-- ---- tables

-- a name of a function is found without regard to case
functions : map (λ n. function n) (codes "abs" ∷ codes "MIN" ∷ codes "Max" ∷ codes "limit" ∷ codes "SEL" ∷ codes "int_to_dint" ∷ codes "int_to_LINT"
    ∷ codes "DINT_TO_INT" ∷ codes "Dint_To_Lint" ∷ codes "LINT_TO_INT" ∷ codes "lint_to_dint" ∷ codes "Bool_To_Int" ∷ codes "BOOL_TO_LINT" ∷ codes "SQRT" ∷ [])
    ≡ Some fun.Abs ∷ Some fun.Min ∷ Some fun.Max ∷ Some fun.Limit ∷ Some fun.Sel ∷ Some fun.IntToDint ∷ Some fun.IntToLint ∷ Some fun.DintToInt
    ∷ Some fun.DintToLint ∷ Some fun.LintToInt ∷ Some fun.LintToDint ∷ Some fun.BoolToInt ∷ None ∷ None ∷ []
functions = refl

arguments : map (λ f. arity f) (fun.Abs ∷ fun.Min ∷ fun.Max ∷ fun.Limit ∷ fun.Sel ∷ fun.IntToDint ∷ fun.IntToLint ∷ fun.DintToInt ∷ fun.DintToLint
    ∷ fun.LintToInt ∷ fun.LintToDint ∷ fun.BoolToInt ∷ [])
    ≡ 1 ∷ 2 ∷ 2 ∷ 3 ∷ 3 ∷ 1 ∷ 1 ∷ 1 ∷ 1 ∷ 1 ∷ 1 ∷ 1 ∷ []
arguments = refl

abbrev types : List Ty
types = ty.Bool ∷ ty.Int ∷ ty.Dint ∷ ty.Lint ∷ []

-- the least type of numbers that a value is in; `negsuc n` is -(n + 1)
least_types : map sized (pos 32767 ∷ pos 32768 ∷ pos 2147483647 ∷ pos 2147483648 ∷ pos 9223372036854775807 ∷ pos 9223372036854775808 ∷ ℤ.negsuc 32767
    ∷ ℤ.negsuc 32768 ∷ ℤ.negsuc 2147483647 ∷ ℤ.negsuc 2147483648 ∷ ℤ.negsuc 9223372036854775807 ∷ [])
    ≡ Some ty.Int ∷ Some ty.Dint ∷ Some ty.Dint ∷ Some ty.Lint ∷ Some ty.Lint ∷ None ∷ Some ty.Int ∷ Some ty.Dint ∷ Some ty.Dint ∷ Some ty.Lint ∷ Some ty.Lint
    ∷ []
least_types = refl

-- of one BOOL, INT, DINT or LINT
of_one : map (λ f. map (λ t. function_type f (t ∷ [])) types) (fun.Abs ∷ fun.IntToDint ∷ fun.IntToLint ∷ fun.DintToInt ∷ fun.DintToLint ∷ fun.LintToInt
    ∷ fun.LintToDint ∷ fun.BoolToInt ∷ [])
    ≡ (None ∷ Some ty.Int ∷ Some ty.Dint ∷ Some ty.Lint ∷ [])
    ∷ (None ∷ Some ty.Dint ∷ None ∷ None ∷ [])
    ∷ (None ∷ Some ty.Lint ∷ None ∷ None ∷ [])
    ∷ (None ∷ Some ty.Int ∷ Some ty.Int ∷ None ∷ [])
    ∷ (None ∷ Some ty.Lint ∷ Some ty.Lint ∷ None ∷ [])
    ∷ (None ∷ Some ty.Int ∷ Some ty.Int ∷ Some ty.Int ∷ [])
    ∷ (None ∷ Some ty.Dint ∷ Some ty.Dint ∷ Some ty.Dint ∷ [])
    ∷ (Some ty.Int ∷ None ∷ None ∷ None ∷ []) ∷ []
of_one = refl

-- a row for each type of the first argument, in it a column for each of the second
abbrev two_numbers : List (List (Option Ty))
two_numbers =
    (None ∷ None ∷ None ∷ None ∷ [])
    ∷ (None ∷ Some ty.Int ∷ Some ty.Dint ∷ Some ty.Lint ∷ [])
    ∷ (None ∷ Some ty.Dint ∷ Some ty.Dint ∷ Some ty.Lint ∷ [])
    ∷ (None ∷ Some ty.Lint ∷ Some ty.Lint ∷ Some ty.Lint ∷ []) ∷ []

of_two : map (λ f. map (λ t. map (λ u. function_type f (t ∷ u ∷ [])) types) types) (fun.Min ∷ fun.Max ∷ []) ≡ two_numbers ∷ two_numbers ∷ []
of_two = refl

-- the same of LIMIT, with an INT, a DINT and a LINT as its third argument
of_limit : map (λ v. map (λ t. map (λ u. function_type fun.Limit (t ∷ u ∷ v ∷ [])) types) types) (ty.Int ∷ ty.Dint ∷ ty.Lint ∷ [])
    ≡ two_numbers
    ∷ ((None ∷ None ∷ None ∷ None ∷ [])
    ∷ (None ∷ Some ty.Dint ∷ Some ty.Dint ∷ Some ty.Lint ∷ [])
    ∷ (None ∷ Some ty.Dint ∷ Some ty.Dint ∷ Some ty.Lint ∷ [])
    ∷ (None ∷ Some ty.Lint ∷ Some ty.Lint ∷ Some ty.Lint ∷ []) ∷ [])
    ∷ ((None ∷ None ∷ None ∷ None ∷ [])
    ∷ (None ∷ Some ty.Lint ∷ Some ty.Lint ∷ Some ty.Lint ∷ [])
    ∷ (None ∷ Some ty.Lint ∷ Some ty.Lint ∷ Some ty.Lint ∷ [])
    ∷ (None ∷ Some ty.Lint ∷ Some ty.Lint ∷ Some ty.Lint ∷ []) ∷ []) ∷ []
of_limit = refl

no_limit : map (λ t. function_type fun.Limit (t ∷ t ∷ ty.Bool ∷ [])) types ≡ None ∷ None ∷ None ∷ None ∷ []
no_limit = refl

-- the same where two BOOL are taken too
abbrev two_numbers_or_bools : List (List (Option Ty))
two_numbers_or_bools =
    (Some ty.Bool ∷ None ∷ None ∷ None ∷ [])
    ∷ (None ∷ Some ty.Int ∷ Some ty.Dint ∷ Some ty.Lint ∷ [])
    ∷ (None ∷ Some ty.Dint ∷ Some ty.Dint ∷ Some ty.Lint ∷ [])
    ∷ (None ∷ Some ty.Lint ∷ Some ty.Lint ∷ Some ty.Lint ∷ []) ∷ []

-- of SEL by BOOL, and by a number
of_sel : map (λ t. map (λ u. function_type fun.Sel (ty.Bool ∷ t ∷ u ∷ [])) types) types ≡ two_numbers_or_bools
of_sel = refl

no_sel : map (λ n. map (λ t. function_type fun.Sel (n ∷ t ∷ t ∷ [])) types) (ty.Int ∷ ty.Dint ∷ ty.Lint ∷ [])
    ≡ (None ∷ None ∷ None ∷ None ∷ []) ∷ (None ∷ None ∷ None ∷ None ∷ []) ∷ (None ∷ None ∷ None ∷ None ∷ []) ∷ []
no_sel = refl

-- the types that the operands of operators widen to
abbrev operators : List BinOp → List (List (List (Option Ty)))
operators ops = map (λ op. map (λ t. map (λ u. common op t u) types) types) ops

of_numbers : operators (bin.Mul ∷ bin.Div ∷ bin.Mod ∷ bin.Add ∷ bin.Sub ∷ bin.Lt ∷ bin.Gt ∷ bin.Le ∷ bin.Ge ∷ [])
    ≡ two_numbers ∷ two_numbers ∷ two_numbers ∷ two_numbers ∷ two_numbers ∷ two_numbers ∷ two_numbers ∷ two_numbers ∷ two_numbers ∷ []
of_numbers = refl

of_equality : operators (bin.Eq ∷ bin.Ne ∷ []) ≡ two_numbers_or_bools ∷ two_numbers_or_bools ∷ []
of_equality = refl

abbrev two_bools : List (List (Option Ty))
two_bools =
    (Some ty.Bool ∷ None ∷ None ∷ None ∷ [])
    ∷ (None ∷ None ∷ None ∷ None ∷ [])
    ∷ (None ∷ None ∷ None ∷ None ∷ [])
    ∷ (None ∷ None ∷ None ∷ None ∷ []) ∷ []

of_bools : operators (bin.And ∷ bin.Xor ∷ bin.Or ∷ []) ≡ two_bools ∷ two_bools ∷ two_bools ∷ []
of_bools = refl

-- `-` and NOT before an operand
of_signs : map (λ op. map (λ t. signed op t) types) (un.Neg ∷ un.Not ∷ [])
    ≡ (None ∷ Some ty.Int ∷ Some ty.Dint ∷ Some ty.Lint ∷ []) ∷ (Some ty.Bool ∷ None ∷ None ∷ None ∷ []) ∷ []
of_signs = refl

-- how many turns FOR has from a first to a last bound by a step; `negsuc n` is -(n + 1)
turns : map (λ (b : ℤ × ℤ × ℤ). turns_of b.0 b.1 b.2)
    ((pos 1, pos 6, pos 2) ∷ (pos 1, pos 7, pos 2) ∷ (pos 2, pos 2, pos 1) ∷ (pos 2, pos 2, ℤ.negsuc 0) ∷ (pos 2, pos 1, pos 1) ∷ (pos 1, pos 2, ℤ.negsuc 0)
    ∷ (pos 7, pos 1, ℤ.negsuc 2) ∷ (ℤ.negsuc 32767, pos 32767, pos 1) ∷ (ℤ.negsuc 2147483647, pos 2147483647, pos 1)
    ∷ (ℤ.negsuc 9223372036854775807, pos 9223372036854775807, pos 1) ∷ (ℤ.negsuc 9223372036854775806, pos 9223372036854775807, pos 9223372036854775807)
    ∷ (pos 9223372036854775806, pos 9223372036854775807, pos 1) ∷ [])
    ≡ 3 ∷ 4 ∷ 1 ∷ 1 ∷ 0 ∷ 0 ∷ 3 ∷ 65536 ∷ 4294967296 ∷ 18446744073709551616 ∷ 3 ∷ 2 ∷ []
turns = refl

-- ---- programs without a fault, with their Size

-- q := i + d;
sum : checks (set (codes "q") (binary bin.Add (var (codes "i") 6) (var (codes "d") 10) (at 6 8))) ≡ (None, Some 20)
sum = refl

-- q := -2147483648;
least_literal : checks (set (codes "q") (unary un.Neg (num 2147483648 7) (at 6 6))) ≡ (None, Some 18)
least_literal = refl

-- FOR k := T TO DINT#5 DO q := k; END_FOR;
counted : checks
    (one (for_ (codes "k") (at 6 5) (var (codes "T") 10) (literal (Some ty.Dint) (pos 5) (at 6 15)) None
    (and_stmt (assign (codes "q") (var (codes "k") 30) (at 6 25)) no_stmts) (at 6 1))) ≡ (None, Some 25)
counted = refl

-- q := SEL(b, i, d);
choice : checks
    (set (codes "q") (call (codes "SEL") (and_expr (var (codes "b") 10) (and_expr (var (codes "i") 13) (and_expr (var (codes "d") 16) no_exprs))) (at 6 6)))
    ≡ (None, Some 20)
choice = refl

-- r := DINT_TO_INT(i);
narrowed : checks (set (codes "r") (call (codes "DINT_TO_INT") (and_expr (var (codes "i") 18) no_exprs) (at 6 6))) ≡ (None, Some 19)
narrowed = refl

-- q := LIMIT(0, d, 100);
limited : checks (set (codes "q") (call (codes "LIMIT") (and_expr (num 0 12) (and_expr (var (codes "d") 15) (and_expr (num 100 18) no_exprs))) (at 6 6)))
    ≡ (None, Some 25)
limited = refl

-- q := t + abs(-5); a name and a function are found without regard to case
constants : checks
    (set (codes "Q") (binary bin.Add (var (codes "t") 6) (call (codes "abs") (and_expr (unary un.Neg (num 5 15) (at 6 14)) no_exprs) (at 6 10)) (at 6 8)))
    ≡ (None, Some 27)
constants = refl

-- VAR a : DINT := -2147483648; END_VAR
least_initial : checks (vars (decl (codes "a") (at 2 5) ty.Dint (Some (unary un.Neg (literal None (pos 2147483648) (at 2 18)) (at 2 17))) ∷ []))
    ≡ (None, Some 4)
least_initial = refl

-- CASE d OF 40000: q := 1; END_CASE;
wide_label : checks (case_of (var (codes "d") 6) (label (num 40000 11) ∷ [])) ≡ (None, Some 24)
wide_label = refl

-- CASE i OF 3..3: q := 1; END_CASE;
range_of_one : checks (case_of (var (codes "i") 6) (range (num 3 11) (num 3 14) ∷ [])) ≡ (None, Some 28)
range_of_one = refl

-- FOR k := 1 TO 3 DO q := 1; END_FOR; k := 2; the loop is over
set_after : checks (record {
  name = codes "p";
  blocks = header;
  body = and_stmt (for_ (codes "k") (at 6 5) (num 1 10) (num 3 15) None (body_of 1 20 25) (at 6 1))
      (and_stmt (assign (codes "k") (num 2 42) (at 6 37)) no_stmts);
}) ≡ (None, Some 30)
set_after = refl

-- ---- checked trees

-- i + d: i is widened
sum_tree : expr_of names (binary bin.Add (var (codes "i") 6) (var (codes "d") 10) (at 6 8))
    ≡ Some (typed.binary bin.Add ty.Dint (typed.widen ty.Dint (typed.get 0 ty.Int)) (typed.get 1 ty.Dint) (at 6 8))
sum_tree = refl

-- d < 3: the literal becomes one of DINT
test_tree : expr_of names (binary bin.Lt (var (codes "d") 6) (num 3 10) (at 6 8))
    ≡ Some (typed.binary bin.Lt ty.Dint (typed.get 1 ty.Dint) (typed.literal ty.Dint (pos 3) (at 6 10)) (at 6 8))
test_tree = refl

-- T * -1: the constant is its value at the place of its use, and `-1` is one literal
literal_tree : expr_of names (binary bin.Mul (var (codes "T") 6) (unary un.Neg (num 1 11) (at 6 10)) (at 6 8))
    ≡ Some (typed.binary bin.Mul ty.Int (typed.literal ty.Int (pos 3) (at 6 6)) (typed.literal ty.Int (ℤ.negsuc 0) (at 6 11)) (at 6 8))
literal_tree = refl

-- DINT_TO_INT(i): the argument is widened
call_tree : expr_of names (call (codes "DINT_TO_INT") (and_expr (var (codes "i") 18) no_exprs) (at 6 6))
    ≡ Some (typed.call fun.DintToInt ty.Int (typed.and_texpr (typed.widen ty.Dint (typed.get 0 ty.Int)) typed.no_texprs) (at 6 6))
call_tree = refl

-- FOR k := 7 TO 1 BY -3 DO q := 0; END_FOR: 7, 4 and 1
for_tree : stmts_of names []
    (and_stmt (for_ (codes "k") (at 6 5) (num 7 10) (num 1 15) (Some (unary un.Neg (num 3 21) (at 6 20))) (body_of 0 26 31) (at 6 1)) no_stmts)
    ≡ Some (checked.and_tstmt (checked.for_ 6 (pos 7) (ℤ.negsuc 2) 3
    (checked.and_tstmt (checked.assign 3 (typed.literal ty.Dint (pos 0) (at 6 31)) (at 6 26)) checked.no_tstmts) (at 6 5)) checked.no_tstmts)
for_tree = refl

-- FOR k := 2 TO 1 DO q := 0; END_FOR: no turn
no_turn_tree : stmts_of names []
    (and_stmt (for_ (codes "k") (at 6 5) (num 2 10) (num 1 15) None (body_of 0 20 25) (at 6 1)) no_stmts)
    ≡ Some (checked.and_tstmt (checked.for_ 6 (pos 2) (pos 1) 0
    (checked.and_tstmt (checked.assign 3 (typed.literal ty.Dint (pos 0) (at 6 25)) (at 6 20)) checked.no_tstmts) (at 6 5)) checked.no_tstmts)
no_turn_tree = refl

-- q := n, checked
abbrev set_q : ℕ → ℕ → ℕ → checked.TStmtTrees
set_q n col by = checked.and_tstmt (checked.assign 3 (typed.literal ty.Dint (pos n) (at 6 by)) (at 6 col)) checked.no_tstmts

-- IF b THEN q := 1; ELSIF c THEN q := 2; ELSE q := 3; END_IF: each body stands with its condition
if_tree : stmts_of names []
    (and_stmt (if_ (and_arm (var (codes "b") 4) (body_of 1 11 16) (at 6 1) (and_arm (var (codes "c") 25) (body_of 2 32 37) (at 6 19) no_arms))
    (other (body_of 3 45 50))) no_stmts)
    ≡ Some (checked.and_tstmt (checked.if_ (checked.and_tarm (typed.get 2 ty.Bool) (set_q 1 11 16) (at 6 1)
    (checked.and_tarm (typed.get 5 ty.Bool) (set_q 2 32 37) (at 6 19) checked.no_tarms)) (checked.tother (set_q 3 45 50))) checked.no_tstmts)
if_tree = refl

-- CASE i OF -1, 2..T: q := 1; 7: q := 2; ELSE q := 3; END_CASE: a value is its own first and last
case_tree : stmts_of names []
    (and_stmt (case (var (codes "i") 6)
    (and_branch (label (unary un.Neg (num 1 12) (at 6 11)) ∷ range (num 2 15) (var (codes "T") 18) ∷ []) (body_of 1 21 26)
    (and_branch (label (num 7 29) ∷ []) (body_of 2 32 37) no_branches)) (other (body_of 3 45 50)) (at 6 1)) no_stmts)
    ≡ Some (checked.and_tstmt (checked.case (typed.get 0 ty.Int)
    (checked.and_tbranch (record { first = ℤ.negsuc 0; last = ℤ.negsuc 0; range = false; spot = at 6 11 }
    ∷ record { first = pos 2; last = pos 3; range = true; spot = at 6 15 } ∷ []) (set_q 1 21 26)
    (checked.and_tbranch (record { first = pos 7; last = pos 7; range = false; spot = at 6 29 } ∷ []) (set_q 2 32 37) checked.no_tbranches))
    (checked.tother (set_q 3 45 50)) (at 6 1)) checked.no_tstmts)
case_tree = refl

-- ---- the least faults

-- r := d;
narrows : first_fault (set (codes "r") (var (codes "d") 6)) ≡ Some (fault rule.Mismatch (at 6 1))
narrows = refl

-- q := i + b;
adds_bool : first_fault (set (codes "q") (binary bin.Add (var (codes "i") 6) (var (codes "b") 10) (at 6 8))) ≡ Some (fault rule.Mismatch (at 6 8))
adds_bool = refl

-- c := b < b;
orders_bool : first_fault (set (codes "c") (binary bin.Lt (var (codes "b") 6) (var (codes "b") 10) (at 6 8))) ≡ Some (fault rule.Mismatch (at 6 8))
orders_bool = refl

-- q := zz;
unknown : first_fault (set (codes "q") (var (codes "zz") 6)) ≡ Some (fault rule.Unknown (at 6 6))
unknown = refl

-- i := 1;
sets_input : first_fault (set (codes "i") (num 1 6)) ≡ Some (fault rule.Assign (at 6 1))
sets_input = refl

-- T := 1;
sets_constant : first_fault (set (codes "T") (num 1 6)) ≡ Some (fault rule.Assign (at 6 1))
sets_constant = refl

-- q := 2147483648; the literal is LINT
beyond_dint : first_fault (set (codes "q") (num 2147483648 6)) ≡ Some (fault rule.Mismatch (at 6 1))
beyond_dint = refl

-- r := -32769;
beyond_int : first_fault (set (codes "r") (unary un.Neg (num 32769 7) (at 6 6))) ≡ Some (fault rule.Mismatch (at 6 1))
beyond_int = refl

-- q := INT#32768;
beyond_written : first_fault (set (codes "q") (literal (Some ty.Int) (pos 32768) (at 6 6))) ≡ Some (fault rule.Literal (at 6 6))
beyond_written = refl

-- FOR k := 1 TO d DO q := 1; END_FOR;
bound_variable : first_fault (one (for_ (codes "k") (at 6 5) (num 1 10) (var (codes "d") 15) None (body_of 1 20 25) (at 6 1)))
    ≡ Some (fault rule.Bound (at 6 15))
bound_variable = refl

-- FOR k := 1 TO 40000 DO q := 1; END_FOR;
bound_beyond : first_fault (one (for_ (codes "k") (at 6 5) (num 1 10) (num 40000 15) None (body_of 1 24 29) (at 6 1))) ≡ Some (fault rule.Bound (at 6 15))
bound_beyond = refl

-- FOR k := 1 TO 3 BY 0 DO q := 1; END_FOR;
no_step : first_fault (one (for_ (codes "k") (at 6 5) (num 1 10) (num 3 15) (Some (num 0 20)) (body_of 1 25 30) (at 6 1))) ≡ Some (fault rule.Bound (at 6 20))
no_step = refl

-- FOR b := 1 TO 2 DO q := 1; END_FOR;
counts_bool : first_fault (one (for_ (codes "b") (at 6 5) (num 1 10) (num 2 15) None (body_of 1 20 25) (at 6 1))) ≡ Some (fault rule.Mismatch (at 6 5))
counts_bool = refl

-- FOR k := 1 TO 3 DO k := 2; END_FOR;
sets_held : first_fault (one (for_ (codes "k") (at 6 5) (num 1 10) (num 3 15) None (and_stmt (assign (codes "k") (num 2 25) (at 6 20)) no_stmts) (at 6 1)))
    ≡ Some (fault rule.Assign (at 6 20))
sets_held = refl

-- FOR T := 1 TO 3 DO q := 1; END_FOR;
counts_constant : first_fault (one (for_ (codes "T") (at 6 5) (num 1 10) (num 3 15) None (body_of 1 20 25) (at 6 1))) ≡ Some (fault rule.Assign (at 6 5))
counts_constant = refl

-- IF i THEN q := 1; END_IF;
tests_int : first_fault (one (if_ (and_arm (var (codes "i") 4) (body_of 1 11 16) (at 6 1) no_arms) no_other)) ≡ Some (fault rule.Mismatch (at 6 1))
tests_int = refl

-- CASE b OF 1: q := 1; END_CASE;
selects_bool : first_fault
    (one (case (var (codes "b") 6) (and_branch (record { first = num 1 11; last = None } ∷ []) (body_of 1 14 19) no_branches) no_other (at 6 1))) ≡ Some
    (fault rule.Mismatch (at 6 1))
selects_bool = refl

-- CASE i OF 5..3: q := 1; END_CASE;
empty_range : first_fault
    (one (case (var (codes "i") 6) (and_branch (record { first = num 5 11; last = Some (num 3 14) } ∷ []) (body_of 1 17 22) no_branches) no_other (at 6 1)))
    ≡ Some (fault rule.Label (at 6 11))
empty_range = refl

-- q := MIN(i, d, d);
three_for_two : first_fault
    (set (codes "q") (call (codes "MIN") (and_expr (var (codes "i") 10) (and_expr (var (codes "d") 13) (and_expr (var (codes "d") 16) no_exprs))) (at 6 6)))
    ≡ Some (fault rule.Call (at 6 6))
three_for_two = refl

-- q := FOO(1);
no_function : first_fault (set (codes "q") (call (codes "FOO") (and_expr (num 1 10) no_exprs) (at 6 6))) ≡ Some (fault rule.Call (at 6 6))
no_function = refl

-- c := SEL(i, b, b);
selects_by_int : first_fault
    (set (codes "c") (call (codes "SEL") (and_expr (var (codes "i") 10) (and_expr (var (codes "b") 13) (and_expr (var (codes "b") 16) no_exprs))) (at 6 6)))
    ≡ Some (fault rule.Mismatch (at 6 6))
selects_by_int = refl

-- r := INT_TO_DINT(i);
widens : first_fault (set (codes "r") (call (codes "INT_TO_DINT") (and_expr (var (codes "i") 18) no_exprs) (at 6 6))) ≡ Some (fault rule.Mismatch (at 6 1))
widens = refl

-- VAR a, A : INT; END_VAR
twice : first_fault
    (vars (record { names = record { name = codes "a"; spot = at 2 5 } ∷ record { name = codes "A"; spot = at 2 8 } ∷ []; ty = ty.Int; init = None } ∷ []))
    ≡ Some (fault rule.Duplicate (at 2 8))
twice = refl

-- VAR a : INT := TRUE; END_VAR
initial_bool : first_fault (vars (decl (codes "a") (at 2 5) ty.Int (Some (literal (Some ty.Bool) (pos 1) (at 2 16))) ∷ []))
    ≡ Some (fault rule.Mismatch (at 2 5))
initial_bool = refl

-- VAR a : INT := 40000; END_VAR
initial_beyond : first_fault (vars (decl (codes "a") (at 2 5) ty.Int (Some (literal None (pos 40000) (at 2 16))) ∷ [])) ≡ Some (fault rule.Mismatch (at 2 5))
initial_beyond = refl

-- VAR a : INT := zz; END_VAR
initial_unknown : first_fault (vars (decl (codes "a") (at 2 5) ty.Int (Some (name (codes "zz") (at 2 16))) ∷ [])) ≡ Some (fault rule.Unknown (at 2 16))
initial_unknown = refl

-- VAR a : INT := 1 + 2; END_VAR
initial_sum : first_fault
    (vars (decl (codes "a") (at 2 5) ty.Int (Some (binary bin.Add (literal None (pos 1) (at 2 16)) (literal None (pos 2) (at 2 20)) (at 2 18))) ∷ [])) ≡ Some
    (fault rule.Bound (at 2 18))
initial_sum = refl

-- q := -INT#32768; a `-` isn't counted in to a literal with a type
beyond_negated : first_fault (set (codes "q") (unary un.Neg (literal (Some ty.Int) (pos 32768) (at 6 7)) (at 6 6))) ≡ Some (fault rule.Literal (at 6 7))
beyond_negated = refl

-- c := NOT i;
not_of_int : first_fault (set (codes "c") (unary un.Not (var (codes "i") 10) (at 6 6))) ≡ Some (fault rule.Mismatch (at 6 6))
not_of_int = refl

-- zz := TRUE;
sets_unknown : first_fault (set (codes "zz") (literal (Some ty.Bool) (pos 1) (at 6 7))) ≡ Some (fault rule.Unknown (at 6 1))
sets_unknown = refl

-- IF b THEN q := 1; ELSIF i THEN q := 2; END_IF;
tests_int_next : first_fault
    (one (if_ (and_arm (var (codes "b") 4) (body_of 1 11 16) (at 6 1) (and_arm (var (codes "i") 25) (body_of 2 32 37) (at 6 19) no_arms)) no_other)) ≡ Some
    (fault rule.Mismatch (at 6 19))
tests_int_next = refl

-- IF b THEN q := 1; ELSE zz := 2; END_IF;
unknown_in_else : first_fault
    (one (if_ (and_arm (var (codes "b") 4) (body_of 1 11 16) (at 6 1) no_arms) (other (and_stmt (assign (codes "zz") (num 2 30) (at 6 24)) no_stmts)))) ≡ Some
    (fault rule.Unknown (at 6 24))
unknown_in_else = refl

-- CASE i OF 1: q := 1; ELSE zz := 2; END_CASE;
unknown_in_case : first_fault
    (one (case (var (codes "i") 6) (and_branch (label (num 1 11) ∷ []) (body_of 1 14 19) no_branches)
    (other (and_stmt (assign (codes "zz") (num 2 33) (at 6 27)) no_stmts)) (at 6 1))) ≡ Some (fault rule.Unknown (at 6 27))
unknown_in_case = refl

-- CASE i OF 40000: q := 1; END_CASE;
label_beyond : first_fault (case_of (var (codes "i") 6) (label (num 40000 11) ∷ [])) ≡ Some (fault rule.Label (at 6 11))
label_beyond = refl

-- CASE i OF TRUE: q := 1; END_CASE;
bool_label : first_fault (case_of (var (codes "i") 6) (label (literal (Some ty.Bool) (pos 1) (at 6 11)) ∷ [])) ≡ Some (fault rule.Label (at 6 11))
bool_label = refl

-- CASE i OF k: q := 1; END_CASE;
variable_label : first_fault (case_of (var (codes "i") 6) (label (var (codes "k") 11) ∷ [])) ≡ Some (fault rule.Label (at 6 11))
variable_label = refl

-- FOR k := TRUE TO 1 DO q := 1; END_FOR;
true_bound : first_fault (one (for_ (codes "k") (at 6 5) (literal (Some ty.Bool) (pos 1) (at 6 10)) (num 1 18) None (body_of 1 23 28) (at 6 1)))
    ≡ Some (fault rule.Bound (at 6 10))
true_bound = refl

-- FOR k := 1 TO 3 BY 40000 DO q := 1; END_FOR;
step_beyond : first_fault (one (for_ (codes "k") (at 6 5) (num 1 10) (num 3 15) (Some (num 40000 20)) (body_of 1 29 34) (at 6 1)))
    ≡ Some (fault rule.Bound (at 6 20))
step_beyond = refl

-- FOR k := 1 TO 3 DO FOR r := 1 TO 2 DO k := 1; END_FOR; END_FOR;
abbrev within_two : List ℕ → StmtTrees → ProgramTree
within_two n body =
    one (for_ (codes "k") (at 6 5) (num 1 10) (num 3 15) None (and_stmt (for_ n (at 6 24) (num 1 29) (num 2 34) None body (at 6 20)) no_stmts) (at 6 1))

sets_outer : first_fault (within_two (codes "r") (and_stmt (assign (codes "k") (num 1 44) (at 6 39)) no_stmts)) ≡ Some (fault rule.Assign (at 6 39))
sets_outer = refl

sets_inner : first_fault (within_two (codes "r") (and_stmt (assign (codes "r") (num 1 44) (at 6 39)) no_stmts)) ≡ Some (fault rule.Assign (at 6 39))
sets_inner = refl

-- FOR k := 1 TO 3 DO FOR k := 1 TO 2 DO q := 1; END_FOR; END_FOR;
counts_held : first_fault (within_two (codes "k") (body_of 1 39 44)) ≡ Some (fault rule.Assign (at 6 24))
counts_held = refl

-- ---- the least fault, where there are several

-- i := TRUE; Mismatch is told before Assign
true_to_input : first_fault (set (codes "i") (literal (Some ty.Bool) (pos 1) (at 6 6))) ≡ Some (fault rule.Mismatch (at 6 1))
true_to_input = refl

-- IF 5 THEN zz := 1; END_IF;
number_tested : first_fault (one (if_ (and_arm (num 5 4) (and_stmt (assign (codes "zz") (num 1 17) (at 6 11)) no_stmts) (at 6 1) no_arms) no_other))
    ≡ Some (fault rule.Mismatch (at 6 1))
number_tested = refl

-- CASE i OF 1..zz: q := 1; END_CASE;
open_range : first_fault
    (one (case (var (codes "i") 6) (and_branch (record { first = num 1 11; last = Some (var (codes "zz") 14) } ∷ []) (body_of 1 18 23) no_branches) no_other
    (at 6 1))) ≡ Some (fault rule.Label (at 6 11))
open_range = refl

-- q := (zz + b) * (b + 1); the sum and the product that hold zz tell nothing of their own
unknown_part : first_fault
    (set (codes "q")
    (binary bin.Mul (binary bin.Add (var (codes "zz") 7) (var (codes "b") 12) (at 6 10)) (binary bin.Add (var (codes "b") 18) (num 1 22) (at 6 20)) (at 6 15)))
    ≡ Some (fault rule.Unknown (at 6 7))
unknown_part = refl

-- FOR k := 1 TO zz DO q := 1; END_FOR; an unknown bound is Unknown
unknown_bound : first_fault (one (for_ (codes "k") (at 6 5) (num 1 10) (var (codes "zz") 15) None (body_of 1 21 26) (at 6 1)))
    ≡ Some (fault rule.Unknown (at 6 15))
unknown_bound = refl

-- FOR k := -99999999999 TO 1 DO q := 1; END_FOR; Bound at the `-`
literal_bound : first_fault (one (for_ (codes "k") (at 6 5) (unary un.Neg (num 99999999999 11) (at 6 10)) (num 1 26) None (body_of 1 31 36) (at 6 1)))
    ≡ Some (fault rule.Bound (at 6 10))
literal_bound = refl

-- FOR k := -TRUE TO 1 DO q := 1; END_FOR;
bool_bound : first_fault
    (one (for_ (codes "k") (at 6 5) (unary un.Neg (literal (Some ty.Bool) (pos 1) (at 6 11)) (at 6 10)) (num 1 19) None (body_of 1 24 29) (at 6 1))) ≡ Some
    (fault rule.Mismatch (at 6 10))
bool_bound = refl

-- FOR k := 1 TO DINT#1 DO q := 1; END_FOR; bounds are tested by value
bound_by_value : first_fault (one (for_ (codes "k") (at 6 5) (num 1 10) (literal (Some ty.Dint) (pos 1) (at 6 15)) None (body_of 1 25 30) (at 6 1))) ≡ None
bound_by_value = refl

-- CASE i OF 99999999999: q := 1; END_CASE;
literal_label : first_fault
    (one (case (var (codes "i") 6) (and_branch (record { first = num 99999999999 11; last = None } ∷ []) (body_of 1 24 29) no_branches) no_other (at 6 1)))
    ≡ Some (fault rule.Label (at 6 11))
literal_label = refl

-- VAR a : INT := x; x : INT; END_VAR: x is declared, but later
later_name : first_fault (vars (decl (codes "a") (at 2 5) ty.Int (Some (name (codes "x") (at 2 16))) ∷ decl (codes "x") (at 2 19) ty.Int None ∷ []))
    ≡ Some (fault rule.Bound (at 2 16))
later_name = refl

-- VAR a, b : BOOL := 1; END_VAR: the first name's fault is told
two_names : first_fault
    (vars (record {
      names = record { name = codes "a"; spot = at 2 5 } ∷ record { name = codes "b"; spot = at 2 8 } ∷ [];
      ty = ty.Bool;
      init =
          Some (literal None (pos 1) (at 2 18));
    } ∷ [])) ≡ Some (fault rule.Mismatch (at 2 5))
two_names = refl

-- c := BOOL#2;
beyond_bool : first_fault (set (codes "c") (literal (Some ty.Bool) (pos 2) (at 6 6))) ≡ Some (fault rule.Literal (at 6 6))
beyond_bool = refl

-- q := MIN(zz, b); a function with an argument that has a fault has no Mismatch
unknown_argument : first_fault (set (codes "q") (call (codes "MIN") (and_expr (var (codes "zz") 10) (and_expr (var (codes "b") 14) no_exprs)) (at 6 6)))
    ≡ Some (fault rule.Unknown (at 6 10))
unknown_argument = refl

-- q := FOO(zz); that there is no such function is told whatever its arguments are
no_function_of_unknown : first_fault (set (codes "q") (call (codes "FOO") (and_expr (var (codes "zz") 10) no_exprs) (at 6 6))) ≡ Some (fault rule.Call (at 6 6))
no_function_of_unknown = refl

-- c := NOT zz;
not_of_unknown : first_fault (set (codes "c") (unary un.Not (var (codes "zz") 10) (at 6 6))) ≡ Some (fault rule.Unknown (at 6 10))
not_of_unknown = refl

-- IF zz THEN q := 1; END_IF;
tests_unknown : first_fault (one (if_ (and_arm (var (codes "zz") 4) (body_of 1 12 17) (at 6 1) no_arms) no_other)) ≡ Some (fault rule.Unknown (at 6 4))
tests_unknown = refl

-- CASE zz OF 1: q := 1; END_CASE;
selects_unknown : first_fault (case_of (var (codes "zz") 6) (label (num 1 12) ∷ [])) ≡ Some (fault rule.Unknown (at 6 6))
selects_unknown = refl

-- VAR a : INT := zz; END_VAR, and zz := 1 in line 3: the earlier line comes first, whatever its column
earlier_line : first_fault (record {
  name = codes "p";
  blocks = record { section = section.Local; decls = decl (codes "a") (at 2 5) ty.Int (Some (name (codes "zz") (at 2 16))) ∷ [] } ∷ [];
  body =
      and_stmt (assign (codes "zz") (num 1 7) (at 3 1)) no_stmts;
}) ≡ Some (fault rule.Unknown (at 2 16))
earlier_line = refl

-- VAR CONSTANT a : INT := a; END_VAR: a constant isn't declared before itself
own_name : first_fault (record {
  name = codes "p";
  blocks = record { section = section.Constant; decls = decl (codes "a") (at 2 5) ty.Int (Some (name (codes "a") (at 2 16))) ∷ [] } ∷ [];
  body = no_stmts;
})
    ≡ Some (fault rule.Bound (at 2 16))
own_name = refl

-- VAR a : INT := -zz; END_VAR: `-` before a name is no constant form, and stands before the unknown name
negated_name : first_fault (vars (decl (codes "a") (at 2 5) ty.Int (Some (unary un.Neg (name (codes "zz") (at 2 17)) (at 2 16))) ∷ []))
    ≡ Some (fault rule.Bound (at 2 16))
negated_name = refl

-- ---- typed literals outside their own type, as bounds, steps and labels

abbrev int_40000 : ℕ → ExprTree
int_40000 col = literal (Some ty.Int) (pos 40000) (at 6 col)

abbrev loop : List ℕ → ExprTree → ExprTree → Option ExprTree → ProgramTree
loop n first last by = one (for_ n (at 6 5) first last by (body_of 1 40 45) (at 6 1))

-- FOR q := INT#40000 TO 50000 DO q := 1; END_FOR; q is DINT: the literal alone is wrong
wide_bound : first_fault (loop (codes "q") (int_40000 10) (num 50000 23) None) ≡ Some (fault rule.Literal (at 6 10))
wide_bound = refl

-- FOR q := 1 TO INT#40000 ..
wide_last : first_fault (loop (codes "q") (num 1 10) (int_40000 15) None) ≡ Some (fault rule.Literal (at 6 15))
wide_last = refl

-- FOR q := 1 TO 9 BY INT#40000 ..
wide_step : first_fault (loop (codes "q") (num 1 10) (num 9 15) (Some (int_40000 20))) ≡ Some (fault rule.Literal (at 6 20))
wide_step = refl

-- FOR k := INT#40000 TO 50000 .. k is INT: the value is outside k's type too, and the lesser number is told
narrow_bound : first_fault (loop (codes "k") (int_40000 10) (num 1 23) None) ≡ Some (fault rule.Bound (at 6 10))
narrow_bound = refl

narrow_step : first_fault (loop (codes "k") (num 1 10) (num 9 15) (Some (int_40000 20))) ≡ Some (fault rule.Bound (at 6 20))
narrow_step = refl

-- FOR q := BOOL#2 TO 9 .. BOOL is no number
bool_beyond : first_fault (loop (codes "q") (literal (Some ty.Bool) (pos 2) (at 6 10)) (num 9 20) None) ≡ Some (fault rule.Bound (at 6 10))
bool_beyond = refl

-- CASE d OF INT#40000: d is DINT
literal_label_of_int : first_fault (case_of (var (codes "d") 6) (label (int_40000 11) ∷ [])) ≡ Some (fault rule.Literal (at 6 11))
literal_label_of_int = refl

-- CASE d OF 1..INT#40000:
wide_end : first_fault (case_of (var (codes "d") 6) (range (num 1 11) (int_40000 14) ∷ [])) ≡ Some (fault rule.Literal (at 6 14))
wide_end = refl

-- CASE d OF INT#40000..1: the first is above the last
wide_range : first_fault (case_of (var (codes "d") 6) (range (int_40000 11) (num 1 22) ∷ [])) ≡ Some (fault rule.Label (at 6 11))
wide_range = refl

-- CASE i OF INT#40000: i is INT
narrow_label : first_fault (case_of (var (codes "i") 6) (label (int_40000 11) ∷ [])) ≡ Some (fault rule.Label (at 6 11))
narrow_label = refl

-- CASE i OF 1..INT#40000: what is wrong with the last end's value is told at the first
narrow_end : first_fault (case_of (var (codes "i") 6) (range (num 1 11) (int_40000 14) ∷ [])) ≡ Some (fault rule.Label (at 6 11))
narrow_end = refl

-- ---- faults inside initial values that are no constant forms

-- VAR a : T := e; x : DINT; b : BOOL; END_VAR
abbrev initial : Ty → ExprTree → ProgramTree
initial t e = vars (decl (codes "a") (at 2 5) t (Some e) ∷ decl (codes "x") (at 2 60) ty.Dint None ∷ decl (codes "b") (at 2 70) ty.Bool None ∷ [])

-- what stands at a column of line 2
abbrev name2 : List ℕ → ℕ → ExprTree
name2 n col = name n (at 2 col)

abbrev num2 : ℕ → ℕ → ExprTree
num2 v col = literal None (pos v) (at 2 col)

-- VAR a : INT := zz + 1;
unknown_inside : first_fault (initial ty.Int (binary bin.Add (name2 (codes "zz") 16) (num2 1 21) (at 2 19))) ≡ Some (fault rule.Unknown (at 2 16))
unknown_inside = refl

-- VAR a : DINT := x + 1; x is declared later, and counts as declared there
sum_of_later : first_fault (initial ty.Dint (binary bin.Add (name2 (codes "x") 17) (num2 1 21) (at 2 19))) ≡ Some (fault rule.Bound (at 2 19))
sum_of_later = refl

-- VAR a : INT := INT#40000 + 1;
literal_inside : first_fault (initial ty.Int (binary bin.Add (literal (Some ty.Int) (pos 40000) (at 2 16)) (num2 1 28) (at 2 26)))
    ≡ Some (fault rule.Literal (at 2 16))
literal_inside = refl

-- VAR a : BOOL := x AND x; at one spot the lesser number
mismatch_inside : first_fault (initial ty.Bool (binary bin.And (name2 (codes "x") 17) (name2 (codes "x") 23) (at 2 19))) ≡ Some (fault rule.Mismatch (at 2 19))
mismatch_inside = refl

-- VAR a : INT := DINT_TO_INT(b);
argument_inside : first_fault (initial ty.Int (call (codes "DINT_TO_INT") (and_expr (name2 (codes "b") 28) no_exprs) (at 2 16)))
    ≡ Some (fault rule.Mismatch (at 2 16))
argument_inside = refl

-- VAR a : INT := DINT_TO_INT(x);
call_is_no_form : first_fault (initial ty.Int (call (codes "DINT_TO_INT") (and_expr (name2 (codes "x") 28) no_exprs) (at 2 16)))
    ≡ Some (fault rule.Bound (at 2 16))
call_is_no_form = refl

-- VAR a : INT := foo(1) + 1;
call_inside : first_fault (initial ty.Int (binary bin.Add (call (codes "foo") (and_expr (num2 1 20) no_exprs) (at 2 16)) (num2 1 25) (at 2 23)))
    ≡ Some (fault rule.Call (at 2 16))
call_inside = refl

-- VAR a : INT := foo(1);
no_such_function : first_fault (initial ty.Int (call (codes "foo") (and_expr (num2 1 20) no_exprs) (at 2 16))) ≡ Some (fault rule.Bound (at 2 16))
no_such_function = refl

-- VAR a : BOOL := -TRUE;
minus_true : first_fault (initial ty.Bool (unary un.Neg (literal (Some ty.Bool) (pos 1) (at 2 18)) (at 2 17))) ≡ Some (fault rule.Mismatch (at 2 17))
minus_true = refl

-- VAR a : BOOL := x; that x is DINT isn't told at a, since x is no constant form
variable_of_other_type : first_fault (initial ty.Bool (name2 (codes "x") 17)) ≡ Some (fault rule.Bound (at 2 17))
variable_of_other_type = refl

-- VAR a : BOOL := INT#40000; a constant form with a fault has no type
literal_alone : first_fault (initial ty.Bool (literal (Some ty.Int) (pos 40000) (at 2 17))) ≡ Some (fault rule.Literal (at 2 17))
literal_alone = refl

-- ---- whole answers

-- PROGRAM p VAR_INPUT x : DINT; END_VAR VAR_OUTPUT y : DINT; END_VAR y := x + 1; END_PROGRAM
abbrev first : ProgramTree
first = record {
  name = codes "p";
  blocks = record { section = section.Input; decls = decl (codes "x") (at 2 11) ty.Dint None ∷ [] }
      ∷ record { section = section.Output; decls = decl (codes "y") (at 3 12) ty.Dint None ∷ [] } ∷ [];
  body = and_stmt (assign (codes "y") (binary bin.Add (name (codes "x") (at 4 6)) (literal None (pos 1) (at 4 10)) (at 4 8)) (at 4 1)) no_stmts;
}

abbrev first_checked : Program
first_checked = record {
  slots =
      record { name = codes "x"; spot = at 2 11; section = section.Input; ty = ty.Dint; init = pos 0 }
      ∷ record { name = codes "y"; spot = at 3 12; section = section.Output; ty = ty.Dint; init = pos 0 } ∷ [];
  body = checked.and_tstmt
      (checked.assign 1 (typed.binary bin.Add ty.Dint (typed.get 0 ty.Dint) (typed.literal ty.Dint (pos 1) (at 4 10)) (at 4 8)) (at 4 1)) checked.no_tstmts;
}

first_typed : IsTyped first first_checked
first_typed = record { faultless = none-is-faultless first refl; few = omega arith; is = refl; room = omega arith }

first_size : size first_checked ≡ 11
first_size = refl

-- PROGRAM p VAR_OUTPUT y : DINT; END_VAR VAR i : DINT; END_VAR .. END_PROGRAM
abbrev counting : StmtTrees → ProgramTree
counting body = record {
  name = codes "p";
  blocks = record { section = section.Output; decls = decl (codes "y") (at 2 12) ty.Dint None ∷ [] }
      ∷ record { section = section.Local; decls = decl (codes "i") (at 3 5) ty.Dint None ∷ [] } ∷ [];
  body = body;
}

abbrev copy : ℕ → ℕ → StmtTree
copy line col = assign (codes "y") (name (codes "i") (at line (col + 5))) (at line col)

-- FOR i := 1 TO 21843 DO y := i; END_FOR;
abbrev long_loop : StmtTree
long_loop = for_ (codes "i") (at 4 5) (literal None (pos 1) (at 4 10)) (literal None (pos 21843) (at 4 15)) None (and_stmt (copy 4 24) no_stmts) (at 4 1)

largest : checks (counting (and_stmt long_loop no_stmts)) ≡ (None, Some 65536)
largest = refl

-- y and i
abbrev counting_slots : List Slot
counting_slots =
    record { name = codes "y"; spot = at 2 12; section = section.Output; ty = ty.Dint; init = pos 0 }
    ∷ record { name = codes "i"; spot = at 3 5; section = section.Local; ty = ty.Dint; init = pos 0 } ∷ []

-- the loop, and what follows it
abbrev long_checked : checked.TStmtTrees → checked.TStmtTrees
long_checked rest =
    checked.and_tstmt
    (checked.for_ 1 (pos 1) (pos 1) 21843 (checked.and_tstmt (checked.assign 0 (typed.get 1 ty.Dint) (at 4 24)) checked.no_tstmts) (at 4 5)) rest

largest_typed : IsTyped (counting (and_stmt long_loop no_stmts)) (record { slots = counting_slots; body = long_checked checked.no_tstmts })
largest_typed = record { faultless = none-is-faultless (counting (and_stmt long_loop no_stmts)) refl; few = omega arith; is = refl; room = omega arith }

-- the same, and y := i;
abbrev larger : ProgramTree
larger = counting (and_stmt long_loop (and_stmt (copy 5 1) no_stmts))

abbrev larger_checked : Program
larger_checked = record {
  slots = counting_slots;
  body = long_checked (checked.and_tstmt (checked.assign 0 (typed.get 1 ty.Dint) (at 5 1)) checked.no_tstmts);
}

larger_refused : Refuses larger told.Size
larger_refused = record { faultless = none-is-faultless larger refl; few = omega arith; typed = larger_checked; is = refl; large = omega arith }

-- FOR i := -2147483648 TO 2147483647 DO FOR y := -2147483648 TO 2147483647 DO END_FOR; END_FOR; the most turns there are
abbrev most_turns : List ℕ → ℕ → StmtTrees → StmtTrees
most_turns n col body =
    and_stmt (for_ n (at 4 (col + 4)) (unary un.Neg (literal None (pos 2147483648) (at 4 (col + 10))) (at 4 (col + 9)))
    (literal None (pos 2147483647) (at 4 (col + 24))) None body (at 4 col)) no_stmts

immense : checks (counting (most_turns (codes "i") 1 (most_turns (codes "y") 40 no_stmts))) ≡ (None, Some 36893488156009037831)
immense = refl

-- FOR i := 3 TO 1 BY 0 DO y := 7; END_FOR;
still_loop : first_fault
    (counting (and_stmt (for_ (codes "i") (at 4 5) (literal None (pos 3) (at 4 10)) (literal None (pos 1) (at 4 15)) (Some (literal None (pos 0) (at 4 20)))
    (and_stmt (assign (codes "y") (literal None (pos 7) (at 4 30)) (at 4 25)) no_stmts) (at 4 1)) no_stmts)) ≡ Some (fault rule.Bound (at 4 20))
still_loop = refl

-- a program of n names in line 2, one in each column
abbrev names_from : ℕ → ℕ → List DeclaredTree
names_from col zero = []
names_from col (suc n) = record { name = codes "a"; spot = at 2 col } ∷ names_from (suc col) n

abbrev many : ℕ → ProgramTree
many n = vars (record { names = names_from 1 n; ty = ty.Int; init = None } ∷ [])

-- of 1,025 names the last is one too many, and of 1,024 none is
one_too_many : IsPast (many 1025) (at 2 1025)
one_too_many = (record { name = codes "a"; spot = at 2 1025 }, refl, refl)

most_allowed : (spot : Spot) → IsPast (many 1024) spot → ⊥
most_allowed spot h = none-some h.0 h.1
