-- Worked rows: meaning, runs and Size of small programs.
use Rattle.std.proofs.Common.{◌≡◌, ℕ, suc, ◌+◌, ◌*◌, ℤ, pos, negsuc, List, [], ◌∷◌, map, Result, Ok, Err, Option, Some, None, true, false, refl, sym, subst}
use Rattle.std.proofs.Common.{arith}
use Rattle.vcp_base.specs.declared.spot.Spot.{Spot}
use Rattle.vcp_base.specs.declared.ty.Ty.{Ty}
use Rattle.vcp_base.specs.declared.ty.Ty.TheVariants as ty
use Rattle.vcp_base.specs.declared.kind.StopKind.TheVariants as why
use Rattle.st_tree.specs.declared.expr.UnOp.TheVariants as un
use Rattle.st_tree.specs.declared.expr.BinOp.{BinOp}
use Rattle.st_tree.specs.declared.expr.BinOp.TheVariants as bin
use Rattle.st_tree.specs.declared.program.Section.{Section}
use Rattle.st_tree.specs.declared.program.Section.TheVariants as section
use Rattle.vcp_typed.specs.declared.expr.Fun.{Fun}
use Rattle.vcp_typed.specs.declared.expr.Fun.TheVariants as fun
use Rattle.vcp_typed.specs.declared.slot.Slot.{Slot}
use Rattle.vcp_typed.specs.declared.stmt.TLabel.{TLabel}
use Rattle.vcp_typed.specs.TExprTree.{TExprTree, literal, get, widen, unary, binary, call, no_texprs, and_texpr}
use Rattle.vcp_typed.specs.TStmtTree.{TStmtTree, TStmtTrees, assign, if_, case, for_, no_tstmts, and_tstmt, no_tarms, and_tarm, no_tbranches, and_tbranch}
use Rattle.vcp_typed.specs.TStmtTree.{no_tother, tother}
use Rattle.vcp_typed.specs.Meaning.{Stop, value, do_stmt}
use Rattle.vcp_typed.specs.Rules.{common, result, signed, arguments}
use Rattle.vcp_typed.specs.SourceRun.{Program, source_run}
use Rattle.vcp_typed.specs.Size.{operator_size, function_size, section_size, stmt_size, size}
use Rattle.vcp_typed.specs.Checked.{MaySet, IsLabel, AreTurns, IsExpr, is_set}

-- a place of the first line
abbrev at : ℕ → Spot
at col = record { line = 1; col = col }

abbrev int : ℤ → TExprTree
int v = literal ty.Int v (at 1)

abbrev bool : ℤ → TExprTree
bool v = literal ty.Bool v (at 1)

abbrev of_two : BinOp → ℤ → ℤ → Result ℤ Stop
of_two op a b = value [] (binary op ty.Int (int a) (int b) (at 5)) []

abbrev of_three : Fun → TExprTree → TExprTree → TExprTree → Result ℤ Stop
of_three f a b c = value [] (call f ty.Int (and_texpr a (and_texpr b (and_texpr c no_texprs))) (at 5)) []

abbrev stopped : {A : Type 0} → Stop → Result A Stop
stopped s = Err s

-- ---- tables, over the types BOOL, INT, DINT and LINT

abbrev types : List Ty
types = ty.Bool ∷ ty.Int ∷ ty.Dint ∷ ty.Lint ∷ []

-- in the order of the table of strengths
abbrev arithmetic : List BinOp
arithmetic = bin.Mul ∷ bin.Div ∷ bin.Mod ∷ bin.Add ∷ bin.Sub ∷ []

abbrev orders : List BinOp
orders = bin.Lt ∷ bin.Gt ∷ bin.Le ∷ bin.Ge ∷ []

abbrev equalities : List BinOp
equalities = bin.Eq ∷ bin.Ne ∷ []

abbrev logic : List BinOp
logic = bin.And ∷ bin.Xor ∷ bin.Or ∷ []

abbrev functions : List Fun
functions = fun.Abs ∷ fun.Min ∷ fun.Max ∷ fun.Limit ∷ fun.Sel ∷ fun.IntToDint ∷ fun.IntToLint ∷ fun.DintToInt ∷ fun.DintToLint ∷ fun.LintToInt ∷ fun.LintToDint
    ∷ fun.BoolToInt ∷ []

abbrev sections : List Section
sections = section.Input ∷ section.Output ∷ section.Local ∷ section.Retain ∷ section.Constant ∷ []

-- the common type of an operator's operands: a row for each type of the left one, in it a column for each of the right one
abbrev common_table : BinOp → List (List (Option Ty))
common_table op = map (λ t. map (λ u. common op t u) types) types

abbrev two_numbers : List (List (Option Ty))
two_numbers =
    (None ∷ None ∷ None ∷ None ∷ [])
    ∷ (None ∷ Some ty.Int ∷ Some ty.Dint ∷ Some ty.Lint ∷ [])
    ∷ (None ∷ Some ty.Dint ∷ Some ty.Dint ∷ Some ty.Lint ∷ [])
    ∷ (None ∷ Some ty.Lint ∷ Some ty.Lint ∷ Some ty.Lint ∷ []) ∷ []

abbrev two_alike : List (List (Option Ty))
two_alike =
    (Some ty.Bool ∷ None ∷ None ∷ None ∷ [])
    ∷ (None ∷ Some ty.Int ∷ Some ty.Dint ∷ Some ty.Lint ∷ [])
    ∷ (None ∷ Some ty.Dint ∷ Some ty.Dint ∷ Some ty.Lint ∷ [])
    ∷ (None ∷ Some ty.Lint ∷ Some ty.Lint ∷ Some ty.Lint ∷ []) ∷ []

abbrev two_bools : List (List (Option Ty))
two_bools =
    (Some ty.Bool ∷ None ∷ None ∷ None ∷ [])
    ∷ (None ∷ None ∷ None ∷ None ∷ [])
    ∷ (None ∷ None ∷ None ∷ None ∷ [])
    ∷ (None ∷ None ∷ None ∷ None ∷ []) ∷ []

arithmetic-types : map common_table arithmetic ≡ map (λ op. two_numbers) arithmetic
arithmetic-types = refl

order-types : map common_table orders ≡ map (λ op. two_numbers) orders
order-types = refl

equality-types : map common_table equalities ≡ map (λ op. two_alike) equalities
equality-types = refl

logic-types : map common_table logic ≡ map (λ op. two_bools) logic
logic-types = refl

-- of two DINT
arithmetic-results : map (λ op. result op ty.Dint) arithmetic ≡ map (λ op. ty.Dint) arithmetic
arithmetic-results = refl

order-results : map (λ op. result op ty.Dint) orders ≡ map (λ op. ty.Bool) orders
order-results = refl

equality-results : map (λ op. result op ty.Dint) equalities ≡ map (λ op. ty.Bool) equalities
equality-results = refl

logic-results : map (λ op. result op ty.Bool) logic ≡ map (λ op. ty.Bool) logic
logic-results = refl

sign-types : map (λ op. map (signed op) types) (un.Neg ∷ un.Not ∷ [])
    ≡ (None ∷ Some ty.Int ∷ Some ty.Dint ∷ Some ty.Lint ∷ []) ∷ (Some ty.Bool ∷ None ∷ None ∷ None ∷ []) ∷ []
sign-types = refl

-- the arguments of each function whose value is an INT
int-arguments : map (λ f. arguments f ty.Int) functions
    ≡ Some (ty.Int ∷ [])
    ∷ Some (ty.Int ∷ ty.Int ∷ [])
    ∷ Some (ty.Int ∷ ty.Int ∷ [])
    ∷ Some (ty.Int ∷ ty.Int ∷ ty.Int ∷ [])
    ∷ Some (ty.Bool ∷ ty.Int ∷ ty.Int ∷ [])
    ∷ None
    ∷ None
    ∷ Some (ty.Dint ∷ [])
    ∷ None
    ∷ Some (ty.Lint ∷ [])
    ∷ None
    ∷ Some (ty.Bool ∷ []) ∷ []
int-arguments = refl

-- of those that can have a BOOL, a DINT or a LINT
bool-arguments : map (λ f. arguments f ty.Bool) functions
    ≡ None ∷ None ∷ None ∷ None ∷ Some (ty.Bool ∷ ty.Bool ∷ ty.Bool ∷ []) ∷ None ∷ None ∷ None ∷ None ∷ None ∷ None ∷ None ∷ []
bool-arguments = refl

dint-arguments : map (λ f. arguments f ty.Dint) (fun.IntToDint ∷ fun.DintToInt ∷ fun.BoolToInt ∷ fun.Sel ∷ [])
    ≡ Some (ty.Int ∷ []) ∷ None ∷ None ∷ Some (ty.Bool ∷ ty.Dint ∷ ty.Dint ∷ []) ∷ []
dint-arguments = refl

lint-arguments : map (λ f. arguments f ty.Lint) (fun.IntToLint ∷ fun.DintToLint ∷ fun.LintToDint ∷ fun.Sel ∷ [])
    ≡ Some (ty.Int ∷ []) ∷ Some (ty.Dint ∷ []) ∷ None ∷ Some (ty.Bool ∷ ty.Lint ∷ ty.Lint ∷ []) ∷ []
lint-arguments = refl

may-be-set : map is_set sections ≡ false ∷ true ∷ true ∷ true ∷ false ∷ []
may-be-set = refl

section-sizes : map section_size sections ≡ 1 ∷ 3 ∷ 2 ∷ 2 ∷ 0 ∷ []
section-sizes = refl

operator-sizes : map (λ ops. map operator_size ops) (arithmetic ∷ orders ∷ equalities ∷ logic ∷ [])
    ≡ (3 ∷ 3 ∷ 3 ∷ 3 ∷ 3 ∷ []) ∷ (3 ∷ 3 ∷ 4 ∷ 4 ∷ []) ∷ (3 ∷ 4 ∷ []) ∷ (3 ∷ 3 ∷ 3 ∷ []) ∷ []
operator-sizes = refl

function-sizes : map function_size functions ≡ 5 ∷ 3 ∷ 3 ∷ 6 ∷ 3 ∷ 2 ∷ 2 ∷ 2 ∷ 2 ∷ 2 ∷ 2 ∷ 2 ∷ []
function-sizes = refl

-- ---- operators; `negsuc n` is -(n + 1)

-- each operator on 7 and 2, on 2 and 7, and on 2 and 2
abbrev on_numbers : BinOp → List (Result ℤ Stop)
on_numbers op = of_two op (pos 7) (pos 2) ∷ of_two op (pos 2) (pos 7) ∷ of_two op (pos 2) (pos 2) ∷ []

abbrev three : ℤ → ℤ → ℤ → List (Result ℤ Stop)
three a b c = Ok a ∷ Ok b ∷ Ok c ∷ []

sums-and-products : map on_numbers arithmetic
    ≡ three (pos 14) (pos 14) (pos 4)
    ∷ three (pos 3) (pos 0) (pos 1)
    ∷ three (pos 1) (pos 2) (pos 0)
    ∷ three (pos 9) (pos 9) (pos 4)
    ∷ three (pos 5) (negsuc 4) (pos 0) ∷ []
sums-and-products = refl

comparisons : map on_numbers orders
    ≡ three (pos 0) (pos 1) (pos 0)
    ∷ three (pos 1) (pos 0) (pos 0)
    ∷ three (pos 0) (pos 1) (pos 1)
    ∷ three (pos 1) (pos 0) (pos 1) ∷ []
comparisons = refl

equals : map on_numbers equalities ≡ three (pos 0) (pos 0) (pos 1) ∷ three (pos 1) (pos 1) (pos 0) ∷ []
equals = refl

-- each operator on TRUE and TRUE, TRUE and FALSE, FALSE and TRUE, FALSE and FALSE
abbrev of_bools : BinOp → ℤ → ℤ → Result ℤ Stop
of_bools op a b = value [] (binary op ty.Bool (bool a) (bool b) (at 5)) []

abbrev on_bools : BinOp → List (Result ℤ Stop)
on_bools op = of_bools op (pos 1) (pos 1) ∷ of_bools op (pos 1) (pos 0) ∷ of_bools op (pos 0) (pos 1) ∷ of_bools op (pos 0) (pos 0) ∷ []

abbrev four : ℕ → ℕ → ℕ → ℕ → List (Result ℤ Stop)
four a b c d = Ok (pos a) ∷ Ok (pos b) ∷ Ok (pos c) ∷ Ok (pos d) ∷ []

truths : map on_bools (bin.And ∷ bin.Xor ∷ bin.Or ∷ bin.Eq ∷ bin.Ne ∷ []) ≡ four 1 0 0 0 ∷ four 0 1 1 0 ∷ four 1 1 1 0 ∷ four 1 0 0 1 ∷ four 0 1 1 0 ∷ []
truths = refl

-- -7 / 2 is -3, and 7 / -2 too
divided : of_two bin.Div (negsuc 6) (pos 2) ≡ Ok (negsuc 2)
divided = refl

divided-by-less : of_two bin.Div (pos 7) (negsuc 1) ≡ Ok (negsuc 2)
divided-by-less = refl

-- -7 MOD 2 is -1, and 7 MOD -2 is 1
rest : of_two bin.Mod (negsuc 6) (pos 2) ≡ Ok (negsuc 0)
rest = refl

rest-by-less : of_two bin.Mod (pos 7) (negsuc 1) ≡ Ok (pos 1)
rest-by-less = refl

-- the standard's MOD gives 0 here
rest-by-zero : of_two bin.Mod (pos 7) (pos 0) ≡ Err (record { kind = why.DivZero; spot = at 5; turns = [] })
rest-by-zero = refl

-- -32768 / -1 is no INT
too-great : of_two bin.Div (negsuc 32767) (negsuc 0) ≡ Err (record { kind = why.Range; spot = at 5; turns = [] })
too-great = refl

sum-too-great : of_two bin.Add (pos 32767) (pos 1) ≡ Err (record { kind = why.Range; spot = at 5; turns = [] })
sum-too-great = refl

sign-too-great : value [] (unary un.Neg ty.Int (int (negsuc 32767)) (at 5)) [] ≡ Err (record { kind = why.Range; spot = at 5; turns = [] })
sign-too-great = refl

-- widened first, it is one of DINT
wide-sign : value [] (unary un.Neg ty.Dint (widen ty.Dint (int (negsuc 32767))) (at 5)) [] ≡ Ok (pos 32768)
wide-sign = refl

turned : value [] (unary un.Not ty.Bool (bool (pos 1)) (at 5)) [] ≡ Ok (pos 0)
turned = refl

exclusive : value [] (binary bin.Xor ty.Bool (bool (pos 1)) (bool (pos 1)) (at 5)) [] ≡ Ok (pos 0)
exclusive = refl

not-less : of_two bin.Ge (negsuc 6) (pos 2) ≡ Ok (pos 0)
not-less = refl

-- both operands are evaluated, from the left: (1 / 0) + (32767 + 1) stops at the division
from-left : value []
    (binary bin.Add ty.Int (binary bin.Div ty.Int (int (pos 1)) (int (pos 0)) (at 3)) (binary bin.Add ty.Int (int (pos 32767)) (int (pos 1)) (at 7)) (at 5)) []
    ≡ Err (record { kind = why.DivZero; spot = at 3; turns = [] })
from-left = refl

-- FALSE AND (1 / 0 = 1) stops
all-operands : value []
    (binary bin.And ty.Bool (bool (pos 0)) (binary bin.Eq ty.Int (binary bin.Div ty.Int (int (pos 1)) (int (pos 0)) (at 9)) (int (pos 1)) (at 13)) (at 5)) []
    ≡ Err (record { kind = why.DivZero; spot = at 9; turns = [] })
all-operands = refl

-- ---- functions

-- SEL(FALSE, 7, 9) is 7, SEL(TRUE, 7, 9) is 9
selected-first : of_three fun.Sel (bool (pos 0)) (int (pos 7)) (int (pos 9)) ≡ Ok (pos 7)
selected-first = refl

selected-second : of_three fun.Sel (bool (pos 1)) (int (pos 7)) (int (pos 9)) ≡ Ok (pos 9)
selected-second = refl

-- LIMIT(2, 9, 5), LIMIT(2, 1, 5), LIMIT(2, 3, 5), and with its bounds exchanged LIMIT(6, 4, 3)
limited-above : of_three fun.Limit (int (pos 2)) (int (pos 9)) (int (pos 5)) ≡ Ok (pos 5)
limited-above = refl

limited-below : of_three fun.Limit (int (pos 2)) (int (pos 1)) (int (pos 5)) ≡ Ok (pos 2)
limited-below = refl

limited-between : of_three fun.Limit (int (pos 2)) (int (pos 3)) (int (pos 5)) ≡ Ok (pos 3)
limited-between = refl

limited-crossed : of_three fun.Limit (int (pos 6)) (int (pos 4)) (int (pos 3)) ≡ Ok (pos 3)
limited-crossed = refl

-- MIN(7, 2), MIN(2, 7), MAX(7, 2) and MAX(2, 7)
abbrev of_both : Fun → ℤ → ℤ → Result ℤ Stop
of_both f a b = value [] (call f ty.Int (and_texpr (int a) (and_texpr (int b) no_texprs)) (at 5)) []

extremes : of_both fun.Min (pos 7) (pos 2) ∷ of_both fun.Min (pos 2) (pos 7) ∷ of_both fun.Max (pos 7) (pos 2) ∷ of_both fun.Max (pos 2) (pos 7) ∷ []
    ≡ four 2 2 7 7
extremes = refl

-- ABS(-7), INT_TO_DINT(-7), DINT_TO_INT(-32768), BOOL_TO_INT(TRUE)
conversions :
    value [] (call fun.Abs ty.Int (and_texpr (int (negsuc 6)) no_texprs) (at 5)) []
    ∷ value [] (call fun.IntToDint ty.Dint (and_texpr (int (negsuc 6)) no_texprs) (at 5)) []
    ∷ value [] (call fun.DintToInt ty.Int (and_texpr (literal ty.Dint (negsuc 32767) (at 1)) no_texprs) (at 5)) []
    ∷ value [] (call fun.BoolToInt ty.Int (and_texpr (bool (pos 1)) no_texprs) (at 5)) [] ∷ []
    ≡ Ok (pos 7) ∷ Ok (negsuc 6) ∷ Ok (negsuc 32767) ∷ Ok (pos 1) ∷ []
conversions = refl

-- ABS(-32768) is no INT
absolute : value [] (call fun.Abs ty.Int (and_texpr (int (negsuc 32767)) no_texprs) (at 5)) [] ≡ Err (record { kind = why.Range; spot = at 5; turns = [] })
absolute = refl

narrowed : value [] (call fun.DintToInt ty.Int (and_texpr (literal ty.Dint (pos 32768) (at 1)) no_texprs) (at 5)) []
    ≡ Err (record { kind = why.Range; spot = at 5; turns = [] })
narrowed = refl

narrowed_lint : value [] (call fun.LintToDint ty.Dint (and_texpr (literal ty.Lint (pos 2147483648) (at 1)) no_texprs) (at 5)) []
    ≡ Err (record { kind = why.Range; spot = at 5; turns = [] })
narrowed_lint = refl

-- ---- statements; slot 0 is i, and slot 1 is y

-- FOR i := 1 TO 6 BY 2 DO y := y + i; END_FOR: 1, 3 and 5, which i has at the end
loop : do_stmt [] (for_ 0 (pos 1) (pos 2) 3 (and_tstmt (assign 1 (binary bin.Add ty.Int (get 1 ty.Int) (get 0 ty.Int) (at 9)) (at 8)) no_tstmts) (at 2)) (pos 4
    ∷ pos 0 ∷ [])
    ≡ Ok (pos 5 ∷ pos 9 ∷ [])
loop = refl

-- FOR i := 3 TO 1 DO y := 7; END_FOR: i is the first value
no-turn : do_stmt [] (for_ 0 (pos 3) (pos 1) 0 (and_tstmt (assign 1 (int (pos 7)) (at 8)) no_tstmts) (at 2)) (pos 9 ∷ pos 0 ∷ [])
    ≡ Ok (pos 3 ∷ pos 0 ∷ [])
no-turn = refl

-- FOR i := 5 TO 6 DO FOR y := 1 TO 0 BY -1 DO i := 1 / y .. stops in the second inner turn of the first outer one
inner : TStmtTrees
inner = and_tstmt (assign 2 (binary bin.Div ty.Int (int (pos 1)) (get 1 ty.Int) (at 9)) (at 8)) no_tstmts

stop-in-turns : do_stmt [] (for_ 0 (pos 5) (pos 1) 2 (and_tstmt (for_ 1 (pos 1) (negsuc 0) 2 inner (at 4)) no_tstmts) (at 2)) (pos 0 ∷ pos 0 ∷ pos 0 ∷ [])
    ≡ Err (record { kind = why.DivZero; spot = at 9; turns = record { name = 0; value = pos 5 } ∷ record { name = 1; value = pos 0 } ∷ [] })
unfolding inner
stop-in-turns = refl

-- CASE i OF 1: y := 1; 3..5: y := 2; ELSE y := 3; END_CASE
label : ℤ → ℤ → TLabel
label a b = record { first = a; last = b; range = true; spot = at 1 }

set_y : ℤ → TStmtTrees
set_y v = and_tstmt (assign 1 (int v) (at 8)) no_tstmts

cases : TStmtTree
cases =
    case (get 0 ty.Int)
    (and_tbranch (record { first = pos 1; last = pos 1; range = false; spot = at 1 } ∷ []) (set_y (pos 1))
    (and_tbranch (label (pos 3) (pos 5) ∷ []) (set_y (pos 2)) no_tbranches))
    (tother (set_y (pos 3))) (at 2)

case-of-one : do_stmt [] cases (pos 1 ∷ pos 0 ∷ []) ≡ Ok (pos 1 ∷ pos 1 ∷ [])
unfolding cases label set_y
case-of-one = refl

case-at-end : do_stmt [] cases (pos 5 ∷ pos 0 ∷ []) ≡ Ok (pos 5 ∷ pos 2 ∷ [])
unfolding cases label set_y
case-at-end = refl

case-of-else : do_stmt [] cases (pos 6 ∷ pos 0 ∷ []) ≡ Ok (pos 6 ∷ pos 3 ∷ [])
unfolding cases label set_y
case-of-else = refl

-- selector 0; 3 and its label 3 and its body 2; 3 and its range 7 and its body 2; ELSE 2
case-size : stmt_size cases ≡ 22
unfolding cases label set_y
case-size = refl

-- IF i > 1 THEN y := 1; ELSIF i > 0 THEN y := 2; END_IF
above : ℤ → TExprTree
above v = binary bin.Gt ty.Int (get 0 ty.Int) (int v) (at 5)

choice : TStmtTree
choice = if_ (and_tarm (above (pos 1)) (set_y (pos 1)) (at 2) (and_tarm (above (pos 0)) (set_y (pos 2)) (at 3) no_tarms)) no_tother

choice-first : do_stmt [] choice (pos 2 ∷ pos 0 ∷ []) ≡ Ok (pos 2 ∷ pos 1 ∷ [])
unfolding choice above set_y
choice-first = refl

choice-second : do_stmt [] choice (pos 1 ∷ pos 0 ∷ []) ≡ Ok (pos 1 ∷ pos 2 ∷ [])
unfolding choice above set_y
choice-second = refl

choice-none : do_stmt [] choice (pos 0 ∷ pos 8 ∷ []) ≡ Ok (pos 0 ∷ pos 8 ∷ [])
unfolding choice above set_y
choice-none = refl

-- ---- programs

-- VAR_INPUT x : DINT; VAR_OUTPUT y : DINT; y := x + 1;
abbrev variable : ℕ → Section → Slot
variable name c = record { name = name ∷ []; spot = at 1; section = c; ty = ty.Dint; init = pos 0 }

abbrev addition : Program
addition = record {
  slots = variable 120 section.Input ∷ variable 121 section.Output ∷ [];
  body = and_tstmt (assign 1 (binary bin.Add ty.Dint (get 0 ty.Dint) (literal ty.Dint (pos 1) (at 6)) (at 8)) (at 4)) no_tstmts;
}

addition-size : size addition ≡ 11
addition-size = refl

-- on 5 and 7
addition-run : source_run addition ((pos 5 ∷ []) ∷ (pos 7 ∷ []) ∷ []) ≡ record { rows = (pos 6 ∷ []) ∷ (pos 8 ∷ []) ∷ []; end = None }
addition-run = refl

-- on 5, the greatest DINT, and 7: no row is taken after the stop
addition-stop : source_run addition ((pos 5 ∷ []) ∷ (pos 2147483647 ∷ []) ∷ (pos 7 ∷ []) ∷ [])
    ≡ record { rows = (pos 6 ∷ []) ∷ []; end = Some (record { kind = why.Range; spot = at 8; turns = [] }) }
addition-stop = refl

-- VAR_OUTPUT y : DINT; VAR i : DINT; FOR i := 1 TO n DO y := i; END_FOR;
abbrev loop_to : ℕ → Program
loop_to n = record {
  slots = variable 121 section.Output ∷ variable 105 section.Local ∷ [];
  body = and_tstmt (for_ 1 (pos 1) (pos 1) n (and_tstmt (assign 0 (get 1 ty.Dint) (at 9)) no_tstmts) (at 4)) no_tstmts;
}

loop-size : (n : ℕ) → size (loop_to (suc n)) ≡ 7 + 3 * suc n
loop-size n = grind arith

-- the most turns that there is room for
loop-of-most : size (loop_to 21843) ≡ 65536
loop-of-most = refl

loop-of-none : size (loop_to 0) ≡ 9
loop-of-none = refl

loop-run : source_run (loop_to 4) ([] ∷ []) ≡ record { rows = (pos 4 ∷ []) ∷ []; end = None }
loop-run = refl

-- VAR_OUTPUT y : DINT; y := y + 1; over three cycles: y keeps its value from cycle to cycle
abbrev counter : Program
counter = record {
  slots = variable 121 section.Output ∷ [];
  body = and_tstmt (assign 0 (binary bin.Add ty.Dint (get 0 ty.Dint) (literal ty.Dint (pos 1) (at 6)) (at 8)) (at 4)) no_tstmts;
}

counter-run : source_run counter ([] ∷ [] ∷ [] ∷ []) ≡ record { rows = (pos 1 ∷ []) ∷ (pos 2 ∷ []) ∷ (pos 3 ∷ []) ∷ []; end = None }
counter-run = refl

-- VAR_INPUT a : DINT; VAR_OUTPUT p : DINT; VAR_INPUT b : DINT; VAR_OUTPUT q : DINT; p := b; q := a; the values of a row are
-- those of the inputs, in order of declaration, and so are those of the outputs
abbrev exchange : Program
exchange = record {
  slots = variable 97 section.Input ∷ variable 112 section.Output ∷ variable 98 section.Input ∷ variable 113 section.Output ∷ [];
  body = and_tstmt (assign 1 (get 2 ty.Dint) (at 4)) (and_tstmt (assign 3 (get 0 ty.Dint) (at 9)) no_tstmts);
}

exchange-run : source_run exchange ((pos 1 ∷ pos 2 ∷ []) ∷ (pos 3 ∷ pos 4 ∷ []) ∷ [])
    ≡ record { rows = (pos 2 ∷ pos 1 ∷ []) ∷ (pos 4 ∷ pos 3 ∷ []) ∷ []; end = None }
exchange-run = refl

-- VAR_OUTPUT q : DINT := 9; VAR n : DINT := 2; q := q + n; the first cycle begins with the initial values
abbrev initialised : Program
initialised = record {
  slots =
      record { name = 113 ∷ []; spot = at 1; section = section.Output; ty = ty.Dint; init = pos 9 }
      ∷ record { name = 110 ∷ []; spot = at 1; section = section.Local; ty = ty.Dint; init = pos 2 } ∷ [];
  body = and_tstmt (assign 0 (binary bin.Add ty.Dint (get 0 ty.Dint) (get 1 ty.Dint) (at 8)) (at 4)) no_tstmts;
}

initialised-run : source_run initialised ([] ∷ [] ∷ []) ≡ record { rows = (pos 11 ∷ []) ∷ (pos 13 ∷ []) ∷ []; end = None }
initialised-run = refl

-- ---- what isn't checked

-- an input may not be set
no-input : MaySet (variable 120 section.Input ∷ []) [] 0 ty.Dint → ⊥
no-input m = let e : variable 120 section.Input ≡ m.of = cc in let f : false ≡ true = subst (λ (s : Slot). is_set s.section ≡ true) (sym e) m.set in absurd cc

-- nor the control variable of an enclosing FOR
no-control : MaySet (variable 105 section.Local ∷ []) (0 ∷ []) 0 ty.Dint → ⊥
no-control m = let f : true ≡ false = m.free in absurd cc

-- 1 + FALSE has no type, and 40000 is no literal of INT
no-mixed-sum : IsExpr [] (binary bin.Add ty.Int (int (pos 1)) (bool (pos 0)) (at 5)) → ⊥
no-mixed-sum h = let f : ty.Bool ≡ ty.Int = h.3 in absurd cc

no-literal : IsExpr [] (int (pos 40000)) → ⊥
no-literal h = let f : false ≡ true = h in absurd cc

-- a range whose first value is above its last
no-range : IsLabel ty.Int (label (pos 5) (pos 3)) → ⊥
unfolding label
no-range l = let f : false ≡ true = l.order in absurd cc

-- the last of three turns from 32766 on is no INT
no-turns : AreTurns ty.Int 3 (pos 32766) (pos 1) → ⊥
no-turns t = let f : false ≡ true = t.1.1.0 in absurd cc
