-- TypedForm: the typed program that an instruction list means. A hidden variable of each type that the result takes
-- keeps it; each instruction is one statement.
use Rattle.std.specs.Prelude.{ℕ, ◌+◌, pos, Bool, false, cond, ◌||◌, List, [], ◌∷◌, ◌++◌, length, Option, Some, None, codes}
use Rattle.std.specs.List.{list_any}
use Rattle.vcp_base.specs.declared.spot.Spot.{Spot}
use Rattle.vcp_base.specs.declared.ty.Ty.{Ty}
use Rattle.vcp_base.specs.declared.ty.Ty.TheVariants as ty
use Rattle.vcp_base.specs.Names.{is_same_name}
use Rattle.vcp_base.specs.Types.{same_type}
use Rattle.vcp_base.specs.Kinds.{truth}
use Rattle.st_tree.specs.declared.expr.UnOp.TheVariants as un
use Rattle.st_tree.specs.declared.expr.BinOp.{BinOp}
use Rattle.st_tree.specs.declared.program.Section.TheVariants as section
use Rattle.st_tree.specs.ProgramTree.{DeclaredTree}
use Rattle.vcp_typed.specs.declared.slot.Slot.{Slot}
use Rattle.vcp_typed.specs.TExprTree.{TExprTree, literal, get, unary, binary}
use Rattle.vcp_typed.specs.TStmtTree.{TStmtTree, TStmtTrees, assign, if_, no_tstmts, and_tstmt, no_tarms, and_tarm, no_tother}
use Rattle.vcp_typed.specs.Rules.{common, result}
use Rattle.vcp_typed.specs.SourceRun.{Program}
use Rattle.st_types.specs.ExprTyping.{widened}
use Rattle.il_front.specs.declared.instruction.Operand.TheVariants as operand
use Rattle.il_front.specs.declared.instruction.Action.TheVariants as action
use Rattle.il_front.specs.Accumulator.{Operand, Action, Instruction, Il, operand_type}

-- ---- hidden variables

-- the name of the variable that keeps a result of this type
abbrev pub hidden_name : Ty → List ℕ
hidden_name ty.Bool = codes "_acc_bool"
hidden_name ty.Int = codes "_acc_int"
hidden_name ty.Dint = codes "_acc_dint"
hidden_name ty.Lint = codes "_acc_lint"

-- all types, in the order of their hidden variables
abbrev pub all_types : List Ty
all_types = ty.Bool ∷ ty.Int ∷ ty.Dint ∷ ty.Lint ∷ []

-- the name is that of a hidden variable
abbrev pub is_reserved : List ℕ → Bool
is_reserved n = list_any (λ t. is_same_name (hidden_name t) n) all_types

-- the spot of the first declared name that is reserved
abbrev pub first_reserved : List DeclaredTree → Option Spot
first_reserved [] = None
first_reserved (d ∷ ds) = cond (is_reserved d.name) (Some d.spot) (first_reserved ds)

abbrev pub hidden_slot : Ty → Slot
hidden_slot t = record { name = hidden_name t; spot = record { line = 0; col = 0 }; section = section.Local; ty = t; init = pos 0 }

-- the hidden variables of those of these types that are used
abbrev pub hidden_slots : (Ty → Bool) → List Ty → List Slot
hidden_slots used [] = []
hidden_slots used (t ∷ ts) = cond (used t) (hidden_slot t ∷ hidden_slots used ts) (hidden_slots used ts)

-- how many of these types are used before this one
abbrev pub used_before : (Ty → Bool) → Ty → List Ty → ℕ
used_before used t [] = 0
used_before used t (u ∷ us) = cond (same_type u t) 0 (cond (used u) 1 0 + used_before used t us)

-- ---- types

-- the type of the result behind an operator, where there is a common type
abbrev pub combined_type : BinOp → Ty → Option Ty → Ty
combined_type op t None = t
combined_type op t (Some u) = result op u

-- the type of the result behind an action, where it was t before
abbrev pub next_type : Ty → Action → Ty
next_type t (action.Load negated o) = operand_type o
next_type t (action.Store negated slot u) = t
next_type t (action.Put to slot u) = t
next_type t action.Complement = t
next_type t (action.Combine op negated o) = combined_type op t (common op t (operand_type o))

-- the result is of type u behind one of the instructions, where it was of type t before the first
abbrev pub uses : List Instruction → Ty → Ty → Bool
uses [] t u = false
uses (i ∷ is) t u = same_type (next_type t i.action) u || uses is (next_type t i.action) u

-- the types that the result takes behind the instructions
abbrev pub used_by : List Instruction → Ty → Bool
used_by code u = uses code ty.Bool u

-- ---- statements

-- an operand as an expression
abbrev pub operand_expr : Spot → Operand → TExprTree
operand_expr at (operand.Variable slot t) = get slot t
operand_expr at (operand.Number t v) = literal t v at

-- with a NOT at the spot before it, where there is an N
abbrev pub turned : Bool → Spot → TExprTree → TExprTree
turned negated spot e = cond negated (unary un.Not ty.Bool e spot) e

-- the kept result of this type, where `place` is the number of the slot of each type
abbrev pub kept : (Ty → ℕ) → Ty → TExprTree
kept place t = get (place t) t

-- an operator on the kept result of type t and an operand of type u, both widened; where they have no common type the result stays
abbrev pub combining : (Ty → ℕ) → BinOp → Spot → Ty → TExprTree → Ty → Option Ty → TStmtTree
combining place op spot t e u None = assign (place t) (kept place t) spot
combining place op spot t e u (Some w) =
    assign (place (result op w)) (binary op w (widened w t (kept place t)) (widened w u e) spot) spot

-- the statement of an action at these spots, where the result before it has the type t
abbrev pub action_stmt : (Ty → ℕ) → Spot → Spot → Ty → Action → TStmtTree
action_stmt place spot at t (action.Load negated o) = assign (place (operand_type o)) (turned negated spot (operand_expr at o)) spot
action_stmt place spot at t (action.Store negated slot u) = assign slot (widened u t (turned negated spot (kept place t))) at
action_stmt place spot at t (action.Put to slot u) =
    if_ (and_tarm (kept place t) (and_tstmt (assign slot (literal ty.Bool (truth to) at) at) no_tstmts) spot no_tarms) no_tother
action_stmt place spot at t action.Complement = assign (place t) (unary un.Not ty.Bool (kept place t) spot) spot
action_stmt place spot at t (action.Combine op negated o) =
    combining place op spot t (turned negated spot (operand_expr at o)) (operand_type o) (common op t (operand_type o))

abbrev pub statements : (Ty → ℕ) → Ty → List Instruction → TStmtTrees
statements place t [] = no_tstmts
statements place t (i ∷ is) = and_tstmt (action_stmt place i.spot i.at t i.action) (statements place (next_type t i.action) is)

-- ---- the program

-- the number of the slot that keeps a result of this type
abbrev pub place_of : Il → Ty → ℕ
place_of i t = length i.slots + used_before (used_by i.code) t all_types

abbrev pub hidden_of : Il → List Slot
hidden_of i = hidden_slots (used_by i.code) all_types

-- the typed program: the declared variables, then the hidden ones that are used; one statement an instruction
abbrev pub typed_il : Il → Program
typed_il i = record { slots = i.slots ++ hidden_of i; body = statements (place_of i) ty.Bool i.code }
