-- Judging: which line is which instruction, and the fault of one that is none.
use Rattle.std.specs.Prelude.{ℕ, suc, ℤ, pos, neg_ℤ, Bool, true, false, cond, List, [], ◌∷◌, Option, Some, None, option_map, Result, Ok, Err, codes}
use Rattle.std.specs.Str.{str_eq_ignore_ascii_case}
use Rattle.vcp_base.specs.declared.spot.Spot.{Spot}
use Rattle.vcp_base.specs.declared.ty.Ty.{Ty}
use Rattle.vcp_base.specs.declared.ty.Ty.TheVariants as ty
use Rattle.vcp_base.specs.Types.{within, is_bool}
use Rattle.st_lexer.specs.declared.token.Key.{Key}
use Rattle.st_lexer.specs.declared.token.Key.TheVariants as key
use Rattle.st_lexer.specs.declared.token.Sym.TheVariants as sym
use Rattle.st_lexer.specs.declared.token.Tok.{Tok}
use Rattle.st_lexer.specs.declared.token.Tok.TheVariants as tok
use Rattle.st_lexer.specs.declared.token.Token.{Token}
use Rattle.st_tree.specs.declared.expr.BinOp.TheVariants as bin
use Rattle.st_tree.specs.declared.program.Section.{Section}
use Rattle.st_tree.specs.Spelling.{bytes_in}
use Rattle.st_tree.specs.Expressions.{Value, literal_of}
use Rattle.vcp_base.specs.Names.{is_same_name}
use Rattle.st_types.specs.ExprTyping.{literal_type}
use Rattle.vcp_typed.specs.declared.slot.Slot.{Slot}
use Rattle.vcp_typed.specs.Rules.{common, result}
use Rattle.vcp_typed.specs.Checked.{is_set}
use Rattle.il_front.specs.declared.fault.IlFault.{IlFault}
use Rattle.il_front.specs.declared.fault.IlFault.TheVariants as fault
use Rattle.il_front.specs.declared.instruction.Operand.TheVariants as operand
use Rattle.il_front.specs.declared.instruction.Action.TheVariants as action
pub use Rattle.il_front.specs.declared.operand.Meant.{Meant}
pub use Rattle.il_front.specs.declared.operator.Operator.{Operator}
use Rattle.il_front.specs.declared.operator.Operator.TheVariants as operator
use Rattle.il_front.specs.Accumulator.{Operand, Action, Instruction, operand_type}
use Rattle.il_front.specs.Lines.{is_end_program}

-- ---- operators

abbrev pub is_word : List ℕ → List ℕ → Operator → Option Operator → Option Operator
is_word n word o rest = cond (str_eq_ignore_ascii_case n word) (Some o) rest

-- a comparison
abbrev pub comparison_named : List ℕ → Option Operator
comparison_named n =
    is_word n (codes "GT") (operator.Combine bin.Gt false)
    (is_word n (codes "GE") (operator.Combine bin.Ge false)
    (is_word n (codes "EQ") (operator.Combine bin.Eq false)
    (is_word n (codes "NE") (operator.Combine bin.Ne false)
    (is_word n (codes "LE") (operator.Combine bin.Le false)
    (is_word n (codes "LT") (operator.Combine bin.Lt false)
    None)))))

-- logic, arithmetic or a comparison
abbrev pub combining_named : List ℕ → Option Operator
combining_named n =
    is_word n (codes "ANDN") (operator.Combine bin.And true)
    (is_word n (codes "ORN") (operator.Combine bin.Or true)
    (is_word n (codes "XORN") (operator.Combine bin.Xor true)
    (is_word n (codes "ADD") (operator.Combine bin.Add false)
    (is_word n (codes "SUB") (operator.Combine bin.Sub false)
    (is_word n (codes "MUL") (operator.Combine bin.Mul false)
    (is_word n (codes "DIV") (operator.Combine bin.Div false)
    (comparison_named n)))))))

-- the operator that a name spells
abbrev pub operator_named : List ℕ → Option Operator
operator_named n =
    is_word n (codes "LD") (operator.Load false)
    (is_word n (codes "LDN") (operator.Load true)
    (is_word n (codes "ST") (operator.Store false)
    (is_word n (codes "STN") (operator.Store true)
    (is_word n (codes "S") (operator.Put true)
    (is_word n (codes "R") (operator.Put false)
    (combining_named n))))))

-- the operator that a reserved word is; `&` is AND
abbrev pub operator_reserved : Key → Option Operator
operator_reserved key.And = Some (operator.Combine bin.And false)
operator_reserved key.Or = Some (operator.Combine bin.Or false)
operator_reserved key.Xor = Some (operator.Combine bin.Xor false)
operator_reserved key.Mod = Some (operator.Combine bin.Mod false)
operator_reserved key.Not = Some operator.Complement
operator_reserved _ = None

-- the operator that a token of the text is, where these are its bytes
abbrev pub operator_of : List ℕ → Tok → Option Operator
operator_of bytes tok.Name = operator_named bytes
operator_of bytes (tok.Key k) = operator_reserved k
operator_of bytes (tok.Number t v) = None
operator_of bytes (tok.Sym y) = None

-- ---- the form of a line

-- an operand as it is written: a name, or a literal with its type, where it is typed, and its value; or that there is none
pub data Written : Type 0 where
  nothing : Written
  name : (bytes : List ℕ) → Written
  number : (ty : Option Ty) → (value : ℤ) → Written

-- an operand of one token
abbrev pub written_literal : Option Value → Option Written
written_literal None = None
written_literal (Some v) = Some (number v.ty v.value)

abbrev pub written_one : List ℕ → Tok → Option Written
written_one bytes tok.Name = Some (name bytes)
written_one bytes (tok.Key k) = written_literal (literal_of (tok.Key k))
written_one bytes (tok.Number t v) = written_literal (literal_of (tok.Number t v))
written_one bytes (tok.Sym y) = None

-- an operand of two tokens: `-` and a literal without a type
abbrev pub written_negative : Tok → Tok → Option Written
written_negative (tok.Sym sym.Minus) (tok.Number None v) = Some (number None (neg_ℤ v))
written_negative _ _ = None

-- the operand that these tokens of a text are
abbrev pub written : List ℕ → List Token → Option Written
written text [] = Some nothing
written text (t ∷ []) = written_one (bytes_in text t) t.tok
written text (m ∷ t ∷ []) = written_negative m.tok t.tok
written text (m ∷ t ∷ u ∷ us) = None

-- NOT has no operand, and every other operator has one
abbrev pub takes : Operator → Written → Bool
takes operator.Complement nothing = true
takes operator.Complement (name n) = false
takes operator.Complement (number t v) = false
takes _ nothing = false
takes _ (name n) = true
takes _ (number t v) = true

-- a line as it is written: its operator and its operand, with the spots of both, which are one where there is no operand
pub record Line : Type 0 where
  pub operator : Operator
  pub operand : Written
  pub spot : Spot
  pub at : Spot

-- the spot of the first of these tokens, and this one where there is none
abbrev pub first_spot : Spot → List Token → Spot
first_spot spot [] = spot
first_spot spot (t ∷ ts) = t.spot

abbrev pub line_with : Spot → Spot → Option Operator → Option Written → Option Line
line_with spot at None w = None
line_with spot at (Some o) None = None
line_with spot at (Some o) (Some w) = cond (takes o w) (Some (record { operator = o; operand = w; spot = spot; at = at })) None

-- the line that these tokens of a text are
abbrev pub line_of : List ℕ → List Token → Option Line
line_of text [] = None
line_of text (t ∷ ts) = line_with t.spot (first_spot t.spot ts) (operator_of (bytes_in text t) t.tok) (written text ts)

-- ---- operands

-- a variable: the number of its slot, its section and its type
pub record Variable : Type 0 where
  pub slot : ℕ
  pub section : Section
  pub ty : Ty

-- the variable of a name among these slots, of which the first has the number k
abbrev pub variable_from : ℕ → List Slot → List ℕ → Option Variable
variable_from k [] n = None
variable_from k (s ∷ slots) n =
    cond (is_same_name s.name n) (Some (record { slot = k; section = s.section; ty = s.ty })) (variable_from (suc k) slots n)

-- what a written operand means: a variable, with whether it may be set, or a literal in its type
abbrev pub meant_variable : Variable → Meant
meant_variable x = record { operand = operand.Variable x.slot x.ty; set = is_set x.section }

abbrev pub meant_number : ℤ → Ty → Meant
meant_number v t = record { operand = operand.Number t v; set = false }

-- what a written operand means; none where its name is no variable, or its literal isn't in its type
abbrev pub meant : List Slot → Written → Option Meant
meant slots nothing = Some (meant_number (pos 0) ty.Bool)
meant slots (name n) = option_map meant_variable (variable_from 0 slots n)
meant slots (number t v) = option_map (meant_number v) (literal_type t v)

-- the slot of a variable; 0 of a number, which nothing sets
abbrev pub slot_in : Operand → ℕ
slot_in (operand.Variable slot t) = slot
slot_in (operand.Number t v) = 0

-- what the operator does with the operand
abbrev pub action_of : Operator → Operand → Action
action_of (operator.Load negated) o = action.Load negated o
action_of (operator.Store negated) o = action.Store negated (slot_in o) (operand_type o)
action_of (operator.Put to) o = action.Put to (slot_in o) (operand_type o)
action_of operator.Complement o = action.Complement
action_of (operator.Combine op negated) o = action.Combine op negated o

-- the operator sets its operand
abbrev pub sets : Operator → Bool
sets (operator.Load negated) = false
sets (operator.Store negated) = true
sets (operator.Put to) = true
sets operator.Complement = false
sets (operator.Combine op negated) = false

-- ---- types

-- the type u, or none where t must be BOOL and is another
abbrev pub if_bool : Bool → Ty → Option Ty → Option Ty
if_bool negated t u = cond negated (cond (is_bool t) u None) u

-- the type of the result behind an action, where it was t before; none where the action doesn't take the types
abbrev pub type_behind : Ty → Action → Option Ty
type_behind t (action.Load negated o) = if_bool negated (operand_type o) (Some (operand_type o))
type_behind t (action.Store negated slot u) = if_bool negated t (cond (within t u) (Some t) None)
type_behind t (action.Put to slot u) = if_bool true t (if_bool true u (Some t))
type_behind t action.Complement = if_bool true t (Some t)
type_behind t (action.Combine op negated o) = if_bool negated (operand_type o) (option_map (result op) (common op t (operand_type o)))

-- the action loads a result: the first instruction must
abbrev pub loads : Action → Bool
loads (action.Load negated o) = true
loads (action.Store negated slot t) = false
loads (action.Put to slot t) = false
loads action.Complement = false
loads (action.Combine op negated o) = false

-- ---- one line

-- an instruction, with the type of the result behind it; or a fault
pub data Judged : Type 0 where
  taken : (instruction : Instruction) → (ty : Ty) → Judged
  faulted : (fault : IlFault) → Judged

-- with the type behind it
abbrev pub typed_line : Instruction → Option Ty → Judged
typed_line i None = faulted (fault.Mismatch i.spot)
typed_line i (Some t) = taken i t

-- behind a result of this type, or as the first instruction
abbrev pub placed_line : Option Ty → Instruction → Judged
placed_line None i = cond (loads i.action) (typed_line i (type_behind ty.Bool i.action)) (faulted (fault.Empty i.spot))
placed_line (Some t) i = typed_line i (type_behind t i.action)

abbrev pub instruction_of : Line → Operand → Instruction
instruction_of l o = record { action = action_of l.operator o; spot = l.spot; at = l.at }

-- with what its operand means
abbrev pub meant_line : Option Ty → Line → Option Meant → Judged
meant_line before l None = faulted (fault.Operand l.at)
meant_line before l (Some m) =
    cond (cond (sets l.operator) m.set true) (placed_line before (instruction_of l m.operand)) (faulted (fault.Target l.at))

abbrev pub formed_line : List Slot → Option Ty → Spot → Option Line → Judged
formed_line slots before spot None = faulted (fault.Instruction spot)
formed_line slots before spot (Some l) = meant_line before l (meant slots l.operand)

-- A line of tokens, behind a result of the type `before`, or as the first instruction. Of its faults the first is reported, in
-- this order: it is no instruction; its operand is none; its target may not be set; there is no result yet; types don't fit.
abbrev pub judged : List ℕ → List Slot → Option Ty → Spot → List Token → Judged
judged text slots before spot ts = formed_line slots before spot (line_of text ts)

-- ---- all lines

-- the line is END_PROGRAM alone
abbrev pub is_last_word : List Token → Bool
is_last_word [] = false
is_last_word (t ∷ []) = is_end_program t.tok
is_last_word (t ∷ u ∷ us) = false

-- no instructions, where no line is left behind END_PROGRAM at this spot
abbrev pub alone : Spot → List (List Token) → Result (List Instruction) IlFault
alone spot [] = Ok []
alone spot (l ∷ ls) = Err (fault.Instruction spot)

-- an instruction more, at the front
abbrev pub and_more : Instruction → Result (List Instruction) IlFault → Result (List Instruction) IlFault
and_more i (Ok is) = Ok (i ∷ is)
and_more i (Err f) = Err f

abbrev pub onto : Judged → (Ty → Result (List Instruction) IlFault) → Result (List Instruction) IlFault
onto (taken i t) next = and_more i (next t)
onto (faulted f) next = Err f

-- The instructions of lines, or the fault of the first line that has one. The last line is END_PROGRAM alone; `end` is the
-- spot of the end of the text.
abbrev pub listed : List ℕ → List Slot → Spot → Option Ty → List (List Token) → Result (List Instruction) IlFault
listed text slots end before [] = Err (fault.Instruction end)
listed text slots end before (l ∷ ls) =
    cond (is_last_word l) (alone (first_spot end l) ls)
    (onto (judged text slots before (first_spot end l) l) (λ t. listed text slots end (Some t) ls))
