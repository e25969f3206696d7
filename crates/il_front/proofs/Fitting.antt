-- Fitting: instructions that are taken from lines take their types.
use Rattle.std.proofs.Common.{◌≡◌, ℕ, suc, ◌+◌, ℤ, Bool, true, false, cond, List, [], ◌∷◌, slice_get, Option, Some, None, Result, Ok, Err}
use Rattle.std.proofs.Common.{refl, sym, ap, subst, ◌∙◌, arith}
use Rattle.std.specs.Prelude.{IfOk, IfSome, option_map}
use Rattle.vcp_base.specs.declared.spot.Spot.{Spot}
use Rattle.vcp_base.specs.declared.ty.Ty.{Ty}
use Rattle.vcp_base.specs.declared.ty.Ty.TheVariants as ty
use Rattle.vcp_base.specs.Names.{is_same_name}
use Rattle.vcp_base.specs.Types.{fits, within}
use Rattle.st_lexer.specs.declared.token.Token.{Token}
use Rattle.st_tree.specs.declared.expr.BinOp.{BinOp}
use Rattle.st_types.specs.ExprTyping.{literal_type}
use Rattle.vcp_typed.specs.declared.slot.Slot.{Slot}
use Rattle.vcp_typed.specs.Rules.{common, result}
use Rattle.vcp_typed.specs.Checked.{is_set, MaySet}
use Rattle.il_front.specs.declared.fault.IlFault.{IlFault}
use Rattle.il_front.specs.declared.fault.IlFault.TheVariants as fault
use Rattle.il_front.specs.declared.instruction.Operand.TheVariants as operand
use Rattle.il_front.specs.declared.instruction.Action.TheVariants as action
use Rattle.il_front.specs.declared.operator.Operator.{Operator}
use Rattle.il_front.specs.declared.operator.Operator.TheVariants as operator
use Rattle.il_front.specs.Accumulator.{Operand, Action, Instruction, Il, operand_type}
use Rattle.il_front.specs.Lines.{lines_of, behind_head}
use Rattle.il_front.specs.Judging.{Written, nothing, name, number, Line, line_of, Variable, variable_from, Meant, meant, meant_variable, meant_number}
use Rattle.il_front.specs.Judging.{action_of, sets, loads}
use Rattle.il_front.specs.Judging.{if_bool, type_behind, Judged, taken, faulted, typed_line, placed_line, instruction_of, meant_line, formed_line, judged}
use Rattle.il_front.specs.Judging.{is_last_word}
use Rattle.il_front.specs.Judging.{first_spot, alone, and_more, onto, listed}
use Rattle.il_front.specs.TypedForm.{combined_type, next_type}
use Rattle.il_front.specs.Answers.{listed_in}
use Rattle.il_front.proofs.Checking.{OperandFits, OfBool, ActionFits, AreFitting}

-- a literal is in its type
abbrev pub LiteralLaw : Type 0
LiteralLaw = (t : Option Ty) (v : ℤ) → IfSome (literal_type t v) (λ u. fits u v ≡ true)

-- ---- types

-- the types of the result and of what the action works on are those that it takes
abbrev TypesFit : Ty → Action → Type 0
TypesFit t (action.Load negated o) = OfBool negated (operand_type o)
TypesFit t (action.Store negated slot u) = (within t u ≡ true) × OfBool negated t
TypesFit t (action.Put to slot u) = (t ≡ ty.Bool) × (u ≡ ty.Bool)
TypesFit t action.Complement = t ≡ ty.Bool
TypesFit t (action.Combine op negated o) = OfBool negated (operand_type o)

if_is_bool : (P : Ty → Type 0) (b : Bool) (t : Ty) (o : Option Ty) → (OfBool b t → IfSome o P) → IfSome (if_bool b t o) P
if_is_bool P true ty.Bool o h = h (λ e. refl)
if_is_bool P true ty.Int o h = tt
if_is_bool P true ty.Dint o h = tt
if_is_bool P true ty.Lint o h = tt
if_is_bool P false t o h = h (λ e. absurd (let no : false ≡ true = e in cc))

if_within : (P : Ty → Type 0) (b : Bool) (t : Ty) → (b ≡ true → P t) → IfSome (cond b (Some t) None) P
if_within P true t h = h refl
if_within P false t h = tt

combined_is : (op : BinOp) (t : Ty) (c : Option Ty) (A : Type 0) → A → IfSome (option_map (result op) c) (λ u. A × (u ≡ combined_type op t c))
combined_is op t None A a = tt
combined_is op t (Some w) A a = (a, refl)

types_fit : (t : Ty) (a : Action) → IfSome (type_behind t a) (λ u. TypesFit t a × (u ≡ next_type t a))
types_fit t (action.Load negated o) =
    if_is_bool (λ u. OfBool negated (operand_type o) × (u ≡ operand_type o)) negated (operand_type o) (Some (operand_type o)) (λ b. (b, refl))
types_fit t (action.Store negated slot u) =
    if_is_bool (λ x. ((within t u ≡ true) × OfBool negated t) × (x ≡ t)) negated t (cond (within t u) (Some t) None)
    (λ b. if_within (λ x. ((within t u ≡ true) × OfBool negated t) × (x ≡ t)) (within t u) t (λ w. ((w, b), refl)))
types_fit t (action.Put to slot u) =
    if_is_bool (λ x. ((t ≡ ty.Bool) × (u ≡ ty.Bool)) × (x ≡ t)) true t (if_bool true u (Some t))
    (λ b. if_is_bool (λ x. ((t ≡ ty.Bool) × (u ≡ ty.Bool)) × (x ≡ t)) true u (Some t) (λ c. ((b refl, c refl), refl)))
types_fit t action.Complement = if_is_bool (λ x. (t ≡ ty.Bool) × (x ≡ t)) true t (Some t) (λ b. (b refl, refl))
types_fit t (action.Combine op negated o) =
    if_is_bool (λ u. OfBool negated (operand_type o) × (u ≡ combined_type op t (common op t (operand_type o)))) negated (operand_type o)
    (option_map (result op) (common op t (operand_type o)))
    (λ b. combined_is op t (common op t (operand_type o)) (OfBool negated (operand_type o)) b)

-- ---- operands

-- the variable is the slot j of these, of which the first has the number k
abbrev FoundIn : ℕ → List Slot → Variable → Type 0
FoundIn k slots x = (j : ℕ) × (s : Slot) × (x.slot ≡ k + j) × (slice_get slots j ≡ Some s) × (s.ty ≡ x.ty) × (s.section ≡ x.section)

either_found : (P : Variable → Type 0) (b : Bool) (o p : Option Variable) → IfSome o P → IfSome p P → IfSome (cond b o p) P
either_found P true o p h k = h
either_found P false o p h k = k

later_found : (k : ℕ) (s : Slot) (slots : List Slot) (o : Option Variable) → IfSome o (FoundIn (suc k) slots) → IfSome o (FoundIn k (s ∷ slots))
later_found k s slots None h = tt
later_found k s slots (Some x) h =
    let j : ℕ = h.0 in
    let at : x.slot ≡ suc k + j = h.2 in
    let e : x.slot ≡ k + suc j = omega (arith, at) in
    (suc j, h.1, e, h.3, h.4, h.5)

found : (slots : List Slot) (k : ℕ) (n : List ℕ) → IfSome (variable_from k slots n) (FoundIn k slots)
found [] k n = tt
found (s ∷ slots) k n =
    let x : Variable = record { slot = k; section = s.section; ty = s.ty } in
    either_found (FoundIn k (s ∷ slots)) (is_same_name s.name n) (Some x) (variable_from (suc k) slots n)
    (0, s, (let e : k ≡ k + 0 = omega arith in e), refl, refl, refl)
    (later_found k s slots (variable_from (suc k) slots n) (found slots (suc k) n))

-- what may be set may be set by a statement
abbrev TargetFits : List Slot → Operand → Type 0
TargetFits slots (operand.Variable slot t) = MaySet slots [] slot t
TargetFits slots (operand.Number t v) = ⊥

record MeantFits (slots : List Slot) (m : Meant) : Type 0 where
  there : OperandFits slots m.operand
  target : m.set ≡ true → TargetFits slots m.operand

variable_fits : (slots : List Slot) (o : Option Variable) → IfSome o (FoundIn 0 slots) → IfSome (option_map meant_variable o) (MeantFits slots)
variable_fits slots None h = tt
variable_fits slots (Some x) h =
    let at : x.slot ≡ 0 + h.0 = h.2 in
    let same : h.0 ≡ x.slot = omega (arith, at) in
    let get : slice_get slots x.slot ≡ Some h.1 = ap (λ (k : ℕ). slice_get slots k) (sym same) ∙ h.3 in
    record {
      there = (h.1, get, h.4);
      target = λ e. record { of = h.1; there = get; ty = h.4; set = ap is_set h.5 ∙ e; free = refl };
    }

number_fits : (slots : List Slot) (v : ℤ) (o : Option Ty) → IfSome o (λ u. fits u v ≡ true) → IfSome (option_map (meant_number v) o) (MeantFits slots)
number_fits slots v None h = tt
number_fits slots v (Some t) h = record { there = h; target = λ e. absurd (let no : false ≡ true = e in cc) }

meant_fits : LiteralLaw → (slots : List Slot) (w : Written) → IfSome (meant slots w) (MeantFits slots)
meant_fits law slots nothing = record { there = refl; target = λ e. absurd (let no : false ≡ true = e in cc) }
meant_fits law slots (name n) = variable_fits slots (variable_from 0 slots n) (found slots 0 n)
meant_fits law slots (number t v) = number_fits slots v (literal_type t v) (law t v)

store_fits : (slots : List Slot) (t : Ty) (o : Operand) (negated : Bool) → TargetFits slots o → TypesFit t (action_of (operator.Store negated) o)
    → ActionFits slots t (action_of (operator.Store negated) o)
store_fits slots t (operand.Variable slot u) negated h k = (h, k.0, k.1)
store_fits slots t (operand.Number u v) negated h k = absurd h

put_fits : (slots : List Slot) (t : Ty) (o : Operand) (to : Bool) → TargetFits slots o → TypesFit t (action_of (operator.Put to) o)
    → ActionFits slots t (action_of (operator.Put to) o)
put_fits slots t (operand.Variable slot u) to h k = (h, k.0, k.1)
put_fits slots t (operand.Number u v) to h k = absurd h

action_fits : (slots : List Slot) (t : Ty) (o : Operator) (m : Meant) → MeantFits slots m → cond (sets o) m.set true ≡ true
    → TypesFit t (action_of o m.operand) → ActionFits slots t (action_of o m.operand)
action_fits slots t (operator.Load negated) m h e k = (h.there, k)
action_fits slots t (operator.Store negated) m h e k = store_fits slots t m.operand negated (h.target e) k
action_fits slots t (operator.Put to) m h e k = put_fits slots t m.operand to (h.target e) k
action_fits slots t operator.Complement m h e k = k
action_fits slots t (operator.Combine op negated) m h e k = (h.there, k)

-- ---- lines

-- the type of the result before an instruction; before the first one it is never looked at
abbrev start : Option Ty → Ty
start None = ty.Bool
start (Some t) = t

abbrev IfTakenAs : Judged → (Instruction → Ty → Type 0) → Type 0
IfTakenAs (taken i t) P = P i t
IfTakenAs (faulted f) P = Unit {0}

-- the instruction takes its types, and leaves this one
abbrev Takes : List Slot → Option Ty → Instruction → Ty → Type 0
Takes slots before i t = ActionFits slots (start before) i.action × (t ≡ next_type (start before) i.action)

typed_takes : (slots : List Slot) (before : Option Ty) (i : Instruction) (o : Option Ty)
    → (TypesFit (start before) i.action → ActionFits slots (start before) i.action)
    → IfSome o (λ u. TypesFit (start before) i.action × (u ≡ next_type (start before) i.action)) → IfTakenAs (typed_line i o) (Takes slots before)
typed_takes slots before i None h k = tt
typed_takes slots before i (Some t) h k = (h k.0, k.1)

if_taken_as : (P : Instruction → Ty → Type 0) (b : Bool) (x : Judged) (f : IlFault) → (b ≡ true → IfTakenAs x P) → IfTakenAs (cond b x (faulted f)) P
if_taken_as P true x f h = h refl
if_taken_as P false x f h = tt

placed_takes : (slots : List Slot) (before : Option Ty) (i : Instruction)
    → (TypesFit (start before) i.action → ActionFits slots (start before) i.action) → IfTakenAs (placed_line before i) (Takes slots before)
placed_takes slots None i h =
    if_taken_as (Takes slots None) (loads i.action) (typed_line i (type_behind ty.Bool i.action)) (fault.Empty i.spot)
    (λ e. typed_takes slots None i (type_behind ty.Bool i.action) h (types_fit ty.Bool i.action))
placed_takes slots (Some t) i h = typed_takes slots (Some t) i (type_behind t i.action) h (types_fit t i.action)

meant_takes : (slots : List Slot) (before : Option Ty) (l : Line) (m : Option Meant) → IfSome m (MeantFits slots)
    → IfTakenAs (meant_line before l m) (Takes slots before)
meant_takes slots before l None h = tt
meant_takes slots before l (Some m) h =
    if_taken_as (Takes slots before) (cond (sets l.operator) m.set true) (placed_line before (instruction_of l m.operand)) (fault.Target l.at)
    (λ e. placed_takes slots before (instruction_of l m.operand) (action_fits slots (start before) l.operator m h e))

formed_takes : LiteralLaw → (slots : List Slot) (before : Option Ty) (spot : Spot) (l : Option Line)
    → IfTakenAs (formed_line slots before spot l) (Takes slots before)
formed_takes law slots before spot None = tt
formed_takes law slots before spot (Some l) = meant_takes slots before l (meant slots l.operand) (meant_fits law slots l.operand)

-- ---- lists

alone_fits : (slots : List Slot) (t : Ty) (spot : Spot) (ls : List (List Token)) → IfOk (alone spot ls) (AreFitting slots t)
alone_fits slots t spot [] = tt
alone_fits slots t spot (l ∷ ls) = tt

more_fits : (slots : List Slot) (t u : Ty) (i : Instruction) (r : Result (List Instruction) IlFault) → ActionFits slots t i.action
    → u ≡ next_type t i.action → IfOk r (AreFitting slots u) → IfOk (and_more i r) (AreFitting slots t)
more_fits slots t u i (Ok is) h e k = (h, subst (λ (x : Ty). AreFitting slots x is) e k)
more_fits slots t u i (Err f) h e k = tt

onto_fits : (slots : List Slot) (before : Option Ty) (j : Judged) (next : Ty → Result (List Instruction) IlFault) → IfTakenAs j (Takes slots before)
    → ((t : Ty) → IfOk (next t) (AreFitting slots t)) → IfOk (onto j next) (AreFitting slots (start before))
onto_fits slots before (taken i t) next h k = more_fits slots (start before) t i (next t) h.0 h.1 (k t)
onto_fits slots before (faulted f) next h k = tt

either_fits : (P : List Instruction → Type 0) (b : Bool) (r q : Result (List Instruction) IlFault) → IfOk r P → IfOk q P → IfOk (cond b r q) P
either_fits P true r q h k = h
either_fits P false r q h k = k

listed_fits : LiteralLaw → (text : List ℕ) (slots : List Slot) (end : Spot) (before : Option Ty) (ls : List (List Token))
    → IfOk (listed text slots end before ls) (AreFitting slots (start before))
listed_fits law text slots end before [] = tt
listed_fits law text slots end before (l ∷ ls) =
    either_fits (AreFitting slots (start before)) (is_last_word l) (alone (first_spot end l) ls)
    (onto (judged text slots before (first_spot end l) l) (λ t. listed text slots end (Some t) ls))
    (alone_fits slots (start before) (first_spot end l) ls)
    (onto_fits slots before (judged text slots before (first_spot end l) l) (λ t. listed text slots end (Some t) ls)
    (formed_takes law slots before (first_spot end l) (line_of text l))
    (λ t. listed_fits law text slots end (Some t) ls))

-- the instructions of a text's lines take their types
pub listed-fitting : LiteralLaw → (text : List ℕ) (ts : List Token) (i : Il) → listed_in text ts i.slots ≡ Ok i.code → AreFitting i.slots ty.Bool i.code
listed-fitting law text ts i e =
    subst (λ (r : Result (List Instruction) IlFault). IfOk r (AreFitting i.slots ty.Bool)) e (listed_fits law text i.slots _ None (lines_of (behind_head ts)))
