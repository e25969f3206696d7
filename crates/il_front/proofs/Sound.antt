-- Sound: instructions that are taken from lines have their variables, and the first one loads a result.
use Rattle.std.proofs.Common.{◌≡◌, ℕ, suc, ◌+◌, ◌<◌, ℤ, pos, Bool, true, false, cond, List, [], ◌∷◌, length, Option, Some, None, Result, Ok, Err}
use Rattle.std.proofs.Common.{refl, sym, subst, ◌∙◌, arith}
use Rattle.std.specs.Prelude.{IfOk, IfSome, option_map}
use Rattle.vcp_base.specs.declared.spot.Spot.{Spot}
use Rattle.vcp_base.specs.declared.ty.Ty.{Ty}
use Rattle.vcp_base.specs.declared.ty.Ty.TheVariants as ty
use Rattle.vcp_base.specs.Names.{is_same_name}
use Rattle.st_lexer.specs.declared.token.Token.{Token}
use Rattle.st_types.specs.ExprTyping.{literal_type}
use Rattle.vcp_typed.specs.declared.slot.Slot.{Slot}
use Rattle.il_front.specs.declared.fault.IlFault.{IlFault}
use Rattle.il_front.specs.declared.fault.IlFault.TheVariants as fault
use Rattle.il_front.specs.declared.instruction.Operand.TheVariants as operand
use Rattle.il_front.specs.declared.operator.Operator.{Operator}
use Rattle.il_front.specs.declared.operator.Operator.TheVariants as operator
use Rattle.il_front.specs.Accumulator.{Operand, Instruction, Il}
use Rattle.il_front.specs.Lines.{lines_of, behind_head}
use Rattle.il_front.specs.Judging.{Written, nothing, name, number, Line, line_of, Variable, variable_from, Meant, meant, meant_variable, meant_number}
use Rattle.il_front.specs.Judging.{action_of, sets, loads}
use Rattle.il_front.specs.Judging.{type_behind, Judged, taken, faulted, typed_line, placed_line, instruction_of, meant_line, formed_line, judged}
use Rattle.il_front.specs.Judging.{is_last_word}
use Rattle.il_front.specs.Judging.{first_spot, alone, and_more, onto, listed}
use Rattle.il_front.specs.Answers.{listed_in}
use Rattle.il_front.proofs.Steps.{OperandIn, ActionIn}
use Rattle.il_front.proofs.Beside.{AreIn, LoadsFirst, IsSound}

-- ---- operands

either_some : {A : Type 0} (P : A → Type 0) (b : Bool) (o p : Option A) → IfSome o P → IfSome p P → IfSome (cond b o p) P
either_some P true o p h k = h
either_some P false o p h k = k

lower : (k n m : ℕ) (o : Option Variable) → suc k + n ≡ m → IfSome o (λ (e : Variable). e.slot < suc k + n) → IfSome o (λ (e : Variable). e.slot < m)
lower k n m o e h = subst (λ (x : ℕ). IfSome o (λ (y : Variable). y.slot < x)) e h

-- a variable that is found has a slot
found_in : (slots : List Slot) (k : ℕ) (n : List ℕ) → IfSome (variable_from k slots n) (λ (e : Variable). e.slot < k + length slots)
found_in [] k n = tt
found_in (s ∷ slots) k n =
    let e : Variable = record { slot = k; section = s.section; ty = s.ty } in
    either_some (λ (x : Variable). x.slot < k + length (s ∷ slots)) (is_same_name s.name n) (Some e) (variable_from (suc k) slots n)
    (omega arith) (lower k (length slots) (k + length (s ∷ slots)) (variable_from (suc k) slots n) (omega arith) (found_in slots (suc k) n))

-- what may be set is a variable
abbrev SlotIn : ℕ → Operand → Type 0
SlotIn n (operand.Variable slot t) = slot < n
SlotIn n (operand.Number t v) = ⊥

record MeantIn (n : ℕ) (m : Meant) : Type 0 where
  there : OperandIn n m.operand
  target : m.set ≡ true → SlotIn n m.operand

number_in : (n : ℕ) (v : ℤ) (t : Ty) → MeantIn n (meant_number v t)
number_in n v t = record { there = tt; target = λ e. absurd (let no : false ≡ true = e in cc) }

variable_meant : (n : ℕ) (o : Option Variable) → IfSome o (λ (e : Variable). e.slot < n) → IfSome (option_map meant_variable o) (MeantIn n)
variable_meant n None h = tt
variable_meant n (Some e) h = record { there = h; target = λ s. h }

number_meant : (n : ℕ) (v : ℤ) (o : Option Ty) → IfSome (option_map (meant_number v) o) (MeantIn n)
number_meant n v None = tt
number_meant n v (Some t) = number_in n v t

meant_in : (slots : List Slot) (w : Written) → IfSome (meant slots w) (MeantIn (length slots))
meant_in slots nothing = number_in (length slots) (pos 0) ty.Bool
meant_in slots (name n) =
    variable_meant (length slots) (variable_from 0 slots n)
    (subst (λ (x : ℕ). IfSome (variable_from 0 slots n) (λ (y : Variable). y.slot < x)) (let e : 0 + length slots ≡ length slots = omega arith in e)
    (found_in slots 0 n))
meant_in slots (number t v) = number_meant (length slots) v (literal_type t v)

slot_in_is : (n : ℕ) (o : Operand) → SlotIn n o → (to : Bool) (u : Ty) → ActionIn n (action_of (operator.Put to) o)
slot_in_is n (operand.Variable slot t) h to u = h
slot_in_is n (operand.Number t v) h to u = absurd h

store_in : (n : ℕ) (o : Operand) (negated : Bool) → SlotIn n o → ActionIn n (action_of (operator.Store negated) o)
store_in n (operand.Variable slot t) negated h = h
store_in n (operand.Number t v) negated h = absurd h

-- what the operator does with the operand has its variables, where what it sets may be set
action_in : (n : ℕ) (o : Operator) (m : Meant) → MeantIn n m → cond (sets o) m.set true ≡ true → ActionIn n (action_of o m.operand)
action_in n (operator.Load negated) m h e = h.there
action_in n (operator.Store negated) m h e = store_in n m.operand negated (h.target e)
action_in n (operator.Put to) m h e = slot_in_is n m.operand (h.target e) to ty.Bool
action_in n operator.Complement m h e = tt
action_in n (operator.Combine op negated) m h e = h.there

-- ---- lines

-- what is taken from a line
abbrev IfTaken : Judged → (Instruction → Type 0) → Type 0
IfTaken (taken i t) P = P i
IfTaken (faulted f) P = Unit {0}

record IsTaken (n : ℕ) (before : Option Ty) (i : Instruction) : Type 0 where
  there : ActionIn n i.action
  first : before ≡ None → loads i.action ≡ true

typed_taken : (P : Instruction → Type 0) (i : Instruction) (o : Option Ty) → P i → IfTaken (typed_line i o) P
typed_taken P i None h = tt
typed_taken P i (Some t) h = h

if_taken : (P : Instruction → Type 0) (b : Bool) (x : Judged) (f : IlFault) → (b ≡ true → IfTaken x P) → IfTaken (cond b x (faulted f)) P
if_taken P true x f h = h refl
if_taken P false x f h = tt

some_is_none : (t : Ty) (o : Option Ty) → o ≡ Some t → o ≡ None → ⊥
some_is_none t o e f = let g : Some t ≡ None = sym e ∙ f in cc

placed_taken : (n : ℕ) (before : Option Ty) (i : Instruction) → ActionIn n i.action → IfTaken (placed_line before i) (IsTaken n before)
placed_taken n None i h =
    if_taken (IsTaken n None) (loads i.action) (typed_line i (type_behind ty.Bool i.action)) (fault.Empty i.spot)
    (λ e. typed_taken (IsTaken n None) i (type_behind ty.Bool i.action) (record { there = h; first = λ g. e }))
placed_taken n (Some t) i h =
    typed_taken (IsTaken n (Some t)) i (type_behind t i.action) (record { there = h; first = λ g. absurd (some_is_none t (Some t) refl g) })

meant_taken : (n : ℕ) (before : Option Ty) (l : Line) (m : Option Meant) → IfSome m (MeantIn n) → IfTaken (meant_line before l m) (IsTaken n before)
meant_taken n before l None h = tt
meant_taken n before l (Some m) h =
    if_taken (IsTaken n before) (cond (sets l.operator) m.set true) (placed_line before (instruction_of l m.operand)) (fault.Target l.at)
    (λ e. placed_taken n before (instruction_of l m.operand) (action_in n l.operator m h e))

formed_taken : (slots : List Slot) (before : Option Ty) (spot : Spot) (l : Option Line)
    → IfTaken (formed_line slots before spot l) (IsTaken (length slots) before)
formed_taken slots before spot None = tt
formed_taken slots before spot (Some l) =
    meant_taken (length slots) before l (meant slots l.operand) (meant_in slots l.operand)

-- ---- lists

record AreTaken (n : ℕ) (before : Option Ty) (is : List Instruction) : Type 0 where
  there : AreIn n is
  first : before ≡ None → LoadsFirst is

alone_taken : (n : ℕ) (before : Option Ty) (spot : Spot) (ls : List (List Token)) → IfOk (alone spot ls) (AreTaken n before)
alone_taken n before spot [] = record { there = tt; first = λ e. tt }
alone_taken n before spot (l ∷ ls) = tt

more_taken : (n : ℕ) (before : Option Ty) (i : Instruction) (t : Ty) (r : Result (List Instruction) IlFault) → IsTaken n before i
    → IfOk r (AreTaken n (Some t)) → IfOk (and_more i r) (AreTaken n before)
more_taken n before i t (Ok is) h k = record { there = (h.there, k.there); first = h.first }
more_taken n before i t (Err f) h k = tt

onto_taken : (n : ℕ) (before : Option Ty) (j : Judged) (next : Ty → Result (List Instruction) IlFault) → IfTaken j (IsTaken n before)
    → ((t : Ty) → IfOk (next t) (AreTaken n (Some t))) → IfOk (onto j next) (AreTaken n before)
onto_taken n before (taken i t) next h k = more_taken n before i t (next t) h (k t)
onto_taken n before (faulted f) next h k = tt

either_ok : (P : List Instruction → Type 0) (b : Bool) (r q : Result (List Instruction) IlFault) → IfOk r P → IfOk q P → IfOk (cond b r q) P
either_ok P true r q h k = h
either_ok P false r q h k = k

listed_taken : (text : List ℕ) (slots : List Slot) (end : Spot) (before : Option Ty) (ls : List (List Token))
    → IfOk (listed text slots end before ls) (AreTaken (length slots) before)
listed_taken text slots end before [] = tt
listed_taken text slots end before (l ∷ ls) =
    either_ok (AreTaken (length slots) before) (is_last_word l) (alone (first_spot end l) ls)
    (onto (judged text slots before (first_spot end l) l) (λ t. listed text slots end (Some t) ls))
    (alone_taken (length slots) before (first_spot end l) ls)
    (onto_taken (length slots) before (judged text slots before (first_spot end l) l)
    (λ t. listed text slots end (Some t) ls)
    (formed_taken slots before (first_spot end l) (line_of text l))
    (λ t. listed_taken text slots end (Some t) ls))

-- the instructions of a text's lines are sound
pub listed-sound : (text : List ℕ) (ts : List Token) (i : Il) → listed_in text ts i.slots ≡ Ok i.code → IsSound i
listed-sound text ts i e =
    let h : AreTaken (length i.slots) None i.code =
    subst (λ (r : Result (List Instruction) IlFault). IfOk r (AreTaken (length i.slots) None)) e
    (listed_taken text i.slots _ None (lines_of (behind_head ts))) in
    record { variables = h.there; first = h.first refl }
