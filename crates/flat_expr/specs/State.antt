-- State: what is known while a program is flattened, and what a step does.
use Rattle.std.specs.Prelude.{◌≡◌, ℕ, zero, suc, ◌<◌, ◌≤◌, ◌+◌, nat_lt, int_lt, unsigned_abs, ℤ, pos, Bool, true, false, not, ◌||◌, cond, List, [], ◌∷◌}
use Rattle.std.specs.Prelude.{◌++◌, length}
use Rattle.std.specs.Prelude.{reverse, get_or, slice_get, slice_set, map, sum_by, set, ◌==◌, ◌≢◌, All, Option, Some, None, Result, Ok, Err, ⊤}
use Rattle.vcp_base.specs.declared.spot.Spot.{Spot}
use Rattle.vcp_base.specs.declared.turns.Turn.{Turn}
use Rattle.vcp_base.specs.declared.ty.Ty.{Ty}
use Rattle.vcp_base.specs.declared.ty.Ty.TheVariants as ty
use Rattle.vcp_base.specs.declared.kind.Kind.{Kind}
use Rattle.vcp_base.specs.declared.kind.Kind.TheVariants as kind
use Rattle.vcp_base.specs.declared.kind.StopKind.TheVariants as why
use Rattle.vcp_base.specs.Types.{fits, is_bool, within}
use Rattle.vcp_base.specs.declared.code.Profile.{Profile}
use Rattle.vcp_base.specs.Code.{admits, is_wide}
use Rattle.vcp_base.specs.Limits.{most_names, most_operations}
use Rattle.vcp_base.specs.Kinds.{same, truth, divides_by_zero, operands, operand_type}
use Rattle.vcp_base.specs.Kinds.{value as kind_value}
use Rattle.op_graph.specs.declared.op.Op.{Op}
use Rattle.op_graph.specs.declared.build.Build.{Build}
use Rattle.op_graph.specs.declared.build.Build.TheVariants as build
use Rattle.op_graph.specs.declared.op.TurnNode.{TurnNode}
use Rattle.op_graph.specs.declared.op.Loaded.{Loaded}
use Rattle.op_graph.specs.Lists.{Lists, turns_of, turns_back, column, output_column}
use Rattle.op_graph.specs.Rules.{IsPart, IsGraph, operand_fits, is_number}
use Rattle.op_graph.specs.Building.{with_op, with_turn_node}
use Rattle.vcp_base.specs.Values.{at}
use Rattle.op_graph.specs.GraphRun.{outcome_of, stored, outputs as graph_outputs}
use Rattle.vcp_base.specs.Kinds.{Outcome}
use Rattle.vcp_typed.specs.declared.slot.Slot.{Slot}
use Rattle.vcp_typed.specs.Meaning.{Stop, and_then, stop, in_range, value, operate, sign, apply, lesser, greater}
use Rattle.st_tree.specs.declared.expr.UnOp.{UnOp}
use Rattle.st_tree.specs.declared.expr.BinOp.{BinOp}
use Rattle.vcp_typed.specs.TExprTree.{TExprTree, TExprTrees, no_texprs, and_texpr}
use Rattle.vcp_typed.specs.declared.expr.Fun.{Fun}
use Rattle.vcp_typed.specs.declared.expr.Fun.TheVariants as fun
use Rattle.vcp_typed.specs.Checked.{ty_of}
use Rattle.vcp_typed.specs.Rules.{conversion}
use Rattle.vcp_typed.specs.Size.{expr_size}
use Rattle.vcp_typed.specs.SourceRun.{is_input, is_output, outputs}
use Rattle.vcp_typed.specs.Fitting.{input_columns, output_columns}
use Rattle.st_tree.specs.declared.program.Section.{Section}
use Rattle.st_tree.specs.declared.program.Section.TheVariants as section
use Rattle.flat_expr.specs.Told.{names_of}
use Rattle.flat_expr.specs.ReadSlots.{reads_slot}

-- ---- one cycle of unfinished lists, as a result

-- the stop is the source's: why, the operation's place, and its turns; a name's number is its slot's
abbrev pub stopped : List Turn → Op → Outcome → Result ℤ Stop
stopped turns op (Ok v) = Ok v
stopped turns op (Err k) = stop k op.spot turns

abbrev pub run_from : List TurnNode → List ℤ → List ℤ → List ℤ → List Op → Result (List ℤ) Stop
run_from nodes cells row vs [] = Ok vs
run_from nodes cells row vs (op ∷ ops) =
    and_then (stopped (turns_back (reverse nodes) op.turn) op (outcome_of cells row vs op)) (λ v. run_from nodes cells row (vs ++ v ∷ []) ops)

-- the values of the operations, or the stop
abbrev pub run : Lists → List ℤ → List ℤ → Result (List ℤ) Stop
run g cells row = run_from g.turn_nodes cells row [] g.operations

-- ---- the state

-- The program's slots; the lists so far; the operation that has each slot's value (none: it is as at the begin of the cycle);
-- the path condition (none: there is none); the present turn node; the operations of the constants of masks, where they are there.
pub record State : Type 0 where
  pub slots : List Slot
  pub graph : Lists
  pub known : List (Option ℕ)
  pub path : Option ℕ
  pub turn : ℕ
  pub nought : Option ℕ
  pub unit : Option ℕ

-- operation k is there, and may be read where the type is wanted
abbrev pub IsA : Ty → List Op → ℕ → Type 0
IsA t ops k = operand_fits ops (Some t) k ≡ true

abbrev pub IsPlace : Ty → List Op → Option ℕ → Type 0
IsPlace t ops None = ⊤
IsPlace t ops (Some k) = IsA t ops k

-- how many slots are held by no operation
abbrev pub unknown : List (Option ℕ) → ℕ
unknown [] = 0
unknown (None ∷ known) = suc (unknown known)
unknown (Some k ∷ known) = unknown known

abbrev pub missing : Option ℕ → ℕ
missing None = 1
missing (Some k) = 0

-- the operations that are there, and those that first readings of the other slots and the constants of masks may still add
abbrev pub reserved : State → ℕ
reserved s = length s.graph.operations + unknown s.known + missing s.nought + missing s.unit

-- how many slots are no inputs
abbrev pub others : List Slot → ℕ
others [] = 0
others (s ∷ slots) = cond (is_input s.section) (others slots) (suc (others slots))

-- how many operations the end of a cycle adds at most to a program's: the OUT and the STORE of each variable
abbrev pub last_of : Section → ℕ
last_of section.Input = 0
last_of section.Output = 2
last_of section.Local = 1
last_of section.Retain = 1
last_of section.Constant = 0

abbrev pub last_size : List Slot → ℕ
last_size slots = sum_by (λ s. last_of s.section) slots

-- a cell is of a slot that is no input, with its type and its initial value
pub record IsCell (slots : List Slot) (l : Loaded) : Type 0 where
  pub of : Slot
  pub there : slice_get slots l.name ≡ Some of
  pub variable : is_input of.section ≡ false
  pub ty : l.ty ≡ of.ty
  pub init : l.init ≡ of.init

-- a slot is held by an operation, where its section is that of inputs
abbrev pub IsHeld : Bool → Option ℕ → Type 0
IsHeld false o = ⊤
IsHeld true None = ⊥
IsHeld true (Some k) = ⊤

-- ---- the code

-- a part of a program that has a node of LINT stands in the wide code alone
abbrev pub Allows : Profile → Bool → Type 0
Allows p has_lint = is_wide p ≡ false → has_lint ≡ false

-- the code has words of each slot's type
abbrev pub SlotsAllowed : Profile → List Slot → Type 0
SlotsAllowed p slots = (slot : ℕ) (x : Slot) → slice_get slots slot ≡ Some x → admits p x.ty ≡ true

-- a state that flattening may come to
pub record IsState (s : State) : Type 0 where
  pub part : IsPart s.graph
  pub code : SlotsAllowed s.graph.profile s.slots
  pub names : s.graph.names ≡ names_of s.slots
  pub few : length s.slots ≤ most_names
  pub inits : (slot : ℕ) (x : Slot) → slice_get s.slots slot ≡ Some x → fits x.ty x.init ≡ true
  pub variables : (slot : ℕ) (x : Slot) → slice_get s.slots slot ≡ Some x → x.section ≡ section.Constant → ⊥
  pub long : length s.known ≡ length s.slots
  pub known : (slot : ℕ) (x : Slot) → slice_get s.slots slot ≡ Some x → IsPlace x.ty s.graph.operations (get_or s.known slot None)
  pub inputs : (slot : ℕ) (x : Slot) → slice_get s.slots slot ≡ Some x → IsHeld (is_input x.section) (get_or s.known slot None)
  pub columns : map (column s.graph.names) s.graph.inputs ≡ input_columns s.slots
  pub loads : (j : ℕ) (l : Loaded) → slice_get s.graph.loads j ≡ Some l → IsCell s.slots l
  pub held : (j : ℕ) (l : Loaded) → slice_get s.graph.loads j ≡ Some l → IsHeld true (get_or s.known l.name None)
  pub cells : length s.graph.loads + unknown s.known ≤ others s.slots
  pub no_outputs : s.graph.outputs ≡ []
  pub no_stores : s.graph.stores ≡ []
  pub path : IsPlace ty.Bool s.graph.operations s.path
  pub turn : s.turn ≤ length s.graph.turn_nodes
  pub nought : IsPlace ty.Int s.graph.operations s.nought
  pub unit : IsPlace ty.Int s.graph.operations s.unit

-- ---- what is known in a cycle

-- the place is reached, in a cycle with these values
abbrev pub active : Option ℕ → List ℤ → Bool
active None vs = true
active (Some k) vs = not (same (at vs k) (pos 0))

-- a slot's value now and at the begin of the cycle, where it is held by an operation or not
abbrev pub KnowsOne : Option ℕ → List ℤ → ℤ → ℤ → Type 0
KnowsOne None vs now start = now ≡ start
KnowsOne (Some k) vs now start = at vs k ≡ now

abbrev pub IsNumber : Option ℕ → ℤ → List ℤ → Type 0
IsNumber None n vs = ⊤
IsNumber (Some k) n vs = at vs k ≡ n

-- the operations' values vs tell the slots' values now
pub record Knows (s : State) (start now vs : List ℤ) : Type 0 where
  pub long : length now ≡ length s.slots
  pub each : (slot : ℕ) → slot < length s.slots → KnowsOne (get_or s.known slot None) vs (at now slot) (at start slot)
  pub nought : IsNumber s.nought (pos 0) vs
  pub unit : IsNumber s.unit (pos 1) vs

-- each cell has its slot's value at the begin of the cycle, and it is in the cell's type; a cell's name is its slot's number
abbrev pub AreLoaded : List Loaded → List ℤ → List ℤ → Type 0
AreLoaded loads cells start = (j : ℕ) (l : Loaded) → slice_get loads j ≡ Some l → (at cells j ≡ at start l.name) × (fits l.ty (at cells j) ≡ true)

-- ---- what a step does

-- a value that is wanted only where the place is reached
abbrev pub guarded : Bool → Result ℤ Stop → Result (Option ℤ) Stop
guarded true (Ok v) = Ok (Some v)
guarded true (Err s) = Err s
guarded false r = Ok None

abbrev pub exactly : Result ℤ Stop → Result (Option ℤ) Stop
exactly r = guarded true r

abbrev pub IsValue : Option ℤ → ℤ → Type 0
IsValue None x = ⊤
IsValue (Some v) x = x ≡ v

-- the earlier values stay
abbrev pub Kept : List ℤ → List ℤ → Type 0
Kept vs ws = (k : ℕ) → k < length vs → at ws k ≡ at vs k

-- a result against what the operations give
abbrev pub Ends : (Option ℤ → List ℤ → Type 0) → Result (Option ℤ) Stop → Result (List ℤ) Stop → Type 0
Ends P (Ok a) r = (ws : List ℤ) × (r ≡ Ok ws) × P a ws
Ends P (Err s) r = r ≡ Err s

-- the list begins with the earlier one
abbrev pub Extends : {X : Type 0} → List X → List X → Type 0
Extends {X} old new = (more : List X) × (new ≡ old ++ more)

-- What comes later keeps stops, the path, the turn, and what is known: operations and cells are added at the end, and nothing before them changes.
pub record Follows (old new : State) : Type 0 where
  pub before : IsState old
  pub after : IsState new
  pub slots : new.slots ≡ old.slots
  pub path : new.path ≡ old.path
  pub turn : new.turn ≡ old.turn
  pub profile : new.graph.profile ≡ old.graph.profile
  pub turn_nodes : new.graph.turn_nodes ≡ old.graph.turn_nodes
  pub inputs : new.graph.inputs ≡ old.graph.inputs
  pub outputs : new.graph.outputs ≡ old.graph.outputs
  pub stores : new.graph.stores ≡ old.graph.stores
  pub operations : Extends old.graph.operations new.graph.operations
  pub cells : Extends old.graph.loads new.graph.loads
  pub places : (slot k : ℕ) → get_or old.known slot None ≡ Some k → get_or new.known slot None ≡ Some k
  pub longer : length old.graph.operations ≤ length new.graph.operations
  pub typed : (t : Ty) (k : ℕ) → IsA t old.graph.operations k → IsA t new.graph.operations k
  pub loads : (cells start : List ℤ) → AreLoaded new.graph.loads cells start → AreLoaded old.graph.loads cells start
  pub stops : (cells row : List ℤ) (s : Stop) → run old.graph cells row ≡ Err s → run new.graph cells row ≡ Err s

-- what a step gives, from the slots' values now and the operations' values before it: a value, any value, or a stop
abbrev pub Meant : Type 0
Meant = List ℤ → List ℤ → Result (Option ℤ) Stop

-- The operations that were added give what is meant, at the place k, which may be read where the type is wanted. They are at
-- most so many, beside one LOAD for each new cell and the constants of masks. A slot that isn't among those that are read is held as before.
pub record Computes (old new : State) (is_read : ℕ → Bool) (t : Ty) (most : ℕ) (meant : Meant) (k : ℕ) : Type 0 where
  pub follows : Follows old new
  pub unread : (slot : ℕ) → is_read slot ≡ false → get_or new.known slot None ≡ get_or old.known slot None
  pub place : IsA t new.graph.operations k
  pub count : reserved new ≤ reserved old + most
  pub gives : (cells row start now vs : List ℤ) → run old.graph cells row ≡ Ok vs → AreLoaded new.graph.loads cells start → Knows old start now vs →
      Ends (λ o ws. Kept vs ws × Knows new start now ws × IsValue o (at ws k)) (meant now vs) (run new.graph cells row)

-- a step that reads no slot
abbrev pub no_slot : ℕ → Bool
no_slot slot = false

abbrev pub Makes : State → State → Ty → ℕ → Meant → ℕ → Type 0
Makes old new t most meant k = Computes old new no_slot t most meant k

-- the expression's value, or its stop, where the place is reached; anything but a stop where it isn't
abbrev pub meaning_of : State → TExprTree → Meant
meaning_of s e = λ now vs. guarded (active s.path vs) (value (turns_of s.graph s.turn) e now)

-- the expression's operations: only slots that it reads may be held anew
abbrev pub Flattens : State → State → TExprTree → ℕ → Type 0
Flattens old new e k = Computes old new (reads_slot e) (ty_of e) (expr_size e) (meaning_of old e) k

-- one more operation
abbrev pub pushed : State → Op → State
pushed s op = record s { graph = with_op s.graph op }

pub record Pushes (old new : State) (op : Op) (k : ℕ) : Type 0 where
  pub before : IsState old
  pub after : IsState new
  pub place : k ≡ length old.graph.operations
  pub is : new ≡ pushed old op

-- what an operation of no input, output or cell gives, or its stop, where its operands are in their types
abbrev pub act : List Turn → Kind → Ty → Spot → ℤ → ℤ → ℤ → ℤ → Result ℤ Stop
act turns k to spot imm a b c =
    cond (divides_by_zero k b) (stop why.DivZero spot turns) (in_range to spot turns (kind_value k imm a b c))

-- a kind of neither an input, an output, a cell nor a constant
abbrev pub is_plain : Kind → Bool
is_plain kind.Input = false
is_plain kind.Const = false
is_plain kind.Load = false
is_plain kind.Store = false
is_plain kind.Out = false
is_plain _ = true

-- the type in which operand j of such a kind is read, and its value, where operation n is read
abbrev pub reads : Kind → Ty → ℕ → Option Ty
reads k from j = cond (nat_lt j (operands k)) (Some (operand_type k j from)) None

abbrev pub given : Kind → List ℤ → ℕ → ℕ → ℤ
given k vs j n = cond (nat_lt j (operands k)) (at vs n) (pos 0)

-- what an operation of such a kind gives at the present turn
abbrev pub acts : State → Kind → Ty → ℕ → ℕ → ℕ → Spot → Meant
acts s k to a b c spot = λ now vs.
    exactly (act (turns_of s.graph s.turn) k to spot (pos 0) (given k vs 0 a) (given k vs 1 b) (given k vs 2 c))

-- an operation at the present turn
abbrev pub op_at : State → Kind → Ty → Ty → ℕ → ℕ → ℕ → ℤ → Spot → Op
op_at s k from to a b c imm spot = record { kind = k; from = from; ty = to; a = a; b = b; c = c; imm = imm; spot = spot; turn = s.turn }

-- ---- operators

-- the types of a mask's constants: 1 for a divisor, and else 0
abbrev pub neutral : Bool → ℤ
neutral one = cond one (pos 1) (pos 0)

-- the operation of that number, where it is there
abbrev pub neutral_place : State → Bool → Option ℕ
neutral_place s true = s.unit
neutral_place s false = s.nought

-- operation k is that of the number
abbrev pub with_neutral : State → Bool → ℕ → State
with_neutral s true k = record s { unit = Some k }
with_neutral s false k = record s { nought = Some k }

-- an operand where the place is reached, and else the neutral number
abbrev pub masks : State → Bool → ℕ → Meant
masks s one k = λ now vs. Ok (Some (cond (active s.path vs) (at vs k) (neutral one)))

-- what an operation gives where the place is reached
abbrev pub guards : State → Kind → Ty → ℕ → ℕ → Spot → Meant
guards s k to a b spot = λ now vs. guarded (active s.path vs) (act (turns_of s.graph s.turn) k to spot (pos 0) (at vs a) (at vs b) (pos 0))

abbrev pub is_arithmetic : Kind → Bool
is_arithmetic kind.Add = true
is_arithmetic kind.Sub = true
is_arithmetic kind.Mul = true
is_arithmetic kind.Div = true
is_arithmetic kind.Mod = true
is_arithmetic _ = false

abbrev pub divides : Kind → Bool
divides kind.Div = true
divides kind.Mod = true
divides _ = false

abbrev pub is_comparison : Kind → Bool
is_comparison kind.Eq = true
is_comparison kind.Lt = true
is_comparison _ = false

abbrev pub compares : Kind → ℤ → ℤ → Bool
compares kind.Lt a b = int_lt a b
compares _ a b = same a b

-- 1 where the comparison fails, and else 0
abbrev pub denies : Kind → ℕ → ℕ → Meant
denies k a b = λ now vs. Ok (Some (truth (not (compares k (at vs a) (at vs b)))))

-- what an operator of the language gives where the place is reached
abbrev pub operates : State → BinOp → Ty → ℕ → ℕ → Spot → Meant
operates s op t a b spot = λ now vs. guarded (active s.path vs) (operate op t spot (turns_of s.graph s.turn) (at vs a) (at vs b))

abbrev pub signs : State → UnOp → Ty → ℕ → Spot → Meant
signs s op t a spot = λ now vs. guarded (active s.path vs) (sign op t spot (turns_of s.graph s.turn) (at vs a))

-- the slot's value
abbrev pub reading : ℕ → Meant
reading slot = λ now vs. Ok (Some (at now slot))

-- the one slot that is read
abbrev pub one_slot : ℕ → ℕ → Bool
one_slot slot other = slot == other

-- no other slot is held anew
abbrev pub Reads : State → State → ℕ → Ty → ℕ → Type 0
Reads old new slot t k = Computes old new (one_slot slot) t 0 (reading slot) k

abbrev pub giving : ℤ → Meant
giving v = λ now vs. Ok (Some v)

-- ---- functions

-- a where x isn't less than y, and else b
abbrev pub picks : ℕ → ℕ → ℕ → ℕ → Meant
picks x y a b = λ now vs. Ok (Some (cond (int_lt (at vs x) (at vs y)) (at vs b) (at vs a)))

abbrev pub limits : ℕ → ℕ → ℕ → Meant
limits low a high = λ now vs. Ok (Some (lesser (greater (at vs a) (at vs low)) (at vs high)))

-- a where the BOOL g is 0, and else b
abbrev pub selects : ℕ → ℕ → ℕ → Meant
selects g a b = λ now vs. Ok (Some (cond (same (at vs g) (pos 0)) (at vs a) (at vs b)))

abbrev pub copies : ℕ → Meant
copies a = λ now vs. Ok (Some (at vs a))

-- the value in another type, where the place is reached; it can't stop where the value is in the type
abbrev pub narrows : State → Ty → ℕ → Spot → Meant
narrows s to a spot = λ now vs. guarded (active s.path vs) (in_range to spot (turns_of s.graph s.turn) (at vs a))

abbrev pub sizes_up : State → Ty → ℕ → Spot → Meant
sizes_up s t a spot = λ now vs. guarded (active s.path vs) (in_range t spot (turns_of s.graph s.turn) (pos (unsigned_abs (at vs a))))

-- every value of the first type is one of the second
abbrev pub has_all : Ty → Ty → Bool
has_all from to = is_bool from || within from to

-- the argument of a conversion, whose value has the type, may be read at the place
abbrev pub ConversionFits : Option (Ty × Ty) → Ty → List Op → ℕ → Type 0
ConversionFits None t ops a = ⊥
ConversionFits (Some types) t ops a = (t ≡ types.1) × IsA types.0 ops a

-- the arguments of a function, whose value has the type, may be read at these places
abbrev pub FunFits : Fun → Ty → List Op → ℕ → ℕ → ℕ → Type 0
FunFits fun.Abs t ops a b c = (is_number t ≡ true) × IsA t ops a
FunFits fun.Min t ops a b c = (is_number t ≡ true) × IsA t ops a × IsA t ops b
FunFits fun.Max t ops a b c = (is_number t ≡ true) × IsA t ops a × IsA t ops b
FunFits fun.Limit t ops a b c = (is_number t ≡ true) × IsA t ops a × IsA t ops b × IsA t ops c
FunFits fun.Sel t ops a b c = IsA ty.Bool ops a × IsA t ops b × IsA t ops c
FunFits f t ops a b c = ConversionFits (conversion f) t ops a

abbrev pub last_of_types : Option (Ty × Ty) → Ty → Ty
last_of_types None t = t
last_of_types (Some types) t = types.0

-- the type of a function's last argument, where its value has the type
abbrev pub last_type : Fun → Ty → Ty
last_type f t = last_of_types (conversion f) t

-- what a function gives where the place is reached; it takes no more of these arguments than it has
abbrev pub applies : State → Fun → Ty → ℕ → ℕ → ℕ → Spot → Meant
applies s f t a b c spot = λ now vs. guarded (active s.path vs) (apply f t spot (turns_of s.graph s.turn) (at vs a ∷ at vs b ∷ at vs c ∷ []))

-- the argument at a place, where there is one
abbrev pub argument : TExprTrees → ℕ → Option TExprTree
argument no_texprs i = None
argument (and_texpr e es) zero = Some e
argument (and_texpr e es) (suc i) = argument es i

-- the operations of an argument, where there is one
abbrev pub FlattensOne : State → State → Option TExprTree → ℕ → Type 0
FlattensOne old new None k = new ≡ old
FlattensOne old new (Some e) k = Flattens old new e k

abbrev pub one_reads : Option TExprTree → ℕ → Bool
one_reads None slot = false
one_reads (Some e) slot = reads_slot e slot

abbrev pub one_size : Option TExprTree → ℕ
one_size None = 0
one_size (Some e) = expr_size e

-- What later states keep of earlier ones, where slots may be set and turns may be added: the places of slots may change. Operations, cells and
-- turn nodes are added at the end, and nothing before them changes.
pub record Continues (old new : State) : Type 0 where
  pub before : IsState old
  pub after : IsState new
  pub slots : new.slots ≡ old.slots
  pub path : new.path ≡ old.path
  pub turn : new.turn ≡ old.turn
  pub profile : new.graph.profile ≡ old.graph.profile
  pub nodes : length old.graph.turn_nodes ≤ length new.graph.turn_nodes
  pub turns : (n : ℕ) → n ≤ length old.graph.turn_nodes → turns_of new.graph n ≡ turns_of old.graph n
  pub operations : Extends old.graph.operations new.graph.operations
  pub cells : Extends old.graph.loads new.graph.loads
  pub turn_nodes : Extends old.graph.turn_nodes new.graph.turn_nodes
  pub ends : (new.graph.inputs ≡ old.graph.inputs) × (new.graph.outputs ≡ old.graph.outputs) × (new.graph.stores ≡ old.graph.stores)
  pub longer : length old.graph.operations ≤ length new.graph.operations
  pub typed : (t : Ty) (k : ℕ) → IsA t old.graph.operations k → IsA t new.graph.operations k
  pub loads : (cells start : List ℤ) → AreLoaded new.graph.loads cells start → AreLoaded old.graph.loads cells start
  pub stops : (cells row : List ℤ) (s : Stop) → run old.graph cells row ≡ Err s → run new.graph cells row ≡ Err s

-- the slot gets the value of operation k where the place is reached; every other slot is held as before
pub record Assigns (old new : State) (slot k : ℕ) : Type 0 where
  pub continues : Continues old new
  pub others : (j : ℕ) → j ≢ slot → get_or new.known j None ≡ get_or old.known j None
  pub nodes : new.graph.turn_nodes ≡ old.graph.turn_nodes
  pub count : reserved new ≤ reserved old + 1
  pub gives : (cells row start now vs : List ℤ) → run old.graph cells row ≡ Ok vs → AreLoaded new.graph.loads cells start → Knows old start now vs →
      (ws : List ℤ) × (run new.graph cells row ≡ Ok ws) × Kept vs ws × Knows new start (cond (active old.path vs) (slice_set now slot (at vs k)) now) ws

-- one more turn node
pub record Nests (old new : State) (node : TurnNode) (n : ℕ) : Type 0 where
  pub before : IsState old
  pub after : IsState new
  pub number : n ≡ length old.graph.turn_nodes + 1
  pub is : new ≡ record old { graph = with_turn_node old.graph node }
  pub runs : (cells row : List ℤ) → run new.graph cells row ≡ run old.graph cells row
  pub turns : (k : ℕ) → k ≤ length old.graph.turn_nodes → turns_of new.graph k ≡ turns_of old.graph k
  pub here : turns_of new.graph n ≡ turns_of old.graph node.parent ++ (record { name = node.name; value = node.value }) ∷ []

-- ---- the end of a cycle

-- how many operations an output adds: its OUT, and its LOAD and the STORE of that cell where no operation holds it
abbrev pub out_size : Bool → Option ℕ → ℕ
out_size false o = 0
out_size true (Some k) = 1
out_size true None = 3

-- how many operations the outputs from slot n on add, where the slots are held by these operations
abbrev pub outs_from : List Slot → List (Option ℕ) → ℕ → ℕ
outs_from [] known n = 0
outs_from (s ∷ slots) [] n = 0
outs_from (s ∷ slots) (o ∷ known) zero = out_size (is_output s.section) o + outs_from slots known zero
outs_from (s ∷ slots) (o ∷ known) (suc n) = outs_from slots known n

-- how many operations the whole graph has: those that are there, those of the outputs, and the STORE of each cell that is there
abbrev pub whole_size : State → ℕ
whole_size s = length s.graph.operations + outs_from s.slots s.known 0 + length s.graph.loads

-- a cell of an output that no operation held
abbrev pub IsNeeded : State → Loaded → Type 0
IsNeeded s l = (x : Slot) × (slice_get s.slots l.name ≡ Some x) × (is_output x.section ≡ true) × (get_or s.known l.name None ≡ None)

-- The whole graph: the outputs and the next values of the cells. Nothing that was there changes; the cells that are new are of outputs that no
-- operation held.
pub record Finishes (s : State) (g : Lists) : Type 0 where
  pub profile : g.profile ≡ s.graph.profile
  pub names : g.names ≡ names_of s.slots
  pub turn_nodes : g.turn_nodes ≡ s.graph.turn_nodes
  pub inputs : g.inputs ≡ s.graph.inputs
  pub operations : Extends s.graph.operations g.operations
  pub needed : (more : List Loaded) × (g.loads ≡ s.graph.loads ++ more) × All (IsNeeded s) more
  pub ins : map (column g.names) g.inputs ≡ input_columns s.slots
  pub outs : map (output_column g.names) g.outputs ≡ output_columns s.slots
  pub whole : IsGraph g
  pub size : length g.operations ≡ whole_size s
  pub cells : (j : ℕ) (l : Loaded) → slice_get g.loads j ≡ Some l → IsCell s.slots l
  pub loads : (cells start : List ℤ) → AreLoaded g.loads cells start → AreLoaded s.graph.loads cells start
  pub stops : (cells row : List ℤ) (e : Stop) → run s.graph cells row ≡ Err e → run g cells row ≡ Err e
  pub gives : (cells row start now vs : List ℤ) → run s.graph cells row ≡ Ok vs → AreLoaded g.loads cells start → Knows s start now vs →
      (ws : List ℤ) × (run g cells row ≡ Ok ws) × (graph_outputs g ws ≡ outputs s.slots now) × (stored g ws ≡ map (λ l. at now l.name) g.loads)

-- a slot has this place from now on
abbrev pub placed : State → ℕ → ℕ → State
placed s slot k = record s { known = set s.known slot (Some k) }

-- ---- refusals

-- What a call leaves that gives no number: all that it added stays, and a slot that isn't among those that are read is held as before. It was for
-- want of room only where 65,536 operations are there.
pub record Leaves (old new : State) (is_read : ℕ → Bool) (most : ℕ) (e : Build) : Type 0 where
  pub follows : Follows old new
  pub unread : (slot : ℕ) → is_read slot ≡ false → get_or new.known slot None ≡ get_or old.known slot None
  pub full : e ≡ build.Full → length new.graph.operations ≡ most_operations
  pub room : e ≡ build.Full → most_operations < reserved old + most

-- the same of a call that reads no slot
abbrev pub Refuses : State → State → ℕ → Build → Type 0
Refuses old new most e = Leaves old new no_slot most e
