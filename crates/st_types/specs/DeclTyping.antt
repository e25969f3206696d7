-- DeclTyping: what declarations make, and their faults.
use Rattle.std.specs.Prelude.{◌≡◌, ◌⊎◌, ℕ, ℤ, pos, Bool, false, cond, is_none, List, [], ◌∷◌, ◌++◌, length, Option, Some, None}
use Rattle.vcp_base.specs.declared.ty.Ty.{Ty}
use Rattle.vcp_base.specs.Types.{within}
use Rattle.st_tree.specs.declared.program.Section.{Section}
use Rattle.st_tree.specs.ExprTree.{ExprTree}
use Rattle.st_tree.specs.ProgramTree.{DeclaredTree, DeclTree, BlockTree}
use Rattle.vcp_typed.specs.declared.slot.Slot.{Slot}
use Rattle.st_types.specs.declared.fault.Fault.{Fault}
use Rattle.st_types.specs.declared.fault.Rule.TheVariants as rule
use Rattle.st_types.specs.Faults.{fault}
use Rattle.st_types.specs.Scope.{Entry, find}
use Rattle.st_types.specs.ExprTyping.{ExprFault}
use Rattle.st_types.specs.StmtTyping.{Known, spot_of, constant, form, is_constant}

-- what the declarations so far have made: the names, and the slots of those that are no constants
pub record Made : Type 0 where
  pub entries : List Entry
  pub slots : List Slot

abbrev pub nothing_made : Made
nothing_made = record { entries = []; slots = [] }

-- no name before is this one
abbrev pub is_new : Made → List ℕ → Bool
is_new m n = is_none (find m.entries n)

-- the slots with one more, unless it is a constant
abbrev pub slots_with : List Slot → Section → DeclaredTree → Ty → ℤ → List Slot
slots_with ss k d t v = cond (is_constant k) ss (ss ++ record { name = d.name; spot = d.spot; section = k; ty = t; init = v } ∷ [])

abbrev pub added : Made → Section → Ty → ℤ → DeclaredTree → Made
added m k t v d = record {
  entries = m.entries ++ record { name = d.name; section = k; ty = t; value = v; slot = length m.slots } ∷ [];
  slots = slots_with m.slots k d t v;
}

-- after one more name; the first declaration of a name counts
abbrev pub after_name : Made → Section → Ty → ℤ → DeclaredTree → Made
after_name m k t v d = cond (is_new m d.name) (added m k t v d) m

abbrev pub after_names : Made → Section → Ty → ℤ → List DeclaredTree → Made
after_names m k t v [] = m
after_names m k t v (d ∷ ds) = after_names (after_name m k t v d) k t v ds

-- ---- initial values

-- the value of a known constant, and 0 where it isn't known
abbrev pub value_or_zero : Option Known → ℤ
value_or_zero None = pos 0
value_or_zero (Some k) = k.value

-- the constant that an initial value is, by what was declared before its declaration; one that is none is reported at its expression alone
abbrev pub known_init : Made → Option ExprTree → Option Known
known_init m None = None
known_init m (Some e) = constant m.entries e

-- an initial value, 0 where none is given
abbrev pub init_value : Made → Option ExprTree → ℤ
init_value m init = value_or_zero (known_init m init)

-- a known constant of a type that isn't the declared one and doesn't widen to it
abbrev pub Misfit : Option Known → Ty → Type 0
Misfit k t = (x : Known) × (k ≡ Some x) × (within x.ty t ≡ false)

-- ---- faults

-- f is a fault of the names of a declaration with this initial value, each of which is reported
abbrev pub NamesFault : Made → Section → Ty → ℤ → Option Known → List DeclaredTree → Fault → Type 0
NamesFault m k t v x [] f = ⊥
NamesFault m k t v x (d ∷ ds) f =
    ((f ≡ fault rule.Duplicate d.spot) × (is_new m d.name ≡ false))
    ⊎ (((f ≡ fault rule.Mismatch d.spot) × Misfit x t) ⊎ NamesFault (after_name m k t v d) k t v x ds f)

-- f is a fault of an initial value: one inside it, by all names of the program, or that it is no constant form of what was
-- declared before it
abbrev pub ValueFault : List Entry → List Entry → ExprTree → Fault → Type 0
ValueFault all before e f = ExprFault all e f ⊎ ((f ≡ fault rule.Bound (spot_of e)) × (form before e ≡ None))

abbrev pub InitFault : List Entry → List Entry → Option ExprTree → Fault → Type 0
InitFault all before None f = ⊥
InitFault all before (Some e) f = ValueFault all before e f

-- after a declaration
abbrev pub after_decl : Section → Made → DeclTree → Made
after_decl k m d = after_names m k d.ty (init_value m d.init) d.names

-- f is a fault of a declaration
abbrev pub DeclFault : List Entry → Section → Made → DeclTree → Fault → Type 0
DeclFault all k m d f = InitFault all m.entries d.init f ⊎ NamesFault m k d.ty (init_value m d.init) (known_init m d.init) d.names f

abbrev pub after_decls : Section → Made → List DeclTree → Made
after_decls k m [] = m
after_decls k m (d ∷ ds) = after_decls k (after_decl k m d) ds

abbrev pub DeclsFault : List Entry → Section → Made → List DeclTree → Fault → Type 0
DeclsFault all k m [] f = ⊥
DeclsFault all k m (d ∷ ds) f = DeclFault all k m d f ⊎ DeclsFault all k (after_decl k m d) ds f

abbrev pub after_blocks : Made → List BlockTree → Made
after_blocks m [] = m
after_blocks m (b ∷ bs) = after_blocks (after_decls b.section m b.decls) bs

abbrev pub BlocksFault : List Entry → Made → List BlockTree → Fault → Type 0
BlocksFault all m [] f = ⊥
BlocksFault all m (b ∷ bs) f = DeclsFault all b.section m b.decls f ⊎ BlocksFault all (after_decls b.section m b.decls) bs f
