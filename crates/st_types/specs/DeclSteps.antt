-- DeclSteps: what the steps of typing declarations give, and the faults that they note. The faults inside initial values are
-- kept apart from all others: the names that these go by are known once all declarations have been read.
-- How the typing works, and no promise: what it promises is in Typing.
use Rattle.std.specs.Prelude.{◌≡◌, ◌⊎◌, List, [], ◌∷◌, Option, Some, None}
use Rattle.vcp_base.specs.declared.ty.Ty.{Ty}
use Rattle.st_tree.specs.declared.program.Section.{Section}
use Rattle.st_tree.specs.ExprTree.{ExprTree}
use Rattle.st_tree.specs.ProgramTree.{DeclaredTree, DeclTree, BlockTree}
use Rattle.st_types.specs.declared.declaration.Declarations.{Declarations}
use Rattle.st_types.specs.declared.fault.Fault.{Fault}
use Rattle.st_types.specs.declared.fault.Rule.TheVariants as rule
use Rattle.st_types.specs.Faults.{fault}
use Rattle.st_types.specs.Notes.{Notes}
use Rattle.st_types.specs.Scope.{Entry}
use Rattle.st_types.specs.ExprTyping.{ExprFault}
use Rattle.st_types.specs.StmtTyping.{Known, spot_of, constant, form}
use Rattle.st_types.specs.DeclTyping.{Made, value_or_zero, known_init, init_value, NamesFault, BlocksFault, after_names, after_decl, after_decls, after_blocks}

abbrev pub made_by : Declarations → Made
made_by d = record { entries = d.names; slots = d.slots.items.items }

-- ---- faults but for those inside initial values

-- the initial value is no constant form of what was declared before it
abbrev pub FormFault : List Entry → ExprTree → Fault → Type 0
FormFault before e f = (f ≡ fault rule.Bound (spot_of e)) × (form before e ≡ None)

abbrev pub InitForm : List Entry → Option ExprTree → Fault → Type 0
InitForm before None f = ⊥
InitForm before (Some e) f = FormFault before e f

abbrev pub DeclForm : Section → Made → DeclTree → Fault → Type 0
DeclForm k m d f = InitForm m.entries d.init f ⊎ NamesFault m k d.ty (init_value m d.init) (known_init m d.init) d.names f

abbrev pub DeclsForm : Section → Made → List DeclTree → Fault → Type 0
DeclsForm k m [] f = ⊥
DeclsForm k m (d ∷ ds) f = DeclForm k m d f ⊎ DeclsForm k (after_decl k m d) ds f

abbrev pub BlocksForm : Made → List BlockTree → Fault → Type 0
BlocksForm m [] f = ⊥
BlocksForm m (b ∷ bs) f = DeclsForm b.section m b.decls f ⊎ BlocksForm (after_decls b.section m b.decls) bs f

-- ---- faults inside initial values

abbrev pub InitInside : List Entry → Option ExprTree → Fault → Type 0
InitInside all None f = ⊥
InitInside all (Some e) f = ExprFault all e f

abbrev pub DeclsInside : List Entry → List DeclTree → Fault → Type 0
DeclsInside all [] f = ⊥
DeclsInside all (d ∷ ds) f = InitInside all d.init f ⊎ DeclsInside all ds f

abbrev pub BlocksInside : List Entry → List BlockTree → Fault → Type 0
BlocksInside all [] f = ⊥
BlocksInside all (b ∷ bs) f = DeclsInside all b.decls f ⊎ BlocksInside all bs f

-- ---- steps

-- an initial value is judged: k is the constant that it is
pub record Judges (before : List Entry) (e : ExprTree) (old new : Option Fault) (k : Option Known) : Type 0 where
  pub notes : Notes old new (FormFault before e)
  pub gives : k ≡ constant before e

pub record JudgesInit (m : Made) (init : Option ExprTree) (old new : Option Fault) (k : Option Known) : Type 0 where
  pub notes : Notes old new (InitForm m.entries init)
  pub gives : k ≡ known_init m init

-- declarations are read: n has been made, which is `end`, and their faults F are met
pub record Makes (old new : Option Fault) (n end : Made) (F : Fault → Type 0) : Type 0 where
  pub notes : Notes old new F
  pub gives : n ≡ end

-- the names of a declaration are read: its section, its type, and the constant that is its initial value
abbrev pub MakesNames : Section → Ty → Option Known → List DeclaredTree → Made → Made → Option Fault → Option Fault → Type 0
MakesNames k t x ds m n old new = Makes old new n (after_names m k t (value_or_zero x) ds) (NamesFault m k t (value_or_zero x) x ds)

abbrev pub MakesDecls : Section → List DeclTree → Made → Made → Option Fault → Option Fault → Type 0
MakesDecls k ds m n old new = Makes old new n (after_decls k m ds) (DeclsForm k m ds)

abbrev pub MakesBlocks : List BlockTree → Made → Made → Option Fault → Option Fault → Type 0
MakesBlocks bs m n old new = Makes old new n (after_blocks m bs) (BlocksForm m bs)

-- the same, and the faults inside initial values are met as well
abbrev pub MakesAll : List BlockTree → Made → Made → Option Fault → Option Fault → Type 0
MakesAll bs m n old new = Makes old new n (after_blocks m bs) (BlocksFault n.entries m bs)
