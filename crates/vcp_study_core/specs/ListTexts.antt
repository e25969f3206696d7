-- ListTexts: an instruction list as a program in Structured Text.
use Rattle.std.specs.Prelude.{◌≡◌, ℕ, ℤ, List}
use Rattle.op_graph.specs.Lists.{Lists}
use Rattle.st_tree.specs.ProgramTree.{ProgramTree}
use Rattle.st_writer.specs.CanonicalProgram.{canonical}
use Rattle.flat_expr.specs.Told.{told_source}
use Rattle.vcp_typed.specs.Fitting.{AreRows, input_columns, input_types, output_columns}
use Rattle.vcp_typed.specs.SourceRun.{Program}
use Rattle.il_front.specs.Accumulator.{Il}
use Rattle.il_front.specs.TypedForm.{typed_il}
use Rattle.vcp_inputs.specs.Programs.{IsProgram, TypedOf}
use Rattle.vcp_inputs.specs.GraphsOf.{StandsFor}
use Rattle.vcp_inputs.specs.Reports.{told_listed}
use Rattle.vcp_study_core.specs.SameGraphs.{AreSameButForPlaces, told_anywhere}

-- the text is a program, of which this is the canonical text
abbrev pub IsCanonicalOf : List ℕ → List ℕ → Type 0
IsCanonicalOf text written = (tree : ProgramTree) × IsProgram text tree × (written ≡ canonical tree)

-- the text is the canonical text of the program that it is: `format` leaves it as it is
abbrev pub IsItsCanonical : List ℕ → Type 0
IsItsCanonical text = IsCanonicalOf text text

-- a graph that may stand for the one program is, but for places, one that may stand for the other
abbrev pub HaveSameGraph : Program → Program → Type 0
HaveSameGraph p q = (g : Lists) × (h : Lists) × StandsFor p g × StandsFor q h × AreSameButForPlaces g h

-- the text is a program in Structured Text of which that is said beside p
abbrev pub HasSameGraph : Program → List ℕ → Type 0
HasSameGraph p text = (q : Program) × TypedOf text q × HaveSameGraph p q

-- and it is its own canonical text
abbrev pub IsTextFor : Program → List ℕ → Type 0
IsTextFor p text = IsItsCanonical text × HasSameGraph p text

-- The program has the list's inputs and outputs, and over all rows that fit its run is told as the list's on the accumulator, but for the place of its
-- stop: the same rows, and a stop for the same reason after as many of them, or none.
pub record RunsAsListed (i : Il) (q : Program) : Type 0 where
  pub inputs : input_columns q.slots ≡ input_columns i.slots
  pub outputs : output_columns q.slots ≡ output_columns i.slots
  pub told : (rows : List (List ℤ)) → AreRows (input_types i.slots) rows → told_anywhere (told_source q rows) ≡ told_anywhere (told_listed i rows)

-- A text is the list as a program in Structured Text: it is that program's canonical text, which `format` leaves as it is; the program runs as the list;
-- and the image that may be written of it has, but for places, the operations of one of the list.
pub record IsTextOfList (i : Il) (text : List ℕ) : Type 0 where
  pub program : Program
  pub typed : TypedOf text program
  pub canonical : IsItsCanonical text
  pub runs : RunsAsListed i program
  pub graph : HaveSameGraph (typed_il i) program
