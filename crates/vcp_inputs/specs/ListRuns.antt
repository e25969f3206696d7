-- ListRuns: the run of an instruction list on the accumulator, by its typed program and by the image that is written for it.
use Rattle.std.specs.Prelude.{◌≡◌, ℕ, ℤ, List, map}
use Rattle.op_graph.specs.Lists.{Lists, column, output_column}
use Rattle.flat_expr.specs.Told.{told_graph, told_source}
use Rattle.image_file.specs.Image.{image_of}
use Rattle.vcp_typed.specs.Fitting.{AreRows, input_columns, input_types, output_columns}
use Rattle.il_front.specs.Accumulator.{Il}
use Rattle.il_front.specs.Answers.{IsIl}
use Rattle.il_front.specs.TypedForm.{typed_il}
use Rattle.vcp_inputs.specs.Forms.{Code}
use Rattle.vcp_inputs.specs.GraphsOf.{IsImageFor, MayCompile}
use Rattle.vcp_inputs.specs.Reports.{told_listed}

-- hidden variables are neither inputs nor outputs
pub record HasListColumns : Type 0 where
  pub inputs : (i : Il) → input_columns (typed_il i).slots ≡ input_columns i.slots
  pub outputs : (i : Il) → output_columns (typed_il i).slots ≡ output_columns i.slots
  pub types : (i : Il) → input_types (typed_il i).slots ≡ input_types i.slots

-- the run of a list's typed program gives what the list gives on the accumulator
abbrev pub ListsAreTold : Type 0
ListsAreTold = (text : List ℕ) (i : Il) (rows : List (List ℤ)) → IsIl text i → told_source (typed_il i) rows ≡ told_listed i rows

-- a graph has the list's inputs and outputs, and over all rows that fit its run gives what the list gives on the accumulator
pub record RunsAsList (i : Il) (g : Lists) : Type 0 where
  pub inputs : map (column g.names) g.inputs ≡ input_columns i.slots
  pub outputs : map (output_column g.names) g.outputs ≡ output_columns i.slots
  pub told : (rows : List (List ℤ)) → AreRows (input_types i.slots) rows → told_graph g rows ≡ told_listed i rows

-- Bytes are the image of a list with the numbers of a code: that of a graph that stands for the list's typed program, which runs as the list.
pub record IsImageOfList (i : Il) (code : Code) (bytes : List ℕ) : Type 0 where
  pub graph : Lists
  pub may : MayCompile (typed_il i) code graph
  pub written : bytes ≡ image_of graph code.seed code.step
  pub runs : RunsAsList i graph

-- each image for the typed program of a list is one of the list
abbrev pub ImagesAreOfLists : Type 0
ImagesAreOfLists =
    (text : List ℕ) (i : Il) (code : Code) (bytes : List ℕ) → IsIl text i → IsImageFor (typed_il i) code bytes → IsImageOfList i code bytes
