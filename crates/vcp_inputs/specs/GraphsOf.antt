-- GraphsOf: which graphs may be run for a subject, and which have the image that may be written for a program.
use Rattle.std.specs.Prelude.{◌≡◌, ◌≤◌, ℕ, List, length}
use Rattle.op_graph.specs.Lists.{Lists}
use Rattle.op_graph.specs.Rules.{IsGraph}
use Rattle.graph_passes.specs.Reduced.{IsReduced}
use Rattle.flat_expr.specs.Told.{Means}
use Rattle.vcp_typed.specs.Size.{size}
use Rattle.image_file.specs.Graphs.{HasImage}
use Rattle.image_file.specs.Image.{image_of}
use Rattle.vcp_typed.specs.SourceRun.{Program}
use Rattle.il_front.specs.TypedForm.{typed_il}
use Rattle.vcp_inputs.specs.Forms.{Code}
use Rattle.vcp_inputs.specs.Answer.{Answer, Subject, source, listed, image, printed}

-- A graph that may stand for a program: any that means it, has at most as many operations as its Size, and of which no pass leaves
-- less.
pub record StandsFor (p : Program) (g : Lists) : Type 0 where
  pub graph : IsGraph g
  pub means : Means g p
  pub few : length g.operations ≤ size p
  pub reduced : IsReduced g

-- the graph may be run: it stands for the program, or the typed one of the instruction list, or it is the image's
abbrev pub MayRun : Subject → Lists → Type 0
MayRun (source p) g = StandsFor p g
MayRun (listed i) g = StandsFor (typed_il i) g
MayRun (image h) g = g ≡ h

-- the graph stands for the program, and it has an image with the numbers of the code
pub record MayCompile (p : Program) (code : Code) (g : Lists) : Type 0 where
  pub stands : StandsFor p g
  pub has : HasImage g code.seed code.step

-- the answer where the image of a graph is written, with the numbers of a code
abbrev pub image_answer : Code → Lists → Answer
image_answer code g = printed (image_of g code.seed code.step)

-- bytes are the image of a graph that may stand for the program
abbrev pub IsImageFor : Program → Code → List ℕ → Type 0
IsImageFor p code bytes = (g : Lists) × MayCompile p code g × (bytes ≡ image_of g code.seed code.step)
