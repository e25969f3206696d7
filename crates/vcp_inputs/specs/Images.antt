-- Images: what makes a text an image, and why a text is none.
use Rattle.std.specs.Prelude.{ℕ, ◌≡◌, List}
use Rattle.signature_table.specs.Signatures.{table_of}
use Rattle.image_file.specs.declared.fault.ImageFault.{ImageFault}
use Rattle.image_file.specs.Image.{image_of}
use Rattle.image_file.specs.Graphs.{HasImage, ImageFaultAt}
use Rattle.vcp_inputs.specs.declared.images.Image.{Image}
use Rattle.vcp_inputs.specs.declared.refusal.Refusal.{Refusal}
use Rattle.vcp_inputs.specs.declared.refusal.Refusal.TheVariants as refusal

-- the text is the image of this graph with the seed and the step of this table, which is the graph's; it is of no other
pub record ImageOf (text : List ℕ) (i : Image) : Type 0 where
  pub has : HasImage i.graph i.table.seed i.table.step
  pub bytes : text ≡ image_of i.graph i.table.seed i.table.step
  pub table : i.table ≡ table_of i.table.seed i.table.step i.graph

-- the text is no image: it has this fault, the first, field by field
pub data NotImage (text : List ℕ) : Refusal → Type 0 where
  no_image : (f : ImageFault) → ImageFaultAt text f → NotImage text (refusal.Image f)
