-- Texts that are images, and refusals of others.
use Rattle.std.proofs.Common.{ℕ, List, Ok, Err}
use Rattle.op_graph.specs.Lists.{Lists}
use Rattle.signature_table.specs.Signatures.{Numbers}
use Rattle.image_file.specs.declared.fault.ImageFault.{ImageFault}
use Rattle.image_file.specs.declared.fault.ImageFault.TheVariants as image
use Rattle.image_file.specs.Graphs.{Reads}
use Rattle.vcp_inputs.specs.Files.{Untaken}
use Rattle.vcp_inputs.specs.Images.{ImageOf, NotImage, no_image}
use Rattle.vcp_inputs.specs.Refusals.{unimaged}

-- the image's fault is told
pub image_refuses : (text : List ℕ) (f : ImageFault) → Reads text (Err f) → Untaken (NotImage text) (unimaged f)
image_refuses text (image.Magic at) stops = no_image (image.Magic at) stops
image_refuses text (image.Version at) stops = no_image (image.Version at) stops
image_refuses text (image.Short at) stops = no_image (image.Short at) stops
image_refuses text (image.Field at) stops = no_image (image.Field at) stops
image_refuses text (image.Operand at) stops = no_image (image.Operand at) stops
image_refuses text (image.Table at stored expected) stops = no_image (image.Table at stored expected) stops
image_refuses text (image.Rest at) stops = no_image (image.Rest at) stops
image_refuses text image.Memory stops = tt

-- the text is the image of what was read
pub is_image : (text : List ℕ) (g : Lists) (t : Numbers) → Reads text (Ok (g, t)) → ImageOf text (record { graph = g; table = t })
is_image text g t read = record { has = read.0; bytes = read.1; table = read.2 }
