-- Looks: how the boxes of operations look by weights.
use Rattle.std.specs.Prelude.{◌≡◌, ℕ}
use Rattle.op_graph.specs.Lists.{Lists}
use Rattle.weight_audit.specs.Audit.{Audit}
use Rattle.pictures.specs.declared.colours.Colour.{Colour}
use Rattle.pictures.specs.declared.looks.Look.{Look}
use Rattle.pictures.specs.declared.looks.Look.TheVariants as look
use Rattle.pictures.specs.Colours.{colours, IsColour}

-- the looks of a graph's operations, by what is kept of its weights across fewer borders than `distances`
abbrev pub audit_looks : Lists → Audit → ℕ → ℕ → Look
audit_looks g a distances n = look.Shown (colours g a distances n)

-- a look is that of the colour that paths and weights say
abbrev pub IsAuditLook : Lists → ℕ → ℕ → Look → Type 0
IsAuditLook g horizon n l = (c : Colour) × (l ≡ look.Shown c) × IsColour g horizon n c
