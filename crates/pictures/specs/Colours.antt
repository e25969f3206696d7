-- Colours: how operations show at outputs, by the weights that are kept.
use Rattle.std.specs.Prelude.{◌≡◌, ◌≤◌, ℕ, zero, suc, Bool, cond, length, slice_get, Some}
use Rattle.op_graph.specs.declared.op.Outlet.{Outlet}
use Rattle.op_graph.specs.Lists.{Lists}
use Rattle.weight_audit.specs.Audit.{Audit}
use Rattle.weight_audit.specs.Paths.{Reached, Blind}
use Rattle.weight_audit.specs.AuditText.{is_reached, is_blind}
use Rattle.pictures.specs.declared.colours.Colour.{Colour}
use Rattle.pictures.specs.declared.colours.Colour.TheVariants as colour

-- the colour, where it was seen so far, and one more output and number of borders is looked at
abbrev pub seen_then : Colour → ℕ → ℕ → Bool → Bool → Colour
seen_then (colour.Blind o a) output after reached blind = colour.Blind o a
seen_then colour.Unreached output after reached blind = cond blind (colour.Blind output after) (cond reached colour.Plain colour.Unreached)
seen_then colour.Plain output after reached blind = cond blind (colour.Blind output after) (cond reached colour.Plain colour.Plain)

-- at one output, after each number of borders below this one
abbrev pub seen_after : Audit → ℕ → ℕ → Colour → ℕ → Colour
seen_after a op output seen zero = seen
seen_after a op output seen (suc after) =
    seen_then (seen_after a op output seen after) output after (is_reached a output after op) (is_blind a output after op)

-- at each output below this one
abbrev pub colour_of : Audit → ℕ → ℕ → ℕ → Colour
colour_of a op distances zero = colour.Unreached
colour_of a op distances (suc output) = seen_after a op output (colour_of a op distances output) distances

-- the colours of a graph's operations, across fewer borders than `distances`
abbrev pub colours : Lists → Audit → ℕ → ℕ → Colour
colours g a distances op = colour_of a op distances (length g.outputs)

-- The colour that paths and weights say: no path leads to an output across at most `horizon` borders; or there are such paths, and
-- the operation is blind for none of these outputs; or it is blind for this one.
abbrev pub IsColour : Lists → ℕ → ℕ → Colour → Type 0
IsColour g horizon op colour.Unreached =
    (output after : ℕ) (o : Outlet) → slice_get g.outputs output ≡ Some o → after ≤ horizon → ¬ Reached g o.op after op
IsColour g horizon op colour.Plain =
    ((output : ℕ) × (after : ℕ) × (o : Outlet) × (slice_get g.outputs output ≡ Some o) × (after ≤ horizon) × Reached g o.op after op)
    × ((output after : ℕ) (o : Outlet) → slice_get g.outputs output ≡ Some o → after ≤ horizon → ¬ Blind g o.op after op)
IsColour g horizon op (colour.Blind output after) =
    (o : Outlet) × (slice_get g.outputs output ≡ Some o) × (after ≤ horizon) × Blind g o.op after op
