-- Elements: how boxes and lines are drawn, and the text of the picture of a graph.
use Rattle.std.specs.Prelude.{◌≡◌, ℕ, ◌+◌, ◌*◌, cond, List, [], ◌∷◌, ◌++◌, Option, Some, None, codes, decimal, flat_map, slice_get}
use Rattle.std.specs.Option.{is_some}
use Rattle.vcp_base.specs.declared.kind.Kind.{Kind}
use Rattle.vcp_base.specs.declared.kind.Kind.TheVariants as kind
use Rattle.vcp_base.specs.declared.spot.Spot.{Spot}
use Rattle.vcp_base.specs.Spellings.{kind_name}
use Rattle.op_graph.specs.declared.op.Op.{Op}
use Rattle.op_graph.specs.Lists.{Lists}
use Rattle.op_graph.specs.Reads.{named}
use Rattle.op_graph.specs.Rules.{reads_as}
use Rattle.weight_audit.specs.Audit.{Audit, IsAudit}
use Rattle.vcp_outside.specs.declared.svg.names.Tag.TheVariants as tag
use Rattle.vcp_outside.specs.declared.svg.names.Name.TheVariants as name
use Rattle.vcp_outside.specs.Elements.{Element, attribute, element, picture_text}
use Rattle.pictures.specs.declared.colours.Colour.{Colour}
use Rattle.pictures.specs.declared.colours.Colour.TheVariants as colour
use Rattle.pictures.specs.declared.layout.BoxPlace.{BoxPlace}
use Rattle.pictures.specs.declared.legend.Sample.{Sample}
use Rattle.pictures.specs.declared.looks.Look.{Look}
use Rattle.pictures.specs.declared.looks.Look.TheVariants as look
use Rattle.pictures.specs.declared.looks.Worst.{Worst}
use Rattle.pictures.specs.declared.looks.Worst.TheVariants as worst
use Rattle.pictures.specs.Arrangement.{Arrangement, IsArranged, left_of, top_of, box_width, box_height}
use Rattle.run_report.specs.Variables.{output_name}
use Rattle.pictures.specs.Constants.{is_constant}
use Rattle.pictures.specs.Drawn.{Box, Wire, Drawing, drawing, own_of}
use Rattle.pictures.specs.Looks.{audit_looks}

-- ---- boxes

abbrev pub colour_class : Colour → List ℕ
colour_class colour.Unreached = codes "unreached"
colour_class colour.Plain = codes "plain"
colour_class (colour.Blind output after) = codes "blind"

abbrev pub worst_class : Worst → List ℕ
worst_class worst.Wrong = codes "wrong"
worst_class worst.RanOn = codes "ran-on"
worst_class worst.Same = codes "same"
worst_class worst.Stopped = codes "stopped"
worst_class worst.Refused = codes "refused"

-- the class of a look, to which the rules of style give a colour
abbrev pub class_of : Look → List ℕ
class_of (look.Shown c) = colour_class c
class_of look.Untried = codes "plain"
class_of (look.Tried w some all) = worst_class w

-- the rectangle of an operation in its class
abbrev pub outline : ℕ → Look → BoxPlace → Element
outline n l p = element tag.Rect
    (attribute name.Operation (decimal n) ∷ attribute name.Class (class_of l) ∷ attribute name.X (decimal (left_of p))
    ∷ attribute name.Y (decimal (top_of p)) ∷ attribute name.Width (decimal box_width) ∷ attribute name.Height (decimal box_height) ∷ []) []

-- words inside a box, so far below its upper side
abbrev pub words : BoxPlace → ℕ → List (List ℕ) → Element
words p below pieces = element tag.Text (attribute name.X (decimal (left_of p + 5)) ∷ attribute name.Y (decimal (top_of p + below)) ∷ []) pieces

-- the number and the kind
abbrev pub head : ℕ → Kind → BoxPlace → Element
head n k p = words p 12 (decimal n ∷ codes " " ∷ kind_name k ∷ [])

-- the own name or value, and the place in the source
abbrev pub own : List ℕ → BoxPlace → Element
own text p = words p 23 (text ∷ [])

abbrev pub source : Spot → BoxPlace → Element
source spot p = words p 34 (codes "at " ∷ decimal spot.line ∷ codes ":" ∷ decimal spot.col ∷ [])

-- in the last line of a box: of a blind operation, the output for which it is and the number of borders; and where faults stand, the worst that came of
-- them, and of how many of how many
abbrev pub blindness : Lists → Colour → BoxPlace → List Element
blindness g colour.Unreached p = []
blindness g colour.Plain p = []
blindness g (colour.Blind output after) p = words p 45 (output_name g output ∷ codes " " ∷ decimal after ∷ []) ∷ []

abbrev pub note : Lists → Look → BoxPlace → List Element
note g (look.Shown c) p = blindness g c p
note g look.Untried p = []
note g (look.Tried w some all) p = words p 45 (worst_class w ∷ codes " " ∷ decimal some ∷ codes "/" ∷ decimal all ∷ []) ∷ []

-- a bar at a side of a box
abbrev pub bar : ℕ → ℕ → Element
bar x y = element tag.Rect
    (attribute name.Class (codes "cell") ∷ attribute name.X (decimal x) ∷ attribute name.Y (decimal y)
    ∷ attribute name.Width (decimal 4) ∷ attribute name.Height (decimal box_height) ∷ []) []

-- the bar of a cell: left of its LOAD, and right of its STORE
abbrev pub cell_bar : Kind → BoxPlace → List Element
cell_bar kind.Load p = bar (left_of p) (top_of p) ∷ []
cell_bar kind.Store p = bar (left_of p + 92) (top_of p) ∷ []
cell_bar _ p = []

-- ---- constants

-- a small rectangle in a box, for operand `which`, in the class of the look of this constant
abbrev pub patch : BoxPlace → ℕ → ℕ → Look → Element
patch p which k l = element tag.Rect
    (attribute name.Operand (decimal k) ∷ attribute name.Place (decimal which) ∷ attribute name.Class (class_of l) ∷ attribute name.X (decimal (left_of p + 52))
    ∷ attribute name.Y (decimal (top_of p + 2 + which * 11)) ∷ attribute name.Width (decimal 42) ∷ attribute name.Height (decimal 11) ∷ []) []

-- the value in it
abbrev pub patch_value : BoxPlace → ℕ → List ℕ → Element
patch_value p which value = element tag.Text
    (attribute name.X (decimal (left_of p + 54)) ∷ attribute name.Y (decimal (top_of p + 11 + which * 11)) ∷ []) (value ∷ [])

-- a constant in the box of an operation that reads it as this operand
abbrev pub constant_elements : BoxPlace → ℕ → ℕ → Look → List ℕ → List Element
constant_elements p which k l value = patch p which k l ∷ patch_value p which value ∷ []

-- the operand of an operation, where that is this constant
abbrev pub constant_of : Lists → (ℕ → Look) → BoxPlace → ℕ → ℕ → Option Op → List Element
constant_of g looks p which k None = []
constant_of g looks p which k (Some op) = cond (is_constant op.kind) (constant_elements p which k (looks k) (own_of g op.kind op.imm)) []

-- operand `which` of an operation, where that is a constant
abbrev pub constant_at : Lists → (ℕ → Look) → BoxPlace → Op → ℕ → List Element
constant_at g looks p op which =
    cond (is_some (reads_as op.kind op.from which)) (constant_of g looks p which (named op which) (slice_get g.operations (named op which))) []

-- ---- boxes of operations that are no constants

abbrev pub body_elements : Lists → (ℕ → Look) → Box Look → List Element
body_elements g looks b =
    outline b.number b.look b.place ∷ head b.number b.op.kind b.place ∷ own b.own b.place ∷ source b.op.spot b.place
    ∷ (note g b.look b.place ++ (cell_bar b.op.kind b.place
    ++ (constant_at g looks b.place b.op 0 ++ (constant_at g looks b.place b.op 1 ++ constant_at g looks b.place b.op 2))))

-- a constant has no box of its own
abbrev pub box_elements : Lists → (ℕ → Look) → Box Look → List Element
box_elements g looks b = cond (is_constant b.op.kind) [] (body_elements g looks b)

-- ---- lines

-- a line from the right side of the operand's box to the left side of the reader's
abbrev pub wire_element : Wire → Element
wire_element w = element tag.Line
    (attribute name.Operand (decimal w.operand) ∷ attribute name.Reader (decimal w.reader) ∷ attribute name.Place (decimal w.which)
    ∷ attribute name.X1 (decimal (left_of w.from + box_width)) ∷ attribute name.Y1 (decimal (top_of w.from + 25))
    ∷ attribute name.X2 (decimal (left_of w.to)) ∷ attribute name.Y2 (decimal (top_of w.to + 10 + w.which * 15)) ∷ []) []

-- none comes from a constant
abbrev pub line_from : Wire → Option Op → List Element
line_from w None = wire_element w ∷ []
line_from w (Some op) = cond (is_constant op.kind) [] (wire_element w ∷ [])

abbrev pub wire_elements : Lists → Wire → List Element
wire_elements g w = line_from w (slice_get g.operations w.operand)

-- ---- the legend

-- the rules of style
abbrev pub style : List ℕ → Element
style rules = element tag.Style [] (rules ∷ [])

-- a small rectangle of a class, and beside it what it says
abbrev pub swatch : ℕ → List ℕ → Element
swatch x class = element tag.Rect
    (attribute name.X (decimal x) ∷ attribute name.Y (decimal 8) ∷ attribute name.Width (decimal 14) ∷ attribute name.Height (decimal 14)
    ∷ attribute name.Class class ∷ []) []

-- how often it comes, where that is told
abbrev pub counted : Option ℕ → List (List ℕ)
counted None = []
counted (Some n) = codes " " ∷ decimal n ∷ []

abbrev pub caption : ℕ → List ℕ → Option ℕ → Element
caption x told many = element tag.Text (attribute name.X (decimal (x + 20)) ∷ attribute name.Y (decimal 20) ∷ []) (told ∷ counted many)

abbrev pub sample : ℕ → List ℕ → List ℕ → Option ℕ → List Element
sample x class told many = swatch x class ∷ caption x told many ∷ []

abbrev pub sample_of : Sample → List Element
sample_of s = sample s.x s.class.now s.told.now s.many

-- a legend with these rules of style and these samples
abbrev pub legend_of : List ℕ → List Sample → List Element
legend_of rules samples = style rules ∷ flat_map sample_of samples

-- what the colours say that weights and paths give
abbrev pub audit_style : List ℕ
audit_style = codes "text{font:9px monospace}rect{stroke:#333;fill:#fff}line{stroke:#888}.unreached{fill:#ddd}.blind{fill:#f99}.cell{fill:#36c}"

abbrev pub audit_legend : List Element
audit_legend =
    style audit_style ∷ (sample 12 (codes "plain") (codes "reaches an output") None ++ (sample 192 (codes "unreached") (codes "reaches none") None
    ++ (sample 332 (codes "blind") (codes "blind for the output that it names, so many cycles later") None
    ++ sample 672 (codes "cell") (codes "a cell's LOAD (left) or STORE (right)") None)))

-- ---- the picture

abbrev pub drawing_elements : Lists → (ℕ → Look) → List Element → Drawing Look → List Element
drawing_elements g looks legend d = legend ++ (flat_map (wire_elements g) d.wires ++ flat_map (box_elements g looks) d.boxes)

-- the picture of a graph with a legend, where its boxes look and stand so
abbrev pub picture_of : Lists → (ℕ → Look) → List Element → Arrangement → List ℕ
picture_of g looks legend l = picture_text l.width l.height (drawing_elements g looks legend (drawing g looks l.places))

-- the picture of a graph, by what is kept of its weights up to a horizon, and by where the boxes stand
abbrev pub graph_text : Lists → Audit → ℕ → Arrangement → List ℕ
graph_text g a horizon l = picture_of g (audit_looks g a (horizon + 1)) audit_legend l

-- a text is a picture of the graph up to a horizon
pub record IsGraphPicture (g : Lists) (horizon : ℕ) (text : List ℕ) : Type 0 where
  pub audit : Audit
  pub is : IsAudit g horizon audit
  pub arrangement : Arrangement
  pub arranged : IsArranged g arrangement
  pub told : text ≡ graph_text g audit horizon arrangement
