-- DotText: the graph of an image as a text for Graphviz. Each line ends with LF.
use Rattle.std.specs.Prelude.{◌≡◌, ℕ, ◌+◌, Bool, true, false, cond, List, [], ◌∷◌, ◌++◌, codes, decimal, flat_map, length, slice_get, Option, Some, None}
use Rattle.vcp_base.specs.declared.kind.Kind.{Kind}
use Rattle.vcp_base.specs.declared.kind.Kind.TheVariants as kind
use Rattle.vcp_base.specs.declared.spot.Spot.{Spot}
use Rattle.vcp_base.specs.Spellings.{kind_name}
use Rattle.op_graph.specs.declared.op.Op.{Op}
use Rattle.op_graph.specs.declared.op.Cell.{Cell}
use Rattle.op_graph.specs.Lists.{Lists, cells}
use Rattle.weight_audit.specs.Audit.{Audit, IsAudit}
use Rattle.run_report.specs.Variables.{output_name}
use Rattle.vcp_outside.specs.Drawing.{each_below}
use Rattle.pictures.specs.declared.colours.Colour.{Colour}
use Rattle.pictures.specs.declared.colours.Colour.TheVariants as colour
use Rattle.pictures.specs.Colours.{colours}
use Rattle.pictures.specs.Constants.{is_constant}
use Rattle.pictures.specs.Drawn.{Box, Wire, Drawing, drawing, own_of}
use Rattle.vcp_outside.specs.declared.svg.characters.Escaping.TheVariants as escaping
use Rattle.vcp_outside.specs.Characters.{escaped_in}

-- pieces of a label as they are written between double quotes
abbrev pub written : List (List ℕ) → List ℕ
written pieces = flat_map (escaped_in escaping.Quoted) pieces

-- ---- the names of nodes

-- the node of operation n
abbrev pub node_name : ℕ → List ℕ
node_name n = codes "n" ++ decimal n

-- the node of the constant that an operation reads as this operand of it
abbrev pub constant_name : ℕ → ℕ → List ℕ
constant_name reader which = codes "c" ++ (decimal reader ++ (codes "_" ++ decimal which))

-- ---- labels, in pieces

-- the kinds whose operations have a name
abbrev pub has_name : Kind → Bool
has_name kind.Input = true
has_name kind.Load = true
has_name kind.Store = true
has_name kind.Out = true
has_name _ = false

-- the number and the kind
abbrev pub head : ℕ → Kind → List (List ℕ)
head n k = decimal n ∷ codes " " ∷ kind_name k ∷ []

-- the name of an input, a cell or an output, in a line of its own
abbrev pub named : Lists → Op → List (List ℕ)
named g op = cond (has_name op.kind) (codes "\n" ∷ own_of g op.kind op.imm ∷ []) []

-- the place in the source, behind this
abbrev pub source : List ℕ → Spot → List (List ℕ)
source before spot = before ∷ codes "at " ∷ decimal spot.line ∷ codes ":" ∷ decimal spot.col ∷ []

-- the output for which an operation is blind and after how many borders, in a line of its own
abbrev pub blindness : Lists → Colour → List (List ℕ)
blindness g colour.Unreached = []
blindness g colour.Plain = []
blindness g (colour.Blind output after) = codes "\nblind: " ∷ output_name g output ∷ codes " " ∷ decimal after ∷ []

-- what the node of operation n says
abbrev pub label : Lists → ℕ → Colour → Op → List (List ℕ)
label g n c op = head n op.kind ++ (named g op ++ (source (codes "\n") op.spot ++ blindness g c))

-- what the node of a constant says, which is operation n: its value, and below it its number and its place
abbrev pub constant_label : Lists → ℕ → Colour → Op → List (List ℕ)
constant_label g n c op = (own_of g op.kind op.imm ∷ codes "\n" ∷ decimal n ∷ []) ++ (source (codes " ") op.spot ++ blindness g c)

-- ---- nodes

-- what leaves a cycle and what enters it are round, a cell is a drum, and all else a box
abbrev pub shape_of : Kind → List ℕ
shape_of kind.Input = codes "ellipse"
shape_of kind.Out = codes "ellipse"
shape_of kind.Load = codes "cylinder"
shape_of kind.Store = codes "cylinder"
shape_of kind.Const = codes "plaintext"
shape_of _ = codes "box"

abbrev pub fill_of : Colour → List ℕ
fill_of colour.Unreached = codes "#dddddd"
fill_of colour.Plain = codes "#ffffff"
fill_of (colour.Blind output after) = codes "#ff9999"

-- the line of a node: its name, its label, its shape and its colour
abbrev pub node_end : Kind → Colour → List ℕ
node_end k c = codes "\" shape=\"" ++ (shape_of k ++ (codes "\" fillcolor=\"" ++ (fill_of c ++ codes "\" ];\n")))

abbrev pub node_line : List ℕ → List (List ℕ) → Kind → Colour → List ℕ
node_line name told k c = name ++ (codes " [ label=\"" ++ (written told ++ node_end k c))

-- the line of an operation's box; a constant has none of its own
abbrev pub box_text : Lists → Box Colour → List ℕ
box_text g b = cond (is_constant b.op.kind) [] (node_line (node_name b.number) (label g b.number b.look b.op) b.op.kind b.look)

-- ---- edges

-- the edge from a node to the operation that reads it, as this operand of it
abbrev pub edge_end : ℕ → ℕ → List ℕ
edge_end reader which = codes " -> " ++ (node_name reader ++ (codes " [ headlabel=\"" ++ (decimal which ++ codes "\" ];\n")))

abbrev pub edge_line : List ℕ → ℕ → ℕ → List ℕ
edge_line from reader which = from ++ edge_end reader which

-- a constant at its reader: a node, and the edge from it
abbrev pub constant_text : Lists → ℕ → Colour → Op → ℕ → ℕ → List ℕ
constant_text g n c op reader which =
    node_line (constant_name reader which) (constant_label g n c op) op.kind c ++ edge_line (constant_name reader which) reader which

-- the line from operation n, which is this one
abbrev pub reading_text : Lists → Audit → ℕ → ℕ → Option Op → ℕ → ℕ → List ℕ
reading_text g a distances n None reader which = edge_line (node_name n) reader which
reading_text g a distances n (Some op) reader which =
    cond (is_constant op.kind) (constant_text g n (colours g a distances n) op reader which) (edge_line (node_name n) reader which)

abbrev pub wire_text : Lists → Audit → ℕ → Wire → List ℕ
wire_text g a distances w = reading_text g a distances w.operand (slice_get g.operations w.operand) w.reader w.which

-- the dashed edge of a cell, from its STORE to its LOAD in the next cycle
abbrev pub cell_text : Option Cell → List ℕ
cell_text None = []
cell_text (Some c) = node_name c.store ++ (codes " -> " ++ (node_name c.load ++ codes " [ style=\"dashed\" constraint=\"false\" ];\n"))

abbrev pub cells_below : Lists → ℕ → List ℕ
cells_below g n = each_below (λ k. cell_text (slice_get (cells g) k)) n

-- ---- the whole text

-- how all is drawn: from the left to the right, and the words below it say what the colours mean
abbrev pub graph_style : List ℕ
graph_style =
    codes "graph [ rankdir=\"LR\" nodesep=\"0.15\" ranksep=\"0.3\" fontname=\"monospace\" fontsize=\"9\" ];\n"
    ++ codes "graph [ label=\"red: blind for the output that it names, so many cycles later; grey: reaches no output\" ];\n"

abbrev pub node_style : List ℕ
node_style = codes "node [ fontname=\"monospace\" fontsize=\"9\" style=\"filled\" margin=\"0.06\" width=\"0\" height=\"0\" ];\n"

abbrev pub edge_style : List ℕ
edge_style = codes "edge [ fontname=\"monospace\" fontsize=\"8\" arrowsize=\"0.5\" labeldistance=\"1.4\" ];\n"

abbrev pub beginning : List ℕ
beginning = codes "digraph {\n" ++ (graph_style ++ (node_style ++ edge_style))

abbrev pub ending : List ℕ
ending = codes "}\n"

-- the boxes and the lines of what is drawn, and the cells
abbrev pub drawing_text : Lists → Audit → ℕ → Drawing Colour → List ℕ
drawing_text g a distances d =
    flat_map (box_text g) d.boxes ++ (flat_map (wire_text g a distances) d.wires ++ cells_below g (length (cells g)))

-- the text of a graph, by what is kept of its weights up to a horizon
abbrev pub dot_text : Lists → Audit → ℕ → List ℕ
dot_text g a horizon = beginning ++ (drawing_text g a (horizon + 1) (drawing g (colours g a (horizon + 1)) []) ++ ending)

-- a text is that of the graph up to a horizon
pub record IsDotOf (g : Lists) (horizon : ℕ) (text : List ℕ) : Type 0 where
  pub audit : Audit
  pub is : IsAudit g horizon audit
  pub told : text ≡ dot_text g audit horizon
