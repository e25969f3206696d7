-- Elements: a picture is an element with elements inside; this is its text.
use Rattle.std.specs.Prelude.{ℕ, List, [], ◌∷◌, ◌++◌, codes, decimal, flat_map}
use Rattle.vcp_outside.specs.declared.svg.names.Tag.{Tag}
use Rattle.vcp_outside.specs.declared.svg.names.Tag.TheVariants as tag
use Rattle.vcp_outside.specs.declared.svg.names.Name.{Name}
use Rattle.vcp_outside.specs.declared.svg.names.Name.TheVariants as name
use Rattle.vcp_outside.specs.declared.svg.characters.Piece.{Piece}
use Rattle.vcp_outside.specs.Characters.{escaped, piece_bytes}

abbrev pub tag_name : Tag → List ℕ
tag_name tag.Svg = codes "svg"
tag_name tag.Style = codes "style"
tag_name tag.Rect = codes "rect"
tag_name tag.Line = codes "line"
tag_name tag.Text = codes "text"

abbrev pub attribute_name : Name → List ℕ
attribute_name name.Xmlns = codes "xmlns"
attribute_name name.ViewBox = codes "viewBox"
attribute_name name.Class = codes "class"
attribute_name name.X = codes "x"
attribute_name name.Y = codes "y"
attribute_name name.Width = codes "width"
attribute_name name.Height = codes "height"
attribute_name name.X1 = codes "x1"
attribute_name name.Y1 = codes "y1"
attribute_name name.X2 = codes "x2"
attribute_name name.Y2 = codes "y2"
attribute_name name.Operation = codes "data-operation"
attribute_name name.Operand = codes "data-operand"
attribute_name name.Reader = codes "data-reader"
attribute_name name.Place = codes "data-place"
attribute_name name.Column = codes "data-column"
attribute_name name.Cycle = codes "data-cycle"

-- an attribute: its name, and its value in pieces
pub record Attribute : Type 0 where
  pub name : Name
  pub value : List (List ℕ)

-- an element: its tag, its attributes, and its characters in pieces
pub record Element : Type 0 where
  pub tag : Tag
  pub attributes : List Attribute
  pub content : List (List ℕ)

abbrev pub element : Tag → List Attribute → List (List ℕ) → Element
element t attributes content = record { tag = t; attributes = attributes; content = content }

-- an attribute with a value of one piece
abbrev pub attribute : Name → List ℕ → Attribute
attribute n value = record { name = n; value = value ∷ [] }

abbrev pub attribute_of : Name × Piece → Attribute
attribute_of a = attribute a.0 (piece_bytes a.1)

-- pieces of characters as they are written
abbrev pub written : List (List ℕ) → List ℕ
written pieces = flat_map escaped pieces

abbrev pub attribute_text : Attribute → List ℕ
attribute_text a = codes " " ++ (attribute_name a.name ++ (codes "=\"" ++ (written a.value ++ codes "\"")))

abbrev pub given_text : Name × Piece → List ℕ
given_text a = attribute_text (attribute_of a)

-- an element that has only characters inside
abbrev pub element_text : Element → List ℕ
element_text e =
    codes "<" ++ (tag_name e.tag ++ (flat_map attribute_text e.attributes ++ (codes ">" ++ (written e.content
    ++ (codes "</" ++ (tag_name e.tag ++ codes ">\n"))))))

-- the attributes of a picture of this width and height
abbrev pub picture_attributes : ℕ → ℕ → List Attribute
picture_attributes width height =
    attribute name.Xmlns (codes "http://www.w3.org/2000/svg") ∷ attribute name.Width (decimal width) ∷ attribute name.Height (decimal height)
    ∷ record { name = name.ViewBox; value = codes "0 0 " ∷ decimal width ∷ codes " " ∷ decimal height ∷ [] } ∷ []

-- a picture before its elements, and behind them
abbrev pub beginning : ℕ → ℕ → List ℕ
beginning width height = codes "<" ++ (tag_name tag.Svg ++ (flat_map attribute_text (picture_attributes width height) ++ codes ">\n"))

abbrev pub ending : List ℕ
ending = codes "</svg>\n"

-- a picture of this width and height with these elements inside
abbrev pub picture_text : ℕ → ℕ → List Element → List ℕ
picture_text width height elements = beginning width height ++ (flat_map element_text elements ++ ending)
