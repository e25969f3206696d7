-- Entries: names, inputs, outputs, cells and turn nodes of an image, each after those before it.
use Rattle.std.specs.Prelude.{ℕ, ◌-◌, Bool, true, not, ◌&&◌, nat_lt, nat_le, List, length, map, slice_get, Option, Some, None, bytes_eq}
use Rattle.std.specs.List.{list_any}
use Rattle.std.specs.Char.{to_ascii_lowercase}
use Rattle.vcp_base.specs.declared.code.Profile.{Profile}
use Rattle.vcp_base.specs.Limits.{most_name_bytes}
use Rattle.vcp_base.specs.Types.{fits}
use Rattle.vcp_base.specs.Names.{is_name}
use Rattle.op_graph.specs.declared.op.Var.{Var}
use Rattle.op_graph.specs.declared.op.Outlet.{Outlet}
use Rattle.op_graph.specs.declared.op.Cell.{Cell}
use Rattle.op_graph.specs.declared.op.TurnNode.{TurnNode}
use Rattle.image_file.specs.declared.fields.fault.FieldFault.TheVariants.{Field}
use Rattle.image_file.specs.Pieces.{FormatPiece, text_field, before, whole}
use Rattle.image_file.specs.Fields.{number, signed, type_field}

-- the number is above that of the last entry
abbrev pub above : Option ℕ → ℕ → Bool
above None n = true
above (Some m) n = nat_lt m n

abbrev pub number_of : {X : Type 0} → (X → ℕ) → Option X → Option ℕ
number_of f None = None
number_of f (Some x) = Some (f x)

abbrev pub rises : {X : Type 0} → (X → ℕ) → List X → ℕ → Bool
rises f earlier n = above (number_of f (slice_get earlier (length earlier - 1))) n

abbrev pub lower : List ℕ → List ℕ
lower name = map to_ascii_lowercase name

-- a name, and none of these in lower case
abbrev pub name_fits : List (List ℕ) → List ℕ → Bool
name_fits keys name = is_name name && not (list_any (bytes_eq (lower name)) keys)

unfoldable pub name_by : List (List ℕ) → FormatPiece (List ℕ)
name_by keys =
    before (number (λ n. nat_le 1 n && nat_le n most_name_bytes)) (λ t. length t) (λ n.
    before (text_field n (name_fits keys) (λ left. Field left)) (λ t. t) (λ t.
    whole t))

-- a name is no earlier one without regard to case
abbrev pub name_piece : List (List ℕ) → FormatPiece (List ℕ)
name_piece earlier = name_by (map lower earlier)

unfoldable pub input_piece : Profile → ℕ → List Var → FormatPiece Var
input_piece p names earlier =
    before (number (λ n. nat_lt n names && rises (λ w. w.name) earlier n)) (λ v. v.name) (λ name.
    before (type_field p (λ t. true)) (λ v. v.ty) (λ t.
    whole (record { name = name; ty = t })))

unfoldable pub output_piece : Profile → ℕ → ℕ → List Outlet → FormatPiece Outlet
output_piece p names operations earlier =
    before (number (λ n. nat_lt n names && rises (λ w. w.name) earlier n)) (λ v. v.name) (λ name.
    before (type_field p (λ t. true)) (λ v. v.ty) (λ t.
    before (number (λ n. nat_lt n operations && rises (λ w. w.op) earlier n)) (λ v. v.op) (λ op.
    whole (record { name = name; ty = t; op = op }))))

unfoldable pub cell_piece : Profile → ℕ → ℕ → List Cell → FormatPiece Cell
cell_piece p names operations earlier =
    before (number (λ n. nat_lt n names)) (λ c. c.name) (λ name.
    before (type_field p (λ t. true)) (λ c. c.ty) (λ t.
    before (signed (fits t)) (λ c. c.init) (λ init.
    before (number (λ n. nat_lt n operations && rises (λ c. c.load) earlier n)) (λ c. c.load) (λ load.
    before (number (λ n. nat_lt load n && nat_lt n operations && rises (λ c. c.store) earlier n)) (λ c. c.store) (λ store.
    whole (record { name = name; ty = t; init = init; load = load; store = store }))))))

unfoldable pub turn_piece : ℕ → List TurnNode → FormatPiece TurnNode
turn_piece names earlier =
    before (number (λ n. nat_le n (length earlier))) (λ t. t.parent) (λ parent.
    before (number (λ n. nat_lt n names)) (λ t. t.name) (λ name.
    before (signed (λ v. true)) (λ t. t.value) (λ value.
    whole (record { parent = parent; name = name; value = value }))))
