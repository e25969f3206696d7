-- What commands come to that write or read images, from what loading their files gives.
use Rattle.std.proofs.Common.{ℕ, ◌+◌, ◌≡◌, refl, ap, ◌∙◌, List, [], ◌∷◌, length, map, arith}
use Rattle.std.proofs.lemmas.List.{length-map}
use Rattle.vcp_base.specs.declared.code.Profile.{Profile}
use Rattle.vcp_base.specs.declared.columns.Column.{Column}
use Rattle.vcp_base.specs.declared.ty.Ty.{Ty}
use Rattle.input_rows.specs.RowsOf.{RowsLeft, types_of}
use Rattle.op_graph.specs.declared.op.Cell.{Cell}
use Rattle.op_graph.specs.declared.op.Op.{Op}
use Rattle.op_graph.specs.Lists.{Lists, cells, column}
use Rattle.signature_table.specs.Signatures.{Numbers, corrections_from, table_of, IsTableOf}
use Rattle.vcp_inputs.specs.Answer.{image}
use Rattle.vcp_core.specs.Tasks.{table_code}
use Rattle.vcp_core.specs.MachineRun.{CarriesOut}

-- ---- an image

-- a table has a correction for each operation
corrections-count : (p : Profile) (seed step : ℕ) (held : List Cell) (k : ℕ) (ops : List Op) → length (corrections_from p seed step held k ops) ≡ length ops
corrections-count p seed step held k [] = refl
corrections-count p seed step held k (op ∷ ops) = omega (arith, corrections-count p seed step held (k + 1) ops)

pub corrections-long : (t : Numbers) (g : Lists) → IsTableOf t g → length t.corrections ≡ length g.operations
corrections-long t g is = ap length is.1 ∙ corrections-count g.profile t.seed t.step (cells g) 0 g.operations

-- ---- the run of an image

pub table-is-of : (t : Numbers) (g : Lists) → t ≡ table_of t.seed t.step g → IsTableOf t g
table-is-of t g is = (ap (λ (u : Numbers). u.profile) is, ap (λ (u : Numbers). u.corrections) is)

-- the rows have a value for each input
pub types-width : (g : Lists) (columns : List Column) (types : List Ty) → types ≡ types_of columns → columns ≡ map (column g.names) g.inputs
    → length types ≡ length g.inputs
types-width g columns types is are =
    ap length is ∙ length-map columns (λ (c : Column). c.ty) ∙ ap length are ∙ length-map g.inputs (column g.names)

-- the graph itself is run
pub image-carried : (g : Lists) (t : Numbers) (left : RowsLeft) → t ≡ table_of t.seed t.step g → CarriesOut g t left (image g) (table_code t)
image-carried g t left is = record { may = refl; numbers = is; names = refl; told = refl }
