-- RangeText: the lines that say which operations of a graph may stop, and between which ends the values of operations are. Each ends with LF.
use Rattle.std.specs.Prelude.{ℕ, zero, suc, ◌+◌, Bool, false, cond, not, ◌&&◌, ◌==◌, nat_lt, int_lt, List, [], ◌++◌, length, slice_get, Option, Some, None, decimal, codes}
use Rattle.std.specs.Fmt.{signed_decimal}
use Rattle.vcp_base.specs.declared.kind.Kind.{Kind}
use Rattle.vcp_base.specs.declared.kind.StopKind.{StopKind}
use Rattle.vcp_base.specs.declared.kind.StopKind.TheVariants as stop
use Rattle.vcp_base.specs.Kinds.{operands}
use Rattle.vcp_base.specs.declared.ty.Ty.{Ty}
use Rattle.vcp_base.specs.Spellings.{kind_name, stop_name, ty_name}
use Rattle.op_graph.specs.declared.op.Op.{Op}
use Rattle.op_graph.specs.declared.op.Outlet.{Outlet}
use Rattle.op_graph.specs.declared.op.Cell.{Cell}
use Rattle.op_graph.specs.Lists.{Lists, cells}
use Rattle.op_graph.specs.Rules.{is_input}
use Rattle.graph_passes.specs.Part.{can_stop}
use Rattle.run_report.specs.OperationLines.{source_text}
use Rattle.run_report.specs.Variables.{variable_of, output_name, cell_name}
use Rattle.range_walk.specs.declared.range.Range.{Range}
use Rattle.range_walk.specs.declared.range.Stops.{Stops}
use Rattle.range_audit.specs.Audit.{named_below}
use Rattle.range_walk.specs.Known.{KnownRanges}

-- the ends of a range
abbrev pub ends_text : Range → List ℕ
ends_text r = signed_decimal r.low ++ (codes ".." ++ signed_decimal r.high)

-- the same, or that no value is in it
abbrev pub range_text : Range → List ℕ
range_text r = cond (int_lt r.high r.low) (codes "none") (ends_text r)

-- a range behind a space, where it is there
abbrev pub there_text : Option Range → List ℕ
there_text None = []
there_text (Some r) = codes " " ++ range_text r

-- a name behind a space, where there is one
abbrev pub spaced : List ℕ → List ℕ
spaced name = cond (length name == 0) [] (codes " " ++ name)

-- operation i in short: its number, its kind, and the variable that it reads or writes, where it does
abbrev pub short_text : Lists → ℕ → Op → List ℕ
short_text g i op = decimal i ++ (codes " " ++ (kind_name op.kind ++ spaced (variable_of g op)))

-- operation i as tables name it: the same, with its place in the source and the turns round it
abbrev pub operation_name : Lists → ℕ → Op → List ℕ
operation_name g i op = codes "operation " ++ (short_text g i op ++ source_text g op)

-- what an operation reads as operation n, where it is there, in short and with its range, behind a word
abbrev pub read_text : Lists → List Range → ℕ → List ℕ → Option Op → List ℕ
read_text g known n word None = []
read_text g known n word (Some op) = word ++ (short_text g n op ++ there_text (slice_get known n))

-- the same of operand j, where the kind has one
abbrev pub operand_text : Lists → List Range → Kind → ℕ → ℕ → List ℕ → List ℕ
operand_text g known k j n word = cond (nat_lt j (operands k)) (read_text g known n word (slice_get g.operations n)) []

-- what an operation reads as its first two operands
abbrev pub operands_text : Lists → List Range → Op → List ℕ
operands_text g known op = operand_text g known op.kind 0 op.a (codes " of ") ++ operand_text g known op.kind 1 op.b (codes " and ")

-- operation i may stop, and why: with the ranges of what it reads
abbrev pub named_text : Lists → List Range → ℕ → Op → StopKind → List ℕ
named_text g known i op why =
    operation_name g i op ++ (codes " " ++ (stop_name why ++ (operands_text g known op ++ codes "\n")))

-- operation i, with the range of its values
abbrev pub known_text : Lists → List Range → ℕ → Op → List ℕ
known_text g known i op = operation_name g i op ++ (there_text (slice_get known i) ++ codes "\n")

-- a variable with its type and the range of operation n, which gives its values
abbrev pub variable_text : List Range → List ℕ → Ty → ℕ → List ℕ
variable_text known name t n = name ++ (codes " " ++ (ty_name t ++ (there_text (slice_get known n) ++ codes "\n")))

-- output i, where it is there: the values that are given
abbrev pub output_text : Lists → List Range → ℕ → Option Outlet → List ℕ
output_text g known i None = []
output_text g known i (Some o) = variable_text known (output_name g i) o.ty o.op

-- the first n outputs
abbrev pub outputs_text : Lists → List Range → ℕ → List ℕ
outputs_text g known zero = []
outputs_text g known (suc i) = outputs_text g known i ++ output_text g known i (slice_get g.outputs i)

-- cell k, where it is there: the values with which a cycle begins
abbrev pub cell_text : Lists → List Range → ℕ → Option Cell → List ℕ
cell_text g known k None = []
cell_text g known k (Some c) = variable_text known (cell_name g k) c.ty c.load

-- the first n cells
abbrev pub cells_text : Lists → List Range → ℕ → List ℕ
cells_text g known zero = []
cells_text g known (suc k) = cells_text g known k ++ cell_text g known k (slice_get (cells g) k)

-- all outputs, and then all variables that are kept
abbrev pub variables_text : Lists → List Range → List ℕ
variables_text g known = outputs_text g known (length g.outputs) ++ cells_text g known (length (cells g))

-- the lines of operation i: its range, where all are told, and each way in which it may stop
abbrev pub operation_text : Bool → Lists → List Range → ℕ → Op → Stops → List ℕ
operation_text all g known i op s =
    cond all (known_text g known i op) []
    ++ (cond s.range (named_text g known i op stop.Range) [] ++ cond s.div_zero (named_text g known i op stop.DivZero) [])

-- the same, where it is there
abbrev pub lines_of : Bool → Lists → List Range → ℕ → Option Op → Option Stops → List ℕ
lines_of all g known i None s = []
lines_of all g known i (Some op) None = []
lines_of all g known i (Some op) (Some s) = operation_text all g known i op s

-- the lines of the operations below operation n, in order
abbrev pub lines_below : Bool → Lists → KnownRanges → ℕ → List ℕ
lines_below all g a zero = []
lines_below all g a (suc i) = lines_below all g a i ++ lines_of all g a.known i (slice_get g.operations i) (slice_get a.stops i)

-- by its kind and its types the operation can stop, whatever row there is
abbrev pub is_able : Option Op → Bool
is_able None = false
is_able (Some op) = not (is_input op.kind) && can_stop op.kind op.from op.ty

-- how many operations below operation n can
abbrev pub able_below : Lists → ℕ → ℕ
able_below g zero = 0
able_below g (suc i) = able_below g i + cond (is_able (slice_get g.operations i)) 1 0

-- how many operations may stop, of how many that can by their kinds and types
abbrev pub counts_text : ℕ → ℕ → List ℕ
counts_text named able = codes "may stop " ++ (decimal named ++ (codes " of " ++ decimal able))

-- the last line
abbrev pub sum_text : ℕ → ℕ → List ℕ
sum_text named able = counts_text named able ++ codes "\n"

-- the most operations of a graph in which it is searched closer for those that may stop
abbrev pub most_searched : ℕ
most_searched = 8192

-- a graph of more is told to be none of these
abbrev pub search_text : ℕ → List ℕ
search_text n = cond (nat_lt most_searched n) (codes "no search: more than 8192 operations\n") []

-- the whole text
abbrev pub ranges_text : Bool → Lists → KnownRanges → List ℕ
ranges_text all g a =
    cond all (variables_text g a.known) [] ++ (lines_below all g a (length g.operations)
    ++ (search_text (length g.operations) ++ sum_text (named_below a.stops (length g.operations)) (able_below g (length g.operations))))
