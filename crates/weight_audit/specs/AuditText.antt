-- AuditText: the lines of an audit.
use Rattle.std.specs.Prelude.{◌≡◌, ◌↔◌, ℕ, zero, suc, ◌+◌, ◌<◌, ◌≤◌, true, ◌==◌, ◌&&◌, cond, Bool, List, [], ◌++◌, length, Option, Some, None, slice_get}
use Rattle.op_graph.specs.declared.op.Op.{Op}
use Rattle.op_graph.specs.declared.op.Outlet.{Outlet}
use Rattle.op_graph.specs.Lists.{Lists}
use Rattle.weight_audit.specs.Audit.{Audit, weight_kept, reached_kept, IsAudit}
use Rattle.weight_audit.specs.Paths.{Blind}
use Rattle.weight_audit.specs.AuditLines.{reached_text, blind_text}
use Rattle.run_report.specs.Variables.{output_name}

-- whether a path leads from an operation to an output, after so many borders, and whether the operation is blind, by what is kept
abbrev pub is_reached : Audit → ℕ → ℕ → ℕ → Bool
is_reached a output after op = reached_kept a op output after

abbrev pub is_blind : Audit → ℕ → ℕ → ℕ → Bool
is_blind a output after op = reached_kept a op output after && weight_kept a op output after == 0

-- how many operations below operation n pass a test
abbrev pub count_below : (ℕ → Bool) → ℕ → ℕ
count_below test zero = 0
count_below test (suc op) = count_below test op + cond (test op) 1 0

-- the line of a blind operation that is there
abbrev pub line_of : ℕ → Option Op → List ℕ
line_of n None = []
line_of n (Some op) = blind_text n op.kind

abbrev pub line_if : Bool → Lists → ℕ → List ℕ
line_if blind g n = cond blind (line_of n (slice_get g.operations n)) []

-- the lines of those below operation n that pass a test, in order
abbrev pub lines_below : (ℕ → Bool) → Lists → ℕ → List ℕ
lines_below test g zero = []
lines_below test g (suc op) = lines_below test g op ++ line_if (test op) g op

-- for an output, after so many borders: how many operations are reached, how many are blind, and which
abbrev pub distance_text : Lists → Audit → ℕ → ℕ → List ℕ
distance_text g a output after =
    reached_text (output_name g output) after
    (count_below (is_reached a output after) (length g.operations)) (count_below (is_blind a output after) (length g.operations))
    ++ lines_below (is_blind a output after) g (length g.operations)

-- for an output, after each number of borders below this one, in order
abbrev pub distances_below : Lists → Audit → ℕ → ℕ → List ℕ
distances_below g a output zero = []
distances_below g a output (suc after) = distances_below g a output after ++ distance_text g a output after

-- for each output below output n, in order, after each number of borders up to the horizon
abbrev pub outputs_below : Lists → Audit → ℕ → ℕ → List ℕ
outputs_below g a horizon zero = []
outputs_below g a horizon (suc output) = outputs_below g a horizon output ++ distances_below g a output (horizon + 1)

-- the text of an audit, by what is kept
abbrev pub audit_text : Lists → Audit → ℕ → List ℕ
audit_text g a horizon = outputs_below g a horizon (length g.outputs)

-- the text of an audit of the graph up to a number of cycle borders
pub record AuditOf (g : Lists) (horizon : ℕ) (text : List ℕ) : Type 0 where
  pub audit : Audit
  pub is : IsAudit g horizon audit
  pub told : text ≡ audit_text g audit horizon

-- what an audit of the graph tells to be blind is: paths lead from it to the output, and its weight is 0
abbrev pub TellsBlind : Lists → ℕ → Audit → Type 0
TellsBlind g horizon a =
    (op output after : ℕ) (o : Outlet) → op < length g.operations → slice_get g.outputs output ≡ Some o → after ≤ horizon →
    (is_blind a output after op ≡ true) ↔ Blind g o.op after op
