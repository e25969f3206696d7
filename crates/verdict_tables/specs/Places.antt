-- Places: how an operation is named: by its number, its kind, the variable that it reads or writes, and its place in the source.
use Rattle.std.specs.Prelude.{ℕ, List, [], ◌++◌, unsigned_abs, decimal, codes, Option, Some, None}
use Rattle.vcp_base.specs.declared.kind.Kind.{Kind}
use Rattle.vcp_base.specs.declared.kind.Kind.TheVariants as kind
use Rattle.vcp_base.specs.Spellings.{kind_name}
use Rattle.op_graph.specs.declared.op.Op.{Op}
use Rattle.op_graph.specs.Lists.{Lists}
use Rattle.run_report.specs.OperationLines.{source_text}
use Rattle.run_report.specs.Variables.{variable_name}

-- the variable of an operation behind a space: the input, the cell or the output of this number
abbrev pub variable_text : Lists → Kind → ℕ → List ℕ
variable_text g kind.Input n = codes " " ++ variable_name g kind.Input n
variable_text g kind.Load n = codes " " ++ variable_name g kind.Load n
variable_text g kind.Store n = codes " " ++ variable_name g kind.Store n
variable_text g kind.Out n = codes " " ++ variable_name g kind.Out n
variable_text g _ n = []

-- operation n, where it is there, with its place in the source and the turns round it
abbrev pub operation_text : Lists → ℕ → Option Op → List ℕ
operation_text g n None = []
operation_text g n (Some op) =
    codes "operation " ++ (decimal n ++ (codes " " ++ (kind_name op.kind ++ (variable_text g op.kind (unsigned_abs op.imm) ++ source_text g op))))
