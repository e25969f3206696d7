use Rattle.std.proofs.Common.{◌++◌, append_assoc, codes, decimal, sym}
use Rattle.vcp_base.specs.Spellings.{kind_name}
use Rattle.run_report.specs.Variables.{variable_of}
use Rattle.range_audit.specs.RangeText.{spaced}
use Rattle.vcp_outside.specs.Pens.{and_then, same}
use Rattle.range_audit.proofs.report.lines.then_short.Goals as goal

pub returns : goal.returns
returns g c =
    let op = c.args.op.now in
    let kind = rw c.kind_name.ensures at c.texts-pen.ensures in
    same (and_then c.numbered.ensures (and_then kind (rw c.variable_of.ensures at c.then_spaced.ensures)))
    (sym (append_assoc c.args.word.now (decimal c.args.i) (codes " " ++ (kind_name op.kind ++ spaced (variable_of c.args.graph.now op)))))
