use Rattle.std.proofs.Common.{◌≡◌, arith, take, []}
use Rattle.std.proofs.lemmas.List.{take_all}
use Rattle.std.proofs.lemmas.List.Folds.{flat_map-map}
use Rattle.vcp_base.specs.declared.columns.Column.{Column}
use Rattle.vcp_outside.specs.Pens.{and_then, same, unmoved}
use Rattle.run_report.specs.Lines.{name_cell}
use Rattle.run_report.proofs.Texts.{flat_map-next}
use Rattle.run_report.proofs.lines.then_names.Goals as goal

pub names-init : goal.names-init
names-init g c = unmoved

pub names-preserved : goal.names-preserved
names-preserved g c =
    let named = rw c.bytes.ensures at c.texts-pen.ensures in
    same (and_then c.names.invariant named)
    (flat_map-next (λ (column : Column). name_cell column.name) [] c.args.names.now c.names.i c.at.result.now c.at.ensures)

pub returns : goal.returns
returns g c =
    let whole : take c.names.i c.args.names.now ≡ c.args.names.now = take_all c.names.i c.args.names.now (omega arith) in
    let all = rw whole at c.names.invariant in
    rw (flat_map-map name_cell (λ (column : Column). column.name) c.args.names.now) all
