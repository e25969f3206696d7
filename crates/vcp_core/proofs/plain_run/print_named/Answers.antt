use Rattle.std.proofs.Common.{◌≡◌, ◌≤◌, List, map, length, sym, ap, subst, ◌∙◌, refl, arith}
use Rattle.vcp_base.specs.Limits.{most_names}
use Rattle.vcp_base.specs.declared.columns.Column.{Column}
use Rattle.vcp_outside.specs.Counts.{Rose}
use Rattle.vcp_typed.specs.declared.slot.Slot.{Slot}
use Rattle.vcp_typed.specs.Checked.{IsChecked}
use Rattle.vcp_typed.specs.Fitting.{AreFit, input_types, output_columns, output_types}
use Rattle.st_plain.specs.Evaluator.{Evaluator}
use Rattle.flat_expr.specs.Told.{names_of}
use Rattle.vcp_core.proofs.PlainNames.{outputs-count, outputs-few}
use Rattle.vcp_core.proofs.PlainTurns.{header-first, header-fails, nothing-printed}
use Rattle.vcp_core.proofs.JobFacts.{memory_unwritten}
use Rattle.std.proofs.lemmas.List.{length-replicate}
use Rattle.vcp_core.proofs.plain_run.print_named.Goals as goal

named : (slots : List Slot) (columns : List Column) → columns ≡ output_columns slots
    → map (λ (c : Column). c.name) columns ≡ map (λ (c : Column). c.name) (output_columns slots)
named slots columns is = ap (map (λ (c : Column). c.name)) is

pub overflow_cast-len : goal.overflow_cast-len
overflow_cast-len g c =
    let few : length c.args.columns.now ≤ most_names = rw c.requires.columns (omega (arith, c.requires.checked.few, outputs-few c.args.program.now.slots)) in
    let count : c.len.result ≤ most_names = rw c.len.ensures few in
    record { fits = omega (arith, count) }

pub print_cycles-requires : goal.print_cycles-requires
print_cycles-requires g c =
    let new = c.in-Ok-new.ensures in
    record {
      going = ap (λ (e : Evaluator). e.stop) new;
      checked = subst (λ (e : Evaluator). IsChecked e.program) (sym new) c.requires.checked;
      fit = subst (λ (e : Evaluator). AreFit e.program.slots e.values) (sym new) (c.values_fit.ensures.initial c.args.program.now c.requires.checked);
      names = c.requires.names ∙ ap (λ (e : Evaluator). names_of e.program.slots) (sym new);
      types = c.requires.types ∙ ap (λ (e : Evaluator). input_types e.program.slots) (sym new);
      typed = c.requires.typed;
      few = c.requires.few;
      inputs = ap length c.in-Ok.ensures ∙ length-replicate _ _ ∙ c.width.ensures ∙ ap length c.requires.types
          ∙ ap (λ (e : Evaluator). length (input_types e.program.slots)) (sym new);
      outputs = ap length c.in-Ok-zeros.ensures ∙ length-replicate _ _ ∙ c.len.ensures ∙ ap length c.requires.columns ∙ outputs-count c.args.program.now.slots
          ∙ ap (λ (e : Evaluator). length (output_types e.program.slots)) (sym new);
    }

pub returns-in-Ok-new : goal.returns-in-Ok-new
returns-in-Ok-new g c =
    let names = named c.args.program.now.slots c.args.columns.now c.requires.columns in
    record {
      prints = header-fails c.args.program.now c.args.rows.now (g.O.Sink.seen c.args.out.now).written (g.O.Sink.seen c.header_line.new.out).written
          (rw names at c.in-Err-header_line.ensures.part);
      write = λ e. c.in-Err-header_line.ensures.cause.failed;
      stayed = λ other. absurd (other refl);
    }

pub returns-in-Ok-header_line : goal.returns-in-Ok-header_line
returns-in-Ok-header_line g c =
    let names = named c.args.program.now.slots c.args.columns.now c.requires.columns in
    let said = c.in-Ok-header_line.ensures in
    record {
      prints = header-first c.args.program.now c.args.rows.now (g.O.Sink.seen c.args.out.now).written (g.O.Sink.seen c.header_line.new.out).written
          (g.O.Sink.seen c.print_cycles.new.out).written c.print_cycles.result (rw names at said.whole)
          (rw c.in-Ok-new.ensures at c.print_cycles.ensures.prints);
      write = λ e. subst (λ n. Rose n (g.O.Sink.seen c.print_cycles.new.out).faults) said.cause.stayed (c.print_cycles.ensures.write e);
      stayed = λ other. c.print_cycles.ensures.stayed other ∙ said.cause.stayed;
    }

-- ---- memory is wanted

pub returns-in-Err : goal.returns-in-Err
returns-in-Err g c = record { prints = nothing-printed c.args.program.now c.args.rows.now _; write = λ e. absurd (memory_unwritten e); stayed = λ other. refl }

pub returns-in-Err-zeros : goal.returns-in-Err-zeros
returns-in-Err-zeros g c = record { prints = nothing-printed c.args.program.now c.args.rows.now _; write = λ e. absurd (memory_unwritten e); stayed = λ other. refl }

pub returns : goal.returns
returns g c = record { prints = nothing-printed c.args.program.now c.args.rows.now _; write = λ e. absurd (memory_unwritten e); stayed = λ other. refl }
