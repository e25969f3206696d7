use Rattle.std.proofs.Common.{map}
use Rattle.std.proofs.lemmas.Result.{err_from_is_err_and}
use Rattle.vcp_base.specs.declared.columns.Column.{Column}
use Rattle.vcp_core.proofs.Traced.{words-cut, released-on, ended-on, not-released}
use Rattle.vcp_core.proofs.tracing.EachWordPrintedNoRows.print_last.Goals as goal

pub returns-in_err-print_words : goal.returns-in_err-print_words
returns-in_err-print_words g c =
    let q = err_from_is_err_and c.from_residual.result c.from_residual.ensures.1 in
    rw q.1 (words-cut c.args.machine.now (map (λ (x : Column). x.name) c.args.outputs.now) c.args.self.now.cycle (g.O.Sink.seen c.args.out.now)
    (g.O.Sink.seen c.print_words.new.out) (g.O.Sink.seen c.args.out.now) c.args.end.now c.in_err-print_words.field-0.0 c.in_err-print_words.ensures)

pub returns-in-Released : goal.returns-in-Released
returns-in-Released g c =
    rw (c.in-Released.is, c.line_ended.ensures)
    (released-on c.args.machine.now (map (λ (x : Column). x.name) c.args.outputs.now) c.args.self.now.cycle (g.O.Sink.seen c.args.out.now)
    (g.O.Sink.seen c.print_words.new.out) (g.O.Sink.seen c.write_all.new.sink) c.write_all.result c.in_ok-print_words.ensures c.write_all.ensures)

pub returns-in-Stopped : goal.returns-in-Stopped
returns-in-Stopped g c =
    ended-on c.args.machine.now (map (λ (x : Column). x.name) c.args.outputs.now) c.args.self.now.cycle (g.O.Sink.seen c.args.out.now)
    (g.O.Sink.seen c.print_words.new.out) (g.O.Sink.seen c.print_end.new.out) c.args.end.now c.print_end.result
    (not-released c.args.end.now c.in-Stopped.is) c.requires.there c.in_ok-print_words.ensures
    (rw (c.graph.ensures, c.cycles.ensures.value) at c.print_end.ensures)
