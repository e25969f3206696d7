use Rattle.std.proofs.Common.{◌≡◌, refl, subst, ap, ◌∙◌, map, None, Ok}
use Rattle.vcp_base.specs.declared.columns.Column.{Column}
use Rattle.std.specs.Io.KnownBytes.{Appends}
use Rattle.vcp_outside.specs.Written.{AppendsPart}
use Rattle.run_report.specs.Lines.{header_text, row_text}
use Rattle.coded_machine.specs.Moments.{moment}
use Rattle.coded_machine.specs.RowRuns.{texts_from}
use Rattle.coded_machine.specs.declared.rows.fault.RunFault.TheVariants as fault
use Rattle.pair_channel.specs.declared.pair_end.PairEnd.TheVariants as pair
use Rattle.pair_channel.specs.PairLines.{pair_header, pair_last}
use Rattle.pair_channel.specs.PairMoments.{pair_moment}
use Rattle.pair_channel.proofs.Done.{Fair, nothing_done, header_cut, rows_cut, last_cut, ended}
use Rattle.pair_channel.proofs.Ended.{same_end, no_end}
use Rattle.pair_channel.proofs.Last.{stop_told}
use Rattle.pair_channel.proofs.run.print_run.Goals as goal

pub returns-in-Err : goal.returns-in-Err
returns-in-Err g c =
    let graph = c.args.graph.now in
    let t = c.args.pair.now.first.table in
    let u = c.args.pair.now.second.table in
    let left = g.S.RowReader.left c.args.rows.now in
    let one = g.U.Unit.seen c.args.first.now in
    let two = g.V.Unit.seen c.args.second.now in
    let a = g.O.Sink.seen c.args.out.now in
    let before = pair_moment one two a in
    record {
      ran = nothing_done c.pairs_follow_their_answers.ensures graph t u left before;
      stayed = λ other. refl;
      stopped = λ op why h. absurd (no_end _ _ _ refl h);
    }

pub returns-in-Err-header_line : goal.returns-in-Err-header_line
returns-in-Err-header_line g c =
    let graph = c.args.graph.now in
    let t = c.args.pair.now.first.table in
    let u = c.args.pair.now.second.table in
    let left = g.S.RowReader.left c.args.rows.now in
    let one = g.U.Unit.seen c.args.first.now in
    let two = g.V.Unit.seen c.args.second.now in
    let a = g.O.Sink.seen c.args.out.now in
    let before = pair_moment one two a in
    let h = g.O.Sink.seen c.header_line.new.out in
    let headed = pair_moment one two h in
    let w = c.in-Err-header_line.ensures in
    let part = subst (λ ns. AppendsPart a.written h.written (header_text (map (λ (x : Column). x.name) ns))) c.in-Ok.ensures w.part in
    record {
      ran = header_cut c.pairs_follow_their_answers.ensures graph t u left before headed refl refl part w.cause.failed;
      stayed = λ other. absurd (other refl);
      stopped = λ op why h. absurd (no_end _ _ _ refl h);
    }

pub returns : goal.returns
returns g c =
    let graph = c.args.graph.now in
    let t = c.args.pair.now.first.table in
    let u = c.args.pair.now.second.table in
    let left = g.S.RowReader.left c.args.rows.now in
    let one = g.U.Unit.seen c.args.first.now in
    let two = g.V.Unit.seen c.args.second.now in
    let a = g.O.Sink.seen c.args.out.now in
    let before = pair_moment one two a in
    let h = g.O.Sink.seen c.header_line.new.out in
    let headed = pair_moment one two h in
    let fair : Fair graph t u left = record {
      graph = c.len-rules.ensures.rules;
      first = c.requires.table;
      second = c.requires.other;
      few = c.requires.few;
    } in
    let r = g.O.Sink.seen c.run_rows.new.out in
    let ran = pair_moment (g.U.Unit.seen c.run_rows.new.first) (g.V.Unit.seen c.run_rows.new.second) r in
    let header : Appends a.written h.written (pair_header graph) =
    subst (λ ns. Appends a.written h.written (header_text (map (λ (x : Column). x.name) ns))) c.in-Ok.ensures c.in-Ok-header_line.ensures.whole in
    let later = c.in-Ok-header_line.ensures.cause.later in
    let n = c.run_rows.new.pair.cycles in
    let e = c.in-Err-run_rows.fault in
    let rows = c.in-Err-run_rows.ensures.rows in
    record {
      ran = rows_cut c.counts_bound_a_pair.ensures graph t u left fair before headed ran n refl refl header later e rows;
      stayed = λ other. rows.stayed other ∙ c.in-Ok-header_line.ensures.cause.stayed;
      stopped = λ op why h. absurd (no_end _ _ _ refl h);
    }

pub returns-in-Ok-run_rows : goal.returns-in-Ok-run_rows
returns-in-Ok-run_rows g c =
    let graph = c.args.graph.now in
    let t = c.args.pair.now.first.table in
    let u = c.args.pair.now.second.table in
    let left = g.S.RowReader.left c.args.rows.now in
    let one = g.U.Unit.seen c.args.first.now in
    let two = g.V.Unit.seen c.args.second.now in
    let a = g.O.Sink.seen c.args.out.now in
    let before = pair_moment one two a in
    let h = g.O.Sink.seen c.header_line.new.out in
    let headed = pair_moment one two h in
    let fair : Fair graph t u left = record {
      graph = c.len-rules.ensures.rules;
      first = c.requires.table;
      second = c.requires.other;
      few = c.requires.few;
    } in
    let r = g.O.Sink.seen c.run_rows.new.out in
    let ran = pair_moment (g.U.Unit.seen c.run_rows.new.first) (g.V.Unit.seen c.run_rows.new.second) r in
    let header : Appends a.written h.written (pair_header graph) =
    subst (λ ns. Appends a.written h.written (header_text (map (λ (x : Column). x.name) ns))) c.in-Ok.ensures c.in-Ok-header_line.ensures.whole in
    let later = c.in-Ok-header_line.ensures.cause.later in
    let n = c.run_rows.new.pair.cycles in
    let z = g.O.Sink.seen c.print_end.new.out in
    let e = c.in-Ok-run_rows.end in
    let rows = c.in-Ok-run_rows.ensures.rows in
    let w = c.in-Err-print_end.ensures in
    let part = subst (λ k. AppendsPart r.written z.written (pair_last graph k e None)) c.cycles.ensures.value w.part in
    record {
      ran = last_cut c.counts_bound_a_pair.ensures graph t u left fair before headed ran n refl refl header later e rows z part w.cause.failed;
      stayed = λ other. absurd (other refl);
      stopped = λ op why h. absurd (no_end _ _ _ refl h);
    }

pub returns-in-Ok-print_end : goal.returns-in-Ok-print_end
returns-in-Ok-print_end g c =
    let graph = c.args.graph.now in
    let t = c.args.pair.now.first.table in
    let u = c.args.pair.now.second.table in
    let left = g.S.RowReader.left c.args.rows.now in
    let one = g.U.Unit.seen c.args.first.now in
    let two = g.V.Unit.seen c.args.second.now in
    let a = g.O.Sink.seen c.args.out.now in
    let before = pair_moment one two a in
    let h = g.O.Sink.seen c.header_line.new.out in
    let headed = pair_moment one two h in
    let fair : Fair graph t u left = record {
      graph = c.len-rules.ensures.rules;
      first = c.requires.table;
      second = c.requires.other;
      few = c.requires.few;
    } in
    let r = g.O.Sink.seen c.run_rows.new.out in
    let ran = pair_moment (g.U.Unit.seen c.run_rows.new.first) (g.V.Unit.seen c.run_rows.new.second) r in
    let header : Appends a.written h.written (pair_header graph) =
    subst (λ ns. Appends a.written h.written (header_text (map (λ (x : Column). x.name) ns))) c.in-Ok.ensures c.in-Ok-header_line.ensures.whole in
    let later = c.in-Ok-header_line.ensures.cause.later in
    let n = c.run_rows.new.pair.cycles in
    let z = g.O.Sink.seen c.print_end.new.out in
    let e = c.in-Ok-run_rows.end in
    let rows = c.in-Ok-run_rows.ensures.rows in
    let whole = subst (λ k. Appends r.written z.written (pair_last graph k e None)) c.cycles.ensures.value c.in-Ok-print_end.ensures.whole in
    record {
      ran = ended c.counts_bound_a_pair.ensures graph t u left fair before headed ran n refl refl header later e rows z whole;
      stayed = λ other.
          c.in-Ok-print_end.ensures.cause.stayed
          ∙ (rows.stayed (λ x. no_end (Ok e) fault.Write e x refl) ∙ c.in-Ok-header_line.ensures.cause.stayed);
      stopped = λ op why is.
          let stopped : e ≡ pair.Stopped op why = same_end (Ok e) e (pair.Stopped op why) refl is in
          stop_told graph n op why e (moment one a) (moment (g.U.Unit.seen c.run_rows.new.first) z) h r (pair_header graph)
          (texts_from row_text 0 rows.outputs) stopped (c.in-Ok-run_rows.ensures.there e refl) header rows.ends.3 whole
          (c.in-Ok-run_rows.ensures.stopped op why (ap Ok stopped));
    }
