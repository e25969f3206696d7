use Rattle.fault_cover.specs.Telling.{subject}
use Rattle.fault_cover.proofs.Covering.{all_small, body_said, lines_said, rows_said, shows_said, small_all}
use Rattle.vcp_outside.specs.Pens.{and_then, same}
use Rattle.fault_cover.proofs.writing.then_found.Goals as goal

pub returns : goal.returns
returns g c = λ stops survey is.
    let s = subject c.args.subject.now.graph.now c.args.subject.now.table.now c.args.subject.now.survey.now.horizon stops in
    same
    (and_then
    (and_then c.then_heading-pen.ensures
    (and_then (rw (rows_said c.args.counts.now is.covered is.counted_are is.are.few) at (c.then_class_rows-pen.ensures (all_small c.args.counts.now is.covered is.counted_are is.are.few)))
    (and_then c.then_heading-pen-2.ensures (c.then_delay_rows-pen.ensures is.covered is.counted_are is.are.few))))
    (and_then (c.then_showing-pen.ensures stops survey is.covered is.are (shows_said c.args.all.now is.covered is.all_is))
    (and_then (rw (lines_said s c.args.subject.now.survey.now c.args.classes.now is.covered c.args.lines.now survey is.are is.lines_are) at c.then_left-pen.ensures)
    (rw is.all_is at (c.then_totals.ensures (small_all c.args.all.now is.covered is.are.few is.all_is))))))
    (body_said c.args.subject.now.graph.now c.args.subject.now.survey.now.horizon is.covered)
