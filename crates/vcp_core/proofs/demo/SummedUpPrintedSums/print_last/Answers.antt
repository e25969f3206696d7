use Rattle.std.proofs.Common.{map, refl, rules, w64}
use Rattle.std.specs.Int.{w128}
use mir.Val.{SFits}
use Rattle.std.proofs.Math.Facts.{to_z-of_z}
use Rattle.vcp_base.specs.declared.columns.Column.{Column}
use Rattle.coded_machine.specs.declared.cycle_end.CycleEnd.TheVariants as cycle
use Rattle.vcp_core.specs.declared.ending.Ending.TheVariants as ending
use Rattle.vcp_core.proofs.DemoRun.{ended-early}
use Rattle.vcp_core.proofs.JobRun.{prints-last}
use Rattle.vcp_core.proofs.Traced.{not-released}
use Rattle.vcp_core.proofs.demo.SummedUpPrintedSums.print_last.Goals as goal

pub returns-in-Released : goal.returns-in-Released
returns-in-Released g c =
    let last_fits : SFits w64 c.args.sums.now.last = search rules in
    let sum_fits : SFits w128 c.args.sums.now.sum = search rules in
    let w = rw (
      to_z-of_z {w = w64} {z = c.args.sums.now.last} last_fits,
      to_z-of_z {w = w128} {z = c.args.sums.now.sum} sum_fits,
      c.cycles-cycles.ensures.value,
    )
    at c.summary_line.ensures in
    rw (c.in-Released.is, c.line_ended.ensures)
    (prints-last _ c.args.machine.now.cycles c.args.machine.now.graph cycle.Released _ _ ending.Done c.summary_line.result w refl tt)

pub returns-in-Stopped : goal.returns-in-Stopped
returns-in-Stopped g c =
    ended-early c.args.machine.now (map (λ (x : Column). x.name) c.args.outputs.now) c.args.self.now.number _ _ c.args.end.now
    (g.O.Sink.seen c.args.out.now) (g.O.Sink.seen c.print_end.new.out) c.print_end.result
    (not-released c.args.end.now c.in-Stopped.is) c.requires.there (rw (c.graph.ensures, c.cycles-cycles.ensures.value) at c.print_end.ensures)
