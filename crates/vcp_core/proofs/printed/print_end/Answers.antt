use Rattle.std.proofs.Common.{◌<◌, length, map, refl}
use Rattle.vcp_base.specs.declared.columns.Column.{Column}
use Rattle.coded_machine.specs.declared.cycle_end.CycleEnd.TheVariants as cycle
use Rattle.vcp_core.specs.declared.ending.Ending.TheVariants as ending
use Rattle.vcp_core.proofs.JobRun.{ends-at-stop, name-at, prints-last, stop-printed, stop-status}
use Rattle.vcp_core.proofs.printed.print_end.Goals as goal

pub returns-in-Released : goal.returns-in-Released
returns-in-Released g c =
    rw (c.in-Released.is, c.line_ended.ensures)
    (prints-last _ c.args.cycles c.args.graph.now cycle.Released _ _ ending.Done c.end_line.result c.end_line.ensures refl tt)

pub returns-in-Stopped : goal.returns-in-Stopped
returns-in-Stopped g c =
    let names = map (λ (x : Column). x.name) c.args.outputs.now in
    let there : c.in-Stopped.op < length c.args.graph.now.operations = rw c.in-Stopped.is at c.requires.there in
    rw (c.in-Stopped.is, c.line_ended-in-Stopped.ensures)
    (prints-last _ c.args.cycles c.args.graph.now (cycle.Stopped c.in-Stopped.op c.in-Stopped.kind) _ _ ending.Stopped c.graph_stop_line.result
    (stop-printed c.args.graph.now names c.args.cycles c.in-Stopped.kind _ _ _ _ _ c.in-Stopped.op there c.graph_stop_line.ensures)
    (stop-status c.args.graph.now c.in-Stopped.op c.in-Stopped.kind there)
    (ends-at-stop c.args.graph.now names c.args.cycles (cycle.Stopped c.in-Stopped.op c.in-Stopped.kind) there))

pub returns-in-Refused : goal.returns-in-Refused
returns-in-Refused g c =
    let name = name-at c.args.outputs.now c.in-Refused.output c.at.result.now c.at.ensures in
    rw (c.in-Refused.is, name, c.line_ended-in-Refused.ensures)
    (prints-last _ c.args.cycles c.args.graph.now (cycle.Refused c.in-Refused.output c.in-Refused.found c.in-Refused.expected) _ _ ending.Refused c.refused_line.result
    c.refused_line.ensures refl tt)
