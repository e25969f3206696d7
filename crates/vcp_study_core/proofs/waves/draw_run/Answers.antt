use Rattle.std.proofs.Common.{false, refl, rules}
use borrow.Author.Tests.{tests}
use Rattle.vcp_study_core.specs.declared.fault.Fault.TheVariants as fault
use Rattle.vcp_study_core.specs.declared.fault.StudyRefusal.TheVariants as why
use Rattle.vcp_study_core.specs.TextFaults.{IsNoRun}
use Rattle.vcp_study_core.specs.Texts.{Waves, waves}
use Rattle.vcp_study_core.proofs.Carrying.{wrote}
use Rattle.vcp_study_core.proofs.TextFaults.{unrun}
use Rattle.vcp_study_core.proofs.waves.draw_run.Goals as goal

pub returns-in-Ok : goal.returns-in-Ok
returns-in-Ok g c =
    let w = c.write_waves.ensures in
    wrote (Waves c.args.period c.args.name.now c.args.text.now) _ _ w.0 false (waves c.in-Ok.recorded c.in-Ok.ensures.run (w.0, false, (w.1, refl), refl))
    c.write_waves.result w.2 c.told.result c.told.ensures.ok c.told.ensures.err

pub returns-in-Err-Memory : goal.returns-in-Err-Memory
returns-in-Err-Memory g c = unrun c.args.period c.args.name.now c.args.text.now (g.O.Sink.seen c.args.out.now) fault.Memory tt

pub returns-in-Err : goal.returns-in-Err
returns-in-Err g c =
    let refused = fault.Refused c.bytes.result (why.Run c.in-Err.why) in
    let no_run : IsNoRun c.args.name.now c.args.text.now refused = search (tests, rules) in
    unrun c.args.period c.args.name.now c.args.text.now (g.O.Sink.seen c.args.out.now) refused no_run
