use Rattle.std.proofs.Common.{ap, Err}
use Rattle.vcp_inputs.specs.Forms.{rows_of}
use Rattle.vcp_core.proofs.Facts.{no_error, same_error}
use Rattle.vcp_core.proofs.FaultRuns.{groups_judged, rows_lost, script_lost}
use Rattle.vcp_core.proofs.ImagesRead.{rows-width}
use Rattle.vcp_core.proofs.inject.judge_image.Goals as goal

-- ---- there is nothing of the rows, or of the script

pub returns-in-Err : goal.returns-in-Err
returns-in-Err g c m files read =
    rw c.rows_name.ensures
    (rows_lost m (rows_of c.args.rows) c.args.script.now files (g.F.Files.seen c.args.files.now) c.args.loaded.now c.requires.fit read c.args.second
    c.requires.apart _ c.in-Err.input c.in-Err.ensures.fault c.in-Err.ensures.caused)

pub returns-in-Err-load_script : goal.returns-in-Err-load_script
returns-in-Err-load_script g c m files read =
    let lost = c.in-Err-load_script.ensures in
    rw c.bytes.ensures
    (script_lost m (rows_of c.args.rows) c.args.script.now files (g.F.Files.seen c.args.files.now) c.args.loaded.now c.requires.fit read
    (g.F.Files.seen c.load_script.new.files) c.in-Err-load_script.input lost.loads (λ r is. lost.whole r (ap Err is)) (λ is. lost.left (ap Err is))
    (λ is. lost.unread (ap Err is)) (λ no. lost.stayed (λ e. no (same_error e))) c.load_script.ensures.held lost.caused c.args.second c.requires.apart _
    c.in-Ok.list c.in-Ok.ensures.rows)

-- ---- both are there

pub judge_groups-requires-clause-width : goal.judge_groups-requires-clause-width
judge_groups-requires-clause-width g c = rows-width c.args.loaded.now c.requires.fit c.in-Ok.list c.in-Ok.ensures.width

pub returns : goal.returns
returns g c m files read =
    let script = c.in-Ok-load_script.ensures in
    rw c.campaign_ended.ensures
    (groups_judged m (rows_of c.args.rows) c.args.script.now files (g.F.Files.seen c.args.files.now) c.args.loaded.now c.requires.fit read
    (g.F.Files.seen c.load_script.new.files) c.load_script.ensures.held script.ended (script.stayed no_error) c.in-Ok-load_script.groups script.loads
    (g.U.Unit.seen c.args.unit.now) (g.U.Unit.seen c.judge_groups.new.unit) (g.O.Sink.seen c.args.out.now) (g.O.Sink.seen c.judge_groups.new.out)
    c.judge_groups.result c.judge_groups.ensures.write c.judge_groups.ensures.stayed c.args.second c.requires.apart c.in-Ok.list c.in-Ok.ensures.rows
    c.judge_groups.ensures.told)
