use Rattle.std.proofs.Common.{ap, Err}
use Rattle.vcp_base.specs.Limits.{most_image_bytes}
use Rattle.vcp_inputs.specs.Files.{Loads}
use Rattle.vcp_inputs.specs.Images.{ImageOf, NotImage}
use Rattle.vcp_study_core.proofs.Carrying.{goes_on, loaded, lost, not_loaded}
use Rattle.vcp_study_core.proofs.studies.image_command.Goals as goal

pub returns-in-Ok : goal.returns-in-Ok
returns-in-Ok g c =
    let before = g.F.Files.seen c.args.files.now in
    let after = g.F.Files.seen c.load_image.new.files in
    let e = c.in-Ok.ensures in
    let f = loaded (λ h b n r. Loads ImageOf NotImage h c.args.name.now most_image_bytes b n r) c.args.name.now before after c.in-Ok.image e.loads e.ended
    e.held e.later e.broken_later in
    goes_on f (c.study_image.ensures f.ends)

pub returns-in-Err : goal.returns-in-Err
returns-in-Err g c =
    let before = g.F.Files.seen c.args.files.now in
    let after = g.F.Files.seen c.load_image.new.files in
    let e = c.in-Err.ensures in
    let f = not_loaded (λ h b n r. Loads ImageOf NotImage h c.args.name.now most_image_bytes b n r) c.args.name.now before after c.in-Err.input e.loads
    (λ is. e.unread (ap Err is)) e.held e.later e.broken_later in
    rw c.bytes.ensures (lost f)
