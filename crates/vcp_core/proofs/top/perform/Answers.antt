use Rattle.vcp_core.proofs.top.perform.Goals as goal

pub returns-in-Source : goal.returns-in-Source
returns-in-Source g c = rw c.in-Source.is (c.source_command.ensures (g.U.Unit.seen c.args.unit.now))

pub returns-in-Format : goal.returns-in-Format
returns-in-Format g c = rw c.in-Format.is (c.format_command.ensures (g.U.Unit.seen c.args.unit.now))

pub returns-in-ProgramRows : goal.returns-in-ProgramRows
returns-in-ProgramRows g c = rw c.in-ProgramRows.is c.program_run_command.ensures

pub returns-in-Image : goal.returns-in-Image
returns-in-Image g c = rw c.in-Image.is (c.image_command.ensures (g.U.Unit.seen c.args.unit.now))

pub returns-in-ImageRows : goal.returns-in-ImageRows
returns-in-ImageRows g c = rw c.in-ImageRows.is c.image_run_command.ensures

pub returns-in-Wire : goal.returns-in-Wire
returns-in-Wire g c = rw c.in-Wire.is c.wire_command.ensures

pub returns-in-Demo : goal.returns-in-Demo
returns-in-Demo g c =
    rw c.in-Demo.is (c.demo_command.ensures (g.F.Files.seen c.args.files.now))
