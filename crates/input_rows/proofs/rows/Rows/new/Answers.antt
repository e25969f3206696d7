use Rattle.std.proofs.Common.{rules}
use Rattle.csv.specs.Reading.{records, default_config, strip_bom}
use Rattle.input_rows.proofs.Sound.{of_records}
use Rattle.input_rows.proofs.rows.Rows.new.Goals as goal

pub returns-in-Ok : goal.returns-in-Ok
returns-in-Ok c =
    let sound = of_records c.args.columns.now (records default_config (strip_bom c.args.bytes.now)) c.in-Ok.table c.in-Ok.ensures.rows in
    record {
      rows = search rules;
      refusal = tt;
      types = sound.types;
      typed = sound.typed;
      few = sound.few;
      behind = sound.behind;
      fresh = sound.fresh;
    }
