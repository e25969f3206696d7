use Rattle.std.proofs.Common.{◌∙◌, ap, Err}
use Rattle.vcp_inputs.specs.Forms.{rows_of}
use Rattle.vcp_inputs.specs.Abouts.{about}
use Rattle.vcp_core.specs.Tasks.{TaskOf}
use Rattle.vcp_core.proofs.Facts.{if_some_same, no_error, same_error}
use Rattle.vcp_core.proofs.Performing.{files_wanted}
use Rattle.vcp_core.proofs.ProgramsRead.{rows_lost, some_files}
use Rattle.std.proofs.Math.Nat.{le_trans}
use Rattle.vcp_core.proofs.program_rows.load_program_rows.Goals as goal

-- memory is wanted
pub returns-in-Err : goal.returns-in-Err
returns-in-Err g c =
    let mid = g.F.Files.seen c.args.files.now in
    record {
      fit = tt;
      read = tt;
      unread = λ l p files read f here reads.
          files_wanted (about f) (TaskOf f) files mid (some_files p (rows_of c.args.rows) l f reads) read.held here read.faults;
    }

-- there is nothing of ROWS
pub returns : goal.returns
returns g c =
    let mid = g.F.Files.seen c.args.files.now in
    let later = g.F.Files.seen c.load_rows.new.files in
    let lost = c.in-Err-load_rows.ensures in
    record {
      fit = tt;
      read = tt;
      unread = λ l p files read f here reads.
          rw c.rows_name.ensures
          (rows_lost c.lists_are_told.ensures.columns p (rows_of c.args.rows) files mid later c.args.program c.in-Ok.columns c.in-Ok.ensures.columns
          c.load_rows.ensures.held here c.in-Err-load_rows.input lost.loads (λ is. lost.begun (ap Err is)) (λ is. lost.unread (ap Err is))
          (λ no. lost.stayed (λ e. no (same_error e))) (λ r is other. lost.whole r (ap Err is) other) (λ is. lost.long (ap Err is)) lost.caused
          l f reads read);
    }

-- they were read
pub returns-in-Ok-load_rows : goal.returns-in-Ok-load_rows
returns-in-Ok-load_rows g c =
    let rows = c.in-Ok-load_rows.ensures in
    record {
      fit = record { columns = c.in-Ok.ensures.columns; few = rows.few; narrow = c.in-Ok.ensures.few };
      read = λ l p files read. record {
        file = record {
          loads = read.loads;
          ended = rows.ended read.ended;
          faults = rows.stayed no_error ∙ read.faults;
          broken = le_trans read.broken c.load_rows.ensures.broken_later;
          held = c.load_rows.ensures.held ∙ read.held;
        };
        rows_are = if_some_same files.held (g.F.Files.seen c.args.files.now).held _ read.held rows.loads;
      };
      unread = tt;
    }
