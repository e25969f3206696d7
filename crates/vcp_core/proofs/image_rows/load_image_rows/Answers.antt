use Rattle.std.proofs.Common.{◌∙◌, ap, Err}
use Rattle.vcp_inputs.specs.Forms.{rows_of}
use Rattle.vcp_base.specs.Limits.{most_image_bytes}
use Rattle.vcp_inputs.specs.Images.{ImageOf, NotImage}
use Rattle.vcp_core.specs.Loading.{FirstRead}
use Rattle.vcp_core.proofs.Facts.{if_some_same, no_error, same_error}
use Rattle.vcp_core.proofs.ImagesRead.{columns_lost, image_lost, rows_lost, seed_lost}
use Rattle.std.proofs.Math.Nat.{le_trans}
use Rattle.vcp_core.proofs.image_rows.load_image_rows.Goals as goal

-- ---- there is nothing of M, the seeds are one, or memory is wanted

pub returns-in-Err : goal.returns-in-Err
returns-in-Err g c =
    let files = g.F.Files.seen c.args.files.now in
    let mid = g.F.Files.seen c.load_image.new.files in
    let lost = c.in-Err.ensures in
    record {
      fit = tt;
      read = tt;
      apart = tt;
      unread = λ f here reads.
          rw c.bytes.ensures
          (image_lost c.args.image.now (rows_of c.args.rows) files mid here c.load_image.ensures.held c.in-Err.input lost.loads
          (λ r is. lost.whole r (ap Err is)) (λ is. lost.left (ap Err is)) (λ is. lost.unread (ap Err is))
          (λ no. lost.stayed (λ e. no (same_error e))) lost.caused c.args.second f reads);
    }

pub returns-then-has_seed : goal.returns-then-has_seed
returns-then-has_seed g c =
    let files = g.F.Files.seen c.args.files.now in
    let mid = g.F.Files.seen c.load_image.new.files in
    let read : FirstRead ImageOf NotImage most_image_bytes c.args.image.now files mid c.in-Ok.loaded = record {
      loads = c.in-Ok.ensures.loads;
      ended = c.in-Ok.ensures.ended;
      faults = c.in-Ok.ensures.stayed no_error;
      broken = c.load_image.ensures.broken_later;
      held = c.load_image.ensures.held;
    } in
    record {
      fit = tt;
      read = tt;
      apart = tt;
      unread = λ f here reads.
          rw c.bytes-then-has_seed.ensures
          (seed_lost c.args.image.now (rows_of c.args.rows) files mid here c.load_image.ensures.held c.in-Ok.loaded read c.args.second f reads
          (c.has_seed.ensures.has c.if-has_seed.true));
    }

pub returns-in-Err-graph_columns : goal.returns-in-Err-graph_columns
returns-in-Err-graph_columns g c =
    let files = g.F.Files.seen c.args.files.now in
    let mid = g.F.Files.seen c.load_image.new.files in
    record {
      fit = tt;
      read = tt;
      apart = tt;
      unread = λ f here reads.
          columns_lost c.args.image.now (rows_of c.args.rows) files mid here c.load_image.ensures.held c.args.second f reads
          (c.in-Ok.ensures.stayed no_error);
    }

-- ---- there is nothing of ROWS

pub returns : goal.returns
returns g c =
    let files = g.F.Files.seen c.args.files.now in
    let mid = g.F.Files.seen c.load_image.new.files in
    let later = g.F.Files.seen c.load_rows.new.files in
    let lost = c.in-Err-load_rows.ensures in
    let read : FirstRead ImageOf NotImage most_image_bytes c.args.image.now files mid c.in-Ok.loaded = record {
      loads = c.in-Ok.ensures.loads;
      ended = c.in-Ok.ensures.ended;
      faults = c.in-Ok.ensures.stayed no_error;
      broken = c.load_image.ensures.broken_later;
      held = c.load_image.ensures.held;
    } in
    record {
      fit = tt;
      read = tt;
      apart = tt;
      unread = λ f here reads.
          rw c.rows_name.ensures
          (rows_lost c.args.image.now (rows_of c.args.rows) files mid later c.in-Ok.loaded c.in-Ok-graph_columns.columns
          c.in-Ok-graph_columns.ensures.columns read c.load_rows.ensures.held here c.in-Err-load_rows.input lost.loads
          (λ is. lost.begun (ap Err is)) (λ is. lost.unread (ap Err is)) (λ no. lost.stayed (λ e. no (same_error e)))
          (λ r is other. lost.whole r (ap Err is) other) (λ is. lost.long (ap Err is)) lost.caused c.args.second f reads
          (c.has_seed.ensures.has_not c.if-has_seed.false));
    }

-- ---- both are read

pub returns-in-Ok-load_rows : goal.returns-in-Ok-load_rows
returns-in-Ok-load_rows g c =
    let first = c.in-Ok.ensures in
    let rows = c.in-Ok-load_rows.ensures in
    record {
      fit = record {
        columns = c.in-Ok-graph_columns.ensures.columns;
        table = first.table;
        few = rows.few;
        narrow = c.in-Ok-graph_columns.ensures.few;
      };
      read = record {
        file = record {
          loads = first.loads;
          ended = rows.ended first.ended;
          faults = rows.stayed no_error ∙ first.stayed no_error;
          broken = le_trans c.load_image.ensures.broken_later c.load_rows.ensures.broken_later;
          held = c.load_rows.ensures.held ∙ c.load_image.ensures.held;
        };
        rows_are = if_some_same (g.F.Files.seen c.args.files.now).held (g.F.Files.seen c.load_image.new.files).held _ c.load_image.ensures.held rows.loads;
      };
      apart = c.has_seed.ensures.has_not c.if-has_seed.false;
      unread = tt;
    }
