use Rattle.std.proofs.Common.{◌≢◌, ◌∙◌, ap, subst, ℕ, Option, IfSome}
use Rattle.vcp_inputs.specs.Forms.{image_run, rows_of, IsSound}
use Rattle.vcp_inputs.specs.declared.words.command.ImageRun.{ImageRun}
use Rattle.vcp_core.specs.ImagesRead.{second_of}
use Rattle.vcp_core.proofs.ImagesRead.{reads_run, run_few, seed_in_range, single_in_range}
use Rattle.vcp_core.proofs.image_run.image_run_command.Goals as goal

pub load_image_rows-requires : goal.load_image_rows-requires
load_image_rows-requires g c = record { few = run_few c.args.image.now (rows_of c.args.rows) c.args.run c.requires.sound }

pub run_image-requires : goal.run_image-requires
run_image-requires g c = record {
  fit = c.in-Ok.ensures.fit;
  range = single_in_range c.args.image.now (rows_of c.args.rows) c.in-Single.single
      (subst (λ (r : ImageRun). IsSound (image_run c.args.image.now (rows_of c.args.rows) r)) c.in-Single.is c.requires.sound);
  apart = subst (λ (o : Option ℕ). IfSome o (λ seed. seed ≢ c.in-Ok.loaded.image.table.seed)) (c.second_of.ensures ∙ ap second_of c.in-Single.is)
      c.in-Ok.ensures.apart;
}

pub judge_image-requires : goal.judge_image-requires
judge_image-requires g c = record {
  fit = c.in-Ok.ensures.fit;
  seed = seed_in_range c.args.image.now (rows_of c.args.rows) c.in-Faults.second c.in-Faults.script.now
      (subst (λ (r : ImageRun). IsSound (image_run c.args.image.now (rows_of c.args.rows) r)) c.in-Faults.is c.requires.sound);
  apart = subst (λ (o : Option ℕ). IfSome o (λ seed. seed ≢ c.in-Ok.loaded.image.table.seed)) (c.second_of.ensures ∙ ap second_of c.in-Faults.is)
      c.in-Ok.ensures.apart;
}

pub returns-in-Err : goal.returns-in-Err
returns-in-Err g c =
    let m = c.args.image.now in
    let rows = rows_of c.args.rows in
    c.in-Err.ensures.unread (image_run m rows c.args.run) _ (rw c.second_of.ensures (reads_run m rows c.args.run))

pub returns-in-Single : goal.returns-in-Single
returns-in-Single g c = rw c.in-Single.is (c.run_image.ensures _ c.args.image.now (g.F.Files.seen c.args.files.now) c.in-Ok.ensures.read)

pub returns : goal.returns
returns g c = rw c.in-Faults.is (c.judge_image.ensures c.args.image.now (g.F.Files.seen c.args.files.now) c.in-Ok.ensures.read)
