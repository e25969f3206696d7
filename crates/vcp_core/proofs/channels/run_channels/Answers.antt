use Rattle.std.proofs.Common.{◌≡◌, inl, sym, ap, ◌∙◌, Ok}
use Rattle.signature_table.specs.Signatures.{Numbers}
use Rattle.vcp_core.specs.declared.ending.Ending.TheVariants as ending
use Rattle.vcp_core.specs.Tasks.{pair_job}
use Rattle.vcp_core.proofs.TwoChannels.{came_to_end, gave_up, wrote}
use Rattle.vcp_core.proofs.ImageLoaded.{table-is-of}
use Rattle.vcp_core.proofs.JobFacts.{failed-causes, memory-causes}
use Rattle.vcp_core.proofs.Performing.{still}
use Rattle.vcp_core.proofs.Facts.{no_error, same_error, same_value}
use Rattle.vcp_core.proofs.channels.run_channels.Goals as goal

pub run_beside-requires-clause-table : goal.run_beside-requires-clause-table
run_beside-requires-clause-table g c = table-is-of c.args.image.now.table c.args.image.now.graph c.requires.table

pub run_beside-requires-clause-seeds : goal.run_beside-requires-clause-seeds
run_beside-requires-clause-seeds g c = λ same. c.requires.apart (sym (same ∙ ap (λ (t : Numbers). t.seed) c.in-Ok.ensures.numbers))

-- ---- memory was wanted, or the run was given up

pub returns-in-Err : goal.returns-in-Err
returns-in-Err g c = record { ran = λ name. inl (still _); causes = memory-causes _ }

pub returns : goal.returns
returns g c =
    let gone = c.in-Err-run_beside in
    record {
      ran = λ name. gave_up (pair_job name c.args.image.now c.args.rows.now) _ _ gone.fault c.requires.behind gone.ensures.ran;
      causes =
          failed-causes _ _ gone.fault (wrote c.args.image.now.graph c.args.image.now.table c.args.rows.now _ _ gone.fault gone.ensures.ran)
          (λ no. gone.ensures.stayed (λ e. no (same_error e)));
    }

-- ---- it came to its end

pub returns-in-Ok-run_beside : goal.returns-in-Ok-run_beside
returns-in-Ok-run_beside g c =
    let came = c.in-Ok-run_beside in
    record {
      ran = λ name.
          came_to_end (pair_job name c.args.image.now c.args.rows.now) _ _ came.last c.ending_of.result c.ending_of.ensures.status came.ensures.ran;
      causes = record {
        write = λ is. absurd (no_error is);
        refused = λ is.
            let same : c.ending_of.result ≡ ending.Refused = same_value is in
            came.ensures.ran.0.rose (c.ending_of.ensures.refused same);
        stopped = λ is.
            let same : c.ending_of.result ≡ ending.Stopped = same_value is in
            let (op, why, last) = c.ending_of.ensures.stopped same in
            (op, why, came.ensures.stopped op why (ap Ok last));
        stayed = λ no. came.ensures.stayed no_error;
      };
    }
