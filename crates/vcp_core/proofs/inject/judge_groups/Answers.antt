use Rattle.std.proofs.Common.{◌≢◌, ◌≤◌, ◌∙◌, ap, refl, subst, sym, []}
use Rattle.vcp_base.specs.Limits.{most_step}
use Rattle.signature_table.specs.Signatures.{Numbers}
use Rattle.fault_injector.specs.GroupLines.{group_text}
use Rattle.vcp_core.proofs.ImageLoaded.{table-is-of}
use Rattle.vcp_core.proofs.Facts.{none_before}
use Rattle.vcp_core.proofs.JudgedTasks.{campaign_unwritten, no_lines_written}
use Rattle.vcp_core.proofs.inject.judge_groups.Goals as goal

-- ---- one channel

pub run_campaign-requires-clause-table : goal.run_campaign-requires-clause-table
run_campaign-requires-clause-table g c = table-is-of c.args.image.now.table c.args.image.now.graph c.requires.table

pub returns-in-None : goal.returns-in-None
returns-in-None g c = record {
  told = rw c.in-None.is c.run_campaign.ensures.told;
  write = c.run_campaign.ensures.write;
  stayed = c.run_campaign.ensures.stayed;
}

-- ---- two channels

pub new-requires : goal.new-requires
new-requires g c =
    let is = sym c.step.ensures.value in
    record {
      seed = rw c.in-Some.is at c.requires.seed;
      step_from = subst (λ n. 1 ≤ n) is c.step.ensures.ranges.step_from;
      step_to = subst (λ n. n ≤ most_step) is c.step.ensures.ranges.step_to;
    }

pub run_pairs-requires-clause-table : goal.run_pairs-requires-clause-table
run_pairs-requires-clause-table g c = table-is-of c.args.image.now.table c.args.image.now.graph c.requires.table

pub run_pairs-requires-clause-seeds : goal.run_pairs-requires-clause-seeds
run_pairs-requires-clause-seeds g c =
    let apart : c.in-Some.seed ≢ c.args.image.now.table.seed = rw c.in-Some.is at c.requires.apart in
    λ same. apart (sym (same ∙ ap (λ (t : Numbers). t.seed) c.in-Ok.ensures.numbers))

pub returns-in-Ok : goal.returns-in-Ok
returns-in-Ok g c = record {
  told = rw c.in-Some.is c.run_pairs.ensures.told;
  write = c.run_pairs.ensures.write;
  stayed = c.run_pairs.ensures.stayed;
}

-- memory is wanted before the first group
pub returns-in-Err : goal.returns-in-Err
returns-in-Err g c = record {
  told = rw c.in-Some.is (record {
    verdicts = [];
    few = none_before;
    ran = refl;
    right = λ h. refl;
    written = no_lines_written group_text c.args.groups.now _;
  });
  write = λ e. absurd (campaign_unwritten e);
  stayed = λ other. refl;
}
