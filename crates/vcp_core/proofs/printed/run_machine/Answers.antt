use Rattle.std.proofs.Common.{ℕ, ◌≡◌, List, length, None, Ok, refl, sym, ap, subst, ◌∙◌}
use Rattle.std.proofs.lemmas.List.{length-map}
use Rattle.std.specs.Io.KnownBytes.{Appends}
use Rattle.vcp_outside.specs.Written.{AppendsPart}
use Rattle.signature_table.specs.Signatures.{Numbers}
use Rattle.op_graph.specs.Lists.{Lists}
use Rattle.coded_machine.specs.Moments.{moment}
use Rattle.coded_machine.specs.declared.rows.fault.RunFault.TheVariants as given_up
use Rattle.vcp_inputs.specs.Reports.{end_read, run_status}
use Rattle.vcp_core.specs.declared.ending.Ending.TheVariants as ending
use Rattle.vcp_core.specs.MachineRun.{IsThere}
use Rattle.vcp_core.specs.Reach.{end_status}
use Rattle.vcp_core.specs.Shown.{job_of}
use Rattle.vcp_core.proofs.ImageLoaded.{corrections-long}
use Rattle.vcp_core.proofs.JobFacts.{first-rows, names-are, leaves-shown, there-is, stop-told, stopped-is, refused-is, failed-causes, rows-rose}
use Rattle.vcp_core.proofs.PrintedRun.{header-left, given-up-run, last-left, ended-run}
use Rattle.vcp_core.proofs.WordsRun.{answers-whole}
use Rattle.std.proofs.Math.Nat.{le_trans}
use Rattle.vcp_core.proofs.Facts.{no_error, rose_later, same_error, same_value}
use Rattle.vcp_core.proofs.printed.run_machine.Goals as goal

-- ---- the run came to its end

pub print_last-requires-clause-there : goal.print_last-requires-clause-there
print_last-requires-clause-there g c =
    let graph = c.args.machine.now.graph in
    let there = there-is c.args.machine.now graph c.in-Ok-run_rows.end (Ok c.in-Ok-run_rows.end) refl refl c.in-Ok-run_rows.ensures.placed c.in-Ok-run_rows.ensures.numbered in
    subst (λ h. IsThere h c.in-Ok-run_rows.end) (sym c.in-Ok-run_rows.ensures.leaves.machine.graph) there

pub print_last-requires-clause-outputs : goal.print_last-requires-clause-outputs
print_last-requires-clause-outputs g c =
    ap length c.requires.outputs ∙ length-map c.args.machine.now.graph.outputs _
    ∙ ap (λ (h : Lists). length h.outputs) (sym c.in-Ok-run_rows.ensures.leaves.machine.graph)

pub print_last-requires-clause-table : goal.print_last-requires-clause-table
print_last-requires-clause-table g c =
    let after = c.in-Ok-run_rows.ensures.leaves.machine in
    ap (λ (t : Numbers). length t.corrections) after.table ∙ corrections-long c.args.machine.now.table c.args.machine.now.graph c.requires.table
    ∙ ap (λ (h : Lists). length h.operations) (sym after.graph)

pub print_last-requires-clause-whole : goal.print_last-requires-clause-whole
print_last-requires-clause-whole g c =
    let leaves = c.in-Ok-run_rows.ensures.leaves in
    rw (leaves.machine.graph, leaves.machine.answers)
    (answers-whole c.args.machine.now.graph c.args.machine.now.table c.args.rows.now.rows leaves.run.cycles leaves.run.ends.0.all)

-- ---- causes

pub returns-in-Err-clause-causes : goal.returns-in-Err-clause-causes
returns-in-Err-clause-causes g c =
    (failed-causes _ _ given_up.Write (λ is. c.in-Err.ensures.cause.failed) (λ no. absurd (no refl)))

pub returns-in-Err-run_rows-clause-causes : goal.returns-in-Err-run_rows-clause-causes
returns-in-Err-run_rows-clause-causes g c =
    (failed-causes _ _ _ (λ is. rose_later c.in-Ok.ensures.cause.later (rows-rose _ _ _ _ _ _ _ c.in-Err-run_rows.ensures.leaves.run is))
    (λ no. c.in-Err-run_rows.ensures.stayed (λ e. no (same_error e)) ∙ c.in-Ok.ensures.cause.stayed))

pub returns-in-Err-print_last-clause-causes : goal.returns-in-Err-print_last-clause-causes
returns-in-Err-print_last-clause-causes g c =
    (failed-causes _ _ given_up.Write
    (λ is. rose_later (le_trans c.in-Ok.ensures.cause.later c.run_rows.ensures.later) c.in-Err-print_last.ensures.0) (λ no. absurd (no refl)))

pub returns-in-Ok-print_last-clause-causes : goal.returns-in-Ok-print_last-clause-causes
returns-in-Ok-print_last-clause-causes g c = record {
  write = λ is. absurd (no_error is);
  refused = λ is.
      let same : c.in-Ok-print_last.ending ≡ ending.Refused = same_value is in
      let (i, found, wanted, e) = refused-is c.run_rows.new.machine.graph c.in-Ok-run_rows.end (ap end_status (sym same) ∙ c.in-Ok-print_last.ensures.1) in
      c.in-Ok-run_rows.ensures.refused i found wanted (ap Ok e);
  stopped = λ is.
      let same : c.in-Ok-print_last.ending ≡ ending.Stopped = same_value is in
      let (k, why, e) = stopped-is c.run_rows.new.machine.graph c.in-Ok-run_rows.end (ap end_status (sym same) ∙ c.in-Ok-print_last.ensures.1) in (
        k,
        why,
        stop-told (moment (g.U.Unit.seen c.args.unit.now) (g.O.Sink.seen c.args.out.now))
            (moment (g.U.Unit.seen c.run_rows.new.unit) (g.O.Sink.seen c.print_last.new.out)) (g.O.Sink.seen c.print_first.new.out)
            (g.O.Sink.seen c.run_rows.new.out) _ _ _ c.run_rows.new.machine.cycles k why c.in-Ok-run_rows.end c.in-Ok.ensures.whole
            c.in-Ok-run_rows.ensures.leaves.run.ends.2 c.in-Ok-print_last.ensures.0 c.in-Ok-print_last.ensures.3 e
            (c.in-Ok-run_rows.ensures.stopped k why (ap Ok e)),
      );
  stayed = λ no. c.in-Ok-print_last.ensures.2 ∙ (c.in-Ok-run_rows.ensures.stayed no_error ∙ c.in-Ok.ensures.cause.stayed);
}

-- ---- how far the job's run came

pub returns-in-Err-clause-ran : goal.returns-in-Err-clause-ran
returns-in-Err-clause-ran g c s code name p words carries shows =
    let graph = c.args.machine.now.graph in
    let left = c.args.rows.now in
    let names = names-are graph c.args.machine.now.table left s code c.args.outputs.now carries c.requires.outputs in
    (header-left (job_of s code left name p words) graph carries.may carries.told shows.words_are
    (first-rows c.rows_before_a_wrong_answer_follow_the_graph.ensures graph c.args.machine.now.table _ left.rows
    c.requires.rules c.requires.ranges carries.numbers c.requires.few) (g.U.Unit.seen c.args.unit.now)
    (g.U.Unit.seen c.args.unit.now) _ _
    (rw (names, shows.first_is) at c.in-Err.ensures.part))

pub returns-in-Err-run_rows-clause-ran : goal.returns-in-Err-run_rows-clause-ran
returns-in-Err-run_rows-clause-ran g c s code name p words carries shows =
    let graph = c.args.machine.now.graph in
    let left = c.args.rows.now in
    let names = names-are graph c.args.machine.now.table left s code c.args.outputs.now carries c.requires.outputs in
    let leaves = leaves-shown _ graph _ _ left _ _ _ _ _ _ _ carries.numbers shows.row_is c.in-Err-run_rows.ensures.leaves in
    (given-up-run (job_of s code left name p words) graph carries.may carries.told shows.words_are
    (first-rows c.rows_before_a_wrong_answer_follow_the_graph.ensures graph c.args.machine.now.table _ left.rows
    c.requires.rules c.requires.ranges carries.numbers c.requires.few) (g.U.Unit.seen c.args.unit.now)
    (g.U.Unit.seen c.run_rows.new.unit) _ (g.O.Sink.seen c.args.out.now) (g.O.Sink.seen c.print_first.new.out) (g.O.Sink.seen c.run_rows.new.out)
    c.requires.behind
    (rw (names, shows.first_is) at c.in-Ok.ensures.whole) leaves.run)

pub returns-in-Err-print_last-clause-ran : goal.returns-in-Err-print_last-clause-ran
returns-in-Err-print_last-clause-ran g c s code name p words carries shows =
    let graph = c.args.machine.now.graph in
    let left = c.args.rows.now in
    let names = names-are graph c.args.machine.now.table left s code c.args.outputs.now carries c.requires.outputs in
    let leaves = leaves-shown _ graph _ _ left _ _ _ _ _ _ _ carries.numbers shows.row_is c.in-Ok-run_rows.ensures.leaves in
    let there = there-is c.args.machine.now graph c.in-Ok-run_rows.end (Ok c.in-Ok-run_rows.end) refl refl c.in-Ok-run_rows.ensures.placed c.in-Ok-run_rows.ensures.numbered in
    let last = shows.last_is c.run_rows.new.released leaves.run.cycles c.run_rows.new.machine c.in-Ok-run_rows.end
    (record { came = leaves.run.ends.0; all_taken = leaves.run.ends.1; machine = leaves.machine; keeps = leaves.kept; there = there }) in
    (last-left (job_of s code left name p words) graph carries.may carries.told shows.words_are
    (first-rows c.rows_before_a_wrong_answer_follow_the_graph.ensures graph c.args.machine.now.table _ left.rows
    c.requires.rules c.requires.ranges carries.numbers c.requires.few) (g.U.Unit.seen c.args.unit.now)
    (g.U.Unit.seen c.run_rows.new.unit) c.in-Ok-run_rows.end (g.O.Sink.seen c.args.out.now) (g.O.Sink.seen c.print_first.new.out)
    (g.O.Sink.seen c.run_rows.new.out) (g.O.Sink.seen c.print_last.new.out)
    (rw (names, shows.first_is) at c.in-Ok.ensures.whole) leaves.run there
    (subst (λ (l : List ℕ). AppendsPart (g.O.Sink.seen c.run_rows.new.out).written (g.O.Sink.seen c.print_last.new.out).written l) last
    (rw names at c.in-Err-print_last.ensures.1)))

pub returns-in-Ok-print_last-clause-ran : goal.returns-in-Ok-print_last-clause-ran
returns-in-Ok-print_last-clause-ran g c s code name p words carries shows =
    let graph = c.args.machine.now.graph in
    let left = c.args.rows.now in
    let names = names-are graph c.args.machine.now.table left s code c.args.outputs.now carries c.requires.outputs in
    let leaves = leaves-shown _ graph _ _ left _ _ _ _ _ _ _ carries.numbers shows.row_is c.in-Ok-run_rows.ensures.leaves in
    let there = there-is c.args.machine.now graph c.in-Ok-run_rows.end (Ok c.in-Ok-run_rows.end) refl refl c.in-Ok-run_rows.ensures.placed c.in-Ok-run_rows.ensures.numbered in
    let last = shows.last_is c.run_rows.new.released leaves.run.cycles c.run_rows.new.machine c.in-Ok-run_rows.end
    (record { came = leaves.run.ends.0; all_taken = leaves.run.ends.1; machine = leaves.machine; keeps = leaves.kept; there = there }) in
    ended-run (job_of s code left name p words) graph carries.may carries.told shows.words_are
    (first-rows c.rows_before_a_wrong_answer_follow_the_graph.ensures graph c.args.machine.now.table _ left.rows
    c.requires.rules c.requires.ranges carries.numbers c.requires.few) (g.U.Unit.seen c.args.unit.now)
    (g.U.Unit.seen c.run_rows.new.unit) c.in-Ok-run_rows.end (g.O.Sink.seen c.args.out.now) (g.O.Sink.seen c.print_first.new.out)
    (g.O.Sink.seen c.run_rows.new.out) (g.O.Sink.seen c.print_last.new.out)
    (rw (names, shows.first_is) at c.in-Ok.ensures.whole) leaves.run there c.in-Ok-print_last.ending
    (subst (λ (l : List ℕ). Appends (g.O.Sink.seen c.run_rows.new.out).written (g.O.Sink.seen c.print_last.new.out).written l) last
    (rw names at c.in-Ok-print_last.ensures.0))
    (c.in-Ok-print_last.ensures.1 ∙ ap (λ (h : Lists). run_status (end_read h c.in-Ok-run_rows.end) None) leaves.machine.graph)
