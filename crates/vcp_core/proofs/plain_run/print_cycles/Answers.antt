use Rattle.std.proofs.Common.{◌≡◌, ℤ, suc, Result, Ok, Err, List, ◌∷◌, length, refl, sym, ap, subst, ◌∙◌, arith}
use Rattle.std.proofs.lemmas.Result.{err_from_is_err_and}
use Rattle.std.specs.Prelude.{All}
use Rattle.vcp_base.specs.Types.{AreIn}
use Rattle.vcp_typed.specs.Checked.{IsChecked}
use Rattle.vcp_typed.specs.Fitting.{AreFit, input_types, output_types}
use Rattle.vcp_typed.specs.SourceRun.{Program}
use Rattle.flat_expr.specs.Told.{names_of}
use Rattle.input_rows.specs.RowsOf.{RowsLeft}
use Rattle.coded_machine.specs.Refusals.{given_up_by}
use Rattle.coded_machine.specs.declared.rows.fault.RunFault.{RunFault}
use Rattle.vcp_core.specs.PlainRun.{PrintsFrom}
use Rattle.vcp_core.specs.declared.ending.Ending.{Ending}
use Rattle.vcp_core.specs.declared.ending.Ending.TheVariants as end
use Rattle.coded_machine.specs.declared.rows.fault.RunFault.TheVariants as fault
use Rattle.vcp_core.proofs.PlainTurns.{going-ends, going-on, fails-here, stops-here, end-fails, ends-here, refused-here, refused-unwritten}
use Rattle.std.proofs.Math.Nat.{le_trans}
use Rattle.vcp_core.proofs.Facts.{no_error, rose_later}
use Rattle.vcp_core.proofs.plain_run.print_cycles.Goals as goal

types-behind : (before left : RowsLeft) (row : List ℤ) → before ≡ record left { rows = row ∷ left.rows } → left.types ≡ before.types
types-behind before left row taken = sym (ap (λ (l : RowsLeft). l.types) taken)

rows-behind : (P : List ℤ → Type 0) (before left : RowsLeft) (row : List ℤ) → before ≡ record left { rows = row ∷ left.rows } → All P before.rows
    → All P left.rows
rows-behind P before left row taken h = λ k d below.
    let Q : RowsLeft → Type 0 = λ l. All P l.rows in
    let all : All P (row ∷ left.rows) = subst Q taken h in
    all (suc k) d (omega (arith, below))

row-taken : (P : List ℤ → Type 0) (before left : RowsLeft) (row : List ℤ) → before ≡ record left { rows = row ∷ left.rows } → All P before.rows → P row
row-taken P before left row taken h =
    let Q : RowsLeft → Type 0 = λ l. All P l.rows in
    let all : All P (row ∷ left.rows) = subst Q taken h in
    all 0 row (omega arith)

pub next-requires : goal.next-requires
next-requires g c = c.cycles.invariant.inputs ∙ ap length (sym c.cycles.invariant.types)

pub print_cycle-requires : goal.print_cycle-requires
print_cycle-requires g c =
    let now = sym c.cycles.invariant.program in
    record {
      going = c.cycles.invariant.stop;
      checked = subst IsChecked now c.requires.checked;
      fit = subst (λ (p : Program). AreFit p.slots c.cycles.plain.values) now c.cycles.invariant.fit;
      names = c.requires.names ∙ ap (λ (p : Program). names_of p.slots) now;
      row = subst (λ (p : Program). AreIn (input_types p.slots) c.next.new.out) now
          (row-taken (AreIn (input_types c.args.plain.now.program.slots)) c.cycles.rows c.next.new.self c.next.new.out
          (c.in_ok-next.ensures.row c.if-branch.true) c.cycles.invariant.typed);
      cells = c.cycles.invariant.outputs ∙ ap (λ (p : Program). length (output_types p.slots)) now;
    }

-- the next row is refused
pub returns-in_err-next : goal.returns-in_err-next
returns-in_err-next g c =
    let given = err_from_is_err_and c.from_residual.result c.from_residual.ensures.1 in
    let why = c.in_err-next.field-0.0 in
    let is : c.from_residual.result ≡ Err (given_up_by why) = given.1 ∙ ap Err given.2 in
    let p = c.args.plain.now.program in
    record {
      prints = subst (λ (r : Result Ending RunFault). PrintsFrom p 0 c.args.plain.now.values c.args.rows.now (g.O.Sink.seen c.args.out.now).written
          (g.O.Sink.seen c.cycles.out).written r) (sym is)
          (going-ends p c.args.plain.now.values c.args.rows.now (g.O.Sink.seen c.args.out.now).written (g.O.Sink.seen c.cycles.out).written
          (g.O.Sink.seen c.cycles.out).written c.cycles.count c.cycles.plain.values c.cycles.rows (Err (given_up_by why)) c.cycles.invariant.going
          (refused-here p c.cycles.count c.cycles.plain.values c.cycles.rows (g.O.Sink.seen c.cycles.out).written why c.in_err-next.ensures.refusal));
      write = λ e. absurd (refused-unwritten why _ is e);
      stayed = λ other. c.cycles.invariant.stayed;
    }

pub returns-in-Err : goal.returns-in-Err
returns-in-Err g c =
    let part = rw c.cycles.invariant.program at c.in-Err.ensures.line.part in
    record {
      prints =
          (going-ends c.args.plain.now.program c.args.plain.now.values c.args.rows.now (g.O.Sink.seen c.args.out.now).written (g.O.Sink.seen c.cycles.out).written
          (g.O.Sink.seen c.print_cycle.new.out).written c.cycles.count c.cycles.plain.values c.cycles.rows (Err fault.Write) c.cycles.invariant.going
          (fails-here c.args.plain.now.program c.cycles.count c.cycles.plain.values c.next.new.out c.cycles.rows c.next.new.self (g.O.Sink.seen c.cycles.out).written
          (g.O.Sink.seen c.print_cycle.new.out).written (c.in_ok-next.ensures.row c.if-branch.true) part));
      write = λ _. rose_later c.cycles.invariant.later c.in-Err.ensures.line.cause.failed;
      stayed = λ other. absurd (other refl);
    }

pub returns-in-Err-end_line : goal.returns-in-Err-end_line
returns-in-Err-end_line g c =
    let none = c.in_ok-next.ensures.end c.if-branch.false in
    record {
      prints =
          (going-ends c.args.plain.now.program c.args.plain.now.values c.args.rows.now (g.O.Sink.seen c.args.out.now).written (g.O.Sink.seen c.cycles.out).written
          (g.O.Sink.seen c.end_line.new.out).written c.cycles.count c.cycles.plain.values c.cycles.rows (Err fault.Write) c.cycles.invariant.going
          (end-fails c.args.plain.now.program c.cycles.count c.cycles.plain.values c.cycles.rows (g.O.Sink.seen c.cycles.out).written
          (g.O.Sink.seen c.end_line.new.out).written (record { rows = none.0; refusal_is = none.1 }) c.in-Err-end_line.ensures.part));
      write = λ _. rose_later c.cycles.invariant.later c.in-Err-end_line.ensures.cause.failed;
      stayed = λ other. absurd (other refl);
    }

pub cycles-preserved : goal.cycles-preserved
cycles-preserved g c =
    let taken = c.in_ok-next.ensures.row c.if-branch.true in
    let more = c.in-Ok-true.field-0-test in
    let here = c.in-Ok-true.ensures in
    let program : c.print_cycle.new.plain.program ≡ c.args.plain.now.program = here.program ∙ c.cycles.invariant.program in
    record {
      program = program;
      stop = here.going more;
      fit = rw c.cycles.invariant.program at (here.fit more);
      types = types-behind c.cycles.rows c.next.new.self c.next.new.out taken ∙ c.cycles.invariant.types;
      typed = rows-behind (AreIn (input_types c.args.plain.now.program.slots)) c.cycles.rows c.next.new.self c.next.new.out taken c.cycles.invariant.typed;
      inputs = c.next.ensures.width ∙ c.cycles.invariant.inputs;
      outputs = here.cells more ∙ c.cycles.invariant.outputs;
      later = le_trans c.cycles.invariant.later here.line.cause.later;
      stayed = here.line.cause.stayed ∙ c.cycles.invariant.stayed;
      going = going-on c.args.plain.now.program c.args.plain.now.values c.args.rows.now (g.O.Sink.seen c.args.out.now).written
          (g.O.Sink.seen c.cycles.out).written (g.O.Sink.seen c.print_cycle.new.out).written c.cycles.count c.cycles.plain.values
          c.print_cycle.new.plain.values c.next.new.out c.cycles.rows c.next.new.self c.cycles.invariant.going taken
          (rw c.cycles.invariant.program at (here.values more)) (rw c.cycles.invariant.program at here.line.whole);
    }

pub returns-in-Ok-false : goal.returns-in-Ok-false
returns-in-Ok-false g c =
    let p = c.args.plain.now.program in
    let here = c.in-Ok-false.ensures in
    let stopped = here.stopped c.in-Ok-false.field-0-test in
    record {
      prints =
          going-ends p c.args.plain.now.values c.args.rows.now (g.O.Sink.seen c.args.out.now).written (g.O.Sink.seen c.cycles.out).written
          (g.O.Sink.seen c.print_cycle.new.out).written c.cycles.count c.cycles.plain.values c.cycles.rows (Ok end.Stopped) c.cycles.invariant.going
          (stops-here p c.cycles.count c.cycles.plain.values c.next.new.out stopped.0 c.cycles.rows c.next.new.self (g.O.Sink.seen c.cycles.out).written
          (g.O.Sink.seen c.print_cycle.new.out).written (c.in_ok-next.ensures.row c.if-branch.true) (rw c.cycles.invariant.program at stopped.1)
          (rw c.cycles.invariant.program at here.line.whole));
      write = λ e. absurd (no_error e);
      stayed = λ other. c.in-Ok-false.ensures.line.cause.stayed ∙ c.cycles.invariant.stayed;
    }

-- ---- the last line is printed

pub returns-in-Ok : goal.returns-in-Ok
returns-in-Ok g c =
    let none = c.in_ok-next.ensures.end c.if-branch.false in
    record {
      prints =
          going-ends c.args.plain.now.program c.args.plain.now.values c.args.rows.now (g.O.Sink.seen c.args.out.now).written (g.O.Sink.seen c.cycles.out).written
          (g.O.Sink.seen c.end_line.new.out).written c.cycles.count c.cycles.plain.values c.cycles.rows (Ok end.Done) c.cycles.invariant.going
          (ends-here c.args.plain.now.program c.cycles.count c.cycles.plain.values c.cycles.rows (g.O.Sink.seen c.cycles.out).written
          (g.O.Sink.seen c.end_line.new.out).written (record { rows = none.0; refusal_is = none.1 }) c.in-Ok.ensures.whole);
      write = λ e. absurd (no_error e);
      stayed = λ other. c.in-Ok.ensures.cause.stayed ∙ c.cycles.invariant.stayed;
    }
