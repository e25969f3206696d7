use Rattle.std.proofs.Common.{◌≡◌, ◌≢◌, arith}
use Rattle.fault_injector.specs.FaultLines.{faults}
use Rattle.verdict_tables.specs.SameEndings.{all_endings, ended_count, same_only}
use Rattle.verdict_tables.proofs.Going.{no_row, a_row}
use Rattle.vcp_outside.specs.Pens.{and_then}
use Rattle.verdict_tables.proofs.ended.then_ended_row.Goals as goal

pub returns-then-count-eq0 : goal.returns-then-count-eq0
returns-then-count-eq0 g c =
    let none : faults (same_only (ended_count c.args.n (all_endings c.args.endings.now))) ≡ 0 =
    omega (arith, c.if-count-eq0.true, c.count_ended-count.ensures) in
    no_row _ _ none

pub returns : goal.returns
returns g c =
    let some : faults (same_only (ended_count c.args.n (all_endings c.args.endings.now))) ≢ 0 =
    λ none. c.if-count-eq0.false (omega (arith, none, c.count_ended-count.ensures)) in
    a_row _ _ some (and_then (rw c.count_ended-count.ensures at c.then_columns.ensures) (and_then c.texts.ensures c.text.ensures))
