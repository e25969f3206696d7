use Rattle.std.proofs.Common.{refl, subst, sym, ap, ◌∙◌}
use Rattle.signature_table.specs.Signatures.{IsTable}
use Rattle.coded_machine.specs.declared.rows.fault.RunFault.TheVariants as fault
use Rattle.pair_channel.specs.PairStates.{PairState, fresh_pair}
use Rattle.pair_channel.specs.PairDone.{PairRunsTo}
use Rattle.pair_channel.specs.PairMoments.{pair_moment}
use Rattle.pair_channel.proofs.Done.{nothing_done}
use Rattle.pair_channel.proofs.Ended.{no_end}
use Rattle.pair_channel.proofs.run.run_pair.Goals as goal

pub print_run-requires-clause-fresh : goal.print_run-requires-clause-fresh
print_run-requires-clause-fresh g c =
    let fresh = c.in-Ok.ensures.fresh in
    fresh ∙ ap (λ (q : PairState). fresh_pair c.args.graph.now q.first.table q.second.table) (sym fresh)

pub print_run-requires-clause-table : goal.print_run-requires-clause-table
print_run-requires-clause-table g c = subst (λ (q : PairState). IsTable q.first.table) (sym c.in-Ok.ensures.fresh) c.step-step.ensures.ranges

pub print_run-requires-clause-other : goal.print_run-requires-clause-other
print_run-requires-clause-other g c = subst (λ (q : PairState). IsTable q.second.table) (sym c.in-Ok.ensures.fresh) c.step-other.ensures.ranges

pub returns-in-Ok-clause-ran : goal.returns-in-Ok-clause-ran
returns-in-Ok-clause-ran g c =
    let before = pair_moment (g.U.Unit.seen c.args.first.now) (g.V.Unit.seen c.args.second.now) (g.O.Sink.seen c.args.out.now) in
    let after = pair_moment (g.U.Unit.seen c.print_run.new.first) (g.V.Unit.seen c.print_run.new.second) (g.O.Sink.seen c.print_run.new.out) in
    subst (λ (q : PairState). PairRunsTo c.args.graph.now q.first.table q.second.table (g.S.RowReader.left c.args.rows.now) before after c.print_run.result)
    c.in-Ok.ensures.fresh c.print_run.ensures.ran

pub returns-in-Err-clause-ran : goal.returns-in-Err-clause-ran
returns-in-Err-clause-ran g c = nothing_done c.pairs_follow_their_answers.ensures c.args.graph.now c.args.table.now c.args.other.now (g.S.RowReader.left c.args.rows.now) _

pub returns-in-Ok-clause-stayed : goal.returns-in-Ok-clause-stayed
returns-in-Ok-clause-stayed g c = c.print_run.ensures.stayed

pub returns-in-Ok-clause-stopped : goal.returns-in-Ok-clause-stopped
returns-in-Ok-clause-stopped g c = c.print_run.ensures.stopped

pub returns-in-Err-clause-stayed : goal.returns-in-Err-clause-stayed
returns-in-Err-clause-stayed g c = λ other. refl

pub returns-in-Err-clause-stopped : goal.returns-in-Err-clause-stopped
returns-in-Err-clause-stopped g c = λ op why h. absurd (no_end _ fault.Memory _ refl h)
