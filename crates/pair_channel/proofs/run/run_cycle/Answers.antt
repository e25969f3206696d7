use Rattle.std.proofs.Common.{◌≡◌, ◌∙◌, ap, subst}
use Rattle.vcp_outside.specs.Written.{WritesTo}
use Rattle.coded_machine.specs.CycleEnds.{outputs_of}
use Rattle.run_report.specs.Lines.{row_text}
use Rattle.pair_channel.specs.PairStates.{pair_row_after}
use Rattle.pair_channel.specs.PairTurns.{PairTurn}
use Rattle.pair_channel.proofs.UpTo.{failed_row, released_row, no_row}
use Rattle.pair_channel.proofs.run.run_cycle.Goals as goal

pub cycle-requires : goal.cycle-requires
cycle-requires g c = record { cycle = c.requires.few; between = c.requires.between; out = c.requires.width }

pub returns-in-Err : goal.returns-in-Err
returns-in-Err g c =
    let p = c.args.pair.now in
    let row = outputs_of p.first.graph c.cycle.new.self.first.answers in
    let turn = c.cycle.ensures.turn c.requires.going in
    let row_is : c.cycle.new.out ≡ row = turn.out_is ∙ ap (λ e. pair_row_after e row c.args.outputs.now) c.in-Released.is in
    let bytes : row_text c.cycles-cycle.result c.cycle.new.out ≡ row_text p.cycles row =
    ap (λ n. row_text n c.cycle.new.out) c.cycles-cycle.ensures.value ∙ ap (row_text p.cycles) row_is in
    record {
      turn =
          subst
          (λ e. PairTurn p c.cycle.new.self c.args.inputs.now e c.args.outputs.now c.cycle.new.out (g.U.Unit.seen c.args.first.now)
          (g.U.Unit.seen c.cycle.new.first) (g.V.Unit.seen c.args.second.now) (g.V.Unit.seen c.cycle.new.second)) c.in-Released.is turn;
      between = c.cycle.ensures.between;
      written =
          failed_row p.cycles row _ _ _ _ _ _ bytes
          (subst (λ r. WritesTo (g.O.Sink.seen c.args.out.now) (g.O.Sink.seen c.row_line.new.out) (row_text c.cycles-cycle.result c.cycle.new.out) r)
          c.in-Err.is c.row_line.ensures);
      width = c.cycle.ensures.width;
    }

pub returns-in-Ok : goal.returns-in-Ok
returns-in-Ok g c =
    let p = c.args.pair.now in
    let row = outputs_of p.first.graph c.cycle.new.self.first.answers in
    let turn = c.cycle.ensures.turn c.requires.going in
    let row_is : c.cycle.new.out ≡ row = turn.out_is ∙ ap (λ e. pair_row_after e row c.args.outputs.now) c.in-Released.is in
    let bytes : row_text c.cycles-cycle.result c.cycle.new.out ≡ row_text p.cycles row =
    ap (λ n. row_text n c.cycle.new.out) c.cycles-cycle.ensures.value ∙ ap (row_text p.cycles) row_is in
    record {
      turn =
          subst
          (λ e. PairTurn p c.cycle.new.self c.args.inputs.now e c.args.outputs.now c.cycle.new.out (g.U.Unit.seen c.args.first.now)
          (g.U.Unit.seen c.cycle.new.first) (g.V.Unit.seen c.args.second.now) (g.V.Unit.seen c.cycle.new.second)) c.in-Released.is turn;
      between = c.cycle.ensures.between;
      written =
          released_row p.cycles row _ _ _ _ _ _ bytes
          (subst (λ r. WritesTo (g.O.Sink.seen c.args.out.now) (g.O.Sink.seen c.row_line.new.out) (row_text c.cycles-cycle.result c.cycle.new.out) r)
          c.in-Ok.is c.row_line.ensures);
      width = c.cycle.ensures.width;
    }

pub returns-in_default : goal.returns-in_default
returns-in_default g c = record {
  turn = c.cycle.ensures.turn c.requires.going;
  between = c.cycle.ensures.between;
  written = no_row _ _ _ _ _ c.in_default.not-Released;
  width = c.cycle.ensures.width;
}
