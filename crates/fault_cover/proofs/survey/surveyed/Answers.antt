use Rattle.std.proofs.Common.{refl}
use Rattle.std.proofs.lemmas.Result.{IfOk-from_err}
use Rattle.fault_cover.proofs.Resting.{rests_stay}
use Rattle.fault_cover.proofs.survey.surveyed.Goals as goal

pub word_rests-requires-clause-maps : goal.word_rests-requires-clause-maps
word_rests-requires-clause-maps c =
    let o = c.in_ok-outputs.ensures in
    let s = c.in_ok-stops.ensures in
    record {
      weights = c.requires;
      outs = o.outs;
      outs_are = o.are;
      outputs = o.nearest;
      numbers = c.in_ok-numbers.ensures;
      able = s.able;
      stops = s.nearest;
      readings = c.in_ok-readings.ensures;
    }

pub returns : goal.returns
returns c =
    let o = c.in_ok-outputs.ensures in
    let s = c.in_ok-stops.ensures in
    record {
      horizon_is = refl;
      mapped = record {
        maps = record {
          weights = c.requires;
          outs = o.outs;
          outs_are = o.are;
          outputs = o.nearest;
          numbers = c.in_ok-numbers.ensures;
          able = s.able;
          stops = s.nearest;
          readings = c.in_ok-readings.ensures;
        };
        rests = rests_stay c.args.graph.now _ _ c.in_ok-rests.rests.items refl c.in_ok-rests.ensures;
      };
      stops = s.stops;
      names = s.names;
      able_are = s.are;
    }

pub returns-in_err-outputs : goal.returns-in_err-outputs
returns-in_err-outputs c = IfOk-from_err c.from_residual.result _ c.from_residual.ensures.0

pub returns-in_err-stops : goal.returns-in_err-stops
returns-in_err-stops c = IfOk-from_err c.from_residual-in_err-stops.result _ c.from_residual-in_err-stops.ensures.0

pub returns-in_err-numbers : goal.returns-in_err-numbers
returns-in_err-numbers c = IfOk-from_err c.from_residual-in_err-numbers.result _ c.from_residual-in_err-numbers.ensures.0

pub returns-in_err-readings : goal.returns-in_err-readings
returns-in_err-readings c = IfOk-from_err c.from_residual-in_err-readings.result _ c.from_residual-in_err-readings.ensures.0

pub returns-in_err-rests : goal.returns-in_err-rests
returns-in_err-rests c = IfOk-from_err c.from_residual-in_err-rests.result _ c.from_residual-in_err-rests.ensures.0
