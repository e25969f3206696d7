use Rattle.std.proofs.Common.{◌≡◌, ◌+◌, ◌-◌, suc, length, drop, subst, arith}
use Rattle.std.proofs.lemmas.Result.{IfOk-from_err}
use Rattle.fault_cover.specs.Surveys.{IsRest}
use Rattle.fault_cover.proofs.Resting.{none_rest, none_so_far, rests_more}
use Rattle.fault_cover.proofs.rests.rests_of.Goals as goal

pub readings-init : goal.readings-init
readings-init c =
    let g = c.args.graph.now in
    let v = c.args.survey.now in
    record {
      rest = none_rest g v c.args.starts.now _ (omega arith) (c.constants_are_in_range.ensures.positive g.profile);
      so_far = none_so_far g v c.args.starts.now _ c.new-rests.ensures;
    }

pub then_rest-rest-requires-clause-before : goal.then_rest-rest-requires-clause-before
then_rest-rest-requires-clause-before c =
    let starts = c.args.starts.now in
    let place : length starts - c.readings.done ≡ suc (length starts - 1 - c.readings.done) = omega (arith, c.readings-test.true) in
    subst (λ n. IsRest c.args.graph.now c.args.survey.now (drop n starts) c.readings.rest) place c.readings.invariant.rest

pub readings-preserved : goal.readings-preserved
readings-preserved c =
    let g = c.args.graph.now in
    let v = c.args.survey.now in
    let starts = c.args.starts.now in
    let done = c.readings.done in
    let here : length starts - 1 - done ≡ length starts - (done + 1) = omega (arith, c.readings-test.true) in
    let there : length starts - 1 - done ≡ length starts - suc done = omega (arith, c.readings-test.true) in
    record {
      rest = subst (λ n. IsRest g v (drop n starts) c.then_rest-rest.result) here c.then_rest-rest.ensures;
      so_far = rests_more g v starts c.readings.rests c.push.new.self done c.then_rest-rest.result c.readings.invariant.so_far c.in_ok-push.ensures.ok
          (subst (λ n. IsRest g v (drop n starts) c.then_rest-rest.result) there c.then_rest-rest.ensures);
    }

pub returns : goal.returns
returns c =
    let so_far = c.readings.invariant.so_far in
    let many = so_far.many in
    record { many = omega (arith, many, c.readings-test.false, c.readings.auto.done-end); each = so_far.each }

pub returns-in_err-push : goal.returns-in_err-push
returns-in_err-push c = IfOk-from_err c.from_residual.result _ c.from_residual.ensures.0

pub then_rest-rest-requires-clause-graph : goal.then_rest-rest-requires-clause-graph
then_rest-rest-requires-clause-graph c = c.requires.graph

pub then_rest-rest-requires-clause-maps : goal.then_rest-rest-requires-clause-maps
then_rest-rest-requires-clause-maps c = c.requires.maps

pub then_rest-rest-requires-clause-placed : goal.then_rest-rest-requires-clause-placed
then_rest-rest-requires-clause-placed c = c.requires.placed
