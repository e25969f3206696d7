use Rattle.std.proofs.Common.{subst}
use Rattle.std.proofs.lemmas.Result.{IfOk-weaker}
use Rattle.fault_cover.specs.Surveys.{AreAble, AreStops}
use Rattle.fault_cover.specs.Walks.{AreNearest}
use Rattle.fault_cover.proofs.survey.first_stops.Goals as goal

pub returns : goal.returns
returns c =
    let g = c.args.graph.now in
    IfOk-weaker c.find_nearest.result (λ found. AreNearest g c.deref.result.now found.items) (λ found. AreStops g found.items)
    (λ found near. record {
      stops = c.in_ok-ranges.ranges.stops;
      names = c.in_ok-ranges.ensures.names;
      able = c.in_ok-able.able.items;
      are = subst (λ xs. AreAble xs c.in_ok-able.able.items) c.stops.ensures c.in_ok-able.ensures.able;
      nearest = subst (λ xs. AreNearest g xs found.items) c.deref.ensures.value near;
    })
    c.find_nearest.ensures
