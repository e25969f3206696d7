use Rattle.std.proofs.Common.{subst}
use Rattle.std.proofs.lemmas.Result.{IfOk-weaker}
use Rattle.fault_cover.specs.Surveys.{AreOutputs}
use Rattle.fault_cover.specs.Walks.{AreNearest}
use Rattle.fault_cover.proofs.survey.first_outputs.Goals as goal

pub returns : goal.returns
returns c =
    let g = c.args.graph.now in
    IfOk-weaker c.find_nearest.result (λ found. AreNearest g c.deref.result.now found.items) (λ found. AreOutputs g found.items)
    (λ found near. record {
      outs = c.in_ok-outs.outs.items;
      are = c.in_ok-outs.ensures.outs;
      nearest = subst (λ xs. AreNearest g xs found.items) c.deref.ensures.value near;
    })
    c.find_nearest.ensures
