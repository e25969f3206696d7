use Rattle.weight_audit.proofs.Existing.{existing}
use Rattle.weight_audit.proofs.Places.{store_inside}
use Rattle.weight_audit.proofs.laws.each_graph_has_an_audit.Goals as goal

pub returns : goal.returns
returns c = λ g horizon is.
    existing g
    (λ q k j reads. c.operands_are_there.ensures.earlier g q k j is.part reads)
    (λ i cell there. store_inside g i cell is.part (λ k n part e. c.entries_keep_their_rules.ensures.store g k n part e) there)
    horizon
    (λ i o there. (c.entries_keep_their_rules.ensures.output g i o is.part there).operation)
