use Rattle.weight_audit.proofs.Auditing.{there_is}
use Rattle.weight_audit.proofs.Frames.{Rests, fault_comes, stale_comes}
use Rattle.weight_audit.proofs.laws.differences_come_as_weights.Goals as goal

pub returns-clause-closed : goal.returns-clause-closed
returns-clause-closed c = λ t g is f inside out.
    let op = there_is g.operations f.op inside in
    let rests : Rests g = record {
      words = c.words_split_in_one_way.ensures g.profile;
      earlier = λ q k j reads. c.operands_are_there.ensures.earlier g q k j is.part reads;
      loads = λ b l there. c.entries_keep_their_rules.ensures.load g b l is.part there;
      operations = λ i o there. c.entries_keep_their_rules.ensures.operation g i o is.part there;
      graph = is;
    } in
    fault_comes t g f op.0 rests op.1 (c.one_fault_makes_its_difference.ensures t g f op.0 op.1) out

pub returns-clause-stale : goal.returns-clause-stale
returns-clause-stale c = λ t g is f op j there act_is out borders.
    let rests : Rests g = record {
      words = c.words_split_in_one_way.ensures g.profile;
      earlier = λ q k i reads. c.operands_are_there.ensures.earlier g q k i is.part reads;
      loads = λ b l here. c.entries_keep_their_rules.ensures.load g b l is.part here;
      operations = λ i o here. c.entries_keep_their_rules.ensures.operation g i o is.part here;
      graph = is;
    } in
    stale_comes t g f op rests there (c.one_fault_makes_its_difference.ensures t g f op there) out j act_is borders
