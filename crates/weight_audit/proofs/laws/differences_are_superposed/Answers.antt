use Rattle.weight_audit.proofs.Frames.{Rests}
use Rattle.weight_audit.proofs.Superposing.{superposes, quiet}
use Rattle.weight_audit.proofs.Unreached.{unreached}
use Rattle.weight_audit.proofs.laws.differences_are_superposed.Goals as goal

pub returns-clause-sum : goal.returns-clause-sum
returns-clause-sum c = λ t g is acts m out.
    let rests : Rests g = record {
      words = c.words_split_in_one_way.ensures g.profile;
      earlier = λ q k j reads. c.operands_are_there.ensures.earlier g q k j is.part reads;
      loads = λ b l there. c.entries_keep_their_rules.ensures.load g b l is.part there;
      operations = λ i o there. c.entries_keep_their_rules.ensures.operation g i o is.part there;
      graph = is;
    } in
    superposes t g acts rests m out

pub returns-clause-own : goal.returns-clause-own
returns-clause-own c = λ t g is acts n k none. quiet t g acts (λ q i j reads. c.operands_are_there.ensures.earlier g q i j is.part reads) n k none

pub returns-clause-unreached : goal.returns-clause-unreached
returns-clause-unreached c = λ g is out borders k isnt. unreached g out (λ q i j reads. c.operands_are_there.ensures.earlier g q i j is.part reads) borders k isnt
