use Rattle.fault_cover.proofs.Certainty.{laws_of}
use Rattle.fault_cover.proofs.Meaning.{acts_mean}
use Rattle.fault_cover.proofs.RestMeaning.{rest_means}
use Rattle.fault_cover.proofs.SameKind.{same_kind}
use Rattle.fault_cover.proofs.laws.what_is_told_is_certain.Goals as goal

pub returns-clause-at_operation : goal.returns-clause-at_operation
returns-clause-at_operation c = λ s acts rows n k d a size is fit stands of.
    acts_mean s acts rows n k d a size is (laws_of s.graph is.graph (c.words_split_in_one_way.ensures s.graph.profile) c.entries_keep_their_rules.ensures
    c.cells_have_two_parts.ensures c.operands_are_there.ensures c.untouched_operations_are_the_same.ensures.differences
    c.the_first_act_comes_alone.ensures) fit stands of

pub returns-clause-at_rest : goal.returns-clause-at_rest
returns-clause-at_rest c = λ s adds rows n k right e is fit stands.
    rest_means s is (laws_of s.graph is.graph (c.words_split_in_one_way.ensures s.graph.profile) c.entries_keep_their_rules.ensures
    c.cells_have_two_parts.ensures c.operands_are_there.ensures c.untouched_operations_are_the_same.ensures.differences
    c.the_first_act_comes_alone.ensures) adds n k right e stands rows fit (c.words_split_in_one_way.ensures s.table.profile)

pub returns-clause-same_kind : goal.returns-clause-same_kind
returns-clause-same_kind c = λ s acts rows n k other op is stands there same later.
    same_kind s acts rows n k other op is c.operands_are_in_their_types.ensures c.untouched_operations_are_the_same.ensures.differences
    (c.words_split_in_one_way.ensures s.graph.profile) stands there same later
