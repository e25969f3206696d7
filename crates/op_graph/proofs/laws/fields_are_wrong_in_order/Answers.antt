use Rattle.op_graph.proofs.Fitting.{two_lists_fit_no_kind, result_type}
use Rattle.op_graph.proofs.laws.fields_are_wrong_in_order.Goals as goal

pub returns : goal.returns
returns c = record { kind = two_lists_fit_no_kind; ty = result_type }
