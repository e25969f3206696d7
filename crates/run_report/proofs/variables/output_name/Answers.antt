use Rattle.std.proofs.Common.{[], sym}
use Rattle.std.proofs.lemmas.Option.{get_or_from_slice_get}
use Rattle.run_report.proofs.variables.output_name.Goals as goal

pub name-requires : goal.name-requires
name-requires c = (c.entries_keep_their_rules.ensures.output c.args.graph.now c.args.i c.output.result c.len-count.ensures.rules.part c.output.ensures).name

pub returns : goal.returns
returns c = rw c.output.ensures (sym (get_or_from_slice_get c.args.graph.now.names c.output.result.name c.name.result.now [] c.name.ensures))
