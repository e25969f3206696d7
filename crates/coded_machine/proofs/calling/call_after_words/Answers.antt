use Rattle.std.proofs.Common.{rules, length}
use Rattle.coded_machine.proofs.Reading.{linked_at, read_before}
use Rattle.coded_machine.proofs.calling.call_after_words.Goals as goal

pub operand_there-requires-clause-there : goal.operand_there-requires-clause-there
operand_there-requires-clause-there c =
    let g = c.args.setting.now.graph.now in
    let k = length c.args.answers.now in
    let linked = linked_at c.entries_keep_their_rules.ensures c.operands_are_there.ensures g k c.args.op.now c.requires.graph c.requires.here in
    read_before g k c.args.op.now 0 c.args.op.now.a c.requires.here linked.first

pub operand_there-requires-2-clause-there : goal.operand_there-requires-2-clause-there
operand_there-requires-2-clause-there c =
    let g = c.args.setting.now.graph.now in
    let k = length c.args.answers.now in
    let linked = linked_at c.entries_keep_their_rules.ensures c.operands_are_there.ensures g k c.args.op.now c.requires.graph c.requires.here in
    read_before g k c.args.op.now 1 c.args.op.now.b c.requires.here linked.second

pub operand_there-requires-3-clause-there : goal.operand_there-requires-3-clause-there
operand_there-requires-3-clause-there c =
    let g = c.args.setting.now.graph.now in
    let k = length c.args.answers.now in
    let linked = linked_at c.entries_keep_their_rules.ensures c.operands_are_there.ensures g k c.args.op.now c.requires.graph c.requires.here in
    read_before g k c.args.op.now 2 c.args.op.now.c c.requires.here linked.third

pub call_from-requires : goal.call_from-requires
call_from-requires c = search rules

pub returns : goal.returns
returns c = search rules
