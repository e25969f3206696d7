use Rattle.std.proofs.Common.{rules, arith}
use Rattle.std.proofs.lemmas.Grind.{common_steps, elements}
use Rattle.vcp_outside.proofs.mem_files.MemFilesFiles.read.Goals as goal

pub returns-clause-after : goal.returns-clause-after
returns-clause-after c = grind (arith, common_steps)

pub index-requires : goal.index-requires
index-requires c = grind (arith, elements)

pub slice_bounds-unread-count : goal.slice_bounds-unread-count
slice_bounds-unread-count c = grind (arith, elements)

pub slice_bounds-unread-start : goal.slice_bounds-unread-start
slice_bounds-unread-start c = grind (arith, elements)

pub invariant_of-self-2 : goal.invariant_of-self-2
invariant_of-self-2 c = grind (arith, elements)

pub returns-clause-bytes : goal.returns-clause-bytes
returns-clause-bytes c = grind (arith, elements)

pub returns-clause-count : goal.returns-clause-count
returns-clause-count c = grind (arith, elements)

pub returns-clause-front : goal.returns-clause-front
returns-clause-front c = grind (arith, elements)

pub returns-then-next : goal.returns-then-next
returns-then-next c = search rules

pub returns-in_default : goal.returns-in_default
returns-in_default c = search rules
