use Rattle.std.proofs.Common.{rules, arith}
use Rattle.std.proofs.lemmas.Grind.{elements}
use Rattle.vcp_outside.proofs.mem_files.MemFilesFiles.begin.Goals as goal

pub invariant_of-self-in-Some : goal.invariant_of-self-in-Some
invariant_of-self-in-Some c = grind (arith, elements)

pub returns-in-Some-clause-begins : goal.returns-in-Some-clause-begins
returns-in-Some-clause-begins c = grind (arith, elements)

pub returns-in-Some-clause-fails : goal.returns-in-Some-clause-fails
returns-in-Some-clause-fails c = grind (arith, elements)

pub returns-then-next : goal.returns-then-next
returns-then-next c = search rules

pub returns-in-None : goal.returns-in-None
returns-in-None c = search rules
