use Rattle.std.proofs.Common.{◌≡◌, drop}
use Rattle.fault_script.specs.Changes.{acts_of}
use Rattle.verdict_tables.proofs.endless.answering.act_at.Given as goal

abbrev pub invariant-faults : goal.invariant-faults
invariant-faults l = acts_of l.group l.cycle l.op ≡ acts_of (drop l.i l.group) l.cycle l.op
