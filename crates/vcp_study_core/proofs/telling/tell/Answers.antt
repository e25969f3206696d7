use Rattle.vcp_study_core.proofs.telling.tell.Goals as goal

pub returns-in-Input : goal.returns-in-Input
returns-in-Input g c = rw c.in-Input.is c.tell_input.ensures

pub returns-in-Refused : goal.returns-in-Refused
returns-in-Refused g c = rw c.in-Refused.is (rw (c.said_of.ensures c.in-Refused.name.now) at c.tell_said.ensures)

pub returns-in-Write : goal.returns-in-Write
returns-in-Write g c = rw c.in-Write.is c.write_all.ensures

pub returns-in-Memory : goal.returns-in-Memory
returns-in-Memory g c = rw c.in-Memory.is c.write_all-in-Memory.ensures
