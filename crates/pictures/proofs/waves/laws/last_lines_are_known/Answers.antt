use Rattle.pictures.proofs.LastLines.{ended, ended_only, stopped, refused}
use Rattle.pictures.proofs.waves.laws.last_lines_are_known.Goals as goal

pub returns-clause-ended : goal.returns-clause-ended
returns-clause-ended c = ended

pub returns-clause-ended_only : goal.returns-clause-ended_only
returns-clause-ended_only c = ended_only

pub returns-clause-stopped : goal.returns-clause-stopped
returns-clause-stopped c = stopped

pub returns-clause-refused : goal.returns-clause-refused
returns-clause-refused c = refused
