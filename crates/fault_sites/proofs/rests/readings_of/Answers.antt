use Rattle.fault_sites.proofs.rests.readings_of.Goals as goal

pub returns-then-more : goal.returns-then-more
returns-then-more c = λ g are. rw c.if-more.true are.going

pub returns-else-more : goal.returns-else-more
returns-else-more c = λ g are. rw c.if-more.false are.last
