use Rattle.std.proofs.Common.{sym, ◌∙◌, true≢false}
use Rattle.graph_passes.proofs.Queueing.{grows_as, grows_by_none}
use Rattle.graph_passes.proofs.needed.mark_if_it_stays.Goals as goal

pub returns-then-must_stay-clause-grows : goal.returns-then-must_stay-clause-grows
returns-then-must_stay-clause-grows c =
    grows_as _ _ _ _ _ _ (λ k e. (e, sym c.must_stay.ensures ∙ c.if-must_stay.true)) c.mark.ensures.grows

pub returns-then-must_stay-clause-marked : goal.returns-then-must_stay-clause-marked
returns-then-must_stay-clause-marked c = λ stays. c.mark.ensures.marked

pub returns-else-must_stay-clause-grows : goal.returns-else-must_stay-clause-grows
returns-else-must_stay-clause-grows c = grows_by_none _ _ _ c.requires.queue

pub returns-else-must_stay-clause-marked : goal.returns-else-must_stay-clause-marked
returns-else-must_stay-clause-marked c = λ stays. absurd (true≢false (sym stays ∙ sym c.must_stay.ensures ∙ c.if-must_stay.false))
