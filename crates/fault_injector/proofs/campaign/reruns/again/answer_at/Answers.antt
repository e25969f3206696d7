use Rattle.std.proofs.Common.{sym, arith}
use Rattle.fault_injector.proofs.AgainRuns.{none_there, past_there, stop_there, word_there}
use Rattle.fault_injector.proofs.campaign.reruns.again.answer_at.Goals as goal

pub returns-then-k-count : goal.returns-then-k-count
returns-then-k-count c = sym (word_there c.args.other.now.words.now c.args.other.now.stop c.args.k c.index-other-k.result c.if-k-count.true)

pub returns-then-k-count-2 : goal.returns-then-k-count-2
returns-then-k-count-2 c = past_there c.args.other.now.words.now c.args.other.now.stop c.args.k c.if-k-count-2.true

pub returns-in-Some : goal.returns-in-Some
returns-in-Some c =
    stop_there c.args.other.now.words.now c.args.other.now.stop c.args.k c.in-Some.kind c.answer_for.result
    (omega (arith, c.if-k-count.false, c.if-k-count-2.false)) c.in-Some.is c.answer_for.ensures

pub returns-in-None : goal.returns-in-None
returns-in-None c =
    none_there c.args.other.now.words.now c.args.other.now.stop c.args.k (omega (arith, c.if-k-count.false, c.if-k-count-2.false)) c.in-None.is
