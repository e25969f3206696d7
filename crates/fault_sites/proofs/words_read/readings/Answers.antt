use Rattle.std.proofs.Common.{◌≡◌, ◌++◌, length, take, drop, ap, sym, subst, ◌∙◌, arith}
use Rattle.std.proofs.Math.Seq.{take-append_seam}
use Rattle.fault_sites.specs.Readings.{AreReadings, word}
use Rattle.fault_sites.proofs.words_read.readings.Goals as goal

pub gather-requires-clause-graph : goal.gather-requires-clause-graph
gather-requires-clause-graph c = c.len-count.ensures.rules

pub gather-requires-clause-count : goal.gather-requires-clause-count
gather-requires-clause-count c = ap length c.deref_mut.ensures.value ∙ c.in_ok-by_word.ensures.many ∙ c.len-count.ensures.count

pub gather-requires-clause-none : goal.gather-requires-clause-none
gather-requires-clause-none c = λ k. ap (λ ws. word ws k) c.deref_mut.ensures.value ∙ c.in_ok-by_word.ensures.none k

pub returns : goal.returns
returns c =
    let are = c.in_ok-gather.ensures {u = tt} in
    let by_word = c.in_ok-by_word.by_word in
    let new = c.gather.new.by_word in
    let left = drop (length new) by_word.items in
    let many : by_word.len ≡ length new = omega (arith, by_word.ok.0, c.in_ok-by_word.ensures.many, c.len-count.ensures.count, are.many) in
    subst (λ ws. AreReadings c.args.graph.now c.args.more ws) (sym (ap (λ n. take n (new ++ left)) many ∙ take-append_seam new left)) are
