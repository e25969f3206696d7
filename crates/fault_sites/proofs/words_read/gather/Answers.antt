use Rattle.std.proofs.Common.{Bool, cond, [], ap, sym, subst}
use Rattle.std.proofs.lemmas.Result.{on_ok_weaker}
use Rattle.op_graph.specs.Lists.{cells}
use Rattle.fault_sites.specs.Readings.{Adds, readings_across}
use Rattle.fault_sites.proofs.Gathering.{adds_none, are_readings}
use Rattle.fault_sites.proofs.words_read.gather.Goals as goal

pub returns-then-more : goal.returns-then-more
returns-then-more c =
    let g = c.args.graph.now in
    let mid = c.read_in_cycle.new.by_word in
    let new = c.read_across.new.by_word in
    on_ok_weaker c.read_across.result
    (λ added. are_readings g c.args.more c.args.by_word.now mid new c.requires.count c.requires.none c.in_ok-read_in_cycle.ensures
    (subst (λ (b : Bool). Adds (λ k. cond b (readings_across k (cells g)) []) mid new) (sym c.if-more.true) added)) c.read_across.ensures

pub returns-else-more : goal.returns-else-more
returns-else-more c =
    let g = c.args.graph.now in
    let mid = c.read_in_cycle.new.by_word in
    are_readings g c.args.more c.args.by_word.now mid mid c.requires.count c.requires.none c.in_ok-read_in_cycle.ensures
    (adds_none _ mid (λ k. ap (λ (b : Bool). cond b (readings_across k (cells g)) []) c.if-more.false))
