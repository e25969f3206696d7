use Rattle.std.proofs.Common.{◌++◌, arith}
use Rattle.std.proofs.lemmas.Result.{on_ok_weaker}
use Rattle.fault_sites.specs.Readings.{Adds, reading_as}
use Rattle.fault_sites.proofs.Gathering.{adds_both}
use Rattle.fault_sites.proofs.words_read.read_all.Goals as goal

pub read-requires-clause-there : goal.read-requires-clause-there
read-requires-clause-there c = λ reads. c.requires 0 reads

pub read-requires-2-clause-there : goal.read-requires-2-clause-there
read-requires-2-clause-there c = λ reads. let inside = c.requires 1 reads in omega (arith, inside, c.in_ok-read.ensures.many)

pub read-requires-3-clause-there : goal.read-requires-3-clause-there
read-requires-3-clause-there c = λ reads.
    let inside = c.requires 2 reads in omega (arith, inside, c.in_ok-read.ensures.many, c.in_ok-read-2.ensures.many)

pub returns : goal.returns
returns c =
    let q = c.args.q in
    let op = c.args.op.now in
    on_ok_weaker c.read-3.result (λ (third : Adds (λ k. reading_as k q op 2) c.read-2.new.by_word c.read-3.new.by_word).
    adds_both (λ k. reading_as k q op 0) (λ k. reading_as k q op 1 ++ reading_as k q op 2) c.args.by_word.now c.read.new.by_word c.read-3.new.by_word
    c.in_ok-read.ensures
    (adds_both (λ k. reading_as k q op 1) (λ k. reading_as k q op 2) c.read.new.by_word c.read-2.new.by_word c.read-3.new.by_word c.in_ok-read-2.ensures
    third)) c.read-3.ensures
