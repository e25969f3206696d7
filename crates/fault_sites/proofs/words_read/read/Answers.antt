use Rattle.std.proofs.Common.{ap, sym, ◌∙◌, w32, SFits, rules}
use Rattle.std.proofs.lemmas.Int.{to_z-of_z}
use Rattle.std.proofs.lemmas.Result.{on_ok_weaker}
use Rattle.fault_sites.specs.Readings.{reading_as}
use Rattle.fault_sites.proofs.Gathering.{adds_none, adds_operand, no_operand}
use Rattle.fault_sites.proofs.words_read.read.Goals as goal

pub returns-then-not-reads : goal.returns-then-not-reads
returns-then-not-reads c =
    let op = c.args.op.now in
    adds_none (λ k. reading_as k c.args.q op c.args.j) c.args.by_word.now
    (no_operand c.args.q op c.args.j (sym (c.reads_operation-reads.ensures op.from) ∙ c.if-not-reads.true))

pub add-requires : goal.add-requires
add-requires c = c.requires.there (sym (c.reads_operation-reads.ensures c.args.op.now.from) ∙ c.if-not-reads.false)

pub returns : goal.returns
returns c =
    let fits : SFits w32 c.multiplier.result = search rules in
    let is = to_z-of_z w32 c.multiplier.result fits ∙ c.multiplier.ensures.value in
    let reads = sym (c.reads_operation-reads.ensures c.args.op.now.from) ∙ c.if-not-reads.false in
    on_ok_weaker c.add.result
    (λ added. adds_operand c.args.q c.args.op.now c.args.j c.args.n c.args.by_word.now c.add.new.by_word _ reads c.requires.names (c.requires.there reads)
    added (ap (λ m. record { op = c.args.q; operand = c.args.j; borders = 0; multiplier = m }) is))
    c.add.ensures
