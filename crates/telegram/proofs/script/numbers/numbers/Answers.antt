use Rattle.std.proofs.Common.{ℤ, [], ◌∷◌, ◌++◌, ap, sym, ◌∙◌, rules}
use Rattle.telegram.specs.Forms.{integers_of}
use Rattle.telegram.proofs.InRange.{same}
use Rattle.telegram.proofs.NumbersRead.{read_none, read_more, read_other, read_all}
use Rattle.telegram.proofs.script.numbers.numbers.Goals as goal

pub words-init : goal.words-init
words-init c = read_none (integers_of c.args.words.now) c.new-row.result c.new-row.ensures

pub words-preserved : goal.words-preserved
words-preserved c =
    read_more (integers_of c.args.words.now) c.words.row c.push.new.self c.in-Some.word.now c.words.words c.next.new.self c.in-Some-integer.number
    c.words.invariant c.in-Some.ensures.some (sym c.in-Some-integer.is ∙ c.integer.ensures)
    (c.in-Ok.ensures.ok ∙ ap (λ (v : ℤ). c.words.row ++ v ∷ []) (same c.in-Some-integer.number (search rules)))

pub returns-in_default-integer-clause-refusal : goal.returns-in_default-integer-clause-refusal
returns-in_default-integer-clause-refusal c other =
    read_other (integers_of c.args.words.now) c.words.row c.in-Some.word.now c.words.words c.next.new.self
    c.words.invariant c.in-Some.ensures.some (sym c.in_default-integer.is ∙ c.integer.ensures)

pub returns-clause-numbers : goal.returns-clause-numbers
returns-clause-numbers c = read_all (integers_of c.args.words.now) c.words.row c.words.words c.words.invariant c.in_default.ensures.none.0
