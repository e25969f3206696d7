use Rattle.std.proofs.Common.{◌≡◌, ap, rules, sym, ◌∙◌, arith}
use mir.Syntax.{w128}
use mir.Val.{SFits, of_z}
use Rattle.verdict_tables.proofs.Found.{differ_end, differ_behind, differ_here, same_word}
use Rattle.verdict_tables.proofs.endless.ending.words_differ.Goals as goal

pub words-preserved : goal.words-preserved
words-preserved c =
    let one : SFits w128 c.get.result = search rules in
    let other : SFits w128 c.get-in-words.result = search rules in
    let same = same_word c.get.result c.get-in-words.result one other c.if-get.false in
    c.words.invariant
    ∙ differ_behind c.args.words.now c.args.others.now c.words.i c.index-words-i.result c.index-others-i.result
    (omega (arith, c.words-test.true, c.min-i-end.ensures)) c.index-words-i.is
    c.index-others-i.is (sym c.get.ensures.value ∙ same ∙ c.get-in-words.ensures.value)

pub returns-then-get : goal.returns-then-get
returns-then-get c =
    let unlike : c.index-words-i.result ≡ c.index-others-i.result → ⊥ =
    λ e. c.if-get.true (ap (of_z w128) (c.get.ensures.value ∙ (e ∙ sym c.get-in-words.ensures.value))) in
    sym (c.words.invariant
    ∙ differ_here c.args.words.now c.args.others.now c.words.i c.index-words-i.result c.index-others-i.result
    (omega (arith, c.words-test.true, c.min-i-end.ensures)) c.index-words-i.is
    c.index-others-i.is unlike)

pub returns : goal.returns
returns c =
    sym (c.words.invariant
    ∙ differ_end c.args.words.now c.args.others.now c.words.i (omega (arith, c.words-test.false, c.min-i-end.ensures)))
