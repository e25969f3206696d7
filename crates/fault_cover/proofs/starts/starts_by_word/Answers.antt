use Rattle.std.proofs.Common.{◌+◌, ◌++◌, ◌∷◌, drop, map, Some, sym, ap, ◌∙◌, refl}
use Rattle.std.proofs.lemmas.Result.{IfOk-from_err}
use Rattle.std.proofs.lemmas.Option.{slice_get-get_or}
use Rattle.fault_cover.specs.Beginnings.{starts_of}
use Rattle.fault_cover.proofs.Gathering.{made_all, made_more, made_none}
use Rattle.fault_cover.proofs.starts.starts_by_word.Goals as goal

pub words-init : goal.words-init
words-init c =
    let p = c.args.profile in
    let words = c.args.by_word.now in
    ap (λ xs. xs ++ map (starts_of p) (drop 0 words)) c.new-starts.ensures.items ∙ made_none (map (starts_of p)) words

pub words-preserved : goal.words-preserved
words-preserved c =
    let p = c.args.profile in
    let words = c.args.by_word.now in
    let k = c.words.k in
    let there = slice_get-get_or words k c.index-by_word-k.result c.words-test.true ∙ ap Some (sym c.index-by_word-k.is) in
    ap (λ xs. xs ++ map (starts_of p) (drop (k + 1) words)) c.in_ok-push.ensures.items
    ∙ made_more (map (starts_of p)) words k c.index-by_word-k.result c.in_ok-starts_by.field-0 c.words.starts.items _ there
    (λ more. ap (λ s. s ∷ map (starts_of p) more) (sym (c.in_ok-starts_by.ensures ∙ ap (starts_of p) c.all.ensures))) c.words.invariant

pub returns : goal.returns
returns c = made_all (map (starts_of c.args.profile)) c.args.by_word.now c.words.k c.words.starts.items _ c.words-test.false refl c.words.invariant

pub returns-in_err-starts_by : goal.returns-in_err-starts_by
returns-in_err-starts_by c = IfOk-from_err c.from_residual.result _ c.from_residual.ensures.0

pub returns-in_err-push : goal.returns-in_err-push
returns-in_err-push c = IfOk-from_err c.from_residual-in_err-push.result _ c.from_residual-in_err-push.ensures.0
