use Rattle.std.proofs.Common.{◌≡◌, ◌+◌, ◌++◌, ℕ, suc, List, [], ◌∷◌, take, sym, ap, ◌∙◌, arith, append_assoc}
use Rattle.st_lexer.specs.declared.token.Token.{Token}
use Rattle.il_front.proofs.HeadLaws.{take-more}
use Rattle.il_front.proofs.head.push_all.Goals as goal

pub loop-i-preserved : goal.loop-i-preserved
loop-i-preserved c =
    let ts = c.args.tokens.now.tokens in
    let words = c.args.words.now.tokens in
    let i = c.loop-i.i in
    let t = c.at.result in
    let next : suc i ≡ i + 1 = omega arith in
    c.in-Ok.ensures.ok
    ∙ ap (λ (ws : List Token). ws ++ t ∷ []) c.loop-i.invariant
    ∙ append_assoc words (take i ts) (t ∷ [])
    ∙ ap (λ (ws : List Token). words ++ ws) (sym (take-more ts i t c.at.ensures) ∙ ap (λ (k : ℕ). take k ts) next)
