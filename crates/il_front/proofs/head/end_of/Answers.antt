use Rattle.std.proofs.Common.{◌≡◌, ◌-◌, ℕ, suc, take, sym, subst, arith}
use Rattle.st_lexer.specs.Reading.{IsInside}
use Rattle.il_front.specs.Lines.{end_of}
use Rattle.il_front.proofs.HeadLaws.{end-last}
use Rattle.il_front.proofs.LineLaws.{all-at}
use Rattle.il_front.proofs.head.end_of.Goals as goal

pub returns-clause-is : goal.returns-clause-is
returns-clause-is c =
    let ts = c.args.tokens.now.tokens in
    let t = c.at.result in
    let next : suc (c.args.count - 1) ≡ c.args.count = omega arith in
    sym (subst (λ (k : ℕ). end_of (take k ts) ≡ t.to) next (end-last ts (c.args.count - 1) t c.at.ensures))

pub returns-clause-within : goal.returns-clause-within
returns-clause-within c = λ text h. (all-at (IsInside text) c.args.tokens.now.tokens (c.args.count - 1) c.at.result c.at.ensures h).1
