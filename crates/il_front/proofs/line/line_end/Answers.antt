use Rattle.std.proofs.Common.{◌≡◌, ◌+◌, ℕ, suc, drop, arith, sym, subst, ◌∙◌}
use Rattle.il_front.proofs.LineLaws.{line_length, length-on, length-off, get-within, line-upto}
use Rattle.il_front.proofs.line.line_end.Goals as goal

pub line-preserved : goal.line-preserved
line-preserved c =
    let ts = c.args.tokens.now.tokens in
    let at = c.args.at in
    let last = c.line.last in
    let within = c.line.invariant.within in
    let more = c.goes_on.ensures.within c.line-test.true in
    let (t, g) = get-within ts last within in
    let on = length-on ts last t g (sym c.goes_on.ensures.is ∙ c.line-test.true) in
    let same : at + line_length (drop at ts) ≡ suc last + line_length (drop (suc last) ts) = c.line.invariant.same ∙ on in
    let next : suc last ≡ last + 1 = omega arith in
    record {
      from = omega (arith, c.line.invariant.from);
      within = more;
      same = subst (λ (k : ℕ). at + line_length (drop at ts) ≡ k + line_length (drop k ts)) next same;
    }

pub returns-clause-line : goal.returns-clause-line
returns-clause-line c =
    let ts = c.args.tokens.now.tokens in
    let at = c.args.at in
    let last = c.line.last in
    let (t, g) = get-within ts last c.line.invariant.within in
    let off = length-off ts last t g (sym c.goes_on.ensures.is ∙ c.line-test.false) in
    line-upto ts at (last + 1) c.requires (omega (arith, c.line.invariant.same, off))
