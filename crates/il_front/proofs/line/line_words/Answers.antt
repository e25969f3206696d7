use Rattle.std.proofs.Common.{◌≡◌, ◌+◌, ◌-◌, suc, arith}
use Rattle.st_lexer.specs.Reading.{IsInside}
use Rattle.il_front.proofs.LineLaws.{all-at, at-place, one-from, two-from, three-from}
use Rattle.il_front.proofs.line.line_words.Goals as goal

pub returns-then-count-eq1-clause-are : goal.returns-then-count-eq1-clause-are
returns-then-count-eq1-clause-are c =
    let n : c.args.to - c.args.at ≡ 1 = omega arith in
    one-from c.args.tokens.now.tokens c.args.at (c.args.to - c.args.at) c.at.result n c.at.ensures

pub returns-then-count-eq1-clause-inside : goal.returns-then-count-eq1-clause-inside
returns-then-count-eq1-clause-inside c = λ text h. all-at (IsInside text) c.args.tokens.now.tokens c.args.at c.at.result c.at.ensures h

pub returns-then-count-eq2-clause-are : goal.returns-then-count-eq2-clause-are
returns-then-count-eq2-clause-are c =
    let ts = c.args.tokens.now.tokens in
    let at = c.args.at in
    let n : c.args.to - at ≡ 2 = omega arith in
    let u = c.at-then-count-eq2-2 in
    two-from ts at (c.args.to - at) c.at-then-count-eq2.result u.result n c.at-then-count-eq2.ensures
    (at-place ts (at + 1) (suc at) u.result u.ensures (omega arith))

pub returns-then-count-eq2-clause-inside : goal.returns-then-count-eq2-clause-inside
returns-then-count-eq2-clause-inside c = λ text h.
    let ts = c.args.tokens.now.tokens in
    let at = c.args.at in (
      all-at (IsInside text) ts at c.at-then-count-eq2.result c.at-then-count-eq2.ensures h,
      all-at (IsInside text) ts (at + 1) c.at-then-count-eq2-2.result c.at-then-count-eq2-2.ensures h,
    )

pub returns-then-count-eq3-clause-are : goal.returns-then-count-eq3-clause-are
returns-then-count-eq3-clause-are c =
    let ts = c.args.tokens.now.tokens in
    let at = c.args.at in
    let n : c.args.to - at ≡ 3 = omega arith in
    let u = c.at-then-count-eq3-2 in
    let v = c.at-then-count-eq3-3 in
    three-from ts at (c.args.to - at) c.at-then-count-eq3.result u.result v.result n c.at-then-count-eq3.ensures
    (at-place ts (at + 1) (suc at) u.result u.ensures (omega arith))
    (at-place ts (at + 2) (suc (suc at)) v.result v.ensures (omega arith))

pub returns-then-count-eq3-clause-inside : goal.returns-then-count-eq3-clause-inside
returns-then-count-eq3-clause-inside c = λ text h.
    let ts = c.args.tokens.now.tokens in
    let at = c.args.at in (
      all-at (IsInside text) ts at c.at-then-count-eq3.result c.at-then-count-eq3.ensures h,
      all-at (IsInside text) ts (at + 1) c.at-then-count-eq3-2.result c.at-then-count-eq3-2.ensures h,
      all-at (IsInside text) ts (at + 2) c.at-then-count-eq3-3.result c.at-then-count-eq3-3.ensures h,
    )
