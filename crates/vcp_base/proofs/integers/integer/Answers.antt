use Rattle.std.proofs.Common.{refl}
use Rattle.vcp_base.proofs.IntegerTexts.{empty_text, plus_text, minus_text, unsigned_text}
use Rattle.vcp_base.proofs.integers.integer.Goals as goal

pub returns-in-empty : goal.returns-in-empty
returns-in-empty c = empty_text c.args.text.now c.in-empty.len_below

pub returns-then-first-eq43 : goal.returns-then-first-eq43
returns-then-first-eq43 c =
    plus_text c.args.text.now _ c.natural.result c.in-len1-up.len_at_least c.if-first-eq43.true refl c.natural.ensures.value

pub returns-then-first-eq45 : goal.returns-then-first-eq45
returns-then-first-eq45 c =
    minus_text c.args.text.now _ c.natural-then-first-eq45.result c.minus.result c.in-len1-up.len_at_least c.if-first-eq43.false c.if-first-eq45.true refl
    c.natural-then-first-eq45.ensures.value c.minus.ensures

pub returns-else-first-eq45 : goal.returns-else-first-eq45
returns-else-first-eq45 c =
    unsigned_text c.args.text.now c.natural-else-first-eq45.result c.in-len1-up.len_at_least c.if-first-eq43.false c.if-first-eq45.false
    c.natural-else-first-eq45.ensures.value
