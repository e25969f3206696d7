use Rattle.std.proofs.Common.{ap, sym, ◌∙◌}
use Rattle.csv.specs.Records.{fields_of}
use Rattle.range_walk.specs.RangeTable.{is_head}
use Rattle.range_walk.proofs.Records.{not_three, three}
use Rattle.range_walk.proofs.assumed.cells.is_head.Goals as goal

pub returns-then-len-ne3 : goal.returns-then-len-ne3
returns-then-len-ne3 c = sym (ap is_head (not_three (fields_of c.args.cells.now) (λ e. c.if-len-ne3.true (c.len.ensures ∙ e))))

pub returns : goal.returns
returns c =
    let cells = three (fields_of c.args.cells.now) _ _ _ (sym c.len.ensures ∙ c.if-len-ne3.false) c.field.ensures c.field-2.ensures c.field-3.ensures in
    rw (c.both_hold-2.ensures, c.both_hold.ensures, c.is_word-input.ensures, c.is_word-least.ensures, c.is_word-greatest.ensures) (sym (ap is_head cells))
