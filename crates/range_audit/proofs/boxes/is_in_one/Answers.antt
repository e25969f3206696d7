use Rattle.std.proofs.Common.{length, sym, subst}
use Rattle.range_audit.specs.Searching.{IsInBox}
use Rattle.range_audit.proofs.boxes.is_in_one.Goals as goal

pub returns-then-is : goal.returns-then-is
returns-then-is c = λ e held hold.
    let b = c.at.ensures in
    (c.boxes.k, b.0, b.1, subst (λ rs. IsInBox (length c.args.cells.now) rs held) (sym b.2) (c.is_inside-is.ensures c.if-is.true held hold))
