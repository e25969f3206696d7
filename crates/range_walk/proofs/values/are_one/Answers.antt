use Rattle.std.proofs.Common.{◌≡◌, true, ◌&&◌, sym, ◌∙◌}
use Rattle.std.proofs.lemmas.Bool.{and_parts}
use Rattle.range_walk.proofs.values.are_one.Goals as goal

pub returns : goal.returns
returns c = λ e x y i j.
    let both : (c.is_only-first.result && c.is_only-second.result) ≡ true = sym c.both_hold.ensures ∙ e in
    c.is_only-first.ensures (and_parts c.is_only-first.result c.is_only-second.result both).0 x i
    ∙ sym (c.is_only-second.ensures (and_parts c.is_only-first.result c.is_only-second.result both).1 y j)
