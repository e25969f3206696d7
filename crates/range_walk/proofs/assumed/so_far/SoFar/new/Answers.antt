use Rattle.std.proofs.Common.{rules, true, length, replicate, refl, ◌≡◌}
use Rattle.range_walk.proofs.assumed.so_far.SoFar.new.Goals as goal

pub returns : goal.returns
returns c =
    let free : c.in_ok-free.free.items ≡ replicate (length c.args.columns.now) true = search rules in
    record { first = rw (c.in_ok-ranges.ensures, free) refl }
