use Rattle.std.proofs.Common.{◌≡◌, pos, sym}
use Rattle.range_walk.proofs.Backward.{not_there, no_taken, yes_taken, must_be_zero}
use Rattle.range_walk.proofs.ValueBounds.{moved}
use Rattle.range_walk.proofs.operand_ranges.taken.Goals as goal

pub returns-then-no : goal.returns-then-no
returns-then-no c = λ x y z i o.
    c.new.ensures x y z o.first (c.shared.ensures y o.second (no_taken c.args.r x y z i (c.is_only-no.ensures c.if-no.true x o.first))) o.third

pub returns-then-yes : goal.returns-then-yes
returns-then-yes c = λ x y z i o.
    let other = not_there c.args.o.first x (pos 0) (c.excludes-yes.ensures.out c.if-yes.true) o.first in
    c.new-then-yes.ensures x y z o.first o.second (c.shared-then-yes.ensures z o.third (yes_taken c.args.r x y z i other))

pub returns-then-not_first : goal.returns-then-not_first
returns-then-not_first c = λ x y z i o.
    let other = λ (zero : x ≡ pos 0). c.are_apart-not_first.ensures c.if-not_first.true y (no_taken c.args.r x y z i zero) o.second in
    c.new-then-not_first.ensures x y z (c.without_zero.ensures x o.first other) o.second o.third

pub returns-then-not_second : goal.returns-then-not_second
returns-then-not_second c = λ x y z i o.
    let zero = must_be_zero x y z c.args.r i (λ h. c.are_apart-not_second.ensures c.if-not_second.true z h o.third) in
    c.new-then-not_second.ensures x y z (moved c.only.result _ x (sym zero) c.only.ensures) o.second o.third
