use Rattle.std.proofs.Common.{refl, arith}
use Rattle.fault_cover.proofs.Nearing.{hands_both}
use Rattle.fault_cover.proofs.nearest.hand_on_all.Goals as goal

pub hand_on-requires-3-clause-there : goal.hand_on-requires-3-clause-there
hand_on-requires-3-clause-there c = λ reads.
    let inside = c.requires.there c.args.op.now.c (record { place = 2; operand = reads; names = refl }) in
    omega (arith, inside, c.hand_on.ensures.hands.many, c.hand_on-2.ensures.hands.many)

pub returns-clause-hands : goal.returns-clause-hands
returns-clause-hands c =
    let op = c.args.op.now in
    hands_both op c.args.near c.args.found.now c.hand_on-2.new.found c.hand_on-3.new.found
    (hands_both op c.args.near c.args.found.now c.hand_on.new.found c.hand_on-2.new.found c.hand_on.ensures.hands c.hand_on-2.ensures.hands)
    c.hand_on-3.ensures.hands

pub hand_on-requires-clause-names : goal.hand_on-requires-clause-names
hand_on-requires-clause-names c = refl

pub hand_on-requires-2-clause-names : goal.hand_on-requires-2-clause-names
hand_on-requires-2-clause-names c = refl

pub hand_on-requires-3-clause-names : goal.hand_on-requires-3-clause-names
hand_on-requires-3-clause-names c = refl

pub hand_on-requires-clause-there : goal.hand_on-requires-clause-there
hand_on-requires-clause-there c = λ reads. c.requires.there c.args.op.now.a (record { place = 0; operand = reads; names = refl })
