use Rattle.std.proofs.Common.{◌≡◌, length, sym, ◌∙◌, arith, to_z, of_z, to_z-of_z, w64}
use Rattle.telegram.proofs.LinesFit.{three, not_three, delivery_if_fits}
use Rattle.telegram.proofs.script.lines.delivery.Goals as goal

pub returns-then-len-ne3-clause-event : goal.returns-then-len-ne3-clause-event
returns-then-len-ne3-clause-event c =
    sym (not_three c.args.wire.now c.args.begun c.args.line c.args.numbers.now (λ many. absurd (omega (arith, many, c.len.ensures, c.if-len-ne3.true))))

pub returns-clause-event : goal.returns-clause-event
returns-clause-event c =
    let many : length c.args.numbers.now ≡ 3 = omega (arith, c.len.ensures, c.if-len-ne3.false) in
    let id : to_z w64 (of_z w64 c.at.result) ≡ c.at.result = grind (arith, to_z-of_z) in
    let number : to_z w64 (of_z w64 c.at-2.result) ≡ c.at-2.result = grind (arith, to_z-of_z) in
    let alter : to_z w64 (of_z w64 c.at-3.result) ≡ c.at-3.result = grind (arith, to_z-of_z) in
    let said = rw (id, number, alter) at c.delivery_if.ensures in
    said
    ∙ sym (three c.args.wire.now c.args.begun c.args.line c.args.numbers.now c.at.result c.at-2.result c.at-3.result many c.at.ensures c.at-2.ensures
    c.at-3.ensures)

pub returns-clause-fits : goal.returns-clause-fits
returns-clause-fits c =
    let id : to_z w64 (of_z w64 c.at.result) ≡ c.at.result = grind (arith, to_z-of_z) in
    let number : to_z w64 (of_z w64 c.at-2.result) ≡ c.at-2.result = grind (arith, to_z-of_z) in
    let alter : to_z w64 (of_z w64 c.at-3.result) ≡ c.at-3.result = grind (arith, to_z-of_z) in
    let said = rw (id, number, alter) at c.delivery_if.ensures in
    delivery_if_fits c.args.wire.now c.args.begun c.args.line c.at.result c.at-2.result c.at-3.result c.delivery_if.result said
