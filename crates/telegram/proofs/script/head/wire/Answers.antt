use Rattle.std.proofs.Common.{◌≡◌, length, sym, ap, ◌∙◌, arith, to_z, of_z, to_z-of_z, w64}
use Rattle.telegram.specs.Forms.{or_range}
use Rattle.telegram.proofs.Heads.{five}
use Rattle.telegram.proofs.script.head.wire.Goals as goal

pub returns-in-Some : goal.returns-in-Some
returns-in-Some c =
    let many : length c.args.numbers.now ≡ 5 = omega (arith, c.len.ensures, c.if-len-ne5.false) in
    let senders : to_z w64 (of_z w64 c.at.result) ≡ c.at.result = grind (arith, to_z-of_z) in
    let listen : to_z w64 (of_z w64 c.at-2.result) ≡ c.at-2.result = grind (arith, to_z-of_z) in
    let age : to_z w64 (of_z w64 c.at-3.result) ≡ c.at-3.result = grind (arith, to_z-of_z) in
    let seed : to_z w64 (of_z w64 c.at-4.result) ≡ c.at-4.result = grind (arith, to_z-of_z) in
    let step : to_z w64 (of_z w64 c.at-5.result) ≡ c.at-5.result = grind (arith, to_z-of_z) in
    let said = rw (senders, listen, age, seed, step) at c.wire_with-wire.ensures.wire in
    record {
      wire = ap (or_range c.args.line) (sym c.in-Some.is ∙ said)
          ∙ sym (five c.args.line c.args.numbers.now c.at.result c.at-2.result c.at-3.result c.at-4.result c.at-5.result many c.at.ensures c.at-2.ensures
          c.at-3.ensures c.at-4.ensures c.at-5.ensures);
      fits = c.in-Some.ensures.fits;
    }

pub returns-in-None : goal.returns-in-None
returns-in-None c =
    let many : length c.args.numbers.now ≡ 5 = omega (arith, c.len.ensures, c.if-len-ne5.false) in
    let senders : to_z w64 (of_z w64 c.at.result) ≡ c.at.result = grind (arith, to_z-of_z) in
    let listen : to_z w64 (of_z w64 c.at-2.result) ≡ c.at-2.result = grind (arith, to_z-of_z) in
    let age : to_z w64 (of_z w64 c.at-3.result) ≡ c.at-3.result = grind (arith, to_z-of_z) in
    let seed : to_z w64 (of_z w64 c.at-4.result) ≡ c.at-4.result = grind (arith, to_z-of_z) in
    let step : to_z w64 (of_z w64 c.at-5.result) ≡ c.at-5.result = grind (arith, to_z-of_z) in
    let said = rw (senders, listen, age, seed, step) at c.wire_with-wire.ensures.wire in
    record {
      wire = ap (or_range c.args.line) (sym c.in-None.is ∙ said)
          ∙ sym (five c.args.line c.args.numbers.now c.at.result c.at-2.result c.at-3.result c.at-4.result c.at-5.result many c.at.ensures c.at-2.ensures
          c.at-3.ensures c.at-4.ensures c.at-5.ensures);
      fits = tt;
    }
