use Rattle.std.proofs.Common.{◌≡◌, ◌==◌, nat_lt, true, false, refl, arith}
use Rattle.std.proofs.lemmas.Bool.Decides.{nat_tests}
use Rattle.fault_sites.proofs.scripts.of_rests.has_begun.Goals as goal

pub returns-then-part-eq0 : goal.returns-then-part-eq0
returns-then-part-eq0 c = let none : (c.args.part.left == 0) ≡ true = grind (arith, nat_tests) in rw none refl

pub returns-then-next-gt0 : goal.returns-then-next-gt0
returns-then-next-gt0 c =
    let some : (c.args.part.left == 0) ≡ false = grind (arith, nat_tests) in
    let on : nat_lt 0 c.args.next.left ≡ true = grind (arith, nat_tests) in
    rw (some, on) refl

pub returns : goal.returns
returns c =
    let some : (c.args.part.left == 0) ≡ false = grind (arith, nat_tests) in
    let over : nat_lt 0 c.args.next.left ≡ false = grind (arith, nat_tests) in
    rw (some, over) refl
