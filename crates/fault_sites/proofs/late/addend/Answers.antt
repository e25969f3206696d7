use Rattle.std.proofs.Common.{◌≡◌, ◌<◌, ◌^◌, ◌-◌, ℤ, ◌-ℤ◌, SFits, w64, to_z, of_z, sym, ap, subst, ◌∙◌, arith}
use Rattle.std.specs.Prelude.{unsigned_abs}
use Rattle.std.specs.Int.{w128}
use Rattle.std.proofs.lemmas.Int.{ints, to_z-of_z}
use Rattle.vcp_base.specs.Values.{at}
use Rattle.fault_sites.specs.RunCycle.{expected_word}
use Rattle.fault_sites.proofs.late.addend.Goals as goal

difference_fits : (x y : ℤ) → unsigned_abs x < 2 ^ 126 → unsigned_abs y < 2 ^ 126 → SFits w128 (x -ℤ y)
difference_fits x y first second = omega (arith, ints)

-- as they are read
as_read : (x y p q : ℤ) → SFits w128 x → SFits w128 y → x ≡ p → y ≡ q → to_z w128 (of_z w128 x) -ℤ to_z w128 (of_z w128 y) ≡ p -ℤ q
as_read x y p q f h is also =
    ap (λ (z : ℤ). z -ℤ to_z w128 (of_z w128 y)) (to_z-of_z w128 x f ∙ is) ∙ ap (λ (z : ℤ). p -ℤ z) (to_z-of_z w128 y h ∙ also)

pub overflow_sub-result : goal.overflow_sub-result
overflow_sub-result c =
    let x = c.get.result in
    let y = c.get-2.result in
    let fx : SFits w128 x = record { sfits = c.get.type_inv } in
    let fy : SFits w128 y = record { sfits = c.get-2.type_inv } in
    subst (SFits w128) (sym (as_read x y c.expected_word-past.result c.read_word.result fx fy c.get.ensures.value c.get-2.ensures.value))
    (difference_fits c.expected_word-past.result c.read_word.result c.get.ensures.bound c.get-2.ensures.bound)

pub returns : goal.returns
returns c =
    let x = c.get.result in
    let y = c.get-2.result in
    let p = c.expected_word-past.result in
    let q = c.read_word.result in
    let now = c.args.c.now in
    let fx : SFits w128 x = record { sfits = c.get.type_inv } in
    let fy : SFits w128 y = record { sfits = c.get-2.type_inv } in
    let fv : SFits w64 c.at.result = record { sfits = c.at.type_inv } in
    ap (λ (z : ℤ). to_z w128 (of_z w128 z)) (as_read x y p q fx fy c.get.ensures.value c.get-2.ensures.value)
    ∙ (to_z-of_z w128 (p -ℤ q) (difference_fits p q c.get.ensures.bound c.get-2.ensures.bound)
    ∙ (ap (λ (z : ℤ). z -ℤ q)
    (c.expected_word-past.ensures ∙ ap (λ (v : ℤ). expected_word now.table.now (now.cycle - 1) c.args.r v) (to_z-of_z w64 c.at.result fv ∙ c.at.ensures))
    ∙ ap (λ (z : ℤ). expected_word now.table.now (now.cycle - 1) c.args.r (at now.past.now c.args.r) -ℤ z) c.read_word.ensures))
