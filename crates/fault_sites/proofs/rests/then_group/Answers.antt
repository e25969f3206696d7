use Rattle.std.proofs.Common.{◌≤◌, ◌-◌, [], ◌∷◌, length, ℤ, w64, SFits, refl, ap, sym, arith, rules}
use Rattle.std.proofs.lemmas.Int.{to_z-of_z}
use Rattle.fault_sites.specs.Rests.{changed}
use Rattle.fault_sites.specs.Telling.{fed_lines}
use Rattle.fault_sites.proofs.GroupsFit.{changed_many}
use Rattle.fault_sites.proofs.Spending.{budget, spends_full, spends_one, spends_over, spends_past}
use Rattle.vcp_outside.specs.Pens.{and_then, same}
use Rattle.fault_sites.proofs.rests.then_group.Goals as goal

pub returns-then-budget-eq0 : goal.returns-then-budget-eq0
returns-then-budget-eq0 g c = spends_over (changed c.args.n c.args.e c.args.rs.now ∷ []) c.if-budget-eq0.true

pub returns-then-budget-gt0 : goal.returns-then-budget-gt0
returns-then-budget-gt0 g c =
    spends_past (changed c.args.n c.args.e c.args.rs.now ∷ []) (omega (arith, c.if-budget-eq0.false)) (omega (arith, c.if-budget-gt0.true)) refl

pub returns-then-budget-count : goal.returns-then-budget-count
returns-then-budget-count g c =
    let xs = changed c.args.n c.args.e c.args.rs.now in
    let many = changed_many c.args.n c.args.e c.args.rs.now in
    spends_full xs (omega (arith, c.if-budget-eq0.false)) (omega (arith, c.if-budget-gt0.false)) (omega (arith, c.if-budget-count.true, many)) refl

pub returns : goal.returns
returns g c =
    let xs = changed c.args.n c.args.e c.args.rs.now in
    let many = changed_many c.args.n c.args.e c.args.rs.now in
    let fits : length xs ≤ c.args.spent.budget.room = omega (arith, c.if-budget-count.false, many) in
    let moderate : SFits w64 c.args.e = search rules in
    let passed = to_z-of_z w64 c.args.e moderate in
    let lines = same c.then_changed.ensures (ap (λ (e : ℤ). fed_lines (changed c.args.n e c.args.rs.now)) (sym passed)) in
    spends_one xs (omega (arith, c.if-budget-eq0.false)) (omega (arith, c.if-budget-gt0.false)) fits
    (and_then c.text.ensures (and_then lines c.text-pen.ensures))
    (ap (λ m. budget 0 (c.args.spent.budget.left - 1) (c.args.spent.budget.room - m)) (sym many))
