use Rattle.std.proofs.Common.{◌≡◌, ℤ, [], ◌∷◌, sym, ap, ◌∙◌, w64, SFits, arith, rules}
use Rattle.std.proofs.lemmas.Int.{to_z-of_z}
use Rattle.fault_sites.specs.Rests.{changed}
use Rattle.fault_sites.specs.Sites.{addend}
use Rattle.fault_sites.proofs.Spending.{spends_none, spends_more, spends_same}
use Rattle.fault_sites.proofs.rests.then_groups_of.Goals as goal

pub values-init : goal.values-init
values-init g c = spends_none

pub values-preserved : goal.values-preserved
values-preserved g c =
    let n = c.args.n in
    let rs = c.args.rs.now in
    let fits : SFits w64 c.addend.result = search rules in
    let passed = to_z-of_z w64 c.addend.result fits ∙ c.addend.ensures in
    spends_more (λ v. changed n (addend v) rs ∷ []) c.values.v c.values.invariant
    (spends_same c.then_group-spent.ensures (ap (λ (e : ℤ). changed n e rs ∷ []) (sym passed)))

pub returns : goal.returns
returns g c = let all : c.values.v ≡ 124 = omega arith in rw (c.requires.rises ∙ c.if-not-rising.false) (rw all at c.values.invariant)

pub returns-then-not-rising : goal.returns-then-not-rising
returns-then-not-rising g c = rw (c.requires.rises ∙ c.if-not-rising.true) spends_none
