use Rattle.std.proofs.Common.{◌≡◌, ◌≤◌, ◌+ℤ◌, pos, slice_get, slice_index_or, ap, sym, subst, ◌∙◌, arith}
use Rattle.std.proofs.lemmas.Option.{same_Some, slice_get_within}
use Rattle.weight_audit.specs.Audit.{IsAudit}
use Rattle.coded_unit.specs.Words.{modulo}
use Rattle.fault_cover.specs.declared.nearest.Nearest.{Nearest}
use Rattle.fault_cover.specs.Sources.{part}
use Rattle.fault_cover.specs.Surveys.{IsOutputOf}
use Rattle.fault_cover.proofs.Tellings.{audit_for, out_inside}
use Rattle.fault_cover.proofs.rests.sum_of.Goals as goal

pub number-number-requires : goal.number-number-requires
number-number-requires c =
    let inside = out_inside c.args.graph.now c.in-Some.first.op c.entries_keep_their_rules.ensures c.requires.graph.part (c.requires.out c.in-Some.first c.in-Some.is) in
    omega (arith, inside, c.requires.maps.numbers.many)

pub then_comes-requires-clause-audit : goal.then_comes-requires-clause-audit
then_comes-requires-clause-audit c =
    let g = c.args.graph.now in
    let v = c.args.survey.now in
    subst (λ a. IsAudit g a.horizon a) (sym c.weights.ensures) (audit_for g v.horizon v.weights c.requires.maps.weights)

pub then_comes-requires-clause-output : goal.then_comes-requires-clause-output
then_comes-requires-clause-output c =
    let v = c.args.survey.now in
    let out = c.requires.out c.in-Some.first c.in-Some.is in
    let number = sym c.number-number.ensures ∙ ap (λ q. slice_index_or v.numbers q 0) (sym out.3) ∙ c.requires.maps.numbers.each out.0 out.1 out.2 in
    let inside = slice_get_within c.args.graph.now.outputs out.0 out.1 out.2 in
    omega (arith, number, inside)

pub then_comes-requires-clause-borders : goal.then_comes-requires-clause-borders
then_comes-requires-clause-borders c =
    let borders_is = c.requires.maps.weights.horizon_is in
    subst (λ a. c.in-Some.first.borders ≤ a.horizon) (sym c.weights.ensures) (omega (arith, c.if-horizon-first.false, c.horizon-horizon.ensures, borders_is))

pub returns-then-horizon-first-clause-value : goal.returns-then-horizon-first-clause-value
returns-then-horizon-first-clause-value c = λ n o s is out within starts.
    let same = same_Some c.in-Some.first n (sym c.in-Some.is ∙ is) in
    let near = ap (λ (m : Nearest). m.borders) same in
    absurd (omega (arith, near, within, c.if-horizon-first.true, c.horizon-horizon.ensures))

pub returns-else-horizon-first-clause-value : goal.returns-else-horizon-first-clause-value
returns-else-horizon-first-clause-value c = λ n o s is out within starts.
    let same = same_Some c.in-Some.first n (sym c.in-Some.is ∙ is) in
    let there = subst (λ m. IsOutputOf c.args.graph.now c.args.survey.now m o) (sym same) out in
    subst (λ (m : Nearest). c.then_comes.result ≡ modulo c.args.graph.now.profile (pos c.came-before.result +ℤ part c.args.graph.now o.op m.borders s)) same
    (c.then_comes.ensures.value s o starts (ap (slice_get c.args.graph.now.outputs) (sym c.number-number.ensures) ∙ there))
    ∙ ap (λ before. modulo c.args.graph.now.profile (pos before +ℤ part c.args.graph.now o.op n.borders s)) c.came-before.ensures
