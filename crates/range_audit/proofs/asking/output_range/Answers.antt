use Rattle.std.proofs.Common.{◌≡◌, ◌+◌, ◌≤◌, length, take, pos, ap, sym, subst, ◌∙◌, length-take-le, get_or-take, arith}
use Rattle.range_walk.specs.Intervals.{IsIn, Fit}
use Rattle.range_audit.proofs.Closer.{given_first, fit_first}
use Rattle.range_audit.proofs.asking.output_range.Goals as goal

pub returns-then-effort-eq0 : goal.returns-then-effort-eq0
returns-then-effort-eq0 c = λ held row vs hold given lt fit. fit c.args.i c.earlier_range-before.result lt c.earlier_range-before.ensures

pub returns-in_default : goal.returns-in_default
returns-in_default c = λ held row vs hold given lt fit. fit c.args.i c.earlier_range-before.result lt c.earlier_range-before.ensures

pub range_by_cases-requires : goal.range_by_cases-requires
range_by_cases-requires c =
    let le : c.args.i + 1 ≤ length c.args.known.now = omega (arith, c.requires.there, c.requires.many) in
    let count = ap length c.first_ranges-first.ensures.first ∙ length-take-le (c.args.i + 1) c.args.known.now le in
    let many : length c.deref.result.now ≡ c.args.i + 1 = ap length c.deref.ensures.value ∙ c.in-Some.ensures.many ∙ count in
    record { there = omega (arith, many); many = omega (arith, many, c.requires.there) }

pub returns : goal.returns
returns c = λ held row vs hold given lt fit.
    let i = c.args.i in
    let le : i + 1 ≤ length vs = omega (arith, lt) in
    let many : length (take (i + 1) vs) ≡ i + 1 = length-take-le (i + 1) vs le in
    let count = ap length c.first_ranges-first.ensures.first ∙ length-take-le (i + 1) c.args.known.now (omega (arith, c.requires.there, c.requires.many)) in
    let given_so = given_first c.args.cycle.now.graph.now.operations held row vs (i + 1) le given in
    let fit_so = c.first_ranges-first.ensures.fits (take (i + 1) vs) (fit_first c.args.known.now vs (i + 1) le fit) in
    let narrow = c.in-Some.ensures.fits held row (take (i + 1) vs) hold given_so (many ∙ sym count) fit_so in
    let whole = many ∙ sym (ap length c.deref.ensures.value ∙ c.in-Some.ensures.many ∙ count) in
    subst (λ v. IsIn c.range_by_cases.result v) (get_or-take (i + 1) vs i (pos 0) (omega arith))
    (c.range_by_cases.ensures held row (take (i + 1) vs) hold given_so whole (subst (λ rs. Fit rs (take (i + 1) vs)) (sym c.deref.ensures.value) narrow))
