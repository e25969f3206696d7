use Rattle.std.proofs.Common.{◌≡◌, ◌≢◌, ℤ, Some, None, sym, ap, ◌∙◌, arith, rules, w64, SFits, to_z, of_z}
use Rattle.std.proofs.lemmas.Int.{to_z-of_z}
use Rattle.coded_unit.specs.Words.{value_part}
use Rattle.coded_machine.specs.CycleEnds.{outputs_of}
use Rattle.fault_injector.specs.declared.verdicts.Verdict.TheVariants as verdict
use Rattle.fault_injector.specs.Verdicts.{judged}
use Rattle.fault_injector.specs.Begun.{answers_in}
use Rattle.fault_injector.proofs.OutputsRead.{value_there, values_count}
use Rattle.fault_injector.proofs.RowsBeside.{fits_64, outside_none, row_ended, row_here, row_passed}
use Rattle.fault_injector.proofs.campaign.reruns.reading.wrong_verdict.Goals as goal

pub value_of-got-requires : goal.value_of-got-requires
value_of-got-requires c =
    let g = c.args.graph.now in
    let fit =
    outside_none g.profile c.args.own.now g.outputs c.outputs.output c.output-outlet.result c.output-outlet.ensures c.outputs.invariant.inside in
    rw c.word_at.ensures (fits_64 _ _ fit.0)

pub value_of-want-requires : goal.value_of-want-requires
value_of-want-requires c =
    let g = c.args.graph.now in
    let fit =
    outside_none g.profile (answers_in c.args.other.now) g.outputs c.outputs.output c.output-outlet.result c.output-outlet.ensures
    c.outputs.invariant.other_inside in
    rw c.other_word.ensures (fits_64 _ _ fit.0)

pub outputs-preserved : goal.outputs-preserved
outputs-preserved c =
    let g = c.args.graph.now in
    let k = c.outputs.output in
    let own = c.args.own.now in
    let other = answers_in c.args.other.now in
    let there = c.output-outlet.ensures in
    let got : SFits w64 c.value_of-got.result = search rules in
    let want : SFits w64 c.value_of-want.result = search rules in
    let same : c.value_of-got.result ≡ c.value_of-want.result =
    sym (to_z-of_z w64 c.value_of-got.result got) ∙ (ap (to_z w64) c.if-got-want.false ∙ to_z-of_z w64 c.value_of-want.result want) in
    let got_is = value_there g own k c.output-outlet.result there
    ∙ ap (λ w. Some (value_part g.profile w)) (sym c.word_at.ensures) ∙ ap (λ (v : ℤ). Some v) (sym c.value_of-got.ensures) in
    let want_is = value_there g other k c.output-outlet.result there
    ∙ ap (λ w. Some (value_part g.profile w)) (sym c.other_word.ensures) ∙ ap (λ (v : ℤ). Some v) (sym c.value_of-want.ensures) in
    record {
      wrong = c.outputs.invariant.wrong
          ∙ row_passed (outputs_of g own) (outputs_of g other) k c.value_of-got.result c.value_of-want.result got_is want_is same;
      inside = (outside_none g.profile own g.outputs k c.output-outlet.result there c.outputs.invariant.inside).1;
      other_inside = (outside_none g.profile other g.outputs k c.output-outlet.result there c.outputs.invariant.other_inside).1;
    }

pub returns-then-got-want : goal.returns-then-got-want
returns-then-got-want c =
    let g = c.args.graph.now in
    let k = c.outputs.output in
    let own = c.args.own.now in
    let other = answers_in c.args.other.now in
    let there = c.output-outlet.ensures in
    let got : SFits w64 c.value_of-got.result = search rules in
    let want : SFits w64 c.value_of-want.result = search rules in
    let differ : c.value_of-got.result ≢ c.value_of-want.result = λ e. c.if-got-want.true (ap (of_z w64) e) in
    let got_is = value_there g own k c.output-outlet.result there
    ∙ ap (λ w. Some (value_part g.profile w)) (sym c.word_at.ensures) ∙ ap (λ (v : ℤ). Some v) (sym c.value_of-got.ensures) in
    let want_is = value_there g other k c.output-outlet.result there
    ∙ ap (λ w. Some (value_part g.profile w)) (sym c.other_word.ensures) ∙ ap (λ (v : ℤ). Some v) (sym c.value_of-want.ensures) in
    ap (λ (x : ℤ). Some (verdict.Wrong c.args.cycle k x (to_z w64 (of_z w64 c.value_of-want.result)))) (to_z-of_z w64 c.value_of-got.result got)
    ∙ (ap (λ (x : ℤ). Some (verdict.Wrong c.args.cycle k c.value_of-got.result x)) (to_z-of_z w64 c.value_of-want.result want)
    ∙ sym (ap (judged c.args.cycle None None None)
    (c.outputs.invariant.wrong
    ∙ row_here (outputs_of g own) (outputs_of g other) k c.value_of-got.result c.value_of-want.result got_is want_is differ)))

pub returns : goal.returns
returns c =
    let g = c.args.graph.now in
    let count = values_count g c.args.own.now in
    sym (ap (judged c.args.cycle None None None)
    (c.outputs.invariant.wrong
    ∙ row_ended (outputs_of g c.args.own.now) (outputs_of g (answers_in c.args.other.now)) c.outputs.output
    (omega (arith, c.outputs-test.false, c.outputs-output-end.ensures, count))))
