use Rattle.std.proofs.Common.{◌≡◌, List, length, refl, ap, sym, subst, ◌∙◌, arith}
use Rattle.std.proofs.lemmas.List.{length-map, with_items_is}
use Rattle.coded_unit.specs.Log.{Counts}
use Rattle.fault_script.specs.Changes.{kept_after}
use Rattle.fault_injector.specs.declared.runs.scripted.Carried.{Carried}
use Rattle.fault_injector.specs.Carried.{faults_of, keeps_of}
use Rattle.fault_injector.specs.Scripts.{right_under, Performed}
use Rattle.fault_injector.proofs.runs.scripted.ScriptedUnit.perform.Goals as goal

pub carried_out-given-requires : goal.carried_out-given-requires
carried_out-given-requires g c = c.requires

pub answer-requires : goal.answer-requires
answer-requires g c = c.requires

pub returns-clause-log : goal.returns-clause-log
returns-clause-log g c = tt

pub returns-clause-wrong : goal.returns-clause-wrong
returns-clause-wrong g c =
    subst (λ right. Counts c.carried_out-given.result right c.args.self.now.wrong c.counted-self.result) c.answer.ensures.right c.counted-self.ensures

pub returns-clause-same : goal.returns-clause-same
returns-clause-same g c = refl

pub returns-clause-performed : goal.returns-clause-performed
returns-clause-performed g c =
    subst (λ (carried : List Carried). Performed (faults_of carried) (keeps_of carried) c.args.call.now c.carried_out-given.result
    (g.U.Unit.seen c.args.self.now.unit.now).log (g.U.Unit.seen c.carried_out-given.new.unit).log (g.U.Unit.seen c.args.self.now.unit.now).wrong
    (g.U.Unit.seen c.carried_out-given.new.unit).wrong) c.deref.ensures.value c.carried_out-given.ensures.performed

pub returns-clause-right : goal.returns-clause-right
returns-clause-right g c = λ honest.
    c.carried_out-given.ensures.right honest
    ∙ ap (λ (carried : List Carried). right_under (faults_of carried) (keeps_of carried) c.args.call.now) c.deref.ensures.value

pub returns-clause-faults : goal.returns-clause-faults
returns-clause-faults g c =
    let new = c.keep.new.carried in
    let old = c.deref_mut.result.now in
    let fault = λ (x : Carried). x.fault in
    let many : length new ≡ length old = sym (length-map new fault) ∙ ap length c.keep.ensures.faults ∙ length-map old fault in
    let same : length new ≡ c.args.self.now.carried.len = omega (arith, many, c.deref_mut.ensures.len) in
    ap faults_of (with_items_is c.args.self.now.carried new same) ∙ c.keep.ensures.faults ∙ ap faults_of c.deref_mut.ensures.value

pub returns-clause-kept : goal.returns-clause-kept
returns-clause-kept g c =
    let new = c.keep.new.carried in
    let old = c.deref_mut.result.now in
    let fault = λ (x : Carried). x.fault in
    let many : length new ≡ length old = sym (length-map new fault) ∙ ap length c.keep.ensures.faults ∙ length-map old fault in
    let same : length new ≡ c.args.self.now.carried.len = omega (arith, many, c.deref_mut.ensures.len) in
    ap keeps_of (with_items_is c.args.self.now.carried new same) ∙ c.keep.ensures.kept
    ∙ ap (λ (carried : List Carried). kept_after (faults_of carried) (keeps_of carried) c.args.call.now c.carried_out-given.result) c.deref_mut.ensures.value
