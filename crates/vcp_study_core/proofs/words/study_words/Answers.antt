use Rattle.std.proofs.Common.{ap}
use Rattle.std.specs.Option.{option_map}
use Rattle.vcp_study_core.specs.Forms.{graph, dot}
use Rattle.vcp_study_core.proofs.WordForms.{this_form, other_form}
use Rattle.vcp_study_core.proofs.words.study_words.Goals as goal

pub returns-in-Some-clause-form : goal.returns-in-Some-clause-form
returns-in-Some-clause-form c = this_form _ _ _ _ _ c.same_bytes.ensures c.if-same_bytes.true (ap (option_map graph) c.in-Some.ensures.horizon)

pub returns-in-None-clause-form : goal.returns-in-None-clause-form
returns-in-None-clause-form c = this_form _ _ _ _ _ c.same_bytes.ensures c.if-same_bytes.true (ap (option_map graph) c.in-None.ensures.horizon)

pub returns-in-Some-last_horizon-clause-form : goal.returns-in-Some-last_horizon-clause-form
returns-in-Some-last_horizon-clause-form c =
    other_form _ _ _ _ _ c.same_bytes.ensures c.if-same_bytes.false
    (this_form _ _ _ _ _ c.same_bytes-2.ensures c.if-same_bytes-2.true (ap (option_map dot) c.in-Some-last_horizon.ensures.horizon))

pub returns-in-None-last_horizon-clause-form : goal.returns-in-None-last_horizon-clause-form
returns-in-None-last_horizon-clause-form c =
    other_form _ _ _ _ _ c.same_bytes.ensures c.if-same_bytes.false
    (this_form _ _ _ _ _ c.same_bytes-2.ensures c.if-same_bytes-2.true (ap (option_map dot) c.in-None-last_horizon.ensures.horizon))

pub returns-then-same_bytes-3-clause-form : goal.returns-then-same_bytes-3-clause-form
returns-then-same_bytes-3-clause-form c =
    other_form _ _ _ _ _ c.same_bytes.ensures c.if-same_bytes.false
    (other_form _ _ _ _ _ c.same_bytes-2.ensures c.if-same_bytes-2.false
    (this_form _ _ _ _ _ c.same_bytes-3.ensures c.if-same_bytes-3.true c.ranges_words.ensures.form))

pub returns-then-same_bytes-4-clause-form : goal.returns-then-same_bytes-4-clause-form
returns-then-same_bytes-4-clause-form c =
    other_form _ _ _ _ _ c.same_bytes.ensures c.if-same_bytes.false
    (other_form _ _ _ _ _ c.same_bytes-2.ensures c.if-same_bytes-2.false
    (other_form _ _ _ _ _ c.same_bytes-3.ensures c.if-same_bytes-3.false
    (this_form _ _ _ _ _ c.same_bytes-4.ensures c.if-same_bytes-4.true c.cover_words.ensures.form)))

pub returns-clause-form : goal.returns-clause-form
returns-clause-form c =
    other_form _ _ _ _ _ c.same_bytes.ensures c.if-same_bytes.false
    (other_form _ _ _ _ _ c.same_bytes-2.ensures c.if-same_bytes-2.false
    (other_form _ _ _ _ _ c.same_bytes-3.ensures c.if-same_bytes-3.false
    (other_form _ _ _ _ _ c.same_bytes-4.ensures c.if-same_bytes-4.false (c.fault_study_words.ensures.form))))
