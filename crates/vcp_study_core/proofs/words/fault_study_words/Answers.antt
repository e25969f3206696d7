use Rattle.std.proofs.Common.{ℕ, List, Option, refl, ap, ◌∙◌}
use Rattle.std.specs.Option.{option_and_then, option_map}
use Rattle.vcp_inputs.specs.Forms.{Rows}
use Rattle.vcp_study_core.specs.Forms.{Study, behind_form, faults, last_name, script_named}
use Rattle.vcp_study_core.proofs.WordForms.{this_form, other_form}
use Rattle.vcp_study_core.proofs.words.fault_study_words.Goals as goal

-- `faults` by the name of its script, and the words behind that
abbrev faults_by : List ℕ → List ℕ → Study
faults_by script verdicts = faults (record { script = script; verdicts = verdicts })

abbrev faults_from : List ℕ × List (List ℕ) → Option Study
faults_from s = option_map (faults_by s.0) (last_name s.1)

pub returns-in-Some-clause-form : goal.returns-in-Some-clause-form
returns-in-Some-clause-form c =
    this_form _ _ _ _ _ c.same_bytes.ensures c.if-same_bytes.true
    (c.behind_words.ensures.form ∙ ap (option_and_then (λ (r : Rows × List (List ℕ)). behind_form r.0 r.1)) c.in-Some.ensures.rows)

pub returns-in-None-clause-form : goal.returns-in-None-clause-form
returns-in-None-clause-form c =
    this_form _ _ _ _ _ c.same_bytes.ensures c.if-same_bytes.true
    (ap (option_and_then (λ (r : Rows × List (List ℕ)). behind_form r.0 r.1)) c.in-None.ensures.rows)

pub returns-then-same_bytes-2-clause-form : goal.returns-then-same_bytes-2-clause-form
returns-then-same_bytes-2-clause-form c =
    other_form _ _ _ _ _ c.same_bytes.ensures c.if-same_bytes.false
    (this_form _ _ _ _ _ c.same_bytes-2.ensures c.if-same_bytes-2.true c.sum_words.ensures.form)

pub returns-in-None-name-clause-form : goal.returns-in-None-name-clause-form
returns-in-None-name-clause-form c =
    other_form _ _ _ _ _ c.same_bytes.ensures c.if-same_bytes.false
    (other_form _ _ _ _ _ c.same_bytes-2.ensures c.if-same_bytes-2.false
    (this_form _ _ _ _ _ c.same_bytes-3.ensures c.if-same_bytes-3.true (ap (option_and_then faults_from) c.in-None-name.ensures)))

pub returns-in-Some-last_name-clause-form : goal.returns-in-Some-last_name-clause-form
returns-in-Some-last_name-clause-form c =
    other_form _ _ _ _ _ c.same_bytes.ensures c.if-same_bytes.false
    (other_form _ _ _ _ _ c.same_bytes-2.ensures c.if-same_bytes-2.false
    (this_form _ _ _ _ _ c.same_bytes-3.ensures c.if-same_bytes-3.true
    (ap (option_map (faults_by c.in-Some-name.script.now)) c.in-Some-last_name.ensures ∙ ap (option_and_then faults_from) c.in-Some-name.ensures)))

pub returns-in-None-last_name-clause-form : goal.returns-in-None-last_name-clause-form
returns-in-None-last_name-clause-form c =
    other_form _ _ _ _ _ c.same_bytes.ensures c.if-same_bytes.false
    (other_form _ _ _ _ _ c.same_bytes-2.ensures c.if-same_bytes-2.false
    (this_form _ _ _ _ _ c.same_bytes-3.ensures c.if-same_bytes-3.true
    (ap (option_map (faults_by c.in-Some-name.script.now)) c.in-None-last_name.ensures ∙ ap (option_and_then faults_from) c.in-Some-name.ensures)))

pub returns-in-Some-last_name-2-clause-form : goal.returns-in-Some-last_name-2-clause-form
returns-in-Some-last_name-2-clause-form c =
    other_form _ _ _ _ _ c.same_bytes.ensures c.if-same_bytes.false
    (other_form _ _ _ _ _ c.same_bytes-2.ensures c.if-same_bytes-2.false
    (other_form _ _ _ _ _ c.same_bytes-3.ensures c.if-same_bytes-3.false
    (this_form _ _ _ _ _ c.same_bytes-4.ensures c.if-same_bytes-4.true (ap (option_map script_named) c.in-Some-last_name-2.ensures))))

pub returns-in-None-last_name-2-clause-form : goal.returns-in-None-last_name-2-clause-form
returns-in-None-last_name-2-clause-form c =
    other_form _ _ _ _ _ c.same_bytes.ensures c.if-same_bytes.false
    (other_form _ _ _ _ _ c.same_bytes-2.ensures c.if-same_bytes-2.false
    (other_form _ _ _ _ _ c.same_bytes-3.ensures c.if-same_bytes-3.false
    (this_form _ _ _ _ _ c.same_bytes-4.ensures c.if-same_bytes-4.true (ap (option_map script_named) c.in-None-last_name-2.ensures))))

pub returns-clause-form : goal.returns-clause-form
returns-clause-form c =
    other_form _ _ _ _ _ c.same_bytes.ensures c.if-same_bytes.false
    (other_form _ _ _ _ _ c.same_bytes-2.ensures c.if-same_bytes-2.false
    (other_form _ _ _ _ _ c.same_bytes-3.ensures c.if-same_bytes-3.false
    (other_form _ _ _ _ _ c.same_bytes-4.ensures c.if-same_bytes-4.false refl)))
