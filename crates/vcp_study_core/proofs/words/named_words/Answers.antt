use Rattle.std.proofs.Common.{ap, refl}
use Rattle.std.specs.Option.{option_map}
use Rattle.vcp_study_core.specs.Forms.{list_image, on}
use Rattle.vcp_study_core.proofs.WordForms.{this_form, other_form}
use Rattle.vcp_study_core.proofs.words.named_words.Goals as goal

pub returns-in-Some-clause-form : goal.returns-in-Some-clause-form
returns-in-Some-clause-form c = this_form _ _ _ _ _ c.same_bytes.ensures c.if-same_bytes.true (c.in-Some.ensures c.args.name.now)

pub returns-in-None-clause-form : goal.returns-in-None-clause-form
returns-in-None-clause-form c = this_form _ _ _ _ _ c.same_bytes.ensures c.if-same_bytes.true (c.in-None.ensures c.args.name.now)

pub returns-in-Some-code-clause-form : goal.returns-in-Some-code-clause-form
returns-in-Some-code-clause-form c =
    other_form _ _ _ _ _ c.same_bytes.ensures c.if-same_bytes.false
    (this_form _ _ _ _ _ c.same_bytes-2.ensures c.if-same_bytes-2.true (ap (option_map (list_image c.args.name.now)) c.in-Some-code.ensures.code))

pub returns-in-None-code-clause-form : goal.returns-in-None-code-clause-form
returns-in-None-code-clause-form c =
    other_form _ _ _ _ _ c.same_bytes.ensures c.if-same_bytes.false
    (this_form _ _ _ _ _ c.same_bytes-2.ensures c.if-same_bytes-2.true (ap (option_map (list_image c.args.name.now)) c.in-None-code.ensures.code))

pub returns-then-is_end-clause-form : goal.returns-then-is_end-clause-form
returns-then-is_end-clause-form c =
    other_form _ _ _ _ _ c.same_bytes.ensures c.if-same_bytes.false
    (other_form _ _ _ _ _ c.same_bytes-2.ensures c.if-same_bytes-2.false
    (this_form _ _ _ _ _ c.same_bytes-3.ensures c.if-same_bytes-3.true (this_form _ _ _ _ _ c.is_end.ensures c.if-is_end.true refl)))

pub returns-else-is_end-clause-form : goal.returns-else-is_end-clause-form
returns-else-is_end-clause-form c =
    other_form _ _ _ _ _ c.same_bytes.ensures c.if-same_bytes.false
    (other_form _ _ _ _ _ c.same_bytes-2.ensures c.if-same_bytes-2.false
    (this_form _ _ _ _ _ c.same_bytes-3.ensures c.if-same_bytes-3.true (other_form _ _ _ _ _ c.is_end.ensures c.if-is_end.false refl)))

pub returns-in-Some-study_words-clause-form : goal.returns-in-Some-study_words-clause-form
returns-in-Some-study_words-clause-form c =
    other_form _ _ _ _ _ c.same_bytes.ensures c.if-same_bytes.false
    (other_form _ _ _ _ _ c.same_bytes-2.ensures c.if-same_bytes-2.false
    (other_form _ _ _ _ _ c.same_bytes-3.ensures c.if-same_bytes-3.false (ap (option_map (on c.args.name.now)) c.in-Some-study_words.ensures.form)))

pub returns-in-None-study_words-clause-form : goal.returns-in-None-study_words-clause-form
returns-in-None-study_words-clause-form c =
    other_form _ _ _ _ _ c.same_bytes.ensures c.if-same_bytes.false
    (other_form _ _ _ _ _ c.same_bytes-2.ensures c.if-same_bytes-2.false
    (other_form _ _ _ _ _ c.same_bytes-3.ensures c.if-same_bytes-3.false (ap (option_map (on c.args.name.now)) c.in-None-study_words.ensures.form)))
