use Rattle.std.proofs.Common.{refl, ap}
use Rattle.std.specs.Option.{option_map}
use Rattle.verdict_tables.specs.Outcome.{as_wrong, as_refused}
use Rattle.verdict_tables.proofs.WordForms.{this_form, other_form}
use Rattle.verdict_tables.proofs.words.meant.Goals as goal

pub returns-then-same_bytes-clause-value : goal.returns-then-same_bytes-clause-value
returns-then-same_bytes-clause-value c =
    rw c.in-Some.ensures.some
    (this_form _ _ _ _ _ c.same_bytes.ensures c.if-same_bytes.true refl)

pub returns-in-None-clause-value : goal.returns-in-None-clause-value
returns-in-None-clause-value c =
    rw c.in-Some.ensures.some
    (other_form _ _ _ _ _ c.same_bytes.ensures c.if-same_bytes.false
    (this_form _ _ _ _ _ c.same_bytes-2.ensures c.if-same_bytes-2.true (ap (option_map as_wrong) c.in-None.ensures.value)))

pub returns-then-same_bytes-3-clause-value : goal.returns-then-same_bytes-3-clause-value
returns-then-same_bytes-3-clause-value c =
    rw c.in-Some.ensures.some
    (other_form _ _ _ _ _ c.same_bytes.ensures c.if-same_bytes.false
    (other_form _ _ _ _ _ c.same_bytes-2.ensures c.if-same_bytes-2.false
    (this_form _ _ _ _ _ c.same_bytes-3.ensures c.if-same_bytes-3.true c.ran_on.ensures)))

pub returns-in-None-shown_at-clause-value : goal.returns-in-None-shown_at-clause-value
returns-in-None-shown_at-clause-value c =
    rw c.in-Some.ensures.some
    (other_form _ _ _ _ _ c.same_bytes.ensures c.if-same_bytes.false
    (other_form _ _ _ _ _ c.same_bytes-2.ensures c.if-same_bytes-2.false
    (other_form _ _ _ _ _ c.same_bytes-3.ensures c.if-same_bytes-3.false
    (this_form _ _ _ _ _ c.same_bytes-4.ensures c.if-same_bytes-4.true (ap (option_map as_refused) c.in-None-shown_at.ensures.value)))))

pub returns-then-same_bytes-5-clause-value : goal.returns-then-same_bytes-5-clause-value
returns-then-same_bytes-5-clause-value c =
    rw c.in-Some.ensures.some
    (other_form _ _ _ _ _ c.same_bytes.ensures c.if-same_bytes.false
    (other_form _ _ _ _ _ c.same_bytes-2.ensures c.if-same_bytes-2.false
    (other_form _ _ _ _ _ c.same_bytes-3.ensures c.if-same_bytes-3.false
    (other_form _ _ _ _ _ c.same_bytes-4.ensures c.if-same_bytes-4.false
    (this_form _ _ _ _ _ c.same_bytes-5.ensures c.if-same_bytes-5.true c.stopped.ensures.value)))))

pub returns-clause-value : goal.returns-clause-value
returns-clause-value c =
    rw c.in-Some.ensures.some
    (other_form _ _ _ _ _ c.same_bytes.ensures c.if-same_bytes.false
    (other_form _ _ _ _ _ c.same_bytes-2.ensures c.if-same_bytes-2.false
    (other_form _ _ _ _ _ c.same_bytes-3.ensures c.if-same_bytes-3.false
    (other_form _ _ _ _ _ c.same_bytes-4.ensures c.if-same_bytes-4.false
    (other_form _ _ _ _ _ c.same_bytes-5.ensures c.if-same_bytes-5.false refl)))))
