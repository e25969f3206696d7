use Rattle.std.proofs.Common.{◌≡◌, ◌≢◌, ◌∙◌, refl, sym, ap, Some, None, false, []}
use Rattle.input_rows.specs.declared.fault.RowFault.{RowFault}
use Rattle.input_rows.specs.declared.fault.RowFault.TheVariants.{Memory, Cycle}
use Rattle.input_rows.specs.declared.wanted.Wanted.{Wanted}
use Rattle.input_rows.specs.RowsOf.{RowsLeft, first_rows}
use Rattle.input_rows.specs.Sources.{rows_left}
use Rattle.input_rows.specs.WantedRows.{wanted_rows}
use Rattle.input_rows.proofs.Nexts.{types_kept, row_given, end_given, again_given, first_none, first_row, first_end}
use Rattle.input_rows.proofs.rows.RowsRowReader.next.Goals as goal

-- what is left, where it is known what is wanted
left_is : (old left : RowsLeft) (wanted w : Wanted) → wanted_rows wanted left ≡ old → wanted ≡ w → old ≡ wanted_rows w left
left_is old left wanted w seen is = sym seen ∙ ap (λ x. wanted_rows x left) is

-- rows that are known don't end
goes_on : (old left : RowsLeft) → old ≡ left → left.ended ≡ false → old.ended ≡ false
goes_on old left is going = ap (λ (l : RowsLeft). l.ended) is ∙ going

-- the same refusal of rows that are known
refused : (old left : RowsLeft) (why : RowFault) → old ≡ left → (why ≢ Memory → (left.rows ≡ []) × (left.refusal ≡ Some why))
    → Some why ≢ Some Memory → (old.rows ≡ []) × (old.refusal ≡ Some why)
refused old left why is h other = rw is (h (λ e. other (ap Some e)))

pub returns-in-Ok-true : goal.returns-in-Ok-true
returns-in-Ok-true c =
    let s = c.self.inside in
    let is = left_is c.args.self.now (rows_left s.source) s.wanted _ c.self.view_is c.in-All.is in
    row_given c.args.self.now _ (rows_left c.next.new.self) c.args.out.now c.next.new.out (ap (λ w. wanted_rows w (rows_left c.next.new.self)) c.in-All.is)
    (goes_on _ _ is c.self.invariant) (is ∙ c.in-Ok-true.ensures.row c.in-Ok-true.field-0-test) c.next.ensures.width

pub returns-in-Ok-false : goal.returns-in-Ok-false
returns-in-Ok-false c =
    let s = c.self.inside in
    let is = left_is c.args.self.now (rows_left s.source) s.wanted _ c.self.view_is c.in-All.is in
    end_given c.args.self.now _ _ c.args.out.now c.next.new.out None _ c.end.ensures.answer c.end.ensures.ended
    (types_kept s.wanted (rows_left s.source) (rows_left c.next.new.self) _ c.self.view_is c.next.ensures.types)
    (goes_on _ _ is c.self.invariant) (λ other. rw is (c.in-Ok-false.ensures.end c.in-Ok-false.field-0-test))
    (c.in-Ok-false.ensures.stays c.in-Ok-false.field-0-test)

pub returns-in-Err : goal.returns-in-Err
returns-in-Err c =
    let s = c.self.inside in
    let is = left_is c.args.self.now (rows_left s.source) s.wanted _ c.self.view_is c.in-All.is in
    end_given c.args.self.now _ _ c.args.out.now c.next.new.out (Some c.in-Err.why) _ c.end-in-Err.ensures.answer c.end-in-Err.ensures.ended
    (types_kept s.wanted (rows_left s.source) (rows_left c.next.new.self) _ c.self.view_is c.next.ensures.types)
    (goes_on _ _ is c.self.invariant) (refused _ _ c.in-Err.why is c.in-Err.ensures.refusal) c.in-Err.ensures.out

pub returns-in-First-eq0-default : goal.returns-in-First-eq0-default
returns-in-First-eq0-default c =
    let s = c.self.inside in
    let f = c.in-First-eq0-default in
    let none : f.rows ≡ 0 = rw f.is at f.rows-test in
    let is : c.args.self.now ≡ first_rows 0 f.behind (rows_left s.source) =
    left_is c.args.self.now (rows_left s.source) s.wanted _ c.self.view_is f.is ∙ ap (λ n. first_rows n f.behind (rows_left s.source)) none in
    end_given c.args.self.now _ c.args.self.now.types c.args.out.now c.args.out.now f.behind _ c.end-in-First-eq0-default.ensures.answer
    c.end-in-First-eq0-default.ensures.ended refl
    (goes_on _ _ is c.self.invariant) (λ other. rw is (first_none f.behind (rows_left s.source))) refl

pub returns-in-Ok-true-next : goal.returns-in-Ok-true-next
returns-in-Ok-true-next c =
    let s = c.self.inside in
    let f = c.in-First in
    let some : ¬ (f.rows ≡ 0) = rw f.is at f.rows-test.1 in
    let is = left_is c.args.self.now (rows_left s.source) s.wanted _ c.self.view_is f.is in
    row_given c.args.self.now _ _ c.args.out.now c.next-in-First.new.out refl (goes_on _ _ is c.self.invariant)
    (is ∙ first_row f.rows f.behind (rows_left s.source) (rows_left c.next-in-First.new.self) c.next-in-First.new.out some
    (c.in-Ok-true-next.ensures.row c.in-Ok-true-next.field-0-test))
    c.next-in-First.ensures.width

pub returns-in-Ok-false-next : goal.returns-in-Ok-false-next
returns-in-Ok-false-next c =
    let s = c.self.inside in
    let f = c.in-First in
    let some : ¬ (f.rows ≡ 0) = rw f.is at f.rows-test.1 in
    let is = left_is c.args.self.now (rows_left s.source) s.wanted _ c.self.view_is f.is in
    let end = c.in-Ok-false-next.ensures.end c.in-Ok-false-next.field-0-test in
    end_given c.args.self.now _ _ c.args.out.now c.next-in-First.new.out (Some Cycle) _
    c.end-in-Ok-false-next.ensures.answer c.end-in-Ok-false-next.ensures.ended
    (types_kept s.wanted (rows_left s.source) (rows_left c.next-in-First.new.self) _ c.self.view_is c.next-in-First.ensures.types)
    (goes_on _ _ is c.self.invariant) (λ other. rw is (first_end f.rows f.behind _ (rows_left s.source) some end.0 (rw end.1 refl)))
    (c.in-Ok-false-next.ensures.stays c.in-Ok-false-next.field-0-test)

pub returns-in-Err-next : goal.returns-in-Err-next
returns-in-Err-next c =
    let s = c.self.inside in
    let f = c.in-First in
    let some : ¬ (f.rows ≡ 0) = rw f.is at f.rows-test.1 in
    let is = left_is c.args.self.now (rows_left s.source) s.wanted _ c.self.view_is f.is in
    end_given c.args.self.now _ _ c.args.out.now c.next-in-First.new.out (Some c.in-Err-next.why) _
    c.end-in-Err-next.ensures.answer c.end-in-Err-next.ensures.ended
    (types_kept s.wanted (rows_left s.source) (rows_left c.next-in-First.new.self) _ c.self.view_is c.next-in-First.ensures.types)
    (goes_on _ _ is c.self.invariant)
    (λ other. let end = c.in-Err-next.ensures.refusal (λ e. other (ap Some e)) in
    rw is (first_end f.rows f.behind _ (rows_left s.source) some end.0 (rw end.1 refl)))
    c.in-Err-next.ensures.out

pub returns-in-Ended : goal.returns-in-Ended
returns-in-Ended c =
    let s = c.self.inside in
    again_given c.args.self.now (rows_left s.source) c.args.out.now c.in-Ended.behind _ c.answer.ensures
    (left_is c.args.self.now (rows_left s.source) s.wanted _ c.self.view_is c.in-Ended.is)
