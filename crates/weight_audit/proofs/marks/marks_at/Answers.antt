use Rattle.std.proofs.Common.{◌≡◌, ◌++◌, false, length, take, drop, replicate, ap, sym, subst, ◌∙◌, arith}
use Rattle.std.proofs.Math.Seq.{take-append_seam}
use Rattle.weight_audit.specs.Sweeping.{AreMarks}
use Rattle.weight_audit.proofs.marks.marks_at.Goals as goal

pub mark_to_out-requires-clause-none : goal.mark_to_out-requires-clause-none
mark_to_out-requires-clause-none c =
    c.deref_mut.ensures.value ∙ (c.in_ok-marks.ensures.items_if_clones_equal (λ y e. e) ∙ ap (λ n. replicate n false) c.len.ensures.count)

pub returns : goal.returns
returns c =
    let new = c.mark_to_out.new.marks in
    let left = drop (length new) c.in_ok-marks.marks.items in
    let many : c.in_ok-marks.marks.len ≡ length new = omega (arith, c.mark_to_out.auto.marks, ap length c.deref_mut.ensures.value, c.in_ok-marks.marks.ok.0) in
    subst (λ xs. AreMarks c.args.graph.now c.args.out 0 xs) (sym (ap (λ n. take n (new ++ left)) many ∙ take-append_seam new left)) c.mark_to_out.ensures
