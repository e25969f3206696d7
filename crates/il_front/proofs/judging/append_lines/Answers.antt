use Rattle.std.proofs.Common.{◌-◌, ◌<◌, length, take, drop, inr, sym, ap, ◌∙◌, arith, length-drop, List, Result, Err}
use Rattle.std.proofs.lemmas.List.{drop_all}
use Rattle.vcp_base.specs.declared.spot.Spot.{Spot}
use Rattle.il_front.specs.declared.fault.IlFault.{IlFault}
use Rattle.il_front.specs.declared.fault.IlFault.TheVariants as fault
use Rattle.il_front.specs.Accumulator.{Instruction}
use Rattle.il_front.specs.Lines.{lines_of}
use Rattle.il_front.proofs.Listing.{first-spot, step_taken, step_refused, step_last, step_not_last, step_none}
use Rattle.il_front.proofs.judging.append_lines.Goals as goal

pub returns-then-to-len-clause-err : goal.returns-then-to-len-clause-err
returns-then-to-len-clause-err c = λ slots tells.
    let ts = c.args.tokens.now.tokens in
    let end = c.args.tokens.now.end in
    let at = c.lines.at in
    let to = c.line_end-to.result in
    let l = take (to - at) (drop at ts) in
    let some : 0 < length (drop to ts) = omega (arith, length-drop to ts, c.if-to-len.true) in
    inr (step_not_last c.args.text.now slots end c.lines.before (lines_of (drop at ts)) l (drop to ts) c.lines.code.items
    c.at.result.spot _ c.line_end-to.ensures.line some
    (sym (c.is_last_word.ensures l c.line_words-line.ensures.are) ∙ c.if-is_last_word.true)
    (first-spot ts at (to - at) c.at.result end c.at.ensures (omega (arith, c.line_end-to.ensures.more))) (c.lines.invariant.so_far slots tells))

pub returns-in-Err-clause-err : goal.returns-in-Err-clause-err
returns-in-Err-clause-err c = λ slots tells.
    let ts = c.args.tokens.now.tokens in
    let end = c.args.tokens.now.end in
    let at = c.lines.at in
    let to = c.line_end-to.result in
    let l = take (to - at) (drop at ts) in
    step_refused c.args.text.now slots end c.lines.before (lines_of (drop at ts)) (lines_of (drop to ts)) l c.lines.code.items c.at.result.spot _ _
    c.line_end-to.ensures.line (first-spot ts at (to - at) c.at.result end c.at.ensures (omega (arith, c.line_end-to.ensures.more)))
    (sym (c.is_last_word.ensures l c.line_words-line.ensures.are) ∙ c.if-is_last_word.false)
    (c.in-Err.ensures slots l tells c.line_words-line.ensures.are) (c.lines.invariant.so_far slots tells)

pub lines-preserved : goal.lines-preserved
lines-preserved c =
    let ts = c.args.tokens.now.tokens in
    let end = c.args.tokens.now.end in
    let at = c.lines.at in
    let to = c.line_end-to.result in
    let l = take (to - at) (drop at ts) in
    let taken = c.in-Ok.taken in
    record {
      within = c.line_end-to.ensures.within;
      so_far = λ slots tells.
          step_taken c.args.text.now slots end c.lines.before (lines_of (drop at ts)) (lines_of (drop to ts)) l c.lines.code.items _
          c.at.result.spot taken.instruction taken.ty _ c.line_end-to.ensures.line
          (first-spot ts at (to - at) c.at.result end c.at.ensures (omega (arith, c.line_end-to.ensures.more)))
          (sym (c.is_last_word.ensures l c.line_words-line.ensures.are) ∙ c.if-is_last_word.false)
          (c.in-Ok.ensures slots l tells c.line_words-line.ensures.are)
          c.in-Ok-push.ensures.items (c.lines.invariant.so_far slots tells);
    }

pub returns-then-is_last_word-clause-ok : goal.returns-then-is_last_word-clause-ok
returns-then-is_last_word-clause-ok c = λ slots tells.
    let ts = c.args.tokens.now.tokens in
    let at = c.lines.at in
    let to = c.line_end-to.result in
    let l = take (to - at) (drop at ts) in
    step_last c.args.text.now slots c.args.tokens.now.end c.lines.before (lines_of (drop at ts)) l (drop to ts) c.lines.code.items _
    c.line_end-to.ensures.line (drop_all to ts (omega (arith, c.if-to-len.false)))
    (sym (c.is_last_word.ensures l c.line_words-line.ensures.are) ∙ c.if-is_last_word.true) (c.lines.invariant.so_far slots tells)

pub returns-clause-err : goal.returns-clause-err
returns-clause-err c = λ slots tells.
    let ts = c.args.tokens.now.tokens in
    let at = c.lines.at in
    inr (step_none c.args.text.now slots c.args.tokens.now.end c.lines.before (drop at ts) c.lines.code.items _
    (drop_all at ts (omega (arith, c.lines-test.false))) (c.lines.invariant.so_far slots tells)
    ∙ ap (λ (s : Spot). let x : Result (List Instruction) IlFault = Err (fault.Instruction s) in x) (sym c.end.ensures))
