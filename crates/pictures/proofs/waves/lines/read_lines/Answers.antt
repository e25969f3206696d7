use Rattle.std.proofs.Common.{Ok, Err, ◌≤◌, refl, sym, ap, subst, ◌∙◌}
use Rattle.std.proofs.lemmas.Result.{err_from_is_err_and, IfOk-from_err}
use Rattle.csv.specs.Records.{fields_of}
use Rattle.vcp_base.specs.Limits.{most_cycles}
use Rattle.pictures.specs.RunOf.{ToldLines, told_from}
use Rattle.pictures.proofs.Reading.{row_at, refused_at, last_at, nothing_at, tells_refusal, no_memory, wide_more, few_more, count_more}
use Rattle.pictures.proofs.waves.lines.read_lines.Goals as goal

pub lines-preserved : goal.lines-preserved
lines-preserved c = record {
  told = λ left begun. row_at c.args.width c.lines.cycle c.lines.rows c.push.new.self c.lines.records.left c.next.new.self.left (fields_of c.next.new.cells)
      c.in_ok-next.field-0 (told_from c.args.width 0 left) c.in-Ok-Row.row (c.lines.invariant.told left begun) c.in_ok-next.ensures.reads c.if-branch.true
      (c.in-Ok-Row.ensures.line ∙ ap Ok c.in-Ok-Row.field-0-is) c.in-Ok.ensures.ok;
  width =
      wide_more c.args.width c.lines.cycle c.lines.rows c.push.new.self c.in-Ok-Row.row c.in-Ok-Row.field-0 c.lines.invariant.width c.in-Ok-Row.field-0-is
      c.in-Ok-Row.ensures.width c.in-Ok.ensures.ok;
  count = count_more c.lines.cycle c.lines.rows c.push.new.self c.in-Ok-Row.row c.lines.invariant.count c.in-Ok.ensures.ok;
  few = few_more c.args.width c.lines.cycle c.in-Ok-Row.row c.in-Ok-Row.field-0 c.in-Ok-Row.field-0-is c.in-Ok-Row.ensures.width;
}

pub returns-in_err-next : goal.returns-in_err-next
returns-in_err-next c =
    let r = c.from_residual.result in
    let p = err_from_is_err_and r c.from_residual.ensures.1 in
    record {
      told = λ left begun. no_memory (told_from c.args.width 0 left) r (p.1 ∙ ap Err p.2);
      width = IfOk-from_err r _ c.from_residual.ensures.0;
      few = IfOk-from_err r _ c.from_residual.ensures.0;
    }

pub returns-in-Err-push : goal.returns-in-Err-push
returns-in-Err-push c = record { told = λ left begun. no_memory (told_from c.args.width 0 left) _ refl; width = tt; few = tt }

pub returns-in-Err : goal.returns-in-Err
returns-in-Err c = record {
  told = λ left begun. tells_refusal (told_from c.args.width 0 left) _ c.in-Err.fault refl
      (λ other. refused_at c.args.width c.lines.cycle c.lines.rows c.lines.records.left c.next.new.self.left (fields_of c.next.new.cells)
      c.in_ok-next.field-0 (told_from c.args.width 0 left) c.in-Err.fault (c.lines.invariant.told left begun) c.in_ok-next.ensures.reads
      c.if-branch.true (c.in-Err.ensures.line other));
  width = tt;
  few = tt;
}

pub returns-in-Err-last : goal.returns-in-Err-last
returns-in-Err-last c = record {
  told = λ left begun. tells_refusal (told_from c.args.width 0 left) _ c.in-Err-last.fault refl
      (λ other. ap (λ (t : ToldLines). t.behind) (last_at c.args.width c.lines.cycle c.lines.rows c.lines.records.left c.next.new.self.left
      (fields_of c.next.new.cells) c.in_ok-next.field-0 (told_from c.args.width 0 left) c.in-Ok-Last.ending (Err c.in-Err-last.fault)
      (c.lines.invariant.told left begun) c.in_ok-next.ensures.reads c.if-branch.true (c.in-Ok-Last.ensures.line ∙ ap Ok c.in-Ok-Last.field-0-is)
      (λ more is. c.in-Err-last.ensures more is other)));
  width = tt;
  few = tt;
}

pub returns-in-Ok-last : goal.returns-in-Ok-last
returns-in-Ok-last c = record {
  told = λ left begun. last_at c.args.width c.lines.cycle c.lines.rows c.lines.records.left c.next.new.self.left (fields_of c.next.new.cells)
      c.in_ok-next.field-0 (told_from c.args.width 0 left) c.in-Ok-Last.ending (Ok c.in-Ok-last.ending) (c.lines.invariant.told left begun)
      c.in_ok-next.ensures.reads c.if-branch.true (c.in-Ok-Last.ensures.line ∙ ap Ok c.in-Ok-Last.field-0-is) c.in-Ok-last.ensures;
  width = c.lines.invariant.width;
  few = subst (λ n. n ≤ most_cycles) (sym c.lines.invariant.count) c.lines.invariant.few;
}

pub returns : goal.returns
returns c = record {
  told = λ left begun other. nothing_at c.args.width c.lines.cycle c.lines.rows c.lines.records.left c.next.new.self.left (fields_of c.next.new.cells)
      c.in_ok-next.field-0 (told_from c.args.width 0 left) (c.lines.invariant.told left begun) c.in_ok-next.ensures.reads c.if-branch.false;
  width = tt;
  few = tt;
}
