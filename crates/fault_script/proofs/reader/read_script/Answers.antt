use Rattle.std.proofs.Common.{◌≡◌, [], length, ◌+◌, List, ℕ, Result, Ok, IfOk, sym, ap, subst, ◌∙◌, arith}
use Rattle.std.proofs.lemmas.Bool.{eqb-true}
use Rattle.std.proofs.lemmas.List.{nil_from_length}
use Rattle.std.proofs.lemmas.Result.{err_from_is_err_and}
use Rattle.fault_script.specs.declared.act.Fault.{Fault}
use Rattle.fault_script.specs.declared.script_fault.ScriptFault.{ScriptFault}
use Rattle.fault_script.specs.ScriptOf.{script_of}
use Rattle.fault_script.specs.Reading.{comes}
use Rattle.fault_script.proofs.GroupsFit.{groups_fit, faults_few, groups_few}
use Rattle.fault_script.proofs.LinesRead.{script_from, started, skipped, taken, refused, refused_at_end}
use Rattle.fault_script.proofs.reader.read_script.Goals as goal

pub lines-init : goal.lines-init
lines-init c =
    let first = c.new-reading.ensures in
    record {
      left = started c.args.graph.now c.new-reading.result c.args.bytes.now first.comes first.count;
      number = omega arith;
      fits = first.fits c.args.graph.now;
    }

pub lines-preserved-in-Continue-1 : goal.lines-preserved-in-Continue-1
lines-preserved-in-Continue-1 c =
    let step = c.in_ok-take.ensures in
    record {
      left =
          c.lines.invariant.left
          ∙ taken c.args.graph.now c.lines.reading c.take.new.self (c.lines.number + 1) c.lines.rest.now c.first_line.result.0.now c.first_line.result.1.now
          c.first_line.ensures.lines (sym c.is_skipped.ensures ∙ c.if-not-is_skipped.true) step.ok;
      number = omega (arith, c.lines.invariant.number, c.first_line.ensures.shorter);
      fits = step.fits c.lines.invariant.fits;
    }

pub returns-in_err-take-clause-refusal : goal.returns-in_err-take-clause-refusal
returns-in_err-take-clause-refusal c =
    let q = err_from_is_err_and c.from_residual.result c.from_residual.ensures.1 in
    rw (q.1, q.2)
    (λ other. c.lines.invariant.left
    ∙ refused c.args.graph.now c.lines.reading (c.lines.number + 1) c.lines.rest.now c.first_line.result.0.now c.first_line.result.1.now c.in_err-take.field-0.0
    c.first_line.ensures.lines (sym c.is_skipped.ensures ∙ c.if-not-is_skipped.true) (c.in_err-take.ensures.refusal other))

pub lines-preserved : goal.lines-preserved
lines-preserved c =
    record {
      left =
          c.lines.invariant.left
          ∙ skipped c.args.graph.now c.lines.reading
          (c.lines.number + 1) c.lines.rest.now c.first_line.result.0.now c.first_line.result.1.now c.first_line.ensures.lines
          (sym c.is_skipped.ensures ∙ c.if-not-is_skipped.false);
      number = omega (arith, c.lines.invariant.number, c.first_line.ensures.shorter);
      fits = c.lines.invariant.fits;
    }

pub returns : goal.returns
returns c =
    let g = c.args.graph.now in
    let none : c.lines.rest.now ≡ [] = nil_from_length c.lines.rest.now (eqb-true (length c.lines.rest.now) 0 (sym c.is_empty.ensures ∙ c.lines-test.false)) in
    let left : script_of g c.args.bytes.now ≡ comes c.lines.reading [] =
    c.lines.invariant.left ∙ ap (λ (text : List ℕ). script_from g c.lines.reading (c.lines.number + 1) text) none in
    let Groups : Type 0 = Result (List (List Fault)) ScriptFault in
    record {
      script = subst (λ (x : Groups). IfOk c.finish.result (λ (script : List (List Fault)). x ≡ Ok script)) (sym left) c.finish.ensures.script;
      refusal = refused_at_end (script_of g c.args.bytes.now) (comes c.lines.reading []) c.finish.result left c.finish.ensures.refusal;
      fits = groups_fit g c.lines.reading c.finish.result c.finish.ensures.fits c.lines.invariant.fits;
      faults = faults_few g c.lines.reading c.finish.result c.finish.ensures.fits c.lines.invariant.fits;
      few = groups_few g c.lines.reading c.finish.result c.finish.ensures.fits c.lines.invariant.fits;
    }
