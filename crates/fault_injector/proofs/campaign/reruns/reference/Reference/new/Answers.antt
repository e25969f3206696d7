use Rattle.std.proofs.Common.{◌≡◌, ◌≤◌, ◌*◌, All, List, ℤ, refl, ap, sym, subst, ◌∙◌, length, vec_capacity}
use Rattle.coded_machine.specs.State.{State, fresh}
use Rattle.fault_injector.specs.References.{RanOver, kept_cycles}
use Rattle.fault_injector.proofs.campaign.reruns.reference.Reference.new.Goals as goal

pub keep_run-kept-requires : goal.keep_run-kept-requires
keep_run-kept-requires g c =
    let is = c.in-Ok-new.ensures.fresh in
    let rows = c.args.rows.now in
    record {
      fresh = is ∙ ap (λ (s : State). fresh s.graph s.table) (sym is);
      width = subst (λ (s : State). All (λ (row : List ℤ). length row ≡ length s.graph.inputs) rows) (sym is) c.requires.width;
      few = c.requires.few;
      inputs = c.in-Ok.ensures.inputs ∙ ap (λ (s : State). length s.graph.inputs) (sym is);
      outputs = c.in-Ok.ensures.outputs ∙ ap (λ (s : State). length s.graph.outputs) (sym is);
      empty = c.in-Ok.ensures.empty;
      room = subst (λ (s : State). length rows * length s.graph.operations ≤ vec_capacity c.in-Ok.field-0.words) (sym is) c.in-Ok.ensures.room;
    }

pub invariant_of-result : goal.invariant_of-result
invariant_of-result g c =
    let is = c.in-Ok-new.ensures.fresh in
    let kept = c.keep_run-kept.result in
    let before = g.U.Unit.seen c.args.unit.now in
    let after = g.U.Unit.seen c.keep_run-kept.new.unit in
    let ran = subst (λ (s : State). RanOver s.graph s.table c.args.rows.now
    (kept_cycles (length s.graph.operations) kept.whole kept.words.items kept.stop) kept.end before.log after.log before.wrong after.wrong) is
    c.keep_run-kept.ensures.ran in
    record {
      graph = c.len-operations.ensures.rules;
      table = c.step-step.ensures.ranges;
      table_of = c.requires.table;
      width = c.requires.width;
      few = c.requires.few;
      all = ran.all;
      ended = ran.ended;
      there = subst (λ (s : State). kept.whole * length s.graph.operations ≤ length kept.words.items) is c.keep_run-kept.ensures.there;
    }

pub returns-in-Ok-new : goal.returns-in-Ok-new
returns-in-Ok-new g c =
    let is = c.in-Ok-new.ensures.fresh in
    let kept = c.keep_run-kept.result in
    let before = g.U.Unit.seen c.args.unit.now in
    let after = g.U.Unit.seen c.keep_run-kept.new.unit in
    let ran = subst (λ (s : State). RanOver s.graph s.table c.args.rows.now
    (kept_cycles (length s.graph.operations) kept.whole kept.words.items kept.stop) kept.end before.log after.log before.wrong after.wrong) is
    c.keep_run-kept.ensures.ran in
    record {
      graph = refl;
      table = refl;
      rows = refl;
      ran = ran;
      honest = λ still. record { all = ran.all; right = ran.carried.honest still.0 still.1 };
      err = tt;
    }

pub returns-in-Ok : goal.returns-in-Ok
returns-in-Ok g c = record { graph = tt; table = tt; rows = tt; ran = tt; honest = λ _. tt; err = refl }

pub returns : goal.returns
returns g c = record { graph = tt; table = tt; rows = tt; ran = tt; honest = λ _. tt; err = refl }
