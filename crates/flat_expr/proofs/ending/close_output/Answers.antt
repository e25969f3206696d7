use Rattle.std.proofs.Common.{◌≡◌, ◌+◌, ◌<◌, suc, length, slice_get, sym, ap, ◌∙◌, subst, arith}
use Rattle.vcp_base.specs.Limits.{most_operations}
use Rattle.op_graph.specs.Rules.{IsPart}
use Rattle.flat_expr.specs.Closing.{Closes}
use Rattle.flat_expr.specs.State.{IsPlace, whole_size}
use Rattle.flat_expr.proofs.Closing.{closes_skip, closes_out, out_room, refused_by}
use Rattle.flat_expr.proofs.Ended.{admitted_so_far, handed, handed_refusal, named}
use Rattle.flat_expr.proofs.ending.close_output.Goals as goal

pub at-variable-requires : goal.at-variable-requires
at-variable-requires c = subst (λ l. c.args.slot < length l) c.requires.2 c.requires.3

pub returns-then-not-is_output : goal.returns-then-not-is_output
returns-then-not-is_output c = λ s h same.
    let x = c.at-variable.result.now in
    let there = ap (λ l. slice_get l c.args.slot) same ∙ c.at-variable.ensures in
    let isnt = sym c.is_output.ensures ∙ c.if-not-is_output.true in
    let next : suc c.args.slot ≡ c.args.slot + 1 = omega arith in
    subst (λ n. Closes s n 0 c.args.graph.now c.args.known.now.items) next (closes_skip s c.args.slot 0 c.args.graph.now c.args.known.now.items x there isnt h)

pub held-requires : goal.held-requires
held-requires c =
    let there = ap (λ l. slice_get l c.args.slot) c.requires.2 ∙ c.at-variable.ensures in
    record { output = sym c.is_output.ensures ∙ c.if-not-is_output.false; slot = (c.requires.0, c.requires.1, there) }

pub returns-in_err-k : goal.returns-in_err-k
returns-in_err-k c = λ s h same.
    let there = ap (λ l. slice_get l c.args.slot) same ∙ c.at-variable.ensures in
    handed s _ _ c.held.result c.from_residual.result _ c.in_err-k.was c.from_residual.ensures.1 (c.held.ensures s h there)

pub output-requires : goal.output-requires
output-requires c =
    let s = c.requires.0 in
    let x = c.at-variable.result.now in
    let there = ap (λ l. slice_get l c.args.slot) c.requires.2 ∙ c.at-variable.ensures in
    let held = c.in_ok-k.ensures s c.requires.1 there in
    record {
      name = named s c.args.slot 0 c.held.new.graph c.held.new.known.items c.args.slot x held.0 there;
      name_rises = held.0.below;
      ty = admitted_so_far s c.args.slot 0 c.held.new.graph c.held.new.known.items c.args.slot x held.0 there;
      value = subst (IsPlace x.ty c.held.new.graph.operations) held.1 (held.0.places c.args.slot x there);
    }

pub returns-in_err-output : goal.returns-in_err-output
returns-in_err-output c = λ s h same.
    let x = c.at-variable.result.now in
    let there = ap (λ l. slice_get l c.args.slot) same ∙ c.at-variable.ensures in
    let is_one = sym c.is_output.ensures ∙ c.if-not-is_output.false in
    let held = c.in_ok-k.ensures s h there in
    handed_refusal s _ c.output.result c.from_residual-in_err-output.result _ c.in_err-output.was c.from_residual-in_err-output.ensures.1
    (refused_by c.output.result (length c.held.new.graph.operations) (most_operations < whole_size s) c.output.ensures.full
    (out_room s c.args.slot 0 c.held.new.graph c.held.new.known.items c.in_ok-k.k x most_operations held.0 there is_one held.1))

pub returns : goal.returns
returns c = λ s h same.
    let x = c.at-variable.result.now in
    let there = ap (λ l. slice_get l c.args.slot) same ∙ c.at-variable.ensures in
    let is_one = sym c.is_output.ensures ∙ c.if-not-is_output.false in
    let held = c.in_ok-k.ensures s h there in
    let e = c.in_ok-output.ensures.added in
    let next : suc c.args.slot ≡ c.args.slot + 1 = omega arith in
    subst (λ n. Closes s n 0 c.output.new.self c.held.new.known.items) next
    (subst (λ g. Closes s (suc c.args.slot) 0 g c.held.new.known.items) (sym e)
    (closes_out s c.args.slot 0 c.in_ok-k.k c.held.new.graph c.held.new.known.items x there is_one held.1 (subst IsPart e c.output.ensures.rules) held.0))
