use Rattle.std.proofs.Common.{length, arith, sym, ap, ◌∙◌}
use Rattle.std.proofs.lemmas.Result.{IfOk-from_err}
use Rattle.std.proofs.lemmas.List.{length-replicate}
use Rattle.coded_machine.specs.State.{State}
use Rattle.pair_channel.proofs.pair.Pair.new.Goals as goal

pub invariant_of-result : goal.invariant_of-result
invariant_of-result c =
    let one = c.in_ok-machine.ensures.fresh in
    let two = c.in-Ok.ensures.fresh in
    let wide = ap (λ (s : State). length s.graph.outputs) (sym one) in
    record {
      one_graph = ap (λ (s : State). s.graph) two ∙ sym (ap (λ (s : State). s.graph) one);
      few = omega (arith, c.outputs-width.ensures, wide);
      ours = ap length c.in_ok-ours.ensures ∙ (length-replicate _ _ ∙ (c.outputs-width.ensures ∙ wide));
      theirs = ap length c.in_ok-theirs.ensures ∙ (length-replicate _ _ ∙ (c.outputs-width.ensures ∙ wide));
      between = ap (λ (s : State). s.under_way) two;
      cycles = omega arith;
      together = λ none. record {
        first_going = ap (λ (s : State). s.ended) one;
        second_going = ap (λ (s : State). s.ended) two;
        first_cycles = ap (λ (s : State). s.cycles) one;
        second_cycles = ap (λ (s : State). s.cycles) two;
      };
      closed = tt;
    }

pub returns-in_err-ours : goal.returns-in_err-ours
returns-in_err-ours c = record { fresh = IfOk-from_err c.from_residual.result _ c.from_residual.ensures.0 }

pub returns-in_err-theirs : goal.returns-in_err-theirs
returns-in_err-theirs c = record { fresh = IfOk-from_err c.from_residual-in_err-theirs.result _ c.from_residual-in_err-theirs.ensures.0 }

pub returns-in_err-machine : goal.returns-in_err-machine
returns-in_err-machine c = record { fresh = IfOk-from_err c.from_residual-in_err-machine.result _ c.from_residual-in_err-machine.ensures.0 }
