use Rattle.std.proofs.Common.{ℕ, ◌≤◌, ◌*◌, ◌∙◌, ap, subst, length, vec_capacity}
use Rattle.std.proofs.lemmas.List.{length-replicate}
use Rattle.std.proofs.lemmas.Result.{IfOk-from_err}
use Rattle.fault_injector.proofs.campaign.reruns.reference.run_room.Goals as goal

pub returns-in_err-inputs : goal.returns-in_err-inputs
returns-in_err-inputs c = record {
  inputs = IfOk-from_err c.from_residual.result _ c.from_residual.ensures.0;
  outputs = IfOk-from_err c.from_residual.result _ c.from_residual.ensures.0;
  empty = IfOk-from_err c.from_residual.result _ c.from_residual.ensures.0;
  room = IfOk-from_err c.from_residual.result _ c.from_residual.ensures.0;
}

pub returns-in_err-outputs : goal.returns-in_err-outputs
returns-in_err-outputs c = record {
  inputs = IfOk-from_err c.from_residual-in_err-outputs.result _ c.from_residual-in_err-outputs.ensures.0;
  outputs = IfOk-from_err c.from_residual-in_err-outputs.result _ c.from_residual-in_err-outputs.ensures.0;
  empty = IfOk-from_err c.from_residual-in_err-outputs.result _ c.from_residual-in_err-outputs.ensures.0;
  room = IfOk-from_err c.from_residual-in_err-outputs.result _ c.from_residual-in_err-outputs.ensures.0;
}

pub returns-in_err-words : goal.returns-in_err-words
returns-in_err-words c = record {
  inputs = IfOk-from_err c.from_residual-in_err-words.result _ c.from_residual-in_err-words.ensures.0;
  outputs = IfOk-from_err c.from_residual-in_err-words.result _ c.from_residual-in_err-words.ensures.0;
  empty = IfOk-from_err c.from_residual-in_err-words.result _ c.from_residual-in_err-words.ensures.0;
  room = IfOk-from_err c.from_residual-in_err-words.result _ c.from_residual-in_err-words.ensures.0;
}

pub returns : goal.returns
returns c = record {
  inputs = ap length c.in_ok-inputs.ensures ∙ (length-replicate _ _ ∙ c.inputs.ensures);
  outputs = ap length c.in_ok-outputs.ensures ∙ (length-replicate _ _ ∙ c.outputs.ensures);
  empty = c.in_ok-words.ensures.items;
  room = subst (λ (n : ℕ). n ≤ vec_capacity c.in_ok-words.words)
      (ap (λ (n : ℕ). n * c.len-operations.result) c.len.ensures.length
      ∙ ap (λ (n : ℕ). length c.args.rows.now * n) c.len-operations.ensures.count) c.in_ok-words.ensures.capacity;
}
