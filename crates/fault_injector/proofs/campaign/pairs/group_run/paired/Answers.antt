use Rattle.std.proofs.Common.{◌∙◌, ap, length, refl, rules}
use Rattle.std.proofs.lemmas.List.{length-replicate}
use Rattle.fault_injector.proofs.campaign.pairs.group_run.paired.Goals as goal

pub carry_rows-requires : goal.carry_rows-requires
carry_rows-requires g c = record {
  fresh = c.in-Ok.ensures.fresh;
  table = c.requires.table;
  width = c.requires.width;
  few = c.requires.few;
  inputs = ap length c.in_ok-inputs.ensures ∙ (length-replicate _ _ ∙ c.inputs.ensures);
  outputs = ap length c.in_ok-outputs.ensures ∙ (length-replicate _ _ ∙ c.outputs.ensures);
  faults = c.requires.faults;
  kept = c.requires.kept;
}

pub returns-in-Ok : goal.returns-in-Ok
returns-in-Ok g c = record { same = c.carry_rows.ensures.same; ran = c.carry_rows.ensures.ran; none = tt }

pub returns : goal.returns
returns g c = record { same = refl; ran = tt; none = refl }

pub returns-in_err-inputs : goal.returns-in_err-inputs
returns-in_err-inputs g c = search rules

pub returns-in_err-outputs : goal.returns-in_err-outputs
returns-in_err-outputs g c = search rules

pub new-requires : goal.new-requires
new-requires g c = search rules
