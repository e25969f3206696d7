use Rattle.std.proofs.Common.{◌≡◌, ◌<◌, ◌≤◌, length}
use Rattle.vcp_base.specs.Limits.{seeds, most_step}
use Rattle.vcp_inputs.specs.Forms.{code_of}
use Rattle.vcp_inputs.proofs.CodeWords.{code_after}
use Rattle.vcp_inputs.proofs.words.words_left.CommandWords.code.Given as goal

abbrev pub invariant-options : goal.invariant-options
invariant-options l = record {
  left : code_of l.initial.self ≡ code_after l.has_seed l.has_step l.seed l.step l.self;
  seed : l.seed < seeds;
  step_from : 1 ≤ l.step;
  step_to : l.step ≤ most_step;
}

abbrev pub decreases-options : goal.decreases-options
decreases-options l = length l.self
