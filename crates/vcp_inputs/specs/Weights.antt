-- Weights: why there are no weights of an image's graph.
use Rattle.std.specs.Prelude.{ℕ, ◌≡◌, ◌⊎◌, ◌<◌}
use Rattle.weight_audit.specs.Audit.{most_weights, weights_up_to}
use Rattle.vcp_inputs.specs.declared.images.Image.{Image}
use Rattle.vcp_inputs.specs.declared.refusal.NoInput.{NoInput}
use Rattle.vcp_inputs.specs.declared.refusal.NoInput.TheVariants as input
use Rattle.vcp_inputs.specs.declared.refusal.Refusal.TheVariants as refusal

-- memory was wanted, or they are too many up to this horizon
abbrev pub NoWeights : Image → ℕ → NoInput → Type 0
NoWeights i horizon e = (e ≡ input.Memory) ⊎ ((e ≡ input.Refused refusal.Audit) × (most_weights < weights_up_to i.graph horizon))
