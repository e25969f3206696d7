-- NotBytes: a text that was looked at is never refused for its length.
use Rattle.std.proofs.Common.{ℕ, ◌≡◌, ◌≢◌, refl, subst, List, Result, Err}
use Rattle.std.specs.Prelude.{IfErr}
use Rattle.op_graph.specs.Lists.{Lists}
use Rattle.vcp_inputs.specs.declared.refusal.Refusal.{Refusal}
use Rattle.vcp_inputs.specs.declared.refusal.Refusal.TheVariants as refusal
use Rattle.vcp_inputs.specs.declared.refusal.NoInput.{NoInput}
use Rattle.vcp_inputs.specs.declared.refusal.NoInput.TheVariants as input
use Rattle.vcp_inputs.specs.Files.{Untaken}
use Rattle.vcp_inputs.specs.Images.{NotImage, no_image}
use Rattle.vcp_inputs.specs.Listings.{NotListing, no_listing}
use Rattle.vcp_inputs.specs.Programs.{NoProgram, unlexed, unparsed, NotTyped, no_program, mistyped}
use Rattle.vcp_inputs.specs.Scripts.{NotScript, no_script}
use Rattle.vcp_inputs.specs.Wires.{NotWire, no_wire}

pub program_not_bytes : (text : List ℕ) (r : Refusal) → NoProgram text r → r ≢ refusal.Bytes
program_not_bytes text _ (unlexed f known h) e = cc
program_not_bytes text _ (unparsed ts f known reads h) e = cc

pub typed_not_bytes : (text : List ℕ) (r : Refusal) → NotTyped text r → r ≢ refusal.Bytes
typed_not_bytes text _ (no_program r h) e = program_not_bytes text r h e
typed_not_bytes text _ (mistyped p f is known h) e = cc

pub listing_not_bytes : (text : List ℕ) (r : Refusal) → NotListing text r → r ≢ refusal.Bytes
listing_not_bytes text _ (no_listing f known h) e = cc

pub image_not_bytes : (text : List ℕ) (r : Refusal) → NotImage text r → r ≢ refusal.Bytes
image_not_bytes text _ (no_image f at) e = cc

pub script_not_bytes : (g : Lists) (text : List ℕ) (r : Refusal) → NotScript g text r → r ≢ refusal.Bytes
script_not_bytes g text _ (no_script why known is) e = cc

pub wire_not_bytes : (text : List ℕ) (r : Refusal) → NotWire text r → r ≢ refusal.Bytes
wire_not_bytes text _ (no_wire why known is) e = cc

-- so what was read of it isn't either
pub never_long : {V : Type 0} (Why : Refusal → Type 0) (r : Result V NoInput) → ((s : Refusal) → Why s → s ≢ refusal.Bytes) → IfErr r (Untaken Why)
    → r ≡ Err (input.Refused refusal.Bytes) → ⊥
never_long {V} Why r other why is =
    let bytes : Why refusal.Bytes = subst (λ (x : Result V NoInput). IfErr x (Untaken Why)) is why in other refusal.Bytes bytes refl
