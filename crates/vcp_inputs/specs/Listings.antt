-- Listings: why a text is no instruction list, as a refusal.
use Rattle.std.specs.Prelude.{ℕ, ◌≢◌, List}
use Rattle.il_front.specs.declared.fault.IlFault.{IlFault}
use Rattle.il_front.specs.declared.fault.IlFault.TheVariants as il
use Rattle.il_front.specs.Answers.{NotIl}
use Rattle.vcp_inputs.specs.declared.refusal.Refusal.{Refusal}
use Rattle.vcp_inputs.specs.declared.refusal.Refusal.TheVariants as refusal

-- the text is no instruction list
pub data NotListing (text : List ℕ) : Refusal → Type 0 where
  no_listing : (f : IlFault) → f ≢ il.Memory → NotIl text f → NotListing text (refusal.Listing f)
