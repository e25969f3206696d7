-- What the commands come to that print something of an image, where there is nothing of it.
use Rattle.std.proofs.Common.{ℕ, ◌≡◌, ◌≢◌, inl, inr, refl, List, IfSome}
use Rattle.std.specs.Io.KnownBytes.{IsAtEnd}
use Rattle.vcp_base.specs.Limits.{most_image_bytes}
use Rattle.vcp_outside.specs.Counts.{Rose}
use Rattle.vcp_outside.specs.Seen.{FilesSeen}
use Rattle.image_file.specs.Image.{image_of}
use Rattle.coded_machine.specs.Moments.{Moment}
use Rattle.vcp_inputs.specs.Forms.{audit, image_text, list, widen}
use Rattle.vcp_inputs.specs.declared.words.command.ImageText.{ImageText}
use Rattle.vcp_inputs.specs.declared.words.command.ImageText.TheVariants as text
use Rattle.vcp_inputs.specs.declared.images.Image.{Image}
use Rattle.vcp_inputs.specs.declared.refusal.Refusal.{Refusal}
use Rattle.vcp_inputs.specs.declared.refusal.Refusal.TheVariants as refusal
use Rattle.vcp_inputs.specs.declared.refusal.NoInput.{NoInput}
use Rattle.vcp_inputs.specs.declared.refusal.NoInput.TheVariants as input
use Rattle.vcp_inputs.specs.Files.{LeavesLong, NotLoaded}
use Rattle.vcp_inputs.specs.Images.{ImageOf, NotImage}
use Rattle.vcp_inputs.specs.Lines.{input_status, input_text}
use Rattle.vcp_inputs.specs.Refusals.{IsCaused}
use Rattle.vcp_inputs.specs.Abouts.{about, image_word}
use Rattle.vcp_inputs.specs.Kinds.{Task, prints}
use Rattle.vcp_inputs.specs.Performing.{Performs}
use Rattle.vcp_core.specs.Tasks.{Audited, TaskOf, listing, widened}
use Rattle.vcp_core.proofs.Performing.{quiet_lost}

-- what `list` and `widen` print
abbrev pub Listed : Image → Task → Type 0
Listed i x = x ≡ prints (listing i.graph i.table)

abbrev pub Widened : Image → Task → Type 0
Widened i x = x ≡ prints (image_of (widened i.graph) i.table.seed i.table.step)

module _ (m : List ℕ) (files later : FilesSeen) (here : Moment) (held : later.held ≡ files.held) (e : NoInput)
    (lost : IfSome files.held (λ h. NotLoaded NotImage h m most_image_bytes files.broken later.broken e))
    (whole : (r : Refusal) → e ≡ input.Refused r → r ≢ refusal.Bytes → IsAtEnd later.rest)
    (left : e ≡ input.Refused refusal.Bytes → IfSome files.held (LeavesLong m most_image_bytes later.rest))
    (rose : e ≡ input.Unread → Rose files.faults later.faults) (stayed : e ≢ input.Unread → later.faults ≡ files.faults) (caused : IsCaused e) where
  pub image_lost : (which : ImageText)
      → Performs (about (image_text m which)) (TaskOf (image_text m which)) files later here here (input_text m e) (input_status e)
  image_lost text.List =
      quiet_lost (about (list m)) ImageOf NotImage (λ h. Listed) (image_word m) files later here e (inl refl) (λ none. cc) (inr (inl refl)) held lost whole left
      rose stayed caused
  image_lost text.Widen =
      quiet_lost (about (widen m)) ImageOf NotImage (λ h. Widened) (image_word m) files later here e (inl refl) (λ none. cc) (inr (inl refl)) held lost whole
      left rose stayed caused
  image_lost (text.Audit horizon) =
      quiet_lost (about (audit m horizon)) ImageOf NotImage (λ h. Audited horizon m) (image_word m) files later here e (inl refl) (λ none. cc) (inr (inl refl))
      held lost whole left rose stayed caused
