-- What the commands come to that write something of a program that is checked, where there is nothing of it.
use Rattle.std.proofs.Common.{ℕ, ◌≡◌, ◌≢◌, inl, inr, refl, List, IfSome}
use Rattle.std.specs.Io.KnownBytes.{IsAtEnd}
use Rattle.vcp_base.specs.Limits.{most_source_bytes}
use Rattle.vcp_outside.specs.Counts.{Rose}
use Rattle.vcp_outside.specs.Seen.{FilesSeen}
use Rattle.vcp_typed.specs.Size.{size}
use Rattle.vcp_typed.specs.SourceRun.{Program}
use Rattle.coded_machine.specs.Moments.{Moment}
use Rattle.vcp_inputs.specs.Forms.{as_code, check, compile, source_text}
use Rattle.vcp_inputs.specs.declared.words.command.SourceText.{SourceText}
use Rattle.vcp_inputs.specs.declared.words.command.SourceText.TheVariants as text
use Rattle.vcp_inputs.specs.declared.refusal.Refusal.{Refusal}
use Rattle.vcp_inputs.specs.declared.refusal.Refusal.TheVariants as refusal
use Rattle.vcp_inputs.specs.declared.refusal.NoInput.{NoInput}
use Rattle.vcp_inputs.specs.declared.refusal.NoInput.TheVariants as input
use Rattle.vcp_inputs.specs.Files.{LeavesLong, NotLoaded}
use Rattle.vcp_inputs.specs.Programs.{NotTyped, TypedOf}
use Rattle.vcp_inputs.specs.Lines.{input_status, input_text}
use Rattle.vcp_inputs.specs.Refusals.{IsCaused}
use Rattle.vcp_inputs.specs.Abouts.{about, source_word}
use Rattle.vcp_inputs.specs.Kinds.{Task, compiles, prints}
use Rattle.vcp_inputs.specs.Performing.{Performs}
use Rattle.vcp_core.specs.Tasks.{TaskOf, ok_text}
use Rattle.vcp_core.proofs.Performing.{quiet_lost}

-- what `check` prints
abbrev pub Sized : Program → Task → Type 0
Sized t x = x ≡ prints (ok_text (size t))

module _ (p : List ℕ) (files later : FilesSeen) (here : Moment) (held : later.held ≡ files.held) (e : NoInput)
    (lost : IfSome files.held (λ h. NotLoaded NotTyped h p most_source_bytes files.broken later.broken e))
    (whole : (r : Refusal) → e ≡ input.Refused r → r ≢ refusal.Bytes → IsAtEnd later.rest)
    (left : e ≡ input.Refused refusal.Bytes → IfSome files.held (LeavesLong p most_source_bytes later.rest))
    (rose : e ≡ input.Unread → Rose files.faults later.faults) (stayed : e ≢ input.Unread → later.faults ≡ files.faults) (caused : IsCaused e) where
  pub source_lost : (which : SourceText)
      → Performs (about (source_text p which)) (TaskOf (source_text p which)) files later here here (input_text p e) (input_status e)
  source_lost text.Size =
      quiet_lost (about (check p)) TypedOf NotTyped (λ h. Sized) (source_word p) files later here e (inl refl) (λ none. cc) (inr (inl refl)) held lost whole left
      rose stayed caused
  source_lost (text.Image code) =
      quiet_lost (about (compile p (as_code code))) TypedOf NotTyped (λ h t x. x ≡ compiles t (as_code code)) (source_word p) files later here e (inl refl)
      (λ none. cc) (inr (inl refl)) held lost whole left rose stayed caused
