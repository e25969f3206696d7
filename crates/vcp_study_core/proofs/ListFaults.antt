-- ListFaults: a text is no instruction list, and what is made of one that is.
use Rattle.std.proofs.Common.{ℕ, refl, List}
use Rattle.vcp_outside.specs.Seen.{FilesSeen, SinkSeen}
use Rattle.il_front.specs.Accumulator.{Il}
use Rattle.il_front.specs.Answers.{most_il_bytes}
use Rattle.vcp_inputs.specs.declared.refusal.NoInput.{NoInput}
use Rattle.vcp_inputs.specs.declared.refusal.NoInput.TheVariants as input
use Rattle.vcp_inputs.specs.Answer.{Answer}
use Rattle.vcp_inputs.specs.Files.{Untaken}
use Rattle.vcp_inputs.specs.Lines.{input_status, input_text}
use Rattle.vcp_inputs.specs.Listings.{NotListing}
use Rattle.vcp_study_core.specs.CarriedOut.{Studies, WritesSo}
use Rattle.vcp_study_core.specs.Forms.{IsSound, list_form}
use Rattle.vcp_study_core.specs.FromFiles.{Onward, input_answer}
use Rattle.vcp_study_core.specs.Lists.{IsCoded, OfList, StudiedList, no_list}
use Rattle.vcp_study_core.specs.Tasks.{BytesFrom, TaskOf}
use Rattle.vcp_study_core.specs.declared.command.ListStudy.{ListStudy}
use Rattle.vcp_study_core.specs.declared.command.ListStudy.TheVariants as of
use Rattle.vcp_study_core.proofs.Carrying.{no_memory, refused}
use Rattle.vcp_study_core.proofs.Facts.{appends-nothing}

-- it is none, and nothing is written
pub unlisted : (name text : List ℕ) (Then : Il → Answer → Type 0) (old : SinkSeen) (i : NoInput) → Untaken (NotListing text) i
    → WritesSo (OfList name text Then) old old (input_text name i) (input_status i)
unlisted name text Then old (input.Refused r) why =
    refused (OfList name text Then) old old (input_answer name (input.Refused r)) (no_list r why refl) refl refl (appends-nothing old.written)
unlisted name text Then old input.Memory why = no_memory (OfList name text Then) old old (appends-nothing old.written)
unlisted name text Then old input.Unread none = absurd none

-- what is made of the list in the file P is what the command wants
pub of_study : (p : List ℕ) (s : ListStudy) {files after : FilesSeen} {old new : SinkSeen} {line : List ℕ} {code : ℕ}
    → Studies (λ held b n x. Onward (BytesFrom p most_il_bytes held) (λ text k n. OfList p text (StudiedList p s)) b n x) files after old new line code
    → Studies (TaskOf (list_form p s)) files after old new line code
of_study p (of.Image code) h = h
of_study p of.Text h = h

-- and its code is in its ranges
pub list_coded : (p : List ℕ) (s : ListStudy) → IsSound (list_form p s) → IsCoded s
list_coded p (of.Image code) h = h
list_coded p of.Text h = tt
