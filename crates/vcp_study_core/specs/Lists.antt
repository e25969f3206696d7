-- Lists: what becomes of an instruction list.
use Rattle.std.specs.Prelude.{ℕ, ◌≡◌, List}
use Rattle.il_front.specs.Accumulator.{Il}
use Rattle.il_front.specs.Answers.{IsIl}
use Rattle.vcp_inputs.specs.Listings.{NotListing}
use Rattle.vcp_inputs.specs.declared.refusal.NoInput.TheVariants as input
use Rattle.vcp_inputs.specs.declared.refusal.Refusal.{Refusal}
use Rattle.vcp_inputs.specs.Answer.{Answer}
use Rattle.vcp_inputs.specs.ListRuns.{IsImageOfList}
use Rattle.vcp_inputs.specs.Forms.{Code, IsCode, as_code}
use Rattle.vcp_study_core.specs.FromFiles.{input_answer, own_answer}
use Rattle.vcp_study_core.specs.ListTexts.{IsTextOfList}
use Rattle.vcp_study_core.specs.Texts.{Draws, WritesOne}
use Rattle.vcp_study_core.specs.declared.fault.StudyRefusal.TheVariants as why
use Rattle.vcp_study_core.specs.declared.command.ListStudy.{ListStudy}
use Rattle.vcp_study_core.specs.declared.command.ListStudy.TheVariants as of

-- what the text of the file P comes to, by what is said of the instruction list that it is; or its first fault as one
pub data OfList (name text : List ℕ) (Then : Il → Answer → Type 0) (x : Answer) : Type 0 where
  no_list : (r : Refusal) → NotListing text r → x ≡ input_answer name (input.Refused r) → OfList name text Then x
  of_list : (i : Il) → IsIl text i → Then i x → OfList name text Then x

-- its image, with the numbers of a code
abbrev pub ListImage : List ℕ → List ℕ → Code → Answer → Type 0
ListImage name text code x = OfList name text (λ i. WritesOne (Draws (IsImageOfList i code))) x

-- its text in Structured Text; or none is found that is no longer than a source may be
pub data Translated (name : List ℕ) (i : Il) (x : Answer) : Type 0 where
  untranslated : x ≡ own_answer name why.Text → Translated name i x
  translated : WritesOne (Draws (IsTextOfList i)) x → Translated name i x

abbrev pub ListText : List ℕ → List ℕ → Answer → Type 0
ListText name text x = OfList name text (Translated name) x

-- what is made of it
abbrev pub StudiedList : List ℕ → ListStudy → Il → Answer → Type 0
StudiedList name (of.Image code) i = WritesOne (Draws (IsImageOfList i (as_code code)))
StudiedList name of.Text i = Translated name i

-- its code is in its ranges, where it has one
abbrev pub IsCoded : ListStudy → Type 0
IsCoded (of.Image code) = IsCode (as_code code)
IsCoded of.Text = Unit {0}
