-- PartsRead: what reading the files of parts gives.
use Rattle.std.proofs.Common.{◌≡◌, ◌≢◌, ◌≤◌, inl, inr, ℕ, Bool, true, false, List, [], ◌∷◌, ◌++◌, Ok, Err, refl, sym, ap, subst, ◌∙◌, append_assoc}
use Rattle.std.proofs.lemmas.List.{append-nil}
use Rattle.vcp_outside.specs.Held.{Held}
use Rattle.op_graph.specs.Lists.{Lists}
use Rattle.fault_script.specs.declared.act.Fault.{Fault as FaultOf}
use Rattle.fault_script.specs.declared.script_fault.ScriptFault.{ScriptFault}
use Rattle.fault_script.specs.declared.script_fault.ScriptFault.TheVariants as script_fault
use Rattle.fault_script.specs.ScriptOf.{script_of}
use Rattle.fault_injector.specs.declared.verdicts.Verdict.{Verdict}
use Rattle.verdict_tables.specs.declared.parts.Part.{Part}
use Rattle.verdict_tables.specs.Remark.{is_for}
use Rattle.pictures.specs.Arrangement.{Arrangement, IsArranged}
use Rattle.pictures.specs.FaultsText.{IsFaultsPicture, faults_text}
use Rattle.vcp_inputs.specs.declared.images.Image.{Image}
use Rattle.vcp_inputs.specs.Files.{FileRead}
use Rattle.vcp_inputs.specs.Refusals.{unscripted}
use Rattle.vcp_inputs.specs.Answer.{Answer}
use Rattle.vcp_study_core.specs.Forms.{PartNames}
use Rattle.vcp_study_core.specs.FromFiles.{FromFiles, got, ends_by, input_answer, OfLoads, OfText, of_text, no_text}
use Rattle.vcp_study_core.specs.Parts.{digits, is_of, ScriptIn, script, of_another, no_script, script_unmade, VerdictsIn, verdicts, no_verdicts, verdicts_unmade}
use Rattle.vcp_study_core.specs.Parts.{PartFrom, AreParts, PartsFrom, without_part}
use Rattle.vcp_study_core.proofs.Carrying.{IsQuiet}

-- ---- texts

-- what a text comes to that was read, and one that wasn't
module _ {V : Type 0} (Comes : List ℕ → FromFiles V → Type 0) (name : List ℕ) (most : ℕ) (held : Held) (b n : ℕ) where
  pub text_read : (bytes : List ℕ) → OfLoads (FileRead held name most b n) name (got bytes) → (r : FromFiles V) → Comes bytes r
      → OfText Comes name most held b n r
  text_read bytes (text, holds, few, same) r comes = of_text text holds few r (subst (λ t. Comes t r) same comes)

  pub text_lost : (x : Answer) → OfLoads (FileRead held name most b n) name (ends_by x) → OfText Comes name most held b n (ends_by x)
  text_lost x (i, lost, is) = subst (λ (y : Answer). OfText Comes name most held b n (ends_by y)) (sym is) (no_text i lost)

-- neither comes to the want of a file
pub script_quiet : (i : Image) (name text : List ℕ) (r : FromFiles (List (List FaultOf))) → ScriptIn i name text r → IsQuiet r
script_quiet i name text _ (script groups is told) = tt
script_quiet i name text _ (of_another is) = (refl, inl refl)
script_quiet i name text _ (no_script f is not_memory at) = (refl, inl refl)
script_quiet i name text _ script_unmade = (refl, inr (inl refl))

pub verdicts_quiet : (g : Lists) (groups : List (List FaultOf)) (name text : List ℕ) (r : FromFiles (List Verdict)) → VerdictsIn g groups name text r → IsQuiet r
verdicts_quiet g groups name text _ (verdicts vs told) = tt
verdicts_quiet g groups name text _ (no_verdicts f not_memory at) = (refl, inl refl)
verdicts_quiet g groups name text _ verdicts_unmade = (refl, inr (inl refl))

module _ (i : Image) (name text digest : List ℕ) (is : digest ≡ digits i) where
  of_image : (b : Bool) → is_for digest text ≡ b → is_of i text ≡ b
  of_image b this = ap (λ x. is_for x text) (sym is) ∙ this

  pub other_image : is_for digest text ≡ false → is_of i text ≡ false
  other_image this = of_image false this

  pub script_in_text : is_for digest text ≡ true → (groups : List (List FaultOf)) → script_of i.graph text ≡ Ok groups → ScriptIn i name text (got groups)
  script_in_text this groups told = script groups (of_image true this) told

  pub no_script_in_text : is_for digest text ≡ true → (f : ScriptFault) → (f ≢ script_fault.Memory → script_of i.graph text ≡ Err f)
      → ScriptIn i name text (ends_by (input_answer name (unscripted f)))
  no_script_in_text this (script_fault.Form n) why = no_script (script_fault.Form n) (of_image true this) (λ e. cc) (why (λ e. cc))
  no_script_in_text this (script_fault.Site n) why = no_script (script_fault.Site n) (of_image true this) (λ e. cc) (why (λ e. cc))
  no_script_in_text this (script_fault.Early n) why = no_script (script_fault.Early n) (of_image true this) (λ e. cc) (why (λ e. cc))
  no_script_in_text this (script_fault.Kind n) why = no_script (script_fault.Kind n) (of_image true this) (λ e. cc) (why (λ e. cc))
  no_script_in_text this (script_fault.Group n) why = no_script (script_fault.Group n) (of_image true this) (λ e. cc) (why (λ e. cc))
  no_script_in_text this (script_fault.Twice n) why = no_script (script_fault.Twice n) (of_image true this) (λ e. cc) (why (λ e. cc))
  no_script_in_text this (script_fault.Faults n) why = no_script (script_fault.Faults n) (of_image true this) (λ e. cc) (why (λ e. cc))
  no_script_in_text this script_fault.Memory why = script_unmade

-- ---- part by part

-- these parts are there, of all names but those that are left
abbrev pub SoFar : Image → Held → List PartNames → List Part → List PartNames → Type 0
SoFar i held names parts left = (front : List PartNames) × (names ≡ front ++ left) × AreParts i held front parts

pub none_so_far : (i : Image) (held : Held) (names : List PartNames) → SoFar i held names [] names
none_so_far i held names = ([], refl, tt)

pub all_so_far : (i : Image) (held : Held) (names left : List PartNames) (parts : List Part) → left ≡ [] → SoFar i held names parts left
    → AreParts i held names parts
all_so_far i held names left parts none (front, split, are) = rw (split, none, append-nil front) are

zip_push : (i : Image) (held : Held) (names : List PartNames) (parts : List Part) (n : PartNames) (p : Part) → AreParts i held names parts
    → (b k : ℕ) → PartFrom i n held b k (got p) → AreParts i held (names ++ n ∷ []) (parts ++ p ∷ [])
zip_push i held [] [] n p are b k is = ((b, k, is), tt)
zip_push i held [] (q ∷ parts) n p are b k is = absurd are
zip_push i held (m ∷ names) [] n p are b k is = absurd are
zip_push i held (m ∷ names) (q ∷ parts) n p are b k is = (are.0, zip_push i held names parts n p are.1 b k is)

pub one_so_far : (i : Image) (held : Held) (names left later : List PartNames) (parts more : List Part) (n : PartNames) (p : Part) → left ≡ n ∷ later
    → more ≡ parts ++ p ∷ [] → (b k : ℕ) → PartFrom i n held b k (got p) → SoFar i held names parts left → SoFar i held names more later
one_so_far i held names left later parts more n p next pushed b k is (front, split, are) = (
  front ++ n ∷ [],
  split ∙ (ap (λ ns. front ++ ns) next ∙ sym (append_assoc front (n ∷ []) later)),
  rw pushed (zip_push i held front parts n p are b k is),
)

pub part_lost : (i : Image) (held : Held) (names left later : List PartNames) (parts : List Part) (n : PartNames) (b m now : ℕ) (x : Answer) → left ≡ n ∷ later
    → b ≤ m → PartFrom i n held m now (ends_by x) → SoFar i held names parts left → PartsFrom i names held b now (ends_by x)
part_lost i held names left later parts n b m now x next le why (front, split, are) =
    without_part front n later (split ∙ ap (λ ns. front ++ ns) next) parts are m le x why

-- the picture of a graph by the verdicts of a part
pub drawn : (g : Lists) (p : Part) (l : Arrangement) → IsArranged g l → IsFaultsPicture g p.script p.verdicts (faults_text g p.script p.verdicts l)
drawn g p l arranged = record { arrangement = l; arranged = arranged; told = refl }
