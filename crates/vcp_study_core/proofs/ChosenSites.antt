-- ChosenSites: what writing chosen sites, or groups of them, of an image gives.
use Rattle.std.proofs.Common.{◌≡◌, Option, Result, ap, ◌∙◌, ℕ, false, List, [], ◌++◌, length, Ok, Err, refl, codes, decimal}
use Rattle.std.specs.Io.KnownBytes.{Appends}
use Rattle.vcp_outside.specs.Counts.{Rose}
use Rattle.vcp_outside.specs.Seen.{SinkSeen}
use Rattle.vcp_outside.specs.Written.{AppendsPart}
use Rattle.fault_sites.specs.Part.{kept}
use Rattle.fault_sites.specs.RestScript.{WritesChosenGroups, WritesGroups}
use Rattle.fault_sites.specs.Rests.{kept_groups}
use Rattle.fault_sites.specs.Script.{WritesChosen, WritesNumber, WritesScript}
use Rattle.fault_sites.specs.declared.scripts.chosen.Chosen.{Chosen}
use Rattle.fault_sites.specs.declared.scripts.chosen.Chosen.TheVariants as chosen
use Rattle.fault_sites.specs.declared.scripts.unwritten.Unwritten.{Unwritten}
use Rattle.fault_sites.specs.declared.scripts.unwritten.Unwritten.TheVariants as unwritten
use Rattle.fault_sites.specs.declared.site.Site.{Site}
use Rattle.vcp_inputs.specs.declared.images.Image.{Image}
use Rattle.vcp_inputs.specs.Lines.{memory_text, write_fault_text}
use Rattle.vcp_inputs.specs.Answer.{Answer}
use Rattle.vcp_study_core.specs.CarriedOut.{CarriedOut, WritesSo, done, cut, unmade, written}
use Rattle.vcp_study_core.specs.FromFiles.{own_answer}
use Rattle.vcp_study_core.specs.Lines.{own_text}
use Rattle.vcp_study_core.specs.Texts.{Chooses, ChoosesGroups, GroupsScript, SitesScript, groups_script, sites_script, too_long, too_many}
use Rattle.vcp_study_core.specs.declared.fault.StudyRefusal.TheVariants as why
use Rattle.vcp_study_core.proofs.Carrying.{whole, broken, no_memory, refused}

-- how far an answer is written
abbrev pub Wrote : List ℕ → (Answer → Type 0) → Option (List ℕ) → Option (List ℕ) → Result (Unit {0}) Unwritten → Type 0
Wrote m Is old new (Ok _) = (text : List ℕ) × Is (written text false) × Appends old new text
Wrote m Is old new (Err unwritten.Failed) = (text : List ℕ) × Is (written text false) × AppendsPart old new text
Wrote m Is old new (Err unwritten.TooMany) = Is (own_answer m why.Sites) × Appends old new []
Wrote m Is old new (Err unwritten.Memory) = Appends old new []

module _ (m : List ℕ) (Is : Answer → Type 0) (old new : SinkSeen) where
  pub wrote_whole : Wrote m Is old.written new.written (Ok tt) → WritesSo Is old new [] 0
  wrote_whole (text, is, w) = whole Is old new text false is w

  pub wrote_broken : Wrote m Is old.written new.written (Err unwritten.Failed) → Rose old.faults new.faults → WritesSo Is old new write_fault_text 6
  wrote_broken (text, is, w) rose = broken Is old new text false is w rose

  pub wrote_refused : Wrote m Is old.written new.written (Err unwritten.TooMany) → WritesSo Is old new (own_text m why.Sites) 1
  wrote_refused (is, none) = refused Is old new (own_answer m why.Sites) is refl refl none

  pub wrote_unmade : Wrote m Is old.written new.written (Err unwritten.Memory) → WritesSo Is old new memory_text 7
  wrote_unmade w = no_memory Is old new w

-- ---- sites

script_wrote : (m : List ℕ) (i : Image) (name : List ℕ) (xs : List Site) (old new : Option (List ℕ)) (r : Result (Unit {0}) Unwritten)
    → WritesScript i.graph i.table name xs old new r → Wrote m (SitesScript m i name xs) old new r
script_wrote m i name xs old new (Ok u) (text, is, w) = (text, sites_script (text, false, (is, refl), refl), w)
script_wrote m i name xs old new (Err unwritten.Failed) (text, is, w) = (text, sites_script (text, false, (is, refl), refl), w)
script_wrote m i name xs old new (Err unwritten.TooMany) (more, none) = (too_many more refl, none)
script_wrote m i name xs old new (Err unwritten.Memory) w = w

number_wrote : (m : List ℕ) (n : ℕ) (old new : Option (List ℕ)) (r : Result (Unit {0}) Unwritten) → WritesNumber n old new r
    → Wrote m (λ x. x ≡ written (decimal n ++ codes "\n") false) old new r
number_wrote m n old new (Ok u) w = (decimal n ++ codes "\n", refl, w)
number_wrote m n old new (Err unwritten.Failed) w = (decimal n ++ codes "\n", refl, w)
number_wrote m n old new (Err unwritten.TooMany) w = absurd w
number_wrote m n old new (Err unwritten.Memory) w = w

pub sites_wrote : (m : List ℕ) (i : Image) (name : List ℕ) (xs : List Site) (which : Chosen) (old new : Option (List ℕ)) (r : Result (Unit {0}) Unwritten)
    → WritesChosen i.graph i.table name xs which old new r → Wrote m (Chooses m i name xs which) old new r
sites_wrote m i name xs chosen.All old new r w = script_wrote m i name xs old new r w
sites_wrote m i name xs (chosen.Part part) old new r w = script_wrote m i name (kept part xs) old new r w
sites_wrote m i name xs chosen.Number old new r w = number_wrote m (length xs) old new r w

-- ---- groups

group_script_wrote : (m : List ℕ) (i : Image) (gs : List (List Site)) (old new : Option (List ℕ)) (r : Result (Unit {0}) Unwritten)
    → WritesGroups i.graph i.table gs old new r → Wrote m (GroupsScript m i gs) old new r
group_script_wrote m i gs old new (Ok u) (first, text, is, w) = (text, groups_script first (text, false, (is, refl), refl), w)
group_script_wrote m i gs old new (Err unwritten.Failed) (first, text, is, w) = (text, groups_script first (text, false, (is, refl), refl), w)
group_script_wrote m i gs old new (Err unwritten.TooMany) (first, none) = (too_long first refl, none)
group_script_wrote m i gs old new (Err unwritten.Memory) w = w

pub groups_wrote : (m : List ℕ) (i : Image) (gs : List (List Site)) (which : Chosen) (old new : Option (List ℕ)) (r : Result (Unit {0}) Unwritten)
    → WritesChosenGroups i.graph i.table gs which old new r → Wrote m (ChoosesGroups m i gs which) old new r
groups_wrote m i gs chosen.All old new r w = group_script_wrote m i gs old new r w
groups_wrote m i gs (chosen.Part part) old new r w = group_script_wrote m i (kept_groups part gs) old new r w
groups_wrote m i gs chosen.Number old new r w = number_wrote m (length gs) old new r w

-- what holds beside what is written
pub with_fact : {X : Type 0} {Is : Answer → Type 0} {old new : SinkSeen} {line : List ℕ} {code : ℕ} → X → WritesSo Is old new line code
    → WritesSo (λ x. X × Is x) old new line code
with_fact {X = X} {Is = Is} {old = old} {new = new} {line = line} {code = code} fact w =
    record { reaches = by w.reaches; statuses = w.statuses; write = w.write }
  where
    by : CarriedOut Is old new line code → CarriedOut (λ x. X × Is x) old new line code
    by (done x is appends told same) = done x (fact, is) appends told same
    by (cut x is appends told same) = cut x (fact, is) appends told same
    by (unmade appends told same) = unmade appends told same

-- a result that is a fault, which is this one
pub that_fault : (u : Result (Unit {0}) Unwritten) (e f : Unwritten) → u ≡ Err e → e ≡ f → u ≡ Err f
that_fault u e f is same = is ∙ ap Err same
