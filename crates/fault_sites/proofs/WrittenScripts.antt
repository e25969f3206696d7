-- WrittenScripts: the part of all sites, and what is written of them: their script, or nothing, where there is no memory.
use Rattle.std.proofs.Common.{◌≡◌, ◌<◌, ◌≤◌, ◌-◌, ◌++◌, ℕ, List, [], min, length, drop, Option, Some, None, Result, Ok, Err, decimal, codes, true, false, ap, sym, subst, ◌∙◌, arith}
use Rattle.std.specs.Io.KnownBytes.{Appends}
use Rattle.std.proofs.lemmas.List.{append-nil, length-take, length-drop, take_all}
use Rattle.vcp_base.specs.Limits.{most_source_bytes}
use Rattle.vcp_outside.specs.declared.failed.Failed.{Failed}
use Rattle.vcp_outside.specs.Counts.{Rose}
use Rattle.vcp_outside.specs.Written.{Writes}
use Rattle.op_graph.specs.Lists.{Lists}
use Rattle.signature_table.specs.Signatures.{Numbers}
use Rattle.fault_script.specs.ScriptOf.{most_faults, script_of}
use Rattle.fault_sites.specs.declared.part.Part.{Part}
use Rattle.fault_sites.specs.declared.site.Site.{Site}
use Rattle.fault_sites.specs.Digest.{digest_of}
use Rattle.fault_sites.specs.Part.{kept}
use Rattle.fault_sites.specs.Rests.{first_fits, fitting, kept_groups}
use Rattle.fault_sites.specs.RestScript.{IsGroupScript, WritesChosenGroups, WritesGroups}
use Rattle.fault_sites.specs.declared.scripts.chosen.Chosen.{Chosen}
use Rattle.fault_sites.specs.declared.scripts.chosen.Chosen.TheVariants as chosen
use Rattle.fault_sites.specs.declared.scripts.unwritten.Unwritten.{Unwritten}
use Rattle.fault_sites.specs.declared.scripts.unwritten.Unwritten.TheVariants as unwritten
use Rattle.fault_sites.specs.Script.{IsScript, chosen_part, WritesChosen, WritesNumber, WritesScript, outcome}
use Rattle.fault_sites.specs.SiteText.{named_remark, said_from, site_lines}

-- the part of all of them
pub kept_whole : (xs : List Site) (n : ℕ) → n ≡ length xs → kept (record { skip = 0; left = n }) xs ≡ xs
kept_whole xs n is = take_all n xs (omega (arith, is))

pub groups_whole : (gs : List (List Site)) (n : ℕ) → n ≡ length gs → kept_groups (record { skip = 0; left = n }) gs ≡ gs
groups_whole gs n is = take_all n gs (omega (arith, is))

appends_none : (old : Option (List ℕ)) → Appends old old []
appends_none None = tt
appends_none (Some bytes) = sym (append-nil bytes)

-- where there is no memory nothing is written
pub none_written : (g : Lists) (t : Numbers) (name : List ℕ) (xs : List Site) (which : Chosen) (old : Option (List ℕ))
    → WritesChosen g t name xs which old old (Err unwritten.Memory)
none_written g t name xs chosen.All old = appends_none old
none_written g t name xs (chosen.Part part) old = appends_none old
none_written g t name xs chosen.Number old = appends_none old

pub no_groups_written : (g : Lists) (t : Numbers) (gs : List (List Site)) (which : Chosen) (old : Option (List ℕ))
    → WritesChosenGroups g t gs which old old (Err unwritten.Memory)
no_groups_written g t gs chosen.All old = appends_none old
no_groups_written g t gs (chosen.Part part) old = appends_none old
no_groups_written g t gs chosen.Number old = appends_none old

-- want of memory is no failure of the sink
abbrev answer : Unwritten → Result (Unit {0}) Unwritten
answer why = Err why

pub no_failure : {X : Type 0} → answer unwritten.Memory ≡ answer unwritten.Failed → X
no_failure is = absurd cc

pub too_many_is_none : {X : Type 0} → answer unwritten.TooMany ≡ answer unwritten.Failed → X
too_many_is_none is = absurd cc

-- what is chosen, as a part or as the number
pub part_written : (old new : Option (List ℕ)) (g : Lists) (t : Numbers) (name : List ℕ) (xs : List Site) (which : Chosen) (total : ℕ) (part : Part)
    (r : Result (Unit {0}) Unwritten) → total ≡ length xs → Some part ≡ chosen_part total which → WritesScript g t name (kept part xs) old new r
    → WritesChosen g t name xs which old new r
part_written old new g t name xs chosen.All total part r many is writes =
    let same : part ≡ record { skip = 0; left = total } = cc in
    subst (λ (ys : List Site). WritesScript g t name ys old new r) (ap (λ (p : Part). kept p xs) same ∙ kept_whole xs total many) writes
part_written old new g t name xs (chosen.Part other) total part r many is writes =
    let same : part ≡ other = cc in subst (λ (p : Part). WritesScript g t name (kept p xs) old new r) same writes
part_written old new g t name xs chosen.Number total part r many is writes = absurd cc

pub how_many_written : (old new : Option (List ℕ)) (g : Lists) (t : Numbers) (name : List ℕ) (xs : List Site) (which : Chosen) (total : ℕ)
    (r : Result (Unit {0}) Unwritten) → total ≡ length xs → None ≡ chosen_part total which → WritesNumber total old new r
    → WritesChosen g t name xs which old new r
how_many_written old new g t name xs chosen.All total r many is writes = absurd cc
how_many_written old new g t name xs (chosen.Part other) total r many is writes = absurd cc
how_many_written old new g t name xs chosen.Number total r many is writes = subst (λ (n : ℕ). WritesNumber n old new r) many writes

pub part_of_groups_written : (old new : Option (List ℕ)) (g : Lists) (t : Numbers) (gs : List (List Site)) (which : Chosen) (total : ℕ) (part : Part)
    (r : Result (Unit {0}) Unwritten) → total ≡ length gs → Some part ≡ chosen_part total which → WritesGroups g t (kept_groups part gs) old new r
    → WritesChosenGroups g t gs which old new r
part_of_groups_written old new g t gs chosen.All total part r many is writes =
    let same : part ≡ record { skip = 0; left = total } = cc in
    subst (λ (hs : List (List Site)). WritesGroups g t hs old new r) (ap (λ (p : Part). kept_groups p gs) same ∙ groups_whole gs total many) writes
part_of_groups_written old new g t gs (chosen.Part other) total part r many is writes =
    let same : part ≡ other = cc in subst (λ (p : Part). WritesGroups g t (kept_groups p gs) old new r) same writes
part_of_groups_written old new g t gs chosen.Number total part r many is writes = absurd cc

pub how_many_groups_written : (old new : Option (List ℕ)) (g : Lists) (t : Numbers) (gs : List (List Site)) (which : Chosen) (total : ℕ)
    (r : Result (Unit {0}) Unwritten) → total ≡ length gs → None ≡ chosen_part total which → WritesNumber total old new r
    → WritesChosenGroups g t gs which old new r
how_many_groups_written old new g t gs chosen.All total r many is writes = absurd cc
how_many_groups_written old new g t gs (chosen.Part other) total r many is writes = absurd cc
how_many_groups_written old new g t gs chosen.Number total r many is writes = subst (λ (n : ℕ). WritesNumber n old new r) many writes

-- ---- the script of a part

kept_many : (p : Part) (xs : List Site) (size total : ℕ) → size ≡ min p.left (total - p.skip) → total ≡ length xs → length (kept p xs) ≡ size
kept_many p xs size total is all =
    length-take p.left (drop p.skip xs)
    ∙ (ap (λ (m : ℕ). min p.left m) (length-drop p.skip xs) ∙ (ap (λ (m : ℕ). min p.left (m - p.skip)) (sym all) ∙ sym is))

kept_few : (p : Part) (xs : List Site) (size total : ℕ) → size ≡ min p.left (total - p.skip) → total ≡ length xs → size ≤ most_faults
    → length (kept p xs) ≤ most_faults
kept_few p xs size total is all few = let many : length (kept p xs) ≡ size = kept_many p xs size total is all in omega (arith, many, few)

-- one with more sites isn't written
pub too_many_written : (g : Lists) (t : Numbers) (name : List ℕ) (xs : List Site) (p : Part) (size total : ℕ) (old : Option (List ℕ))
    → size ≡ min p.left (total - p.skip) → total ≡ length xs → most_faults < size → WritesScript g t name (kept p xs) old old (Err unwritten.TooMany)
too_many_written g t name xs p size total old is all more =
    let many : length (kept p xs) ≡ size = kept_many p xs size total is all in (omega (arith, many, more), appends_none old)

-- nor is one where memory is wanted
pub script_unwritten : (g : Lists) (t : Numbers) (name : List ℕ) (xs : List Site) (old : Option (List ℕ))
    → WritesScript g t name xs old old (Err unwritten.Memory)
script_unwritten g t name xs old = appends_none old

pub groups_unwritten : (g : Lists) (t : Numbers) (gs : List (List Site)) (old : Option (List ℕ)) → WritesGroups g t gs old old (Err unwritten.Memory)
groups_unwritten g t gs old = appends_none old

pub too_many_groups : (g : Lists) (t : Numbers) (gs : List (List Site)) (old : Option (List ℕ)) → first_fits most_faults gs ≡ false
    → WritesGroups g t gs old old (Err unwritten.TooMany)
too_many_groups g t gs old is = (is, appends_none old)

-- it has so many sites that it is read back, and that it is short
pub is_script : (name digest : List ℕ) (t : Numbers) (g : Lists) (xs : List Site) (p : Part) (size total : ℕ) → digest ≡ digest_of g t.seed t.step
    → size ≡ min p.left (total - p.skip) → total ≡ length xs → size ≤ most_faults
    → (length (kept p xs) ≤ most_faults → script_of g (named_remark name digest ++ site_lines (kept p xs)) ≡ Ok (said_from 2 (kept p xs)))
    → (length (kept p xs) ≤ most_faults → length (named_remark name digest ++ site_lines (kept p xs)) ≤ most_source_bytes)
    → IsScript g t name (kept p xs) (named_remark name digest ++ site_lines (kept p xs))
is_script name digest t g xs p size total is size_is total_is room read short =
    let fits : length (kept p xs) ≤ most_faults = kept_few p xs size total size_is total_is room in
    record { told = ap (λ (d : List ℕ). named_remark name d ++ site_lines (kept p xs)) is; few = fits; read = read fits; short = short fits }

-- ---- what the sink answered

pub script_written : {old new : Option (List ℕ)} {f h : ℕ} (g : Lists) (t : Numbers) (name : List ℕ) (xs : List Site) (text : List ℕ)
    (r : Result (Unit {0}) Failed) → IsScript g t name xs text → Writes old new f h text r → WritesScript g t name xs old new (outcome r)
script_written g t name xs text (Ok _) is writes = (text, is, writes.whole)
script_written g t name xs text (Err _) is writes = (text, is, writes.part)

pub groups_written : {old new : Option (List ℕ)} {f h : ℕ} (g : Lists) (t : Numbers) (gs : List (List Site)) (text : List ℕ)
    (r : Result (Unit {0}) Failed) → first_fits most_faults gs ≡ true → IsGroupScript g t (fitting most_faults gs) text → Writes old new f h text r
    → WritesGroups g t gs old new (outcome r)
groups_written g t gs text (Ok _) first is writes = (first, text, is, writes.whole)
groups_written g t gs text (Err _) first is writes = (first, text, is, writes.part)

pub number_written : {old new : Option (List ℕ)} {f h : ℕ} (n : ℕ) (r : Result (Unit {0}) Failed) → Writes old new f h (decimal n ++ codes "\n") r
    → WritesNumber n old new (outcome r)
number_written n (Ok _) writes = writes.whole
number_written n (Err _) writes = writes.part

pub sink_failed : {old new : Option (List ℕ)} {f h : ℕ} {text : List ℕ} (r : Result (Unit {0}) Failed) → Writes old new f h text r
    → outcome r ≡ Err unwritten.Failed → Rose f h
sink_failed (Ok _) writes is = absurd cc
sink_failed (Err _) writes is = writes.cause.failed
