-- GroupsShort: a script of groups is short enough to be read from a file, and what is kept of groups are groups.
use Rattle.std.proofs.Common.{◌≡◌, ℕ, ◌-◌, ◌*◌, ◌^◌, ◌≤◌, Bool, true, false, nat_le, cond, List, [], ◌∷◌, ◌++◌, length, All, codes, ap, arith, refl, length-append}
use Rattle.std.proofs.lemmas.Bool.Decides.{nat_tests}
use Rattle.std.proofs.lemmas.List.Elements.{All-nil, All-cons, All-head, All-tail, All-take, All-drop}
use Rattle.vcp_base.specs.Limits.{most_cycles, most_source_bytes}
use Rattle.op_graph.specs.Laws.{EntryLaws}
use Rattle.op_graph.specs.Lists.{Lists}
use Rattle.op_graph.specs.Rules.{IsPart}
use Rattle.signature_table.specs.Signatures.{Numbers}
use Rattle.fault_script.specs.ScriptOf.{most_faults}
use Rattle.fault_sites.specs.declared.part.Part.{Part}
use Rattle.fault_sites.specs.declared.site.Site.{Site}
use Rattle.fault_sites.specs.Digest.{digest_of}
use Rattle.fault_sites.specs.RestScript.{IsGroupScript}
use Rattle.fault_sites.specs.Rests.{fitting, group_text, groups, groups_text, kept_groups, lines_of, rest_text}
use Rattle.fault_sites.specs.SiteText.{site_lines}
use Rattle.fault_sites.proofs.Below.{all_if}
use Rattle.fault_sites.proofs.GroupsFit.{IsGroup, groups_fit}
use Rattle.fault_sites.proofs.GroupsRead.{rest_read_back}
use Rattle.fault_sites.proofs.Short.{lines_short}

group_short : (g : Lists) (xs : List Site) → length g.operations ≤ 2 ^ 32 → IsGroup g xs → length (group_text xs) ≤ length xs * 104
group_short g xs few is =
    let some = is.some in
    omega (arith, lines_short g xs few is.fit, some, length-append (site_lines xs) (codes "end\n"))

groups_short : (g : Lists) (gs : List (List Site)) → length g.operations ≤ 2 ^ 32 → All (IsGroup g) gs → length (groups_text gs) ≤ lines_of gs * 104
groups_short g [] few are = omega arith
groups_short g (xs ∷ gs) few are =
    omega (
      arith,
      group_short g xs few (All-head (IsGroup g) xs gs are),
      groups_short g gs few (All-tail (IsGroup g) xs gs are),
      length-append (group_text xs) (groups_text gs),
    )

rest_short : (digest : List ℕ) (g : Lists) (gs : List (List Site)) → length digest ≡ 64 → length g.operations ≤ 2 ^ 32 → lines_of gs ≤ most_faults
    → All (IsGroup g) gs → length (rest_text digest gs) ≤ most_source_bytes
rest_short digest g gs digits few room are =
    omega (
      arith,
      groups_short g gs few are,
      digits,
      room,
      length-append digest (codes "\n"),
      length-append (codes "# sites rest of " ++ (digest ++ codes "\n")) (groups_text gs),
    )

-- ---- what fits

few_if : (room : ℕ) (xs : List Site) (more : List (List Site)) (b : Bool) → nat_le (length xs) room ≡ b → lines_of more ≤ room - length xs
    → lines_of (cond b (xs ∷ more) []) ≤ room
few_if room xs more true is few =
    let le : length xs ≤ room = grind (arith, nat_tests) in omega (arith, le, few)
few_if room xs more false is few = omega arith

fitting_few : (room : ℕ) (gs : List (List Site)) → lines_of (fitting room gs) ≤ room
fitting_few room [] = omega arith
fitting_few room (xs ∷ gs) =
    few_if room xs (fitting (room - length xs) gs) (nat_le (length xs) room) refl (fitting_few (room - length xs) gs)

fitting_are : (P : List Site → Type 0) (room : ℕ) (gs : List (List Site)) → All P gs → All P (fitting room gs)
fitting_are P room [] are = All-nil P
fitting_are P room (xs ∷ gs) are =
    all_if P (nat_le (length xs) room) (xs ∷ fitting (room - length xs) gs)
    (λ fits. All-cons P xs (fitting (room - length xs) gs) (All-head P xs gs are) (fitting_are P (room - length xs) gs (All-tail P xs gs are)))

-- the script of what of a part fits
pub rest_script : (digest : List ℕ) (t : Numbers) (g : Lists) (cycles : ℕ) (p : Part) → EntryLaws → IsPart g → cycles ≤ most_cycles
    → digest ≡ digest_of g t.seed t.step → All (λ b. 32 ≤ b) digest → length digest ≡ 64 → length g.operations ≤ 2 ^ 32
    → IsGroupScript g t (fitting most_faults (kept_groups p (groups g cycles))) (rest_text digest (fitting most_faults (kept_groups p (groups g cycles))))
rest_script digest t g cycles p laws part few is plain digits ops =
    let gs : List (List Site) = kept_groups p (groups g cycles) in
    let xs : List (List Site) = fitting most_faults gs in
    let are : All (IsGroup g) xs =
    fitting_are (IsGroup g) most_faults gs (All-take (IsGroup g) p.left _ (All-drop (IsGroup g) p.skip (groups g cycles) (groups_fit g cycles laws part few))) in
    let room : lines_of xs ≤ most_faults = fitting_few most_faults gs in
    record {
      told = ap (λ (d : List ℕ). rest_text d xs) is;
      few = room;
      read = rest_read_back digest g xs plain ops room are;
      short = rest_short digest g xs digits ops room are;
    }
