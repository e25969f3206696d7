-- Ended: lines that each begin with the LF of the line before, and a last LF.
use Rattle.std.proofs.Common.{◌≡◌, ℕ, List, [], ◌∷◌, ◌++◌, codes, refl, sym, ap, ◌∙◌, append_assoc}
use Rattle.fault_sites.specs.declared.site.Site.{Site}
use Rattle.fault_sites.specs.SiteText.{site_line, site_lines}
use Rattle.fault_sites.specs.Rests.{groups_text}
use Rattle.fault_sites.specs.Spending.{fed_groups}
use Rattle.fault_sites.specs.Telling.{fed_lines}

pieces : (line fed lines : List ℕ) → fed ++ 10 ∷ [] ≡ 10 ∷ lines → (line ++ fed) ++ 10 ∷ [] ≡ (line ++ 10 ∷ []) ++ lines
pieces line fed lines e = append_assoc line fed (10 ∷ []) ∙ (ap (λ (t : List ℕ). line ++ t) e ∙ sym (append_assoc line (10 ∷ []) lines))

fed_ended : (xs : List Site) → fed_lines xs ++ 10 ∷ [] ≡ 10 ∷ site_lines xs
fed_ended [] = refl
fed_ended (s ∷ xs) = ap (λ (t : List ℕ). 10 ∷ t) (pieces (site_line s) (fed_lines xs) (site_lines xs) (fed_ended xs))

regroup : (name digest : List ℕ)
    → (codes "# sites " ++ (name ++ (codes " of " ++ digest))) ++ 10 ∷ [] ≡ codes "# sites " ++ (name ++ (codes " of " ++ (digest ++ codes "\n")))
regroup name digest = simp append_assoc

-- a remark, and lines behind it
pub ended_lines : (name digest fed lines : List ℕ) → fed ++ 10 ∷ [] ≡ 10 ∷ lines
    → (codes "# sites " ++ (name ++ (codes " of " ++ (digest ++ codes "\n")))) ++ lines
    ≡ (codes "# sites " ++ (name ++ (codes " of " ++ digest))) ++ fed ++ codes "\n"
ended_lines name digest fed lines e =
    ap (λ (t : List ℕ). t ++ lines) (sym (regroup name digest)) ∙ sym (pieces (codes "# sites " ++ (name ++ (codes " of " ++ digest))) fed lines e)

pub ended_text : (name digest : List ℕ) (xs : List Site)
    → (codes "# sites " ++ (name ++ (codes " of " ++ (digest ++ codes "\n")))) ++ site_lines xs
    ≡ (codes "# sites " ++ (name ++ (codes " of " ++ digest))) ++ fed_lines xs ++ codes "\n"
ended_text name digest xs = ended_lines name digest (fed_lines xs) (site_lines xs) (fed_ended xs)

-- ---- groups

before_more : (fed lines more : List ℕ) → fed ++ 10 ∷ [] ≡ 10 ∷ lines → fed ++ 10 ∷ more ≡ 10 ∷ (lines ++ more)
before_more fed lines more e = sym (append_assoc fed (10 ∷ []) more) ∙ ap (λ (t : List ℕ). t ++ more) e

group_pieces : (lines more : List ℕ) → lines ++ (codes "end\n" ++ more) ≡ (lines ++ codes "end\n") ++ more
group_pieces lines more = sym (append_assoc lines (codes "end\n") more)

inner : (fed more : List ℕ) → (codes "\nbegin" ++ (fed ++ (codes "\nend" ++ more))) ++ 10 ∷ [] ≡ codes "\nbegin" ++ (fed ++ 10 ∷ (codes "end" ++ (more ++ 10 ∷ [])))
inner fed more = simp append_assoc

pub groups_ended : (gs : List (List Site)) → fed_groups gs ++ 10 ∷ [] ≡ 10 ∷ groups_text gs
groups_ended [] = refl
groups_ended (xs ∷ gs) =
    inner (fed_lines xs) (fed_groups gs)
    ∙ (ap (λ (t : List ℕ). codes "\nbegin" ++ (fed_lines xs ++ 10 ∷ (codes "end" ++ t))) (groups_ended gs)
    ∙ (ap (λ (t : List ℕ). codes "\nbegin" ++ t) (before_more (fed_lines xs) (site_lines xs) (codes "end\n" ++ groups_text gs) (fed_ended xs))
    ∙ ap (λ (t : List ℕ). codes "\nbegin\n" ++ t) (group_pieces (site_lines xs) (groups_text gs))))
