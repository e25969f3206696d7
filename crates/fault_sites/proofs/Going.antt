-- Going: one piece of a text behind another, and one part of the sites behind another.
use Rattle.std.proofs.Common.{◌≡◌, ℕ, ◌+◌, ◌<◌, ◌≤◌, List, [], ◌∷◌, ◌++◌, length, codes, ◌-◌, add-one, append_assoc, refl, sym, ap, ◌∙◌, arith}
use Rattle.std.proofs.lemmas.List.{append-nil}
use Rattle.fault_script.specs.declared.act.Act.{Act}
use Rattle.fault_sites.specs.declared.part.Part.{Part}
use Rattle.fault_sites.specs.declared.site.Site.{Site}
use Rattle.fault_sites.specs.Part.{kept, after}
use Rattle.fault_sites.specs.Sites.{each_below, site, sited}
use Rattle.fault_sites.specs.SiteText.{site_line}
use Rattle.fault_sites.specs.Telling.{fed_lines, Tells}
use Rattle.fault_sites.proofs.Parts.{kept_append, after_append, kept_nil, after_nil, after_over, after_going, kept_over, kept_before, kept_first, part_same}
use Rattle.vcp_outside.specs.Pens.{Penned, Goes, unmoved, and_then, same}

fed_append : (xs ys : List Site) → fed_lines (xs ++ ys) ≡ fed_lines xs ++ fed_lines ys
fed_append [] ys = refl
fed_append (s ∷ xs) ys =
    ap (λ (t : List ℕ). 10 ∷ (site_line s ++ t)) (fed_append xs ys)
    ∙ ap (λ (t : List ℕ). 10 ∷ t) (sym (append_assoc (site_line s) (fed_lines xs) (fed_lines ys)))

-- no sites
pub tells_none : {l : Penned} {p : Part} → Tells l l p p []
tells_none {p = p} = record { gathers = same unmoved (ap fed_lines (kept_nil p)); left = sym (after_nil p) }

-- some sites and others
pub tells_both : {l m n : Penned} {p q r : Part} {xs ys : List Site} → Tells l m p q xs → Tells m n q r ys
    → Tells l n p r (xs ++ ys)
tells_both {p = p} {q = q} {xs = xs} {ys = ys} first second = record {
  gathers = same (and_then first.gathers second.gathers)
      (ap fed_lines (kept_append p xs ys) ∙ (fed_append (kept p xs) (kept (after p xs) ys)
      ∙ ap (λ (q : Part). fed_lines (kept p xs) ++ fed_lines (kept q ys)) (sym first.left)));
  left = second.left ∙ (ap (λ (q : Part). after q ys) first.left ∙ after_append p xs ys);
}

-- the same sites, listed otherwise
pub tells_same : {l m : Penned} {p q : Part} {xs ys : List Site} → Tells l m p q xs → ys ≡ xs → Tells l m p q ys
tells_same tells e = rw e tells

-- the part is over
pub tells_over : {l : Penned} {p : Part} (xs : List Site) → p.left ≡ 0 → Tells l l p p xs
tells_over {p = p} xs done = record { gathers = same unmoved (ap fed_lines (kept_over p xs done)); left = sym (after_over p xs done) }

-- ---- acts at one operation in one cycle

sited_append : (n k : ℕ) (xs ys : List Act) → sited n k (xs ++ ys) ≡ sited n k xs ++ sited n k ys
sited_append n k [] ys = refl
sited_append n k (a ∷ xs) ys = ap (λ (t : List Site). site n k a ∷ t) (sited_append n k xs ys)

-- some acts and others
pub acts_both : {l m o : Penned} {p q r : Part} (n k : ℕ) (xs ys : List Act) → Tells l m p q (sited n k xs)
    → Tells m o q r (sited n k ys) → Tells l o p r (sited n k (xs ++ ys))
acts_both n k xs ys first second = tells_same (tells_both first second) (sited_append n k xs ys)

-- those of one number more
pub acts_more : {l m o : Penned} {p q r : Part} (n k : ℕ) (f : ℕ → List Act) (i : ℕ) → Tells l m p q (sited n k (each_below f i))
    → Tells m o q r (sited n k (f i)) → Tells l o p r (sited n k (each_below f (i + 1)))
acts_more n k f i first second = rw (add-one i) (acts_both n k (each_below f i) (f i) first second)

pub sites_more : {l m o : Penned} {p q r : Part} (f : ℕ → List Site) (i : ℕ) → Tells l m p q (each_below f i)
    → Tells m o q r (f i) → Tells l o p r (each_below f (i + 1))
sites_more f i first second = rw (add-one i) (tells_both first second)

-- one site: it stands before the part, or is the first of it
pub one_passed : {l : Penned} {p q : Part} (s : Site) → 0 < p.left → 0 < p.skip → q.skip ≡ p.skip - 1 → q.left ≡ p.left
    → Tells l l p q (s ∷ [])
one_passed {p = p} {q = q} s going some skip left = record {
  gathers = same unmoved (ap fed_lines (kept_before p (s ∷ []) (omega arith)));
  left = part_same q.skip (p.skip - 1) q.left (p.left - (1 - p.skip)) skip (omega (arith, left)) ∙ sym (after_going p (s ∷ []) going);
}

pub one_told : {l m : Penned} {p q : Part} (s : Site) → 0 < p.left → p.skip ≡ 0 → q.skip ≡ 0 → q.left ≡ p.left - 1
    → Goes l m (codes "\n" ++ site_line s) → Tells l m p q (s ∷ [])
one_told {p = p} {q = q} s going none skip left told = record {
  gathers = same told (ap fed_lines (kept_first p s going none) ∙ ap (λ (t : List ℕ). 10 ∷ t) (append-nil (site_line s)));
  left = part_same q.skip (p.skip - 1) q.left (p.left - (1 - p.skip)) (omega (arith, skip, none)) (omega (arith, left, none))
      ∙ sym (after_going p (s ∷ []) going);
}

-- sites that all stand before the part
pub passed_over : {l : Penned} {p q : Part} (xs : List Site) → 0 < p.left → length xs ≤ p.skip → q.skip ≡ p.skip - length xs
    → q.left ≡ p.left → Tells l l p q xs
passed_over {p = p} {q = q} xs going some skip left = record {
  gathers = same unmoved (ap fed_lines (kept_before p xs some));
  left = part_same q.skip (p.skip - length xs) q.left (p.left - (length xs - p.skip)) skip (omega (arith, left, some)) ∙ sym (after_going p xs going);
}
