-- NamedGoing: one more cycle, some sites, lines and entries behind others.
use Rattle.std.proofs.Common.{◌≡◌, ℕ, zero, suc, ◌+◌, List, [], ◌∷◌, ◌++◌, append_assoc, refl, sym, ap, ◌∙◌, arith}
use Rattle.std.proofs.lemmas.List.{append-nil}
use Rattle.fault_script.specs.declared.act.Act.{Act}
use Rattle.fault_sites.specs.declared.site.Site.{Site}
use Rattle.fault_sites.specs.Sites.{site}
use Rattle.fault_sites.specs.SiteText.{site_text, site_lines}
use Rattle.fault_sites.specs.NamedScript.{sites_from, Entry, entry_text, entry_texts}
use Rattle.vcp_outside.specs.Pens.{Penned, Goes, unmoved, and_then, same}

-- one more cycle
pub one_more : (k : ℕ) (a : Act) (n i m : ℕ) → m ≡ n + i
    → site_lines (sites_from k a n (i + 1)) ≡ site_lines (sites_from k a n i) ++ site_text (site m k a)
one_more k a n zero m e =
    let same : n ≡ m = omega (arith, e) in append-nil (site_text (site n k a)) ∙ ap (λ (m : ℕ). site_text (site m k a)) same
one_more k a n (suc i) m e =
    let next : suc i + 1 ≡ suc (i + 1) = omega arith in
    ap (λ (c : ℕ). site_lines (sites_from k a n c)) next
    ∙ ap (λ (t : List ℕ). site_text (site n k a) ++ t) (one_more k a (n + 1) i m (omega (arith, e)))
    ∙ sym (append_assoc (site_text (site n k a)) (site_lines (sites_from k a (n + 1) i)) (site_text (site m k a)))

-- some sites and others
pub lines_both : (xs ys : List Site) → site_lines (xs ++ ys) ≡ site_lines xs ++ site_lines ys
lines_both [] ys = refl
lines_both (s ∷ xs) ys = ap (λ (t : List ℕ). site_text s ++ t) (lines_both xs ys) ∙ sym (append_assoc (site_text s) (site_lines xs) (site_lines ys))

-- some lines and others
pub texts_both : (es fs : List Entry) → entry_texts (es ++ fs) ≡ entry_texts es ++ entry_texts fs
texts_both [] fs = refl
texts_both (e ∷ es) fs = ap (λ (t : List ℕ). entry_text e ++ t) (texts_both es fs) ∙ sym (append_assoc (entry_text e) (entry_texts es) (entry_texts fs))

-- some entries of all were told, and these are left
pub record Part (old new : Penned) (all left : List Entry) : Type 0 where
  pub done : List Entry
  pub whole : all ≡ done ++ left
  pub gathers : Goes old new (entry_texts done)

pub none_told : {l : Penned} {all : List Entry} → Part l l all all
none_told = record { done = []; whole = refl; gathers = unmoved }

pub told_more : {l m n : Penned} {all left : List Entry} (some rest : List Entry) → Part l m all left → left ≡ some ++ rest
    → Goes m n (entry_texts some) → Part l n all rest
told_more {left = left} some rest part is told = record {
  done = part.done ++ some;
  whole = part.whole ∙ (ap (λ (es : List Entry). part.done ++ es) is ∙ sym (append_assoc part.done some rest));
  gathers = same (and_then part.gathers told) (texts_both part.done some);
}

pub all_told : {l m : Penned} {all left : List Entry} → Part l m all left → left ≡ [] → Goes l m (entry_texts all)
all_told {left = left} part none =
    same part.gathers (ap entry_texts (part.whole ∙ (ap (λ (es : List Entry). part.done ++ es) none ∙ append-nil part.done)))
