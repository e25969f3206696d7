-- Lining: the lines of one operation behind those of others.
use Rattle.std.proofs.Common.{◌≡◌, ℕ, ◌+◌, ◌*◌, ◌<◌, ◌^◌, ◌==◌, false, List, ◌++◌, length, sym, ap, ap₂, subst, ◌∙◌, add-one, arith}
use Rattle.std.proofs.lemmas.List.Sums.{count_by-le-length, length-filter}
use Rattle.fault_sites.specs.Sites.{each_below}
use Rattle.fault_cover.specs.declared.class.CoverClass.{CoverClass}
use Rattle.fault_cover.specs.declared.left.Left.{Left}
use Rattle.fault_cover.specs.declared.left.LeftLine.{LeftLine}
use Rattle.fault_cover.specs.Classes.{of_classes_at}
use Rattle.fault_cover.specs.CoverText.{AreHeard, Covered, Heard, count_told, heard_at, heard_of, is_beyond}
use Rattle.fault_cover.specs.Leftovers.{AreLinesAt, AreLinesOf, Leaves, beyond_line, key_line, keys_of, lines_at}
use Rattle.fault_cover.specs.Telling.{Subject}
use Rattle.fault_cover.proofs.Hearing.{heard_at_are, heard_once}

few_at : (covered : List Covered) (k : ℕ) → length (heard_of covered) < 2 ^ 62 → length (heard_at covered k) < 2 ^ 62
few_at covered k few =
    let long = length-filter (λ (h : Heard). h.fault.op == k) (heard_of covered) in
    let most = count_by-le-length (λ (h : Heard). h.fault.op == k) (heard_of covered) in
    omega (arith, few, long, most)

-- what is kept of the faults of an operation is what its lines are made of
pub lines_added : (s : Subject) (classes : List CoverClass) (k : ℕ) (l : Left) (keys : List ℕ) (w : ℕ) (old new : List LeftLine) (heard : List Heard)
    → l.keys.lacked ≡ false → keys ≡ l.keys.list.items → w ≡ length s.graph.operations → Leaves s.graph l heard → k < length s.graph.operations
    → AreHeard s (of_classes_at classes s.graph k) heard
    → (h : ℕ) → h ≡ s.horizon → new ≡ old ++ (each_below (key_line k w keys) ((h + 1) * w) ++ beyond_line k l.beyond) → AreLinesAt s classes k
    old new
lines_added s classes k l keys w old new heard kept those width leaves inside are h far is covered cover =
    let same : heard ≡ heard_at covered k =
    heard_once s (of_classes_at classes s.graph k) heard (heard_at covered k) are (heard_at_are s classes covered k inside cover) in
    let n = length s.graph.operations in
    let keys_are : keys ≡ keys_of n (heard_at covered k) = those ∙ leaves.0 kept ∙ ap (keys_of n) same in
    let beyond : l.beyond ≡ count_told is_beyond (heard_at covered k) =
    leaves.1 (subst (λ (xs : List Heard). length xs < 2 ^ 62) (sym same) (few_at covered k cover.few)) ∙ ap (count_told is_beyond) same in
    is ∙ ap (λ m. old ++ (each_below (key_line k w keys) ((m + 1) * w) ++ beyond_line k l.beyond)) far
    ∙ ap (λ m. old ++ (each_below (key_line k m keys) ((s.horizon + 1) * m) ++ beyond_line k l.beyond)) width
    ∙ ap₂ (λ (ks : List ℕ) m. old ++ (each_below (key_line k n ks) ((s.horizon + 1) * n) ++ beyond_line k m)) keys_are beyond

pub lines_more : (s : Subject) (classes : List CoverClass) (k : ℕ) (old new : List LeftLine) → AreLinesOf s classes k old → AreLinesAt s classes k old new
    → AreLinesOf s classes (k + 1) new
lines_more s classes k old new so_far here covered are =
    here covered are ∙ ap (λ (xs : List LeftLine). xs ++ lines_at s.graph s.horizon (heard_at covered k) k) (so_far covered are)
    ∙ ap (each_below (λ i. lines_at s.graph s.horizon (heard_at covered i) i)) (sym (add-one k))
