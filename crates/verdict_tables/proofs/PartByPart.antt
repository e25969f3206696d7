-- PartByPart: what is told of all parts, one by one.
use Rattle.std.proofs.Common.{◌≡◌, ℕ, zero, suc, ◌+◌, ◌≤◌, ◌++◌, flat_map, map, List, [], ◌∷◌, length, drop, All, slice_get, Option, Some, refl, sym, ap, ◌∙◌, append_assoc, arith}
use Rattle.std.proofs.lemmas.List.{append-nil, drop_all}
use Rattle.std.proofs.lemmas.List.Elements.{All-cons, All-nil}
use Rattle.fault_script.specs.ScriptOf.{most_faults}
use Rattle.fault_injector.specs.declared.verdicts.Verdict.{Verdict}
use Rattle.fault_injector.specs.declared.lines.Totals.{Totals}
use Rattle.fault_injector.specs.FaultLines.{counted, totals_after}
use Rattle.verdict_tables.specs.declared.endless.ending.SameEnding.{SameEnding}
use Rattle.verdict_tables.specs.declared.parts.Part.{Part}
use Rattle.verdict_tables.specs.Parts.{IsWhole}
use Rattle.verdict_tables.specs.SameEndings.{AreOf, all_endings, ended_count}
use Rattle.verdict_tables.proofs.LinesRead.{drop_here}
use Rattle.verdict_tables.proofs.Lists.{all_first, all_others}

-- ---- totals

after_both : (t : Totals) (vs ws : List Verdict) → totals_after t (vs ++ ws) ≡ totals_after (totals_after t vs) ws
after_both t [] ws = refl
after_both t (v ∷ vs) ws = after_both (counted t v) vs ws

-- one part more
pub one_part : (h : Part → List Verdict) (parts : List Part) (k : ℕ) (p : Part) (t : Totals) → slice_get parts k ≡ Some p
    → totals_after t (flat_map h (drop k parts)) ≡ totals_after (totals_after t (h p)) (flat_map h (drop (k + 1) parts))
one_part h parts k p t there =
    ap (λ (ps : List Part). totals_after t (flat_map h ps)) (drop_here parts k p there) ∙ after_both t (h p) (flat_map h (drop (k + 1) parts))

pub none_left : (h : Part → List Verdict) (parts : List Part) (k : ℕ) (t : Totals) → length parts ≤ k → totals_after t (flat_map h (drop k parts)) ≡ t
none_left h parts k t past = ap (λ (ps : List Part). totals_after t (flat_map h ps)) (drop_all k parts past)

-- ---- endings

ended_both : (n : ℕ) (es fs : List (Option SameEnding)) → ended_count n (es ++ fs) ≡ ended_count n es + ended_count n fs
ended_both n [] fs = omega arith
ended_both n (e ∷ es) fs = omega (arith, ended_both n es fs)

pub one_part_ended : (n : ℕ) (endings : List (List (Option SameEnding))) (k : ℕ) (es : List (Option SameEnding)) → slice_get endings k ≡ Some es
    → ended_count n (all_endings (drop k endings)) ≡ ended_count n es + ended_count n (all_endings (drop (k + 1) endings))
one_part_ended n endings k es there =
    ap (λ (x : List (List (Option SameEnding))). ended_count n (all_endings x)) (drop_here endings k es there)
    ∙ ended_both n es (all_endings (drop (k + 1) endings))

pub none_ended_left : (n : ℕ) (endings : List (List (Option SameEnding))) (k : ℕ) → length endings ≤ k → ended_count n (all_endings (drop k endings)) ≡ 0
none_ended_left n endings k past = ap (λ (x : List (List (Option SameEnding))). ended_count n (all_endings x)) (drop_all k endings past)

-- no more endings than a script may have groups
pub few_of_each : (endings : List (List (Option SameEnding))) (parts : List Part) → AreOf endings parts → All IsWhole parts
    → All (λ (es : List (Option SameEnding)). length es ≤ most_faults) endings
few_of_each [] parts are whole = All-nil (λ (es : List (Option SameEnding)). length es ≤ most_faults)
few_of_each (es ∷ endings) [] are whole = absurd cc
few_of_each (es ∷ endings) (p ∷ parts) are whole =
    let one : length es ≡ length p.script = cc in
    let rest : AreOf endings parts = cc in
    let few = (all_first IsWhole p parts whole).few in
    All-cons (λ (es : List (Option SameEnding)). length es ≤ most_faults) es endings (omega (arith, one, few))
    (few_of_each endings parts rest (all_others IsWhole p parts whole))

-- there are as many lists of endings as parts
pub as_many : (endings : List (List (Option SameEnding))) (parts : List Part) → AreOf endings parts → length endings ≡ length parts
as_many [] [] are = refl
as_many [] (p ∷ parts) are = absurd cc
as_many (es ∷ endings) [] are = absurd cc
as_many (es ∷ endings) (p ∷ parts) are = ap suc (as_many endings parts cc)

-- and of a part as many as groups
pub as_many_at : (endings : List (List (Option SameEnding))) (parts : List Part) (k : ℕ) (es : List (Option SameEnding)) (p : Part) → AreOf endings parts
    → slice_get endings k ≡ Some es → slice_get parts k ≡ Some p → length es ≡ length p.script
as_many_at [] parts k es p are there here = absurd cc
as_many_at (e ∷ endings) [] k es p are there here = absurd cc
as_many_at (e ∷ endings) (q ∷ parts) zero es p are there here = cc
as_many_at (e ∷ endings) (q ∷ parts) (suc k) es p are there here =
    let rest : AreOf endings parts = cc in as_many_at endings parts k es p rest there here

-- one part more of a list with something of each
pub one_mapped : {X : Type 0} (f : Part → X) (parts : List Part) (k : ℕ) (p : Part) (x : X) (xs : List X) → slice_get parts k ≡ Some p → x ≡ f p
    → xs ++ map f (drop k parts) ≡ (xs ++ x ∷ []) ++ map f (drop (k + 1) parts)
one_mapped f parts k p x xs there is =
    ap (λ (ps : List Part). xs ++ map f ps) (drop_here parts k p there)
    ∙ ap (λ y. xs ++ y ∷ map f (drop (k + 1) parts)) (sym is)
    ∙ sym (append_assoc xs (x ∷ []) (map f (drop (k + 1) parts)))

pub none_mapped : {X : Type 0} (f : Part → X) (parts : List Part) (k : ℕ) (xs : List X) → length parts ≤ k → xs ++ map f (drop k parts) ≡ xs
none_mapped f parts k xs past = ap (λ (ps : List Part). xs ++ map f ps) (drop_all k parts past) ∙ append-nil xs
