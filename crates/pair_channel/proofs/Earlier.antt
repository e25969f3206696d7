-- Earlier: the rows of the cycles before the last one are a front of those that a pair released.
use Rattle.std.proofs.Common.{ℕ, suc, ◌≡◌, refl, ap, sym, ◌∙◌, List, [], ◌∷◌, ◌++◌, map, ℤ}
use Rattle.coded_unit.specs.declared.call.Answer.{Answer}
use Rattle.op_graph.specs.Lists.{Lists}
use Rattle.signature_table.specs.Signatures.{Numbers}
use Rattle.coded_machine.specs.CycleEnds.{outputs_of}
use Rattle.pair_channel.specs.declared.pair_end.PairEnd.{PairEnd}
use Rattle.pair_channel.specs.declared.pair_end.PairEnd.TheVariants as pair
use Rattle.pair_channel.specs.PairRuns.{PairOutcome, AllPairs, pair_end, pair_over, pair_then, unless_over}

pub no_last : {X : Type 0} (earlier : List X) (last : X) → [] ≡ earlier ++ last ∷ [] → ⊥
no_last [] last is = cc
no_last (x ∷ earlier) last is = cc

-- a cycle behind which others stand was released
released_first : (e : PairEnd) (row : List ℤ) (later : PairOutcome) (P Q : Type 0) (front : List (List ℤ)) → unless_over e P Q → (Q → ⊥)
    → (P → (rest : List (List ℤ)) × (later.rows ≡ front ++ rest)) → (rest : List (List ℤ)) × ((pair_then e row later).rows ≡ (row ∷ front) ++ rest)
released_first pair.Released row later P Q front h not f = let p = f h in (p.0, ap (λ rows. row ∷ rows) p.1)
released_first (pair.Stopped op why) row later P Q front h not f = absurd (not h)
released_first (pair.Parted x y) row later P Q front h not f = absurd (not h)
released_first (pair.Differ i x y) row later P Q front h not f = absurd (not h)

pub front_rows : (g : Lists) (t u : Numbers) (n : ℕ) (rows : List (List ℤ)) (ours theirs earlier : List (List Answer)) (last : List Answer)
    → AllPairs g t u n rows ours theirs → ours ≡ earlier ++ last ∷ []
    → (rest : List (List ℤ)) × ((pair_over g t u n ours theirs).rows ≡ map (outputs_of g) earlier ++ rest)
front_rows g t u n rows ours theirs [] last all is = ((pair_over g t u n ours theirs).rows, refl)
front_rows g t u n rows [] theirs (x ∷ earlier) last all is = absurd cc
front_rows g t u n [] (a ∷ ours) [] (x ∷ earlier) last all is = absurd all
front_rows g t u n [] (a ∷ ours) (b ∷ theirs) (x ∷ earlier) last all is = absurd all
front_rows g t u n (row ∷ rows) (a ∷ ours) [] (x ∷ earlier) last all is = absurd all
front_rows g t u n (row ∷ rows) (a ∷ ours) (b ∷ theirs) (x ∷ earlier) last all is =
    let same : a ≡ x = cc in
    let more : ours ≡ earlier ++ last ∷ [] = cc in
    let p = released_first (pair_end g t u n a b) (outputs_of g a) (pair_over g t u (suc n) ours theirs) (AllPairs g t u (suc n) rows ours theirs)
    ((ours ≡ []) × (theirs ≡ [])) (map (outputs_of g) earlier) all.2 (λ none. no_last earlier last (sym none.0 ∙ more))
    (λ h. front_rows g t u (suc n) rows ours theirs earlier last h more) in
    (p.0, p.1 ∙ ap (λ (y : List Answer). (outputs_of g y ∷ map (outputs_of g) earlier) ++ p.0) same)
