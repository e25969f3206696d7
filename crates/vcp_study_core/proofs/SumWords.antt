-- SumWords: the words of `sum`, one part after another.
use Rattle.std.proofs.Common.{◌≡◌, ◌≢◌, ℕ, zero, suc, ◌+◌, ◌<◌, ◌≤◌, ◌==◌, Bool, true, false, cond, List, [], ◌∷◌, length, drop, slice_get, Option, Some, None, refl, sym, ap, ◌∙◌, arith, length-drop}
use Rattle.std.specs.Option.{option_and_then, option_map}
use Rattle.std.proofs.lemmas.Bool.{ne_eqb}
use Rattle.std.proofs.lemmas.List.{drop_more}
use Rattle.std.proofs.lemmas.Option.{get_or_from_slice_get, slice_get_within}
use Rattle.vcp_inputs.specs.Forms.{Rows, file as from_file, cycles as from_cycles, is_end, is_file_name, name_and_rest, rows_and_rest, rows_of}
use Rattle.verdict_tables.specs.Parts.{most_parts}
use Rattle.vcp_study_core.specs.Forms.{no_more, a_part, the_rows, part_by, next_by, next_of, Behind, one_more, behind_by, behind_of, names_in, sum_with, sum_behind, sum_form, form_of, named_form}
use Rattle.vcp_study_core.specs.declared.words.NextWord.{NextWord}
use Rattle.vcp_study_core.specs.declared.words.NextWord.TheVariants as word
use Rattle.vcp_study_core.specs.SumSteps.{as_next, ended_of}

-- ---- names

drop_here : {X : Type 0} (xs : List X) (i : ℕ) (x : X) → slice_get xs i ≡ Some x → drop i xs ≡ x ∷ drop (i + 1) xs
drop_here xs i x at = drop_more xs i x (slice_get_within xs i x at) ∙ ap (λ y. y ∷ drop (i + 1) xs) (get_or_from_slice_get xs i x x at)

none_of_few : (n : ℕ) (words : List (List ℕ)) → length words < 2 → names_in n words ≡ []
none_of_few zero words few = refl
none_of_few (suc n) [] few = refl
none_of_few (suc n) (s ∷ []) few = refl
none_of_few (suc n) (s ∷ v ∷ words) few = absurd (omega (arith, few))

pub too_few_words : (n at : ℕ) (words : List (List ℕ)) → length words < at + 2 → names_in n (drop at words) ≡ []
too_few_words n at words few = none_of_few n (drop at words) (omega (arith, length-drop at words, few))

pub first_names : (n m at : ℕ) (words : List (List ℕ)) (s v : List ℕ) → n ≡ suc m → slice_get words at ≡ Some s → slice_get words (at + 1) ≡ Some v
    → names_in n (drop at words) ≡ (record { script = s; verdicts = v }) ∷ names_in m (drop (at + 2) words)
first_names n m at words s v is here there =
    let later : at + 1 + 1 ≡ at + 2 = omega arith in
    let both : drop at words ≡ s ∷ v ∷ drop (at + 2) words =
    drop_here words at s here ∙ ap (λ ws. s ∷ ws) (drop_here words (at + 1) v there ∙ ap (λ (k : ℕ). v ∷ drop k words) later) in
    ap (λ (k : ℕ). names_in k (drop at words)) is ∙ ap (names_in (suc m)) both

pub few_names : (n : ℕ) (words : List (List ℕ)) → length (names_in n words) ≤ n
few_names zero words = omega arith
few_names (suc n) [] = omega arith
few_names (suc n) (s ∷ []) = omega arith
few_names (suc n) (s ∷ v ∷ words) = omega (arith, few_names n words)

-- ---- what stands next

pub next_at_end : (words : List (List ℕ)) → is_end words ≡ true → Some no_more ≡ next_of words
next_at_end [] is = refl
next_at_end (w ∷ words) is = absurd cc

pub next_from : (words : List (List ℕ)) (r : Option (Rows × List (List ℕ))) → is_end words ≡ false → r ≡ rows_and_rest words
    → option_and_then next_by r ≡ next_of words
next_from [] r is rows = absurd cc
next_from (w ∷ words) r is rows = ap (option_and_then next_by) rows

pub last_rows : (r : Rows) (rest : List (List ℕ)) → is_end rest ≡ true → next_by (r, rest) ≡ Some (the_rows r)
last_rows r rest is = ap (λ (b : Bool). cond b (Some (the_rows r)) (part_by r rest)) is

not_last : (r : Rows) (rest : List (List ℕ)) → is_end rest ≡ false → part_by r rest ≡ next_by (r, rest)
not_last r rest is = sym (ap (λ (b : Bool). cond b (Some (the_rows r)) (part_by r rest)) is)

-- a script's name: the part's other name follows, or it is missing
pub script_next : (rest : List (List ℕ)) (r : Rows) (script : List ℕ) (v : Option (List ℕ × List (List ℕ))) → is_end rest ≡ false → r ≡ from_file script
    → v ≡ name_and_rest rest → option_map (λ (x : List ℕ × List (List ℕ)). a_part x.1) v ≡ next_by (r, rest)
script_next rest r script v more is named =
    ap (option_map (λ (x : List ℕ × List (List ℕ)). a_part x.1)) named ∙ (ap (λ (x : Rows). part_by x rest) (sym is) ∙ not_last r rest more)

-- and `--cycles N` is no script
pub cycles_next : (rest : List (List ℕ)) (r : Rows) (n : ℕ) → is_end rest ≡ false → r ≡ from_cycles n → None ≡ next_by (r, rest)
cycles_next rest r n more is = ap (λ (x : Rows). part_by x rest) (sym is) ∙ not_last r rest more

-- ---- how many parts there are

-- so many more
abbrev pub and_before : ℕ → Behind → Behind
and_before n d = record d { parts = n + d.parts }

added : (i : ℕ) (d : Option Behind) → option_map (and_before i) (option_map one_more d) ≡ option_map (and_before (i + 1)) d
added i None = refl
added i (Some d) = let more : i + suc d.parts ≡ i + 1 + d.parts = omega arith in ap (λ (n : ℕ). Some (record d { parts = n })) more

-- none of them is left, or the words are none
pub none_next : (n : ℕ) (words : List (List ℕ)) → None ≡ next_of words → behind_of n words ≡ None
none_next zero words is = ap (option_and_then (behind_by (λ more. None))) (sym is)
none_next (suc n) words is = ap (option_and_then (behind_by (λ more. behind_of n more))) (sym is)

-- the words end here
ends_by : (later : List (List ℕ) → Option Behind) (i : ℕ) (words : List (List ℕ)) (next : NextWord) (d : Behind) → Some d ≡ ended_of i (as_next words next)
    → option_map (and_before i) (behind_by later (as_next words next)) ≡ Some d
ends_by later i words word.NoMore d is =
    let none : i + 0 ≡ i = omega arith in ap (λ (n : ℕ). Some (record { parts = n; rows = None })) none ∙ sym is
ends_by later i words word.Part d is = absurd cc
ends_by later i words (word.Rows r) d is =
    let none : i + 0 ≡ i = omega arith in ap (λ (n : ℕ). Some (record { parts = n; rows = Some (rows_of r) })) none ∙ sym is

pub ended : (n i : ℕ) (old new : List (List ℕ)) (next : NextWord) (d : Behind) → Some (as_next new next) ≡ next_of old
    → Some d ≡ ended_of i (as_next new next) → option_map (and_before i) (behind_of n old) ≡ Some d
ended zero i old new next d is ends =
    ap (λ x. option_map (and_before i) (option_and_then (behind_by (λ more. None)) x)) (sym is) ∙ ends_by (λ more. None) i new next d ends
ended (suc n) i old new next d is ends =
    ap (λ x. option_map (and_before i) (option_and_then (behind_by (λ more. behind_of n more)) x)) (sym is) ∙ ends_by (λ more. behind_of n more) i new next d ends

-- a part stands here
pub goes_on : (n m i : ℕ) (old new : List (List ℕ)) (next : NextWord) → n ≡ suc m → Some (as_next new next) ≡ next_of old
    → None ≡ ended_of i (as_next new next) → option_map (and_before i) (behind_of n old) ≡ option_map (and_before (i + 1)) (behind_of m new)
goes_on n m i old new word.NoMore more is none = absurd cc
goes_on n m i old new (word.Rows r) more is none = absurd cc
goes_on n m i old new word.Part more is none =
    ap (λ (k : ℕ). option_map (and_before i) (behind_of k old)) more
    ∙ (ap (λ x. option_map (and_before i) (option_and_then (behind_by (λ more. behind_of m more)) x)) (sym is) ∙ added i (behind_of m new))

-- and there may be no more
pub too_many : (i : ℕ) (old new : List (List ℕ)) (next : NextWord) → Some (as_next new next) ≡ next_of old → None ≡ ended_of i (as_next new next)
    → behind_of 0 old ≡ None
too_many i old new word.NoMore is none = absurd cc
too_many i old new (word.Rows r) is none = absurd cc
too_many i old new word.Part is none = ap (option_and_then (behind_by (λ more. None))) (sym is)

-- so behind as many parts as there may be
pub last_next : (i : ℕ) (old new : List (List ℕ)) (next : NextWord) (d : Option Behind) → Some (as_next new next) ≡ next_of old
    → d ≡ ended_of i (as_next new next) → option_map (and_before i) (behind_of 0 old) ≡ d
last_next i old new next None is ends = ap (option_map (and_before i)) (too_many i old new next is ends)
last_next i old new next (Some d) is ends = ended 0 i old new next d is ends

pub none_before : (d : Option Behind) → d ≡ option_map (and_before 0) d
none_before None = refl
none_before (Some d) = let none : d.parts ≡ 0 + d.parts = omega arith in ap (λ (n : ℕ). Some (record d { parts = n })) none

-- ---- all words

-- the words at whose front a name was taken
abbrev taken : Option (List ℕ × List (List ℕ)) → List (List ℕ)
taken None = []
taken (Some x) = x.0 ∷ x.1

name_taken : (words : List (List ℕ)) (name : List ℕ) (rest : List (List ℕ)) → Some (name, rest) ≡ name_and_rest words → words ≡ name ∷ rest
name_taken [] name rest is = absurd cc
name_taken (w ∷ words) name rest is = by (is_file_name w) w words name rest is
  where
    by : (b : Bool) (w : List ℕ) (words : List (List ℕ)) (name : List ℕ) (rest : List (List ℕ))
        → ◌≡◌ {A = Option (List ℕ × List (List ℕ))} (Some (name, rest)) (cond b (Some (w, words)) None) → w ∷ words ≡ name ∷ rest
    by true w words name rest is = sym (ap taken is)
    by false w words name rest is = absurd cc

dropped_two : (all rest : List (List ℕ)) (name : List ℕ) → drop 1 all ≡ name ∷ rest → drop 2 all ≡ rest
dropped_two [] rest name is = absurd cc
dropped_two (a ∷ []) rest name is = absurd cc
dropped_two (a ∷ b ∷ more) rest name is = cc

pub behind_name : (all words rest : List (List ℕ)) (name : List ℕ) → words ≡ drop 1 all → Some (name, rest) ≡ name_and_rest words → drop 2 all ≡ rest
behind_name all words rest name are is = dropped_two all rest name (sym are ∙ name_taken words name rest is)

pub behind_first : (all rest : List (List ℕ)) (w : List ℕ) → all ≡ w ∷ rest → rest ≡ drop 1 all
behind_first all rest w is = ap (drop 1) (sym is)

-- the command that a name and a file's name say
pub form_named : (all rest later : List (List ℕ)) (w name : List ℕ) → all ≡ w ∷ rest → Some (name, later) ≡ name_and_rest rest
    → named_form w name later ≡ form_of all
form_named all rest later w name are is =
    sym (ap form_of are ∙ ap (option_and_then (λ (m : List ℕ × List (List ℕ)). named_form w m.0 m.1)) (sym is))

-- the form of these words, where so much stands behind M
pub form_behind : (words : List (List ℕ)) (d : Option Behind) → d ≡ behind_of most_parts words → option_and_then (sum_behind words) d ≡ sum_form words
form_behind words d behind = ap (option_and_then (sum_behind words)) behind

pub no_parts : (words : List (List ℕ)) (d : Behind) → d.parts ≡ 0 → sum_behind words d ≡ None
no_parts words d none = ap (λ (n : ℕ). cond (n == 0) None (Some (sum_with (names_in d.parts words) d.rows))) none

pub some_parts : (words : List (List ℕ)) (d : Behind) → d.parts ≢ 0 → sum_behind words d ≡ Some (sum_with (names_in d.parts words) d.rows)
some_parts words d some = ap (λ (b : Bool). cond b None (Some (sum_with (names_in d.parts words) d.rows))) (ne_eqb d.parts 0 some)
