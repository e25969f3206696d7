-- Keeping: what is kept for each fault of a group after a call.
use Rattle.std.proofs.Common.{◌≡◌, ℕ, zero, suc, ◌+◌, ◌<◌, ◌≤◌, List, [], ◌∷◌, ◌++◌, length, map, set, get_or, slice_get, take, Option, Some, None, ℤ, refl, sym, ap, ◌∙◌, arith}
use Rattle.coded_unit.specs.declared.call.Call.{Call}
use Rattle.coded_unit.specs.declared.call.Answer.{Answer}
use Rattle.fault_script.specs.declared.act.Fault.{Fault}
use Rattle.fault_script.specs.Changes.{kept_by, kept_after, none_kept}
use Rattle.fault_injector.specs.declared.runs.scripted.Carried.{Carried}
use Rattle.fault_injector.specs.Carried.{faults_of, keeps_of}

-- a fault with what it has kept after a call with this answer
abbrev pub kept_next : Call → Answer → Carried → Carried
kept_next call given one = record { fault = one.fault; kept = kept_by one.fault one.fault.act one.kept call given }

-- the first so many of a list changed, and the others as they were
abbrev pub half : (Carried → Carried) → ℕ → List Carried → List Carried
half h zero xs = xs
half h (suc i) [] = []
half h (suc i) (x ∷ xs) = h x ∷ half h i xs

-- one more of them is changed
half_turn : (h : Carried → Carried) (i : ℕ) (xs : List Carried) (x : Carried) → i < length xs → x ≡ get_or (half h i xs) i x
    → set (half h i xs) i (h x) ≡ half h (suc i) xs
half_turn h i [] x within is = absurd (omega (arith, within))
half_turn h zero (y ∷ xs) x within is = ap (λ (z : Carried). h z ∷ xs) is
half_turn h (suc i) (y ∷ xs) x within is = ap (λ (zs : List Carried). h y ∷ zs) (half_turn h i xs x (omega (arith, within)) is)

pub kept_turn : (call : Call) (given : Answer) (all now : List Carried) (i : ℕ) (one next : Carried) → i < length all
    → now ≡ half (kept_next call given) i all → one ≡ get_or now i one → next ≡ kept_next call given one
    → set now i next ≡ half (kept_next call given) (i + 1) all
kept_turn call given all now i one next within so_far is is_next =
    let h = kept_next call given in
    let more : suc i ≡ i + 1 = omega arith in
    ap (λ (xs : List Carried). set xs i next) so_far
    ∙ (ap (λ (x : Carried). set (half h i all) i x) is_next
    ∙ (half_turn h i all one within (is ∙ ap (λ (xs : List Carried). get_or xs i one) so_far) ∙ ap (λ (k : ℕ). half h k all) more))

half_all : (h : Carried → Carried) (xs : List Carried) → half h (length xs) xs ≡ map h xs
half_all h [] = refl
half_all h (x ∷ xs) = ap (λ (zs : List Carried). h x ∷ zs) (half_all h xs)

pub kept_all : (call : Call) (given : Answer) (all now : List Carried) (i : ℕ) → now ≡ half (kept_next call given) i all → i ≡ length all
    → now ≡ map (kept_next call given) all
kept_all call given all now i so_far end =
    so_far ∙ (ap (λ (k : ℕ). half (kept_next call given) k all) end ∙ half_all (kept_next call given) all)

pub faults_next : (call : Call) (given : Answer) (xs : List Carried) → faults_of (map (kept_next call given) xs) ≡ faults_of xs
faults_next call given [] = refl
faults_next call given (x ∷ xs) = ap (λ (fs : List Fault). x.fault ∷ fs) (faults_next call given xs)

pub keeps_next : (call : Call) (given : Answer) (xs : List Carried)
    → keeps_of (map (kept_next call given) xs) ≡ kept_after (faults_of xs) (keeps_of xs) call given
keeps_next call given [] = refl
keeps_next call given (x ∷ xs) =
    ap (λ (ks : List (Option ℤ)). kept_by x.fault x.fault.act x.kept call given ∷ ks) (keeps_next call given xs)

-- ---- before the first call

map_push : {X Y : Type 0} (f : X → Y) (xs : List X) (x : X) → map f (xs ++ x ∷ []) ≡ map f xs ++ f x ∷ []
map_push f [] x = refl
map_push f (y ∷ xs) x = ap (λ ys. f y ∷ ys) (map_push f xs x)

take_more : {X : Type 0} (xs : List X) (i : ℕ) (x : X) → slice_get xs i ≡ Some x → take (i + 1) xs ≡ take i xs ++ x ∷ []
take_more [] i x there = absurd cc
take_more (y ∷ xs) zero x there = let same : y ≡ x = cc in ap (λ z. z ∷ []) same
take_more (y ∷ xs) (suc i) x there =
    let on : suc i + 1 ≡ suc (i + 1) = omega arith in
    ap (λ (n : ℕ). take n (y ∷ xs)) on ∙ ap (λ ys. y ∷ ys) (take_more xs i x there)

-- one fault more is carried
pub carried_more : (group : List Fault) (kept : List (Option ℤ)) (now next : List Carried) (i : ℕ) (f : Fault) (k : Option ℤ)
    → slice_get group i ≡ Some f → slice_get kept i ≡ Some k → next ≡ now ++ record { fault = f; kept = k } ∷ []
    → faults_of now ≡ take i group → keeps_of now ≡ take i kept
    → (faults_of next ≡ take (i + 1) group) × (keeps_of next ≡ take (i + 1) kept)
carried_more group kept now next i f k there kept_there is faults keeps =
    let x : Carried = record { fault = f; kept = k } in (
      ap faults_of is
          ∙ (map_push (λ (c : Carried). c.fault) now x ∙ (ap (λ (fs : List Fault). fs ++ f ∷ []) faults ∙ sym (take_more group i f there))),
      ap keeps_of is
          ∙ (map_push (λ (c : Carried). c.kept) now x
          ∙ (ap (λ (ks : List (Option ℤ)). ks ++ k ∷ []) keeps ∙ sym (take_more kept i k kept_there))),
    )

-- of which no word is kept
none_there : (faults : List Fault) (i : ℕ) (f : Fault) → slice_get faults i ≡ Some f → slice_get (none_kept faults) i ≡ Some None
none_there [] i f there = absurd cc
none_there (g ∷ faults) zero f there = refl
none_there (g ∷ faults) (suc i) f there = none_there faults i f there

pub none_more : (group : List Fault) (now next : List Carried) (i : ℕ) (f : Fault) → slice_get group i ≡ Some f
    → next ≡ now ++ record { fault = f; kept = None } ∷ [] → faults_of now ≡ take i group → keeps_of now ≡ take i (none_kept group)
    → (faults_of next ≡ take (i + 1) group) × (keeps_of next ≡ take (i + 1) (none_kept group))
none_more group now next i f there is faults keeps = carried_more group (none_kept group) now next i f None there (none_there group i f there) is faults keeps

pub none_all : (faults : List Fault) (i : ℕ) → length faults ≤ i → take i (none_kept faults) ≡ none_kept faults
none_all [] zero all = refl
none_all [] (suc i) all = refl
none_all (f ∷ faults) zero all = absurd (omega (arith, all))
none_all (f ∷ faults) (suc i) all = ap (λ (ks : List (Option ℤ)). None ∷ ks) (none_all faults i (omega (arith, all)))
