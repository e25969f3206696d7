-- Tallying: how many faults are told to be what, one more and some more.
use Rattle.std.proofs.Common.{◌≡◌, ◌≢◌, ⊎_elim, ℕ, zero, suc, ◌+◌, ◌<◌, ◌≤◌, ◌^◌, ◌==◌, Bool, true, false, cond, List, [], ◌∷◌, ◌++◌, length, take, drop}
use Rattle.std.proofs.Common.{slice_get, slice_index_or, set, Some}
use Rattle.std.proofs.Common.{refl, sym, ap, ap₂, subst, ◌∙◌, arith, length-append}
use Rattle.std.proofs.lemmas.Bool.Decides.{eqb_tells}
use Rattle.std.proofs.lemmas.Grind.{flat_map-append}
use Rattle.std.proofs.lemmas.List.{get_or-set_other, get_or-set_same, length-set, map-append, take-append-drop}
use Rattle.std.proofs.lemmas.List.Elements.{All-append, All-cons, All-nil}
use Rattle.std.proofs.lemmas.List.Sums.{count_by-le-length, sum_by-append, sum_by-cons, sum_by_push}
use Rattle.fault_cover.specs.declared.class.CoverClass.{CoverClass}
use Rattle.fault_cover.specs.declared.counting.ClassCount.{ClassCount}
use Rattle.fault_cover.specs.declared.tally.Tally.{Tally}
use Rattle.fault_cover.specs.declared.effect.Effect.{Effect}
use Rattle.fault_cover.specs.declared.effect.Effect.TheVariants as told
use Rattle.fault_cover.specs.Counts.{AreCounted, AreCountsOf, AreDelays, Counts, IsClassCount, counted, together}
use Rattle.fault_cover.specs.CoverText.{Covered, Heard, IsCovered, count_told, delays, heard_of, is_beyond, is_late, is_nothing, is_refused}
use Rattle.fault_cover.specs.CoverText.{is_running_on, is_shown}
use Rattle.fault_cover.specs.CoverText.{sum_of, tally}
use Rattle.fault_cover.specs.Telling.{Subject}
use Rattle.fault_cover.proofs.Going.{taken_more, taken_one}

-- one where a test holds
abbrev pub one_for : Bool → ℕ
one_for b = cond b 1 0

pub count_both : (is : Effect → Bool) (xs ys : List Heard) → count_told is (xs ++ ys) ≡ count_told is xs + count_told is ys
count_both is xs ys = sum_by-append (λ h. one_for (is h.told)) xs ys

pub count_next : (is : Effect → Bool) (xs : List Heard) (h : Heard) → count_told is (xs ++ h ∷ []) ≡ count_told is xs + one_for (is h.told)
count_next is xs h = sum_by_push (λ (x : Heard). one_for (is x.told)) xs h

pub count_few : (is : Effect → Bool) (xs : List Heard) → count_told is xs ≤ length xs
count_few is xs = count_by-le-length (λ (h : Heard). is h.told) xs

-- ---- tallies

abbrev pub made : ℕ → ℕ → ℕ → ℕ → ℕ → Tally
made a b c d e = record { refused = a; nothing = b; shows = c; runs_on = d; beyond = e }

pub made_same : {a b c d e p q r s t : ℕ} → a ≡ p → b ≡ q → c ≡ r → d ≡ s → e ≡ t → made a b c d e ≡ made p q r s t
made_same {a = a} {b = b} {c = c} {d = d} {e = e} {p = p} {q = q} {r = r} {s = s} {t = t} one two three four five =
    ap (λ x. made x b c d e) one ∙ ap (λ x. made p x c d e) two ∙ ap (λ x. made p q x d e) three ∙ ap (λ x. made p q r x e) four
    ∙ ap (λ x. made p q r s x) five

pub together_tally : (xs ys : List Heard) → together (tally xs) (tally ys) ≡ tally (xs ++ ys)
together_tally xs ys =
    made_same (sym (count_both is_refused xs ys)) (sym (count_both is_nothing xs ys)) (sym (count_both is_shown xs ys))
    (sym (count_both is_running_on xs ys)) (sym (count_both is_beyond xs ys))

stays : (is : Effect → Bool) (xs : List Heard) (h : Heard) → is h.told ≡ false → count_told is xs ≡ count_told is (xs ++ h ∷ [])
stays is xs h never = let next = count_next is xs h in let none = ap one_for never in omega (arith, next, none)

rises : (is : Effect → Bool) (xs : List Heard) (h : Heard) → is h.told ≡ true → count_told is xs + 1 ≡ count_told is (xs ++ h ∷ [])
rises is xs h holds = let next = count_next is xs h in let one = ap one_for holds in omega (arith, next, one)

counted_as : (xs : List Heard) (h : Heard) (x : Effect) → h.told ≡ x → counted (tally xs) x ≡ tally (xs ++ h ∷ [])
counted_as xs h (told.Refused b) e = made_same (rises is_refused xs h (ap is_refused e)) (stays is_nothing xs h (ap is_nothing e))
    (stays is_shown xs h (ap is_shown e)) (stays is_running_on xs h (ap is_running_on e)) (stays is_beyond xs h (ap is_beyond e))
counted_as xs h told.Nothing e = made_same (stays is_refused xs h (ap is_refused e)) (rises is_nothing xs h (ap is_nothing e))
    (stays is_shown xs h (ap is_shown e)) (stays is_running_on xs h (ap is_running_on e)) (stays is_beyond xs h (ap is_beyond e))
counted_as xs h (told.Shows b o) e = made_same (stays is_refused xs h (ap is_refused e)) (stays is_nothing xs h (ap is_nothing e))
    (rises is_shown xs h (ap is_shown e)) (stays is_running_on xs h (ap is_running_on e)) (stays is_beyond xs h (ap is_beyond e))
counted_as xs h (told.RunsOn b q) e = made_same (stays is_refused xs h (ap is_refused e)) (stays is_nothing xs h (ap is_nothing e))
    (stays is_shown xs h (ap is_shown e)) (rises is_running_on xs h (ap is_running_on e)) (stays is_beyond xs h (ap is_beyond e))
counted_as xs h told.Beyond e = made_same (stays is_refused xs h (ap is_refused e)) (stays is_nothing xs h (ap is_nothing e))
    (stays is_shown xs h (ap is_shown e)) (stays is_running_on xs h (ap is_running_on e)) (rises is_beyond xs h (ap is_beyond e))

-- of each fault one thing is told
abbrev one_or_none : (Effect → Bool) → Effect → ℕ
one_or_none is x = one_for (is x)

one_told : (x : Effect)
    → one_or_none is_refused x + one_or_none is_nothing x + one_or_none is_shown x + one_or_none is_running_on x + one_or_none is_beyond x ≡ 1
one_told (told.Refused b) = refl
one_told told.Nothing = refl
one_told (told.Shows b o) = refl
one_told (told.RunsOn b q) = refl
one_told told.Beyond = refl

front : (is : Effect → Bool) (h : Heard) (xs : List Heard) → count_told is (h ∷ xs) ≡ one_or_none is h.told + count_told is xs
front is h xs = sum_by-cons (λ (x : Heard). one_for (is x.told)) h xs

pub sum_told : (xs : List Heard) → sum_of (tally xs) ≡ length xs
sum_told [] = refl
sum_told (h ∷ xs) =
    omega (
      arith,
      sum_told xs,
      one_told h.told,
      front is_refused h xs,
      front is_nothing h xs,
      front is_shown h xs,
      front is_running_on h xs,
      front is_beyond
          h xs,
    )

pub small : (xs : List Heard) → length xs < 2 ^ 62 → sum_of (tally xs) < 2 ^ 63
small xs few = let sum = sum_told xs in omega (arith, few, sum)

-- one more is counted
pub tally_next : (old new : Tally) (xs : List Heard) (h : Heard) → (sum_of old < 2 ^ 63 → new ≡ counted old h.told) → length xs < 2 ^ 62
    → old ≡ tally xs → new ≡ tally (xs ++ h ∷ [])
tally_next old new xs h counts few is =
    counts (subst (λ (t : Tally). sum_of t < 2 ^ 63) (sym is) (small xs few)) ∙ ap (λ t. counted t h.told) is ∙ counted_as xs h h.told refl

-- some more are
pub tally_both : (one other new : Tally) (xs ys : List Heard) → (sum_of one + sum_of other < 2 ^ 63 → new ≡ together one other)
    → length (xs ++ ys) < 2 ^ 62 → one ≡ tally xs → other ≡ tally ys → new ≡ tally (xs ++ ys)
tally_both one other new xs ys counts few is are =
    let first : sum_of one ≡ length xs = ap sum_of is ∙ sum_told xs in
    let second : sum_of other ≡ length ys = ap sum_of are ∙ sum_told ys in
    counts (omega (arith, few, first, second, length-append xs ys)) ∙ ap₂ together is are ∙ together_tally xs ys

-- ---- delays

pub delay_rises : (old new : List ℕ) (xs : List Heard) (h : Heard) (row : ℕ) → row < 17 → ((n : ℕ) → n < 17 → is_late n h.told ≡ (n == row))
    → new ≡ set old row (slice_index_or old row 0 + 1) → AreDelays old xs → AreDelays new (xs ++ h ∷ [])
delay_rises old new xs h row inside tells is are = record {
  many = ap length is ∙ length-set old row (slice_index_or old row 0 + 1) ∙ are.many;
  each = λ n lt. ⊎_elim
      (λ (e : ((n == row) ≡ true) × (n ≡ row)).
      subst (λ m. slice_index_or new m 0 ≡ delays (xs ++ h ∷ []) m) (sym e.1)
      (ap (λ ys. slice_index_or ys row 0) is
      ∙ get_or-set_same old row (slice_index_or old row 0 + 1) 0 (let many = are.many in omega (arith, inside, many))
      ∙ ap (λ m. m + 1) (are.each row inside)
      ∙ rises (is_late row) xs h (tells row inside ∙ ap (λ m. m == row) (sym e.1) ∙ e.0)))
      (λ (e : ((n == row) ≡ false) × (n ≢ row)).
      ap (λ ys. slice_index_or ys n 0) is ∙ get_or-set_other old row n (slice_index_or old row 0 + 1) 0 e.1 ∙ are.each n lt
      ∙ stays (is_late n) xs h (tells n lt ∙ e.0))
      (eqb_tells n row);
}

-- ---- classes

-- what is counted of one class more
pub counted_next : (counts : List ClassCount) (covered : List Covered) (n : ClassCount) (c : Covered) → AreCounted counts covered → n.class ≡ c.class
    → Counts n.counting c.heard → AreCounted (counts ++ n ∷ []) (covered ++ c ∷ [])
counted_next [] [] n c are same is = (same, is, tt)
counted_next [] (d ∷ covered) n c are same is = absurd are
counted_next (m ∷ counts) [] n c are same is = absurd are
counted_next (m ∷ counts) (d ∷ covered) n c are same is = (are.0, are.1, counted_next counts covered n c are.2 same is)

-- of the class that stands there
pub record CountedAt (n : ClassCount) (covered : List Covered) (i : ℕ) : Type 0 where
  pub covers : Covered
  pub there : slice_get covered i ≡ Some covers
  pub same : n.class ≡ covers.class
  pub is : Counts n.counting covers.heard

pub counted_at : (counts : List ClassCount) (covered : List Covered) (i : ℕ) (n : ClassCount) → AreCounted counts covered → slice_get counts i ≡ Some n
    → CountedAt n covered i
counted_at [] [] i n are there = absurd cc
counted_at [] (c ∷ covered) i n are there = absurd are
counted_at (m ∷ counts) [] i n are there = absurd are
counted_at (m ∷ counts) (c ∷ covered) zero n are there =
    let same : m ≡ n = cc in
    record {
      covers = c;
      there = refl;
      same = ap (λ (x : ClassCount). x.class) (sym same) ∙ are.0;
      is = subst (λ (x : ClassCount). Counts x.counting
          c.heard) same are.1;
    }
counted_at (m ∷ counts) (c ∷ covered) (suc i) n are there =
    let rest = counted_at counts covered i n are.2 there in
    record { covers = rest.covers; there = rest.there; same = rest.same; is = rest.is }

pub counted_many : (counts : List ClassCount) (covered : List Covered) → AreCounted counts covered → length counts ≡ length covered
counted_many [] [] are = refl
counted_many [] (c ∷ covered) are = absurd are
counted_many (n ∷ counts) [] are = absurd are
counted_many (n ∷ counts) (c ∷ covered) are = ap suc (counted_many counts covered are.2)

-- the faults of the first classes
pub heard_next : (covered : List Covered) (i : ℕ) (c : Covered) → slice_get covered i ≡ Some c
    → heard_of (take (i + 1) covered) ≡ heard_of (take i covered) ++ c.heard
heard_next covered i c there = sym (taken_more (λ (x : Covered). x.heard) covered i c there)

pub heard_few : (covered : List Covered) (i : ℕ) → length (heard_of (take i covered)) ≤ length (heard_of covered)
heard_few covered i =
    let parts = flat_map-append (λ (x : Covered). x.heard) (take i covered) (drop i covered) in
    let whole = ap (λ xs. length (heard_of xs)) (take-append-drop i covered) in
    let sum = length-append (heard_of (take i covered)) (heard_of (drop i covered)) in
    let long = ap length parts in
    omega (arith, whole, sum, long)

-- one class more
pub total_next : (counts : List ClassCount) (covered : List Covered) (i : ℕ) (n : ClassCount) → AreCounted counts covered → length (heard_of covered) < 2 ^ 62
    → slice_get counts i ≡ Some n → (old new : Tally) → old ≡ tally (heard_of (take i covered))
    → (sum_of old + sum_of n.counting.tally < 2 ^ 63 → new ≡ together old n.counting.tally) → new ≡ tally (heard_of (take (i + 1) covered))
total_next counts covered i n are few there old new is adds =
    let at = counted_at counts covered i n are there in
    let next = heard_next covered i at.covers at.there in
    let most = heard_few covered (i + 1) in
    let long = ap length next in
    let sum = length-append (heard_of (take i covered)) at.covers.heard in
    let one = at.is (omega (arith, few, most, long, sum)) in
    tally_both old n.counting.tally new (heard_of (take i covered)) at.covers.heard adds (omega (arith, few, most, long)) is one.tally_is ∙ ap tally (sym next)

pub delay_next : (counts : List ClassCount) (covered : List Covered) (i : ℕ) (n : ClassCount) (row : ℕ) → row < 17 → AreCounted counts covered
    → length (heard_of covered) < 2 ^ 62 → slice_get counts i ≡ Some n → (old new : ℕ) → old ≡ delays (heard_of (take i covered)) row
    → (old + slice_index_or n.counting.delays row 0 < 2 ^ 64 → new ≡ old + slice_index_or n.counting.delays row 0)
    → new ≡ delays (heard_of (take (i + 1) covered)) row
delay_next counts covered i n row inside are few there old new is adds =
    let at = counted_at counts covered i n are there in
    let next = heard_next covered i at.covers at.there in
    let most = heard_few covered (i + 1) in
    let long = ap length next in
    let sum = length-append (heard_of (take i covered)) at.covers.heard in
    let one = at.is (omega (arith, few, most, long, sum)) in
    let here = one.delays_are.each row inside in
    let past = count_few (is_late row) (heard_of (take i covered)) in
    let those = count_few (is_late row) at.covers.heard in
    let both = count_both (is_late row) (heard_of (take i covered)) at.covers.heard in
    let all = ap (λ (xs : List Heard). delays xs row) next in
    let now = adds (omega (arith, few, most, long, sum, is, here, past, those)) in
    omega (arith, now, is, here, both, all)

-- one class more is counted
pub counts_next : (s : Subject) (classes : List CoverClass) (i : ℕ) (class : CoverClass) (old new : List ClassCount) (n : ClassCount)
    → slice_get classes i ≡ Some class → AreCountsOf s (take i classes) old → IsClassCount s class n → new ≡ old ++ n ∷ []
    → AreCountsOf s (take (i + 1) classes) new
counts_next s classes i class old new n there past is adds =
    let c : Covered = record { class = class; heard = is.heard } in
    record {
      covered = past.covered ++ c ∷ [];
      classes_are = map-append (λ (x : Covered). x.class) past.covered (c ∷ []) ∙ ap (λ cs. cs ++ class ∷ []) past.classes_are ∙ taken_one classes i class
          there;
      all = All-append (IsCovered s) past.covered (c ∷ []) past.all (All-cons (IsCovered s) c [] is.are (All-nil (IsCovered s)));
      counted_are = subst (λ ns. AreCounted ns (past.covered ++ c ∷ [])) (sym adds)
          (counted_next old past.covered n c past.counted_are is.class_is is.counts);
    }
