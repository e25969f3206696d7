-- Leaving: the lines of operations whose faults run on or are beyond.
use Rattle.std.proofs.Common.{◌≡◌, ◌≢◌, ◌⊎◌, ⊎_elim, inl, inr, ℕ, suc, ◌+◌, ◌*◌, ◌/◌, ◌%◌, ◌<◌, ◌≤◌, ◌==◌, ◌&&◌, Bool, true, false, cond, List, [], ◌∷◌}
use Rattle.std.proofs.Common.{◌++◌, ◌^◌, append_assoc, codes, decimal, length, length-append, flat_map, All}
use Rattle.std.proofs.Common.{slice_get, Option, Some, None, refl, sym, ap, ap₂, ◌∙◌, arith, add-zero}
use Rattle.std.proofs.lemmas.Bool.{cases_lt}
use Rattle.std.proofs.lemmas.Bool.Decides.{eqb_tells}
use Rattle.std.proofs.lemmas.Grind.{flat_map-append}
use Rattle.std.proofs.lemmas.List.{append-nil, get_or_past}
use Rattle.std.proofs.lemmas.List.Elements.{All-head, All-tail, All-weaker}
use Rattle.std.proofs.lemmas.List.Sums.{sum_by-append, sum_by-cons, sum_by_push}
use Rattle.std.proofs.lemmas.Nat.{div-add-mod', div-mul-add}
use Rattle.std.proofs.Math.Nat.{mod-eq_of_lt, mul-add-mod_self_right}
use Rattle.op_graph.specs.declared.op.Op.{Op}
use Rattle.op_graph.specs.Lists.{Lists}
use Rattle.range_walk.specs.Known.{is_any_named}
use Rattle.fault_sites.specs.Sites.{each_below}
use Rattle.fault_cover.specs.declared.disturbance.Disturbance.{Disturbance}
use Rattle.fault_cover.specs.declared.left.Left.{Left}
use Rattle.fault_cover.specs.declared.left.LeftLine.{LeftLine}
use Rattle.fault_cover.specs.declared.nearest.Nearest.{Nearest}
use Rattle.fault_cover.specs.declared.effect.Effect.{Effect}
use Rattle.fault_cover.specs.declared.effect.Effect.TheVariants as told
use Rattle.fault_cover.specs.Classes.{Single}
use Rattle.fault_cover.specs.CoverText.{AreHeard, Heard, count_told, is_beyond, is_run_on, left_text, number_text, run_on_text}
use Rattle.fault_cover.specs.Leftovers.{IsLeast, IsLeastKey, Leaves, NoneFrom, beyond_line, count_key, key_if, key_line, keys_of, line_text, lines_at}
use Rattle.fault_cover.specs.Leftovers.{beyond, runs_on}
use Rattle.fault_cover.specs.Surveys.{IsSurvey, Surveyed}
use Rattle.fault_cover.specs.Sources.{is_any, sources}
use Rattle.fault_cover.specs.Telling.{Subject, Tells, TellsAt, TellsOf, UnlessSame, does_the_same}
use Rattle.fault_cover.specs.Walks.{IsNearest, is_wanted, kept}
use Rattle.fault_cover.proofs.Below.{flat_below, nothing_to, rows_below, same_below}
use Rattle.fault_cover.proofs.Tallying.{count_few, count_next, one_for}

-- ---- numbers in a list

key_front : (x : ℕ) (xs : List ℕ) (key : ℕ) → count_key (x ∷ xs) key ≡ one_for (x == key) + count_key xs key
key_front x xs key = sum_by-cons (λ (y : ℕ). one_for (y == key)) x xs

pub key_next : (xs : List ℕ) (x key : ℕ) → count_key (xs ++ x ∷ []) key ≡ count_key xs key + one_for (x == key)
key_next xs x key = sum_by_push (λ (y : ℕ). one_for (y == key)) xs x

other_key : (x key : ℕ) → x ≢ key → (x == key) ≡ false
other_key x key differs = ⊎_elim
    (λ (e : ((x == key) ≡ true) × (x ≡ key)). absurd (differs e.1)) (λ (e : ((x == key) ≡ false) × (x ≢ key)). e.0) (eqb_tells x key)

same_key : (x : ℕ) → (x == x) ≡ true
same_key x = ⊎_elim (λ (e : ((x == x) ≡ true) × (x ≡ x)). e.0) (λ (e : ((x == x) ≡ false) × (x ≢ x)). absurd (e.1 refl)) (eqb_tells x x)

pub not_counted : (xs : List ℕ) (x key : ℕ) → x ≢ key → count_key (xs ++ x ∷ []) key ≡ count_key xs key
not_counted xs x key differs =
    let next = key_next xs x key in
    let none = ap one_for (other_key x key differs) in
    omega (arith, next, none)

pub is_counted : (xs : List ℕ) (x : ℕ) → count_key (xs ++ x ∷ []) x ≡ count_key xs x + 1
is_counted xs x = key_next xs x x ∙ ap (λ b. count_key xs x + one_for b) (same_key x)

still_none : (xs : List ℕ) (x from most : ℕ) → NoneFrom xs from most → (x < from) ⊎ (most ≤ x) → NoneFrom (xs ++ x ∷ []) from most
still_none xs x from most none outside key low high =
    not_counted xs x key (⊎_elim (λ (l : x < from) e. omega (arith, l, e, low)) (λ (h : most ≤ x) e. omega (arith, h, e, high)) outside) ∙ none key low high

-- the number isn't in the range
pub least_outside : (xs : List ℕ) (x from most : ℕ) (best : Option ℕ) → (x < from) ⊎ (most ≤ x) → IsLeast xs from most best → IsLeast (xs ++ x ∷ []) from
    most best
least_outside xs x from most None outside is = still_none xs x from most is outside
least_outside xs x from most (Some key) outside is = record {
  high = is.high;
  low = is.low;
  there = λ none. is.there (let next = key_next xs x key in omega (arith, next, none));
  least = still_none xs x from key is.least (⊎_elim (λ (l : x < from). inl l) (λ (h : most ≤ x). inr (let low = is.low in omega (arith, h, low))) outside);
}

-- it is no less than what was found
pub least_stays : (xs : List ℕ) (x from most key : ℕ) → key ≤ x → IsLeast xs from most (Some key) → IsLeast (xs ++ x ∷ []) from most (Some key)
least_stays xs x from most key no_less is = record {
  high = is.high;
  low = is.low;
  there = λ none. is.there (let next = key_next xs x key in omega (arith, next, none));
  least = still_none xs x from key is.least (inr no_less);
}

there_now : (xs : List ℕ) (x : ℕ) → count_key (xs ++ x ∷ []) x ≢ 0
there_now xs x none = let one = is_counted xs x in omega (arith, one, none)

-- it is less, or the first in the range
pub least_less : (xs : List ℕ) (x from most key : ℕ) → from ≤ x → x < most → x < key → IsLeast xs from most (Some key)
    → IsLeast (xs ++ x ∷ []) from most (Some x)
least_less xs x from most key high low less is = record {
  high = high;
  low = low;
  there = there_now xs x;
  least = still_none xs x from x (λ y up down. is.least y up (omega (arith, down, less))) (inr (omega arith));
}

pub least_first : (xs : List ℕ) (x from most : ℕ) → from ≤ x → x < most → IsLeast xs from most None → IsLeast (xs ++ x ∷ []) from most (Some x)
least_first xs x from most high low none = record {
  high = high;
  low = low;
  there = there_now xs x;
  least = still_none xs x from x (λ y up down. none y up (omega (arith, down, low))) (inr (omega arith));
}

-- ---- lines of numbers

no_line : (k w : ℕ) (keys : List ℕ) (key : ℕ) → count_key keys key ≡ 0 → key_line k w keys key ≡ []
no_line k w keys key none =
    ap (λ n. cond (n == 0) [] (runs_on k (key / w) (key % w) n ∷ [])) none

some_line : (n : ℕ) (line : LeftLine) → n ≢ 0 → cond (n == 0) [] (line ∷ []) ≡ line ∷ []
some_line n line some = ap (λ b. cond b [] (line ∷ [])) (other_key n 0 some)

pub lines_next : (k w : ℕ) (keys : List ℕ) (from most key : ℕ) → IsLeastKey keys from most key
    → each_below (key_line k w keys) (key + 1) ≡ each_below (key_line k w keys) from ++ runs_on k (key / w) (key % w) (count_key keys key) ∷ []
lines_next k w keys from most key is =
    let more : key + 1 ≡ suc key = omega arith in
    ap (each_below (key_line k w keys)) more
    ∙ ap₂ (λ xs ys. xs ++ ys) (nothing_to (key_line k w keys) from key is.high (λ i low high. no_line k w keys i (is.least i low high)))
    (some_line (count_key keys key) (runs_on k (key / w) (key % w) (count_key keys key)) is.there)

pub lines_last : (k w : ℕ) (keys : List ℕ) (from most : ℕ) → from ≤ most → NoneFrom keys from most
    → each_below (key_line k w keys) most ≡ each_below (key_line k w keys) from
lines_last k w keys from most up none = nothing_to (key_line k w keys) from most up (λ i low high. no_line k w keys i (none i low high))

-- ---- what they say

-- the operation at which a fault runs on is there
abbrev Within : ℕ → Effect → Type 0
Within w (told.Refused b) = Unit {0}
Within w told.Nothing = Unit {0}
Within w (told.Shows b o) = Unit {0}
Within w (told.RunsOn b q) = q < w
Within w told.Beyond = Unit {0}

one_number : (w a p b q : ℕ) → p < w → q < w → a * w + p ≡ b * w + q → (a ≡ b) × (p ≡ q)
one_number w a p b q low high e = (
  sym (div-mul-add a w p low) ∙ ap (λ n. n / w) e ∙ div-mul-add b w q high,
  sym (mul-add-mod_self_right a w p ∙ mod-eq_of_lt low) ∙ ap (λ n. n % w) e ∙ (mul-add-mod_self_right b w q ∙ mod-eq_of_lt high),
)

both_same : (a b p q : ℕ) → a ≡ b → p ≡ q → (a == b && p == q) ≡ true
both_same a b p q one other = ap₂ (λ x y. x && y) (ap (λ n. a == n) (sym one) ∙ same_key a) (ap (λ n. p == n) (sym other) ∙ same_key p)

not_both : (x y : Bool) → (x ≡ true → y ≡ true → ⊥) → (x && y) ≡ false
not_both true true h = absurd (h refl refl)
not_both true false h = refl
not_both false y h = refl

is_number : (x y : ℕ) → (x == y) ≡ true → x ≡ y
is_number x y is = ⊎_elim
    (λ (e : ((x == y) ≡ true) × (x ≡ y)). e.1) (λ (e : ((x == y) ≡ false) × (x ≢ y)). let no : true ≡ false = sym is ∙ e.0 in absurd cc) (eqb_tells x y)

same_test : (w a p b q : ℕ) → p < w → q < w → (a * w + p == b * w + q) ≡ (a == b && p == q)
same_test w a p b q low high = ⊎_elim
    (λ (e : ((a * w + p == b * w + q) ≡ true) × (a * w + p ≡ b * w + q)).
    let same = one_number w a p b q low high e.1 in e.0 ∙ sym (both_same a b p q same.0 same.1))
    (λ (e : ((a * w + p == b * w + q) ≡ false) × (a * w + p ≢ b * w + q)).
    e.0 ∙ sym (not_both (a == b) (p == q)
    (λ one other. e.1 (ap₂ (λ (m n : ℕ). m * w + n) (is_number a b one) (is_number p q other)))))
    (eqb_tells (a * w + p) (b * w + q))

one_key : (w b q : ℕ) (x : Effect) → q < w → Within w x → count_key (key_if w x) (b * w + q) ≡ one_for (is_run_on b q x)
one_key w b q (told.Refused a) high within = refl
one_key w b q told.Nothing high within = refl
one_key w b q (told.Shows a o) high within = refl
one_key w b q (told.RunsOn a p) high within =
    key_front (a * w + p) [] (b * w + q) ∙ add-zero (one_for (a * w + p == b * w + q)) ∙ ap one_for (same_test w a p b q within high)
one_key w b q told.Beyond high within = refl

pub keys_counted : (w b q : ℕ) (heard : List Heard) → q < w → All (λ h. Within w h.told) heard
    → count_key (keys_of w heard) (b * w + q) ≡ count_told (is_run_on b q) heard
keys_counted w b q [] high all = refl
keys_counted w b q (h ∷ heard) high all =
    sum_by-append (λ (y : ℕ). one_for (y == b * w + q)) (key_if w h.told) (keys_of w heard)
    ∙ ap₂ (λ (m n : ℕ). m + n) (one_key w b q h.told high (All-head (λ (j : Heard). Within w j.told) h heard all))
    (keys_counted w b q heard high (All-tail (λ (j : Heard). Within w j.told) h heard all))
    ∙ sym (sum_by-cons (λ (j : Heard). one_for (is_run_on b q j.told)) h heard)

line_if : (g : Lists) (n : ℕ) (line : LeftLine) → flat_map (line_text g) (cond (n == 0) [] (line ∷ [])) ≡ cond (n == 0) [] (line_text g line)
line_if g n line = line_by (n == 0) where
  line_by : (b : Bool) → flat_map (line_text g) (cond b [] (line ∷ [])) ≡ cond b [] (line_text g line)
  line_by true = refl
  line_by false = append-nil (line_text g line)

run_on_said : (g : Lists) (k b q n : ℕ)
    → line_text g (runs_on k b q n) ≡ codes "runs-on " ++ (decimal b ++ (codes " " ++ (decimal q ++ number_text g k n)))
run_on_said g k b q n = ap (λ xs. codes "runs-on " ++ xs) (append_assoc (decimal b) (codes " " ++ decimal q) (number_text g k n))

key_text : (g : Lists) (k w : ℕ) (heard : List Heard) (b q : ℕ) → q < w → All (λ h. Within w h.told) heard
    → flat_map (line_text g) (cond (count_key (keys_of w heard) (b * w + q) == 0) [] (runs_on k b q (count_key (keys_of w heard) (b * w + q)) ∷ []))
    ≡ run_on_text g heard k b q
key_text g k w heard b q high all =
    line_if g (count_key (keys_of w heard) (b * w + q)) (runs_on k b q (count_key (keys_of w heard) (b * w + q)))
    ∙ ap (λ n. cond (n == 0) [] (line_text g (runs_on k b q n))) (keys_counted w b q heard high all)
    ∙ ap (cond (count_told (is_run_on b q) heard == 0) []) (run_on_said g k b q (count_told (is_run_on b q) heard))

-- the number of a row and a place in it
abbrev number_at : ℕ → ℕ → ℕ → ℕ
number_at w b q = b * w + q

whole_number : (w i : ℕ) → number_at w (i / w) (i % w) ≡ i
whole_number w i = div-add-mod' i w

pub left_said : (g : Lists) (horizon : ℕ) (heard : List Heard) (k : ℕ) → All (λ h. Within (length g.operations) h.told) heard
    → flat_map (line_text g) (lines_at g horizon heard k) ≡ left_text g horizon heard k
left_said g horizon heard k all =
    let w = length g.operations in
    let keys = keys_of w heard in
    let f : ℕ → ℕ → List ℕ = λ b q. flat_map (line_text g) (cond (count_key keys (b * w + q) == 0) [] (runs_on k b q (count_key keys (b * w + q)) ∷
    [])) in
    flat_map-append (line_text g) (each_below (key_line k w keys) ((horizon + 1) * w)) (beyond_line k (count_told is_beyond heard))
    ∙ ap₂ (λ xs ys. xs ++ ys)
    (flat_below (line_text g) (key_line k w keys) ((horizon + 1) * w)
    ∙ same_below (λ i. flat_map (line_text g) (key_line k w keys i)) (λ i. f (i / w) (i % w)) ((horizon + 1) * w)
    (λ i lt. ap (λ n. flat_map (line_text g) (cond (count_key keys n == 0) [] (runs_on k (i / w) (i % w) (count_key keys n) ∷ []))) (sym
    (whole_number w i)))
    ∙ rows_below f w (horizon + 1)
    ∙ same_below (λ b. each_below (f b) w) (λ b. each_below (run_on_text g heard k b) w) (horizon + 1)
    (λ b lt. same_below (f b) (run_on_text g heard k b) w (λ q high. key_text g k w heard b q high all)))
    (line_if g (count_told is_beyond heard) (beyond k (count_told is_beyond heard)))

-- ---- what is told is within

within_or_past : (m n : ℕ) → (m < n) ⊎ (n ≤ m)
within_or_past m n = elim (cases_lt m n) [ inl l ↦ inl l | inr h ↦ inr (omega (arith, h)) ]

kept_within : (found : List (Option Nearest)) (q : ℕ) (n : Nearest) → kept found q ≡ Some n → q < length found
kept_within found q n e = ⊎_elim
    (λ (l : q < length found). l)
    (λ (h : length found ≤ q). let no : None ≡ Some n = sym (get_or_past found q None h) ∙ e in absurd cc)
    (within_or_past q (length found))

nearest_there : (g : Lists) (wanted : List Bool) (found : List (Option Nearest)) (q : ℕ) (x : Option Nearest) → kept found q ≡ x → is_wanted wanted q ≡ true
    → IsNearest g wanted q x → q < length found
nearest_there g wanted found q None e is near = absurd (near 0 q is ([], (refl, refl)))
nearest_there g wanted found q (Some n) e is near = kept_within found q n e

stop_there : (s : Subject) (v : Surveyed) (q : ℕ) → IsSurvey s v → is_any_named (slice_get s.stops q) ≡ true → q < length s.graph.operations
stop_there s v q survey may =
    let mapped = survey.mapped in
    let is : is_wanted mapped.maps.able q ≡ true = survey.able_are q ∙ may in
    let inside = nearest_there s.graph mapped.maps.able v.stops q (kept v.stops q) refl is (mapped.maps.stops.each q) in
    let many = mapped.maps.stops.many in
    omega (arith, inside, many)

not_nothing : (b q : ℕ) → told.RunsOn b q ≡ told.Nothing → ⊥
not_nothing b q e = cc

module _ (s : Subject) (v : Surveyed) (survey : IsSurvey s v) (k : ℕ) (d : Disturbance) where
  runs_within : (b q : ℕ) (same : Bool) (op : Op) → UnlessSame same (told.RunsOn b q) (TellsOf s (is_any d) (sources s.table s.graph k op d) (told.RunsOn b q))
      → q < length s.graph.operations
  runs_within b q true op is = absurd (not_nothing b q is)
  runs_within b q false op is = stop_there s v q survey is.reached.may

  at_within : (b q : ℕ) (o : Option Op) → TellsAt s k d (told.RunsOn b q) o → q < length s.graph.operations
  at_within b q None is = absurd is
  at_within b q (Some op) is = runs_within b q (does_the_same op.kind d) op is

  told_within : (x : Effect) → Tells s k d x → Within (length s.graph.operations) x
  told_within (told.Refused b) is = tt
  told_within told.Nothing is = tt
  told_within (told.Shows b o) is = tt
  told_within (told.RunsOn b q) is = at_within b q (slice_get s.graph.operations k) is
  told_within told.Beyond is = tt

pub heard_within : (s : Subject) (v : Surveyed) (faults : List Single) (heard : List Heard) → IsSurvey s v → AreHeard s faults heard
    → All (λ h. Within (length s.graph.operations) h.told) heard
heard_within s v faults heard survey are =
    All-weaker (λ (h : Heard). Tells s h.fault.op h.fault.does h.told) (λ (h : Heard). Within (length s.graph.operations) h.told)
    (λ h is. told_within s v survey h.fault.op h.fault.does h.told is) heard are.told

-- ---- what is kept with one more fault

keys_next : (w : ℕ) (past : List Heard) (h : Heard) → keys_of w (past ++ h ∷ []) ≡ keys_of w past ++ key_if w h.told
keys_next w past h =
    flat_map-append (λ (x : Heard). key_if w x.told) past (h ∷ []) ∙ ap (λ xs. keys_of w past ++ xs) (append-nil (key_if w h.told))

-- n is 1 where the fault is beyond the horizon, else 0
pub leaves_more : (g : Lists) (old new : Left) (past : List Heard) (h : Heard) (n : ℕ)
    → (new.keys.lacked ≡ false → (old.keys.lacked ≡ false) × (new.keys.list.items ≡ old.keys.list.items ++ key_if (length g.operations) h.told))
    → one_for (is_beyond h.told) ≡ n → n ≤ 1 → (old.beyond + n < 2 ^ 64 → new.beyond ≡ old.beyond + n) → Leaves g old past
    → Leaves g new (past ++ h ∷ [])
leaves_more g old new past h n keys one small beyond was = (
  λ none.
      let kept = keys none in
      kept.1 ∙ ap (λ xs. xs ++ key_if (length g.operations) h.told) (was.0 kept.0) ∙ sym (keys_next (length g.operations) past h),
  λ few.
      let longer = length-append past (h ∷ []) in
      let is = was.1 (omega (arith, few, longer)) in
      let most = count_few is_beyond past in
      let next = count_next is_beyond past h in
      let made = beyond (omega (arith, few, longer, is, most, small)) in
      omega (arith, made, is, next, one),
)
