-- Spending: one piece of a text behind another, and some groups behind others.
use Rattle.std.proofs.Common.{◌≡◌, ℕ, zero, suc, ◌+◌, ◌-◌, ◌<◌, ◌≤◌, ◌==◌, ◌||◌, Bool, true, false, nat_lt, nat_le, cond, List, [], ◌∷◌, ◌++◌, length, take, drop, All, codes, add-one, append_assoc, refl, sym, ap, ◌∙◌, arith}
use Rattle.std.proofs.lemmas.Bool.Decides.{nat_tests}
use Rattle.std.proofs.lemmas.List.Elements.{All-head, All-tail}
use Rattle.fault_sites.specs.declared.budget.Budget.{Budget}
use Rattle.fault_sites.specs.declared.site.Site.{Site}
use Rattle.fault_sites.specs.Rests.{first_fits, fitting}
use Rattle.fault_sites.specs.Sites.{each_below}
use Rattle.fault_sites.specs.Spending.{behind, fed_groups, has_begun, is_begun, one_behind, one_within, Spends, within}
use Rattle.fault_sites.specs.Telling.{fed_lines}
use Rattle.vcp_outside.specs.Pens.{Penned, Goes, unmoved, and_then, same}

abbrev pub budget : ℕ → ℕ → ℕ → Budget
budget skip left room = record { skip = skip; left = left; room = room }

-- ---- lists of groups

within_append : (b : Budget) (xs ys : List (List Site)) → within b (xs ++ ys) ≡ within b xs ++ within (behind b xs) ys
within_append b [] ys = refl
within_append b (x ∷ xs) ys =
    ap (λ (zs : List (List Site)). one_within b x ++ zs) (within_append (one_behind b x) xs ys)
    ∙ sym (append_assoc (one_within b x) (within (one_behind b x) xs) (within (behind (one_behind b x) xs) ys))

behind_append : (b : Budget) (xs ys : List (List Site)) → behind b (xs ++ ys) ≡ behind (behind b xs) ys
behind_append b [] ys = refl
behind_append b (x ∷ xs) ys = behind_append (one_behind b x) xs ys

regroup : (lines fed more : List ℕ) → codes "\nbegin" ++ (lines ++ (codes "\nend" ++ (fed ++ more))) ≡ (codes "\nbegin" ++ (lines ++ (codes "\nend" ++ fed))) ++ more
regroup lines fed more = simp append_assoc

fed_append : (xs ys : List (List Site)) → fed_groups (xs ++ ys) ≡ fed_groups xs ++ fed_groups ys
fed_append [] ys = refl
fed_append (x ∷ xs) ys =
    ap (λ (t : List ℕ). codes "\nbegin" ++ (fed_lines x ++ (codes "\nend" ++ t))) (fed_append xs ys) ∙ regroup (fed_lines x) (fed_groups xs) (fed_groups ys)

-- ---- calls

-- no groups
pub spends_none : {l : Penned} {b : Budget} → Spends l l b b []
spends_none = record { gathers = unmoved; left = refl }

-- some groups and others
pub spends_both : {l m n : Penned} {p q r : Budget} {xs ys : List (List Site)} → Spends l m p q xs → Spends m n q r ys
    → Spends l n p r (xs ++ ys)
spends_both {p = p} {q = q} {xs = xs} {ys = ys} first second = record {
  gathers = same (and_then first.gathers second.gathers)
      (ap fed_groups (within_append p xs ys) ∙ (fed_append (within p xs) (within (behind p xs) ys)
      ∙ ap (λ (q : Budget). fed_groups (within p xs) ++ fed_groups (within q ys)) (sym first.left)));
  left = second.left ∙ (ap (λ (q : Budget). behind q ys) first.left ∙ sym (behind_append p xs ys));
}

-- the same groups, listed otherwise
pub spends_same : {l m : Penned} {p q : Budget} {xs ys : List (List Site)} → Spends l m p q xs → ys ≡ xs → Spends l m p q ys
spends_same spends e = rw e spends

-- those of one number more
pub spends_more : {l m o : Penned} {p q r : Budget} (f : ℕ → List (List Site)) (i : ℕ) → Spends l m p q (each_below f i)
    → Spends m o q r (f i) → Spends l o p r (each_below f (i + 1))
spends_more f i first second = rw (add-one i) (spends_both first second)

-- ---- the part is over, or is still to come

over_within : (b : Budget) (gs : List (List Site)) → b.left ≡ 0 → within b gs ≡ []
over_within b [] over = refl
over_within b (g ∷ gs) over =
    let none : one_within b g ≡ [] = rw over refl in
    let still : one_behind b g ≡ b = rw over refl in
    ap (λ (zs : List (List Site)). zs ++ within (one_behind b g) gs) none ∙ (ap (λ (c : Budget). within c gs) still ∙ over_within b gs over)

over_behind : (b : Budget) (gs : List (List Site)) → b.left ≡ 0 → behind b gs ≡ b
over_behind b [] over = refl
over_behind b (g ∷ gs) over =
    let still : one_behind b g ≡ b = rw over refl in ap (λ (c : Budget). behind c gs) still ∙ over_behind b gs over

pub spends_over : {l : Penned} {b : Budget} (gs : List (List Site)) → b.left ≡ 0 → Spends l l b b gs
spends_over {b = b} gs over = record { gathers = same unmoved (ap fed_groups (over_within b gs over)); left = sym (over_behind b gs over) }

abbrev skipped : Budget → ℕ → Budget
skipped b n = record { skip = b.skip - n; left = b.left; room = b.room }

going : (b : Budget) → 0 < b.left → (b.left == 0) ≡ false
going b some = grind (arith, nat_tests)

one_skipped : (b : Budget) (g : List Site) → 0 < b.left → 0 < b.skip → one_behind b g ≡ skipped b 1
one_skipped b g some far =
    let on : (b.left == 0) ≡ false = going b some in
    let past : nat_lt 0 b.skip ≡ true = grind (arith, nat_tests) in
    rw (on, past) refl

none_skipped : (b : Budget) (g : List Site) → 0 < b.left → 0 < b.skip → one_within b g ≡ []
none_skipped b g some far =
    let on : (b.left == 0) ≡ false = going b some in
    let past : nat_lt 0 b.skip ≡ true = grind (arith, nat_tests) in
    rw (on, past) refl

budget_same : (a b left room : ℕ) → a ≡ b → budget a left room ≡ budget b left room
budget_same a b left room e = ap (λ (s : ℕ). budget s left room) e

past_within : (b : Budget) (gs : List (List Site)) → 0 < b.left → length gs ≤ b.skip → within b gs ≡ []
past_within b [] some far = refl
past_within b (g ∷ gs) some far =
    ap (λ (zs : List (List Site)). zs ++ within (one_behind b g) gs) (none_skipped b g some (omega (arith, far)))
    ∙ (ap (λ (c : Budget). within c gs) (one_skipped b g some (omega (arith, far))) ∙ past_within (skipped b 1) gs some (omega (arith, far)))

past_behind : (b : Budget) (gs : List (List Site)) → 0 < b.left → length gs ≤ b.skip → behind b gs ≡ skipped b (length gs)
past_behind b [] some far = budget_same b.skip (b.skip - 0) b.left b.room (omega arith)
past_behind b (g ∷ gs) some far =
    ap (λ (c : Budget). behind c gs) (one_skipped b g some (omega (arith, far)))
    ∙ (past_behind (skipped b 1) gs some (omega (arith, far))
    ∙ budget_same (b.skip - 1 - length gs) (b.skip - suc (length gs)) b.left b.room (omega arith))

pub spends_past : {l : Penned} {b next : Budget} (gs : List (List Site)) → 0 < b.left → length gs ≤ b.skip → next ≡ skipped b (length gs)
    → Spends l l b next gs
spends_past {b = b} gs some far is = record { gathers = same unmoved (ap fed_groups (past_within b gs some far)); left = is ∙ sym (past_behind b gs some far) }

-- ---- one group

-- it is the first of the part
pub spends_one : {l m : Penned} {p q : Budget} (xs : List Site) → 0 < p.left → p.skip ≡ 0 → length xs ≤ p.room
    → Goes l m (codes "\nbegin" ++ (fed_lines xs ++ codes "\nend")) → q ≡ budget 0 (p.left - 1) (p.room - length xs)
    → Spends l m p q (xs ∷ [])
spends_one {p = p} xs some first fits gathers is =
    let on : (p.left == 0) ≡ false = going p some in
    let none : nat_lt 0 p.skip ≡ false = grind (arith, nat_tests) in
    let le : nat_le (length xs) p.room ≡ true = grind (arith, nat_tests) in
    let one : within p (xs ∷ []) ≡ xs ∷ [] = rw (on, none, le) refl in
    let next : behind p (xs ∷ []) ≡ budget 0 (p.left - 1) (p.room - length xs) = rw (on, none, le) refl in
    record { gathers = same gathers (ap fed_groups one); left = is ∙ sym next }

-- there is no room for it
pub spends_full : {l : Penned} {p q : Budget} (xs : List Site) → 0 < p.left → p.skip ≡ 0 → p.room < length xs
    → q ≡ budget 0 0 p.room → Spends l l p q (xs ∷ [])
spends_full {p = p} xs some first full is =
    let on : (p.left == 0) ≡ false = going p some in
    let none : nat_lt 0 p.skip ≡ false = grind (arith, nat_tests) in
    let over : nat_le (length xs) p.room ≡ false = grind (arith, nat_tests) in
    let one : within p (xs ∷ []) ≡ [] = rw (on, none, over) refl in
    let next : behind p (xs ∷ []) ≡ budget 0 0 p.room = rw (on, none, over) refl in
    record { gathers = same unmoved (ap fed_groups one); left = is ∙ sym next }

-- ---- what a whole part comes to

take_none : (gs : List (List Site)) → take 0 gs ≡ []
take_none [] = refl
take_none (x ∷ gs) = refl

drop_none : (gs : List (List Site)) → drop 0 gs ≡ gs
drop_none [] = refl
drop_none (x ∷ gs) = refl

fits_one : (room left : ℕ) (xs : List Site) (gs : List (List Site)) (b : Bool) → nat_le (length xs) room ≡ b
    → ((l r : ℕ) → within (budget 0 l r) gs ≡ fitting r (take l gs))
    → cond b (xs ∷ []) [] ++ within (cond b (budget 0 left (room - length xs)) (budget 0 0 room)) gs ≡ cond b (xs ∷ fitting (room - length xs) (take left gs)) []
fits_one room left xs gs true is more = ap (λ (ys : List (List Site)). xs ∷ ys) (more left (room - length xs))
fits_one room left xs gs false is more = over_within (budget 0 0 room) gs refl

on_suc : (left : ℕ) → (suc left == 0) ≡ false
on_suc left = grind (arith, nat_tests)

less_suc : (left : ℕ) → suc left - 1 ≡ left
less_suc left = omega arith

within_first : (left room : ℕ) (gs : List (List Site)) → within (budget 0 left room) gs ≡ fitting room (take left gs)
within_first zero room [] = refl
within_first (suc left) room [] = refl
within_first zero room (xs ∷ gs) = over_within (budget 0 0 room) (xs ∷ gs) refl
within_first (suc left) room (xs ∷ gs) =
    rw (on_suc left, less_suc left) (fits_one room left xs gs (nat_le (length xs) room) refl (λ l r. within_first l r gs))

pub within_part : (skip left room : ℕ) (gs : List (List Site)) → within (budget skip left room) gs ≡ fitting room (take left (drop skip gs))
within_part zero left room gs = within_first left room gs ∙ ap (λ (hs : List (List Site)). fitting room (take left hs)) (sym (drop_none gs))
within_part (suc skip) zero room gs =
    over_within (budget (suc skip) 0 room) gs refl ∙ ap (fitting room) (sym (take_none (drop (suc skip) gs)))
within_part (suc skip) (suc left) room [] = refl
within_part (suc skip) (suc left) room (xs ∷ gs) =
    let b : Budget = budget (suc skip) (suc left) room in
    ap (λ (zs : List (List Site)). zs ++ within (one_behind b xs) gs) (none_skipped b xs (omega arith) (omega arith))
    ∙ (ap (λ (c : Budget). within c gs) (one_skipped b xs (omega arith) (omega arith))
    ∙ (ap (λ (s : ℕ). within (budget s (suc left) room) gs) (less_suc skip) ∙ within_part skip (suc left) room gs))

-- ---- whether the first one fits

room_falls : (b : Budget) (gs : List (List Site)) → (behind b gs).room ≤ b.room
room_falls b [] = omega arith
room_falls b (xs ∷ gs) = let more = room_falls (one_behind b xs) gs in omega (arith, more, falls b xs)
  where
    falls : (b : Budget) (xs : List Site) → (one_behind b xs).room ≤ b.room
    falls b xs = either b xs (b.left == 0) (nat_lt 0 b.skip) (nat_le (length xs) b.room)
      where
        either : (b : Budget) (xs : List Site) (c d e : Bool)
            → (cond c b (cond d (budget (b.skip - 1) b.left b.room) (cond e (budget 0 (b.left - 1) (b.room - length xs)) (budget 0 0 b.room)))).room ≤ b.room
        either b xs true d e = omega arith
        either b xs false true e = omega arith
        either b xs false false true = omega arith
        either b xs false false false = omega arith

-- what is left tells it
begun_one : (room left : ℕ) (xs : List Site) (gs : List (List Site)) (b : Bool) → nat_le (length xs) room ≡ b → 0 < length xs
    → is_begun room (behind (cond b (budget 0 left (room - length xs)) (budget 0 0 room)) gs) ≡ b
begun_one room left xs gs true is some =
    let falls = room_falls (budget 0 left (room - length xs)) gs in
    let le : length xs ≤ room = grind (arith, nat_tests) in
    let less : (behind (budget 0 left (room - length xs)) gs).room < room = omega (arith, falls, le, some) in
    let low : nat_lt (behind (budget 0 left (room - length xs)) gs).room room ≡ true = grind (arith, nat_tests) in
    rw low (either_is (nat_lt 0 (behind (budget 0 left (room - length xs)) gs).left))
  where
    either_is : (a : Bool) → (a || true) ≡ true
    either_is true = refl
    either_is false = refl
begun_one room left xs gs false is some =
    let still : behind (budget 0 0 room) gs ≡ budget 0 0 room = over_behind (budget 0 0 room) gs refl in
    let same : nat_lt room room ≡ false = grind (arith, nat_tests) in
    rw (still, same) refl

begun_still : (skip left room : ℕ) → has_begun room (suc left) (budget skip (suc left) room) ≡ true
begun_still skip left room =
    let some : nat_lt 0 (suc left) ≡ true = grind (arith, nat_tests) in rw (on_suc left, some) refl

one_first : (left room : ℕ) (xs : List Site)
    → one_behind (budget 0 (suc left) room) xs ≡ cond (nat_le (length xs) room) (budget 0 left (room - length xs)) (budget 0 0 room)
one_first left room xs =
    ap (λ (c : Bool). cond c (budget 0 (suc left) room)
    (cond (nat_le (length xs) room) (budget 0 (suc left - 1) (room - length xs)) (budget 0 0 room))) (on_suc left)
    ∙ ap (λ (m : ℕ). cond (nat_le (length xs) room) (budget 0 m (room - length xs)) (budget 0 0 room)) (less_suc left)

begun_first : (left room : ℕ) (xs : List Site) (gs : List (List Site)) → 0 < length xs
    → has_begun room (suc left) (behind (budget 0 (suc left) room) (xs ∷ gs)) ≡ nat_le (length xs) room
begun_first left room xs gs some =
    ap (λ (b : Budget). has_begun room (suc left) (behind b gs)) (one_first left room xs)
    ∙ (ap (λ (c : Bool). c || is_begun room (behind (cond (nat_le (length xs) room) (budget 0 left (room - length xs)) (budget 0 0 room)) gs)) (on_suc left)
    ∙ begun_one room left xs gs (nat_le (length xs) room) refl some)

pub begun_tells : (skip left room : ℕ) (gs : List (List Site)) → All (λ xs. 0 < length xs) gs
    → has_begun room left (behind (budget skip left room) gs) ≡ first_fits room (take left (drop skip gs))
begun_tells skip zero room gs some = sym (ap (first_fits room) (take_none (drop skip gs)))
begun_tells zero (suc left) room [] some = begun_still 0 left room
begun_tells (suc skip) (suc left) room [] some = begun_still (suc skip) left room
begun_tells zero (suc left) room (xs ∷ gs) some = begun_first left room xs gs (All-head (λ xs. 0 < length xs) xs gs some)
begun_tells (suc skip) (suc left) room (xs ∷ gs) some =
    let b : Budget = budget (suc skip) (suc left) room in
    ap (λ (c : Budget). has_begun room (suc left) (behind c gs)) (one_skipped b xs (omega arith) (omega arith))
    ∙ (ap (λ (s : ℕ). has_begun room (suc left) (behind (budget s (suc left) room) gs)) (less_suc skip)
    ∙ begun_tells skip (suc left) room gs (All-tail (λ xs. 0 < length xs) xs gs some))
