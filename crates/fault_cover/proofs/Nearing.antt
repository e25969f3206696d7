-- Nearing: which of two is nearer, and what is handed on.
use Rattle.std.proofs.Common.{◌≡◌, ◌≢◌, ◌⊎◌, ⊎_elim, inl, inr, ℕ, suc, ◌<◌, ◌≤◌, ◌==◌, ◌&&◌, ◌||◌, nat_lt, cond, Bool, true, false, List, Option}
use Rattle.std.proofs.Common.{Some, None, ap, ap₂, sym, subst, ◌∙◌, refl, arith}
use Rattle.std.proofs.lemmas.Bool.Decides.{eqb_tells, leb_tells}
use Rattle.op_graph.specs.declared.op.Op.{Op}
use Rattle.fault_cover.specs.declared.nearest.Nearest.{Nearest}
use Rattle.fault_cover.specs.Walks.{is_nearer, nearer, further, AsNear, NotFurther, kept, Got, HandsOn}

-- what the test tells
nearer_tells : (n m : Nearest) → ((is_nearer n m ≡ true) × AsNear n m.borders m.op) ⊎ ((is_nearer n m ≡ false) × AsNear m n.borders n.op)
nearer_tells n m = ⊎_elim
    (λ (h : (nat_lt n.borders m.borders ≡ true) × (suc n.borders ≤ m.borders)).
    inl (ap (λ b. b || n.borders == m.borders && nat_lt n.op m.op) h.0, inl (let lt = h.1 in omega (arith, lt))))
    (λ (h : (nat_lt n.borders m.borders ≡ false) × (m.borders < suc n.borders)). ⊎_elim
    (λ (e : ((n.borders == m.borders) ≡ true) × (n.borders ≡ m.borders)). ⊎_elim
    (λ (l : (nat_lt n.op m.op ≡ true) × (suc n.op ≤ m.op)).
    inl (
      ap (λ b. b || n.borders == m.borders && nat_lt n.op m.op) h.0 ∙ ap (λ b. b && nat_lt n.op m.op) e.0 ∙ l.0,
      inr (e.1, let lt = l.1 in omega (arith, lt)),
    ))
    (λ (l : (nat_lt n.op m.op ≡ false) × (m.op < suc n.op)).
    inr (
      ap (λ b. b || n.borders == m.borders && nat_lt n.op m.op) h.0 ∙ ap (λ b. b && nat_lt n.op m.op) e.0 ∙ l.0,
      inr (sym e.1, let le = l.1 in omega (arith, le)),
    ))
    (leb_tells (suc n.op) m.op))
    (λ (e : ((n.borders == m.borders) ≡ false) × (n.borders ≢ m.borders)).
    inr (
      ap (λ b. b || n.borders == m.borders && nat_lt n.op m.op) h.0 ∙ ap (λ b. b && nat_lt n.op m.op) e.0,
      inl (let le = h.1 in let ne = e.1 in omega (arith, le, ne)),
    ))
    (eqb_tells n.borders m.borders))
    (leb_tells (suc n.borders) m.borders)

pub as_near_same : (n : Nearest) → AsNear n n.borders n.op
as_near_same n = inr (refl, omega arith)

pub as_near_through : (m n : Nearest) (borders op : ℕ) → AsNear m n.borders n.op → AsNear n borders op → AsNear m borders op
as_near_through m n borders op (inl lt) (inl le) = inl (omega (arith, lt, le))
as_near_through m n borders op (inl lt) (inr e) = inl (let same = e.0 in omega (arith, lt, same))
as_near_through m n borders op (inr e) (inl lt) = inl (let same = e.0 in omega (arith, lt, same))
as_near_through m n borders op (inr e) (inr h) = inr (e.0 ∙ h.0, let le = e.1 in let more = h.1 in omega (arith, le, more))

-- two that are as near as each other are one
pub one_nearest : (m n : Nearest) → AsNear m n.borders n.op → AsNear n m.borders m.op → m ≡ n
one_nearest m n (inl lt) (inl more) = absurd (omega (arith, lt, more))
one_nearest m n (inl lt) (inr e) = absurd (let same = e.0 in omega (arith, lt, same))
one_nearest m n (inr e) (inl lt) = absurd (let same = e.0 in omega (arith, lt, same))
one_nearest m n (inr e) (inr h) = ap₂ (λ b o. record { borders = b; op = o }) e.0 (let le = e.1 in let more = h.1 in omega (arith, le, more))

pub both_ways : (x : Option Nearest) (n : Nearest) → NotFurther x (Some n) → NotFurther (Some n) x → x ≡ Some n
both_ways None n near back = absurd near
both_ways (Some m) n near back = ap Some (one_nearest m n near back)

pub no_further_same : (one : Option Nearest) → NotFurther one one
no_further_same None = tt
no_further_same (Some n) = as_near_same n

pub no_further_through : (one other third : Option Nearest) → NotFurther one other → NotFurther other third → NotFurther one third
no_further_through one other None first second = tt
no_further_through one None (Some n) first second = absurd second
no_further_through None (Some m) (Some n) first second = absurd first
no_further_through (Some l) (Some m) (Some n) first second = as_near_through l m n.borders n.op first second

pub nearer_first : (one other : Option Nearest) → NotFurther (nearer one other) one
nearer_first None other = tt
nearer_first (Some old) None = as_near_same old
nearer_first (Some old) (Some new) = ⊎_elim
    (λ (h : (is_nearer new old ≡ true) × AsNear new old.borders old.op). subst (λ b. NotFurther (cond b (Some new) (Some old)) (Some old)) (sym h.0) h.1)
    (λ (h : (is_nearer new old ≡ false) × AsNear old new.borders new.op).
    subst (λ b. NotFurther (cond b (Some new) (Some old)) (Some old)) (sym h.0) (as_near_same old))
    (nearer_tells new old)

pub nearer_second : (one other : Option Nearest) → NotFurther (nearer one other) other
nearer_second None other = no_further_same other
nearer_second (Some old) None = tt
nearer_second (Some old) (Some new) = ⊎_elim
    (λ (h : (is_nearer new old ≡ true) × AsNear new old.borders old.op).
    subst (λ b. NotFurther (cond b (Some new) (Some old)) (Some new)) (sym h.0) (as_near_same new))
    (λ (h : (is_nearer new old ≡ false) × AsNear old new.borders new.op). subst (λ b. NotFurther (cond b (Some new) (Some old)) (Some new)) (sym h.0) h.1)
    (nearer_tells new old)

pub nearer_either : (one other : Option Nearest) → (nearer one other ≡ one) ⊎ (nearer one other ≡ other)
nearer_either None other = inr refl
nearer_either (Some old) None = inl refl
nearer_either (Some old) (Some new) = by_test (is_nearer new old)
  where
    by_test : (b : Bool) → (cond b (Some new) (Some old) ≡ Some old) ⊎ (cond b (Some new) (Some old) ≡ Some new)
    by_test true = inr refl
    by_test false = inl refl

-- the first stays where it is as near
pub nearer_stays : (one other : Option Nearest) → NotFurther one other → nearer one other ≡ one
nearer_stays None None near = refl
nearer_stays None (Some new) near = absurd near
nearer_stays (Some old) None near = refl
nearer_stays (Some old) (Some new) near = ⊎_elim
    (λ (h : (is_nearer new old ≡ true) × AsNear new old.borders old.op).
    ap (λ b. cond b (Some new) (Some old)) h.0 ∙ ap Some (one_nearest new old h.1 near))
    (λ (h : (is_nearer new old ≡ false) × AsNear old new.borders new.op). ap (λ b. cond b (Some new) (Some old)) h.0)
    (nearer_tells new old)

pub further_more : (one other : Option Nearest) (more : ℕ) → NotFurther one other → NotFurther (further one more) (further other more)
further_more one None more near = tt
further_more None (Some n) more near = absurd near
further_more (Some m) (Some n) more (inl lt) = inl (omega (arith, lt))
further_more (Some m) (Some n) more (inr e) = inr (let same = e.0 in omega (arith, same), e.1)

-- ---- handing on

pub hands_nothing : (op : Op) (near : Option Nearest) (old : List (Option Nearest)) → HandsOn op near old old
hands_nothing op near old = record { many = refl; each = λ k. inl refl; no_further = λ k. no_further_same (kept old k) }

pub hands_both : (op : Op) (near : Option Nearest) (old mid new : List (Option Nearest)) → HandsOn op near old mid → HandsOn op near mid new
    → HandsOn op near old new
hands_both op near old mid new first second = record {
  many = second.many ∙ first.many;
  each = λ k. ⊎_elim
      (λ (e : kept new k ≡ kept mid k). ⊎_elim
      (λ (h : kept mid k ≡ kept old k). inl (e ∙ h))
      (λ (g : Got op near mid k). inr (record { takes = g.takes; is = e ∙ g.is }))
      (first.each k))
      (λ (g : Got op near new k). inr g)
      (second.each k);
  no_further = λ k. no_further_through (kept new k) (kept mid k) (kept old k) (second.no_further k) (first.no_further k);
}
