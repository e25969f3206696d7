-- Conditions: what the value of a condition tells of the values that it compares, and of the conditions that it joins.
use Rattle.std.proofs.Common.{◌≡◌, ◌≢◌, ℕ, ℤ, pos, ◌-ℤ◌, neg_ℤ, ◌⊎◌, inl, inr, Bool, true, false, not, ◌&&◌, ◌||◌, cond, List, take, Ok, refl, sym, ap, subst, ◌∙◌, get_or-take, nat_lt, arith}
use Rattle.std.specs.Prelude.{int_lt}
use Rattle.std.proofs.lemmas.Int.{ints}
use Rattle.std.proofs.lemmas.Bool.{and_parts as both_true, or_parts as neither, and_cases, or_cases, both_ways, false_from_ne_true}
use Rattle.vcp_base.specs.declared.kind.Kind.{Kind}
use Rattle.vcp_base.specs.declared.kind.Kind.TheVariants as kind
use Rattle.vcp_base.specs.Kinds.{operands, value, truth, same, divides_by_zero}
use Rattle.vcp_base.specs.Values.{at}
use Rattle.op_graph.specs.declared.op.Op.{Op}
use Rattle.op_graph.specs.GraphRun.{own, read, outcome_of}
use Rattle.range_walk.specs.Walking.{Taken, Said, Parts, Compares, ReadsEarlier, reads_earlier}
use Rattle.range_walk.proofs.Outcomes.{ok_says}
use Rattle.range_walk.proofs.ValueBounds.{same_is, is_same}

-- ---- truths

pub said_true : (b : Bool) → truth b ≡ pos 1 → b ≡ true
said_true true h = refl
said_true false h = absurd cc

pub said_false : (b : Bool) → truth b ≢ pos 1 → b ≡ false
said_false true h = absurd (h refl)
said_false false h = refl

-- what a truth says where it is 0 or 1
pub taken_said : (t : Bool) (v : ℤ) → (v ≡ pos 0) ⊎ (v ≡ pos 1) → Taken t v → Said t v
taken_said true v (inl zero) h = absurd (h zero)
taken_said true v (inr one) h = one
taken_said false v zero_or_one h = λ one. let no : pos 0 ≡ pos 1 = sym h ∙ one in absurd cc

-- ---- joined conditions

other_than : (x k : ℤ) → same x k ≡ false → x ≢ k
other_than x k h e = both_ways (same x k) h (is_same x k e)

pub parts_map : {P Q R S : Type 0} (b : Bool) → (P → R) → (Q → S) → Parts b P Q → Parts b R S
parts_map true f g (p, q) = (f p, g q)
parts_map false f g (inl p) = inl (f p)
parts_map false f g (inr q) = inr (g q)

pub in_one : {P Q R : Type 0} → P ⊎ Q → (P → R) → (Q → R) → R
in_one (inl p) f g = f p
in_one (inr q) f g = g q

pub and_parts : (t : Bool) (x y : ℤ) → Said t (truth (same x (pos 1) && same y (pos 1))) → Parts t (Said t x) (Said t y)
and_parts true x y h =
    let both = said_true (same x (pos 1) && same y (pos 1)) h in
    (same_is x (pos 1) (both_true (same x (pos 1)) (same y (pos 1)) both).0, same_is y (pos 1) (both_true (same x (pos 1)) (same y (pos 1)) both).1)
and_parts false x y h =
    parts_map {P = same x (pos 1) ≡ false} {Q = same y (pos 1) ≡ false} false (other_than x (pos 1)) (other_than y (pos 1))
    (and_cases (same x (pos 1)) (same y (pos 1)) (said_false (same x (pos 1) && same y (pos 1)) h))

pub or_parts : (t : Bool) (x y : ℤ) → Said t (truth (same x (pos 1) || same y (pos 1))) → Parts (not t) (Said t x) (Said t y)
or_parts true x y h =
    parts_map {P = same x (pos 1) ≡ true} {Q = same y (pos 1) ≡ true} false (same_is x (pos 1)) (same_is y (pos 1))
    (or_cases (same x (pos 1)) (same y (pos 1)) (said_true (same x (pos 1) || same y (pos 1)) h))
or_parts false x y h =
    parts_map {P = same x (pos 1) ≡ false} {Q = same y (pos 1) ≡ false} true (other_than x (pos 1)) (other_than y (pos 1))
    (neither (same x (pos 1)) (same y (pos 1)) (said_false (same x (pos 1) || same y (pos 1)) h))

denied : (t : Bool) (x : ℤ) → (x ≡ pos 0) ⊎ (x ≡ pos 1) → Said t (pos 1 -ℤ x) → Said (not t) x
denied true x zero_or_one h = λ e. let no : pos 1 -ℤ pos 1 ≡ pos 1 = ap (λ v. pos 1 -ℤ v) (sym e) ∙ h in absurd cc
denied false x (inl zero) h = absurd (h (ap (λ v. pos 1 -ℤ v) zero))
denied false x (inr one) h = one

pub twice_negated : (x : ℤ) → neg_ℤ (neg_ℤ x) ≡ x
twice_negated x = omega (arith, ints)

pub twice_by : (y x : ℤ) → neg_ℤ y ≡ x → y ≡ neg_ℤ x
twice_by y x e = sym (twice_negated y) ∙ ap neg_ℤ e

-- ---- operations of a cycle

-- the value of a kind over these operations
abbrev over : List ℤ → List ℤ → List ℤ → Op → Kind → ℤ
over held row vs op k =
    value k (own row k op.imm) (cond (nat_lt 0 (operands k)) (read held vs k op.imm op.a) (pos 0))
    (cond (nat_lt 1 (operands k)) (read held vs k op.imm op.b) (pos 0))
    (cond (nat_lt 2 (operands k)) (read held vs k op.imm op.c) (pos 0))

module _ (held row vs : List ℤ) (op : Op) (c : ℕ) (e : outcome_of held row (take c vs) op ≡ Ok (at vs c)) (early : ReadsEarlier c op) where
  valued : (k : Kind) → op.kind ≡ k → at vs c ≡ over held row (take c vs) op k
  valued k is =
      let here : over held row (take c vs) op op.kind ≡ at vs c = (ok_says _ _ _ _ (at vs c) e).2 in sym here ∙ ap (λ j. over held row (take c vs) op j) is

  -- the operands' values at their places in the cycle
  first : (k : Kind) → op.kind ≡ k → reads_earlier k 0 ≡ true → at (take c vs) op.a ≡ at vs op.a
  first k is reads = get_or-take c vs op.a (pos 0) (early.first (ap (λ j. reads_earlier j 0) is ∙ reads))

  earlier : (k : Kind) → op.kind ≡ k → reads_earlier k 0 ≡ true → reads_earlier k 1 ≡ true → (f : ℤ → ℤ → ℤ)
      → f (at (take c vs) op.a) (at (take c vs) op.b) ≡ f (at vs op.a) (at vs op.b)
  earlier k is a b f =
      ap (λ x. f x (at (take c vs) op.b)) (first k is a)
      ∙ ap (λ y. f (at vs op.a) y) (get_or-take c vs op.b (pos 0) (early.second (ap (λ j. reads_earlier j 1) is ∙ b)))

  -- what a comparison gives, and its value over these operands
  pub compares : Compares op.kind
      → (b : Bool) × (at vs c ≡ truth b) × (value op.kind op.imm (at vs op.a) (at vs op.b) (at vs op.b) ≡ truth b)
      × (divides_by_zero op.kind (at vs op.b) ≡ false)
  compares (inl is) = (
    int_lt (at vs op.a) (at vs op.b),
    valued kind.Lt is ∙ earlier kind.Lt is refl refl (λ x y. truth (int_lt x y)),
    subst (λ k. value k op.imm (at vs op.a) (at vs op.b) (at vs op.b) ≡ truth (int_lt (at vs op.a) (at vs op.b))) (sym is) refl,
    subst (λ k. divides_by_zero k (at vs op.b) ≡ false) (sym is) refl,
  )
  compares (inr is) = (
    same (at vs op.a) (at vs op.b),
    valued kind.Eq is ∙ earlier kind.Eq is refl refl (λ x y. truth (same x y)),
    subst (λ k. value k op.imm (at vs op.a) (at vs op.b) (at vs op.b) ≡ truth (same (at vs op.a) (at vs op.b))) (sym is) refl,
    subst (λ k. divides_by_zero k (at vs op.b) ≡ false) (sym is) refl,
  )

  pub negation : (t : Bool) → op.kind ≡ kind.Not → (at vs op.a ≡ pos 0) ⊎ (at vs op.a ≡ pos 1) → Said t (at vs c) → Said (not t) (at vs op.a)
  negation t is zero_or_one said =
      denied t (at vs op.a) zero_or_one (subst (λ v. Said t v) (valued kind.Not is ∙ ap (λ x. pos 1 -ℤ x) (first kind.Not is refl)) said)

  pub conjunction : (t : Bool) → op.kind ≡ kind.And → Said t (at vs c) → Parts t (Said t (at vs op.a)) (Said t (at vs op.b))
  conjunction t is said =
      and_parts t (at vs op.a) (at vs op.b)
      (subst (λ v. Said t v) (valued kind.And is ∙ earlier kind.And is refl refl (λ x y. truth (same x (pos 1) && same y (pos 1)))) said)

  pub disjunction : (t : Bool) → op.kind ≡ kind.Or → Said t (at vs c) → Parts (not t) (Said t (at vs op.a)) (Said t (at vs op.b))
  disjunction t is said =
      or_parts t (at vs op.a) (at vs op.b)
      (subst (λ v. Said t v) (valued kind.Or is ∙ earlier kind.Or is refl refl (λ x y. truth (same x (pos 1) || same y (pos 1)))) said)

  pub opposite : op.kind ≡ kind.Neg → neg_ℤ (at vs c) ≡ at vs op.a
  opposite is =
      let e : at vs c ≡ neg_ℤ (at vs op.a) = valued kind.Neg is ∙ ap neg_ℤ (first kind.Neg is refl) in ap neg_ℤ e ∙ twice_negated (at vs op.a)

  pub selection : op.kind ≡ kind.Sel → at vs c ≡ cond (same (at vs op.a) (pos 0)) (at vs op.b) (at vs op.c)
  selection is =
      valued kind.Sel is
      ∙ earlier kind.Sel is refl refl (λ x y. cond (same x (pos 0)) y (at (take c vs) op.c))
      ∙ ap (λ z. cond (same (at vs op.a) (pos 0)) (at vs op.b) z) (get_or-take c vs op.c (pos 0) (early.third (ap (λ j. reads_earlier j 2) is)))

-- what is chosen
pub chosen_no : (x y z v : ℤ) → v ≡ cond (same x (pos 0)) y z → x ≡ pos 0 → v ≡ y
chosen_no x y z v e zero = e ∙ ap (λ t. cond t y z) (is_same x (pos 0) zero)

pub chosen_yes : (x y z v : ℤ) → v ≡ cond (same x (pos 0)) y z → x ≢ pos 0 → v ≡ z
chosen_yes x y z v e other = e ∙ ap (λ t. cond t y z) (false_from_ne_true (same x (pos 0)) (λ t. other (same_is x (pos 0) t)))

-- 0 isn't 1
pub not_one : (x : ℤ) → x ≡ pos 0 → x ≢ pos 1
not_one x zero one = let no : pos 0 ≡ pos 1 = sym zero ∙ one in absurd cc

pub not_zero : (x : ℤ) → x ≡ pos 1 → x ≢ pos 0
not_zero x one zero = let no : pos 0 ≡ pos 1 = sym zero ∙ one in absurd cc
