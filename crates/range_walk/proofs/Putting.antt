-- Putting: a range that is put in its place, and what an operation reads in a whole cycle.
use Rattle.std.proofs.Common.{◌≡◌, ℕ, zero, suc, ◌<◌, ◌≤◌, ◌⊎◌, inl, inr, ℤ, pos, Bool, true, false, cond, List, [], ◌∷◌, length, take, slice_get, slice_set, Some, Ok, refl, sym, ap, subst, nat_lt, get_or-take, arith}
use Rattle.vcp_base.specs.declared.kind.Kind.{Kind}
use Rattle.vcp_base.specs.declared.kind.Kind.TheVariants as kind
use Rattle.vcp_base.specs.Kinds.{operands, value, divides_by_zero}
use Rattle.vcp_base.specs.Values.{at}
use Rattle.op_graph.specs.declared.op.Op.{Op}
use Rattle.op_graph.specs.GraphRun.{own, read, operand, outcome_of}
use Rattle.range_walk.specs.declared.range.Range.{Range}
use Rattle.range_walk.specs.Intervals.{IsIn, Fit}
use Rattle.range_walk.specs.Walking.{OperandIs, OperandsAre}
use Rattle.range_walk.proofs.Outcomes.{ok_says}
use Rattle.range_walk.proofs.Operands.{read_other}
use Rattle.range_walk.proofs.Steps.{fit_front}

-- ---- lists

set_cases : {X : Type 0} (xs : List X) (n k : ℕ) (x y : X) → slice_get (slice_set xs n x) k ≡ Some y → ((k ≡ n) × (x ≡ y)) ⊎ (slice_get xs k ≡ Some y)
set_cases [] n k x y e = inr e
set_cases (z ∷ xs) zero zero x y e = let same : x ≡ y = cc in inl (refl, same)
set_cases (z ∷ xs) zero (suc k) x y e = inr e
set_cases (z ∷ xs) (suc n) zero x y e = inr e
set_cases (z ∷ xs) (suc n) (suc k) x y e = elim (set_cases xs n k x y e) [ inl p ↦ inl (ap suc p.0, p.1) | inr o ↦ inr o ]

get_take : {X : Type 0} (xs : List X) (i k : ℕ) (x : X) → slice_get (take i xs) k ≡ Some x → slice_get xs k ≡ Some x
get_take [] zero k x e = absurd cc
get_take [] (suc i) k x e = absurd cc
get_take (y ∷ xs) zero k x e = absurd cc
get_take (y ∷ xs) (suc i) zero x e = e
get_take (y ∷ xs) (suc i) (suc k) x e = get_take xs i k x e

pub fit_set : (ranges : List Range) (n : ℕ) (m : Range) (vs : List ℤ) → Fit ranges vs → IsIn m (at vs n) → Fit (slice_set ranges n m) vs
fit_set ranges n m vs fit here = λ k r lt there.
    elim (set_cases ranges n k m r there) [
      | inl p ↦ subst (λ j. IsIn r (at vs j)) (sym p.0) (subst (λ x. IsIn x (at vs n)) p.1 here)
      | inr o ↦ fit k r lt o
    ]

-- the ranges of the first operations
pub fit_take : (ranges : List Range) (i : ℕ) (vs : List ℤ) → Fit ranges vs → Fit (take i ranges) vs
fit_take ranges i vs fit = λ k r lt there. fit k r lt (get_take ranges i k r there)

-- the ranges and the values of the first operations
pub fit_first : (ranges : List Range) (vs : List ℤ) (i : ℕ) → i < length vs → Fit ranges vs → Fit (take i ranges) (take i vs)
fit_first ranges vs i lt fit = λ k r below there. fit_front ranges vs i lt fit k r below (get_take ranges i k r there)

-- ---- operands

operand_more : (cells count more : ℕ) (k : Kind) (imm : ℤ) (n : ℕ) → count ≤ more → OperandIs cells count k imm n → OperandIs cells more k imm n
operand_more cells count more kind.Load imm n le h = h
operand_more cells count more _ imm n le h = omega (arith, le, h)

pub operands_there : (stores cells i count : ℕ) (op : Op) → OperandsAre stores i op → cells ≡ stores → i ≤ count → OperandsAre cells count op
operands_there stores cells i count op are many le = rw many (record {
  first = λ h. operand_more stores i count op.kind op.imm op.a le (are.first h);
  second = λ h. operand_more stores i count op.kind op.imm op.b le (are.second h);
  third = λ h. operand_more stores i count op.kind op.imm op.c le (are.third h);
})

read_front : (held vs : List ℤ) (cells i : ℕ) (k : Kind) (imm : ℤ) (n : ℕ) → OperandIs cells i k imm n → read held (take i vs) k imm n ≡ read held vs k imm n
read_front held vs cells i kind.Load imm n h = refl
read_front held vs cells i _ imm n h = get_or-take i vs n (pos 0) h

front_by : (b : Bool) (x y : ℤ) → (b ≡ true → x ≡ y) → cond b x (pos 0) ≡ cond b y (pos 0)
front_by true x y h = h refl
front_by false x y h = refl

operand_front : (held vs : List ℤ) (cells i : ℕ) (op : Op) (j n : ℕ) → (nat_lt j (operands op.kind) ≡ true → OperandIs cells i op.kind op.imm n)
    → operand held (take i vs) op j n ≡ operand held vs op j n
operand_front held vs cells i op j n h =
    front_by (nat_lt j (operands op.kind)) (read held (take i vs) op.kind op.imm n) (read held vs op.kind op.imm n)
    (λ has. read_front held vs cells i op.kind op.imm n (h has))

-- the value of an operation in a whole cycle, over what it reads there
pub whole_value : (held row vs : List ℤ) (i : ℕ) (op : Op) (cells : ℕ) (r : Range) → outcome_of held row (take i vs) op ≡ Ok (at vs i) → OperandsAre cells i op
    → IsIn r (at vs i)
    → IsIn r (value op.kind (own row op.kind op.imm) (operand held vs op 0 op.a) (operand held vs op 1 op.b) (operand held vs op 2 op.c))
whole_value held row vs i op cells r e are here =
    let V : ℤ → ℤ → ℤ → ℤ = λ x y z. value op.kind (own row op.kind op.imm) x y z in
    let x = operand_front held vs cells i op 0 op.a are.first in
    let y = operand_front held vs cells i op 1 op.b are.second in
    let z = operand_front held vs cells i op 2 op.c are.third in
    let front : V (operand held (take i vs) op 0 op.a) (operand held (take i vs) op 1 op.b) (operand held (take i vs) op 2 op.c) ≡ at vs i =
    (ok_says _ _ _ _ (at vs i) e).2 in
    subst (λ w. IsIn r (V (operand held vs op 0 op.a) (operand held vs op 1 op.b) w)) z
    (subst (λ w. IsIn r (V (operand held vs op 0 op.a) w (operand held (take i vs) op 2 op.c))) y
    (subst (λ w. IsIn r (V w (operand held (take i vs) op 1 op.b) (operand held (take i vs) op 2 op.c))) x (subst (λ w. IsIn r w) (sym front) here)))

-- in a whole cycle no divisor is 0
pub whole_divisor : (held row vs : List ℤ) (i : ℕ) (op : Op) (cells : ℕ) → outcome_of held row (take i vs) op ≡ Ok (at vs i) → OperandsAre cells i op
    → divides_by_zero op.kind (operand held vs op 1 op.b) ≡ false
whole_divisor held row vs i op cells e are =
    let y = operand_front held vs cells i op 1 op.b are.second in
    let front : divides_by_zero op.kind (operand held (take i vs) op 1 op.b) ≡ false = (ok_says _ _ _ _ (at vs i) e).0 in
    subst (λ w. divides_by_zero op.kind w ≡ false) y front

-- an operand that is an operation
pub operand_at : (r : Range) (held vs : List ℤ) (op : Op) (j n : ℕ) → nat_lt j (operands op.kind) ≡ true → (op.kind ≡ kind.Load → ⊥)
    → IsIn r (operand held vs op j n) → IsIn r (at vs n)
operand_at r held vs op j n has other i =
    subst (λ v. IsIn r v) (read_other held vs op.kind op.imm n other) (subst (λ b. IsIn r (cond b (read held vs op.kind op.imm n) (pos 0))) has i)
