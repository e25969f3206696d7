-- What an operation gives, from what its kind says of the operands and of the value.
use Rattle.std.proofs.Common.{refl, ◌≡◌, Bool, true, false, cond, ◌&&◌, ℤ, pos, ap, sym, ◌∙◌, Ok, Err, nat_lt}
use Rattle.vcp_base.specs.declared.ty.Ty.{Ty}
use Rattle.vcp_base.specs.declared.kind.Kind.{Kind}
use Rattle.vcp_base.specs.declared.kind.Kind.TheVariants as kind
use Rattle.vcp_base.specs.declared.kind.StopKind.TheVariants as stop
use Rattle.vcp_base.specs.Types.{fits}
use Rattle.vcp_base.specs.Kinds.{same, value, operands, takes, operands_fit, divides_by_zero, outcome, outcome_at}

pub and_true : (x : Bool) → x ≡ (x && true)
and_true true = refl
and_true false = refl

pub and_more : (x y z : Bool) → (x && (y && z)) ≡ (x && y && z)
and_more true y z = refl
and_more false y z = refl

-- a kind that divides by no zero
pub told_is : (k j : Kind) (from to : Ty) (imm a b c : ℤ) (fit : Bool) (v : ℤ) → k ≡ j → fit ≡ operands_fit j from a b c
    → divides_by_zero j b ≡ false → v ≡ value j imm a b c → outcome_at to fit v ≡ outcome k from to imm a b c
told_is k j from to imm a b c fit v is e f g =
    ap (λ x. outcome_at to x v) e
    ∙ ap (outcome_at to (operands_fit j from a b c)) g
    ∙ sym (ap (λ d. cond (operands_fit j from a b c)
    (cond d (Err stop.DivZero) (cond (fits to (value j imm a b c)) (Ok (value j imm a b c)) (Err stop.Range))) (Err stop.Operand)) f)
    ∙ sym (ap (λ i. outcome i from to imm a b c) is)

-- the value is asked for only where the divisor is not 0
divisor : (z : Bool) (to : Ty) (v w : ℤ) → (z ≡ false → v ≡ w)
    → cond z (Err stop.DivZero) (outcome_at to true v) ≡ cond z (Err stop.DivZero) (outcome_at to true w)
divisor true to v w e = refl
divisor false to v w e = ap (outcome_at to true) (e refl)

-- a kind that divides
pub divided_is : (k j : Kind) (from to : Ty) (imm a b c : ℤ) (fit : Bool) (v : ℤ) → k ≡ j → fit ≡ operands_fit j from a b c
    → divides_by_zero j b ≡ same b (pos 0) → (same b (pos 0) ≡ false → v ≡ value j imm a b c)
    → cond fit (cond (same b (pos 0)) (Err stop.DivZero) (outcome_at to true v)) (Err stop.Operand) ≡ outcome k from to imm a b c
divided_is k j from to imm a b c fit v is e f g =
    ap (λ x. cond x (cond (same b (pos 0)) (Err stop.DivZero) (outcome_at to true v)) (Err stop.Operand)) e
    ∙ ap (λ r. cond (operands_fit j from a b c) r (Err stop.Operand)) (divisor (same b (pos 0)) to v (value j imm a b c) g)
    ∙ sym (ap (λ d. cond (operands_fit j from a b c)
    (cond d (Err stop.DivZero) (cond (fits to (value j imm a b c)) (Ok (value j imm a b c)) (Err stop.Range))) (Err stop.Operand)) f)
    ∙ sym (ap (λ i. outcome i from to imm a b c) is)

-- an operation of which one operand is outside its type
unfit : (k : Kind) (from to : Ty) (imm a b c : ℤ) → operands_fit k from a b c ≡ false → Err stop.Operand ≡ outcome k from to imm a b c
unfit k from to imm a b c e =
    sym (ap (λ f. cond f
    (cond (divides_by_zero k b) (Err stop.DivZero) (cond (fits to (value k imm a b c)) (Ok (value k imm a b c)) (Err stop.Range)))
    (Err stop.Operand)) e)

second_false : (x y z : Bool) → y ≡ false → (x && y && z) ≡ false
second_false true y z e = ap (λ t. t && z) e
second_false false y z e = refl

third_false : (x y z : Bool) → z ≡ false → (x && y && z) ≡ false
third_false true true z e = e
third_false true false z e = refl
third_false false y z e = refl

pub unfit_first : (k : Kind) (from to : Ty) (imm a b c : ℤ) → takes k 0 from a ≡ false → Err stop.Operand ≡ outcome k from to imm a b c
unfit_first k from to imm a b c e = unfit k from to imm a b c (ap (λ t. t && takes k 1 from b && takes k 2 from c) e)

pub unfit_second : (k : Kind) (from to : Ty) (imm a b c : ℤ) → takes k 1 from b ≡ false → Err stop.Operand ≡ outcome k from to imm a b c
unfit_second k from to imm a b c e = unfit k from to imm a b c (second_false (takes k 0 from a) (takes k 1 from b) (takes k 2 from c) e)

pub unfit_third : (k : Kind) (from to : Ty) (imm a b c : ℤ) → takes k 2 from c ≡ false → Err stop.Operand ≡ outcome k from to imm a b c
unfit_third k from to imm a b c e = unfit k from to imm a b c (third_false (takes k 0 from a) (takes k 1 from b) (takes k 2 from c) e)

-- an operation reads no more operands than its kind has
pub reads_alone : (k : Kind) (from to : Ty) (imm a b c x y z : ℤ) → (nat_lt 0 (operands k) ≡ true → x ≡ a)
    → (nat_lt 1 (operands k) ≡ true → y ≡ b) → (nat_lt 2 (operands k) ≡ true → z ≡ c)
    → outcome k from to imm x y z ≡ outcome k from to imm a b c
reads_alone kind.Input from to imm a b c x y z e f g = refl
reads_alone kind.Const from to imm a b c x y z e f g = refl
reads_alone kind.Load from to imm a b c x y z e f g = λ i. outcome kind.Load from to imm (e refl i) b c
reads_alone kind.Store from to imm a b c x y z e f g = λ i. outcome kind.Store from to imm (e refl i) b c
reads_alone kind.Out from to imm a b c x y z e f g = λ i. outcome kind.Out from to imm (e refl i) b c
reads_alone kind.Conv from to imm a b c x y z e f g = λ i. outcome kind.Conv from to imm (e refl i) b c
reads_alone kind.Neg from to imm a b c x y z e f g = λ i. outcome kind.Neg from to imm (e refl i) b c
reads_alone kind.Not from to imm a b c x y z e f g = λ i. outcome kind.Not from to imm (e refl i) b c
reads_alone kind.Add from to imm a b c x y z e f g = λ i. outcome kind.Add from to imm (e refl i) (f refl i) c
reads_alone kind.Sub from to imm a b c x y z e f g = λ i. outcome kind.Sub from to imm (e refl i) (f refl i) c
reads_alone kind.Mul from to imm a b c x y z e f g = λ i. outcome kind.Mul from to imm (e refl i) (f refl i) c
reads_alone kind.Div from to imm a b c x y z e f g = λ i. outcome kind.Div from to imm (e refl i) (f refl i) c
reads_alone kind.Mod from to imm a b c x y z e f g = λ i. outcome kind.Mod from to imm (e refl i) (f refl i) c
reads_alone kind.Eq from to imm a b c x y z e f g = λ i. outcome kind.Eq from to imm (e refl i) (f refl i) c
reads_alone kind.Lt from to imm a b c x y z e f g = λ i. outcome kind.Lt from to imm (e refl i) (f refl i) c
reads_alone kind.And from to imm a b c x y z e f g = λ i. outcome kind.And from to imm (e refl i) (f refl i) c
reads_alone kind.Or from to imm a b c x y z e f g = λ i. outcome kind.Or from to imm (e refl i) (f refl i) c
reads_alone kind.Xor from to imm a b c x y z e f g = λ i. outcome kind.Xor from to imm (e refl i) (f refl i) c
reads_alone kind.Sel from to imm a b c x y z e f g = λ i. outcome kind.Sel from to imm (e refl i) (f refl i) (g refl i)
