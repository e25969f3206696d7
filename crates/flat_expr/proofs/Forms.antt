-- Forms: the operation of an operator gives the operator's value.
use Rattle.std.proofs.Common.{◌≡◌, ℕ, ◌≤◌, Bool, true, false, pos, Some, Ok, Result, IfOk, refl, sym, ap, subst, arith}
use Rattle.std.proofs.lemmas.Result.{IfOk-weaker}
use Rattle.std.specs.Prelude.{int_lt, int_le, not, ◌&&◌, ◌||◌}
use Rattle.vcp_base.specs.declared.kind.Kind.{Kind}
use Rattle.vcp_base.specs.declared.kind.Kind.TheVariants as kind
use Rattle.vcp_base.specs.declared.spot.Spot.{Spot}
use Rattle.vcp_base.specs.declared.ty.Ty.{Ty}
use Rattle.vcp_base.specs.declared.ty.Ty.TheVariants as ty
use Rattle.vcp_base.specs.Kinds.{same, truth}
use Rattle.vcp_base.specs.Values.{at}
use Rattle.st_tree.specs.declared.expr.BinOp.{BinOp}
use Rattle.st_tree.specs.declared.expr.BinOp.TheVariants as bin
use Rattle.op_graph.specs.Rules.{is_number, types_fit}
use Rattle.op_graph.specs.declared.build.Build.{Build}
use Rattle.vcp_typed.specs.Rules.{common, joined, both_bool, result as result_type}
use Rattle.vcp_typed.specs.Size.{operator_size}
use Rattle.flat_expr.specs.declared.op_form.Manner.TheVariants as manner
use Rattle.flat_expr.specs.Forms.{manner_of, kind_of, left, right}
use Rattle.flat_expr.specs.State.{State, Makes, acts, denies, divides, guards, is_arithmetic, is_comparison, operates}
use Rattle.flat_expr.proofs.Operators.{total_step, compare_is, truth_is, not_less}
use Rattle.flat_expr.proofs.Ops.{OfTwo, comparison_of_two, less_types}

number_of : (t : Ty) → joined t t ≡ Some t → is_number t ≡ true
number_of ty.Bool h = absurd cc
number_of ty.Int h = refl
number_of ty.Dint h = refl
number_of ty.Lint h = refl

bool_of : (t : Ty) → both_bool t t ≡ Some t → t ≡ ty.Bool
bool_of ty.Bool h = refl
bool_of ty.Int h = absurd cc
bool_of ty.Dint h = absurd cc
bool_of ty.Lint h = absurd cc

-- what holds of both operands holds of them in either order
pub of_left : (P : ℕ → Type 0) (op : BinOp) (a b : ℕ) → P a → P b → P (left op a b)
of_left P bin.Gt a b pa pb = pb
of_left P bin.Le a b pa pb = pb
of_left P _ a b pa pb = pa

pub of_right : (P : ℕ → Type 0) (op : BinOp) (a b : ℕ) → P a → P b → P (right op a b)
of_right P bin.Gt a b pa pb = pa
of_right P bin.Le a b pa pb = pa
of_right P _ a b pa pb = pb

-- no operator has less room than its operations
pub room : (op : BinOp) → 3 ≤ operator_size op
room bin.Le = omega arith
room bin.Ge = omega arith
room bin.Ne = omega arith
room _ = omega arith

-- ---- what the operations require

pub record Masks (k : Kind) (one : Bool) (t : Ty) : Type 0 where
  pub arithmetic : is_arithmetic k ≡ true
  pub divisor : divides k ≡ one
  pub number : is_number t ≡ true

pub masks : (op : BinOp) (one : Bool) (t : Ty) → manner.Masked one ≡ manner_of op → common op t t ≡ Some t → Masks (kind_of op) one t
masks bin.Mul one t is h = record { arithmetic = refl; divisor = let e : one ≡ false = cc in sym e; number = number_of t h }
masks bin.Div one t is h = record { arithmetic = refl; divisor = let e : one ≡ true = cc in sym e; number = number_of t h }
masks bin.Mod one t is h = record { arithmetic = refl; divisor = let e : one ≡ true = cc in sym e; number = number_of t h }
masks bin.Add one t is h = record { arithmetic = refl; divisor = let e : one ≡ false = cc in sym e; number = number_of t h }
masks bin.Sub one t is h = record { arithmetic = refl; divisor = let e : one ≡ false = cc in sym e; number = number_of t h }
masks _ one t is h = absurd cc

of_logic : (k : Kind) (t : Ty) → t ≡ ty.Bool → OfTwo k ty.Bool ty.Bool → OfTwo k t ty.Bool
of_logic k t is two = subst (λ u. OfTwo k u ty.Bool) (sym is) two

pub alone : (op : BinOp) (t : Ty) → manner.Alone ≡ manner_of op → common op t t ≡ Some t → OfTwo (kind_of op) t ty.Bool
alone bin.Lt t is h = comparison_of_two kind.Lt t refl (less_types t (number_of t h))
alone bin.Gt t is h = comparison_of_two kind.Lt t refl (less_types t (number_of t h))
alone bin.Eq t is h = comparison_of_two kind.Eq t refl refl
alone bin.And t is h = of_logic kind.And t (bool_of t h) (record { plain = refl; types = refl; reads = λ ops a b ha hb. (ha, hb, refl) })
alone bin.Or t is h = of_logic kind.Or t (bool_of t h) (record { plain = refl; types = refl; reads = λ ops a b ha hb. (ha, hb, refl) })
alone bin.Xor t is h = of_logic kind.Xor t (bool_of t h) (record { plain = refl; types = refl; reads = λ ops a b ha hb. (ha, hb, refl) })
alone _ t is h = absurd cc

pub denied_types : (op : BinOp) (t : Ty) → manner.Denied ≡ manner_of op → common op t t ≡ Some t
    → (is_comparison (kind_of op) ≡ true) × (types_fit (kind_of op) t ty.Bool ≡ true)
denied_types bin.Le t is h = (refl, less_types t (number_of t h))
denied_types bin.Ge t is h = (refl, less_types t (number_of t h))
denied_types bin.Ne t is h = (refl, refl)
denied_types _ t is h = absurd cc

-- ---- what they give

-- the operator's value is given
abbrev pub Gives : State → State → BinOp → Ty → ℕ → ℕ → Spot → ℕ → Type 0
Gives s new op t a b spot k = Makes s new (result_type op t) (operator_size op) (operates s op t a b spot) k

masked_gives : (s new : State) (op : BinOp) (one : Bool) (t : Ty) (a b : ℕ) (spot : Spot) (k : ℕ) → manner.Masked one ≡ manner_of op
    → Makes s new t 3 (guards s (kind_of op) t (left op a b) (right op a b) spot) k → Gives s new op t a b spot k
masked_gives s new bin.Mul one t a b spot k is p = p
masked_gives s new bin.Div one t a b spot k is p = p
masked_gives s new bin.Mod one t a b spot k is p = p
masked_gives s new bin.Add one t a b spot k is p = p
masked_gives s new bin.Sub one t a b spot k is p = p
masked_gives s new _ one t a b spot k is p = absurd cc

alone_gives : (s new : State) (op : BinOp) (t : Ty) (a b : ℕ) (spot : Spot) (k : ℕ) → manner.Alone ≡ manner_of op
    → Makes s new ty.Bool 1 (acts s (kind_of op) ty.Bool (left op a b) (right op a b) 0 spot) k → Gives s new op t a b spot k
alone_gives s new bin.Lt t a b spot k is p =
    total_step s new ty.Bool _ (λ vs. truth (int_lt (at vs a) (at vs b))) 1 3 k (omega arith) (λ now vs types. compare_is s kind.Lt a b spot now vs refl) p
alone_gives s new bin.Gt t a b spot k is p =
    total_step s new ty.Bool _ (λ vs. truth (int_lt (at vs b) (at vs a))) 1 3 k (omega arith) (λ now vs types. compare_is s kind.Lt b a spot now vs refl) p
alone_gives s new bin.Eq t a b spot k is p =
    total_step s new ty.Bool _ (λ vs. truth (same (at vs a) (at vs b))) 1 3 k (omega arith) (λ now vs types. compare_is s kind.Eq a b spot now vs refl) p
alone_gives s new bin.And t a b spot k is p =
    total_step s new ty.Bool _ (λ vs. truth (same (at vs a) (pos 1) && same (at vs b) (pos 1))) 1 3 k (omega arith)
    (λ now vs types. truth_is s (same (at vs a) (pos 1) && same (at vs b) (pos 1)) spot) p
alone_gives s new bin.Or t a b spot k is p =
    total_step s new ty.Bool _ (λ vs. truth (same (at vs a) (pos 1) || same (at vs b) (pos 1))) 1 3 k (omega arith)
    (λ now vs types. truth_is s (same (at vs a) (pos 1) || same (at vs b) (pos 1)) spot) p
alone_gives s new bin.Xor t a b spot k is p =
    total_step s new ty.Bool _ (λ vs. truth (not (same (at vs a) (at vs b)))) 1 3 k (omega arith)
    (λ now vs types. truth_is s (not (same (at vs a) (at vs b))) spot) p
alone_gives s new _ t a b spot k is p = absurd cc

denied_gives : (s new : State) (op : BinOp) (t : Ty) (a b : ℕ) (spot : Spot) (k : ℕ) → manner.Denied ≡ manner_of op
    → Makes s new ty.Bool 2 (denies (kind_of op) (left op a b) (right op a b)) k → Gives s new op t a b spot k
denied_gives s new bin.Le t a b spot k is p =
    total_step s new ty.Bool _ (λ vs. truth (int_le (at vs a) (at vs b))) 2 4 k (omega arith)
    (λ now vs types. ap (λ c. Ok (Some (truth c))) (not_less (at vs a) (at vs b))) p
denied_gives s new bin.Ge t a b spot k is p =
    total_step s new ty.Bool _ (λ vs. truth (int_le (at vs b) (at vs a))) 2 4 k (omega arith)
    (λ now vs types. ap (λ c. Ok (Some (truth c))) (not_less (at vs b) (at vs a))) p
denied_gives s new bin.Ne t a b spot k is p =
    total_step s new ty.Bool _ (λ vs. truth (not (same (at vs a) (at vs b)))) 2 4 k (omega arith) (λ now vs types. refl) p
denied_gives s new _ t a b spot k is p = absurd cc

-- what holds of a kind and operands that are those of the operator
at_form : (P : Kind → ℕ → ℕ → Type 0) (op : BinOp) (a b x y : ℕ) (k : Kind) → k ≡ kind_of op → x ≡ left op a b → y ≡ right op a b → P k x y
    → P (kind_of op) (left op a b) (right op a b)
at_form P op a b x y k is is_x is_y h =
    subst (λ z. P (kind_of op) (left op a b) z) is_y (subst (λ z. P (kind_of op) z y) is_x (subst (λ z. P z x y) is h))

pub masked_made : (s new : State) (op : BinOp) (one : Bool) (t : Ty) (a b x y : ℕ) (k : Kind) (spot : Spot) (r : Result ℕ Build) → k ≡ kind_of op
    → x ≡ left op a b → y ≡ right op a b → manner.Masked one ≡ manner_of op → IfOk r (λ j. Makes s new t 3 (guards s k t x y spot) j)
    → IfOk r (Gives s new op t a b spot)
masked_made s new op one t a b x y k spot r is is_x is_y how made = IfOk-weaker r _ _ (λ j p. masked_gives s new op one t a b spot j how
    (at_form (λ l u v. Makes s new t 3 (guards s l t u v spot) j) op a b x y k is is_x is_y p)) made

pub alone_made : (s new : State) (op : BinOp) (t : Ty) (a b x y : ℕ) (k : Kind) (spot : Spot) (r : Result ℕ Build) → k ≡ kind_of op
    → x ≡ left op a b → y ≡ right op a b → manner.Alone ≡ manner_of op → IfOk r (λ j. Makes s new ty.Bool 1 (acts s k ty.Bool x y 0 spot) j)
    → IfOk r (Gives s new op t a b spot)
alone_made s new op t a b x y k spot r is is_x is_y how made = IfOk-weaker r _ _ (λ j p. alone_gives s new op t a b spot j how
    (at_form (λ l u v. Makes s new ty.Bool 1 (acts s l ty.Bool u v 0 spot) j) op a b x y k is is_x is_y p)) made

pub denied_made : (s new : State) (op : BinOp) (t : Ty) (a b x y : ℕ) (k : Kind) (spot : Spot) (r : Result ℕ Build) → k ≡ kind_of op
    → x ≡ left op a b → y ≡ right op a b → manner.Denied ≡ manner_of op → IfOk r (λ j. Makes s new ty.Bool 2 (denies k x y) j)
    → IfOk r (Gives s new op t a b spot)
denied_made s new op t a b x y k spot r is is_x is_y how made = IfOk-weaker r _ _ (λ j p. denied_gives s new op t a b spot j how
    (at_form (λ l u v. Makes s new ty.Bool 2 (denies l u v) j) op a b x y k is is_x is_y p)) made
