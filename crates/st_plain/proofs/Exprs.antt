-- The values of expressions, part by part.
use Rattle.std.proofs.Common.{◌≡◌, ℕ, zero, suc, ◌≤◌, ◌<◌, ℤ, pos, true, List, [], ◌∷◌, length, get_or, slice_get, Option, Some, None, Result, Ok, Err, refl}
use Rattle.std.proofs.Common.{sym, ap, ◌∙◌, subst, arith}
use Rattle.std.specs.Prelude.{IfOk}
use Rattle.std.proofs.lemmas.Option.{get_or_from_slice_get}
use Rattle.vcp_base.specs.declared.spot.Spot.{Spot}
use Rattle.vcp_base.specs.declared.turns.Turn.{Turn}
use Rattle.vcp_base.specs.declared.ty.Ty.{Ty}
use Rattle.vcp_base.specs.declared.ty.Ty.TheVariants as ty
use Rattle.vcp_base.specs.Types.{fits}
use Rattle.st_tree.specs.declared.expr.UnOp.{UnOp}
use Rattle.st_tree.specs.declared.expr.UnOp.TheVariants as un
use Rattle.st_tree.specs.declared.expr.BinOp.{BinOp}
use Rattle.vcp_typed.specs.declared.expr.Fun.{Fun}
use Rattle.vcp_typed.specs.declared.expr.Fun.TheVariants as fun
use Rattle.vcp_typed.specs.declared.expr.TExpr.{TExpr, Call}
use Rattle.vcp_typed.specs.declared.expr.TExprs.{TExprs}
use Rattle.vcp_typed.specs.declared.slot.Slot.{Slot}
use Rattle.vcp_typed.specs.TExprTree.{TExprTree, TExprTrees, get, widen, unary, binary, call, no_texprs, and_texpr}
use Rattle.vcp_typed.specs.TExprViews.{texpr_tree, texpr_trees}
use Rattle.vcp_typed.specs.Rules.{signed, arguments}
use Rattle.vcp_typed.specs.Checked.{ty_of, tys_of, HasType, IsExpr, AreExprs}
use Rattle.vcp_typed.specs.Fitting.{AreFit}
use Rattle.vcp_typed.specs.Meaning.{Stop, and_then, apply, operate, sign, value, values}
use Rattle.vcp_base.specs.Values.{at}
use Rattle.st_plain.specs.Arguments.{argument_at}
use Rattle.st_plain.specs.Sound.{SoundExpr, SoundExprs}
use Rattle.st_plain.specs.Weight.{expr_weight, exprs_weight}

-- the law that values are in their types
abbrev pub ValuesFit : Type 0
ValuesFit = (slots : List Slot) (e : TExprTree) (turns : List Turn) (m : List ℤ) → IsExpr slots e → AreFit slots m → IfOk (value turns e m)
    (λ v. fits (ty_of e) v ≡ true)

-- ---- slots

pub fit-inside : (slots : List Slot) (m : List ℤ) (n : ℕ) (s : Slot) → slice_get slots n ≡ Some s → AreFit slots m → n < length m
fit-inside [] m n s e h = absurd cc
fit-inside (x ∷ slots) [] n s e h = absurd h
fit-inside (x ∷ slots) (v ∷ m) zero s e h = omega arith
fit-inside (x ∷ slots) (v ∷ m) (suc n) s e h = let k : n < length m = fit-inside slots m n s e h.1 in omega (arith, k)

pub slot-inside : (e : TExprTree) (n : ℕ) (t : Ty) (m : List ℤ) → e ≡ get n t → SoundExpr e m → n < length m
slot-inside e n t m is h =
    let typed : HasType h.slots n t = subst (λ x. IsExpr h.slots x) is h.typed in
    fit-inside h.slots m n typed.0 typed.1 h.fit

pub value-of-slot : (e : TExprTree) (n : ℕ) (t : Ty) (m : List ℤ) (v : ℤ) → e ≡ get n t → slice_get m n ≡ Some v → Ok v ≡ value [] e m
value-of-slot e n t m v is h =
    let read : at m n ≡ v = get_or_from_slice_get m n v (pos 0) h in
    ap (λ x. Ok x) (sym read) ∙ ap (λ x. value [] x m) (sym is)

-- ---- operands

pub widen-sound : (e : TExprTree) (t : Ty) (a : TExprTree) (m : List ℤ) → e ≡ widen t a → SoundExpr e m → SoundExpr a m
widen-sound e t a m is h =
    let typed : IsExpr h.slots (widen t a) = subst (λ x. IsExpr h.slots x) is h.typed in
    record { slots = h.slots; typed = typed.0; fit = h.fit }

pub unary-sound : (e : TExprTree) (op : UnOp) (t : Ty) (a : TExprTree) (s : Spot) (m : List ℤ) → e ≡ unary op t a s → SoundExpr e m → SoundExpr a m
unary-sound e op t a s m is h =
    let typed : IsExpr h.slots (unary op t a s) = subst (λ x. IsExpr h.slots x) is h.typed in
    record { slots = h.slots; typed = typed.0; fit = h.fit }

pub left-sound : (e : TExprTree) (op : BinOp) (t : Ty) (a b : TExprTree) (s : Spot) (m : List ℤ) → e ≡ binary op t a b s → SoundExpr e m → SoundExpr a m
left-sound e op t a b s m is h =
    let typed : IsExpr h.slots (binary op t a b s) = subst (λ x. IsExpr h.slots x) is h.typed in
    record { slots = h.slots; typed = typed.0; fit = h.fit }

pub right-sound : (e : TExprTree) (op : BinOp) (t : Ty) (a b : TExprTree) (s : Spot) (m : List ℤ) → e ≡ binary op t a b s → SoundExpr e m → SoundExpr b m
right-sound e op t a b s m is h =
    let typed : IsExpr h.slots (binary op t a b s) = subst (λ x. IsExpr h.slots x) is h.typed in
    record { slots = h.slots; typed = typed.1; fit = h.fit }

pub unary-stops : (e : TExprTree) (op : UnOp) (t : Ty) (a : TExprTree) (s : Spot) (m : List ℤ) (d : Stop) → e ≡ unary op t a s → Err d ≡ value [] a m
    → Err d ≡ value [] e m
unary-stops e op t a s m d is h = ap (λ r. and_then r (λ x. sign op t s [] x)) h ∙ sym (ap (λ x. value [] x m) is)

pub left-stops : (e : TExprTree) (op : BinOp) (t : Ty) (a b : TExprTree) (s : Spot) (m : List ℤ) (d : Stop) → e ≡ binary op t a b s → Err d ≡ value [] a m
    → Err d ≡ value [] e m
left-stops e op t a b s m d is h =
    ap (λ r. and_then r (λ x. and_then (value [] b m) (λ y. operate op t s [] x y))) h ∙ sym (ap (λ x. value [] x m) is)

pub right-stops : (e : TExprTree) (op : BinOp) (t : Ty) (a b : TExprTree) (s : Spot) (m : List ℤ) (x : ℤ) (d : Stop) → e ≡ binary op t a b s
    → Ok x ≡ value [] a m → Err d ≡ value [] b m → Err d ≡ value [] e m
right-stops e op t a b s m x d is first second =
    ap (λ r. and_then r (λ y. operate op t s [] x y)) second
    ∙ (ap (λ r. and_then r (λ x. and_then (value [] b m) (λ y. operate op t s [] x y))) first ∙ sym (ap (λ x. value [] x m) is))

pub unary-is : (e : TExprTree) (op : UnOp) (t : Ty) (a : TExprTree) (s : Spot) (m : List ℤ) (x : ℤ) → e ≡ unary op t a s → Ok x ≡ value [] a m
    → sign op t s [] x ≡ value [] e m
unary-is e op t a s m x is h = ap (λ r. and_then r (λ x. sign op t s [] x)) h ∙ sym (ap (λ x. value [] x m) is)

pub binary-is : (e : TExprTree) (op : BinOp) (t : Ty) (a b : TExprTree) (s : Spot) (m : List ℤ) (x y : ℤ) → e ≡ binary op t a b s
    → Ok x ≡ value [] a m → Ok y ≡ value [] b m → operate op t s [] x y ≡ value [] e m
binary-is e op t a b s m x y is first second =
    ap (λ r. and_then r (λ y. operate op t s [] x y)) second
    ∙ (ap (λ r. and_then r (λ x. and_then (value [] b m) (λ y. operate op t s [] x y))) first ∙ sym (ap (λ x. value [] x m) is))

-- ---- NOT

bool-signed : (t : Ty) → signed un.Not t ≡ Some t → t ≡ ty.Bool
bool-signed ty.Bool e = refl
bool-signed ty.Int e = absurd cc
bool-signed ty.Dint e = absurd cc
bool-signed ty.Lint e = absurd cc

pub not-operand : ValuesFit → (e : TExprTree) (op : UnOp) (t : Ty) (a : TExprTree) (s : Spot) (m : List ℤ) (v : ℤ) → e ≡ unary op t a s → SoundExpr e m
    → Ok v ≡ value [] a m → op ≡ un.Not → fits ty.Bool v ≡ true
not-operand law e op t a s m v is h r not =
    let typed : IsExpr h.slots (unary op t a s) = subst (λ x. IsExpr h.slots x) is h.typed in
    let fit : IfOk (value [] a m) (λ x. fits (ty_of a) x ≡ true) = law h.slots a [] m typed.0 h.fit in
    let one : fits (ty_of a) v ≡ true = subst (λ x. IfOk x (λ y. fits (ty_of a) y ≡ true)) (sym r) fit in
    let bool : t ≡ ty.Bool = bool-signed t (subst (λ x. signed x t ≡ Some t) not typed.2) in
    subst (λ u. fits u v ≡ true) (typed.1 ∙ bool) one

-- ---- arguments

pub argument-sound : (es : List TExpr) (i : ℕ) (e : TExpr) (m : List ℤ) → i < length es → e ≡ get_or es i e → SoundExprs (texpr_trees es) m
    → SoundExpr (texpr_tree e) m
argument-sound es i e m lt is h = record { slots = h.slots; typed = typed-at h.slots es i e lt is h.typed; fit = h.fit }
  where
    typed-at : (slots : List Slot) (es : List TExpr) (i : ℕ) (e : TExpr) → i < length es → e ≡ get_or es i e → AreExprs slots (texpr_trees es)
        → IsExpr slots (texpr_tree e)
    typed-at slots [] i e lt is h = absurd (omega (arith, lt))
    typed-at slots (x ∷ xs) zero e lt is h = subst (λ y. IsExpr slots (texpr_tree y)) (sym is) h.0
    typed-at slots (x ∷ xs) (suc i) e lt is h = let k : i < length xs = omega (arith, lt) in typed-at slots xs i e k is h.1

pub argument-is : (es : List TExpr) (i : ℕ) (e : TExpr) (m : List ℤ) → i < length es → e ≡ get_or es i e
    → argument_at (texpr_trees es) i m ≡ value [] (texpr_tree e) m
argument-is [] i e m lt is = absurd (omega (arith, lt))
argument-is (x ∷ xs) zero e m lt is = ap (λ y. value [] (texpr_tree y) m) (sym is)
argument-is (x ∷ xs) (suc i) e m lt is = let k : i < length xs = omega (arith, lt) in argument-is xs i e m k is

pub argument-lighter : (es : List TExpr) (i : ℕ) (e : TExpr) → i < length es → e ≡ get_or es i e → expr_weight (texpr_tree e) < exprs_weight (texpr_trees es)
argument-lighter [] i e lt is = absurd (omega (arith, lt))
argument-lighter (x ∷ xs) zero e lt is = let same : expr_weight (texpr_tree e) ≡ expr_weight (texpr_tree x) = ap (λ y. expr_weight (texpr_tree y)) is in
    omega (arith, same)
argument-lighter (x ∷ xs) (suc i) e lt is =
    let k : i < length xs = omega (arith, lt) in
    let h : expr_weight (texpr_tree e) < exprs_weight (texpr_trees xs) = argument-lighter xs i e k is in
    omega (arith, h)

pub argument-none : (es : List TExpr) (i : ℕ) (m : List ℤ) → length es ≤ i → argument_at (texpr_trees es) i m ≡ Ok (pos 0)
argument-none [] i m le = refl
argument-none (x ∷ xs) zero m le = absurd (omega (arith, le))
argument-none (x ∷ xs) (suc i) m le = let k : length xs ≤ i = omega (arith, le) in argument-none xs i m k

-- ---- functions

pub call-sound : (e : TExprTree) (f : Fun) (t : Ty) (es : TExprTrees) (s : Spot) (m : List ℤ) → e ≡ call f t es s → SoundExpr e m → SoundExprs es m
call-sound e f t es s m is h =
    let typed : IsExpr h.slots (call f t es s) = subst (λ x. IsExpr h.slots x) is h.typed in
    record { slots = h.slots; typed = typed.0; fit = h.fit }

-- at most three types
abbrev Few : Option (List Ty) → Type 0
Few None = Unit {0}
Few (Some ts) = length ts ≤ 3

few-arguments : (f : Fun) (t : Ty) → Few (arguments f t)
few-arguments fun.Abs ty.Bool = tt
few-arguments fun.Abs ty.Int = omega arith
few-arguments fun.Abs ty.Dint = omega arith
few-arguments fun.Abs ty.Lint = omega arith
few-arguments fun.Min ty.Bool = tt
few-arguments fun.Min ty.Int = omega arith
few-arguments fun.Min ty.Dint = omega arith
few-arguments fun.Min ty.Lint = omega arith
few-arguments fun.Max ty.Bool = tt
few-arguments fun.Max ty.Int = omega arith
few-arguments fun.Max ty.Dint = omega arith
few-arguments fun.Max ty.Lint = omega arith
few-arguments fun.Limit ty.Bool = tt
few-arguments fun.Limit ty.Int = omega arith
few-arguments fun.Limit ty.Dint = omega arith
few-arguments fun.Limit ty.Lint = omega arith
few-arguments fun.Sel t = omega arith
few-arguments fun.IntToDint ty.Bool = tt
few-arguments fun.IntToDint ty.Int = tt
few-arguments fun.IntToDint ty.Dint = omega arith
few-arguments fun.IntToDint ty.Lint = tt
few-arguments fun.IntToLint ty.Bool = tt
few-arguments fun.IntToLint ty.Int = tt
few-arguments fun.IntToLint ty.Dint = tt
few-arguments fun.IntToLint ty.Lint = omega arith
few-arguments fun.DintToInt ty.Bool = tt
few-arguments fun.DintToInt ty.Int = omega arith
few-arguments fun.DintToInt ty.Dint = tt
few-arguments fun.DintToInt ty.Lint = tt
few-arguments fun.DintToLint ty.Bool = tt
few-arguments fun.DintToLint ty.Int = tt
few-arguments fun.DintToLint ty.Dint = tt
few-arguments fun.DintToLint ty.Lint = omega arith
few-arguments fun.LintToInt ty.Bool = tt
few-arguments fun.LintToInt ty.Int = omega arith
few-arguments fun.LintToInt ty.Dint = tt
few-arguments fun.LintToInt ty.Lint = tt
few-arguments fun.LintToDint ty.Bool = tt
few-arguments fun.LintToDint ty.Int = tt
few-arguments fun.LintToDint ty.Dint = omega arith
few-arguments fun.LintToDint ty.Lint = tt
few-arguments fun.BoolToInt ty.Bool = tt
few-arguments fun.BoolToInt ty.Int = omega arith
few-arguments fun.BoolToInt ty.Dint = tt
few-arguments fun.BoolToInt ty.Lint = tt

-- arguments that aren't there count for nothing
apply-none : (f : Fun) (t : Ty) (s : Spot) → apply f t s [] [] ≡ apply f t s [] (pos 0 ∷ pos 0 ∷ pos 0 ∷ [])
apply-none fun.Abs t s = refl
apply-none fun.Min t s = refl
apply-none fun.Max t s = refl
apply-none fun.Limit t s = refl
apply-none fun.Sel t s = refl
apply-none fun.IntToDint t s = refl
apply-none fun.IntToLint t s = refl
apply-none fun.DintToInt t s = refl
apply-none fun.DintToLint t s = refl
apply-none fun.LintToInt t s = refl
apply-none fun.LintToDint t s = refl
apply-none fun.BoolToInt t s = refl

apply-one : (f : Fun) (t : Ty) (s : Spot) (a : ℤ) → apply f t s [] (a ∷ []) ≡ apply f t s [] (a ∷ pos 0 ∷ pos 0 ∷ [])
apply-one fun.Abs t s a = refl
apply-one fun.Min t s a = refl
apply-one fun.Max t s a = refl
apply-one fun.Limit t s a = refl
apply-one fun.Sel t s a = refl
apply-one fun.IntToDint t s a = refl
apply-one fun.IntToLint t s a = refl
apply-one fun.DintToInt t s a = refl
apply-one fun.DintToLint t s a = refl
apply-one fun.LintToInt t s a = refl
apply-one fun.LintToDint t s a = refl
apply-one fun.BoolToInt t s a = refl

apply-two : (f : Fun) (t : Ty) (s : Spot) (a b : ℤ) → apply f t s [] (a ∷ b ∷ []) ≡ apply f t s [] (a ∷ b ∷ pos 0 ∷ [])
apply-two fun.Abs t s a b = refl
apply-two fun.Min t s a b = refl
apply-two fun.Max t s a b = refl
apply-two fun.Limit t s a b = refl
apply-two fun.Sel t s a b = refl
apply-two fun.IntToDint t s a b = refl
apply-two fun.IntToLint t s a b = refl
apply-two fun.DintToInt t s a b = refl
apply-two fun.DintToLint t s a b = refl
apply-two fun.LintToInt t s a b = refl
apply-two fun.LintToDint t s a b = refl
apply-two fun.BoolToInt t s a b = refl

-- three results, one after the other
abbrev in-turn : Result ℤ Stop → Result ℤ Stop → Result ℤ Stop → (ℤ → ℤ → ℤ → Result ℤ Stop) → Result ℤ Stop
in-turn x y z next = and_then x (λ a. and_then y (λ b. and_then z (λ c. next a b c)))

with-one : (x : Result ℤ Stop) (k : List ℤ → Result ℤ Stop) (next : ℤ → ℤ → ℤ → Result ℤ Stop) → ((a : ℤ) → k (a ∷ []) ≡ next a (pos 0) (pos 0))
    → and_then (and_then x (λ v. Ok (v ∷ []))) k ≡ in-turn x (Ok (pos 0)) (Ok (pos 0)) next
with-one (Ok a) k next h = h a
with-one (Err s) k next h = refl

with-two : (x y : Result ℤ Stop) (k : List ℤ → Result ℤ Stop) (next : ℤ → ℤ → ℤ → Result ℤ Stop) → ((a b : ℤ) → k (a ∷ b ∷ []) ≡ next a b (pos 0))
    → and_then (and_then x (λ v. and_then (and_then y (λ w. Ok (w ∷ []))) (λ vs. Ok (v ∷ vs)))) k ≡ in-turn x y (Ok (pos 0)) next
with-two (Ok a) (Ok b) k next h = h a b
with-two (Ok a) (Err s) k next h = refl
with-two (Err s) y k next h = refl

with-three : (x y z : Result ℤ Stop) (k : List ℤ → Result ℤ Stop) (next : ℤ → ℤ → ℤ → Result ℤ Stop) → ((a b c : ℤ) → k (a ∷ b ∷ c ∷ []) ≡ next a b c)
    → and_then (and_then x (λ v. and_then (and_then y (λ w. and_then (and_then z (λ u. Ok (u ∷ []))) (λ vs. Ok (w ∷ vs)))) (λ vs. Ok (v ∷ vs)))) k
    ≡ in-turn x y z next
with-three (Ok a) (Ok b) (Ok c) k next h = h a b c
with-three (Ok a) (Ok b) (Err s) k next h = refl
with-three (Ok a) (Err s) z k next h = refl
with-three (Err s) y z k next h = refl

-- the value of a function, from those of three arguments
applied : (f : Fun) (t : Ty) (s : Spot) (es : TExprTrees) (m : List ℤ) → length (tys_of es) ≤ 3
    → and_then (values [] es m) (λ vs. apply f t s [] vs)
    ≡ in-turn (argument_at es 0 m) (argument_at es 1 m) (argument_at es 2 m) (λ a b c. apply f t s [] (a ∷ b ∷ c ∷ []))
applied f t s no_texprs m le = apply-none f t s
applied f t s (and_texpr d no_texprs) m le = with-one (value [] d m) _ (λ a b c. apply f t s [] (a ∷ b ∷ c ∷ [])) (apply-one f t s)
applied f t s (and_texpr d (and_texpr e no_texprs)) m le = with-two (value [] d m) (value [] e m) _ (λ a b c. apply f t s [] (a ∷ b ∷ c ∷ [])) (apply-two f t s)
applied f t s (and_texpr d (and_texpr e (and_texpr g no_texprs))) m le =
    with-three (value [] d m) (value [] e m) (value [] g m) _ (λ a b c. apply f t s [] (a ∷ b ∷ c ∷ [])) (λ a b c. refl)
applied f t s (and_texpr d (and_texpr e (and_texpr g (and_texpr x es)))) m le = absurd (omega (arith, le))

value-of-call : (e : TExprTree) (f : Fun) (t : Ty) (es : TExprTrees) (s : Spot) (m : List ℤ) → e ≡ call f t es s → SoundExpr e m
    → value [] e m ≡ in-turn (argument_at es 0 m) (argument_at es 1 m) (argument_at es 2 m) (λ a b c. apply f t s [] (a ∷ b ∷ c ∷ []))
value-of-call e f t es s m is h =
    let typed : IsExpr h.slots (call f t es s) = subst (λ x. IsExpr h.slots x) is h.typed in
    ap (λ x. value [] x m) is ∙ applied f t s es m (subst Few typed.1 (few-arguments f t))

pub first-stops : (e : TExprTree) (f : Fun) (t : Ty) (es : TExprTrees) (s : Spot) (m : List ℤ) (d : Stop) → e ≡ call f t es s → SoundExpr e m
    → Err d ≡ argument_at es 0 m → Err d ≡ value [] e m
first-stops e f t es s m d is h x =
    ap (λ r. in-turn r (argument_at es 1 m) (argument_at es 2 m) (λ a b c. apply f t s [] (a ∷ b ∷ c ∷ []))) x ∙ sym (value-of-call e f t es s m is h)

pub second-stops : (e : TExprTree) (f : Fun) (t : Ty) (es : TExprTrees) (s : Spot) (m : List ℤ) (a : ℤ) (d : Stop) → e ≡ call f t es s → SoundExpr e m
    → Ok a ≡ argument_at es 0 m → Err d ≡ argument_at es 1 m → Err d ≡ value [] e m
second-stops e f t es s m a d is h x y =
    (λ i. in-turn (x i) (y i) (argument_at es 2 m) (λ a b c. apply f t s [] (a ∷ b ∷ c ∷ []))) ∙ sym (value-of-call e f t es s m is h)

pub third-stops : (e : TExprTree) (f : Fun) (t : Ty) (es : TExprTrees) (s : Spot) (m : List ℤ) (a b : ℤ) (d : Stop) → e ≡ call f t es s → SoundExpr e m
    → Ok a ≡ argument_at es 0 m → Ok b ≡ argument_at es 1 m → Err d ≡ argument_at es 2 m → Err d ≡ value [] e m
third-stops e f t es s m a b d is h x y z =
    (λ i. in-turn (x i) (y i) (z i) (λ a b c. apply f t s [] (a ∷ b ∷ c ∷ []))) ∙ sym (value-of-call e f t es s m is h)

pub none-stops : (e : TExprTree) (f : Fun) (t : Ty) (es : TExprTrees) (s : Spot) (m : List ℤ) (a b c : ℤ) → e ≡ call f t es s → SoundExpr e m
    → Ok a ≡ argument_at es 0 m → Ok b ≡ argument_at es 1 m → Ok c ≡ argument_at es 2 m → apply f t s [] (a ∷ b ∷ c ∷ []) ≡ value [] e m
none-stops e f t es s m a b c is h x y z =
    (λ i. in-turn (x i) (y i) (z i) (λ a b c. apply f t s [] (a ∷ b ∷ c ∷ []))) ∙ sym (value-of-call e f t es s m is h)

pub tree-of-call : (e : TExpr) (f : Fun) (t : Ty) (es : TExprs) (s : Spot) (items : List TExpr) → e ≡ Call f t es s
    → texpr_tree (Call f t es s) ≡ call f t (texpr_trees es.items.items) s → items ≡ es.items.items → texpr_tree e ≡ call f t (texpr_trees items) s
tree-of-call e f t es s items is law same = ap texpr_tree is ∙ law ∙ ap (λ x. call f t (texpr_trees x) s) (sym same)

pub apply-at : (f : Fun) (t : Ty) (s : Spot) (a b c x y z : ℤ) → a ≡ x → b ≡ y → c ≡ z → apply f t s [] (a ∷ b ∷ c ∷ []) ≡ apply f t s [] (x ∷ y ∷ z ∷ [])
apply-at f t s a b c x y z p q r = λ i. apply f t s [] (p i ∷ q i ∷ r i ∷ [])
