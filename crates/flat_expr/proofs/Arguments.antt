-- Arguments: a function of one, two or three arguments, each of which is flattened by a call.
use Rattle.std.proofs.Common.{◌≡◌, ℕ, zero, suc, ◌+◌, ◌<◌, ◌≤◌, ℤ, true, false, List, [], ◌∷◌, length, get_or, slice_get, Option, Some, None, refl, sym, ap}
use Rattle.std.proofs.Common.{◌∙◌, subst, arith}
use Rattle.std.specs.Prelude.{⊤}
use Rattle.vcp_base.specs.declared.spot.Spot.{Spot}
use Rattle.vcp_base.specs.declared.turns.Turn.{Turn}
use Rattle.vcp_base.specs.declared.ty.Ty.{Ty}
use Rattle.vcp_base.specs.declared.ty.Ty.TheVariants as ty
use Rattle.vcp_base.specs.Values.{at}
use Rattle.op_graph.specs.declared.op.Op.{Op}
use Rattle.op_graph.specs.Lists.{turns_of}
use Rattle.op_graph.specs.Rules.{is_number}
use Rattle.vcp_typed.specs.declared.slot.Slot.{Slot}
use Rattle.vcp_typed.specs.declared.expr.Fun.{Fun}
use Rattle.vcp_typed.specs.declared.expr.Fun.TheVariants as fun
use Rattle.vcp_typed.specs.declared.expr.TExpr.{TExpr}
use Rattle.vcp_typed.specs.declared.expr.TExpr.TheVariants.{Call}
use Rattle.vcp_typed.specs.declared.expr.TExprs.{TExprs}
use Rattle.vcp_typed.specs.Meaning.{apply}
use Rattle.vcp_typed.specs.TExprTree.{TExprTree, TExprTrees, call, no_texprs, and_texpr}
use Rattle.vcp_typed.specs.TExprViews.{texpr_tree, texpr_trees}
use Rattle.vcp_typed.specs.Checked.{ty_of, tys_of, IsExpr, AreExprs}
use Rattle.vcp_typed.specs.Rules.{arguments, of_numbers, converted_from}
use Rattle.vcp_typed.specs.Size.{expr_size, exprs_size, function_size}
use Rattle.flat_expr.specs.State.{State, IsState, IsA, active, guarded, Follows, Makes, Flattens, FlattensOne, FunFits, applies, argument, one_reads}
use Rattle.flat_expr.specs.State.{one_size, reserved}
use Rattle.flat_expr.specs.ReadSlots.{reads_slot, read_slots}
use Rattle.flat_expr.proofs.Weight.{expr_weight, exprs_weight}
use Rattle.flat_expr.proofs.Steps.{neither, weaker, as_good-is, follows-self}
use Rattle.flat_expr.proofs.Calls.{argued, applied, called}

-- ---- how many arguments

arity : Fun → ℕ
arity fun.Abs = 1
arity fun.Min = 2
arity fun.Max = 2
arity fun.Limit = 3
arity fun.Sel = 3
arity fun.IntToDint = 1
arity fun.DintToInt = 1
arity fun.IntToLint = 1
arity fun.DintToLint = 1
arity fun.LintToInt = 1
arity fun.LintToDint = 1
arity fun.BoolToInt = 1

from_numbers : (ts us : List Ty) (t : Ty) → of_numbers ts t ≡ Some us → (is_number t ≡ true) × (ts ≡ us)
from_numbers ts us ty.Bool h = absurd cc
from_numbers ts us ty.Int h = (refl, cc)
from_numbers ts us ty.Dint h = (refl, cc)
from_numbers ts us ty.Lint h = (refl, cc)

-- the argument of a conversion to a type
to_int : (from t : Ty) (ts : List Ty) → converted_from (from, ty.Int) t ≡ Some ts → (t ≡ ty.Int) × (from ∷ [] ≡ ts)
to_int from ty.Bool ts h = absurd cc
to_int from ty.Int ts h = (refl, cc)
to_int from ty.Dint ts h = absurd cc
to_int from ty.Lint ts h = absurd cc

to_dint : (from t : Ty) (ts : List Ty) → converted_from (from, ty.Dint) t ≡ Some ts → (t ≡ ty.Dint) × (from ∷ [] ≡ ts)
to_dint from ty.Bool ts h = absurd cc
to_dint from ty.Int ts h = absurd cc
to_dint from ty.Dint ts h = (refl, cc)
to_dint from ty.Lint ts h = absurd cc

to_lint : (from t : Ty) (ts : List Ty) → converted_from (from, ty.Lint) t ≡ Some ts → (t ≡ ty.Lint) × (from ∷ [] ≡ ts)
to_lint from ty.Bool ts h = absurd cc
to_lint from ty.Int ts h = absurd cc
to_lint from ty.Dint ts h = absurd cc
to_lint from ty.Lint ts h = (refl, cc)

arity_is : (f : Fun) (t : Ty) (ts : List Ty) → arguments f t ≡ Some ts → length ts ≡ arity f
unfolding arity
arity_is fun.Abs t ts h = ap length (sym (from_numbers _ ts t h).1)
arity_is fun.Min t ts h = ap length (sym (from_numbers _ ts t h).1)
arity_is fun.Max t ts h = ap length (sym (from_numbers _ ts t h).1)
arity_is fun.Limit t ts h = ap length (sym (from_numbers _ ts t h).1)
arity_is fun.Sel t ts h = let e : ty.Bool ∷ t ∷ t ∷ [] ≡ ts = cc in ap length (sym e)
arity_is fun.IntToDint t ts h = ap length (sym (to_dint ty.Int t ts h).1)
arity_is fun.IntToLint t ts h = ap length (sym (to_lint ty.Int t ts h).1)
arity_is fun.DintToInt t ts h = ap length (sym (to_int ty.Dint t ts h).1)
arity_is fun.DintToLint t ts h = ap length (sym (to_lint ty.Dint t ts h).1)
arity_is fun.LintToInt t ts h = ap length (sym (to_int ty.Lint t ts h).1)
arity_is fun.LintToDint t ts h = ap length (sym (to_dint ty.Lint t ts h).1)
arity_is fun.BoolToInt t ts h = ap length (sym (to_int ty.Bool t ts h).1)

some_argument : (f : Fun) → (1 ≤ arity f) × (arity f ≤ 3)
unfolding arity
some_argument fun.Abs = (omega arith, omega arith)
some_argument fun.Min = (omega arith, omega arith)
some_argument fun.Max = (omega arith, omega arith)
some_argument fun.Limit = (omega arith, omega arith)
some_argument fun.Sel = (omega arith, omega arith)
some_argument fun.IntToDint = (omega arith, omega arith)
some_argument fun.IntToLint = (omega arith, omega arith)
some_argument fun.DintToInt = (omega arith, omega arith)
some_argument fun.DintToLint = (omega arith, omega arith)
some_argument fun.LintToInt = (omega arith, omega arith)
some_argument fun.LintToDint = (omega arith, omega arith)
some_argument fun.BoolToInt = (omega arith, omega arith)

-- ---- a function takes no more than its arguments

one_of_three : (f : Fun) (t : Ty) (spot : Spot) (turns : List Turn) (x y z : ℤ) → 1 ≡ arity f
    → apply f t spot turns (x ∷ y ∷ z ∷ []) ≡ apply f t spot turns (x ∷ [])
unfolding arity
one_of_three fun.Abs t spot turns x y z h = refl
one_of_three fun.Min t spot turns x y z h = absurd (omega (arith, h))
one_of_three fun.Max t spot turns x y z h = absurd (omega (arith, h))
one_of_three fun.Limit t spot turns x y z h = absurd (omega (arith, h))
one_of_three fun.Sel t spot turns x y z h = absurd (omega (arith, h))
one_of_three fun.IntToDint t spot turns x y z h = refl
one_of_three fun.IntToLint t spot turns x y z h = refl
one_of_three fun.DintToInt t spot turns x y z h = refl
one_of_three fun.DintToLint t spot turns x y z h = refl
one_of_three fun.LintToInt t spot turns x y z h = refl
one_of_three fun.LintToDint t spot turns x y z h = refl
one_of_three fun.BoolToInt t spot turns x y z h = refl

two_of_three : (f : Fun) (t : Ty) (spot : Spot) (turns : List Turn) (x y z : ℤ) → 2 ≡ arity f
    → apply f t spot turns (x ∷ y ∷ z ∷ []) ≡ apply f t spot turns (x ∷ y ∷ [])
unfolding arity
two_of_three fun.Abs t spot turns x y z h = absurd (omega (arith, h))
two_of_three fun.Min t spot turns x y z h = refl
two_of_three fun.Max t spot turns x y z h = refl
two_of_three fun.Limit t spot turns x y z h = absurd (omega (arith, h))
two_of_three fun.Sel t spot turns x y z h = absurd (omega (arith, h))
two_of_three fun.IntToDint t spot turns x y z h = absurd (omega (arith, h))
two_of_three fun.IntToLint t spot turns x y z h = absurd (omega (arith, h))
two_of_three fun.DintToInt t spot turns x y z h = absurd (omega (arith, h))
two_of_three fun.DintToLint t spot turns x y z h = absurd (omega (arith, h))
two_of_three fun.LintToInt t spot turns x y z h = absurd (omega (arith, h))
two_of_three fun.LintToDint t spot turns x y z h = absurd (omega (arith, h))
two_of_three fun.BoolToInt t spot turns x y z h = absurd (omega (arith, h))

-- ---- the whole call

other_arguments : (s new : State) (f : Fun) (t : Ty) (a b c k n : ℕ) (spot : Spot) (before : List ℤ → List ℤ) →
    ((turns : List Turn) (vs : List ℤ) → apply f t spot turns (at vs a ∷ at vs b ∷ at vs c ∷ []) ≡ apply f t spot turns (before vs)) →
    Makes s new t n (applies s f t a b c spot) k → Makes s new t n
    (λ now vs. guarded (active s.path vs) (apply f t spot (turns_of s.graph s.turn) (before vs))) k
other_arguments s new f t a b c k n spot before same h =
    weaker s new t n n (applies s f t a b c spot) _ k (omega arith)
    (λ now vs types. as_good-is _ _ (ap (guarded (active s.path vs)) (same (turns_of s.graph s.turn) vs))) h

one_made : (s0 s1 s4 : State) (f : Fun) (t : Ty) (e1 : TExprTree) (spot : Spot) (a b c k : ℕ) → 1 ≡ arity f →
    Flattens s0 s1 e1 a → Makes s1 s4 t (function_size f) (applies s1 f t a b c spot) k → Flattens s0 s4 (call f t (and_texpr e1 no_texprs) spot) k
one_made s0 s1 s4 f t e1 spot a b c k one f1 m =
    called s0 s4 f t (and_texpr e1 no_texprs) spot (expr_size e1 + function_size f) k (omega arith)
    (argued s0 s1 s4 f t t spot e1 no_texprs (λ vs. []) a (function_size f) k (λ vs ws h. refl) f1
    (applied s1 s4 f t t spot (λ vs. at vs a ∷ []) (function_size f) k
    (other_arguments s1 s4 f t a b c k (function_size f) spot (λ vs. at vs a ∷ [])
    (λ turns vs. one_of_three f t spot turns (at vs a) (at vs b) (at vs c) one) m)))

two_made : (s0 s1 s2 s4 : State) (f : Fun) (t : Ty) (e1 e2 : TExprTree) (spot : Spot) (a b c k : ℕ) → 2 ≡ arity f →
    Flattens s0 s1 e1 a → Flattens s1 s2 e2 b → Makes s2 s4 t (function_size f) (applies s2 f t a b c spot) k → Flattens s0 s4
    (call f t (and_texpr e1 (and_texpr e2 no_texprs)) spot) k
two_made s0 s1 s2 s4 f t e1 e2 spot a b c k two f1 f2 m =
    called s0 s4 f t (and_texpr e1 (and_texpr e2 no_texprs)) spot (expr_size e1 + (expr_size e2 + function_size f)) k (omega arith)
    (argued s0 s1 s4 f t t spot e1 (and_texpr e2 no_texprs) (λ vs. []) a (expr_size e2 + function_size f) k (λ vs ws h. refl) f1
    (argued s1 s2 s4 f t t spot e2 no_texprs (λ vs. at vs a ∷ []) b (function_size f) k (λ vs ws h. ap (λ x. x ∷ []) (h (ty_of e1) a f1.place)) f2
    (applied s2 s4 f t t spot (λ vs. at vs a ∷ at vs b ∷ []) (function_size f) k
    (other_arguments s2 s4 f t a b c k (function_size f) spot (λ vs. at vs a ∷ at vs b ∷ [])
    (λ turns vs. two_of_three f t spot turns (at vs a) (at vs b) (at vs c) two) m))))

three_made : (s0 s1 s2 s3 s4 : State) (f : Fun) (t : Ty) (e1 e2 e3 : TExprTree) (spot : Spot) (a b c k : ℕ) →
    Flattens s0 s1 e1 a → Flattens s1 s2 e2 b → Flattens s2 s3 e3 c → Makes s3 s4 t (function_size f) (applies s3 f t a b c spot) k →
    Flattens s0 s4 (call f t (and_texpr e1 (and_texpr e2 (and_texpr e3 no_texprs))) spot) k
three_made s0 s1 s2 s3 s4 f t e1 e2 e3 spot a b c k f1 f2 f3 m =
    called s0 s4 f t (and_texpr e1 (and_texpr e2 (and_texpr e3 no_texprs))) spot (expr_size e1 + (expr_size e2 + (expr_size e3 + function_size f))) k
    (omega arith)
    (argued s0 s1 s4 f t t spot e1 (and_texpr e2 (and_texpr e3 no_texprs)) (λ vs. []) a (expr_size e2 + (expr_size e3 + function_size f)) k (λ vs ws h. refl) f1
    (argued s1 s2 s4 f t t spot e2 (and_texpr e3 no_texprs) (λ vs. at vs a ∷ []) b (expr_size e3 + function_size f) k
    (λ vs ws h. ap (λ x. x ∷ []) (h (ty_of e1) a f1.place)) f2
    (argued s2 s3 s4 f t t spot e3 no_texprs (λ vs. at vs a ∷ at vs b ∷ []) c (function_size f) k
    (λ vs ws h. ap (λ x. x ∷ at ws b ∷ []) (h (ty_of e1) a (f2.follows.typed (ty_of e1) a f1.place)) ∙ ap (λ y. at vs a ∷ y ∷ []) (h (ty_of e2) b f2.place)) f3
    (applied s3 s4 f t t spot (λ vs. at vs a ∷ at vs b ∷ at vs c ∷ []) (function_size f) k m))))

same_state : (s0 s1 new : State) (t : Ty) (n k : ℕ) (f : Fun) (a b c : ℕ) (spot : Spot) → s1 ≡ s0 → Makes s1 new t n (applies s1 f t a b c spot) k
    → Makes s0 new t n (applies s0 f t a b c spot) k
same_state s0 s1 new t n k f a b c spot e m = subst (λ s. Makes s new t n (applies s f t a b c spot) k) e m

pub call_made : (s0 s1 s2 s3 s4 : State) (f : Fun) (t : Ty) (es : TExprTrees) (spot : Spot) (a b c k : ℕ) → arguments f t ≡ Some (tys_of es) →
    FlattensOne s0 s1 (argument es 0) a → FlattensOne s1 s2 (argument es 1) b → FlattensOne s2 s3 (argument es 2) c →
    Makes s3 s4 t (function_size f) (applies s3 f t a b c spot) k → Flattens s0 s4 (call f t es spot) k
call_made s0 s1 s2 s3 s4 f t no_texprs spot a b c k h f1 f2 f3 m = absurd (omega (arith, arity_is f t [] h, some_argument f))
call_made s0 s1 s2 s3 s4 f t (and_texpr e1 no_texprs) spot a b c k h f1 f2 f3 m =
    one_made s0 s1 s4 f t e1 spot a b c k (arity_is f t (ty_of e1 ∷ []) h) f1
    (same_state s1 s2 s4 t (function_size f) k f a b c spot f2 (same_state s2 s3 s4 t (function_size f) k f a b c spot f3 m))
call_made s0 s1 s2 s3 s4 f t (and_texpr e1 (and_texpr e2 no_texprs)) spot a b c k h f1 f2 f3 m =
    two_made s0 s1 s2 s4 f t e1 e2 spot a b c k (arity_is f t (ty_of e1 ∷ ty_of e2 ∷ []) h) f1 f2 (same_state s2 s3 s4 t (function_size f) k f a b c spot f3 m)
call_made s0 s1 s2 s3 s4 f t (and_texpr e1 (and_texpr e2 (and_texpr e3 no_texprs))) spot a b c k h f1 f2 f3 m =
    three_made s0 s1 s2 s3 s4 f t e1 e2 e3 spot a b c k f1 f2 f3 m
call_made s0 s1 s2 s3 s4 f t (and_texpr e1 (and_texpr e2 (and_texpr e3 (and_texpr e4 es)))) spot a b c k h f1 f2 f3 m =
    absurd (omega (arith, arity_is f t (ty_of e1 ∷ ty_of e2 ∷ ty_of e3 ∷ ty_of e4 ∷ tys_of es) h, some_argument f))

-- ---- the places of arguments

Placed : List Ty → List Op → List ℕ → Type 0
Placed [] ops ks = ⊤
Placed (t ∷ ts) ops [] = ⊥
Placed (t ∷ ts) ops (k ∷ ks) = IsA t ops k × Placed ts ops ks

fits_of : (f : Fun) (t : Ty) (ts : List Ty) (ops : List Op) (a b c : ℕ) → arguments f t ≡ Some ts → Placed ts ops (a ∷ b ∷ c ∷ []) → FunFits f t ops a b c
unfolding Placed
fits_of fun.Abs t ts ops a b c h p = let e = from_numbers _ ts t h in let q = subst (λ l. Placed l ops (a ∷ b ∷ c ∷ [])) (sym e.1) p in (e.0, q.0)
fits_of fun.Min t ts ops a b c h p = let e = from_numbers _ ts t h in let q = subst (λ l. Placed l ops (a ∷ b ∷ c ∷ [])) (sym e.1) p in (e.0, q.0, q.1.0)
fits_of fun.Max t ts ops a b c h p = let e = from_numbers _ ts t h in let q = subst (λ l. Placed l ops (a ∷ b ∷ c ∷ [])) (sym e.1) p in (e.0, q.0, q.1.0)
fits_of fun.Limit t ts ops a b c h p = let e = from_numbers _ ts t h in let q = subst (λ l. Placed l ops (a ∷ b ∷ c ∷ [])) (sym e.1) p in
    (e.0, q.0, q.1.0, q.1.1.0)
fits_of fun.Sel t ts ops a b c h p = let e : ts ≡ ty.Bool ∷ t ∷ t ∷ [] = cc in let q = subst (λ l. Placed l ops (a ∷ b ∷ c ∷ [])) e p in (q.0, q.1.0, q.1.1.0)
fits_of fun.IntToDint t ts ops a b c h p = let e = to_dint ty.Int t ts h in (e.0, (subst (λ l. Placed l ops (a ∷ b ∷ c ∷ [])) (sym e.1) p).0)
fits_of fun.IntToLint t ts ops a b c h p = let e = to_lint ty.Int t ts h in (e.0, (subst (λ l. Placed l ops (a ∷ b ∷ c ∷ [])) (sym e.1) p).0)
fits_of fun.DintToInt t ts ops a b c h p = let e = to_int ty.Dint t ts h in (e.0, (subst (λ l. Placed l ops (a ∷ b ∷ c ∷ [])) (sym e.1) p).0)
fits_of fun.DintToLint t ts ops a b c h p = let e = to_lint ty.Dint t ts h in (e.0, (subst (λ l. Placed l ops (a ∷ b ∷ c ∷ [])) (sym e.1) p).0)
fits_of fun.LintToInt t ts ops a b c h p = let e = to_int ty.Lint t ts h in (e.0, (subst (λ l. Placed l ops (a ∷ b ∷ c ∷ [])) (sym e.1) p).0)
fits_of fun.LintToDint t ts ops a b c h p = let e = to_dint ty.Lint t ts h in (e.0, (subst (λ l. Placed l ops (a ∷ b ∷ c ∷ [])) (sym e.1) p).0)
fits_of fun.BoolToInt t ts ops a b c h p = let e = to_int ty.Bool t ts h in (e.0, (subst (λ l. Placed l ops (a ∷ b ∷ c ∷ [])) (sym e.1) p).0)

pub call_fits : (s0 s1 s2 s3 : State) (f : Fun) (t : Ty) (es : TExprTrees) (a b c : ℕ) → arguments f t ≡ Some (tys_of es) →
    FlattensOne s0 s1 (argument es 0) a → FlattensOne s1 s2 (argument es 1) b → FlattensOne s2 s3 (argument es 2) c → FunFits f t s3.graph.operations a b c
unfolding Placed
call_fits s0 s1 s2 s3 f t no_texprs a b c h f1 f2 f3 = absurd (omega (arith, arity_is f t [] h, some_argument f))
call_fits s0 s1 s2 s3 f t (and_texpr e1 no_texprs) a b c h f1 f2 f3 =
    fits_of f t (ty_of e1 ∷ []) s3.graph.operations a b c h (subst (λ (s : State). IsA (ty_of e1) s.graph.operations a) (sym (f3 ∙ f2)) f1.place, tt)
call_fits s0 s1 s2 s3 f t (and_texpr e1 (and_texpr e2 no_texprs)) a b c h f1 f2 f3 =
    fits_of f t (ty_of e1 ∷ ty_of e2 ∷ []) s3.graph.operations a b c h (
      subst (λ (s : State). IsA (ty_of e1) s.graph.operations a) (sym f3)
          (f2.follows.typed (ty_of e1) a f1.place),
      (subst (λ (s : State). IsA (ty_of e2) s.graph.operations b) (sym f3) f2.place, tt),
    )
call_fits s0 s1 s2 s3 f t (and_texpr e1 (and_texpr e2 (and_texpr e3 no_texprs))) a b c h f1 f2 f3 =
    fits_of f t (ty_of e1 ∷ ty_of e2 ∷ ty_of e3 ∷ []) s3.graph.operations a b c h
    (f3.follows.typed (ty_of e1) a (f2.follows.typed (ty_of e1) a f1.place), (f3.follows.typed (ty_of e2) b f2.place, (f3.place, tt)))
call_fits s0 s1 s2 s3 f t (and_texpr e1 (and_texpr e2 (and_texpr e3 (and_texpr e4 es)))) a b c h f1 f2 f3 =
    absurd (omega (arith, arity_is f t (ty_of e1 ∷ ty_of e2 ∷ ty_of e3 ∷ ty_of e4 ∷ tys_of es) h, some_argument f))

-- ---- what a call does before the function itself

pub one_follows : (s0 s1 : State) (o : Option TExprTree) (k : ℕ) → IsState s0 → FlattensOne s0 s1 o k → Follows s0 s1
one_follows s0 s1 None k i e = subst (λ s. Follows s0 s) (sym e) (follows-self s0 i)
one_follows s0 s1 (Some e) k i f = f.follows

pub one_count : (s0 s1 : State) (o : Option TExprTree) (k : ℕ) → FlattensOne s0 s1 o k → reserved s1 ≤ reserved s0 + one_size o
one_count s0 s1 None k e = let same = ap reserved e in omega (arith, same)
one_count s0 s1 (Some e) k f = f.count

pub one_unread : (s0 s1 : State) (o : Option TExprTree) (k : ℕ) → FlattensOne s0 s1 o k → (slot : ℕ) → one_reads o slot ≡ false
    → get_or s1.known slot None ≡ get_or s0.known slot None
one_unread s0 s1 None k e slot h = ap (λ (s : State). get_or s.known slot None) e
one_unread s0 s1 (Some e) k f slot h = f.unread slot h

-- no argument reads a slot that none reads
pub unread_argument : (es : TExprTrees) (i slot : ℕ) → read_slots es slot ≡ false → one_reads (argument es i) slot ≡ false
unread_argument no_texprs i slot h = refl
unread_argument (and_texpr e es) zero slot h = (neither (reads_slot e slot) (read_slots es slot) h).0
unread_argument (and_texpr e es) (suc i) slot h = unread_argument es i slot (neither (reads_slot e slot) (read_slots es slot) h).1

-- the first argument is there
pub first_follows : (s0 s1 : State) (f : Fun) (t : Ty) (es : TExprTrees) (k : ℕ) → arguments f t ≡ Some (tys_of es) → FlattensOne s0 s1 (argument es 0) k
    → Follows s0 s1
first_follows s0 s1 f t no_texprs k h f1 = absurd (omega (arith, arity_is f t [] h, some_argument f))
first_follows s0 s1 f t (and_texpr e es) k h f1 = f1.follows

pub sizes : (es : TExprTrees) → one_size (argument es 0) + one_size (argument es 1) + one_size (argument es 2) ≤ exprs_size es
sizes no_texprs = omega arith
sizes (and_texpr e1 no_texprs) = omega arith
sizes (and_texpr e1 (and_texpr e2 no_texprs)) = omega arith
sizes (and_texpr e1 (and_texpr e2 (and_texpr e3 es))) = omega arith

-- ---- arguments in a list

pub argument_is : (es : List TExpr) (i : ℕ) (e : TExpr) → slice_get es i ≡ Some e → argument (texpr_trees es) i ≡ Some (texpr_tree e)
argument_is [] i e h = absurd cc
argument_is (x ∷ es) zero e h = let same : x ≡ e = cc in ap (λ y. Some (texpr_tree y)) same
argument_is (x ∷ es) (suc i) e h = argument_is es i e h

pub argument_none : (es : List TExpr) (i : ℕ) → length es ≤ i → argument (texpr_trees es) i ≡ None
argument_none [] i le = refl
argument_none (x ∷ es) zero le = absurd (omega arith)
argument_none (x ∷ es) (suc i) le = argument_none es i (omega arith)

pub argument_expr : (slots : List Slot) (es : List TExpr) (i : ℕ) (e : TExpr) → slice_get es i ≡ Some e → AreExprs slots (texpr_trees es)
    → IsExpr slots (texpr_tree e)
argument_expr slots [] i e h p = absurd cc
argument_expr slots (x ∷ es) zero e h p = let same : x ≡ e = cc in subst (λ y. IsExpr slots (texpr_tree y)) same p.0
argument_expr slots (x ∷ es) (suc i) e h p = argument_expr slots es i e h p.1

pub argument_lighter : (es : List TExpr) (i : ℕ) (e : TExpr) → slice_get es i ≡ Some e → expr_weight (texpr_tree e) < exprs_weight (texpr_trees es)
argument_lighter [] i e h = absurd cc
argument_lighter (x ∷ es) zero e h = let same : x ≡ e = cc in
    subst (λ y. expr_weight (texpr_tree y) < suc (expr_weight (texpr_tree x) + exprs_weight (texpr_trees es))) same (omega arith)
argument_lighter (x ∷ es) (suc i) e h = let less = argument_lighter es i e h in omega (arith, less)

pub tree_of_call : (e : TExpr) (f : Fun) (t : Ty) (es : TExprs) (s : Spot) (items : List TExpr) → e ≡ Call f t es s
    → texpr_tree (Call f t es s) ≡ call f t (texpr_trees es.items.items) s → items ≡ es.items.items → texpr_tree e ≡ call f t (texpr_trees items) s
tree_of_call e f t es s items is law same = ap texpr_tree is ∙ law ∙ ap (λ x. call f t (texpr_trees x) s) (sym same)
