-- PlaceLaws: hidden variables, and the statements that use them, one after the other.
use Rattle.std.proofs.Common.{◌≡◌, ℕ, ◌+◌, ◌≤◌, Bool, true, false, cond, List, [], ◌∷◌, ◌++◌, length, drop, slice_get, zero, suc, Some}
use Rattle.std.proofs.Common.{refl, sym, ap, ◌∙◌, arith, append_assoc, append-nil}
use Rattle.std.proofs.Math.Path.{fun_ext}
use Rattle.vcp_base.specs.declared.ty.Ty.{Ty}
use Rattle.vcp_base.specs.declared.ty.Ty.TheVariants as ty
use Rattle.vcp_typed.specs.declared.slot.Slot.{Slot}
use Rattle.vcp_typed.specs.TStmtTree.{TStmtTree, TStmtTrees, no_tstmts, and_tstmt}
use Rattle.vcp_typed.specs.TStmtViews.{tstmts_and}
use Rattle.il_front.specs.declared.places.Places.{Places}
use Rattle.il_front.specs.Accumulator.{Instruction}
use Rattle.il_front.specs.TypedForm.{next_type, used_by, action_stmt, statements}
use Rattle.il_front.specs.Places.{used_in}

-- ---- the types that are used

used-at : (p : Places) (code : List Instruction) → p.bools ≡ used_by code ty.Bool → p.ints ≡ used_by code ty.Int → p.dints ≡ used_by code ty.Dint
    → p.lints ≡ used_by code ty.Lint → (t : Ty) → used_in p t ≡ used_by code t
used-at p code a b c d ty.Bool = a
used-at p code a b c d ty.Int = b
used-at p code a b c d ty.Dint = c
used-at p code a b c d ty.Lint = d

pub used-same : (p : Places) (code : List Instruction) → p.bools ≡ used_by code ty.Bool → p.ints ≡ used_by code ty.Int
    → p.dints ≡ used_by code ty.Dint → p.lints ≡ used_by code ty.Lint → used_in p ≡ used_by code
used-same p code a b c d = fun_ext (used-at p code a b c d)

-- ---- the hidden variables

one-more : (b : Bool) (o rest : List Slot) (x : Slot) → o ++ cond b (x ∷ []) [] ++ rest ≡ o ++ cond b (x ∷ rest) rest
one-more true o rest x = append_assoc o (x ∷ []) rest
one-more false o rest x = ap (λ (l : List Slot). l ++ rest) (append-nil o)

-- ---- statements

-- statements with others behind them
abbrev pub joined : TStmtTrees → TStmtTrees → TStmtTrees
joined no_tstmts ys = ys
joined (and_tstmt x xs) ys = and_tstmt x (joined xs ys)

pub joined-and : (xs : TStmtTrees) (s : TStmtTree) (ys : TStmtTrees) → joined (tstmts_and xs s) ys ≡ joined xs (and_tstmt s ys)
joined-and no_tstmts s ys = refl
joined-and (and_tstmt x xs) s ys = ap (and_tstmt x) (joined-and xs s ys)

pub joined-none : (xs : TStmtTrees) → joined xs no_tstmts ≡ xs
joined-none no_tstmts = refl
joined-none (and_tstmt x xs) = ap (and_tstmt x) (joined-none xs)

-- one statement more
pub joined-more : (place : Ty → ℕ) (xs ys : TStmtTrees) (s : TStmtTree) (t : Ty) (i : Instruction) (is : List Instruction)
    → ys ≡ tstmts_and xs s → s ≡ action_stmt place i.spot i.at t i.action
    → joined ys (statements place (next_type t i.action) is) ≡ joined xs (statements place t (i ∷ is))
joined-more place xs ys s t i is e f =
    ap (λ (x : TStmtTrees). joined x (statements place (next_type t i.action) is)) e
    ∙ joined-and xs s (statements place (next_type t i.action) is)
    ∙ ap (λ (x : TStmtTree). joined xs (and_tstmt x (statements place (next_type t i.action) is))) f

-- the instructions from a place on
pub code-at : (code : List Instruction) (k : ℕ) (i : Instruction) → slice_get code k ≡ Some i → drop k code ≡ i ∷ drop (suc k) code
code-at [] k i e = absurd cc
code-at (x ∷ xs) zero i e = let same : x ≡ i = cc in ap (λ (y : Instruction). y ∷ xs) same
code-at (x ∷ xs) (suc k) i e = code-at xs k i e

pub code-end : (code : List Instruction) (k : ℕ) → length code ≤ k → drop k code ≡ []
code-end [] zero h = refl
code-end [] (suc k) h = refl
code-end (x ∷ xs) zero h = absurd (let no : suc (length xs) ≤ 0 = h in omega arith)
code-end (x ∷ xs) (suc k) h = code-end xs k (omega arith)

-- a turn of the code's loop
pub statement-more : (place : Ty → ℕ) (xs ys : TStmtTrees) (s : TStmtTree) (t : Ty) (code : List Instruction) (k : ℕ) (i : Instruction) (u : Ty)
    (r : TStmtTrees) → slice_get code k ≡ Some i → ys ≡ tstmts_and xs s → s ≡ action_stmt place i.spot i.at t i.action → u ≡ next_type t i.action
    → joined xs (statements place t (drop k code)) ≡ r → joined ys (statements place u (drop (k + 1) code)) ≡ r
statement-more place xs ys s t code k i u r e f g n h =
    ap (λ (x : Ty). joined ys (statements place x (drop (k + 1) code))) n
    ∙ ap (λ (m : ℕ). joined ys (statements place (next_type t i.action) (drop m code))) (let z : k + 1 ≡ suc k = omega arith in z)
    ∙ joined-more place xs ys s t i (drop (suc k) code) f g
    ∙ ap (λ (is : List Instruction). joined xs (statements place t is)) (sym (code-at code k i e)) ∙ h

pub statement-end : (place : Ty → ℕ) (xs : TStmtTrees) (t : Ty) (code : List Instruction) (k : ℕ) (r : TStmtTrees) → length code ≤ k
    → joined xs (statements place t (drop k code)) ≡ r → xs ≡ r
statement-end place xs t code k r h e =
    sym (joined-none xs) ∙ ap (λ (is : List Instruction). joined xs (statements place t is)) (sym (code-end code k h)) ∙ e
