-- RowsBeside: the first place where two rows differ, and values that are in their types.
use Rattle.std.specs.Prelude.{FitsSigned}
use Rattle.std.specs.Int.{w64}
use Rattle.std.proofs.Common.{◌≡◌, ◌≢◌, ℕ, suc, ◌+◌, ◌≤◌, Bool, true, false, cond, List, ◌∷◌, length, drop, slice_get, Option, Some, None, ℤ, pos, negsuc, ◌≤ℤ◌, refl, sym, ap, ◌∙◌, arith, add-one}
use Rattle.std.proofs.lemmas.Bool.Decides.{nat_tests}
use Rattle.std.proofs.lemmas.Int.{ints}
use Rattle.vcp_base.specs.Differences.{Difference, first_difference}
use Rattle.vcp_base.specs.Kinds.{same}
use Rattle.vcp_base.specs.Types.{fits}
use Rattle.vcp_base.specs.declared.code.Profile.{Profile}
use Rattle.vcp_base.specs.declared.ty.Ty.{Ty}
use Rattle.vcp_base.specs.declared.ty.Ty.TheVariants as ty
use Rattle.coded_unit.specs.Words.{value_part}
use Rattle.coded_unit.specs.declared.call.Answer.{Answer}
use Rattle.coded_machine.specs.Calls.{word_at}
use Rattle.coded_machine.specs.CycleEnds.{first_outside}
use Rattle.coded_machine.specs.declared.cycle_end.CycleEnd.{CycleEnd}
use Rattle.op_graph.specs.declared.op.Outlet.{Outlet}
use Rattle.fault_injector.proofs.ListsOfReruns.{drop_behind, drop_there}

pub same_self : (x : ℤ) → same x x ≡ true
same_self (pos n) = grind (arith, nat_tests)
same_self (negsuc n) = grind (arith, nat_tests)

same_equal : (x y : ℤ) → same x y ≡ true → x ≡ y
same_equal x y h =
    let low : x ≤ℤ y = grind (arith, ints) in
    let high : y ≤ℤ x = grind (arith, ints) in
    omega (arith, ints, low, high)

not_true : (b : Bool) → (b ≢ true) → b ≡ false
not_true true h = absurd (h refl)
not_true false h = refl

pub same_other : (x y : ℤ) → x ≢ y → same x y ≡ false
same_other x y h = not_true (same x y) (λ e. h (same_equal x y e))

-- ---- rows

pub row_passed : (xs ys : List ℤ) (k : ℕ) (x y : ℤ) → slice_get xs k ≡ Some x → slice_get ys k ≡ Some y → x ≡ y →
    first_difference (drop k xs) (drop k ys) k ≡ first_difference (drop (k + 1) xs) (drop (k + 1) ys) (k + 1)
row_passed xs ys k x y there here e =
    let told : Difference = record { place = k; first = x; second = y } in
    let whole : same x y ≡ true = ap (same x) (sym e) ∙ same_self x in
    ap (λ us. first_difference us (drop k ys) k) (drop_there xs k x there)
    ∙ (ap (λ us. first_difference (x ∷ drop (k + 1) xs) us k) (drop_there ys k y here)
    ∙ (ap (λ b. cond b (first_difference (drop (k + 1) xs) (drop (k + 1) ys) (suc k)) (Some told)) whole
    ∙ ap (λ j. first_difference (drop (k + 1) xs) (drop (k + 1) ys) j) (sym (add-one k))))

pub row_here : (xs ys : List ℤ) (k : ℕ) (x y : ℤ) → slice_get xs k ≡ Some x → slice_get ys k ≡ Some y → x ≢ y →
    first_difference (drop k xs) (drop k ys) k ≡ Some (record { place = k; first = x; second = y })
row_here xs ys k x y there here ne =
    let told : Difference = record { place = k; first = x; second = y } in
    ap (λ us. first_difference us (drop k ys) k) (drop_there xs k x there)
    ∙ (ap (λ us. first_difference (x ∷ drop (k + 1) xs) us k) (drop_there ys k y here)
    ∙ ap (λ b. cond b (first_difference (drop (k + 1) xs) (drop (k + 1) ys) (suc k)) (Some told)) (same_other x y ne))

pub row_ended : (xs ys : List ℤ) (k : ℕ) → length xs ≤ k → first_difference (drop k xs) (drop k ys) k ≡ None
row_ended xs ys k h = ap (λ us. first_difference us (drop k ys) k) (drop_behind xs k h)

-- ---- outputs in their types

first_none : (b : Bool) (e : CycleEnd) (later : Option CycleEnd) → cond b later (Some e) ≡ None → (b ≡ true) × (later ≡ None)
first_none true e later h = (refl, h)
first_none false e later h = cc

-- where no output is outside its type, this one isn't
pub outside_none : (p : Profile) (answers : List Answer) (outputs : List Outlet) (i : ℕ) (o : Outlet) → slice_get outputs i ≡ Some o
    → first_outside p answers (drop i outputs) ≡ None →
    (fits o.ty (value_part p (word_at answers o.op)) ≡ true) × (first_outside p answers (drop (i + 1) outputs) ≡ None)
outside_none p answers outputs i o there e = first_none _ _ _ (sym (ap (first_outside p answers) (drop_there outputs i o there)) ∙ e)

-- values of the types have 64 bits
pub fits_64 : (t : Ty) (v : ℤ) → fits t v ≡ true → FitsSigned w64 v
fits_64 ty.Bool (pos n) h = grind (arith, nat_tests)
fits_64 ty.Bool (negsuc n) h = grind (arith, nat_tests)
fits_64 ty.Int (pos n) h = grind (arith, nat_tests)
fits_64 ty.Int (negsuc n) h = grind (arith, nat_tests)
fits_64 ty.Dint (pos n) h = grind (arith, nat_tests)
fits_64 ty.Dint (negsuc n) h = grind (arith, nat_tests)
fits_64 ty.Lint (pos n) h = grind (arith, nat_tests)
fits_64 ty.Lint (negsuc n) h = grind (arith, nat_tests)
