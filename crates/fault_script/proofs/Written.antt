-- Written: what words write.
use Rattle.std.proofs.Common.{◌≡◌, ℕ, ◌+◌, Bool, true, false, cond, List, ◌∷◌, drop, get_or, length, bytes_eq, Option, Some, None, option_and_then, ℤ}
use Rattle.std.proofs.Common.{slice_get, refl, sym, ap, ◌∙◌, arith, inl, inr}
use Rattle.std.proofs.lemmas.Bool.{false≢true, cases_lt}
use Rattle.std.proofs.lemmas.Int.{ints}
use Rattle.std.proofs.lemmas.List.{drop_all, drop_more}
use Rattle.std.proofs.lemmas.Option.{slice_get_within, slice_get-get_or, get_or_from_slice_get}
use Rattle.vcp_base.specs.declared.kind.Kind.{Kind}
use Rattle.vcp_base.specs.declared.kind.Kind.TheVariants as kind
use Rattle.vcp_base.specs.declared.ty.Ty.TheVariants as ty
use Rattle.vcp_base.specs.Spellings.{kinds, kind_name}
use Rattle.vcp_base.specs.Types.{fits}
use Rattle.vcp_base.specs.Numerals.{in_type}
use Rattle.vcp_base.specs.Integers.{is_addend}
use Rattle.fault_script.specs.Forms.{first_named}

-- what may be added is a number of 64 bits
addend_fits : (e : ℤ) → is_addend e ≡ true → fits ty.Lint e ≡ true
addend_fits e h = grind (arith, ints)

addend_of_fitting : (e : ℤ) (f b : Bool) → fits ty.Lint e ≡ f → is_addend e ≡ b →
    option_and_then (λ e. cond (is_addend e) (Some e) None) (cond f (Some e) None) ≡ cond b (Some e) None
addend_of_fitting e true b fit is = rw is refl
addend_of_fitting e false true fit is = absurd (false≢true (sym fit ∙ addend_fits e is))
addend_of_fitting e false false fit is = refl

-- so it may be cut to 64 bits first
pub cut_addend : (o : Option ℤ) →
    option_and_then (λ e. cond (is_addend e) (Some e) None) (option_and_then (in_type ty.Lint) o) ≡ option_and_then (λ e. cond (is_addend e) (Some e) None) o
cut_addend None = refl
cut_addend (Some e) = addend_of_fitting e (fits ty.Lint e) (is_addend e) refl refl

-- the kinds from the place of one on
pub kind_at : (word : List ℕ) (code : ℕ) (k : Kind) (b : Bool) → slice_get kinds code ≡ Some k → bytes_eq word (kind_name k) ≡ b →
    first_named word (drop code kinds) ≡ cond b (Some k) (first_named word (drop (code + 1) kinds))
kind_at word code k b at is =
    let here : drop code kinds ≡ k ∷ drop (code + 1) kinds = drop_more kinds code k (slice_get_within kinds code k at)
    ∙ ap (λ (x : Kind). x ∷ drop (code + 1) kinds) (get_or_from_slice_get kinds code k k at) in
    ap (first_named word) here ∙ ap (λ (b : Bool). cond b (Some k) (first_named word (drop (code + 1) kinds))) is

-- past the last of them
pub no_kind_at : (word : List ℕ) (code : ℕ) → slice_get kinds code ≡ None → first_named word (drop code kinds) ≡ None
no_kind_at word code none = elim (cases_lt code (length kinds)) [
  | inl within ↦ let some : slice_get kinds code ≡ Some (get_or kinds code kind.Input) = slice_get-get_or kinds code kind.Input within in absurd cc
  | inr past ↦ ap (first_named word) (drop_all code kinds past)
]
