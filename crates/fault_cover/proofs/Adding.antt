-- Adding: what comes to an output from several starts, one after another.
use Rattle.std.proofs.Common.{◌≡◌, ⊎_elim, ℕ, zero, suc, ◌+◌, ◌-◌, ◌<◌, ◌≤◌, nat_le, cond, true, false, List, [], ◌∷◌, length, drop, slice_get, ℤ, pos, ◌+ℤ◌}
use Rattle.std.proofs.Common.{◌*ℤ◌, Some, ap, sym, subst, ◌∙◌, refl, arith}
use Rattle.std.proofs.lemmas.Bool.Decides.{leb_tells}
use Rattle.std.proofs.lemmas.Int.{ints}
use Rattle.std.proofs.lemmas.List.{drop_all}
use Rattle.vcp_base.specs.Code.{modulus}
use Rattle.coded_unit.specs.Words.{modulo}
use Rattle.coded_unit.specs.WordLaws.{WordLaws}
use Rattle.op_graph.specs.Lists.{Lists}
use Rattle.vcp_base.specs.Values.{at}
use Rattle.weight_audit.specs.Audit.{Audit, IsAudit, weight_kept}
use Rattle.weight_audit.specs.Weights.{sums, weight}
use Rattle.fault_cover.specs.declared.starts.Start.{Start}
use Rattle.fault_cover.specs.Beginnings.{start_at, starts_at}
use Rattle.fault_cover.specs.Sources.{Source, comes, part}
use Rattle.fault_cover.proofs.Choosing.{mapped_back}
use Rattle.fault_cover.proofs.Dividing.{plus_product, plus_residue}
use Rattle.fault_cover.proofs.Gathering.{front_of}

no_more : (z : ℤ) → z +ℤ pos 0 ≡ z
no_more z = omega (arith, ints)

module _ (g : Lists) (laws : WordLaws g.profile) (out borders : ℕ) where
  -- a source that is behind these borders brings nothing
  pub part_behind : (before : ℕ) (s : Source) → before < modulus g.profile → borders < s.borders → before ≡ modulo g.profile
      (pos before +ℤ part g out borders s)
  part_behind before s below behind = ⊎_elim
      (λ (h : (nat_le s.borders borders ≡ true) × (s.borders ≤ borders)). absurd (let le = h.1 in omega (arith, le, behind)))
      (λ (h : (nat_le s.borders borders ≡ false) × (borders < s.borders)).
      let none : part g out borders s ≡ pos 0 = ap (λ b. cond b (s.amount *ℤ pos (weight g out (borders - s.borders) s.op)) (pos 0)) h.0 in
      sym (ap (λ z. modulo g.profile (pos before +ℤ z)) none ∙ ap (modulo g.profile) (no_more (pos before)) ∙ laws.small before below))
      (leb_tells s.borders borders)

  pub part_there : (before w : ℕ) (m : ℤ) (s : Source) → s.borders ≤ borders → w ≡ weight g out (borders - s.borders) s.op
      → m ≡ pos (modulo g.profile s.amount) *ℤ pos w → modulo g.profile (pos before +ℤ m) ≡ modulo g.profile (pos before +ℤ part g out borders s)
  part_there before w m s within weight_is product = ⊎_elim
      (λ (h : (nat_le s.borders borders ≡ true) × (s.borders ≤ borders)).
      let whole : part g out borders s ≡ s.amount *ℤ pos (weight g out (borders - s.borders) s.op) =
      ap (λ b. cond b (s.amount *ℤ pos (weight g out (borders - s.borders) s.op)) (pos 0)) h.0 in
      ap (λ z. modulo g.profile (pos before +ℤ z)) product ∙ plus_product g.profile laws (pos before) s.amount (pos w)
      ∙ ap (λ x. modulo g.profile (pos before +ℤ s.amount *ℤ pos x)) weight_is ∙ sym (ap (λ z. modulo g.profile (pos before +ℤ z)) whole))
      (λ (h : (nat_le s.borders borders ≡ false) × (borders < s.borders)). absurd (let lt = h.1 in omega (arith, within, lt)))
      (leb_tells s.borders borders)

  pub then_there : (before w : ℕ) (m : ℤ) (start : Start) (s : Source) → start ≡ start_at g.profile s → start.borders ≤ borders
      → w ≡ weight g out (borders - start.borders) start.op → m ≡ pos start.amount *ℤ pos w
      → modulo g.profile (pos before +ℤ m) ≡ modulo g.profile (pos before +ℤ part g out borders s)
  then_there before w m start s is within weight_is product =
      let same : start.borders ≡ s.borders = ap (λ (x : Start). x.borders) is in
      part_there before w m s (omega (arith, within, same)) (weight_is ∙ ap (λ (x : Start). weight g out (borders - x.borders) x.op) is)
      (product ∙ ap (λ (x : Start). pos x.amount *ℤ pos w) is)

  -- what came, and what is to come
  pub one_more : (before after i : ℕ) (from : List Source) (starts : List Start) (start : Start) → starts ≡ starts_at g.profile from
      → slice_get starts i ≡ Some start → ((s : Source) → start ≡ start_at g.profile s → after ≡ modulo g.profile (pos before +ℤ part g out borders s))
      → modulo g.profile (pos before +ℤ comes g out borders (drop i from)) ≡ modulo g.profile (comes g out borders from)
      → modulo g.profile (pos after +ℤ comes g out borders (drop (i + 1) from)) ≡ modulo g.profile (comes g out borders from)
  one_more before after i from starts start is there then was =
      let source = mapped_back (start_at g.profile) from i start (sym (ap (λ xs. slice_get xs i) is) ∙ there) in
      let s = source.0 in
      let rest = comes g out borders (drop (i + 1) from) in
      let more : suc i ≡ i + 1 = omega arith in
      let front : drop i from ≡ s ∷ drop (i + 1) from = front_of from i s source.1 ∙ ap (λ m. s ∷ drop m from) more in
      let sum : comes g out borders (drop i from) ≡ part g out borders s +ℤ rest = ap (comes g out borders) front in
      let turned : (pos before +ℤ part g out borders s) +ℤ rest ≡ pos before +ℤ (part g out borders s +ℤ rest) = omega (arith, ints) in
      ap (λ n. modulo g.profile (pos n +ℤ rest)) (then s (sym source.2)) ∙ plus_residue g.profile laws (pos before +ℤ part g out borders s) rest
      ∙ ap (modulo g.profile) turned ∙ sym (ap (λ z. modulo g.profile (pos before +ℤ z)) sum) ∙ was

  pub none_more : (sum i : ℕ) (from : List Source) → sum < modulus g.profile → length from ≤ i
      → modulo g.profile (pos sum +ℤ comes g out borders (drop i from)) ≡ modulo g.profile (comes g out borders from)
      → sum ≡ modulo g.profile (comes g out borders from)
  none_more sum i from below past was =
      sym (ap (λ z. modulo g.profile (pos sum +ℤ z)) (ap (comes g out borders) (drop_all i from past)) ∙ ap (modulo g.profile) (no_more (pos sum))
      ∙ laws.small sum below) ∙ was

  pub at_first : (from : List Source) → modulo g.profile (pos 0 +ℤ comes g out borders (drop 0 from)) ≡ modulo g.profile (comes g out borders from)
  at_first from = ap (modulo g.profile) (let none : pos 0 +ℤ comes g out borders from ≡ comes g out borders from = omega (arith, ints) in none)

-- ---- the weights that are kept

pub there_is : {X : Type 0} (xs : List X) (i : ℕ) → i < length xs → (x : X) × (slice_get xs i ≡ Some x)
there_is [] i lt = absurd (omega (arith, lt))
there_is (x ∷ xs) zero lt = (x, refl)
there_is (x ∷ xs) (suc i) lt = there_is xs i (omega (arith, lt))

pub kept_below : (g : Lists) (a : Audit) (horizon : ℕ) → IsAudit g horizon a → WordLaws g.profile → (op output after : ℕ) → op < length g.operations
    → output < length g.outputs → after ≤ horizon → weight_kept a op output after < modulus g.profile
kept_below g a horizon audit laws op output after inside there within =
    let o = there_is g.outputs output there in
    let is = audit.weight op output after o.0 inside o.1 within in
    subst (λ n. n < modulus g.profile) (sym is) (laws.below (at (sums g o.0.op after) op))
