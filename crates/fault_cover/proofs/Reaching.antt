-- Reaching: from what is found border by border to what is reached across any number of borders.
use Rattle.std.proofs.Common.{◌≡◌, ⊎_elim, inl, ℕ, zero, suc, ◌+◌, ◌<◌, ◌≤◌, nat_le, Bool, true, false, List, [], ◌∷◌, length, Option, Some, None, ap, sym}
use Rattle.std.proofs.Common.{subst, ◌∙◌, refl, arith}
use Rattle.std.specs.Option.{is_none}
use Rattle.std.proofs.lemmas.Bool.Decides.{leb_tells}
use Rattle.op_graph.specs.declared.op.Cell.{Cell}
use Rattle.op_graph.specs.Lists.{Lists, cells}
use Rattle.op_graph.specs.Reads.{Reads}
use Rattle.weight_audit.specs.Paths.{Crosses, Leads, Step}
use Rattle.fault_cover.specs.declared.nearest.Nearest.{Nearest}
use Rattle.fault_cover.specs.Walks.{NotFurther, further, is_wanted, itself, kept, IsBegun, IsNearest, AreNearest, AreBegun, AreFound, AreWithin, CrossesBelow}
use Rattle.fault_cover.specs.Walks.{ReadsBelow, Swept, missing}
use Rattle.fault_cover.proofs.Nearing.{as_near_same, further_more, no_further_through}
use Rattle.fault_cover.proofs.Crossing.{count_most, count_none}

-- ---- what stays

none_stays : (x y : Option Nearest) → NotFurther x y → is_none x ≡ true → is_none y ≡ true
none_stays None None near none = refl
none_stays None (Some n) near none = absurd near
none_stays (Some m) y near none = absurd cc

module _ (g : Lists) (borders : ℕ) (old new : List (Option Nearest)) (swept : Swept borders old new) where
  pub stays_missing : missing g new ≤ missing g old
  stays_missing = count_most (λ (d : Cell). is_none (kept new d.store)) (λ d. is_none (kept old d.store)) (cells g)
      (λ d. none_stays (kept new d.store) (kept old d.store) (swept.no_further d.store))

  pub stays_crossed : CrossesBelow g borders old → CrossesBelow g borders new
  stays_crossed closed k l n crosses e lt =
      no_further_through (kept new k) (kept old k) (further (Some n) 1) (swept.no_further k) (closed k l n crosses (swept.stays l n e lt) lt)

  pub stays_read : ReadsBelow g borders old → ReadsBelow g borders new
  stays_read closed q k j n reads e lt =
      no_further_through (kept new k) (kept old k) (Some n) (swept.no_further k) (closed q k j n reads (swept.stays q n e lt) lt)

  pub stays_begun : (wanted : List Bool) → AreBegun wanted old → AreBegun wanted new
  stays_begun wanted are q looked_for =
      no_further_through (kept new q) (kept old q) (Some (record { borders = 0; op = q })) (swept.no_further q) (are q looked_for)

pub none_read : (g : Lists) (found : List (Option Nearest)) → ReadsBelow g 0 found
none_read g found q k j n reads e lt = absurd (omega (arith, lt))

pub none_crossed : (g : Lists) (found : List (Option Nearest)) → CrossesBelow g 0 found
none_crossed g found k l n crosses e lt = absurd (omega (arith, lt))

-- ---- at first

itself_is : (b : Bool) (k : ℕ) (n : Nearest) → itself b k ≡ Some n → (b ≡ true) × (record { borders = 0; op = k } ≡ n)
itself_is true k n e =
    let here : Nearest = record { borders = 0; op = k } in
    let same : here ≡ n = cc in
    (refl, same)
itself_is false k n e = absurd cc

module _ (g : Lists) (wanted : List Bool) (found : List (Option Nearest)) (begun : IsBegun wanted found) where
  pub begun_within : AreWithin 0 found
  begun_within k n e =
      let is = (itself_is (is_wanted wanted k) k n (sym (begun.each k) ∙ e)).1 in
      let same : 0 ≡ n.borders = ap (λ (x : Nearest). x.borders) is in
      omega (arith, same)

  pub begun_found : AreFound g wanted found
  begun_found k n e =
      let is = itself_is (is_wanted wanted k) k n (sym (begun.each k) ∙ e) in
      subst (λ (x : Nearest). (is_wanted wanted x.op ≡ true) × ((steps : List Step) × Leads g x.op x.borders k steps)) is.1 (is.0, ([], (refl, refl)))

  pub begun_begun : AreBegun wanted found
  begun_begun q looked_for =
      let here : Nearest = record { borders = 0; op = q } in
      subst (λ x. NotFurther x (Some here)) (sym (begun.each q ∙ ap (λ b. itself b q) looked_for)) (as_near_same here)

-- ---- at last

-- what an operation reads, and the STORE of a cell, are as near as what is reached through the operation and the LOAD
pub record IsClosed (g : Lists) (found : List (Option Nearest)) : Type 0 where
  pub reads : (q k j : ℕ) → Reads g.operations q k j → NotFurther (kept found k) (kept found q)
  pub crosses : (k l : ℕ) → Crosses (cells g) k l → NotFurther (kept found k) (further (kept found l) 1)

all_read : (g : Lists) (found : List (Option Nearest)) → ((borders : ℕ) → ReadsBelow g borders found) → (q k j : ℕ) → Reads g.operations q k j
    → (x : Option Nearest) → kept found q ≡ x → NotFurther (kept found k) x
all_read g found closed q k j reads None e = tt
all_read g found closed q k j reads (Some n) e = closed (suc n.borders) q k j n reads e (let lt : n.borders < suc n.borders = omega arith in lt)

all_crossed : (g : Lists) (borders : ℕ) (found : List (Option Nearest)) → CrossesBelow g borders found
    → ((k l : ℕ) (n : Nearest) → Crosses (cells g) k l → kept found l ≡ Some n → borders ≤ n.borders → NotFurther (kept found k) (further (Some n) 1))
    → (k l : ℕ) → Crosses (cells g) k l → (x : Option Nearest) → kept found l ≡ x → NotFurther (kept found k) (further x 1)
all_crossed g borders found closed past k l crosses None e = tt
all_crossed g borders found closed past k l crosses (Some n) e = ⊎_elim
    (λ (h : (nat_le borders n.borders ≡ true) × (borders ≤ n.borders)). past k l n crosses e h.1)
    (λ (h : (nat_le borders n.borders ≡ false) × (n.borders < borders)). closed k l n crosses e h.1)
    (leb_tells borders n.borders)

-- where a crossing found nothing
pub closed_early : (g : Lists) (borders : ℕ) (old new : List (Option Nearest)) → ((k : ℕ) → kept new k ≡ kept old k) → AreWithin borders old
    → ((most : ℕ) → ReadsBelow g most old) → CrossesBelow g (borders + 1) new → IsClosed g new
closed_early g borders old new same within reads crosses = record {
  reads = λ q k j read.
      subst (λ x. NotFurther x (kept new q)) (sym (same k)) (subst (NotFurther (kept old k)) (sym (same q))
      (all_read g old reads q k j read (kept old q) refl));
  crosses = λ k l cross. all_crossed g (borders + 1) new crosses
      (λ k l n cross e le. absurd (let few = within l n (sym (same l) ∙ e) in omega (arith, few, le))) k l cross (kept new l) refl;
}

found_near : (borders : ℕ) (x : Option Nearest) (n : Nearest) → is_none x ≡ false → ((m : Nearest) → x ≡ Some m → m.borders ≤ borders) → borders ≤ n.borders
    → NotFurther x (further (Some n) 1)
found_near borders None n some within le = absurd cc
found_near borders (Some m) n some within le = inl (let few = within m refl in let lt : m.borders < n.borders + 1 = omega (arith, few, le) in lt)

-- where something is found for each STORE
pub closed_late : (g : Lists) (borders : ℕ) (old new : List (Option Nearest)) → Swept borders old new → missing g old ≡ 0 → AreWithin borders old
    → ((most : ℕ) → ReadsBelow g most new) → CrossesBelow g borders new → IsClosed g new
closed_late g borders old new swept none within reads crosses = record {
  reads = λ q k j read. all_read g new reads q k j read (kept new q) refl;
  crosses = λ k l cross. all_crossed g borders new crosses
      (λ k l n cross e le.
      let some : is_none (kept old cross.cell.store) ≡ false = count_none (λ (d : Cell). is_none (kept old d.store))
      (cells g) cross.number cross.cell none cross.there in
      no_further_through (kept new k) (kept old k) (further (Some n) 1) (swept.no_further k)
      (found_near borders (kept old k) n (subst (λ x. is_none (kept old x) ≡ false) cross.store some) (λ m e. within k m e) le)) k l cross (kept new l) refl;
}

module _ (g : Lists) (wanted : List Bool) (found : List (Option Nearest)) (closed : IsClosed g found) (begun : AreBegun wanted found) where
  -- each path leads to something that is no nearer than what is found
  least : (q : ℕ) → is_wanted wanted q ≡ true → (steps : List Step) (borders k : ℕ) → Leads g q borders k steps
      → NotFurther (kept found k) (Some (record { borders = borders; op = q }))
  least q looked_for [] borders k leads =
      subst (λ b. NotFurther (kept found k) (Some (record { borders = b; op = q }))) (sym leads.1)
      (subst (λ m. NotFurther (kept found m) (Some (record { borders = 0; op = q }))) (sym leads.0) (begun q looked_for))
  least q looked_for (Step.Read r j ∷ steps) borders k leads =
      no_further_through (kept found k) (kept found r) (Some (record { borders = borders; op = q })) (closed.reads r k j leads.0)
      (least q looked_for steps borders r leads.1)
  least q looked_for (Step.Cross l ∷ steps) zero k leads = absurd leads
  least q looked_for (Step.Cross l ∷ steps) (suc borders) k leads =
      let more : borders + 1 ≡ suc borders = omega arith in
      subst (λ b. NotFurther (kept found k) (Some (record { borders = b; op = q }))) more
      (no_further_through (kept found k) (further (kept found l) 1) (Some (record { borders = borders + 1; op = q })) (closed.crosses k l leads.0)
      (further_more (kept found l) (Some (record { borders = borders; op = q })) 1 (least q looked_for steps borders l leads.1)))

  is_nearest : (k : ℕ) (x : Option Nearest) → kept found k ≡ x → AreFound g wanted found → IsNearest g wanted k x
  is_nearest k None e are = λ borders q looked_for path.
      subst (λ x. NotFurther x (Some (record { borders = borders; op = q }))) e (least q looked_for path.0 borders k path.1)
  is_nearest k (Some n) e are =
      let is = are k n e in
      record {
        looked_for = is.0;
        path = is.1;
        least = λ borders q looked_for path.
            subst (λ x. NotFurther x (Some (record { borders = borders; op = q }))) e (least q looked_for path.0 borders k path.1);
      }

  pub are_nearest : length found ≡ length g.operations → AreFound g wanted found → AreWithin (length (cells g)) found → AreNearest g wanted found
  are_nearest many are within = record { many = many; each = λ k. is_nearest k (kept found k) refl are; within = within }
