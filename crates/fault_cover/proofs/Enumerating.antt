-- Enumerating: the faults of a class at an operation, row by row and column by column.
use Rattle.std.proofs.Common.{◌≡◌, ◌≢◌, ⊎_elim, ℕ, zero, suc, ◌<◌, ◌≤◌, ◌+◌, ◌-◌, nat_lt, Bool, true, false, cond, List, [], ◌∷◌, ◌++◌, map, length, slice_get}
use Rattle.std.proofs.Common.{Option, Some, None, refl, ap, ◌∙◌, arith}
use Rattle.std.proofs.lemmas.Bool.Decides.{leb_tells}
use Rattle.std.proofs.lemmas.List.{map-append}
use Rattle.vcp_base.specs.declared.kind.Kind.{Kind}
use Rattle.vcp_base.specs.Kinds.{operands}
use Rattle.vcp_base.specs.Spellings.{kinds}
use Rattle.op_graph.specs.declared.op.Op.{Op}
use Rattle.op_graph.specs.Lists.{Lists}
use Rattle.op_graph.specs.Rules.{is_out}
use Rattle.fault_script.specs.declared.act.Act.{Act}
use Rattle.fault_script.specs.declared.act.Act.TheVariants as act
use Rattle.fault_sites.specs.Sites.{each_below, from_one, operator_one}
use Rattle.fault_cover.specs.declared.class.CoverClass.{CoverClass}
use Rattle.fault_cover.specs.declared.class.CoverClass.TheVariants as cover
use Rattle.fault_cover.specs.declared.disturbance.Disturbance.{Disturbance}
use Rattle.fault_cover.specs.declared.disturbance.Disturbance.TheVariants as disturbance
use Rattle.fault_cover.specs.Candidates.{addition, candidate, columns, row, rows}
use Rattle.fault_cover.specs.Classes.{disturbances, late_one, may_be_late}
use Rattle.fault_cover.specs.Sited.{IsSited}
use Rattle.fault_cover.specs.Sources.{readings}
use Rattle.fault_cover.proofs.Below.{same_below}

map_below : {X Y : Type 0} (f : X → Y) (g : ℕ → List X) (n : ℕ) → map f (each_below g n) ≡ each_below (λ i. map f (g i)) n
map_below f g zero = refl
map_below f g (suc n) = map-append f (each_below g n) (g n) ∙ ap (λ xs. xs ++ map f (g n)) (map_below f g n)

additions_are : (n : ℕ) → disturbance.AddToResult ∷ each_below (λ j. disturbance.AddToOperand j ∷ []) n ≡ each_below (λ j. addition j ∷ []) (suc n)
additions_are zero = refl
additions_are (suc n) = ap (λ xs. xs ++ disturbance.AddToOperand n ∷ []) (additions_are n)

rests_are : (leaves : Bool) (f : ℕ → List Disturbance) (n : ℕ) → cond leaves [] (each_below f n) ≡ each_below f (cond leaves 0 n)
rests_are true f n = refl
rests_are false f n = refl

pub rows_are : (c : CoverClass) (g : Lists) (k : ℕ) (op : Op) → disturbances c g k op ≡ each_below (row c g k op) (rows c op)
rows_are cover.Add g k op = additions_are (operands op.kind)
rows_are cover.Rest g k op = rests_are (is_out op.kind) (λ i. disturbance.AddToRest (i + 1) ∷ []) (length (readings g k) - 2)
rows_are cover.Stale g k op = map_below disturbance.Does (λ j. act.OperandStale j ∷ []) (operands op.kind)
rows_are cover.Skip g k op = refl
rows_are cover.From g k op =
    map_below disturbance.Does (λ j. each_below (λ r. from_one op j r (slice_get g.operations r)) k) (operands op.kind)
    ∙ same_below (λ j. map disturbance.Does (each_below (λ r. from_one op j r (slice_get g.operations r)) k)) (row cover.From g k op) (operands op.kind)
    (λ j lt. map_below disturbance.Does (λ r. from_one op j r (slice_get g.operations r)) k)
rows_are cover.Late g k op = refl
rows_are cover.Operator g k op = map_below disturbance.Does (λ code. operator_one op.kind (slice_get kinds code)) 19

pub few_operands : (k : Kind) → operands k ≤ 3
few_operands k = grind arith

-- ---- where a word changes between two of its readings, some are left

pub addition_past : (j : ℕ) → j ≢ 0 → disturbance.AddToOperand (j - 1) ≡ addition j
addition_past zero past = absurd (past refl)
addition_past (suc j) past = ap disturbance.AddToOperand (omega arith)

-- no other fault is such a one
no_act : (acts : List Act) (n : ℕ) → map disturbance.Does acts ≡ disturbance.AddToRest n ∷ [] → ⊥
no_act [] n e = cc
no_act (a ∷ acts) n e = cc

no_addition : (j n : ℕ) → addition j ∷ [] ≡ disturbance.AddToRest n ∷ [] → ⊥
no_addition zero n e = cc
no_addition (suc j) n e = cc

no_late_if : (may : Bool) (j r n : ℕ) → cond may (disturbance.Late j r ∷ []) [] ≡ disturbance.AddToRest n ∷ [] → ⊥
no_late_if true j r n e = cc
no_late_if false j r n e = cc

no_late : (g : Lists) (op : Op) (j r : ℕ) (source : Option Op) (n : ℕ) → late_one g op j r source ≡ disturbance.AddToRest n ∷ [] → ⊥
no_late g op j r None n e = cc
no_late g op j r (Some source) n e = no_late_if (may_be_late g op j r source) j r n e

few_rests : (leaves : Bool) (i n : ℕ) → i < cond leaves 0 (n - 2) → i + 1 < n
few_rests true i n lt = omega (arith, lt)
few_rests false i n lt = omega (arith, lt)

rest_is : (i n : ℕ) → disturbance.AddToRest (i + 1) ∷ [] ≡ disturbance.AddToRest n ∷ [] → i + 1 ≡ n
rest_is i n e = cc

rest_within : (c : CoverClass) (g : Lists) (k : ℕ) (op : Op) (j i n : ℕ) → i < columns c g k op → candidate c g k op j i ≡ disturbance.AddToRest n ∷ []
    → n < length (readings g k)
rest_within cover.Add g k op j i n lt e = absurd (no_addition j n e)
rest_within cover.Rest g k op j i n lt e =
    let same = rest_is i n e in
    let few = few_rests (is_out op.kind) i (length (readings g k)) lt in
    omega (arith, same, few)
rest_within cover.Stale g k op j i n lt e = absurd (no_act (act.OperandStale j ∷ []) n e)
rest_within cover.Skip g k op j i n lt e = absurd (no_act (act.Skip ∷ []) n e)
rest_within cover.From g k op j i n lt e = absurd (no_act (from_one op j i (slice_get g.operations i)) n e)
rest_within cover.Late g k op j i n lt e = absurd (no_late g op j (k + i) (slice_get g.operations (k + i)) n e)
rest_within cover.Operator g k op j i n lt e = absurd (no_act (operator_one op.kind (slice_get kinds i)) n e)

pub stands : (c : CoverClass) (g : Lists) (k : ℕ) (op : Op) (j i : ℕ) → i < columns c g k op → (d : Disturbance)
    → candidate c g k op j i ≡ d ∷ [] → IsSited g k d
stands c g k op j i lt disturbance.AddToResult e = refl
stands c g k op j i lt (disturbance.AddToOperand n) e = refl
stands c g k op j i lt (disturbance.AddToRest n) e = let within = rest_within c g k op j i n lt e in ⊎_elim
    (λ (h : (nat_lt n (length (readings g k)) ≡ true) × (suc n ≤ length (readings g k))). h.0)
    (λ (h : (nat_lt n (length (readings g k)) ≡ false) × (length (readings g k) < suc n)). absurd (let past = h.1 in omega (arith, within, past)))
    (leb_tells (suc n) (length (readings g k)))
stands c g k op j i lt (disturbance.Late n r) e = refl
stands c g k op j i lt (disturbance.Does a) e = refl
