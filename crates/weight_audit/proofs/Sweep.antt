-- Sweep: what numbers stand for while the operations hand their weights on, from the last to the first, and cells across a border.
use Rattle.std.proofs.Common.{◌≡◌, ℕ, suc, ◌<◌, ◌≤◌, ◌==◌, cond, Bool, true, false, ℤ, pos, ◌+ℤ◌, ◌*ℤ◌, List, length, drop, slice_get, Some, ap, sym, ◌∙◌, refl, arith}
use Rattle.std.proofs.lemmas.Int.{ints}
use Rattle.std.proofs.lemmas.List.{drop_all}
use Rattle.std.proofs.lemmas.Option.{slice_get_within}
use Rattle.vcp_base.specs.declared.code.Profile.{Profile}
use Rattle.vcp_base.specs.Values.{at}
use Rattle.coded_unit.specs.Words.{modulo}
use Rattle.coded_unit.specs.WordLaws.{WordLaws}
use Rattle.op_graph.specs.declared.op.Cell.{Cell}
use Rattle.op_graph.specs.declared.op.Op.{Op}
use Rattle.weight_audit.specs.Weights.{factor, by_readers, weights_from, at_out, across}
use Rattle.weight_audit.specs.Sweeping.{number, greater, AreResidues}
use Rattle.weight_audit.proofs.FirstSteps.{ReadsBefore, first_steps}
use Rattle.weight_audit.proofs.Places.{front_of}
use Rattle.weight_audit.proofs.Residues.{residue_times, are_same, are_equal}

-- what the numbers stand for when the operations from i on have handed their weights on
abbrev pub handed_on : (ℕ → ℤ) → List Op → ℕ → ℕ → ℤ
handed_on leaving ops i k = leaving k +ℤ by_readers k (drop i ops) (weights_from leaving i (drop i ops))

pub none_yet : (p : Profile) (leaving : ℕ → ℤ) (ops : List Op) (i : ℕ) (numbers : List ℕ) → length ops ≤ i → AreResidues p (length ops) leaving numbers
    → AreResidues p (length ops) (handed_on leaving ops i) numbers
none_yet p leaving ops i numbers le are = are_equal p (length ops) leaving (handed_on leaving ops i) numbers are (λ k.
    ends k ∙ ap (λ xs. leaving k +ℤ by_readers k xs (weights_from leaving i xs)) (sym (drop_all i ops le)))
  where
    ends : (k : ℕ) → leaving k ≡ leaving k +ℤ pos 0
    ends k = omega (arith, ints)

regrouped : (a f w b : ℤ) → a +ℤ b +ℤ f *ℤ w ≡ a +ℤ (f *ℤ w +ℤ b)
regrouped a f w b = omega (arith, ints)

-- operation i has handed its weight on too
pub one_more : (p : Profile) (leaving : ℕ → ℤ) (ops : List Op) (i : ℕ) (op : Op) (numbers new : List ℕ) → WordLaws p → slice_get ops i ≡ Some op
    → AreResidues p (length ops) (handed_on leaving ops (suc i)) numbers
    → AreResidues p (length ops) (λ k. handed_on leaving ops (suc i) k +ℤ factor op k *ℤ pos (number numbers i)) new
    → AreResidues p (length ops) (handed_on leaving ops i) new
one_more p leaving ops i op numbers new laws there are more = are_same p (length ops) _ (handed_on leaving ops i) new more (λ k lt.
    let rest = drop (suc i) ops in
    let own = handed_on leaving ops (suc i) in
    ap (λ w. modulo p (own k +ℤ factor op k *ℤ pos w)) (are.each i (slice_get_within ops i op there))
    ∙ residue_times p laws (own k) (factor op k) (own i)
    ∙ ap (modulo p) (regrouped (leaving k) (factor op k) (own i) (by_readers k rest (weights_from leaving (suc i) rest)))
    ∙ ap (λ xs. modulo p (leaving k +ℤ by_readers k xs (weights_from leaving i xs))) (sym (front_of ops i op there)))

-- all have
pub all_have : (p : Profile) (leaving : ℕ → ℤ) (ops : List Op) (numbers : List ℕ) → ReadsBefore 0 ops
    → AreResidues p (length ops) (handed_on leaving ops 0) numbers → AreResidues p (length ops) (at (weights_from leaving 0 ops)) numbers
all_have p leaving ops numbers before are = are_same p (length ops) (handed_on leaving ops 0) (at (weights_from leaving 0 ops)) numbers are (λ k lt.
    ap (modulo p) (sym (first_steps leaving 0 ops k k before lt (omega arith))))

-- ---- the first numbers

at_out_is : (out k : ℕ) → pos 0 +ℤ cond (k == out) (pos 1 *ℤ pos 1) (pos 0) ≡ at_out out k
at_out_is out k = by_test (k == out)
  where
    by_test : (b : Bool) → pos 0 +ℤ cond b (pos 1 *ℤ pos 1) (pos 0) ≡ cond b (pos 1) (pos 0)
    by_test true = refl
    by_test false = refl

pub are_at_out : (p : Profile) (count out : ℕ) (numbers : List ℕ) → AreResidues p count (greater (λ k. pos 0) out (pos 1 *ℤ pos 1)) numbers
    → AreResidues p count (at_out out) numbers
are_at_out p count out numbers are = are_equal p count _ (at_out out) numbers are (at_out_is out)

-- ---- across a border

-- the cells before the i-th have been taken across
pub record CrossedUpTo (p : Profile) (count : ℕ) (cells : List Cell) (weights : List ℤ) (i : ℕ) (numbers : List ℕ) : Type 0 where
  pub so_far : ℕ → ℤ
  pub are : AreResidues p count so_far numbers
  pub rest : (k : ℕ) → so_far k +ℤ across (drop i cells) weights k ≡ across cells weights k

pub none_crossed : (p : Profile) (count : ℕ) (cells : List Cell) (weights : List ℤ) (numbers : List ℕ) → AreResidues p count (λ k. pos 0) numbers
    → CrossedUpTo p count cells weights 0 numbers
none_crossed p count cells weights numbers are = record { so_far = λ k. pos 0; are = are; rest = λ k. omega (arith, ints) }

grows : (a b c d : ℤ) → a +ℤ (b +ℤ c) ≡ d → a +ℤ b +ℤ c ≡ d
grows a b c d e = omega (arith, ints)

same_residue : (p : Profile) → WordLaws p → (f : ℤ) (b : Bool) (n : ℕ) (z : ℤ) → n ≡ modulo p z
    → modulo p (f +ℤ cond b (pos n) (pos 0)) ≡ modulo p (f +ℤ cond b z (pos 0))
same_residue p laws f false n z e = refl
same_residue p laws f true n z e =
    let once : (x : ℤ) → f +ℤ x ≡ f +ℤ pos 1 *ℤ x = λ x. omega (arith, ints) in
    ap (λ m. modulo p (f +ℤ pos m)) e ∙ ap (modulo p) (once (pos (modulo p z))) ∙ residue_times p laws f (pos 1) z ∙ ap (modulo p) (sym (once z))

pub one_crossed : (p : Profile) (count : ℕ) (cells : List Cell) (weights : List ℤ) (i : ℕ) (cell : Cell) (later numbers new : List ℕ) → WordLaws p
    → slice_get cells i ≡ Some cell → cell.load < count
    → AreResidues p count (at weights) later → CrossedUpTo p count cells weights i numbers
    → ((f : ℕ → ℤ) → AreResidues p count f numbers → AreResidues p count (greater f cell.store (pos (number later cell.load))) new)
    → CrossedUpTo p count cells weights (suc i) new
one_crossed p count cells weights i cell later numbers new laws there inside are crossed more = record {
  so_far = greater crossed.so_far cell.store (at weights cell.load);
  are = are_same p count _ (greater crossed.so_far cell.store (at weights cell.load)) new (more crossed.so_far crossed.are) (λ k lt.
      same_residue p laws (crossed.so_far k) (k == cell.store) (number later cell.load) (at weights cell.load) (are.each cell.load inside));
  rest = λ k. grows (crossed.so_far k) (cond (k == cell.store) (at weights cell.load) (pos 0)) (across (drop (suc i) cells) weights k) (across cells weights k)
      (ap (λ cs. crossed.so_far k +ℤ across cs weights k) (sym (front_of cells i cell there)) ∙ crossed.rest k);
}

pub all_crossed : (p : Profile) (count : ℕ) (cells : List Cell) (weights : List ℤ) (i : ℕ) (numbers : List ℕ) → length cells ≤ i
    → CrossedUpTo p count cells weights i numbers → AreResidues p count (across cells weights) numbers
all_crossed p count cells weights i numbers le crossed = are_equal p count crossed.so_far (across cells weights) numbers crossed.are (λ k.
    ends (crossed.so_far k) ∙ ap (λ cs. crossed.so_far k +ℤ across cs weights k) (sym (drop_all i cells le)) ∙ crossed.rest k)
  where
    ends : (z : ℤ) → z ≡ z +ℤ pos 0
    ends z = omega (arith, ints)
