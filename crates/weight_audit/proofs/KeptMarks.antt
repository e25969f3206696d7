-- Kept: what is kept of a graph is one, so far as an audit tells it.
use Rattle.std.proofs.Common.{◌≡◌, ℕ, zero, suc, ◌+◌, ◌<◌, ◌≤◌, ◌==◌, ◌&&◌, cond, Bool, true, false, List, [], ◌∷◌, ◌++◌, length, Some, slice_get, ap, ap₂, sym, ◌∙◌, refl, arith}
use Rattle.std.proofs.lemmas.Bool.{eq-eqb, eqb-true}
use Rattle.op_graph.specs.declared.op.Outlet.{Outlet}
use Rattle.op_graph.specs.Lists.{Lists}
use Rattle.weight_audit.specs.Audit.{Audit, weight_kept, reached_kept, IsAudit}
use Rattle.weight_audit.specs.AuditLines.{reached_text}
use Rattle.run_report.specs.Variables.{output_name}
use Rattle.weight_audit.specs.AuditText.{is_reached, is_blind, count_below, line_if, lines_below, distance_text, distances_below, outputs_below, AuditOf, TellsBlind}

there_is : {X : Type 0} (xs : List X) (i : ℕ) → i < length xs → (x : X) × (slice_get xs i ≡ Some x)
there_is [] i lt = absurd (omega (arith, lt))
there_is (x ∷ xs) zero lt = (x, refl)
there_is (x ∷ xs) (suc i) lt = there_is xs i (omega (arith, lt))

-- two tests that pass together are the same
same_test : (a b : Bool) → (a ≡ true → b ≡ true) → (b ≡ true → a ≡ true) → a ≡ b
same_test true true f g = refl
same_test true false f g = sym (f refl)
same_test false true f g = g refl
same_test false false f g = refl

same_count : (f h : ℕ → Bool) (n : ℕ) → ((k : ℕ) → k < n → f k ≡ h k) → count_below f n ≡ count_below h n
same_count f h zero same = refl
same_count f h (suc n) same = ap₂ (λ a b. a + cond b 1 0) (same_count f h n (λ k lt. same k (omega (arith, lt)))) (same n (omega arith))

same_lines : (f h : ℕ → Bool) (g : Lists) (n : ℕ) → ((k : ℕ) → k < n → f k ≡ h k) → lines_below f g n ≡ lines_below h g n
same_lines f h g zero same = refl
same_lines f h g (suc n) same = ap₂ (λ a b. a ++ line_if b g n) (same_lines f h g n (λ k lt. same k (omega (arith, lt)))) (same n (omega arith))

module _ (g : Lists) (horizon : ℕ) (a b : Audit) (is : IsAudit g horizon a) (other : IsAudit g horizon b) where
  module _ (output after : ℕ) (o : Outlet) (there : slice_get g.outputs output ≡ Some o) (inside : after ≤ horizon) where
    same_reached : (op : ℕ) → is_reached a output after op ≡ is_reached b output after op
    same_reached op = same_test (is_reached a output after op) (is_reached b output after op)
        (λ h. other.complete op output after o there inside (is.sound op output after o there inside h))
        (λ h. is.complete op output after o there inside (other.sound op output after o there inside h))

    same_blind : (op : ℕ) → op < length g.operations → is_blind a output after op ≡ is_blind b output after op
    same_blind op lt =
        ap₂ (λ r w. r && w == 0) (same_reached op) (is.weight op output after o lt there inside ∙ sym (other.weight op output after o lt there inside))

    same_distance : distance_text g a output after ≡ distance_text g b output after
    same_distance =
        ap₂ (λ n m. reached_text (output_name g output) after n m ++ lines_below (is_blind a output after) g (length g.operations))
        (same_count (is_reached a output after) (is_reached b output after) (length g.operations) (λ k lt. same_reached k))
        (same_count (is_blind a output after) (is_blind b output after) (length g.operations) same_blind)
        ∙ ap (λ ls. reached_text (output_name g output) after (count_below (is_reached b output after) (length g.operations))
        (count_below (is_blind b output after) (length g.operations)) ++ ls)
        (same_lines (is_blind a output after) (is_blind b output after) g (length g.operations) same_blind)

  same_distances : (output : ℕ) (o : Outlet) → slice_get g.outputs output ≡ Some o → (n : ℕ) → n ≤ horizon + 1 →
      distances_below g a output n ≡ distances_below g b output n
  same_distances output o there zero le = refl
  same_distances output o there (suc n) le =
      ap₂ (λ s t. s ++ t) (same_distances output o there n (omega (arith, le))) (same_distance output n o there (omega (arith, le)))

  same_outputs : (n : ℕ) → n ≤ length g.outputs → outputs_below g a horizon n ≡ outputs_below g b horizon n
  same_outputs zero le = refl
  same_outputs (suc n) le =
      let o = there_is g.outputs n (omega (arith, le)) in
      ap₂ (λ s t. s ++ t) (same_outputs n (omega (arith, le))) (same_distances n o.0 o.1 (horizon + 1) (omega arith))

pub one_text : (g : Lists) (horizon : ℕ) (s t : List ℕ) → AuditOf g horizon s → AuditOf g horizon t → s ≡ t
one_text g horizon s t x y = x.told ∙ same_outputs g horizon x.audit y.audit x.is y.is (length g.outputs) (omega arith) ∙ sym y.told

both : (a b : Bool) → (a && b) ≡ true → (a ≡ true) × (b ≡ true)
both true true e = (refl, refl)
both true false e = (refl, e)
both false b e = (e, absurd cc)

pub blind_is : (g : Lists) (horizon : ℕ) (a : Audit) → IsAudit g horizon a → TellsBlind g horizon a
blind_is g horizon a is op output after o lt there inside = (
  (λ h.
      let parts = both (reached_kept a op output after) (weight_kept a op output after == 0) h in
      record {
        reached = is.sound op output after o there inside parts.0;
        cancels = sym (is.weight op output after o lt there inside) ∙ eqb-true (weight_kept a op output after) 0 parts.1;
      }),
  (λ h. ap₂ (λ x y. x && y) (is.complete op output after o there inside h.reached)
      (eq-eqb (weight_kept a op output after) 0 (is.weight op output after o lt there inside ∙ h.cancels))),
)
