-- OneFile: what a file comes to is one task, and what holds of each task that it may come to holds of it.
use Rattle.std.proofs.Common.{ℕ, ◌≡◌, ◌≤◌, refl, ap, subst, List, length, Option, Some, None, arith}
use Rattle.vcp_inputs.specs.declared.refusal.Refusal.{Refusal}
use Rattle.vcp_inputs.specs.Files.{IsRefused, long, short}
use Rattle.vcp_inputs.specs.FileTasks.{TakenFile, missing, untaken, taken}
use Rattle.vcp_inputs.specs.Kinds.{Task, lacks, refusal_task}

-- a text is refused in one way
one_refusal : (Why : List ℕ → Refusal → Type 0) (most : ℕ) (text : List ℕ) → ((r s : Refusal) → Why text r → Why text s → r ≡ s) →
    (r s : Refusal) → IsRefused Why most text r → IsRefused Why most text s → r ≡ s
one_refusal Why most text one _ _ (long l) (long m) = refl
one_refusal Why most text one _ _ (long l) (short s m why) = absurd (omega (arith, l, m))
one_refusal Why most text one _ _ (short r l why) (long m) = absurd (omega (arith, l, m))
one_refusal Why most text one _ _ (short r l why) (short s m other) = one r s why other

-- and not where it is taken
not_refused : (Why : List ℕ → Refusal → Type 0) (most : ℕ) (text : List ℕ) → length text ≤ most → ((r : Refusal) → Why text r → ⊥) →
    (r : Refusal) → IsRefused Why most text r → ⊥
not_refused Why most text few none _ (long l) = omega (arith, few, l)
not_refused Why most text few none _ (short r l why) = none r why

module _ {V : Type 0} (Is : List ℕ → V → Type 0) (Why : List ℕ → Refusal → Type 0) (most : ℕ) (Then : V → Task → Type 0) (name : List ℕ)
    (found : Option (List ℕ)) where
  -- the bytes are one list
  one_text : (x y : List ℕ) → found ≡ Some x → found ≡ Some y → x ≡ y
  one_text x y is other = cc

  module _ (value : (text : List ℕ) (v w : V) → Is text v → Is text w → v ≡ w) (cause : (text : List ℕ) (r s : Refusal) → Why text r → Why text s → r ≡ s)
      (either : (text : List ℕ) (v : V) (r : Refusal) → Is text v → Why text r → ⊥) (next : (v : V) (a b : Task) → Then v a → Then v b → a ≡ b) where
    pub one_file : (a b : Task) → TakenFile Is Why most Then name found a → TakenFile Is Why most Then name found b → a ≡ b
    one_file _ _ (missing none) (missing again) = refl
    one_file _ _ (missing none) (untaken y s there refused) = absurd cc
    one_file _ _ (missing none) (taken y w b there few is comes) = absurd cc
    one_file _ _ (untaken x r here refused) (missing none) = absurd cc
    one_file _ _ (untaken x r here refused) (untaken y s there other) =
        let same : y ≡ x = one_text y x there here in
        ap (refusal_task name) (one_refusal Why most x (cause x) r s refused (subst (λ (t : List ℕ). IsRefused Why most t s) same other))
    one_file _ _ (untaken x r here refused) (taken y w b there few is comes) =
        let same : x ≡ y = one_text x y here there in
        absurd (not_refused Why most y few (λ s why. either y w s is why) r (subst (λ (t : List ℕ). IsRefused Why most t r) same refused))
    one_file _ _ (taken x v a here few is comes) (missing none) = absurd cc
    one_file _ _ (taken x v a here few is comes) (untaken y s there refused) =
        let same : y ≡ x = one_text y x there here in
        absurd (not_refused Why most x few (λ r why. either x v r is why) s (subst (λ (t : List ℕ). IsRefused Why most t s) same refused))
    one_file _ _ (taken x v a here few is comes) (taken y w b there more other goes) =
        let same : y ≡ x = one_text y x there here in
        let one : w ≡ v = value x w v (subst (λ (t : List ℕ). Is t w) same other) is in
        next v a b comes (subst (λ (u : V). Then u b) one goes)

  -- what holds of the lacking name where there is no file, of each refusal and of each task behind, holds of the task
  pub file_has : (P : Task → Type 0) → (found ≡ None → P (lacks name)) → ((r : Refusal) → P (refusal_task name r)) →
      ((v : V) (t : Task) → Then v t → P t) → (task : Task) → TakenFile Is Why most Then name found task → P task
  file_has P none refused next _ (missing is) = none is
  file_has P none refused next _ (untaken x r is why) = refused r
  file_has P none refused next task (taken x v t is few value comes) = next v t comes
