-- What a walk over entries finds, and where it goes on.
use Rattle.std.proofs.Common.{◌≡◌, ◌≢◌, true, false, cond, ◌==◌, ℕ, ◌+◌, List, slice_get, Option, Some, None, ◌⊎◌, inl, inr, sym, ap, ◌∙◌}
use Rattle.std.proofs.lemmas.Bool.{eq-eqb}
use Rattle.std.proofs.lemmas.Bool.Decides.{eqb_tells}
use Rattle.vcp_base.specs.declared.ty.Ty.{Ty}
use Rattle.op_graph.specs.declared.op.Loaded.{Loaded}
use Rattle.op_graph.specs.declared.rules.Entry.{Entry}
use Rattle.op_graph.specs.Rules.{entry, cell_entry}
use Rattle.op_graph.specs.Walk.{entry_at, is_of, store_at}

is_other : (a b : ℕ) → a ≢ b → (a == b) ≡ false
is_other a b other = of (eqb_tells a b) where
  of : ((a == b) ≡ true) × (a ≡ b) ⊎ ((a == b) ≡ false) × (a ≢ b) → (a == b) ≡ false
  of (inl same) = absurd (other same.1)
  of (inr differ) = differ.0

-- no entry is there
pub none_at : {X : Type 0} (f : X → ℕ) (t : X → Ty) (i k : ℕ) {o : Option X} → o ≡ None → None ≡ entry_at f t i k o
none_at f t i k is = sym (ap (entry_at f t i k) is)

pub none_next : {X : Type 0} (f : X → ℕ) (i k : ℕ) {o : Option X} → o ≡ None → k ≡ cond (is_of f i o) (k + 1) k
none_next f i k is = sym (ap (λ x. cond (is_of f i x) (k + 1) k) is)

-- it is of the operation
pub one_at : {X : Type 0} (f : X → ℕ) (t : X → Ty) (i k : ℕ) {o : Option X} (x : X) → o ≡ Some x → f x ≡ i → Some (entry k (t x)) ≡ entry_at f t i k o
one_at f t i k x is same = sym (ap (entry_at f t i k) is ∙ ap (λ b. cond b (Some (entry k (t x))) None) (eq-eqb (f x) i same))

pub one_next : {X : Type 0} (f : X → ℕ) (i k : ℕ) {o : Option X} (x : X) → o ≡ Some x → f x ≡ i → k + 1 ≡ cond (is_of f i o) (k + 1) k
one_next f i k x is same = sym (ap (λ y. cond (is_of f i y) (k + 1) k) is ∙ ap (λ b. cond b (k + 1) k) (eq-eqb (f x) i same))

-- it is of another one
pub other_at : {X : Type 0} (f : X → ℕ) (t : X → Ty) (i k : ℕ) {o : Option X} (x : X) → o ≡ Some x → f x ≢ i → None ≡ entry_at f t i k o
other_at f t i k x is other = sym (ap (entry_at f t i k) is ∙ ap (λ b. cond b (Some (entry k (t x))) None) (is_other (f x) i other))

pub other_next : {X : Type 0} (f : X → ℕ) (i k : ℕ) {o : Option X} (x : X) → o ≡ Some x → f x ≢ i → k ≡ cond (is_of f i o) (k + 1) k
other_next f i k x is other = sym (ap (λ y. cond (is_of f i y) (k + 1) k) is ∙ ap (λ b. cond b (k + 1) k) (is_other (f x) i other))

-- the cells that the operations store
pub none_stored : (loads : List Loaded) (i k : ℕ) {o : Option ℕ} → o ≡ None → None ≡ store_at loads i k o
none_stored loads i k is = sym (ap (store_at loads i k) is)

pub one_stored : (loads : List Loaded) (i k : ℕ) {o : Option ℕ} (n : ℕ) {r : Option Entry} → o ≡ Some n → n ≡ i → r ≡ cell_entry k (slice_get loads k)
    → r ≡ store_at loads i k o
one_stored loads i k n is same cell =
    cell ∙ sym (ap (store_at loads i k) is ∙ ap (λ b. cond b (cell_entry k (slice_get loads k)) None) (eq-eqb n i same))

pub other_stored : (loads : List Loaded) (i k : ℕ) {o : Option ℕ} (n : ℕ) → o ≡ Some n → n ≢ i → None ≡ store_at loads i k o
other_stored loads i k n is other =
    sym (ap (store_at loads i k) is ∙ ap (λ b. cond b (cell_entry k (slice_get loads k)) None) (is_other n i other))
