-- Making: the corrections of a graph, one operation after another.
use Rattle.std.proofs.Common.{◌≡◌, ◌∙◌, ℕ, zero, suc, ◌+◌, ◌<◌, ◌≤◌, ◌++◌, ◌∷◌, [], All, List, length, drop, slice_get, get_or, Some, arith, add-one, drop-cons}
use Rattle.std.proofs.Common.{append_assoc, length-append, sym, ap}
use Rattle.std.specs.Prelude.{unsigned_abs}
use Rattle.std.proofs.lemmas.Option.{get_or_from_slice_get, slice_get_within}
use Rattle.std.proofs.lemmas.List.{append-nil, drop_all}
use Rattle.std.proofs.lemmas.List.Elements.{All-append}
use Rattle.vcp_base.specs.declared.code.Profile.{Profile}
use Rattle.vcp_base.specs.Code.{modulus}
use Rattle.op_graph.specs.declared.op.Op.{Op}
use Rattle.op_graph.specs.declared.op.Cell.{Cell}
use Rattle.signature_table.specs.Signatures.{correction, corrections_from, store_of}

-- the corrections of the operations below k are made, and those of the others are to come
pub record MadeUpTo (p : Profile) (seed step : ℕ) (held : List Cell) (operations : List Op) (made : List ℕ) (k : ℕ) : Type 0 where
  pub count : length made ≡ k
  pub residues : All (λ c. c < modulus p) made
  pub rest : made ++ corrections_from p seed step held k (drop k operations) ≡ corrections_from p seed step held 0 operations

one_at : (n c i d : ℕ) → c < n → i < 1 → get_or (c ∷ []) i d < n
one_at n c zero d lt below = lt
one_at n c (suc i) d lt below = absurd (omega arith)

pub one_more : (p : Profile) (seed step : ℕ) (held : List Cell) (operations : List Op) (made : List ℕ) (k : ℕ) (op : Op) (c : ℕ)
    → MadeUpTo p seed step held operations made k → slice_get operations k ≡ Some op → c ≡ correction p seed step k op (store_of held (unsigned_abs op.imm))
    → c < modulus p → MadeUpTo p seed step held operations (made ++ c ∷ []) (k + 1)
one_more p seed step held operations made k op c m there is below =
    let within : k < length operations = slice_get_within operations k op there in
    let here : get_or operations k op ≡ op = get_or_from_slice_get operations k op op there in
    let front : drop k operations ≡ op ∷ drop (k + 1) operations = rw add-one (drop-cons operations k op within ∙ ap (λ o. o ∷ drop (suc k) operations) here) in
    let tail : List ℕ = corrections_from p seed step held (k + 1) (drop (k + 1) operations) in
    record {
      count = simp length-append (omega (arith, m.count));
      residues = All-append (λ x. x < modulus p) made (c ∷ []) m.residues (λ i d one. one_at (modulus p) c i d below one);
      rest = append_assoc made (c ∷ []) tail ∙ ap (λ x. made ++ x ∷ tail) is ∙ sym (ap (λ ops. made ++ corrections_from p seed step held k ops) front) ∙ m.rest;
    }

-- where all are made, these are the graph's
pub whole : (p : Profile) (seed step : ℕ) (held : List Cell) (operations : List Op) (made : List ℕ) (k : ℕ)
    → MadeUpTo p seed step held operations made k → length operations ≤ k → made ≡ corrections_from p seed step held 0 operations
whole p seed step held operations made k m past =
    sym (ap (λ ops. made ++ corrections_from p seed step held k ops) (drop_all k operations past) ∙ append-nil made) ∙ m.rest
