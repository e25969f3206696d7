-- Copies: the front of a list, and operations that are folded one by one.
use Rattle.std.proofs.Common.{◌≡◌, ℕ, zero, suc, ◌+◌, List, [], ◌∷◌, ◌++◌, take, slice_get, Some, sym, ap, ◌∙◌, append_assoc, arith}
use Rattle.std.proofs.lemmas.List.{append-nil}
use Rattle.op_graph.specs.declared.op.Op.{Op}
use Rattle.op_graph.specs.declared.op.Loaded.{Loaded}
use Rattle.op_graph.specs.declared.op.Cell.{Cell}
use Rattle.op_graph.specs.Lists.{joined}
use Rattle.graph_passes.specs.Folding.{folded_op, folded_after}

take_suc : {X : Type 0} (xs : List X) (i : ℕ) (x : X) → slice_get xs i ≡ Some x → take (suc i) xs ≡ take i xs ++ x ∷ []
take_suc [] i x e = absurd cc
take_suc (y ∷ xs) zero x e = let same : y ≡ x = cc in ap (λ z. z ∷ []) same
take_suc (y ∷ xs) (suc i) x e = ap (λ l. y ∷ l) (take_suc xs i x e)

pub take_next : {X : Type 0} (xs : List X) (i : ℕ) (x : X) → slice_get xs i ≡ Some x → take (i + 1) xs ≡ take i xs ++ x ∷ []
take_next xs i x e = let next : i + 1 ≡ suc i = omega arith in ap (λ n. take n xs) next ∙ take_suc xs i x e

-- a cell is what its LOAD makes and the number of its STORE
pub record CellParts (loads : List Loaded) (stores : List ℕ) (i : ℕ) (c : Cell) : Type 0 where
  pub load : slice_get loads i ≡ Some (record { name = c.name; ty = c.ty; init = c.init; load = c.load })
  pub store : slice_get stores i ≡ Some c.store

pub cell_parts : (loads : List Loaded) (stores : List ℕ) (i : ℕ) (c : Cell) → slice_get (joined loads stores) i ≡ Some c → CellParts loads stores i c
cell_parts [] stores i c e = absurd cc
cell_parts (l ∷ loads) [] i c e = absurd cc
cell_parts (l ∷ loads) (n ∷ stores) zero c e = let same : (let x : Cell = record { name = l.name; ty = l.ty; init = l.init; load = l.load; store = n } in
    x) ≡ c = cc in
    record {
      load = ap (λ (x : Cell). Some (record { name = x.name; ty = x.ty; init = x.init; load = x.load })) same;
      store = ap (λ (x : Cell). Some x.store) same;
    }
cell_parts (l ∷ loads) (n ∷ stores) (suc i) c e = let rest = cell_parts loads stores i c e in record { load = rest.load; store = rest.store }

folded_push : (done ops : List Op) (op : Op) → folded_after done (ops ++ op ∷ []) ≡ folded_after done ops ++ folded_op (done ++ folded_after done ops) op ∷ []
folded_push done [] op = ap (λ b. folded_op b op ∷ []) (sym (append-nil done))
folded_push done (x ∷ ops) op =
    let o = folded_op done x in
    ap (λ l. o ∷ l) (folded_push (done ++ o ∷ []) ops op ∙ ap (λ b. folded_after (done ++ o ∷ []) ops ++ folded_op b op ∷ []) (append_assoc done (o ∷ [])
    (folded_after (done ++ o ∷ []) ops)))

-- one more operation is folded over those before it
pub folded_next : (ops : List Op) (i : ℕ) (op : Op) → slice_get ops i ≡ Some op →
    folded_after [] (take (i + 1) ops) ≡ folded_after [] (take i ops) ++ folded_op (folded_after [] (take i ops)) op ∷ []
folded_next ops i op e = ap (folded_after []) (take_next ops i op e) ∙ folded_push [] (take i ops) op

pub folded_pushed : (new old before ops : List Op) (i : ℕ) (op o : Op) → new ≡ old ++ o ∷ [] → old ≡ folded_after [] (take i ops) → before ≡ old →
    slice_get ops i ≡ Some op → o ≡ folded_op before op → new ≡ folded_after [] (take (i + 1) ops)
folded_pushed new old before ops i op o pushed held same there is =
    pushed ∙ ap (λ l. l ++ o ∷ []) held ∙ ap (λ p. folded_after [] (take i ops) ++ p ∷ []) (is ∙ ap (λ l. folded_op l op) (same ∙ held))
    ∙ sym (folded_next ops i op there)
