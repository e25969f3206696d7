-- Cells: the cells of which both parts are there.
use Rattle.std.proofs.Common.{◌≡◌, ℕ, zero, suc, ◌≤◌, List, [], ◌∷◌, length, slice_get, Some, refl, arith}
use Rattle.op_graph.specs.declared.op.Loaded.{Loaded}
use Rattle.op_graph.specs.Lists.{joined}

pub joined_fewer : (loads : List Loaded) (stores : List ℕ) → (length (joined loads stores) ≤ length loads) × (length (joined loads stores) ≤ length stores)
joined_fewer [] stores = (omega arith, omega arith)
joined_fewer (l ∷ loads) [] = (omega arith, omega arith)
joined_fewer (l ∷ loads) (n ∷ stores) = let h = joined_fewer loads stores in (omega (arith, h.0), omega (arith, h.1))

pub length-joined : (loads : List Loaded) (stores : List ℕ) → length stores ≡ length loads → length (joined loads stores) ≡ length loads
length-joined [] stores e = refl
length-joined (l ∷ loads) [] e = absurd (omega arith)
length-joined (l ∷ loads) (n ∷ stores) e = let h = length-joined loads stores (omega arith) in omega arith

pub joined_at : (loads : List Loaded) (stores : List ℕ) (i : ℕ) (l : Loaded) (n : ℕ) → slice_get loads i ≡ Some l → slice_get stores i ≡ Some n
    → slice_get (joined loads stores) i ≡ Some (record { name = l.name; ty = l.ty; init = l.init; load = l.load; store = n })
joined_at [] stores i l n e f = absurd cc
joined_at (x ∷ loads) [] i l n e f = absurd cc
joined_at (x ∷ loads) (y ∷ stores) zero l n e f = let same : x ≡ l = cc in let equal : y ≡ n = cc in rw (same, equal) refl
joined_at (x ∷ loads) (y ∷ stores) (suc i) l n e f = joined_at loads stores i l n e f
