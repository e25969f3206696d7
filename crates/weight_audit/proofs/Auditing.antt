-- Auditing: what is kept of a graph, from what is kept of each output and distance.
use Rattle.std.proofs.Common.{◌≡◌, ◌⊎◌, ⊎_elim, inl, inr, ℕ, zero, suc, ◌<◌, ◌≤◌, List, [], ◌∷◌, ◌++◌, length, slice_get, slice_index_or, Some, ap, sym, ◌∙◌, subst, refl, arith}
use Rattle.std.proofs.lemmas.Option.{get_or_from_slice_get, slice_get_within}
use Rattle.op_graph.specs.declared.op.Outlet.{Outlet}
use Rattle.op_graph.specs.Lists.{Lists}
use Rattle.weight_audit.specs.Audit.{Distance, Audit, nothing, distance, IsAudit, IsWhole}
use Rattle.weight_audit.specs.Sweeping.{IsDistance, AreDistances}

-- a place in a list has an entry
pub there_is : {X : Type 0} (xs : List X) (i : ℕ) → i < length xs → (x : X) × (slice_get xs i ≡ Some x)
there_is [] i lt = absurd (omega (arith, lt))
there_is (x ∷ xs) zero lt = (x, refl)
there_is (x ∷ xs) (suc i) lt = there_is xs i (omega (arith, lt))

-- an entry of a list with one more is an entry of the list, or the one
pub last_or : {X : Type 0} (xs : List X) (y : X) (k : ℕ) (x : X) → slice_get (xs ++ y ∷ []) k ≡ Some x → (slice_get xs k ≡ Some x) ⊎ ((k ≡ length xs) × (y ≡ x))
last_or [] y zero x e = inr (refl, cc)
last_or [] y (suc k) x e = absurd cc
last_or (z ∷ xs) y zero x e = inl e
last_or (z ∷ xs) y (suc k) x e = ⊎_elim (λ (h : slice_get xs k ≡ Some x). inl h) (λ (h : (k ≡ length xs) × (y ≡ x)). inr (ap suc h.0, h.1)) (last_or xs y k x e)

-- the distances of each output are right
abbrev pub AreAll : Lists → ℕ → List (List Distance) → Type 0
AreAll g horizon outputs =
    (output : ℕ) (ds : List Distance) (o : Outlet) → slice_get outputs output ≡ Some ds → slice_get g.outputs output ≡ Some o → AreDistances g o.op horizon ds

-- what is kept of so many operations
abbrev pub audit_of : ℕ → ℕ → List (List Distance) → Audit
audit_of operations horizon outputs = record { operations = operations; horizon = horizon; outputs = outputs }

-- what is kept of a graph
abbrev pub kept : Lists → ℕ → List (List Distance) → Audit
kept g horizon outputs = audit_of (length g.operations) horizon outputs

-- the distances of an output that is there
of_output : (g : Lists) (horizon : ℕ) (outputs : List (List Distance)) → length outputs ≡ length g.outputs → AreAll g horizon outputs
    → (output : ℕ) (ds : List Distance) → slice_get outputs output ≡ Some ds → (o : Outlet) × AreDistances g o.op horizon ds
of_output g horizon outputs many all output ds there =
    let o = there_is g.outputs output (let lt = slice_get_within outputs output ds there in omega (arith, lt, many)) in
    (o.0, all output ds o.0 there o.1)

pub is_whole : (g : Lists) (horizon : ℕ) (outputs : List (List Distance)) → length outputs ≡ length g.outputs → AreAll g horizon outputs
    → IsWhole (kept g horizon outputs)
is_whole g horizon outputs many all = record {
  borders = λ output ds there. (of_output g horizon outputs many all output ds there).1.many;
  weights = λ output after ds d there at. ((of_output g horizon outputs many all output ds there).1.each after d at).weights.many;
  reached = λ output after ds d there at. ((of_output g horizon outputs many all output ds there).1.each after d at).reached.many;
}

-- the distance that is kept for an output
kept_distance : (g : Lists) (horizon : ℕ) (outputs : List (List Distance)) → length outputs ≡ length g.outputs → AreAll g horizon outputs
    → (output after : ℕ) (o : Outlet) → slice_get g.outputs output ≡ Some o → after ≤ horizon
    → IsDistance g o.op after (distance (kept g horizon outputs) output after)
kept_distance g horizon outputs many all output after o there le =
    let ds = there_is outputs output (let lt = slice_get_within g.outputs output o there in omega (arith, lt, many)) in
    let are = all output ds.0 o ds.1 there in
    let d = there_is ds.0 after (let count = are.many in omega (arith, le, count)) in
    let of_one : slice_index_or outputs output [] ≡ ds.0 = get_or_from_slice_get outputs output ds.0 [] ds.1 in
    let of_both : slice_index_or (slice_index_or outputs output []) after nothing ≡ d.0 = ap (λ xs. slice_index_or xs after nothing) of_one
    ∙ get_or_from_slice_get ds.0 after d.0 nothing d.1 in
    subst (λ x. IsDistance g o.op after x) (sym of_both) (are.each after d.0 d.1)

pub is_audit : (g : Lists) (horizon : ℕ) (outputs : List (List Distance)) → length outputs ≡ length g.outputs → AreAll g horizon outputs
    → IsAudit g horizon (kept g horizon outputs)
is_audit g horizon outputs many all = record {
  operations = refl;
  outputs = many;
  horizon_is = refl;
  weight = λ op output after o lt there le. (kept_distance g horizon outputs many all output after o there le).weights.each op lt;
  sound = λ op output after o there le marked. (kept_distance g horizon outputs many all output after o there le).reached.sound op marked;
  complete = λ op output after o there le path. (kept_distance g horizon outputs many all output after o there le).reached.complete op path;
}

-- ---- one more

pub none_more : (g : Lists) (out : ℕ) (first : Distance) → IsDistance g out 0 first → (borders : ℕ) (d : Distance) → slice_get (first ∷ []) borders ≡ Some d
    → IsDistance g out borders d
none_more g out first is zero d e = subst (λ x. IsDistance g out 0 x) (let same : first ≡ d = cc in same) is
none_more g out first is (suc borders) d e = absurd cc

pub one_more : (g : Lists) (out after : ℕ) (ds : List Distance) (next : Distance) → length ds ≡ suc after
    → ((borders : ℕ) (d : Distance) → slice_get ds borders ≡ Some d → IsDistance g out borders d) → IsDistance g out (suc after) next
    → (borders : ℕ) (d : Distance) → slice_get (ds ++ next ∷ []) borders ≡ Some d → IsDistance g out borders d
one_more g out after ds next many each is borders d e = ⊎_elim
    (λ (h : slice_get ds borders ≡ Some d). each borders d h)
    (λ (h : (borders ≡ length ds) × (next ≡ d)). subst (λ n. IsDistance g out n d) (sym (h.0 ∙ many)) (subst (λ x. IsDistance g out (suc after) x) h.1 is))
    (last_or ds next borders d e)

pub output_more : (g : Lists) (horizon i : ℕ) (outputs : List (List Distance)) (next : List Distance) (o : Outlet) → length outputs ≡ i
    → slice_get g.outputs i ≡ Some o → AreAll g horizon outputs → AreDistances g o.op horizon next → AreAll g horizon (outputs ++ next ∷ [])
output_more g horizon i outputs next o many there all are output ds p e here = ⊎_elim
    (λ (h : slice_get outputs output ≡ Some ds). all output ds p h here)
    (λ (h : (output ≡ length outputs) × (next ≡ ds)).
    let again : slice_get g.outputs output ≡ Some o = subst (λ n. slice_get g.outputs n ≡ Some o) (sym (h.0 ∙ many)) there in
    let same : o ≡ p = cc in
    subst (λ x. AreDistances g p.op horizon x) h.1 (subst (λ (q : Outlet). AreDistances g q.op horizon next) same are))
    (last_or outputs next output ds e)
