-- Chains: the turns round a node are its chain of parents, read outwards.
use Rattle.std.proofs.Common.{◌≡◌, ℕ, zero, suc, ◌+◌, ◌*◌, ◌<◌, ◌≤◌, ◌==◌, true, false, List, [], ◌∷◌, ◌++◌, length, take, reverse, ◌-◌, inl, inr, slice_get}
use Rattle.std.proofs.Common.{slice_set, slice_index_or, Option, Some, None, refl, sym, ap, subst, ◌∙◌, append_assoc, length-append, arith}
use Rattle.std.proofs.lemmas.Bool.{ne_eqb, cases_lt}
use Rattle.std.proofs.lemmas.List.{append-nil, length-take-le, reverse-append, length-reverse}
use Rattle.std.proofs.lemmas.Option.{slice_get_within}
use Rattle.op_graph.specs.declared.op.TurnNode.{TurnNode}
use Rattle.op_graph.specs.Lists.{turn_of, turns_back}
use Rattle.op_graph.specs.Chain.{parent, parent_in, up, turn_at, turn_in, innermost, AreNodes, Kept}
use Rattle.op_graph.specs.Rules.{TurnNodeFits}
use Rattle.op_graph.proofs.Entries.{eqb_self}
use Rattle.op_graph.proofs.OperandLaw.{each_at}

-- ---- steps outwards

pub up_add : (nodes : List TurnNode) (n a b : ℕ) → up nodes (up nodes n a) b ≡ up nodes n (a + b)
up_add nodes n a zero = let none : a ≡ a + 0 = omega arith in ap (up nodes n) none
up_add nodes n a (suc b) =
    let more : suc (a + b) ≡ a + suc b = omega arith in
    ap (parent nodes) (up_add nodes n a b) ∙ ap (up nodes n) more

parent_lower : (nodes : List TurnNode) (i : ℕ) (o : Option TurnNode) → AreNodes nodes → slice_get nodes i ≡ o → parent_in o ≤ i
parent_lower nodes i None are there = omega arith
parent_lower nodes i (Some t) are there =
    let fit = each_at (TurnNodeFits are.names) [] nodes i t are.fit there in
    let front : length (take i nodes) ≡ i = length-take-le i nodes (let lt = slice_get_within nodes i t there in omega (arith, lt)) in
    omega (arith, fit.parent, front)

parent_falls : (nodes : List TurnNode) (n k m : ℕ) → AreNodes nodes → m + k ≤ n → 1 ≤ parent nodes m → parent nodes m + (k + 1) ≤ n
parent_falls nodes n k zero are le some = absurd (omega arith)
parent_falls nodes n k (suc i) are le some = let lower = parent_lower nodes i (slice_get nodes i) are refl in omega (arith, lower)

parent_some : (nodes : List TurnNode) (m : ℕ) → 1 ≤ parent nodes m → 1 ≤ m
parent_some nodes zero some = absurd (omega arith)
parent_some nodes (suc i) some = omega arith

-- each step outwards goes to a lower node
pub up_falls : (nodes : List TurnNode) (n k : ℕ) → AreNodes nodes → 1 ≤ up nodes n k → up nodes n k + k ≤ n
up_falls nodes n zero are some = omega arith
up_falls nodes n (suc k) are some =
    let before = up_falls nodes n k are (parent_some nodes (up nodes n k) some) in
    let here = parent_falls nodes n k (up nodes n k) are before some in
    omega (arith, here)

-- a node that is there has nodes at each step before it
pub up_some : (nodes : List TurnNode) (n k m : ℕ) → 1 ≤ up nodes n (k + m) → 1 ≤ up nodes n k
up_some nodes n k zero some = let e : k + 0 ≡ k = omega arith in subst (λ j. 1 ≤ up nodes n j) e some
up_some nodes n k (suc m) some =
    let e : k + suc m ≡ suc (k + m) = omega arith in
    up_some nodes n k m (parent_some nodes (up nodes n (k + m)) (subst (λ j. 1 ≤ up nodes n j) e some))

-- ---- the turns round a node

reverse_push : (xs : List TurnNode) (x : TurnNode) → reverse (xs ++ x ∷ []) ≡ x ∷ reverse xs
reverse_push xs x = reverse-append xs (x ∷ [])

back_below : (t : TurnNode) (earlier : List TurnNode) (m : ℕ) → m ≤ length earlier → turns_back (t ∷ earlier) m ≡ turns_back earlier m
back_below t earlier m le = let no : (suc (length earlier) == m) ≡ false = ne_eqb (suc (length earlier)) m (λ e. omega arith) in rw no refl

-- later nodes change nothing for a node
back_front : (xs ys : List TurnNode) (m : ℕ) → m ≤ length xs → turns_back (reverse (xs ++ ys)) m ≡ turns_back (reverse xs) m
back_front xs [] m le = ap (λ l. turns_back (reverse l) m) (append-nil xs)
back_front xs (y ∷ ys) m le =
    ap (λ l. turns_back (reverse l) m) (sym (append_assoc xs (y ∷ []) ys))
    ∙ back_front (xs ++ y ∷ []) ys m (simp length-append (omega arith))
    ∙ ap (λ l. turns_back l m) (reverse_push xs y)
    ∙ back_below y (reverse xs) m (let e = length-reverse xs in omega (arith, e))

record Split (nodes : List TurnNode) (i : ℕ) (t : TurnNode) : Type 0 where
  front : List TurnNode
  back : List TurnNode
  whole : nodes ≡ (front ++ t ∷ []) ++ back
  place : length front ≡ i

split : (nodes : List TurnNode) (i : ℕ) (t : TurnNode) → slice_get nodes i ≡ Some t → Split nodes i t
split [] i t there = absurd cc
split (x ∷ nodes) zero t there = let same : x ≡ t = cc in record { front = []; back = nodes; whole = ap (λ y. y ∷ nodes) same; place = refl }
split (x ∷ nodes) (suc i) t there = let rest = split nodes i t there in
    record { front = x ∷ rest.front; back = rest.back; whole = ap (λ l. x ∷ l) rest.whole; place = omega (arith, rest.place) }

back_none : (earlier : List TurnNode) → turns_back earlier 0 ≡ []
back_none [] = refl
back_none (t ∷ earlier) = back_below t earlier 0 (omega arith) ∙ back_none earlier

-- the turns round a node: those round its parent, then its own
back_step : (nodes : List TurnNode) (i : ℕ) (t : TurnNode) → AreNodes nodes → slice_get nodes i ≡ Some t
    → turns_back (reverse nodes) (suc i) ≡ turns_back (reverse nodes) t.parent ++ turn_of t ∷ []
back_step nodes i t are there =
    let s = split nodes i t there in
    let lower : t.parent ≤ i = parent_lower nodes i (Some t) are there in
    let e = length-reverse s.front in
    let here : (suc (length (reverse s.front)) == suc i) ≡ true =
    subst (λ j. (suc j == suc i) ≡ true) (let back : i ≡ length (reverse s.front) = omega (arith, e, s.place) in back) (eqb_self (suc i)) in
    let whole : turns_back (reverse nodes) (suc i) ≡ turns_back (reverse (s.front ++ t ∷ [])) (suc i) =
    ap (λ l. turns_back (reverse l) (suc i)) s.whole ∙ back_front (s.front ++ t ∷ []) s.back (suc i) (simp length-append (omega (arith, s.place))) in
    let parents : turns_back (reverse nodes) t.parent ≡ turns_back (reverse s.front) t.parent =
    ap (λ l. turns_back (reverse l) t.parent) (s.whole ∙ append_assoc s.front (t ∷ []) s.back)
    ∙ back_front s.front (t ∷ s.back) t.parent (omega (arith, s.place, lower)) in
    whole ∙ ap (λ l. turns_back l (suc i)) (reverse_push s.front t) ∙ rw here (ap (λ l. l ++ turn_of t ∷ []) (sym parents))

step_by : (nodes : List TurnNode) (i : ℕ) (o : Option TurnNode) → AreNodes nodes → slice_get nodes i ≡ o → i < length nodes
    → turns_back (reverse nodes) (suc i) ≡ turns_back (reverse nodes) (parent_in o) ++ turn_in o
step_by nodes i None are there lt = absurd (none_past nodes i there lt)
  where
    none_past : (xs : List TurnNode) (j : ℕ) → slice_get xs j ≡ None → j < length xs → ⊥
    none_past [] j e lt = omega arith
    none_past (x ∷ xs) zero e lt = cc
    none_past (x ∷ xs) (suc j) e lt = none_past xs j e (omega arith)
step_by nodes i (Some t) are there lt = back_step nodes i t are there

step_out : (nodes : List TurnNode) (m : ℕ) → AreNodes nodes → 1 ≤ m → m ≤ length nodes
    → turns_back (reverse nodes) m ≡ turns_back (reverse nodes) (parent nodes m) ++ turn_at nodes m
step_out nodes zero are some le = absurd (omega arith)
step_out nodes (suc i) are some le = step_by nodes i (slice_get nodes i) are refl (omega arith)

There : List TurnNode → ℕ → ℕ → Type 0
There nodes n total = (k : ℕ) → k < total → (1 ≤ up nodes n k) × (up nodes n k ≤ length nodes)

from_outside : (nodes : List TurnNode) (n k : ℕ) → AreNodes nodes → There nodes n k
    → turns_back (reverse nodes) n ≡ turns_back (reverse nodes) (up nodes n k) ++ innermost nodes n k
unfolding There
from_outside nodes n zero are there = sym (append-nil (turns_back (reverse nodes) n))
from_outside nodes n (suc k) are there =
    let here = there k (omega arith) in
    from_outside nodes n k are (λ j lt. there j (omega arith))
    ∙ ap (λ l. l ++ innermost nodes n k) (step_out nodes (up nodes n k) are here.0 here.1)
    ∙ append_assoc (turns_back (reverse nodes) (parent nodes (up nodes n k))) (turn_at nodes (up nodes n k)) (innermost nodes n k)

pub whole_chain : (nodes : List TurnNode) (n total : ℕ) → AreNodes nodes → ((k : ℕ) → k < total → (1 ≤ up nodes n k) × (up nodes n k ≤ length nodes))
    → up nodes n total ≡ 0 → innermost nodes n total ≡ turns_back (reverse nodes) n
unfolding There
whole_chain nodes n total are there past =
    sym (from_outside nodes n total are there ∙ ap (λ m. turns_back (reverse nodes) m ++ innermost nodes n total) past
    ∙ ap (λ l. l ++ innermost nodes n total) (back_none (reverse nodes)))

-- ---- what is kept of it

pub all_there : (nodes : List TurnNode) (n stretches left : ℕ) → AreNodes nodes → n ≤ length nodes → (1 ≤ stretches → 1 ≤ up nodes n (256 * stretches))
    → ((i : ℕ) → i < left → 1 ≤ up nodes n (256 * stretches + i)) →
    (k : ℕ) → k < 256 * stretches + left → (1 ≤ up nodes n k) × (up nodes n k ≤ length nodes)
all_there nodes n stretches left are le first rest k lt = elim (cases_lt k (256 * stretches)) [
  | inl earlier ↦
      let e : k + (256 * stretches - k) ≡ 256 * stretches = omega arith in
      let some = up_some nodes n k (256 * stretches - k) (subst (λ j. 1 ≤ up nodes n j) (sym e) (first (omega arith))) in
      (some, let falls = up_falls nodes n k are some in omega (arith, falls))
  | inr later ↦
      let e : 256 * stretches + (k - 256 * stretches) ≡ k = omega arith in
      let some = subst (λ j. 1 ≤ up nodes n j) e (rest (k - 256 * stretches) (omega arith)) in
      (some, let falls = up_falls nodes n k are some in omega (arith, falls))
]

index_of : {X : Type 0} (xs : List X) (i : ℕ) (x d : X) → slice_get xs i ≡ Some x → slice_index_or xs i d ≡ x
index_of [] i x d e = absurd cc
index_of (y ∷ xs) zero x d e = cc
index_of (y ∷ xs) (suc i) x d e = index_of xs i x d e

-- the first node of the stretch that is read again
pub mark_is : (nodes : List TurnNode) (n s left : ℕ) (marks stretch : List ℕ) → Kept nodes n s left marks stretch → 1 ≤ s
    → slice_index_or marks (s - 1) 0 ≡ up nodes n (256 * (s - 1))
mark_is nodes n s left marks stretch kept some = index_of marks (s - 1) (up nodes n (256 * (s - 1))) 0 (kept.marks (s - 1) (omega arith))

-- it is read whole
pub refill_whole : (nodes : List TurnNode) (n s mark left next : ℕ) (marks stretch : List ℕ) → Kept nodes n s 0 marks stretch → 1 ≤ s
    → mark ≡ up nodes n (256 * (s - 1)) → left ≤ 256 → next ≡ up nodes mark left → (left < 256 → next ≡ 0) → left ≡ 256
refill_whole nodes n s mark left next marks stretch kept some is few end whole = elim (cases_lt left 256) [
  | inl less ↦
      let zero_there : up nodes n (256 * (s - 1) + left) ≡ 0 = sym (up_add nodes n (256 * (s - 1)) left) ∙ ap (λ m. up nodes m left) (sym is) ∙ sym end
      ∙ whole less in
      let one_there = (kept.there (256 * (s - 1) + left) (omega arith)).0 in
      absurd (omega (arith, zero_there, one_there))
  | inr all ↦ omega arith
]

pub refill_kept : (nodes : List TurnNode) (n s mark left : ℕ) (marks stretch new : List ℕ) → Kept nodes n s 0 marks stretch → 1 ≤ s
    → mark ≡ up nodes n (256 * (s - 1)) → left ≡ 256 → ((i : ℕ) → i < left → slice_get new i ≡ Some (up nodes mark i)) → Kept nodes n (s - 1) left marks new
refill_kept nodes n s mark left marks stretch new kept some is whole filled = record {
  marks = λ i lt. kept.marks i (omega arith);
  stretch = λ i lt. filled i lt ∙ ap Some (ap (λ m. up nodes m i) is ∙ up_add nodes n (256 * (s - 1)) i);
  there = λ k lt. kept.there k (omega arith);
  few_stretches = let few = kept.few_stretches in omega arith;
  few_left = omega arith;
}

-- ---- the next turn

pub node_is : (nodes : List TurnNode) (n s left : ℕ) (marks stretch : List ℕ) → Kept nodes n s left marks stretch → 1 ≤ left
    → slice_index_or stretch (left - 1) 0 ≡ up nodes n (256 * s + (left - 1))
node_is nodes n s left marks stretch kept some = index_of stretch (left - 1) (up nodes n (256 * s + (left - 1))) 0 (kept.stretch (left - 1) (omega arith))

pub node_there : (nodes : List TurnNode) (n s left m : ℕ) (marks stretch : List ℕ) → Kept nodes n s left marks stretch → 1 ≤ left
    → m ≡ up nodes n (256 * s + (left - 1)) → (1 ≤ m) × (m ≤ length nodes)
node_there nodes n s left m marks stretch kept some is =
    let there = kept.there (256 * s + (left - 1)) (omega arith) in
    (omega (arith, is, there.0), omega (arith, is, there.1))

pub fewer_kept : (nodes : List TurnNode) (n s left : ℕ) (marks stretch : List ℕ) → Kept nodes n s left marks stretch → Kept nodes n s (left - 1) marks stretch
fewer_kept nodes n s left marks stretch kept = record {
  marks = kept.marks;
  stretch = λ i lt. kept.stretch i (omega arith);
  there = λ k lt. kept.there k (omega arith);
  few_stretches = kept.few_stretches;
  few_left = let few = kept.few_left in omega arith;
}

turn_at_there : (nodes : List TurnNode) (m : ℕ) (t : TurnNode) → 1 ≤ m → slice_get nodes (m - 1) ≡ Some t → turn_at nodes m ≡ turn_of t ∷ []
turn_at_there nodes zero t some there = absurd (omega arith)
turn_at_there nodes (suc i) t some there = let e : suc i - 1 ≡ i = omega arith in ap turn_in (ap (slice_get nodes) (sym e) ∙ there)

pub next_told : (nodes : List TurnNode) (n total m : ℕ) (t : TurnNode) → 1 ≤ total → m ≡ up nodes n (total - 1) → 1 ≤ m → slice_get nodes (m - 1) ≡ Some t
    → innermost nodes n total ≡ turn_of t ∷ innermost nodes n (total - 1)
next_told nodes n zero m t some is there get = absurd (omega arith)
next_told nodes n (suc k) m t some is there get =
    let e : suc k - 1 ≡ k = omega arith in
    let here : turn_at nodes (up nodes n k) ≡ turn_of t ∷ [] = ap (λ j. turn_at nodes (up nodes n j)) (sym e) ∙ ap (turn_at nodes) (sym is)
    ∙ turn_at_there nodes m t there get in
    ap (λ l. l ++ innermost nodes n k) here ∙ ap (λ j. turn_of t ∷ innermost nodes n j) (sym e)

get_index : {X : Type 0} (xs : List X) (i : ℕ) (d : X) → i < length xs → slice_get xs i ≡ Some (slice_index_or xs i d)
get_index [] i d lt = absurd (omega arith)
get_index (x ∷ xs) zero d lt = refl
get_index (x ∷ xs) (suc i) d lt = get_index xs i d (omega arith)

pub tells : (nodes : List TurnNode) (n s0 l0 s l : ℕ) (marks stretch : List ℕ) (d : TurnNode) → Kept nodes n s l marks stretch → 1 ≤ l
    → 256 * s + l ≡ 256 * s0 + l0 →
    innermost nodes n (256 * s0 + l0) ≡ turn_of (slice_index_or nodes (slice_index_or stretch (l - 1) 0 - 1) d) ∷ innermost nodes n (256 * s + (l - 1))
tells nodes n s0 l0 s l marks stretch d kept some same =
    let total = 256 * s0 + l0 in
    let before : 256 * s + (l - 1) ≡ total - 1 = omega arith in
    let m = slice_index_or stretch (l - 1) 0 in
    let is : m ≡ up nodes n (total - 1) = node_is nodes n s l marks stretch kept some ∙ ap (up nodes n) before in
    let there = node_there nodes n s l m marks stretch kept some (node_is nodes n s l marks stretch kept some) in
    next_told nodes n total m (slice_index_or nodes (m - 1) d) (omega arith) is there.0 (get_index nodes (m - 1) d (omega (arith, there)))
    ∙ ap (λ j. turn_of (slice_index_or nodes (m - 1) d) ∷ innermost nodes n j) (sym before)

-- ---- marks

set_here : {X : Type 0} (xs : List X) (k : ℕ) (v : X) → k < length xs → slice_get (slice_set xs k v) k ≡ Some v
set_here [] k v lt = absurd (omega arith)
set_here (x ∷ xs) zero v lt = refl
set_here (x ∷ xs) (suc k) v lt = set_here xs k v (omega arith)

set_before : {X : Type 0} (xs : List X) (i k : ℕ) (v : X) → i < k → slice_get (slice_set xs k v) i ≡ slice_get xs i
set_before [] i zero v lt = refl
set_before [] i (suc k) v lt = refl
set_before (x ∷ xs) i zero v lt = absurd (omega arith)
set_before (x ∷ xs) zero (suc k) v lt = refl
set_before (x ∷ xs) (suc i) (suc k) v lt = set_before xs i k v (omega arith)

pub one_more_mark : (nodes : List TurnNode) (n s node : ℕ) (marks : List ℕ) → ((i : ℕ) → i < s → slice_get marks i ≡ Some (up nodes n (256 * i)))
    → node ≡ up nodes n (256 * s) → s < length marks →
    (i : ℕ) → i < s + 1 → slice_get (slice_set marks s node) i ≡ Some (up nodes n (256 * i))
one_more_mark nodes n s node marks before here room i lt = elim (cases_lt i s) [
  | inl less ↦ set_before marks i s node less ∙ before i less
  | inr last ↦
      let same : s ≡ i = omega arith in
      subst (λ j. slice_get (slice_set marks s node) j ≡ Some (up nodes n (256 * j))) same (set_here marks s node room ∙ ap Some here)
]

pub next_stretch : (nodes : List TurnNode) (n s node left next : ℕ) → node ≡ up nodes n (256 * s) → next ≡ up nodes node left → left ≡ 256
    → next ≡ up nodes n (256 * (s + 1))
next_stretch nodes n s node left next here is whole =
    let e : 256 * s + left ≡ 256 * (s + 1) = omega arith in
    is ∙ ap (λ m. up nodes m left) here ∙ up_add nodes n (256 * s) left ∙ ap (up nodes n) e

-- a stretch after which the chain goes on is whole
pub stretch_is_whole : (left next : ℕ) → left ≤ 256 → (left < 256 → next ≡ 0) → 1 ≤ next → left ≡ 256
stretch_is_whole left next few whole some = elim (cases_lt left 256) [
  | inl less ↦ absurd (omega (arith, whole less, some))
  | inr all ↦ omega arith
]
