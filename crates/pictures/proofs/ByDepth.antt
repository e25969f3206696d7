-- ByDepth: the depths of operations, and the columns of their boxes.
use Rattle.std.proofs.Common.{◌≡◌, inl, inr, ℕ, suc, ◌+◌, ◌^◌, ◌<◌, ◌≤◌, max, Bool, true, false, cond, List, [], ◌∷◌, ◌++◌, length, drop, get_or, Option, Some, slice_get, slice_index_or, refl, sym, ap, ap₂, subst, ◌∙◌, arith}
use Rattle.std.specs.Option.{is_some}
use Rattle.std.proofs.lemmas.List.{at_drop_more, at_drop_all, length_push}
use Rattle.std.proofs.lemmas.Option.{slice_get_within, slice_get_past, get_or_from_slice_get}
use Rattle.vcp_base.specs.declared.kind.Kind.{Kind}
use Rattle.vcp_base.specs.declared.ty.Ty.{Ty}
use Rattle.op_graph.specs.declared.op.Op.{Op}
use Rattle.op_graph.specs.Reads.{named}
use Rattle.op_graph.specs.Rules.{reads_as}
use Rattle.pictures.specs.declared.layout.BoxPlace.{BoxPlace}
use Rattle.pictures.specs.Constants.{is_constant}
use Rattle.pictures.specs.Depths.{one_deeper, depth_behind, depth_of, depths_behind, depths_of, AreBelowTheirNumber, deepest, column_of, depth_at, last_column, StandByDepth}
use Rattle.pictures.proofs.OwnRows.{none_at, last_or}

-- a list from an item on
next_of : {X : Type 0} {Y : Type 0} (f : List X → Y) (xs : List X) (i : ℕ) (x : X) → slice_get xs i ≡ Some x → f (drop i xs) ≡ f (x ∷ drop (i + 1) xs)
next_of f xs i x there =
    at_drop_more f xs i x (slice_get_within xs i x there) ∙ ap (λ y. f (y ∷ drop (i + 1) xs)) (get_or_from_slice_get xs i x x there)

-- ---- the greatest depth

pub greatest_more : (depths : List ℕ) (i m n : ℕ) → i < length depths → n ≡ max m (get_or depths i 0) → max m (deepest (drop i depths)) ≡ deepest depths
    → max n (deepest (drop (i + 1) depths)) ≡ deepest depths
greatest_more depths i m n lt is so_far =
    let next : deepest (drop i depths) ≡ max (get_or depths i 0) (deepest (drop (i + 1) depths)) = at_drop_more deepest depths i 0 lt in
    omega (arith, next, is, so_far)

pub greatest_all : (depths : List ℕ) (i m : ℕ) → length depths ≤ i → max m (deepest (drop i depths)) ≡ deepest depths → m ≡ deepest depths
greatest_all depths i m past so_far = let none : deepest (drop i depths) ≡ 0 = at_drop_all deepest depths i past in omega (arith, none, so_far)

deepest_few : (depths : List ℕ) (n : ℕ) → ((k d : ℕ) → slice_get depths k ≡ Some d → d ≤ n) → deepest depths ≤ n
deepest_few [] n few = omega arith
deepest_few (d ∷ depths) n few =
    let here = few 0 d refl in
    let later = deepest_few depths n (λ k e there. few (suc k) e there) in
    omega (arith, here, later)

pub low_few : (depths : List ℕ) → AreBelowTheirNumber depths → deepest depths ≤ length depths
low_few depths low = deepest_few depths (length depths) (λ k d there. let less = low k d there in omega (arith, less))

-- ---- depths below their number

pub low_none : (depths : List ℕ) → depths ≡ [] → AreBelowTheirNumber depths
low_none depths e k d there = absurd (none_at k d (subst (λ ds. slice_get ds k ≡ Some d) e there))

pub low_more : (depths : List ℕ) (d : ℕ) → d ≤ length depths → AreBelowTheirNumber depths → AreBelowTheirNumber (depths ++ d ∷ [])
low_more depths d few low k e there =
    let more = length_push depths d in
    elim (last_or depths d e k there) [ inl h ↦ let less = low k e h in omega (arith, less, more) | inr h ↦ omega (arith, h.1, few, more) ]

-- ---- the depths of operations

-- the depth behind an operand, where `reads` says that it is an operation
pub behind_is : (depths : List ℕ) (op : Op) (j d : ℕ) (reads : Bool) → d ≡ cond reads (one_deeper (slice_get depths (named op j))) 0
    → ((from : Ty) → reads ≡ is_some (reads_as op.kind from j)) → d ≡ depth_behind depths op j
behind_is depths op j d reads is by_kind = is ∙ ap (λ b. cond b (one_deeper (slice_get depths (named op j))) 0) (by_kind op.from)

pub not_read : (depth : Option ℕ) (reads : Bool) → reads ≡ false → 0 ≡ cond reads (one_deeper depth) 0
not_read depth reads is = sym (ap (λ r. cond r (one_deeper depth) 0) is)

pub not_there : (depths : List ℕ) (n : ℕ) (reads : Bool) → length depths ≤ n → 0 ≡ cond reads (one_deeper (slice_get depths n)) 0
not_there depths n true past = sym (ap one_deeper (slice_get_past depths n past))
not_there depths n false past = refl

pub read_there : (depths : List ℕ) (n d : ℕ) (reads : Bool) → reads ≡ true → slice_get depths n ≡ Some d
    → d + 1 ≡ cond reads (one_deeper (slice_get depths n)) 0
read_there depths n d reads is there = sym (ap (λ r. cond r (one_deeper (slice_get depths n)) 0) is ∙ ap one_deeper there)

pub one_more_few : (depths : List ℕ) (n d : ℕ) → AreBelowTheirNumber depths → slice_get depths n ≡ Some d → d + 1 ≤ length depths
one_more_few depths n d low there = omega (arith, low n d there)

pub one_more_fits : (n m : ℕ) → n ≤ m → m < 2 ^ 17 → n < 2 ^ 32
one_more_fits n m few small = omega (arith, few, small)

pub depths_none : (ops : List Op) (depths : List ℕ) → depths ≡ [] → depths_behind depths (drop 0 ops) ≡ depths_of ops
depths_none ops depths e = ap (λ ds. depths_behind ds ops) e

pub depths_more : (ops : List Op) (depths : List ℕ) (i : ℕ) (op : Op) (d : ℕ) → slice_get ops i ≡ Some op → d ≡ depth_of depths op
    → depths_behind depths (drop i ops) ≡ depths_of ops → depths_behind (depths ++ d ∷ []) (drop (i + 1) ops) ≡ depths_of ops
depths_more ops depths i op d there is so_far =
    ap (λ e. depths_behind (depths ++ e ∷ []) (drop (i + 1) ops)) is ∙ (sym (next_of (depths_behind depths) ops i op there) ∙ so_far)

pub depths_all : (ops : List Op) (depths : List ℕ) (i : ℕ) → length ops ≤ i → depths_behind depths (drop i ops) ≡ depths_of ops → depths ≡ depths_of ops
depths_all ops depths i past so_far = sym (at_drop_all (depths_behind depths) ops i past) ∙ so_far

-- ---- the columns

-- the column of a box by these depths
pub column_is : (ops : List Op) (depths : List ℕ) (kind : Kind) (i depth last column : ℕ) → depths ≡ depths_of ops → depth ≡ slice_index_or depths i 0
    → last ≡ deepest depths → column ≡ column_of kind depth last → column ≡ column_of kind (depth_at ops i) (last_column ops)
column_is ops depths kind i depth last column are at_i greatest is =
    is ∙ ap₂ (λ d l. column_of kind d l) (at_i ∙ ap (λ ds. slice_index_or ds i 0) are) (greatest ∙ ap deepest are)

pub stand_none : (ops : List Op) (places : List BoxPlace) → places ≡ [] → StandByDepth ops places
stand_none ops places e i op p there plain placed = absurd (none_at i p (subst (λ ps. slice_get ps i ≡ Some p) e placed))

pub stand_more : (ops : List Op) (places : List BoxPlace) (i : ℕ) (op : Op) (p : BoxPlace) → length places ≡ i → slice_get ops i ≡ Some op
    → (is_constant op.kind ≡ false → p.column ≡ column_of op.kind (depth_at ops i) (last_column ops)) → StandByDepth ops places
    → StandByDepth ops (places ++ p ∷ [])
stand_more ops places i op p many there here stand k o q other plain placed =
    elim (last_or places p q k placed) [
      | inl h ↦ stand k o q other plain h
      | inr h ↦
          let place : k ≡ i = h.0 ∙ many in
          let first : slice_get ops i ≡ Some o = subst (λ n. slice_get ops n ≡ Some o) place other in
          let same : op ≡ o = cc in
          ap (λ (b : BoxPlace). b.column) h.1
          ∙ (here (subst (λ (x : Op). is_constant x.kind ≡ false) (sym same) plain)
          ∙ (ap (λ (x : Op). column_of x.kind (depth_at ops i) (last_column ops)) same
          ∙ ap (λ n. column_of o.kind (depth_at ops n) (last_column ops)) (sym place)))
    ]
