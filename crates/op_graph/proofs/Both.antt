-- Both: an operation and an entry of another list, added together or not at all.
use Rattle.std.proofs.Common.{◌≡◌, ℕ, ◌<◌, ◌≤◌, ◌-◌, ◌↔◌, List, [], ◌∷◌, ◌++◌, length, take, Result, Ok, Err, OnOk, OnErr, IsErr, refl, sym, ap, ◌∙◌, subst, arith}
use Rattle.std.proofs.Math.Seq.{take-append_seam}
use Rattle.std.proofs.lemmas.Bool.{false≢true}
use Rattle.std.proofs.lemmas.List.{length_push}
use Rattle.vcp_base.specs.Limits.{most_operations}
use Rattle.op_graph.specs.declared.op.Op.{Op}
use Rattle.op_graph.specs.declared.op.TurnNode.{TurnNode}
use Rattle.op_graph.specs.Building.{with_op, with_name, with_turn_node}
use Rattle.op_graph.specs.declared.build.Build.{Build}
use Rattle.op_graph.specs.declared.build.Build.TheVariants as build
use Rattle.op_graph.specs.Lists.{Lists}
use Rattle.op_graph.specs.Rules.{IsPart}

-- what follows from two facts of a good end, and from two of a refusal
pub both_ok : {T E : Type 0} (P Q R : Type 0) (r : Result T E) → OnOk r P → OnOk r Q → (P → Q → R) → OnOk r R
both_ok P Q R (Ok x) p q f = f p q
both_ok P Q R (Err e) p q f = tt

pub both_err : {T E : Type 0} (P Q R : Type 0) (r : Result T E) → OnErr r P → OnErr r Q → (P → Q → R) → OnErr r R
both_err P Q R (Ok x) p q f = tt
both_err P Q R (Err e) p q f = f p q

-- where there were n operations, and a good end means that there was room
pub keeps_rules : (r : Result ℕ Build) (n : ℕ) (old made new : Lists) → OnOk r (new ≡ made) → OnErr r (new ≡ old)
    → ((r ≡ Err build.Full) ↔ (n ≡ most_operations)) → n ≤ most_operations → IsPart old → (n < most_operations → IsPart made) → IsPart new
keeps_rules (Ok k) n old made new is same full few part rules = subst IsPart (sym is) (rules (room n few (λ all. absurd (no_error (full.1 all)))))
  where
    no_error : Ok k ≡ Err build.Full → ⊥
    no_error e = cc

    room : (m : ℕ) → m ≤ most_operations → (m ≡ most_operations → ⊥) → m < most_operations
    room m few full = omega (arith, few, full)
keeps_rules (Err e) n old made new is same full few part rules = subst IsPart (sym same) part

-- ---- when there is no room for an operation

pub full_is : (r : Result ℕ Build) (n : ℕ) → r ≡ Err build.Full → most_operations ≤ n → n ≤ most_operations → (r ≡ Err build.Full) ↔ (n ≡ most_operations)
full_is r n is low high = (λ e. omega (arith, low, high), λ all. is)

room_left : (r : Result ℕ Build) (n : ℕ) → (r ≡ Err build.Full → ⊥) → n < most_operations → (r ≡ Err build.Full) ↔ (n ≡ most_operations)
room_left r n other room = (λ e. absurd (other e), λ all. absurd (omega (arith, room, all)))

pub memory_lacked : (r : Result ℕ Build) (n : ℕ) → r ≡ Err build.Memory → n < most_operations → (r ≡ Err build.Full) ↔ (n ≡ most_operations)
memory_lacked r n is room = room_left r n (λ e. absurd cc) room

pub added_there : (r : Result ℕ Build) (k n : ℕ) → r ≡ Ok k → n < most_operations → (r ≡ Err build.Full) ↔ (n ≡ most_operations)
added_there r k n is room = room_left r n (λ e. absurd cc) room

-- the last item of a list is taken off again
pub taken_off : {X : Type 0} (xs now longer : List X) (x : X) (n : ℕ) → now ≡ take (n - 1) longer → n ≡ length longer → longer ≡ xs ++ x ∷ [] → now ≡ xs
taken_off xs now longer x n is long more =
    let fewer : n - 1 ≡ length xs = omega (arith, long, ap length more, length_push xs x) in
    is ∙ ap (λ k. take k longer) fewer ∙ ap (take (length xs)) more ∙ take-append_seam xs (x ∷ [])

-- ---- a builder whose lists are seen as v, and which has k operations

abbrev full : Result ℕ Build
full = Err build.Full

abbrev memory : Result ℕ Build
memory = Err build.Memory

pub full_seen : {g v : Lists} (k : ℕ) → g ≡ v → k ≡ length g.operations → most_operations ≤ k → IsPart g
    → (full ≡ full) ↔ (length v.operations ≡ most_operations)
full_seen {g = g} k same count low part =
    subst (λ (x : Lists). (full ≡ full) ↔ (length x.operations ≡ most_operations)) same
    (full_is full (length g.operations) refl (subst (λ (n : ℕ). most_operations ≤ n) count low) part.few_operations)

pub memory_seen : {g v : Lists} (k : ℕ) → g ≡ v → k ≡ length g.operations → k < most_operations
    → (memory ≡ full) ↔ (length v.operations ≡ most_operations)
memory_seen {g = g} k same count room =
    subst (λ (x : Lists). (memory ≡ full) ↔ (length x.operations ≡ most_operations)) same
    (memory_lacked memory (length g.operations) refl (subst (λ (n : ℕ). n < most_operations) count room))

pub added_seen : {g v : Lists} (j k : ℕ) → g ≡ v → k ≡ length g.operations → k < most_operations
    → (Ok j ≡ full) ↔ (length v.operations ≡ most_operations)
added_seen {g = g} j k same count room =
    subst (λ (x : Lists). (Ok j ≡ full) ↔ (length x.operations ≡ most_operations)) same
    (added_there (Ok j) j (length g.operations) refl (subst (λ (n : ℕ). n < most_operations) count room))

pub op_added : {g v : Lists} (op : Op) (ops : List Op) → g ≡ v → ops ≡ g.operations ++ op ∷ [] → record g { operations = ops } ≡ with_op v op
op_added {g = g} op ops same is = ap (λ (xs : List Op). record g { operations = xs }) is ∙ ap (λ (x : Lists). with_op x op) same

pub op_refused : {g v : Lists} (ops : List Op) → g ≡ v → ops ≡ g.operations → record g { operations = ops } ≡ v
op_refused {g = g} ops same is = ap (λ (xs : List Op). record g { operations = xs }) is ∙ same

-- ---- a refusal that is handed on

pub adds_nothing : {T E : Type 0} (P : Type 0) (r : Result T E) → IsErr r → OnOk r P
adds_nothing P (Ok x) is = absurd (false≢true is)
adds_nothing P (Err e) is = tt

pub keeps_all : {T E P : Type 0} (r : Result T E) → P → OnErr r P
keeps_all (Ok x) same = tt
keeps_all (Err e) same = same

-- ---- names and turn nodes

pub name_added : {g v : Lists} (n m : List ℕ) (names : List (List ℕ)) → g ≡ v → names ≡ g.names ++ m ∷ [] → m ≡ n
    → record g { names = names } ≡ with_name v n
name_added {g = g} n m names same is copied =
    ap (λ (xs : List (List ℕ)). record g { names = xs }) (is ∙ ap (λ (x : List ℕ). g.names ++ x ∷ []) copied) ∙ ap (λ (x : Lists). with_name x n) same

pub name_refused : {g v : Lists} (names : List (List ℕ)) → g ≡ v → names ≡ g.names → record g { names = names } ≡ v
name_refused {g = g} names same is = ap (λ (xs : List (List ℕ)). record g { names = xs }) is ∙ same

pub node_added : {g v : Lists} (t : TurnNode) (nodes : List TurnNode) → g ≡ v → nodes ≡ g.turn_nodes ++ t ∷ []
    → record g { turn_nodes = nodes } ≡ with_turn_node v t
node_added {g = g} t nodes same is = ap (λ (xs : List TurnNode). record g { turn_nodes = xs }) is ∙ ap (λ (x : Lists). with_turn_node x t) same

pub node_refused : {g v : Lists} (nodes : List TurnNode) → g ≡ v → nodes ≡ g.turn_nodes → record g { turn_nodes = nodes } ≡ v
node_refused {g = g} nodes same is = ap (λ (xs : List TurnNode). record g { turn_nodes = xs }) is ∙ same
