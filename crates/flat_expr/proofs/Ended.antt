-- Ended: what comes of the calls at the end of a cycle, and what they require.
use Rattle.std.proofs.Common.{◌≡◌, ℕ, ◌<◌, true, List, length, slice_get, get_or, Option, Some, None, Result, Ok, Err, IfErr, sym, ap, ◌∙◌, subst, arith}
use Rattle.std.specs.Result.{IsErrAnd}
use Rattle.std.proofs.lemmas.List.{length-map}
use Rattle.std.proofs.lemmas.Option.{slice_get_within}
use Rattle.vcp_base.specs.Code.{admits}
use Rattle.vcp_base.specs.Limits.{most_cells, most_operations}
use Rattle.op_graph.specs.declared.op.Loaded.{Loaded}
use Rattle.op_graph.specs.Lists.{Lists}
use Rattle.op_graph.specs.declared.build.Build.{Build}
use Rattle.op_graph.specs.declared.build.Build.TheVariants as build
use Rattle.vcp_typed.specs.declared.slot.Slot.{Slot}
use Rattle.flat_expr.specs.Closing.{Closes, Ends, NoRoom}
use Rattle.flat_expr.specs.State.{State, IsHeld, whole_size}
use Rattle.flat_expr.proofs.Loads.{unknown_set, others_fewer}

-- a refusal is handed on
pub handed : {A B : Type 0} (s : State) (Did : B → Type 0) (P : A → Type 0) (f : Result B Build) (r : Result A Build) (e : Build)
    → f ≡ Err e → IsErrAnd r (λ y. y ≡ e) → Ends s Did f → Ends s P r
handed s Did P f (Ok a) e was h ended = absurd h
handed s Did P f (Err y) e was h ended = λ is. (subst (λ x. Ends s Did x) was ended) (sym h ∙ is)

-- the same, of a call that says its refusal in a clause
pub handed_refusal : {A B : Type 0} (s : State) (P : A → Type 0) (f : Result B Build) (r : Result A Build) (e : Build)
    → f ≡ Err e → IsErrAnd r (λ y. y ≡ e) → IfErr f (NoRoom s) → Ends s P r
handed_refusal s P f (Ok a) e was h refuses = absurd h
handed_refusal s P f (Err y) e was h refuses = λ is. (subst (λ x. IfErr x (NoRoom s)) was refuses) (sym h ∙ is)

-- a slot's name and type, in the lists so far
pub named : (s : State) (n m : ℕ) (g : Lists) (known : List (Option ℕ)) (slot : ℕ) (x : Slot) → Closes s n m g known → slice_get s.slots slot ≡ Some x
    → slot < length g.names
named s n m g known slot x h there =
    let inside = slice_get_within s.slots slot x there in
    let names = ap length (h.names ∙ h.from.names) in
    let all = length-map s.slots (λ x. x.name) in
    omega (arith, inside, names, all)

pub admitted_so_far : (s : State) (n m : ℕ) (g : Lists) (known : List (Option ℕ)) (slot : ℕ) (x : Slot) → Closes s n m g known
    → slice_get s.slots slot ≡ Some x → admits g.profile x.ty ≡ true
admitted_so_far s n m g known slot x h there = ap (λ p. admits p x.ty) h.profile ∙ h.from.code slot x there

pub known_inside : (s : State) (n m : ℕ) (g : Lists) (known : List (Option ℕ)) (slot : ℕ) (x : Slot) → Closes s n m g known → slice_get s.slots slot ≡ Some x
    → slot < length known
known_inside s n m g known slot x h there = let inside = slice_get_within s.slots slot x there in omega (arith, inside, h.long)

-- there is room for the cell of a slot that no operation holds
pub cell_room : (s : State) (n m : ℕ) (g : Lists) (known : List (Option ℕ)) (slot : ℕ) (x : Slot) → Closes s n m g known → slice_get s.slots slot ≡ Some x
    → get_or known slot None ≡ None → length g.loads < most_cells
cell_room s n m g known slot x h there none =
    let fewer = unknown_set known slot 0 (known_inside s n m g known slot x h there) none in
    let some = others_fewer s.slots in
    omega (arith, h.room, h.from.few, some, fewer)

-- the slot of a cell is held
held_some : (o : Option ℕ) → IsHeld true o → o ≡ None → ⊥
held_some None h e = h
held_some (Some k) h e = cc

pub cell_held : (s : State) (n m : ℕ) (g : Lists) (known : List (Option ℕ)) (j : ℕ) (l : Loaded) → Closes s n m g known → slice_get g.loads j ≡ Some l
    → get_or known l.name None ≡ None → ⊥
cell_held s n m g known j l h there none = held_some _ (h.held j l there) none

-- a cell's slot is one of those that may be held
pub cell_inside : (s : State) (n m : ℕ) (g : Lists) (known : List (Option ℕ)) (j : ℕ) (l : Loaded) → Closes s n m g known → slice_get g.loads j ≡ Some l
    → l.name < length known
cell_inside s n m g known j l h there =
    let cell = h.cells j l there in
    subst (λ k. l.name < k) (sym h.long) (slice_get_within s.slots l.name cell.of cell.there)

-- a full graph is refused only where the whole has no room
pub ends_full : {A : Type 0} (s : State) (P : A → Type 0) (r : Result A Build) → Ends s P r → r ≡ Err build.Full → most_operations < whole_size s
ends_full s P (Ok a) h e = absurd cc
ends_full s P (Err why) h e = let same : why ≡ build.Full = cc in h same
