-- PartGraph: a closed part of a graph, with the operations of its inputs, outputs and cells, is a graph.
use Rattle.std.proofs.Common.{◌≡◌, ℕ, zero, suc, ◌+◌, ◌<◌, ◌≤◌, ◌==◌, ℤ, pos, Bool, true, false, ◌&&◌, cond, nat_lt, List, [], ◌∷◌, length, map, take}
use Rattle.std.proofs.Common.{slice_get, All, Option, Some, None, refl, sym, ap, subst, ◌∙◌, arith}
use Rattle.std.specs.Prelude.{unsigned_abs}
use Rattle.std.specs.Option.{is_some}
use Rattle.std.specs.Ordering.{int_eq}
use Rattle.std.proofs.lemmas.Bool.Decides.{nat_tests, Decides-int_eq}
use Rattle.std.proofs.lemmas.List.{length-take-le}
use Rattle.std.proofs.lemmas.List.Elements.{All-nil, All-cons, All-head, All-tail, All-map}
use Rattle.std.proofs.lemmas.Option.{slice_get_within}
use Rattle.vcp_base.specs.declared.ty.Ty.{Ty}
use Rattle.vcp_base.specs.declared.kind.Kind.{Kind}
use Rattle.vcp_base.specs.declared.kind.Kind.TheVariants as kind
use Rattle.vcp_base.specs.Kinds.{operands, operand_type}
use Rattle.vcp_base.specs.Code.{admits}
use Rattle.vcp_base.specs.Types.{within}
use Rattle.op_graph.specs.declared.op.Op.{Op}
use Rattle.op_graph.specs.declared.op.Outlet.{Outlet}
use Rattle.op_graph.specs.declared.op.Loaded.{Loaded}
use Rattle.op_graph.specs.Lists.{Lists}
use Rattle.op_graph.specs.Rules.{IsGraph, Each, scope, place_of, entry_of, agree, is_input, is_load, is_store, is_out, kind_fits, from_fits}
use Rattle.op_graph.specs.declared.rules.Place.{Place}
use Rattle.op_graph.specs.declared.rules.Entry.{Entry}
use Rattle.op_graph.specs.Rules.{imm_fits, turn_fits, operand_fits, reads_as, OpFits, Operates, OutputFits, LoadFits, StoreFits, LoadedBefore, PlaceFits}
use Rattle.op_graph.specs.Rules.{Admitted}
use Rattle.op_graph.specs.Laws.{EntryLaws}
use Rattle.graph_passes.specs.Part.{Numbering, below, chosen, own_number, moved, moved_output, moved_load, part_of, OperandStands, IsClosed, KeepsEntries}
use Rattle.graph_passes.proofs.Chosen.{get_there, chosen_at, chosen_no_more}
use Rattle.graph_passes.proofs.Rising.{below_le, below_lt, below_next, below_all, length_chosen, origin, Ascending, ascending_of, chosen_ascends, rises_at}
use Rattle.graph_passes.proofs.Rising.{each_of, counted}
use Rattle.graph_passes.proofs.Entries.{is_its_input, is_its_out, is_its_load, is_its_store}
use Rattle.graph_passes.proofs.PartPlaces.{renumbered, Moves, place_moves}

-- ---- what an operation's fields are judged by

some_same : (choice : ℕ → Bool) (o : Option Entry) → is_some (renumbered choice o) ≡ is_some o
some_same choice None = refl
some_same choice (Some e) = refl

kind_moves : (m : Numbering) (p q : Place) (k : Kind) → Moves m p q → kind_fits p k ≡ true → kind_fits q k ≡ true
kind_moves m p q k moves fits =
    let a = ap is_some moves.input in
    let b : is_some q.load ≡ is_some p.load = ap is_some moves.load ∙ some_same m.kept_cell p.load in
    let c : is_some q.store ≡ is_some p.store = ap is_some moves.store ∙ some_same m.kept_cell p.store in
    let d = ap is_some moves.out in
    ap (λ x. agree (is_input k) x && agree (is_load k) (is_some q.load) && agree (is_store k) (is_some q.store) && agree (is_out k) (is_some q.out)) a
    ∙ ap (λ x. agree (is_input k) (is_some p.input) && agree (is_load k) x && agree (is_store k) (is_some q.store) && agree (is_out k) (is_some q.out)) b
    ∙ ap (λ x. agree (is_input k) (is_some p.input) && agree (is_load k) (is_some p.load) && agree (is_store k) x && agree (is_out k) (is_some q.out)) c
    ∙ ap (λ x. agree (is_input k) (is_some p.input) && agree (is_load k) (is_some p.load) && agree (is_store k) (is_some p.store) && agree (is_out k) x) d
    ∙ fits

-- the entry by which an operation of a kind is judged
Judged : Numbering → Kind → Option Entry → Option Entry → Type 0
Judged m kind.Load o n = n ≡ renumbered m.kept_cell o
Judged m kind.Store o n = n ≡ renumbered m.kept_cell o
Judged m _ o n = n ≡ o

judged : (m : Numbering) (p q : Place) (k : Kind) → Moves m p q → Judged m k (entry_of p k) (entry_of q k)
unfolding Judged
judged m p q kind.Load moves = moves.load
judged m p q kind.Store moves = moves.store
judged m p q kind.Input moves = moves.input
judged m p q kind.Out moves = moves.out
judged m p q _ moves = refl

from_renumbered : (choice : ℕ → Bool) (o : Option Entry) (k : Kind) (from : Ty) → from_fits (renumbered choice o) k from ≡ from_fits o k from
from_renumbered choice None k from = refl
from_renumbered choice (Some e) k from = refl

from_moves : (m : Numbering) (o n : Option Entry) (k : Kind) (from : Ty) → Judged m k o n → from_fits o k from ≡ true → from_fits n k from ≡ true
unfolding Judged
from_moves m o n kind.Load from j h = ap (λ x. from_fits x kind.Load from) j ∙ from_renumbered m.kept_cell o kind.Load from ∙ h
from_moves m o n kind.Store from j h = ap (λ x. from_fits x kind.Store from) j ∙ from_renumbered m.kept_cell o kind.Store from ∙ h
from_moves m o n k from j h = ap (λ x. from_fits x k from) j ∙ h

turn_renumbered : (choice : ℕ → Bool) (o : Option Entry) (turns t : ℕ) → turn_fits (renumbered choice o) turns t ≡ turn_fits o turns t
turn_renumbered choice None turns t = refl
turn_renumbered choice (Some e) turns t = refl

turn_moves : (m : Numbering) (o n : Option Entry) (k : Kind) (turns t : ℕ) → Judged m k o n → turn_fits o turns t ≡ true → turn_fits n turns t ≡ true
unfolding Judged
turn_moves m o n kind.Load turns t j h = ap (λ x. turn_fits x turns t) j ∙ turn_renumbered m.kept_cell o turns t ∙ h
turn_moves m o n kind.Store turns t j h = ap (λ x. turn_fits x turns t) j ∙ turn_renumbered m.kept_cell o turns t ∙ h
turn_moves m o n k turns t j h = ap (λ x. turn_fits x turns t) j ∙ h

int_self : (v : ℤ) → int_eq v v ≡ true
int_self v = (Decides-int_eq v v).1 refl

-- a cell's number
cell_number_moves : (m : Numbering) (o : Option Entry) (k : Kind) (to : Ty) (imm : ℤ) → ((j : ℕ) → m.cell_number j ≡ below m.kept_cell j) →
    is_some o ≡ true → imm_fits o k to imm ≡ true → imm_fits (renumbered m.kept_cell o) k to (pos (m.cell_number (unsigned_abs imm))) ≡ true
cell_number_moves m None k to imm numbers some h = absurd cc
cell_number_moves m (Some e) k to imm numbers some h =
    let is : imm ≡ pos e.number = (Decides-int_eq imm (pos e.number)).0 h in
    let same : m.cell_number (unsigned_abs imm) ≡ below m.kept_cell e.number = numbers (unsigned_abs imm) ∙ ap (λ v. below m.kept_cell (unsigned_abs v)) is in
    subst (λ n. int_eq (pos n) (pos (below m.kept_cell e.number)) ≡ true) (sym same) (int_self (pos (below m.kept_cell e.number)))

imm_moves : (m : Numbering) (p : Place) (n : Option Entry) (k : Kind) (to : Ty) (imm : ℤ) → ((j : ℕ) → m.cell_number j ≡ below m.kept_cell j) →
    kind_fits p k ≡ true → Judged m k (entry_of p k) n → imm_fits (entry_of p k) k to imm ≡ true → imm_fits n k to (own_number m k imm) ≡ true
unfolding Judged
imm_moves m p n kind.Load to imm numbers fits j h = ap (λ x. imm_fits x kind.Load to (own_number m kind.Load imm)) j
    ∙ cell_number_moves m p.load kind.Load to imm numbers (is_there (is_some p.input) (is_some p.load) (is_some p.store) (is_some p.out) fits) h
  where
    is_there : (a b c d : Bool) → (agree false a && agree true b && agree false c && agree false d) ≡ true → b ≡ true
    is_there a true c d e = refl
    is_there true false c d e = absurd cc
    is_there false false c d e = absurd cc
imm_moves m p n kind.Store to imm numbers fits j h = ap (λ x. imm_fits x kind.Store to (own_number m kind.Store imm)) j
    ∙ cell_number_moves m p.store kind.Store to imm numbers (is_there (is_some p.input) (is_some p.load) (is_some p.store) (is_some p.out) fits) h
  where
    is_there : (a b c d : Bool) → (agree false a && agree false b && agree true c && agree false d) ≡ true → c ≡ true
    is_there a b true d e = refl
    is_there true b false d e = absurd cc
    is_there false true false d e = absurd cc
    is_there false false false d e = absurd cc
imm_moves m p n kind.Input to imm numbers fits j h = ap (λ x. imm_fits x kind.Input to imm) j ∙ h
imm_moves m p n kind.Out to imm numbers fits j h = ap (λ x. imm_fits x kind.Out to imm) j ∙ h
imm_moves m p n k to imm numbers fits j h = ap (λ x. imm_fits x k to imm) j ∙ h

-- ---- operands

-- the operation that stands for operation n is in the part, with the type of n
record Stands (m : Numbering) (g : Lists) (n : ℕ) (op : Op) : Type 0 where
  image : Op
  there : slice_get (chosen m.kept (moved m) 0 g.operations) (m.number n) ≡ Some image
  ty : image.ty ≡ op.ty
  place : ℕ
  no_later : place ≤ n
  kept : m.kept place ≡ true
  number : m.number n ≡ below m.kept place

stands_by : (m : Numbering) (g : Lists) → IsClosed m g → (n : ℕ) (op : Op) (b : Bool) → m.kept n ≡ b → slice_get g.operations n ≡ Some op →
    m.stands n ≡ true → Stands m g n op
stands_by m g closed n op true kept there stands =
    let number = closed.kept_number n kept in
    record {
      image = moved m op;
      there = ap (slice_get (chosen m.kept (moved m) 0 g.operations)) number
          ∙ chosen_at m.kept (moved m) n op g.operations there kept;
      ty = refl;
      place = n;
      no_later = omega arith;
      kept = kept;
      number = number;
    }
stands_by m g closed n op false out there stands =
    let j = closed.joined n op there out stands in
    let number : m.number n ≡ below m.kept j.place = j.number ∙ closed.kept_number j.place j.kept in
    record {
      image = moved m j.first;
      there = ap (slice_get (chosen m.kept (moved m) 0 g.operations)) number ∙ chosen_at m.kept (moved m) j.place j.first g.operations j.there j.kept;
      ty = ap (λ (x : Op). x.ty) (sym j.same);
      place = j.place;
      no_later = let lt = j.earlier in omega (arith, lt);
      kept = j.kept;
      number = number;
    }

pub get_front : {X : Type 0} (xs : List X) (i n : ℕ) → n < i → slice_get (take i xs) n ≡ slice_get xs n
get_front [] zero n lt = absurd (omega arith)
get_front [] (suc i) n lt = refl
get_front (x ∷ xs) zero n lt = absurd (omega arith)
get_front (x ∷ xs) (suc i) zero lt = refl
get_front (x ∷ xs) (suc i) (suc n) lt = get_front xs i n (omega (arith, lt))

-- an operand that fits in the graph fits in the part
typed : (before : List Op) (n : ℕ) (t : Ty) (x : Op) → slice_get before n ≡ Some x → within x.ty t ≡ true → operand_fits before (Some t) n ≡ true
typed before n t x there h = ap (λ o. elim o [ None ↦ false | Some y ↦ within y.ty t ]) there ∙ h

typed_back : (before : List Op) (n : ℕ) (t : Ty) (o : Option Op) → slice_get before n ≡ o → operand_fits before (Some t) n ≡ true →
    (x : Op) × (o ≡ Some x) × (within x.ty t ≡ true)
typed_back before n t None is h = absurd (let e : false ≡ true = ap (λ o. elim o [ None ↦ false | Some y ↦ within y.ty t ]) (sym is) ∙ h in cc)
typed_back before n t (Some x) is h = (x, refl, ap (λ o. elim o [ None ↦ false | Some y ↦ within y.ty t ]) (sym is) ∙ h)

some_moves : (m : Numbering) (g : Lists) → IsClosed m g → (i n : ℕ) (t : Ty) → m.kept i ≡ true → m.stands n ≡ true → i ≤ length g.operations →
    operand_fits (take i g.operations) (Some t) n ≡ true →
    operand_fits (take (below m.kept i) (chosen m.kept (moved m) 0 g.operations)) (Some t) (m.number n) ≡ true
some_moves m g closed i n t kept stands le h =
    let x = typed_back (take i g.operations) n t (slice_get (take i g.operations) n) refl h in
    let within_front = slice_get_within (take i g.operations) n x.0 x.1 in
    let front = length-take-le i g.operations le in
    let lt : n < i = omega (arith, within_front, front) in
    let there : slice_get g.operations n ≡ Some x.0 = sym (get_front g.operations i n lt) ∙ x.1 in
    let s = stands_by m g closed n x.0 (m.kept n) refl there stands in
    let no_later = s.no_later in
    let earlier = below_lt m.kept s.place i s.kept (omega (arith, lt, no_later)) in
    let number = s.number in
    typed (take (below m.kept i) (chosen m.kept (moved m) 0 g.operations)) (m.number n) t s.image
    (get_front (chosen m.kept (moved m) 0 g.operations) (below m.kept i) (m.number n) (omega (arith, earlier, number)) ∙ s.there)
    (ap (λ ty. within ty t) s.ty ∙ x.2)

operand_by : (m : Numbering) (g : Lists) → IsClosed m g → KeepsEntries m g → (i n : ℕ) (t : Ty) (b : Bool) → m.kept i ≡ true → i ≤ length g.operations →
    (b ≡ true → m.stands n ≡ true) → operand_fits (take i g.operations) (cond b (Some t) None) n ≡ true →
    operand_fits (take (below m.kept i) (chosen m.kept (moved m) 0 g.operations)) (cond b (Some t) None) (m.number n) ≡ true
operand_by m g closed keeps i n t true kept le stands h = some_moves m g closed i n t kept (stands refl) le h
operand_by m g closed keeps i n t false kept le stands h = no_operand_moves m keeps.no_operand n h
  where
    no_operand_moves : (m : Numbering) → m.number 0 ≡ 0 → (n : ℕ) → (n == 0) ≡ true → (m.number n == 0) ≡ true
    no_operand_moves m zero_is zero h = ap (λ k. k == 0) zero_is
    no_operand_moves m zero_is (suc n) h = absurd (grind (arith, nat_tests))

operand_moves : (m : Numbering) (g : Lists) → IsClosed m g → KeepsEntries m g → (i : ℕ) (k : Kind) (from : Ty) (imm : ℤ) (j n : ℕ) → m.kept i ≡ true →
    i ≤ length g.operations → (nat_lt j (operands k) ≡ true → OperandStands m k imm n) → operand_fits (take i g.operations) (reads_as k from j) n ≡ true →
    operand_fits (take (below m.kept i) (chosen m.kept (moved m) 0 g.operations)) (reads_as k from j) (m.number n) ≡ true
operand_moves m g closed keeps i kind.Load from imm j n kept le stands h = operand_by m g closed keeps i n from false kept le (λ e. absurd cc) h
operand_moves m g closed keeps i k from imm j n kept le stands h = operand_by m g closed keeps i n (operand_type k j from) (nat_lt j
    (operands k)) kept le stands h

-- ---- one operation

op_moves : (entries : EntryLaws) (m : Numbering) (g : Lists) → IsGraph g → IsClosed m g → KeepsEntries m g → (i : ℕ) (op : Op) →
    slice_get g.operations i ≡ Some op → m.kept i ≡ true →
    OpFits (place_of (scope (part_of m g)) (below m.kept i)) (length g.turn_nodes) (take (below m.kept i) (chosen m.kept (moved m) 0 g.operations)) (moved m op)
unfolding Judged
op_moves entries m g graph closed keeps i op there kept =
    let fit : OpFits (place_of (scope g) i) (length g.turn_nodes) (take i g.operations) op = entries.operation g i op graph.part there in
    let p = place_of (scope g) i in
    let q = place_of (scope (part_of m g)) (below m.kept i) in
    let moves = place_moves m g graph closed keeps i kept in
    let j : Judged m op.kind (entry_of p op.kind) (entry_of q op.kind) = judged m p q op.kind moves in
    let reads = closed.reads i op there (closed.kept_stands i kept) in
    let lt = slice_get_within g.operations i op there in
    let le : i ≤ length g.operations = omega (arith, lt) in
    record {
      kind = kind_moves m p q op.kind moves fit.kind;
      from = from_moves m (entry_of p op.kind) (entry_of q op.kind) op.kind op.from j fit.from;
      ty = fit.ty;
      a = operand_moves m g closed keeps i op.kind op.from op.imm 0 op.a kept le reads.first fit.a;
      b = operand_moves m g closed keeps i op.kind op.from op.imm 1 op.b kept le reads.second fit.b;
      c = operand_moves m g closed keeps i op.kind op.from op.imm 2 op.c kept le reads.third fit.c;
      imm = imm_moves m p (entry_of q op.kind) op.kind op.ty op.imm keeps.cell_numbers fit.kind j fit.imm;
      turn = turn_moves m (entry_of p op.kind) (entry_of q op.kind) op.kind (length g.turn_nodes) op.turn j fit.turn;
    }

-- ---- the lists

map_ascends : {X Y : Type 0} (kept : ℕ → Bool) (g : X → Y) (f : X → ℕ) (h : Y → ℕ) (k : ℕ) (xs : List X) → Ascending f k xs → ((i : ℕ) (x : X) →
    slice_get xs i ≡ Some x → (kept (f x) ≡ true) × (h (g x) ≡ below kept (f x))) → Ascending h (below kept k) (map g xs)
map_ascends kept g f h k [] up own = tt
map_ascends kept g f h k (x ∷ xs) up own =
    let mine = own 0 x refl in
    let is = mine.1 in
    let first = below_le kept k (f x) up.0 in
    let next : below kept (suc (f x)) ≡ suc (h (g x)) = below_next kept (f x) mine.0 ∙ ap suc (sym is) in
    (omega (arith, first, is), subst (λ j. Ascending h j (map g xs)) next (map_ascends kept g f h (suc (f x)) xs up.1 (λ i z there. own (suc i) z there)))

length_map : {X Y : Type 0} (f : X → Y) (xs : List X) → length (map f xs) ≡ length xs
length_map f [] = refl
length_map f (x ∷ xs) = let rest = length_map f xs in omega (arith, rest)

map_back : {X Y : Type 0} (f : X → Y) (xs : List X) (i : ℕ) (y : Y) → slice_get (map f xs) i ≡ Some y → (x : X) × (slice_get xs i ≡ Some x) × (y ≡ f x)
map_back f [] i y there = absurd cc
map_back f (x ∷ xs) zero y there = let same : y ≡ f x = cc in (x, refl, same)
map_back f (x ∷ xs) (suc i) y there = map_back f xs i y there

take_map : {X Y : Type 0} (f : X → Y) (xs : List X) (i : ℕ) → take i (map f xs) ≡ map f (take i xs)
take_map f [] zero = refl
take_map f [] (suc i) = refl
take_map f (x ∷ xs) zero = refl
take_map f (x ∷ xs) (suc i) = ap (λ l. f x ∷ l) (take_map f xs i)

-- a kept operation is in the part
low : (m : Numbering) (g : Lists) → IsClosed m g → (a : ℕ) → m.kept a ≡ true → a < length g.operations →
    m.number a < length (chosen m.kept (moved m) 0 g.operations)
low m g closed a kept lt =
    let number = closed.kept_number a kept in
    let less = below_lt m.kept a (length g.operations) kept lt in
    let long = length_chosen m.kept (moved m) g.operations in
    omega (arith, number, less, long)

outputs_rise : (entries : EntryLaws) (m : Numbering) (g : Lists) → IsGraph g → IsClosed m g → KeepsEntries m g →
    Ascending (λ (o : Outlet). o.op) 0 (map (moved_output m) g.outputs)
outputs_rise entries m g graph closed keeps =
    map_ascends m.kept (moved_output m) (λ (o : Outlet). o.op) (λ (o : Outlet). o.op) 0 g.outputs
    (ascending_of (OutputFits (length g.names) (length g.operations)) (λ (o : Outlet). o.op) 0 [] g.outputs (λ b x h. h.operation_rises)
    (λ z all. omega arith) graph.part.outputs)
    (λ i o there. (keeps.outputs i o there, closed.kept_number o.op (keeps.outputs i o there)))

outputs_fit : (entries : EntryLaws) (m : Numbering) (g : Lists) → IsGraph g → IsClosed m g → KeepsEntries m g →
    Each (OutputFits (length g.names) (length (chosen m.kept (moved m) 0 g.operations))) [] (map (moved_output m) g.outputs)
outputs_fit entries m g graph closed keeps =
    let n = length (chosen m.kept (moved m) 0 g.operations) in
    let ys = map (moved_output m) g.outputs in
    each_of (OutputFits (length g.names) n) [] ys (λ i y there.
    let from = map_back (moved_output m) g.outputs i y there in
    let o = from.0 in
    let fit = entries.output g i o graph.part from.1 in
    let rises : All (λ (p : Outlet). p.op < y.op) (take i ys) = rises_at (λ (p : Outlet). p.op) 0 ys i y (outputs_rise entries m g graph closed keeps) there in
    let names : All (λ (p : Outlet). p.name < o.name) (take i ys) = subst (λ l. All (λ (p : Outlet). p.name < o.name) l) (sym (take_map
    (moved_output m) g.outputs i)) (All-map (λ (p : Outlet). p.name < o.name) (moved_output m) (take i g.outputs) fit.name_rises) in
    subst (λ z. OutputFits (length g.names) n (take i ys) z) (sym from.2) (record {
      name = fit.name;
      name_rises = names;
      operation = low m g closed o.op (keeps.outputs i o from.1) fit.operation;
      operation_rises = subst (λ (z : Outlet). All (λ (p : Outlet). p.op < z.op) (take i ys)) from.2 rises;
    }))

loads_rise : (m : Numbering) (g : Lists) → IsGraph g → IsClosed m g → KeepsEntries m g →
    Ascending (λ (l : Loaded). l.load) 0 (chosen m.kept_cell (moved_load m) 0 g.loads)
loads_rise m g graph closed keeps =
    chosen_ascends m.kept_cell m.kept (moved_load m) (λ (l : Loaded). l.load) (λ (l : Loaded). l.load) 0 0 g.loads
    (ascending_of (LoadFits (length g.names) (length g.operations)) (λ (l : Loaded). l.load) 0 [] g.loads (λ b x h. h.load_rises)
    (λ z all. omega arith) graph.part.loads)
    (λ k l there picked.
    let keeps_it : m.kept l.load ≡ true = keeps.loads k l there ∙ ap m.kept_cell (let e : k ≡ k + 0 = omega arith in e) ∙ picked in
    (keeps_it, closed.kept_number l.load keeps_it))

loads_fit : (entries : EntryLaws) (m : Numbering) (g : Lists) → IsGraph g → IsClosed m g → KeepsEntries m g →
    Each (LoadFits (length g.names) (length (chosen m.kept (moved m) 0 g.operations))) [] (chosen m.kept_cell (moved_load m) 0 g.loads)
loads_fit entries m g graph closed keeps =
    let n = length (chosen m.kept (moved m) 0 g.operations) in
    let ys = chosen m.kept_cell (moved_load m) 0 g.loads in
    each_of (LoadFits (length g.names) n) [] ys (λ i y there.
    let from = origin m.kept_cell (moved_load m) g.loads i y there in
    let l = from.entry in
    let fit = entries.load g from.place l graph.part from.there in
    let rises : All (λ (p : Loaded). p.load < y.load) (take i ys) = rises_at (λ (p : Loaded). p.load) 0 ys i y (loads_rise m g graph closed keeps) there in
    subst (λ z. LoadFits (length g.names) n (take i ys) z) (sym from.is) (record {
      name = fit.name;
      init = fit.init;
      load = low m g closed l.load (keeps.loads from.place l from.there ∙ from.picked) fit.load;
      load_rises = subst (λ (z : Loaded). All (λ (p : Loaded). p.load < z.load) (take i ys)) from.is rises;
    }))

stores_rise : (m : Numbering) (g : Lists) → IsGraph g → IsClosed m g → KeepsEntries m g → Ascending (λ (n : ℕ). n) 0 (chosen m.kept_cell m.number 0 g.stores)
stores_rise m g graph closed keeps =
    chosen_ascends m.kept_cell m.kept m.number (λ (n : ℕ). n) (λ (n : ℕ). n) 0 0 g.stores
    (ascending_of (StoreFits g.loads (length g.operations)) (λ (n : ℕ). n) 0 [] g.stores (λ b x h. h.store_rises) (λ z all. omega arith) graph.part.stores)
    (λ k n there picked.
    let keeps_it : m.kept n ≡ true = keeps.stores k n there ∙ ap m.kept_cell (let e : k ≡ k + 0 = omega arith in e) ∙ picked in
    (keeps_it, closed.kept_number n keeps_it))

before_some : (o : Option Loaded) (l : Loaded) (n : ℕ) → o ≡ Some l → LoadedBefore o n → l.load < n
before_some None l n e h = absurd cc
before_some (Some x) l n e h = let same : x ≡ l = cc in subst (λ (z : Loaded). z.load < n) same h

some_before : (o : Option Loaded) (l : Loaded) (n : ℕ) → o ≡ Some l → l.load < n → LoadedBefore o n
some_before o l n e h = subst (λ x. LoadedBefore x n) (sym e) h

stores_fit : (entries : EntryLaws) (m : Numbering) (g : Lists) → IsGraph g → IsClosed m g → KeepsEntries m g →
    Each (StoreFits (chosen m.kept_cell (moved_load m) 0 g.loads) (length (chosen m.kept (moved m) 0 g.operations))) [] (chosen m.kept_cell m.number 0 g.stores)
stores_fit entries m g graph closed keeps =
    let n = length (chosen m.kept (moved m) 0 g.operations) in
    let loads = chosen m.kept_cell (moved_load m) 0 g.loads in
    let ys = chosen m.kept_cell m.number 0 g.stores in
    each_of (StoreFits loads n) [] ys (λ i y there.
    let from = origin m.kept_cell m.number g.stores i y there in
    let k = from.place in
    let x = from.entry in
    let fit = entries.store g k x graph.part from.there in
    let rises : All (λ (p : ℕ). p < y) (take i ys) = rises_at (λ (p : ℕ). p) 0 ys i y (stores_rise m g graph closed keeps) there in
    let inside = slice_get_within g.stores k x from.there in
    let all = graph.all_stored in
    let l = get_there g.loads k (omega (arith, inside, all)) in
    let front : length (take k g.stores) ≡ k = length-take-le k g.stores (omega (arith, inside)) in
    let earlier : l.0.load < x = before_some (slice_get g.loads (length (take k g.stores))) l.0 x (ap (slice_get g.loads) front ∙ l.1) fit.after_load in
    let load_kept : m.kept l.0.load ≡ true = keeps.loads k l.0 l.1 ∙ from.picked in
    let store_kept : m.kept x ≡ true = keeps.stores k x from.there ∙ from.picked in
    let lower = below_lt m.kept l.0.load x load_kept earlier in
    let a = closed.kept_number l.0.load load_kept in
    let b = closed.kept_number x store_kept in
    let within_ys = slice_get_within ys i y there in
    let here : length (take i ys) ≡ below m.kept_cell k = length-take-le i ys (omega (arith, within_ys)) ∙ from.number in
    let image : slice_get loads (length (take i ys)) ≡ Some (moved_load m l.0) = ap (slice_get loads) here
    ∙ chosen_at m.kept_cell (moved_load m) k l.0 g.loads l.1 from.picked in
    subst (λ z. StoreFits loads n (take i ys) z) (sym from.is) (record {
      store = low m g closed x store_kept fit.store;
      store_rises = subst (λ z. All (λ (p : ℕ). p < z) (take i ys)) from.is rises;
      after_load = some_before (slice_get loads (length (take i ys))) (moved_load m l.0) (m.number x) image (omega (arith, lower, a, b));
    }))

operations_fit : (entries : EntryLaws) (m : Numbering) (g : Lists) → IsGraph g → IsClosed m g → KeepsEntries m g →
    Each (Operates (scope (part_of m g)) (length g.turn_nodes)) [] (chosen m.kept (moved m) 0 g.operations)
operations_fit entries m g graph closed keeps =
    let ops = chosen m.kept (moved m) 0 g.operations in
    let s = scope (part_of m g) in
    let turns = length g.turn_nodes in
    each_of (Operates s turns) [] ops (λ j x there.
    let from = origin m.kept (moved m) g.operations j x there in
    let fit : OpFits (place_of s (below m.kept from.place)) turns (take (below m.kept from.place) ops)
    (moved m from.entry) = op_moves entries m g graph closed keeps from.place from.entry from.there from.picked in
    let here : OpFits (place_of s j) turns (take j ops) (moved m from.entry) = subst (λ k. OpFits (place_of s k) turns (take k ops) (moved m from.entry))
    (sym from.number) fit in
    let inside = slice_get_within ops j x there in
    let front : length (take j ops) ≡ j = length-take-le j ops (omega (arith, inside)) in
    subst (λ z. OpFits (place_of s (length (take j ops))) turns (take j ops) z) (sym from.is) (subst (λ k. OpFits (place_of s k) turns (take j ops)
    (moved m from.entry)) (sym front) here))

-- ---- how many operations there are

test_of : (Kind → Bool) → Option Op → Bool
test_of test None = false
test_of test (Some op) = test op.kind

is_kind : (Kind → Bool) → List Op → ℕ → Bool
is_kind test ops i = test_of test (slice_get ops i)

bit : Bool → ℕ
bit true = 1
bit false = 0

by_bit : (b : Bool) (k : ℕ) → cond b (suc k) k ≡ bit b + k
unfolding bit
by_bit true k = omega arith
by_bit false k = omega arith

add_bit : (p : ℕ → Bool) (n : ℕ) → below p (suc n) ≡ bit (p n) + below p n
add_bit p n = by_bit (p n) (below p n)

four_few : (a b c d : ℕ → Bool) (n : ℕ) → ((i : ℕ) → bit (a i) + bit (b i) + bit (c i) + bit (d i) ≤ 1) → below a n + below b n + below c n + below d n ≤ n
four_few a b c d zero one = omega arith
four_few a b c d (suc n) one =
    let h = four_few a b c d n one in
    let here = one n in
    let w = add_bit a n in
    let x = add_bit b n in
    let y = add_bit c n in
    let z = add_bit d n in
    omega (arith, h, here, w, x, y, z)

one_kind : (k : Kind) → bit (is_input k) + bit (is_out k) + bit (is_load k) + bit (is_store k) ≤ 1
unfolding bit
one_kind kind.Input = omega arith
one_kind kind.Load = omega arith
one_kind kind.Store = omega arith
one_kind kind.Out = omega arith
one_kind _ = omega arith

no_kind : bit false + bit false + bit false + bit false ≤ 1
unfolding bit
no_kind = omega arith

one_test : (o : Option Op) → bit (test_of is_input o) + bit (test_of is_out o) + bit (test_of is_load o) + bit (test_of is_store o) ≤ 1
unfolding test_of
one_test None = no_kind
one_test (Some op) = one_kind op.kind

one_at : (ops : List Op) (i : ℕ) → bit (is_kind is_input ops i) + bit (is_kind is_out ops i) + bit (is_kind is_load ops i) + bit (is_kind is_store ops i) ≤ 1
unfolding is_kind
one_at ops i = one_test (slice_get ops i)

-- the kind of a kept operation at its new number
kind_at : (m : Numbering) (g : Lists) (test : Kind → Bool) (a : ℕ) (op : Op) → slice_get g.operations a ≡ Some op → m.kept a ≡ true → test op.kind ≡ true →
    is_kind test (chosen m.kept (moved m) 0 g.operations) (below m.kept a) ≡ true
unfolding is_kind test_of
kind_at m g test a op there kept is = ap (test_of test) (chosen_at m.kept (moved m) a op g.operations there kept) ∙ is

kept_kind : (m : Numbering) (g : Lists) → IsClosed m g → (test : Kind → Bool) (a : ℕ) (op : Op) → slice_get g.operations a ≡ Some op → m.kept a ≡ true →
    test op.kind ≡ true → is_kind test (chosen m.kept (moved m) 0 g.operations) (m.number a) ≡ true
kept_kind m g closed test a op there kept is = ap (is_kind test (chosen m.kept (moved m) 0 g.operations)) (closed.kept_number a kept)
    ∙ kind_at m g test a op there kept is

enough : (entries : EntryLaws) (m : Numbering) (g : Lists) → IsGraph g → IsClosed m g → KeepsEntries m g →
    length g.inputs + length (map (moved_output m) g.outputs) + length (chosen m.kept_cell (moved_load m) 0 g.loads) + length
    (chosen m.kept_cell m.number 0 g.stores) ≤ length (chosen m.kept (moved m) 0 g.operations)
enough entries m g graph closed keeps =
    let ops = chosen m.kept (moved m) 0 g.operations in
    let n = length ops in
    let part = graph.part in
    let inputs : below (is_kind is_input ops) n ≡ below (is_kind is_input ops) n = refl in
    let few = part.enough_operations in
    let all_in = below_all m.kept (length g.inputs) keeps.inputs in
    let long = length_chosen m.kept (moved m) g.operations in
    let grown = below_le m.kept (length g.inputs) (length g.operations) (omega (arith, few)) in
    let front : below (is_kind is_input ops) (length g.inputs) ≡ length g.inputs = below_all (is_kind is_input ops) (length g.inputs) (λ i lt.
    let op = get_there g.operations i (omega (arith, lt, few)) in
    let same : below m.kept i ≡ i = below_all m.kept i (λ k less. keeps.inputs k (omega (arith, less, lt))) in
    ap (is_kind is_input ops) (sym same) ∙ kind_at m g is_input i op.0 op.1 (keeps.inputs i lt) (is_its_input g i op.0.kind lt
    (entries.operation g i op.0 part op.1).kind)) in
    let first = below_le (is_kind is_input ops) (length g.inputs) n (omega (arith, all_in, long, grown)) in
    let second = counted (is_kind is_out ops) (λ (o : Outlet). o.op) 0 n (map (moved_output m) g.outputs) (omega arith)
    (outputs_rise entries m g graph closed keeps) (λ i y there.
    let from = map_back (moved_output m) g.outputs i y there in
    let o = from.0 in
    let inside = (entries.output g i o part from.1).operation in
    let op = get_there g.operations o.op inside in
    let kept = keeps.outputs i o from.1 in
    subst (λ (z : Outlet). (z.op < n) × (is_kind is_out ops z.op ≡ true)) (sym from.2) (
      low m g closed o.op kept inside,
      kept_kind m g closed is_out o.op op.0 op.1 kept (is_its_out g i o op.0.kind from.1
          (entries.operation g o.op op.0 part op.1).kind),
    )) in
    let third = counted (is_kind is_load ops) (λ (l : Loaded). l.load) 0 n (chosen m.kept_cell (moved_load m) 0 g.loads) (omega arith)
    (loads_rise m g graph closed keeps) (λ i y there.
    let from = origin m.kept_cell (moved_load m) g.loads i y there in
    let l = from.entry in
    let inside = (entries.load g from.place l part from.there).load in
    let op = get_there g.operations l.load inside in
    let kept = keeps.loads from.place l from.there ∙ from.picked in
    subst (λ (z : Loaded). (z.load < n) × (is_kind is_load ops z.load ≡ true)) (sym from.is) (
      low m g closed l.load kept inside,
      kept_kind m g closed is_load l.load op.0 op.1 kept (is_its_load g from.place l op.0.kind from.there
          (entries.operation g l.load op.0 part op.1).kind),
    )) in
    let fourth = counted (is_kind is_store ops) (λ (k : ℕ). k) 0 n (chosen m.kept_cell m.number 0 g.stores) (omega arith)
    (stores_rise m g graph closed keeps) (λ i y there.
    let from = origin m.kept_cell m.number g.stores i y there in
    let x = from.entry in
    let inside = (entries.store g from.place x part from.there).store in
    let op = get_there g.operations x inside in
    let kept = keeps.stores from.place x from.there ∙ from.picked in
    subst (λ z. (z < n) × (is_kind is_store ops z ≡ true)) (sym from.is) (
      low m g closed x kept inside,
      kept_kind m g closed is_store x op.0 op.1 kept
          (is_its_store g from.place x op.0.kind part.stored from.there (entries.operation g x op.0 part op.1).kind),
    )) in
    let total = four_few (is_kind is_input ops) (is_kind is_out ops) (is_kind is_load ops) (is_kind is_store ops) n (λ i. one_at ops i) in
    omega (arith, front, first, second, third, fourth, total)

-- ---- the whole

all_by : {X : Type 0} (P : X → Type 0) (x : X) (xs : List X) (b : Bool) → P x → All P xs → All P (cond b (x ∷ xs) xs)
all_by P x xs true p h = All-cons P x xs p h
all_by P x xs false p h = h

all_chosen : {X Y : Type 0} (P : X → Type 0) (Q : Y → Type 0) (choice : ℕ → Bool) (f : X → Y) (s : ℕ) (xs : List X) → ((x : X) → P x → Q (f x)) → All P xs →
    All Q (chosen choice f s xs)
all_chosen P Q choice f s [] change h = All-nil Q
all_chosen P Q choice f s (x ∷ xs) change h = all_by Q (f x) (chosen choice f (suc s) xs) (choice s) (change x (All-head P x xs h))
    (all_chosen P Q choice f (suc s) xs change (All-tail P x xs h))

pub part_is_graph : (entries : EntryLaws) (m : Numbering) (g : Lists) → IsGraph g → IsClosed m g → KeepsEntries m g → IsGraph (part_of m g)
part_is_graph entries m g graph closed keeps =
    let p = graph.part in
    let all = graph.all_stored in
    let stores = length_chosen m.kept_cell m.number g.stores in
    let loads = length_chosen m.kept_cell (moved_load m) g.loads in
    let same : below m.kept_cell (length g.stores) ≡ below m.kept_cell (length g.loads) = ap (below m.kept_cell) all in
    let whole : length (chosen m.kept_cell m.number 0 g.stores) ≡ length (chosen m.kept_cell (moved_load m) 0 g.loads) = stores ∙ same ∙ sym loads in
    record {
      part = record {
        few_names = p.few_names;
        few_inputs = p.few_inputs;
        few_outputs = let long = length_map (moved_output m) g.outputs in let few = p.few_outputs in omega (arith, long, few);
        few_cells = let no_more = chosen_no_more m.kept_cell (moved_load m) 0 g.loads in let few = p.few_cells in omega (arith, no_more, few);
        few_turn_nodes = p.few_turn_nodes;
        few_operations = let no_more = chosen_no_more m.kept (moved m) 0 g.operations in let few = p.few_operations in omega (arith, no_more, few);
        enough_operations = enough entries m g graph closed keeps;
        stored = omega (arith, whole);
        names = p.names;
        inputs = p.inputs;
        outputs = outputs_fit entries m g graph closed keeps;
        loads = loads_fit entries m g graph closed keeps;
        stores = stores_fit entries m g graph closed keeps;
        turn_nodes = p.turn_nodes;
        operations = operations_fit entries m g graph closed keeps;
        widths = record {
          places = all_chosen (λ (op : Op). PlaceFits op.spot) (λ (op : Op). PlaceFits op.spot) m.kept (moved m) 0 g.operations
              (λ x h. h) p.widths.places;
          values = p.widths.values;
        };
        types = record {
          operations = all_chosen (Admitted g.profile) (Admitted g.profile) m.kept (moved m) 0 g.operations
              (λ x h. h) p.types.operations;
          loads = all_chosen (λ (l : Loaded). admits g.profile l.ty ≡ true) (λ
              (l : Loaded). admits g.profile l.ty ≡ true) m.kept_cell (moved_load m) 0 g.loads (λ x h. h) p.types.loads;
        };
      };
      all_stored = whole;
    }
