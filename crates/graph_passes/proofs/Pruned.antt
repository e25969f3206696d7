-- Pruned: the part of what is needed.
use Rattle.std.proofs.Common.{◌≡◌, ℕ, zero, suc, ◌<◌, ◌≤◌, ℤ, pos, Bool, true, false, ◌&&◌, ◌||◌, cond, nat_lt, length, take, slice_get, Option, Some, None}
use Rattle.std.proofs.Common.{refl, sym, ap, subst, ◌∙◌, arith}
use Rattle.std.specs.Option.{is_some}
use Rattle.std.proofs.lemmas.Option.{slice_get_within}
use Rattle.vcp_base.specs.declared.ty.Ty.{Ty}
use Rattle.vcp_base.specs.declared.kind.Kind.{Kind}
use Rattle.vcp_base.specs.declared.kind.Kind.TheVariants as kind
use Rattle.vcp_base.specs.Kinds.{operands, operand_type, Outcome, outcome}
use Rattle.op_graph.specs.declared.op.Op.{Op}
use Rattle.op_graph.specs.Lists.{Lists}
use Rattle.op_graph.specs.Reads.{Reads, named}
use Rattle.op_graph.specs.Rules.{IsGraph, IsPart, is_input, is_out, reads_as}
use Rattle.op_graph.specs.Laws.{EntryLaws, WalkLaws}
use Rattle.graph_passes.specs.Folding.{computes, number_of, constant, fixed_operand, applied, fixed_value, NoneFolds}
use Rattle.graph_passes.specs.Part.{Numbering, below, chosen, can_stop, own_number, moved, moved_load, part_of, KeepsEntries, PartLaw}
use Rattle.graph_passes.specs.Pruning.{MayBeKept, Needed, NonePrunes, load_kept, numbering, IsPruned}
use Rattle.graph_passes.specs.SameRun.{MeansAs, RenumberingLaw}
use Rattle.graph_passes.proofs.Chosen.{get_there, chosen_at}
use Rattle.graph_passes.proofs.Entries.{is_its_input}
use Rattle.graph_passes.proofs.Keeping.{kept_is_closed}
use Rattle.graph_passes.proofs.Rising.{below_lt, origin}
use Rattle.graph_passes.proofs.PartGraph.{get_front}

-- the laws that this rests on
pub record PartLaws : Type 0 where
  pub entries : EntryLaws
  pub walks : WalkLaws
  pub means : RenumberingLaw
  pub graph : PartLaw
  pub earlier : (g : Lists) (q k j : ℕ) → IsPart g → Reads g.operations q k j → k < q

-- ---- a graph that means the same

input_stays : (k : Kind) (from to : Ty) → is_input k ≡ true → (is_out k || can_stop k from to) ≡ true
input_stays kind.Input from to h = refl
input_stays _ from to h = absurd cc

entries_kept : (laws : PartLaws) (g : Lists) (kept : ℕ → Bool) → IsGraph g → MayBeKept g kept → KeepsEntries (numbering g kept) g
entries_kept laws g kept graph may = record {
  inputs = λ i lt.
      let few = graph.part.enough_operations in
      let op = get_there g.operations i (omega (arith, lt, few)) in
      may.stays i op.0 op.1 (input_stays op.0.kind op.0.from op.0.ty (is_its_input g i op.0.kind lt (laws.entries.operation g i op.0 graph.part op.1).kind));
  outputs = (kept_is_closed laws.entries laws.walks g kept graph may).outputs;
  loads = λ k l there. sym (ap (load_kept kept) there);
  stores = λ k n there.
      let inside = slice_get_within g.stores k n there in
      let all = graph.all_stored in
      let l = get_there g.loads k (omega (arith, inside, all)) in
      sym (may.cells k n l.0 l.1 there) ∙ sym (ap (load_kept kept) l.1);
  cell_numbers = λ k. refl;
  no_operand = refl;
}

pub kept_means : (laws : PartLaws) (g : Lists) (kept : ℕ → Bool) → IsGraph g → MayBeKept g kept → MeansAs g (part_of (numbering g kept) g)
kept_means laws g kept graph may = laws.means (numbering g kept) g graph (kept_is_closed laws.entries laws.walks g kept graph may)

pub pruned_graph : (laws : PartLaws) (g h : Lists) → IsGraph g → IsPruned g h → IsGraph h
pruned_graph laws g h graph p =
    subst IsGraph (sym p.part) (laws.graph (numbering g p.kept) g graph (kept_is_closed laws.entries laws.walks g p.kept graph p.may)
    (entries_kept laws g p.kept graph p.may))

pub pruned_means : (laws : PartLaws) (g h : Lists) → IsGraph g → IsPruned g h → MeansAs g h
pruned_means laws g h graph p = subst (MeansAs g) (sym p.part) (kept_means laws g p.kept graph p.may)

-- ---- nothing more is pruned

both : (a b : Bool) → a ≡ true → b ≡ true → (a && b) ≡ true
both true b h e = e
both false b h e = absurd cc

first_of_two : (a b : Bool) → (a && b) ≡ true → a ≡ true
first_of_two true b h = refl
first_of_two false b h = absurd cc

second_of_two : (a b : Bool) → (a && b) ≡ true → b ≡ true
second_of_two true b h = h
second_of_two false b h = absurd cc

and_same : (a x y : Bool) → (a ≡ true → x ≡ y) → (a && x) ≡ (a && y)
and_same true x y f = f refl
and_same false x y f = refl

named_moved : (m : Numbering) (op : Op) (j : ℕ) → named (moved m op) j ≡ m.number (named op j)
named_moved m op zero = refl
named_moved m op (suc zero) = refl
named_moved m op (suc (suc j)) = refl

-- what may be kept of the part, as a set of the graph's operations
within_kept : (ℕ → Bool) → (ℕ → Bool) → ℕ → Bool
within_kept kept s i = kept i && s (below kept i)

may_within : (g : Lists) (kept s : ℕ → Bool) → MayBeKept g kept → MayBeKept (part_of (numbering g kept) g) s → MayBeKept g (within_kept kept s)
unfolding within_kept
may_within g kept s may part =
    let m = numbering g kept in
    record {
      stays = λ i op there must.
          let stays : kept i ≡ true = may.stays i op there must in
          both (kept i) (s (below kept i)) stays (part.stays (below kept i) (moved m op) (chosen_at kept (moved m) i op g.operations there stays) must);
      reads = λ q k j r in_set.
          let kept_q = first_of_two (kept q) (s (below kept q)) in_set in
          let kept_k : kept k ≡ true = may.reads q k j r kept_q in
          both (kept k) (s (below kept k)) kept_k (part.reads (below kept q) (below kept k) j
          (record {
            op = moved m r.op;
            there = chosen_at kept (moved m) q r.op g.operations r.there kept_q;
            operand = r.operand;
            names = named_moved m r.op j
                ∙ ap (below kept) r.names;
          })
          (second_of_two (kept q) (s (below kept q)) in_set));
      cells = λ k n l load store.
          let same = may.cells k n l load store in
          ap (λ b. b && s (below kept l.load)) same
          ∙ and_same (kept n) (s (below kept l.load)) (s (below kept n)) (λ kept_n.
          let cell : m.kept_cell k ≡ true = ap (load_kept kept) load ∙ same ∙ kept_n in
          part.cells (below m.kept_cell k) (below kept n) (moved_load m l) (chosen_at m.kept_cell (moved_load m) k l g.loads load cell)
          (chosen_at m.kept_cell m.number k n g.stores store cell));
    }

part_none_left : (g : Lists) (kept : ℕ → Bool) → MayBeKept g kept → ((i : ℕ) → kept i ≡ true → Needed g i) → NonePrunes (part_of (numbering g kept) g)
unfolding within_kept
part_none_left g kept may needed = λ j lt s part.
    let m = numbering g kept in
    let x = get_there (chosen kept (moved m) 0 g.operations) j lt in
    let from = origin kept (moved m) g.operations j x.0 x.1 in
    let in_set : (kept from.place && s (below kept from.place)) ≡ true = needed from.place from.picked (within_kept kept s) (may_within g kept s may part) in
    subst (λ n. s n ≡ true) (sym from.number) (second_of_two (kept from.place) (s (below kept from.place)) in_set)

pub pruned_none_left : (laws : PartLaws) (g h : Lists) → IsGraph g → IsPruned g h → NonePrunes h
pruned_none_left laws g h graph p = subst NonePrunes (sym p.part) (part_none_left g p.kept p.may p.needed)

-- ---- nothing is folded where nothing was

pub number_same : (m : Numbering) (k : Kind) (imm : ℤ) → number_of k (own_number m k imm) ≡ number_of k imm
number_same m kind.Load imm = refl
number_same m kind.Store imm = refl
number_same m _ imm = refl

pub own_same : (m : Numbering) (k : Kind) (imm : ℤ) → computes k ≡ true → own_number m k imm ≡ imm
own_same m kind.Load imm h = absurd cc
own_same m kind.Store imm h = absurd cc
own_same m _ imm h = refl

constant_same : (g : Lists) (kept : ℕ → Bool) (i n : ℕ) → kept n ≡ true → n < i → i ≤ length g.operations →
    constant (slice_get (take (below kept i) (chosen kept (moved (numbering g kept)) 0 g.operations)) (below kept n)) ≡ constant (slice_get
    (take i g.operations) n)
constant_same g kept i n kept_n lt le =
    let m = numbering g kept in
    let ops = chosen kept (moved m) 0 g.operations in
    let x = get_there g.operations n (omega (arith, lt, le)) in
    let image : slice_get (take (below kept i) ops) (below kept n) ≡ Some (moved m x.0) = get_front ops (below kept i) (below kept n)
    (below_lt kept n i kept_n lt) ∙ chosen_at kept (moved m) n x.0 g.operations x.1 kept_n in
    let there : slice_get (take i g.operations) n ≡ Some x.0 = get_front g.operations i n lt ∙ x.1 in
    ap constant image ∙ number_same m x.0.kind x.0.imm ∙ sym (ap constant there)

pub operand_same : (b : Bool) (x y : Option ℤ) → (b ≡ true → x ≡ y) → cond b x (Some (pos 0)) ≡ cond b y (Some (pos 0))
operand_same true x y f = f refl
operand_same false x y f = refl

pub value_by : (b : Bool) (f f' : ℤ → ℤ → ℤ → Outcome) (x y z x' y' z' : Option ℤ) → (b ≡ true → (f ≡ f') × (x ≡ x') × (y ≡ y') × (z ≡ z')) →
    cond b (applied f x y z) None ≡ cond b (applied f' x' y' z') None
value_by true f f' x y z x' y' z' h =
    let e = h refl in
    ap (λ w. applied w x y z) e.0 ∙ ap (λ w. applied f' w y z) e.1 ∙ ap (λ w. applied f' x' w z) e.2 ∙ ap (λ w. applied f' x' y' w) e.3
value_by false f f' x y z x' y' z' h = refl

pub is_read : (k : Kind) (from : Ty) (j : ℕ) → computes k ≡ true → nat_lt j (operands k) ≡ true → is_some (reads_as k from j) ≡ true
is_read kind.Load from j c h = absurd cc
is_read k from j c h = some_type (nat_lt j (operands k)) (operand_type k j from) h
  where
    some_type : (b : Bool) (t : Ty) → b ≡ true → is_some (cond b (Some t) None) ≡ true
    some_type true t e = refl
    some_type false t e = absurd cc

value_same : (g : Lists) (kept : ℕ → Bool) (i : ℕ) (op : Op) → ((q k j : ℕ) → Reads g.operations q k j → k < q) → MayBeKept g kept →
    slice_get g.operations i ≡ Some op → kept i ≡ true →
    fixed_value (take (below kept i) (chosen kept (moved (numbering g kept)) 0 g.operations)) (moved (numbering g kept) op) ≡ fixed_value
    (take i g.operations) op
value_same g kept i op earlier may there kept_i =
    let m = numbering g kept in
    let front = take i g.operations in
    let new = take (below kept i) (chosen kept (moved m) 0 g.operations) in
    let inside = slice_get_within g.operations i op there in
    value_by (computes op.kind) (outcome op.kind op.from op.ty (own_number m op.kind op.imm)) (outcome op.kind op.from op.ty op.imm)
    (fixed_operand new op.kind 0 (below kept op.a)) (fixed_operand new op.kind 1 (below kept op.b)) (fixed_operand new op.kind 2 (below kept op.c))
    (fixed_operand front op.kind 0 op.a) (fixed_operand front op.kind 1 op.b) (fixed_operand front op.kind 2 op.c) (λ plain.
    let same : (j : ℕ) → fixed_operand new op.kind j (below kept (named op j)) ≡ fixed_operand front op.kind j (named op j) = λ j.
    operand_same (nat_lt j (operands op.kind)) (constant (slice_get new (below kept (named op j)))) (constant (slice_get front (named op j))) (λ has.
    let r : Reads g.operations i (named op j) j = record { op = op; there = there; operand = is_read op.kind op.from j plain has; names = refl } in
    constant_same g kept i (named op j) (may.reads i (named op j) j r kept_i) (earlier i (named op j) j r) (omega (arith, inside))) in
    (ap (outcome op.kind op.from op.ty) (own_same m op.kind op.imm plain), same 0, same 1, same 2))

part_folds_none : (g : Lists) (kept : ℕ → Bool) → ((q k j : ℕ) → Reads g.operations q k j → k < q) → MayBeKept g kept → NoneFolds g →
    NoneFolds (part_of (numbering g kept) g)
part_folds_none g kept earlier may none = λ j x there.
    let m = numbering g kept in
    let ops = chosen kept (moved m) 0 g.operations in
    let from = origin kept (moved m) g.operations j x there in
    let here : fixed_value (take (below kept from.place) ops)
    (moved m from.entry) ≡ None = value_same g kept from.place from.entry earlier may from.there from.picked ∙ none from.place from.entry from.there in
    subst (λ z. fixed_value (take j ops) z ≡ None) (sym from.is) (subst (λ n. fixed_value (take n ops) (moved m from.entry) ≡ None) (sym from.number) here)

pub pruned_folds_none : (laws : PartLaws) (g h : Lists) → IsGraph g → IsPruned g h → NoneFolds g → NoneFolds h
pruned_folds_none laws g h graph p none = subst NoneFolds (sym p.part) (part_folds_none g p.kept (λ q k j r. laws.earlier g q k j graph.part r) p.may none)
