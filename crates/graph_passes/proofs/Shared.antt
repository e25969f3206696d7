-- Shared: the part of what is not joined to an earlier operation.
use Rattle.std.proofs.Common.{◌≡◌, ℕ, ◌<◌, ◌≤◌, ℤ, Bool, true, false, nat_lt, length, take, slice_get, Some, None, inl, inr, refl, sym, ap, subst, ◌∙◌, arith}
use Rattle.std.proofs.lemmas.Bool.{cases_lt}
use Rattle.std.proofs.lemmas.Option.{slice_get_within}
use Rattle.vcp_base.specs.declared.kind.Kind.{Kind}
use Rattle.vcp_base.specs.declared.kind.Kind.TheVariants as kind
use Rattle.vcp_base.specs.Kinds.{operands, outcome}
use Rattle.op_graph.specs.declared.op.Op.{Op}
use Rattle.op_graph.specs.Lists.{Lists}
use Rattle.op_graph.specs.Reads.{Reads, named}
use Rattle.op_graph.specs.Rules.{IsGraph, is_input, is_load, is_store, is_out}
use Rattle.graph_passes.specs.Folding.{computes, constant, fixed_operand, fixed_value, NoneFolds}
use Rattle.graph_passes.specs.Part.{Numbering, below, chosen, own_number, moved, part_of, OperandStands, work, IsClosed, KeepsEntries}
use Rattle.graph_passes.specs.Sharing.{joins, NoneShares, IsShared}
use Rattle.graph_passes.specs.SameRun.{MeansAs}
use Rattle.graph_passes.proofs.Chosen.{get_there, chosen_at}
use Rattle.graph_passes.proofs.Entries.{is_its_input, is_its_out, is_its_load, is_its_store}
use Rattle.graph_passes.proofs.PartGraph.{get_front}
use Rattle.graph_passes.proofs.Pruned.{PartLaws, number_same, own_same, operand_same, value_by, is_read}
use Rattle.graph_passes.proofs.Rising.{below_lt, below_le, origin}

-- ---- a graph that means the same

all_operands : (g h : Lists) (s : IsShared g h) (k : Kind) (imm : ℤ) (n : ℕ) → OperandStands s.numbers k imm n
all_operands g h s kind.Load imm n = s.all_cells _
all_operands g h s _ imm n = s.all_stand n

contrary : {b : Bool} → b ≡ false → b ≡ true → ⊥
contrary f t = absurd cc

shared_closed : (g h : Lists) (s : IsShared g h) → IsClosed s.numbers g
shared_closed g h s = record {
  reads = λ i op there stands. record {
    first = λ has. all_operands g h s op.kind op.imm op.a;
    second = λ has. all_operands g h s op.kind op.imm op.b;
    third = λ has. all_operands g h s op.kind op.imm op.c;
  };
  outputs = λ k o there. s.all_stand o.op;
  stores = λ k n there kept. s.all_stand n;
  kept_stands = λ i kept. s.all_stand i;
  kept_number = s.kept_number;
  cell_number = λ k kept. s.cell_number k;
  joined = λ i op there out stands. s.joined i op there out;
  left_out = λ i op there out. absurd (contrary out (s.all_stand i));
}

input_joins : (k : Kind) → is_input k ≡ true → joins k ≡ false
input_joins kind.Input h = refl
input_joins _ h = absurd cc

load_joins : (k : Kind) → is_load k ≡ true → joins k ≡ false
load_joins kind.Load h = refl
load_joins _ h = absurd cc

store_joins : (k : Kind) → is_store k ≡ true → joins k ≡ false
store_joins kind.Store h = refl
store_joins _ h = absurd cc

out_joins : (k : Kind) → is_out k ≡ true → joins k ≡ false
out_joins kind.Out h = refl
out_joins _ h = absurd cc

shared_entries : (laws : PartLaws) (g h : Lists) → IsGraph g → (s : IsShared g h) → KeepsEntries s.numbers g
shared_entries laws g h graph s = record {
  inputs = λ i lt.
      let few = graph.part.enough_operations in
      let op = get_there g.operations i (omega (arith, lt, few)) in
      s.entries i op.0 op.1 (input_joins op.0.kind (is_its_input g i op.0.kind lt (laws.entries.operation g i op.0 graph.part op.1).kind));
  outputs = λ k o there.
      let op = get_there g.operations o.op (laws.entries.output g k o graph.part there).operation in
      s.entries o.op op.0 op.1 (out_joins op.0.kind (is_its_out g k o op.0.kind there (laws.entries.operation g o.op op.0 graph.part op.1).kind));
  loads = λ k l there.
      let op = get_there g.operations l.load (laws.entries.load g k l graph.part there).load in
      s.entries l.load op.0 op.1 (load_joins op.0.kind (is_its_load g k l op.0.kind there (laws.entries.operation g l.load op.0 graph.part op.1).kind))
      ∙ sym (s.all_cells k);
  stores = λ k n there.
      let op = get_there g.operations n (laws.entries.store g k n graph.part there).store in
      s.entries n op.0 op.1
      (store_joins op.0.kind (is_its_store g k n op.0.kind graph.part.stored there (laws.entries.operation g n op.0 graph.part op.1).kind))
      ∙ sym (s.all_cells k);
  cell_numbers = s.cell_number;
  no_operand = s.first_number;
}

pub shared_graph : (laws : PartLaws) (g h : Lists) → IsGraph g → IsShared g h → IsGraph h
shared_graph laws g h graph s = subst IsGraph (sym s.part) (laws.graph s.numbers g graph (shared_closed g h s) (shared_entries laws g h graph s))

pub shared_means : (laws : PartLaws) (g h : Lists) → IsGraph g → IsShared g h → MeansAs g h
shared_means laws g h graph s = subst (MeansAs g) (sym s.part) (laws.means s.numbers g graph (shared_closed g h s))

-- ---- nothing more is joined

-- places of which the new number is lower are lower
pub lower : (kept : ℕ → Bool) (a b i j : ℕ) → i ≡ below kept a → j ≡ below kept b → i < j → a < b
lower kept a b i j is at lt = elim (cases_lt a b) [
  | inl less ↦ less
  | inr past ↦ let le = below_le kept b a past in absurd (omega (arith, is, at, lt, le))
]

part_shares_none : (g h : Lists) (s : IsShared g h) → NoneShares (part_of s.numbers g)
part_shares_none g h s = λ i j p q lt first second joined same.
    let m = s.numbers in
    let x = origin m.kept (moved m) g.operations i p first in
    let y = origin m.kept (moved m) g.operations j q second in
    s.differ x.place y.place x.entry y.entry (lower m.kept x.place y.place i j x.number y.number lt) x.there y.there x.picked y.picked
    (subst (λ (z : Op). joins z.kind ≡ true) y.is joined)
    (ap work (sym x.is) ∙ same ∙ ap work y.is)

pub shared_none_left : (laws : PartLaws) (g h : Lists) → IsGraph g → IsShared g h → NoneShares h
shared_none_left laws g h graph s = subst NoneShares (sym s.part) (part_shares_none g h s)

-- ---- nothing is folded where nothing was

-- what stands for operation n is in the part, and is as constant as n
record Image (m : Numbering) (g : Lists) (n : ℕ) (x : Op) : Type 0 where
  op : Op
  there : slice_get (chosen m.kept (moved m) 0 g.operations) (m.number n) ≡ Some op
  constant_is : constant (Some op) ≡ constant (Some x)
  place : ℕ
  no_later : place ≤ n
  kept : m.kept place ≡ true
  number : m.number n ≡ below m.kept place

image_by : (g h : Lists) (s : IsShared g h) (n : ℕ) (x : Op) (b : Bool) → s.numbers.kept n ≡ b → slice_get g.operations n ≡ Some x → Image s.numbers g n x
image_by g h s n x true kept there =
    let m = s.numbers in
    record {
      op = moved m x;
      there = ap (slice_get (chosen m.kept (moved m) 0 g.operations)) (s.kept_number n kept) ∙ chosen_at m.kept (moved m) n x g.operations there kept;
      constant_is = number_same m x.kind x.imm;
      place = n;
      no_later = omega arith;
      kept = kept;
      number = s.kept_number n kept;
    }
image_by g h s n x false out there =
    let m = s.numbers in
    let j = s.joined n x there out in
    let number : m.number n ≡ below m.kept j.place = j.number ∙ s.kept_number j.place j.kept in
    record {
      op = moved m j.first;
      there = ap (slice_get (chosen m.kept (moved m) 0 g.operations)) number ∙ chosen_at m.kept (moved m) j.place j.first g.operations j.there j.kept;
      constant_is = ap (λ (w : Op). constant (Some w)) (sym j.same) ∙ number_same m x.kind x.imm;
      place = j.place;
      no_later = let lt = j.earlier in omega (arith, lt);
      kept = j.kept;
      number = number;
    }

constant_same : (g h : Lists) (s : IsShared g h) (i n : ℕ) → s.numbers.kept i ≡ true → n < i → i ≤ length g.operations →
    constant (slice_get (take (below s.numbers.kept i) (chosen s.numbers.kept (moved s.numbers) 0 g.operations)) (s.numbers.number n)) ≡
    constant (slice_get (take i g.operations) n)
constant_same g h s i n kept_i lt le =
    let m = s.numbers in
    let ops = chosen m.kept (moved m) 0 g.operations in
    let x = get_there g.operations n (omega (arith, lt, le)) in
    let image = image_by g h s n x.0 (m.kept n) refl x.1 in
    let no_later = image.no_later in
    let number = image.number in
    let earlier = below_lt m.kept image.place i image.kept (omega (arith, lt, no_later)) in
    let new : slice_get (take (below m.kept i) ops) (m.number n) ≡ Some image.op =
    get_front ops (below m.kept i) (m.number n) (omega (arith, earlier, number)) ∙ image.there in
    let old : slice_get (take i g.operations) n ≡ Some x.0 = get_front g.operations i n lt ∙ x.1 in
    ap constant new ∙ image.constant_is ∙ sym (ap constant old)

value_same : (g h : Lists) (s : IsShared g h) (i : ℕ) (op : Op) → ((q k j : ℕ) → Reads g.operations q k j → k < q) → slice_get g.operations i ≡ Some op
    → s.numbers.kept i ≡ true →
    fixed_value (take (below s.numbers.kept i) (chosen s.numbers.kept (moved s.numbers) 0 g.operations)) (moved s.numbers op) ≡ fixed_value
    (take i g.operations) op
value_same g h s i op earlier there kept_i =
    let m = s.numbers in
    let front = take i g.operations in
    let new = take (below m.kept i) (chosen m.kept (moved m) 0 g.operations) in
    let inside = slice_get_within g.operations i op there in
    value_by (computes op.kind) (outcome op.kind op.from op.ty (own_number m op.kind op.imm)) (outcome op.kind op.from op.ty op.imm)
    (fixed_operand new op.kind 0 (m.number op.a)) (fixed_operand new op.kind 1 (m.number op.b)) (fixed_operand new op.kind 2 (m.number op.c))
    (fixed_operand front op.kind 0 op.a) (fixed_operand front op.kind 1 op.b) (fixed_operand front op.kind 2 op.c) (λ plain.
    let same : (j : ℕ) → fixed_operand new op.kind j (m.number (named op j)) ≡ fixed_operand front op.kind j (named op j) = λ j.
    operand_same (nat_lt j (operands op.kind)) (constant (slice_get new (m.number (named op j)))) (constant (slice_get front (named op j))) (λ has.
    let r : Reads g.operations i (named op j) j = record { op = op; there = there; operand = is_read op.kind op.from j plain has; names = refl } in
    constant_same g h s i (named op j) kept_i (earlier i (named op j) j r) (omega (arith, inside))) in
    (ap (outcome op.kind op.from op.ty) (own_same m op.kind op.imm plain), same 0, same 1, same 2))

part_folds_none : (g h : Lists) (s : IsShared g h) → ((q k j : ℕ) → Reads g.operations q k j → k < q) → NoneFolds g → NoneFolds (part_of s.numbers g)
part_folds_none g h s earlier none = λ j x there.
    let m = s.numbers in
    let ops = chosen m.kept (moved m) 0 g.operations in
    let from = origin m.kept (moved m) g.operations j x there in
    let here : fixed_value (take (below m.kept from.place) ops) (moved m from.entry) ≡ None =
    value_same g h s from.place from.entry earlier from.there from.picked ∙ none from.place from.entry from.there in
    subst (λ z. fixed_value (take j ops) z ≡ None) (sym from.is) (subst (λ n. fixed_value (take n ops) (moved m from.entry) ≡ None) (sym from.number) here)

pub shared_folds_none : (laws : PartLaws) (g h : Lists) → IsGraph g → IsShared g h → NoneFolds g → NoneFolds h
shared_folds_none laws g h graph s none = subst NoneFolds (sym s.part) (part_folds_none g h s (λ q k j r. laws.earlier g q k j graph.part r) none)
