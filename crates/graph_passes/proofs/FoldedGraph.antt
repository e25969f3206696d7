-- FoldedGraph: a folded graph keeps the rules of graphs.
use Rattle.std.proofs.Common.{◌≡◌, ℕ, zero, suc, ◌+◌, ◌≤◌, ◌==◌, ℤ, Bool, true, false, List, [], ◌∷◌, ◌++◌, length, map, slice_get, All, Option, Some, None}
use Rattle.std.proofs.Common.{refl, sym, ap, subst, ◌∙◌, arith, nat_le}
use Rattle.std.proofs.lemmas.List.{length_push, map-append}
use Rattle.std.proofs.lemmas.List.Elements.{All-nil, All-cons, All-head, All-tail}
use Rattle.vcp_base.specs.declared.ty.Ty.{Ty}
use Rattle.vcp_base.specs.declared.ty.Ty.TheVariants as ty
use Rattle.vcp_base.specs.declared.code.Profile.{Profile}
use Rattle.vcp_base.specs.declared.kind.Kind.{Kind}
use Rattle.vcp_base.specs.declared.kind.Kind.TheVariants as kind
use Rattle.vcp_base.specs.Types.{within}
use Rattle.vcp_base.specs.Limits.{most_operations}
use Rattle.op_graph.specs.declared.op.Op.{Op}
use Rattle.op_graph.specs.Lists.{Lists}
use Rattle.op_graph.specs.Rules.{IsGraph, Each, Scope, scope, place_of, entry_of, same_type, operand_fits, turn_fits, kind_fits, OpFits, Operates}
use Rattle.op_graph.specs.declared.rules.Place.{Place}
use Rattle.op_graph.specs.Rules.{OutputFits, LoadFits, StoreFits, PlaceFits, Admitted}
use Rattle.graph_passes.specs.Folding.{computes, fixed_value, replaced, folded_op, folded_after, folded}
use Rattle.graph_passes.proofs.Folds.{has_value, fixed_fits, length-folded}

same_self : (t : Ty) → same_type t t ≡ true
same_self ty.Bool = refl
same_self ty.Int = refl
same_self ty.Dint = refl
same_self ty.Lint = refl

-- ---- operands are judged by the types of the operations that they read

types : List Op → List Ty
types ops = map (λ (op : Op). op.ty) ops

fits_types : List Ty → Option Ty → ℕ → Bool
fits_types ts None n = n == 0
fits_types ts (Some t) n = elim (slice_get ts n) [ None ↦ false | Some s ↦ within s t ]

by_types : (before : List Op) (o : Option Ty) (n : ℕ) → operand_fits before o n ≡ fits_types (types before) o n
unfolding types fits_types
by_types before None n = refl
by_types [] (Some t) n = refl
by_types (x ∷ before) (Some t) zero = refl
by_types (x ∷ before) (Some t) (suc n) = by_types before (Some t) n

operand_same : (before done : List Op) → types before ≡ types done → (o : Option Ty) (n : ℕ) → operand_fits before o n ≡ true → operand_fits done o n ≡ true
operand_same before done e o n h = by_types done o n ∙ ap (λ ts. fits_types ts o n) (sym e) ∙ sym (by_types before o n) ∙ h

replaced_ty : (op : Op) (o : Option ℤ) → (replaced op o).ty ≡ op.ty
replaced_ty op None = refl
replaced_ty op (Some v) = refl

types_push : (before done : List Op) (op : Op) (o : Option ℤ) → types before ≡ types done → types (before ++ op ∷ []) ≡ types (done ++ replaced op o ∷ [])
unfolding types
types_push before done op o e =
    map-append (λ (x : Op). x.ty) before (op ∷ []) ∙ ap (λ ts. ts ++ op.ty ∷ []) e ∙ ap (λ t. types done ++ t ∷ []) (sym (replaced_ty op o))
    ∙ sym (map-append (λ (x : Op). x.ty) done (replaced op o ∷ []))

-- ---- one operation

kind_plain : (p : Place) (k : Kind) → computes k ≡ true → kind_fits p k ≡ true → kind_fits p kind.Const ≡ true
kind_plain p kind.Input c h = absurd cc
kind_plain p kind.Const c h = absurd cc
kind_plain p kind.Load c h = absurd cc
kind_plain p kind.Store c h = absurd cc
kind_plain p kind.Out c h = absurd cc
kind_plain p _ c h = h

turn_plain : (p : Place) (k : Kind) (turns n : ℕ) → computes k ≡ true → turn_fits (entry_of p k) turns n ≡ true → nat_le n turns ≡ true
turn_plain p kind.Input turns n c h = absurd cc
turn_plain p kind.Const turns n c h = absurd cc
turn_plain p kind.Load turns n c h = absurd cc
turn_plain p kind.Store turns n c h = absurd cc
turn_plain p kind.Out turns n c h = absurd cc
turn_plain p _ turns n c h = h

replaced_fits : (p : Place) (turns : ℕ) (before done : List Op) (op : Op) (o : Option ℤ) → types before ≡ types done → fixed_value done op ≡ o →
    OpFits p turns before op → OpFits p turns done (replaced op o)
replaced_fits p turns before done op None e h fit = record {
  kind = fit.kind;
  from = fit.from;
  ty = fit.ty;
  a = operand_same before done e _ op.a fit.a;
  b = operand_same before done e _ op.b fit.b;
  c = operand_same before done e _ op.c fit.c;
  imm = fit.imm;
  turn = fit.turn;
}
replaced_fits p turns before done op (Some v) e h fit =
    let plain = (has_value done op v h).plain in
    record {
      kind = kind_plain p op.kind plain fit.kind;
      from = refl;
      ty = same_self op.ty;
      a = refl;
      b = refl;
      c = refl;
      imm = fixed_fits done op v h;
      turn = turn_plain p op.kind turns op.turn plain fit.turn;
    }

each_folded : (s : Scope) (turns : ℕ) (before done ops : List Op) → length before ≡ length done → types before ≡ types done →
    Each (Operates s turns) before ops → Each (Operates s turns) done (folded_after done ops)
each_folded s turns before done [] len e h = tt
each_folded s turns before done (op ∷ ops) len e h =
    let o = fixed_value done op in
    let fit : OpFits (place_of s (length done)) turns before op = subst (λ n. OpFits (place_of s n) turns before op) len h.0 in
    let a = length_push before op in
    let b = length_push done (replaced op o) in (
      replaced_fits (place_of s (length done)) turns before done op o e refl fit,
      each_folded s turns (before ++ op ∷ []) (done ++ replaced op o ∷ []) ops (omega (arith, a, b, len)) (types_push before done op o e) h.1,
    )

-- ---- the whole

all_folded : (P : Op → Type 0) → ((op : Op) (o : Option ℤ) → P op → P (replaced op o)) → (done ops : List Op) → All P ops → All P (folded_after done ops)
all_folded P keeps done [] h = All-nil P
all_folded P keeps done (op ∷ ops) h =
    All-cons P (folded_op done op) (folded_after (done ++ folded_op done op ∷ []) ops) (keeps op (fixed_value done op) (All-head P op ops h))
    (all_folded P keeps (done ++ folded_op done op ∷ []) ops (All-tail P op ops h))

place_kept : (op : Op) (o : Option ℤ) → PlaceFits op.spot → PlaceFits (replaced op o).spot
place_kept op None h = h
place_kept op (Some v) h = h

admitted_kept : (p : Profile) (op : Op) (o : Option ℤ) → Admitted p op → Admitted p (replaced op o)
admitted_kept p op None h = h
admitted_kept p op (Some v) h = (h.1, h.1)

pub folded_is_graph : (g : Lists) → IsGraph g → IsGraph (folded g)
unfolding types
folded_is_graph g graph =
    let p = graph.part in
    let len : length g.operations ≡ length (folded g).operations = sym (length-folded [] g.operations) in
    let none : types [] ≡ types [] = refl in
    record {
      part = record {
        few_names = p.few_names;
        few_inputs = p.few_inputs;
        few_outputs = p.few_outputs;
        few_cells = p.few_cells;
        few_turn_nodes = p.few_turn_nodes;
        few_operations = subst (λ n. n ≤ most_operations) len p.few_operations;
        enough_operations = subst (λ n. length g.inputs + length g.outputs + length g.loads + length g.stores ≤ n) len p.enough_operations;
        stored = p.stored;
        names = p.names;
        inputs = p.inputs;
        outputs = subst (λ n. Each (OutputFits (length g.names) n) [] g.outputs) len p.outputs;
        loads = subst (λ n. Each (LoadFits (length g.names) n) [] g.loads) len p.loads;
        stores = subst (λ n. Each (StoreFits g.loads n) [] g.stores) len p.stores;
        turn_nodes = p.turn_nodes;
        operations = each_folded (scope g) (length g.turn_nodes) [] [] g.operations refl none p.operations;
        widths = record { places = all_folded (λ op. PlaceFits op.spot) place_kept [] g.operations p.widths.places; values = p.widths.values };
        types = record { operations = all_folded (Admitted g.profile) (admitted_kept g.profile) [] g.operations p.types.operations; loads = p.types.loads };
      };
      all_stored = graph.all_stored;
    }
