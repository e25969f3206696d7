-- PrunedShares: where no two operations of a graph can be joined, none can of what is needed.
use Rattle.std.proofs.Common.{◌≡◌, ℕ, zero, suc, ◌==◌, ℤ, Bool, true, false, cond, nat_lt, List, take, slice_get, Some, None, refl, sym, ap, subst, ◌∙◌, arith}
use Rattle.std.specs.Option.{is_some}
use Rattle.std.proofs.lemmas.Bool.Decides.{nat_tests}
use Rattle.vcp_base.specs.declared.ty.Ty.{Ty}
use Rattle.vcp_base.specs.declared.kind.Kind.{Kind}
use Rattle.vcp_base.specs.declared.kind.Kind.TheVariants as kind
use Rattle.vcp_base.specs.Kinds.{operands, operand_type}
use Rattle.op_graph.specs.declared.op.Op.{Op}
use Rattle.op_graph.specs.Lists.{Lists}
use Rattle.op_graph.specs.Reads.{Reads, named}
use Rattle.op_graph.specs.Rules.{IsGraph, OpFits, scope, place_of, operand_fits, reads_as}
use Rattle.graph_passes.specs.Part.{Numbering, below, moved, own_number, part_of, work}
use Rattle.graph_passes.specs.Pruning.{MayBeKept, numbering, IsPruned}
use Rattle.graph_passes.specs.Sharing.{joins, NoneShares}
use Rattle.graph_passes.proofs.Pruned.{PartLaws}
use Rattle.graph_passes.proofs.Rising.{origin, same_number}
use Rattle.graph_passes.proofs.Shared.{lower}

own_is : (m : Numbering) (k : Kind) (imm : ℤ) → joins k ≡ true → own_number m k imm ≡ imm
own_is m kind.Load imm h = absurd cc
own_is m kind.Store imm h = absurd cc
own_is m _ imm h = refl

some_type : (b : Bool) (t : Ty) → b ≡ true → is_some (cond b (Some t) None) ≡ true
some_type true t e = refl
some_type false t e = absurd cc

is_read : (k : Kind) (from : Ty) (j : ℕ) → joins k ≡ true → nat_lt j (operands k) ≡ true → is_some (reads_as k from j) ≡ true
is_read kind.Load from j c h = absurd cc
is_read k from j c h = some_type (nat_lt j (operands k)) (operand_type k j from) h

zero_is : (n : ℕ) → (n == 0) ≡ true → n ≡ 0
zero_is zero h = refl
zero_is (suc n) h = absurd (grind (arith, nat_tests))

none_by : (before : List Op) (b : Bool) (t : Ty) (n : ℕ) → b ≡ false → operand_fits before (cond b (Some t) None) n ≡ true → n ≡ 0
none_by before true t n e h = absurd cc
none_by before false t n e h = zero_is n h

-- an operand that an operation does not have is 0
no_operand : (before : List Op) (k : Kind) (from : Ty) (j n : ℕ) → joins k ≡ true → nat_lt j (operands k) ≡ false
    → operand_fits before (reads_as k from j) n ≡ true → n ≡ 0
no_operand before kind.Load from j n c e h = absurd cc
no_operand before k from j n c e h = none_by before (nat_lt j (operands k)) (operand_type k j from) n e h

equal_is : (a b : ℕ) → (a == b) ≡ true → a ≡ b
equal_is a b h = grind (arith, nat_tests)

self : (n : ℕ) → (n == n) ≡ true
self n = grind (arith, nat_tests)

one_number : (kept : ℕ → Bool) (a b : ℕ) → kept a ≡ true → kept b ≡ true → below kept a ≡ below kept b → a ≡ b
one_number kept a b x y e = equal_is a b (sym (same_number kept a b x y) ∙ subst (λ n. (below kept a == n) ≡ true) e (self (below kept a)))

-- two operations of one kind whose operands have one new number read one operation
operand_by : (g : Lists) (kept : ℕ → Bool) → MayBeKept g kept → (x y : ℕ) (p q : Op) → slice_get g.operations x ≡ Some p → slice_get g.operations y ≡ Some q
    → kept x ≡ true → kept y ≡ true →
    p.kind ≡ q.kind → joins p.kind ≡ true → (j : ℕ) → below kept (named p j) ≡ below kept (named q j) →
    (before more : List Op) → operand_fits before (reads_as p.kind p.from j) (named p j) ≡ true → operand_fits more (reads_as q.kind q.from j)
    (named q j) ≡ true →
    (b : Bool) → nat_lt j (operands p.kind) ≡ b → named p j ≡ named q j
operand_by g kept may x y p q px qy kept_x kept_y kinds joined j number before more fit fit' true has =
    let joined' : joins q.kind ≡ true = subst (λ k. joins k ≡ true) kinds joined in
    let has' : nat_lt j (operands q.kind) ≡ true = subst (λ k. nat_lt j (operands k) ≡ true) kinds has in
    let first : Reads g.operations x (named p j) j = record { op = p; there = px; operand = is_read p.kind p.from j joined has; names = refl } in
    let second : Reads g.operations y (named q j) j = record { op = q; there = qy; operand = is_read q.kind q.from j joined' has'; names = refl } in
    one_number kept (named p j) (named q j) (may.reads x (named p j) j first kept_x) (may.reads y (named q j) j second kept_y) number
operand_by g kept may x y p q px qy kept_x kept_y kinds joined j number before more fit fit' false has =
    let joined' : joins q.kind ≡ true = subst (λ k. joins k ≡ true) kinds joined in
    let has' : nat_lt j (operands q.kind) ≡ false = subst (λ k. nat_lt j (operands k) ≡ false) kinds has in
    no_operand before p.kind p.from j (named p j) joined has fit ∙ sym (no_operand more q.kind q.from j (named q j) joined' has' fit')

-- what does the same in the part does the same in the graph
same_work : (laws : PartLaws) (g : Lists) (kept : ℕ → Bool) → IsGraph g → MayBeKept g kept → (x y : ℕ) (p q : Op) → slice_get g.operations x ≡ Some p
    → slice_get g.operations y ≡ Some q → kept x ≡ true → kept y ≡ true →
    joins p.kind ≡ true → work (moved (numbering g kept) p) ≡ work (moved (numbering g kept) q) → work p ≡ work q
same_work laws g kept graph may x y p q px qy kept_x kept_y joined same =
    let m = numbering g kept in
    let kinds : p.kind ≡ q.kind = ap (λ (o : Op). o.kind) same in
    let froms : p.from ≡ q.from = ap (λ (o : Op). o.from) same in
    let tys : p.ty ≡ q.ty = ap (λ (o : Op). o.ty) same in
    let joined' : joins q.kind ≡ true = subst (λ k. joins k ≡ true) kinds joined in
    let imms : p.imm ≡ q.imm = sym (own_is m p.kind p.imm joined) ∙ ap (λ (o : Op). o.imm) same ∙ own_is m q.kind q.imm joined' in
    let fit : OpFits (place_of (scope g) x) _ (take x g.operations) p = laws.entries.operation g x p graph.part px in
    let fit' : OpFits (place_of (scope g) y) _ (take y g.operations) q = laws.entries.operation g y q graph.part qy in
    let operand = operand_by g kept may x y p q px qy kept_x kept_y kinds joined in
    let firsts : p.a ≡ q.a = operand 0 (ap (λ (o : Op). o.a) same) (take x g.operations) (take y g.operations) fit.a fit'.a (nat_lt 0 (operands p.kind)) refl in
    let seconds : p.b ≡ q.b =
    operand 1 (ap (λ (o : Op). o.b) same) (take x g.operations) (take y g.operations) fit.b fit'.b (nat_lt 1 (operands p.kind)) refl in
    let thirds : p.c ≡ q.c = operand 2 (ap (λ (o : Op). o.c) same) (take x g.operations) (take y g.operations) fit.c fit'.c (nat_lt 2 (operands p.kind)) refl in
    λ i. record {
      kind = kinds i;
      from = froms i;
      ty = tys i;
      a = firsts i;
      b = seconds i;
      c = thirds i;
      imm = imms i;
      spot = record { line = 0; col = 0 };
      turn = 0;
    }

part_shares_none : (laws : PartLaws) (g : Lists) (kept : ℕ → Bool) → IsGraph g → MayBeKept g kept → NoneShares g → NoneShares (part_of (numbering g kept) g)
part_shares_none laws g kept graph may none = λ i j p q lt first second joined same.
    let m = numbering g kept in
    let x = origin kept (moved m) g.operations i p first in
    let y = origin kept (moved m) g.operations j q second in
    let works : work (moved m x.entry) ≡ work (moved m y.entry) = ap work (sym x.is) ∙ same ∙ ap work y.is in
    let late : joins y.entry.kind ≡ true = subst (λ (z : Op). joins z.kind ≡ true) y.is joined in
    let kinds : y.entry.kind ≡ x.entry.kind = ap (λ (o : Op). o.kind) (sym works) in
    none x.place y.place x.entry y.entry (lower kept x.place y.place i j x.number y.number lt) x.there y.there late
    (same_work laws g kept graph may x.place y.place x.entry y.entry x.there y.there x.picked y.picked (subst (λ k. joins k ≡ true) kinds late) works)

pub pruned_shares_none : (laws : PartLaws) (g h : Lists) → IsGraph g → IsPruned g h → NoneShares g → NoneShares h
pruned_shares_none laws g h graph p none = subst NoneShares (sym p.part) (part_shares_none laws g p.kept graph p.may none)
