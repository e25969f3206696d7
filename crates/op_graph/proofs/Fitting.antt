-- Fitting: what follows from the rules of single operations and cells.
use Rattle.std.proofs.Common.{◌≡◌, ℕ, ◌+◌, ◌^◌, ◌<◌, ◌≤◌, ◌==◌, suc, cond, ℤ, pos, negsuc, Bool, true, false, ◌&&◌, List, [], ◌∷◌, length, take, slice_get}
use Rattle.std.proofs.Common.{Option, Some, None, refl, subst, sym, arith}
use Rattle.std.specs.Int.{w64}
use Rattle.std.specs.Prelude.{FitsSigned}
use Rattle.std.specs.Option.{is_some}
use Rattle.std.proofs.lemmas.Bool.Decides.{nat_tests, Decides-int_eq}
use Rattle.std.proofs.lemmas.List.{length-take-le}
use Rattle.std.proofs.lemmas.Option.{slice_get_within}
use Rattle.vcp_base.specs.Limits.{most_operations}
use Rattle.vcp_base.specs.declared.ty.Ty.{Ty}
use Rattle.vcp_base.specs.declared.ty.Ty.TheVariants as ty
use Rattle.vcp_base.specs.declared.kind.Kind.{Kind}
use Rattle.vcp_base.specs.declared.kind.Kind.TheVariants as kind
use Rattle.vcp_base.specs.Types.{fits}
use Rattle.op_graph.specs.declared.op.Op.{Op}
use Rattle.op_graph.specs.declared.op.Loaded.{Loaded}
use Rattle.op_graph.specs.declared.op.Var.{Var}
use Rattle.op_graph.specs.Lists.{Lists}
use Rattle.op_graph.specs.Rules.{place_of, scope, IsPart, LoadFits, OpFits, Operates, entry, entry_of, numbered, stored_by, cell_entry, one}
use Rattle.op_graph.specs.declared.rules.Place.{Place}
use Rattle.op_graph.specs.declared.rules.Entry.{Entry}
use Rattle.op_graph.specs.Rules.{lists_of, agree, kind_fits, is_input, is_load, is_store, is_out, ty_fits, same_type, imm_fits, turn_fits}
use Rattle.op_graph.proofs.Links.{found_below}
use Rattle.op_graph.proofs.OperandLaw.{each_at}

-- ---- an operation in two lists

bit : Bool → ℕ
bit true = 1
bit false = 0

one_is : (o : Option Entry) → one o ≡ bit (is_some o)
unfolding bit
one_is None = refl
one_is (Some e) = refl

agreeing : (a b : Bool) → agree a b ≡ true → a ≡ b
agreeing true true h = refl
agreeing true false h = absurd cc
agreeing false true h = absurd cc
agreeing false false h = refl

both_parts : (a b : Bool) → (a && b) ≡ true → (a ≡ true) × (b ≡ true)
both_parts true true h = (refl, refl)
both_parts true false h = absurd cc
both_parts false true h = absurd cc
both_parts false false h = absurd cc

-- a kind is at most one of the four
one_kind : (k : Kind) → bit (is_input k) + bit (is_load k) + bit (is_store k) + bit (is_out k) ≤ 1
unfolding bit
one_kind kind.Input = omega arith
one_kind kind.Const = omega arith
one_kind kind.Load = omega arith
one_kind kind.Store = omega arith
one_kind kind.Out = omega arith
one_kind kind.Conv = omega arith
one_kind kind.Neg = omega arith
one_kind kind.Not = omega arith
one_kind kind.Add = omega arith
one_kind kind.Sub = omega arith
one_kind kind.Mul = omega arith
one_kind kind.Div = omega arith
one_kind kind.Mod = omega arith
one_kind kind.Eq = omega arith
one_kind kind.Lt = omega arith
one_kind kind.And = omega arith
one_kind kind.Or = omega arith
one_kind kind.Xor = omega arith
one_kind kind.Sel = omega arith

false_unless : (b : Bool) → (b ≡ true → ⊥) → b ≡ false
false_unless true h = absurd (h refl)
false_unless false h = refl

agreed : (k : Kind) (a b c d : Option Entry)
    → (agree (is_input k) (is_some a) && agree (is_load k) (is_some b) && agree (is_store k) (is_some c) && agree (is_out k) (is_some d)) ≡ true
    → one a + one b + one c + one d ≤ 1
agreed k a b c d h =
    let last = both_parts (agree (is_input k) (is_some a) && agree (is_load k) (is_some b) && agree (is_store k) (is_some c))
    (agree (is_out k) (is_some d)) h in
    let third = both_parts (agree (is_input k) (is_some a) && agree (is_load k) (is_some b)) (agree (is_store k) (is_some c)) last.0 in
    let second = both_parts (agree (is_input k) (is_some a)) (agree (is_load k) (is_some b)) third.0 in
    let e = agreeing (is_input k) (is_some a) second.0 in
    let f = agreeing (is_load k) (is_some b) second.1 in
    let g = agreeing (is_store k) (is_some c) third.1 in
    let i = agreeing (is_out k) (is_some d) last.1 in
    rw (one_is a, one_is b, one_is c, one_is d, sym e, sym f, sym g, sym i) (one_kind k)

pub two_lists_fit_no_kind : (p : Place) (k : Kind) → 2 ≤ lists_of p → kind_fits p k ≡ false
two_lists_fit_no_kind p k two = false_unless (kind_fits p k) (λ h. let few = agreed k p.input p.load p.store p.out h in absurd (omega arith))

-- ---- types

same_self : (t : Ty) → same_type t t ≡ true
same_self ty.Bool = refl
same_self ty.Int = refl
same_self ty.Dint = refl
same_self ty.Lint = refl

pub result_type : (k : Kind) (from : Ty) → (to : Ty) × (ty_fits k from to ≡ true)
result_type kind.Conv ty.Bool = (ty.Int, refl)
result_type kind.Conv ty.Int = (ty.Dint, refl)
result_type kind.Conv ty.Dint = (ty.Int, refl)
result_type kind.Conv ty.Lint = (ty.Int, refl)
result_type kind.Eq from = (ty.Bool, refl)
result_type kind.Lt from = (ty.Bool, refl)
result_type k from = (from, same_self from)

-- ---- widths

pub value_width : (t : Ty) (v : ℤ) → fits t v ≡ true → FitsSigned w64 v
value_width ty.Bool (pos n) h = grind (arith, nat_tests)
value_width ty.Bool (negsuc n) h = grind (arith, nat_tests)
value_width ty.Int (pos n) h = grind (arith, nat_tests)
value_width ty.Int (negsuc n) h = grind (arith, nat_tests)
value_width ty.Dint (pos n) h = grind (arith, nat_tests)
value_width ty.Dint (negsuc n) h = grind (arith, nat_tests)
value_width ty.Lint (pos n) h = grind (arith, nat_tests)
value_width ty.Lint (negsuc n) h = grind (arith, nat_tests)

number_width : (n : ℕ) → n < 2 ^ 63 → FitsSigned w64 (pos n)
number_width n lt = grind (arith, nat_tests)

own_width : (o : Option Entry) (k : Kind) (t : Ty) (v : ℤ) → ((e : Entry) → o ≡ Some e → e.number < 2 ^ 63) → imm_fits o k t v ≡ true → FitsSigned w64 v
own_width None kind.Const t v small h = value_width t v h
own_width None k t v small h = let is : v ≡ pos 0 = (Decides-int_eq v (pos 0)).0 h in subst (FitsSigned w64) (sym is) (value_width ty.Bool (pos 0) refl)
own_width (Some e) k t v small h =
    let is : v ≡ pos e.number = (Decides-int_eq v (pos e.number)).0 h in
    subst (FitsSigned w64) (sym is) (number_width e.number (small e refl))

cell_number : (k n : ℕ) (o : Option Loaded) (e : Entry) → cell_entry k o ≡ Some e → e.number < k + suc n
cell_number k n None e h = absurd cc
cell_number k n (Some l) e h = let same : entry k l.ty ≡ e = cc in subst (λ (x : Entry). x.number < k + suc n) same (omega arith)

stored_case : (k n : ℕ) (o : Option Loaded) (e : Entry) (b : Bool) (rest : Option Entry) → (rest ≡ Some e → e.number < (k + 1) + n)
    → cond b (cell_entry k o) rest ≡ Some e → e.number < k + suc n
stored_case k n o e true rest next h = cell_number k n o e h
stored_case k n o e false rest next h = let lt = next h in omega (arith, lt)

stored_below : (loads : List Loaded) (i k : ℕ) (ns : List ℕ) (e : Entry) → stored_by loads i k ns ≡ Some e → e.number < k + length ns
stored_below loads i k [] e h = absurd cc
stored_below loads i k (n ∷ ns) e h = stored_case k (length ns) (slice_get loads k) e (n == i) _ (λ g. stored_below loads i (k + 1) ns e g) h

input_below : (inputs : List Var) (i : ℕ) (o : Option Var) (e : Entry) → slice_get inputs i ≡ o → numbered i o ≡ Some e → e.number < length inputs
input_below inputs i None e is h = absurd cc
input_below inputs i (Some v) e is h = let same : entry i v.ty ≡ e = cc in subst (λ (x : Entry). x.number < length inputs) same (slice_get_within inputs i v is)

-- the numbers of entries are below the lengths of their lists
entry_below : (g : Lists) (n i : ℕ) (k : Kind) (e : Entry) → length g.inputs ≤ n → length g.loads ≤ n → length g.stores ≤ n → length g.outputs ≤ n
    → entry_of (place_of (scope g) i) k ≡ Some e → e.number < n
entry_below g n i kind.Input e a b c d h = let lt = input_below g.inputs i (slice_get g.inputs i) e refl h in omega (arith, lt)
entry_below g n i kind.Load e a b c d h = let lt = found_below g.loads (λ l. l.load == i) (λ l. l.ty) 0 e h in omega (arith, lt)
entry_below g n i kind.Store e a b c d h = let lt = stored_below g.loads i 0 g.stores e h in omega (arith, lt)
entry_below g n i kind.Out e a b c d h = let lt = found_below g.outputs (λ o. o.op == i) (λ o. o.ty) 0 e h in omega (arith, lt)
entry_below g n i k e a b c d h = absurd cc

-- ---- the entries of a graph

pub operation_fits : (g : Lists) (i : ℕ) (op : Op) → IsPart g → slice_get g.operations i ≡ Some op
    → OpFits (place_of (scope g) i) (length g.turn_nodes) (take i g.operations) op
operation_fits g i op part there =
    let below : i < length g.operations = slice_get_within g.operations i op there in
    let front : length (take i g.operations) ≡ i = length-take-le i g.operations (omega (arith, below)) in
    let operates : Operates (scope g) (length g.turn_nodes) (take i g.operations) op =
    each_at (Operates (scope g) (length g.turn_nodes)) [] g.operations i op part.operations there in
    subst (λ j. OpFits (place_of (scope g) j) (length g.turn_nodes) (take i g.operations) op) front operates

pub imm_width : (g : Lists) (i : ℕ) (op : Op) → IsPart g → slice_get g.operations i ≡ Some op → FitsSigned w64 op.imm
imm_width g i op part there =
    let fit = operation_fits g i op part there in
    own_width (entry_of (place_of (scope g) i) op.kind) op.kind op.ty op.imm
    (λ e is. let lt =
    entry_below g most_operations i op.kind e (omega (arith, part.few_inputs)) (omega (arith, part.few_cells)) (omega (arith, part.few_cells, part.stored))
    (omega (arith, part.few_outputs)) is in omega (arith, lt)) fit.imm

pub init_width : (g : Lists) (k : ℕ) (l : Loaded) → IsPart g → slice_get g.loads k ≡ Some l → FitsSigned w64 l.init
init_width g k l part there = value_width l.ty l.init (each_at (LoadFits (length g.names) (length g.operations)) [] g.loads k l part.loads there).init

turn_case : (o : Option Entry) (turns n : ℕ) → turn_fits o turns n ≡ true → n ≤ turns
turn_case None turns n h = grind (arith, nat_tests)
turn_case (Some e) turns n h = grind (arith, nat_tests)

-- the turn of an operation is there
pub turn_there : (g : Lists) (i : ℕ) (op : Op) → IsPart g → slice_get g.operations i ≡ Some op → op.turn ≤ length g.turn_nodes
turn_there g i op part there = turn_case (entry_of (place_of (scope g) i) op.kind) (length g.turn_nodes) op.turn (operation_fits g i op part there).turn
