-- The types of inputs and outputs are those of their operations, so the code has words of them.
use Rattle.std.proofs.Common.{◌≡◌, ℕ, zero, suc, ◌+◌, ◌<◌, ◌==◌, ◌&&◌, Bool, true, false, cond, List, [], ◌∷◌, length, take, slice_get, All, Option, Some, None, refl, ap, subst, ◌∙◌, arith}
use Rattle.std.specs.Option.{is_some}
use Rattle.std.specs.Prelude.{FitsSigned}
use Rattle.std.specs.Int.{w64}
use Rattle.std.proofs.lemmas.Bool.{ne_eqb}
use Rattle.std.proofs.lemmas.Option.{slice_get_within}
use Rattle.std.proofs.lemmas.List.Elements.{All-cons, All-nil}
use Rattle.vcp_base.specs.declared.code.Profile.{Profile}
use Rattle.vcp_base.specs.declared.ty.Ty.{Ty}
use Rattle.vcp_base.specs.declared.ty.Ty.TheVariants as ty
use Rattle.vcp_base.specs.declared.kind.Kind.{Kind}
use Rattle.vcp_base.specs.declared.kind.Kind.TheVariants as kind
use Rattle.vcp_base.specs.Code.{admits}
use Rattle.op_graph.specs.declared.op.Op.{Op}
use Rattle.op_graph.specs.declared.op.Outlet.{Outlet}
use Rattle.op_graph.specs.declared.op.Loaded.{Loaded}
use Rattle.op_graph.specs.Lists.{Lists}
use Rattle.op_graph.specs.Rules.{entry, numbered, found, place_of, entry_of, agree, is_input, is_load, is_store, is_out, kind_fits, from_fits, same_type, OpFits, OutputFits, Admitted, IsPart, IsGraph, scope}
use Rattle.op_graph.specs.declared.rules.Place.{Place}
use Rattle.op_graph.specs.declared.rules.Entry.{Entry}
use Rattle.image_file.proofs.Entries.{eqb_self}

-- what op_graph promises of the entries of graphs
pub record GraphLaws : Type 0 where
  pub output : (g : Lists) (k : ℕ) (o : Outlet) → IsPart g → slice_get g.outputs k ≡ Some o
      → OutputFits (length g.names) (length g.operations) (take k g.outputs) o
  pub operation : (g : Lists) (k : ℕ) (op : Op) → IsPart g → slice_get g.operations k ≡ Some op
      → OpFits (place_of (scope g) k) (length g.turn_nodes) (take k g.operations) op
  pub imm : (g : Lists) (k : ℕ) (op : Op) → IsPart g → slice_get g.operations k ≡ Some op → FitsSigned w64 op.imm
  pub init : (g : Lists) (k : ℕ) (l : Loaded) → IsPart g → slice_get g.loads k ≡ Some l → FitsSigned w64 l.init

pub all_from_get : {X : Type 0} (P : X → Type 0) (xs : List X) → ((k : ℕ) (x : X) → slice_get xs k ≡ Some x → P x) → All P xs
all_from_get P [] f = All-nil P
all_from_get P (x ∷ xs) f = All-cons P x xs (f 0 x refl) (all_from_get P xs (λ k y e. f (suc k) y e))

pub all_get : {X : Type 0} (P : X → Type 0) (xs : List X) (k : ℕ) (x : X) → All P xs → slice_get xs k ≡ Some x → P x
all_get P [] k x all e = absurd cc
all_get P (y ∷ xs) zero x all e = let same : y ≡ x = cc in subst P same (all 0 x (omega arith))
all_get P (y ∷ xs) (suc k) x all e = all_get P xs k x (λ i d lt. all (suc i) d (omega arith)) e

pub get_there : {X : Type 0} (xs : List X) (k : ℕ) → k < length xs → (x : X) × (slice_get xs k ≡ Some x)
get_there [] k lt = absurd (omega arith)
get_there (x ∷ xs) zero lt = (x, refl)
get_there (x ∷ xs) (suc k) lt = get_there xs k (omega arith)

-- ---- the kind of an input's or an output's operation

input_kind : (k : Kind) (a b c : Bool) → (agree (is_input k) true && a && b && c) ≡ true → k ≡ kind.Input
input_kind kind.Input a b c e = refl
input_kind kind.Const a b c e = absurd cc
input_kind kind.Load a b c e = absurd cc
input_kind kind.Store a b c e = absurd cc
input_kind kind.Out a b c e = absurd cc
input_kind kind.Conv a b c e = absurd cc
input_kind kind.Neg a b c e = absurd cc
input_kind kind.Not a b c e = absurd cc
input_kind kind.Add a b c e = absurd cc
input_kind kind.Sub a b c e = absurd cc
input_kind kind.Mul a b c e = absurd cc
input_kind kind.Div a b c e = absurd cc
input_kind kind.Mod a b c e = absurd cc
input_kind kind.Eq a b c e = absurd cc
input_kind kind.Lt a b c e = absurd cc
input_kind kind.And a b c e = absurd cc
input_kind kind.Or a b c e = absurd cc
input_kind kind.Xor a b c e = absurd cc
input_kind kind.Sel a b c e = absurd cc

out_is : (k : Kind) → agree (is_out k) true ≡ true → k ≡ kind.Out
out_is kind.Input e = absurd cc
out_is kind.Const e = absurd cc
out_is kind.Load e = absurd cc
out_is kind.Store e = absurd cc
out_is kind.Out e = refl
out_is kind.Conv e = absurd cc
out_is kind.Neg e = absurd cc
out_is kind.Not e = absurd cc
out_is kind.Add e = absurd cc
out_is kind.Sub e = absurd cc
out_is kind.Mul e = absurd cc
out_is kind.Div e = absurd cc
out_is kind.Mod e = absurd cc
out_is kind.Eq e = absurd cc
out_is kind.Lt e = absurd cc
out_is kind.And e = absurd cc
out_is kind.Or e = absurd cc
out_is kind.Xor e = absurd cc
out_is kind.Sel e = absurd cc

second : (a b : Bool) → (a && b) ≡ true → b ≡ true
second true b e = e
second false b e = absurd cc

out_kind : (k : Kind) (a b c : Bool) → (a && b && c && agree (is_out k) true) ≡ true → k ≡ kind.Out
out_kind k a b c e = out_is k (second (a && b && c) (agree (is_out k) true) e)

some_type : (e : Entry) (k : Kind) (from : Ty) (o : Option Entry) → o ≡ Some e → from_fits o k from ≡ true → same_type e.ty from ≡ true
some_type e k from None same h = absurd cc
some_type e k from (Some d) same h = let is : d ≡ e = cc in subst (λ (x : Entry). same_type x.ty from ≡ true) is h

input_type : (p : Place) (op : Op) (e : Entry) → p.input ≡ Some e → kind_fits p op.kind ≡ true → from_fits (entry_of p op.kind) op.kind op.from ≡ true
    → same_type e.ty op.from ≡ true
input_type p op e there fits from =
    let is : op.kind ≡ kind.Input =
    input_kind op.kind (agree (is_load op.kind) (is_some p.load)) (agree (is_store op.kind) (is_some p.store)) (agree (is_out op.kind) (is_some p.out))
    (subst (λ (o : Option Entry).
    (agree (is_input op.kind) (is_some o) && agree (is_load op.kind) (is_some p.load) && agree (is_store op.kind) (is_some p.store) && agree
    (is_out op.kind) (is_some p.out)) ≡ true) there fits) in
    some_type e op.kind op.from (entry_of p op.kind) (ap (entry_of p) is ∙ there) from

out_type : (p : Place) (op : Op) (e : Entry) → p.out ≡ Some e → kind_fits p op.kind ≡ true → from_fits (entry_of p op.kind) op.kind op.from ≡ true
    → same_type e.ty op.from ≡ true
out_type p op e there fits from =
    let is : op.kind ≡ kind.Out =
    out_kind op.kind (agree (is_input op.kind) (is_some p.input)) (agree (is_load op.kind) (is_some p.load)) (agree (is_store op.kind) (is_some p.store))
    (subst (λ (o : Option Entry).
    (agree (is_input op.kind) (is_some p.input) && agree (is_load op.kind) (is_some p.load) && agree (is_store op.kind) (is_some p.store) && agree
    (is_out op.kind) (is_some o)) ≡ true) there fits) in
    some_type e op.kind op.from (entry_of p op.kind) (ap (entry_of p) is ∙ there) from

same_admits : (p : Profile) (a b : Ty) → same_type a b ≡ true → admits p b ≡ true → admits p a ≡ true
same_admits p ty.Bool b e h = refl
same_admits p ty.Int b e h = refl
same_admits p ty.Dint b e h = refl
same_admits p ty.Lint ty.Bool e h = absurd cc
same_admits p ty.Lint ty.Int e h = absurd cc
same_admits p ty.Lint ty.Dint e h = absurd cc
same_admits p ty.Lint ty.Lint e h = h

-- ---- inputs and outputs

pub inputs_admitted : GraphLaws → (g : Lists) → IsGraph g → All (λ v. admits g.profile v.ty ≡ true) g.inputs
inputs_admitted laws g h =
    let part = h.part in
    all_from_get (λ v. admits g.profile v.ty ≡ true) g.inputs (λ k v e.
    let lt : k < length g.inputs = slice_get_within g.inputs k v e in
    let there = get_there g.operations k (omega (arith, part.enough_operations)) in
    let f = laws.operation g k there.0 part there.1 in
    same_admits g.profile v.ty there.0.from (input_type (place_of (scope g) k) there.0 (entry k v.ty) (ap (numbered k) e) f.kind f.from)
    (all_get (Admitted g.profile) g.operations k there.0 part.types.operations there.1).0)

found_at : (xs : List Outlet) (k j : ℕ) (o : Outlet) → slice_get xs k ≡ Some o → All (λ w. w.op < o.op) (take k xs)
    → found (λ w. w.op == o.op) (λ w. w.ty) j xs ≡ Some (entry (j + k) o.ty)
found_at [] k j o e all = absurd cc
found_at (x ∷ xs) zero j o e all =
    let same : x ≡ o = cc in
    let place : j ≡ j + 0 = omega arith in
    ap (λ w. found (λ v. v.op == o.op) (λ v. v.ty) j (w ∷ xs)) same
    ∙ ap (λ b. cond b (Some (entry j o.ty)) (found (λ v. v.op == o.op) (λ v. v.ty) (j + 1) xs)) (eqb_self o.op) ∙ ap (λ n. Some (entry n o.ty)) place
found_at (x ∷ xs) (suc k) j o e all =
    let lt : x.op < o.op = all 0 x (omega arith) in
    let no : (x.op == o.op) ≡ false = ne_eqb x.op o.op (λ z. omega arith) in
    let place : (j + 1) + k ≡ j + suc k = omega arith in
    ap (λ b. cond b (Some (entry j x.ty)) (found (λ v. v.op == o.op) (λ v. v.ty) (j + 1) xs)) no
    ∙ found_at xs k (j + 1) o e (λ i d lt. all (suc i) d (omega arith)) ∙ ap (λ n. Some (entry n o.ty)) place

pub outputs_admitted : GraphLaws → (g : Lists) → IsGraph g → All (λ o. admits g.profile o.ty ≡ true) g.outputs
outputs_admitted laws g h =
    let part = h.part in
    all_from_get (λ o. admits g.profile o.ty ≡ true) g.outputs (λ k o e.
    let r = laws.output g k o part e in
    let there = get_there g.operations o.op r.operation in
    let f = laws.operation g o.op there.0 part there.1 in
    same_admits g.profile o.ty there.0.from
    (out_type (place_of (scope g) o.op) there.0 (entry (0 + k) o.ty) (found_at g.outputs k 0 o e r.operation_rises) f.kind f.from)
    (all_get (Admitted g.profile) g.operations o.op there.0 part.types.operations there.1).0)
