-- Comparing: lists that are compared from the front.
use Rattle.std.proofs.Common.{◌≡◌, ℕ, suc, ◌+◌, ◌<◌, ◌≤◌, Bool, true, false, not, ◌&&◌, refl, sym, ap, ◌∙◌, arith, List, [], ◌∷◌, ◌++◌, length, take, get_or, map}
use Rattle.std.proofs.Math.Seq.{take-suc}
use Rattle.std.proofs.lemmas.List.{map-append, take_all}
use Rattle.std.specs.Cmp.Lexicographic.{pointwise}
use Rattle.op_graph.specs.Lists.{Lists}
use Rattle.op_graph.specs.declared.op.Op.{Op}
use Rattle.vcp_study_core.specs.SameGraphs.{AreSameButForPlaces, unplaced}

one_further : {X : Type 0} (xs : List X) (i : ℕ) (d : X) → i < length xs → take (i + 1) xs ≡ take i xs ++ get_or xs i d ∷ []
one_further xs i d below =
    let next : i + 1 ≡ suc i = omega arith in
    ap (λ k. take k xs) next ∙ take-suc xs i d below

-- one item more is the same
pub and_next : {X : Type 0} (xs ys : List X) (i : ℕ) (x y : X) → i < length xs → length xs ≡ length ys → take i xs ≡ take i ys → x ≡ get_or xs i x
    → y ≡ get_or ys i y → x ≡ y → take (i + 1) xs ≡ take (i + 1) ys
and_next xs ys i x y below long front of_x of_y same =
    one_further xs i x below ∙ ap (λ l. l ++ get_or xs i x ∷ []) front ∙ ap (λ v. take i ys ++ v ∷ []) (sym of_x ∙ same ∙ of_y)
    ∙ sym (one_further ys i y (omega (arith, below, long)))

-- one item more is the same by what is seen of it
pub and_next_by : {X Y : Type 0} (f : X → Y) (xs ys : List X) (i : ℕ) (d e : X) → i < length xs → length xs ≡ length ys
    → map f (take i xs) ≡ map f (take i ys) → f (get_or xs i d) ≡ f (get_or ys i e) → map f (take (i + 1) xs) ≡ map f (take (i + 1) ys)
and_next_by f xs ys i d e below long front same =
    ap (map f) (one_further xs i d below) ∙ map-append f (take i xs) (get_or xs i d ∷ []) ∙ ap (λ l. l ++ f (get_or xs i d) ∷ []) front
    ∙ ap (λ v. map f (take i ys) ++ v ∷ []) same ∙ sym (map-append f (take i ys) (get_or ys i e ∷ []))
    ∙ sym (ap (map f) (one_further ys i e (omega (arith, below, long))))

-- all are
pub whole : {X : Type 0} (xs ys : List X) (i : ℕ) → length xs ≤ i → length xs ≡ length ys → take i xs ≡ take i ys → xs ≡ ys
whole xs ys i end long front = sym (take_all i xs end) ∙ front ∙ take_all i ys (omega (arith, end, long))

pub whole_by : {X Y : Type 0} (f : X → Y) (xs ys : List X) (i : ℕ) → length xs ≤ i → length xs ≡ length ys → map f (take i xs) ≡ map f (take i ys)
    → map f xs ≡ map f ys
whole_by f xs ys i end long front =
    sym (ap (map f) (take_all i xs end)) ∙ front ∙ ap (map f) (take_all i ys (omega (arith, end, long)))

-- what isn't different is the same
differs_not : (b : Bool) → not b ≡ false → b ≡ true
differs_not true e = refl
differs_not false e = absurd cc

pub not_false : (b r : Bool) → r ≡ not b → r ≡ false → b ≡ true
not_false b r is e = differs_not b (sym is ∙ e)

and_both : (a b : Bool) → (a && b) ≡ true → (a ≡ true) × (b ≡ true)
and_both true b both = (refl, both)
and_both false b both = absurd cc

by_all : {X : Type 0} (E : X → X → Bool) → ((x y : X) → E x y ≡ true → x ≡ y) → (xs ys : List X) → pointwise E xs ys ≡ true → xs ≡ ys
by_all E sound [] [] all = refl
by_all E sound [] (y ∷ ys) all = absurd cc
by_all E sound (x ∷ xs) [] all = absurd cc
by_all E sound (x ∷ xs) (y ∷ ys) all =
    let (first, others) = and_both (E x y) (pointwise E xs ys) all in
    ap (λ v. v ∷ xs) (sound x y first) ∙ ap (λ l. y ∷ l) (by_all E sound xs ys others)

-- lists are the same of which `!=` doesn't say that they differ
pub pointwise_alike : {X : Type 0} (E : X → X → Bool) → ((x y : X) → E x y ≡ true → x ≡ y) → (xs ys : List X) (r : Bool)
    → r ≡ not (pointwise E xs ys) → r ≡ false → xs ≡ ys
pointwise_alike E sound xs ys r is same = by_all E sound xs ys (not_false (pointwise E xs ys) r is same)

-- operations with the same fields but for their places
pub same_fields : (a b : Op) → a.kind ≡ b.kind → a.from ≡ b.from → a.ty ≡ b.ty → a.a ≡ b.a → a.b ≡ b.b → a.c ≡ b.c → a.imm ≡ b.imm → a.turn ≡ b.turn
    → unplaced a ≡ unplaced b
same_fields a b kind from ty x y z imm turn = rw (kind, from, ty, x, y, z, imm, turn) refl

-- graphs with the same lists but for their operations
pub same_lists : (g h : Lists) → g.profile ≡ h.profile → g.names ≡ h.names → g.inputs ≡ h.inputs → g.outputs ≡ h.outputs → g.loads ≡ h.loads
    → g.stores ≡ h.stores → g.turn_nodes ≡ h.turn_nodes → ◌≡◌ {A = Lists} (record g { operations = [] }) (record h { operations = [] })
same_lists g h profile names inputs outputs loads stores turns = rw (profile, names, inputs, outputs, loads, stores, turns) refl

pub and_operations : (g h : Lists) → ◌≡◌ {A = Lists} (record g { operations = [] }) (record h { operations = [] })
    → map unplaced g.operations ≡ map unplaced h.operations → AreSameButForPlaces g h
and_operations g h front operations =
    ap (λ (x : Lists). record x { operations = map unplaced g.operations }) front ∙ ap (λ (l : List Op). record h { operations = l }) operations
