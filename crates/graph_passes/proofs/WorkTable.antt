-- WorkTable: the map from what operations do, as the list of its entries.
use Rattle.std.proofs.Common.{◌≡◌, ◌≢◌, ℕ, zero, suc, ◌==◌, Bool, true, false, ◌&&◌, cond, if◌then◌else◌, List, [], ◌∷◌, ◌++◌, slice_get, Option, Some, None}
use Rattle.std.proofs.Common.{refl, sym, ap, ◌∙◌}
use Rattle.std.specs.Ordering.{int_eq}
use Rattle.std.specs.Prelude.{IfSome}
use Rattle.std.specs.Map.{lookup}
use Rattle.std.proofs.lemmas.Bool.Decides.{Decides-eqb, Decides-int_eq}
use Rattle.indexmap.specs.IndexMap.{insert_entry}
use Rattle.graph_passes.specs.declared.sharing.Work.{Work}

pub record Looked {K V : Type 0} (t : K → Bool) (es : List (K × V)) (v : V) : Type 0 where
  pub place : ℕ
  pub key : K
  pub there : slice_get es place ≡ Some (key, v)
  pub passes : t key ≡ true

looked_by : {K V : Type 0} (t : K → Bool) (e : K × V) (es : List (K × V)) (v : V) (b : Bool) → t e.0 ≡ b → (lookup t es ≡ Some v → Looked t es v) →
    cond b (Some e.1) (lookup t es) ≡ Some v → Looked t (e ∷ es) v
looked_by t e es v true is rest h = let same : e.1 ≡ v = cc in
    record { place = 0; key = e.0; there = ap (λ x. Some (e.0, x)) same; passes = is }
looked_by t e es v false is rest h = let l = rest h in record { place = suc l.place; key = l.key; there = l.there; passes = l.passes }

-- what is looked up is there
pub looked : {K V : Type 0} (t : K → Bool) (es : List (K × V)) (v : V) → lookup t es ≡ Some v → Looked t es v
looked t [] v h = absurd cc
looked t (e ∷ es) v h = looked_by t e es v (t e.0) refl (looked t es v) h

not_by : {K V : Type 0} (t : K → Bool) (e : K × V) (es : List (K × V)) (b : Bool) → t e.0 ≡ b → cond b (Some e.1) (lookup t es) ≡ None →
    (t e.0 ≡ false) × (lookup t es ≡ None)
not_by t e es true is h = absurd cc
not_by t e es false is h = (is, h)

-- where nothing is looked up, no key passes
pub not_looked : {K V : Type 0} (t : K → Bool) (es : List (K × V)) → lookup t es ≡ None → (p : ℕ) (k : K) (v : V) → slice_get es p ≡ Some (k, v) → t k ≡ false
not_looked t [] h p k v there = absurd cc
not_looked {K = K} {V = V} t (e ∷ es) h zero k v there = let same : e ≡ (k, v) = cc in ap (λ (x : K × V). t x.0) (sym same) ∙ (not_by t e es (t e.0) refl h).0
not_looked t (e ∷ es) h (suc p) k v there = not_looked t es (not_by t e es (t e.0) refl h).1 p k v there

inserted_by : {K V : Type 0} (b : Bool) (e : K × V) (v : V) (es r s : List (K × V)) → b ≡ false → r ≡ s → (if b then (e.0, v) ∷ es else e ∷ r) ≡ e ∷ s
inserted_by true e v es r s h k = absurd cc
inserted_by false e v es r s h k = ap (λ xs. e ∷ xs) k

-- a new key goes last
pub inserted_last : {K V : Type 0} (eq : K → K → Bool) (es : List (K × V)) (k : K) (v : V) →
    ((p : ℕ) (q : K) (w : V) → slice_get es p ≡ Some (q, w) → eq k q ≡ false) → insert_entry eq es k v ≡ es ++ (k, v) ∷ []
inserted_last eq [] k v h = refl
inserted_last eq (e ∷ es) k v h = inserted_by (eq k e.0) e v es (insert_entry eq es k v) (es ++ (k, v) ∷ []) (h 0 e.0 e.1 refl)
    (inserted_last eq es k v (λ p q w there. h (suc p) q w there))

-- ---- an equality that tells keys apart

pub record Tells {K : Type 0} (eq : K → K → Bool) : Type 0 where
  pub sound : (a b : K) → eq a b ≡ true → a ≡ b
  pub alike : (a : K) → eq a a ≡ true

contrary : {b : Bool} → b ≡ false → b ≡ true → ⊥
contrary f t = absurd cc

untrue : (b : Bool) → (b ≡ true → ⊥) → b ≡ false
untrue true f = absurd (f refl)
untrue false f = refl

pub found_in : {K : Type 0} (eq : K → K → Bool) → Tells eq → (es seen : List (K × ℕ)) → es ≡ seen → (k : K) (r : Option ℕ) → r ≡ lookup (eq k) es →
    IfSome r (λ n. (p : ℕ) × (slice_get seen p ≡ Some (k, n)))
found_in eq tells es seen same k None is = tt
found_in eq tells es seen same k (Some n) is =
    let l = looked (eq k) es n (sym is) in
    (l.place, ap (λ xs. slice_get xs l.place) (sym same) ∙ l.there ∙ ap (λ x. Some (x, n)) (sym (tells.sound k l.key l.passes)))

pub absent_in : {K : Type 0} (eq : K → K → Bool) → Tells eq → (es seen : List (K × ℕ)) → es ≡ seen → (k : K) (r : Option ℕ) → r ≡ lookup (eq k) es →
    r ≡ None → (p n : ℕ) → slice_get seen p ≢ Some (k, n)
absent_in eq tells es seen same k r is none p n there =
    contrary (not_looked (eq k) es (sym is ∙ none) p k n (ap (λ xs. slice_get xs p) same ∙ there)) (tells.alike k)

pub entered_in : {K : Type 0} (eq : K → K → Bool) → Tells eq → (es seen : List (K × ℕ)) → es ≡ seen → (k : K) (v : ℕ) →
    ((p n : ℕ) → slice_get seen p ≢ Some (k, n)) → insert_entry eq es k v ≡ seen ++ (k, v) ∷ []
entered_in eq tells es seen same k v none = inserted_last eq es k v (λ p q w there.
    untrue (eq k q) (λ is. none p w (ap (λ xs. slice_get xs p) (sym same) ∙ there ∙ ap (λ x. Some (x, w)) (sym (tells.sound k q is)))))
    ∙ ap (λ xs. xs ++ (k, v) ∷ []) same

-- ---- the equality of what operations do

both : (a b : Bool) → (a && b) ≡ true → (a ≡ true) × (b ≡ true)
both true b h = (refl, h)
both false b h = absurd cc

and_true : (a b : Bool) → a ≡ true → b ≡ true → (a && b) ≡ true
and_true a b is also = ap (λ x. x && b) is ∙ also

abbrev pub equal_work : Work → Work → Bool
equal_work v w = (v.kind == w.kind) && ((v.from == w.from) && ((v.ty == w.ty) && ((v.a == w.a) && ((v.b == w.b) && ((v.c == w.c) && int_eq v.imm w.imm)))))

same_fields : (v w : Work) → v.kind ≡ w.kind → v.from ≡ w.from → v.ty ≡ w.ty → v.a ≡ w.a → v.b ≡ w.b → v.c ≡ w.c → v.imm ≡ w.imm → v ≡ w
same_fields v w kind from ty a b c imm =
    ap (λ x. record v { kind = x }) kind
    ∙ ap (λ x. record v { kind = w.kind; from = x }) from
    ∙ ap (λ x. record v { kind = w.kind; from = w.from; ty = x }) ty
    ∙ ap (λ x. record v { kind = w.kind; from = w.from; ty = w.ty; a = x }) a
    ∙ ap (λ x. record v { kind = w.kind; from = w.from; ty = w.ty; a = w.a; b = x }) b
    ∙ ap (λ x. record v { kind = w.kind; from = w.from; ty = w.ty; a = w.a; b = w.b; c = x }) c
    ∙ ap (λ x. record v { kind = w.kind; from = w.from; ty = w.ty; a = w.a; b = w.b; c = w.c; imm = x }) imm

equal_sound : (v w : Work) → equal_work v w ≡ true → v ≡ w
equal_sound v w h =
    let kind = both _ _ h in
    let from = both _ _ kind.1 in
    let ty = both _ _ from.1 in
    let a = both _ _ ty.1 in
    let b = both _ _ a.1 in
    let c = both _ _ b.1 in
    same_fields v w ((Decides-eqb v.kind w.kind).0 kind.0) ((Decides-eqb v.from w.from).0 from.0) ((Decides-eqb v.ty w.ty).0 ty.0)
    ((Decides-eqb v.a w.a).0 a.0) ((Decides-eqb v.b w.b).0 b.0) ((Decides-eqb v.c w.c).0 c.0) ((Decides-int_eq v.imm w.imm).0 c.1)

alike : (n : ℕ) → (n == n) ≡ true
alike n = (Decides-eqb n n).1 refl

pub work_tells : Tells equal_work
work_tells = record {
  sound = equal_sound;
  alike = λ v. and_true _ _ (alike v.kind) (and_true _ _ (alike v.from) (and_true _ _ (alike v.ty) (and_true _ _ (alike v.a) (and_true _ _ (alike v.b)
      (and_true _ _ (alike v.c) ((Decides-int_eq v.imm v.imm).1 refl))))));
}
