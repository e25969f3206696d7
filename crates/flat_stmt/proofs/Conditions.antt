-- Conditions: AND, NOT and labels, from the operations that are added.
use Rattle.std.proofs.Common.{◌≡◌, ℕ, zero, suc, ◌+◌, ◌≤◌, ℤ, pos, negsuc, ◌-ℤ◌, int_lt, int_le, Bool, true, false, not, ◌&&◌, ◌||◌, cond, List, [], ◌∷◌, ◌++◌}
use Rattle.std.proofs.Common.{◌<◌, length, take, get_or, Option, Some, None, Ok, refl, sym, ap, ap₂, ◌∙◌, subst, arith}
use Rattle.std.proofs.lemmas.Bool.Decides.{nat_tests}
use Rattle.std.specs.List.{list_any, sum_by}
use Rattle.std.proofs.lemmas.List.{take_more}
use Rattle.std.proofs.lemmas.List.Sums.{sum_by_push, sum_by-take-le}
use Rattle.vcp_base.specs.declared.spot.Spot.{Spot}
use Rattle.vcp_base.specs.declared.turns.Turn.{Turn}
use Rattle.vcp_base.specs.declared.ty.Ty.{Ty}
use Rattle.vcp_base.specs.declared.ty.Ty.TheVariants as ty
use Rattle.vcp_base.specs.declared.kind.Kind.TheVariants as kind
use Rattle.vcp_base.specs.Kinds.{same, truth}
use Rattle.vcp_base.specs.Types.{fits}
use Rattle.op_graph.specs.Lists.{turns_of}
use Rattle.vcp_base.specs.Values.{at}
use Rattle.vcp_typed.specs.declared.stmt.TLabel.{TLabel}
use Rattle.vcp_typed.specs.Meaning.{in_range, is_labelled}
use Rattle.vcp_typed.specs.Rules.{joined as joined_type}
use Rattle.vcp_typed.specs.Size.{label_size}
use Rattle.op_graph.specs.Rules.{types_fit}
use Rattle.flat_expr.specs.Laws.{Laws}
use Rattle.flat_expr.specs.State.{State, IsState, IsA, IsPlace, active, Knows, Kept, Ends, IsValue, Meant, Makes, exactly, acts, giving, run}
use Rattle.flat_stmt.specs.Conditions.{total, holds, joins, denies, labelled, or_labelled, any_labelled, alone_size}
use Rattle.flat_stmt.proofs.Algebra.{Typed, kept_trans, follows-none}

-- ---- truth values

pub as_bit : (x : ℤ) → fits ty.Bool x ≡ true → x ≡ truth (not (same x (pos 0)))
as_bit (pos zero) h = refl
as_bit (pos (suc zero)) h = refl
as_bit (pos (suc (suc n))) h = absurd (grind (arith, nat_tests))
as_bit (negsuc n) h = absurd cc

pub holds_truth : (b : Bool) → not (same (truth b) (pos 0)) ≡ b
holds_truth true = refl
holds_truth false = refl

is_one : (b : Bool) → same (truth b) (pos 1) ≡ b
is_one true = refl
is_one false = refl

truth_ok : (b : Bool) (spot : Spot) (turns : List Turn) → exactly (in_range ty.Bool spot turns (truth b)) ≡ Ok (Some (truth b))
truth_ok true spot turns = refl
truth_ok false spot turns = refl

not_ok : (b : Bool) (spot : Spot) (turns : List Turn) → exactly (in_range ty.Bool spot turns (pos 1 -ℤ truth b)) ≡ Ok (Some (truth (not b)))
not_ok true spot turns = refl
not_ok false spot turns = refl

-- where a value is 0 or 1, it is 1 exactly where it isn't 0
pub one_holds : (x : ℤ) → fits ty.Bool x ≡ true → same x (pos 1) ≡ not (same x (pos 0))
one_holds x h = ap (λ y. same y (pos 1)) (as_bit x h) ∙ is_one (not (same x (pos 0)))

not_less : (a b : ℤ) → not (int_lt b a) ≡ int_le a b
not_less (pos n) (pos m) = grind (arith, nat_tests)
not_less (pos n) (negsuc m) = refl
not_less (negsuc n) (pos m) = refl
not_less (negsuc n) (negsuc m) = grind (arith, nat_tests)

-- ---- steps that give a value

-- the same value, said in another way
pub makes_same : Laws → (a b : State) (t : Ty) (n1 n2 k : ℕ) (m1 m2 : Meant) → n1 ≤ n2 → ((now vs : List ℤ) → Typed a vs → m1 now vs ≡ m2 now vs)
    → Makes a b t n1 m1 k → Makes a b t n2 m2 k
makes_same laws a b t n1 n2 k m1 m2 le same_value f = record {
  follows = f.follows;
  unread = f.unread;
  place = f.place;
  count = omega (arith, f.count, le);
  gives = λ cells row start now vs r loaded knows.
      subst (λ x. Ends (λ o ws. Kept vs ws × Knows b start now ws × IsValue o (at ws k)) x (run b.graph cells row))
      (same_value now vs (λ u j h. laws.typed a cells row start vs u j f.follows.before r (f.follows.loads cells start loaded) h))
      (f.gives cells row start now vs r loaded knows);
}

-- values of places that were there stay
abbrev pub Stays : State → List ℤ → List ℤ → Type 0
Stays a vs ws = (t : Ty) (k : ℕ) → IsA t a.graph.operations k → at ws k ≡ at vs k

pub total_then : Laws → (a b c : State) (t1 t2 : Ty) (n1 n2 : ℕ) (v1 v2 v : List ℤ → ℤ) (j k : ℕ) → Makes a b t1 n1 (total v1) j → Makes b c t2 n2 (total v2) k
    →
    ((vs ws : List ℤ) → Typed a vs → Typed b ws → Stays a vs ws → at ws j ≡ v1 vs → v2 ws ≡ v vs) → Makes a c t2 (n1 + n2) (total v) k
total_then laws a b c t1 t2 n1 n2 v1 v2 v j k f g is = record {
  follows = laws.follows a b c f.follows g.follows;
  unread = λ slot h. g.unread slot h ∙ f.unread slot h;
  place = g.place;
  count = omega (arith, f.count, g.count);
  gives = λ cells row start now vs r loaded knows.
      let loaded1 = g.follows.loads cells start loaded in
      let loaded0 = f.follows.loads cells start loaded1 in
      let len = laws.long a.graph cells row vs r in
      let p = f.gives cells row start now vs r loaded1 knows in
      let ws = p.0 in
      let q = g.gives cells row start now ws p.1 loaded p.2.1 in
      let types : Typed a vs = λ u i h. laws.typed a cells row start vs u i f.follows.before r loaded0 h in
      let types1 : Typed b p.0 = λ u i h. laws.typed b cells row start ws u i f.follows.after p.1 loaded1 h in
      let stay : Stays a vs ws = λ u i h. p.2.0 i (omega (arith, len, laws.below u a.graph.operations i h)) in (
        q.0,
        q.1,
        (
          kept_trans vs ws q.0 (omega (arith, len, laws.long b.graph cells row ws p.1, f.follows.longer)) p.2.0 q.2.0,
          q.2.1,
          q.2.2
              ∙ is vs ws types types1 stay p.2.2,
        ),
      );
}

-- no step: a place that has the value already
pub total_stays : Laws → (a : State) (t : Ty) (n k : ℕ) (v : List ℤ → ℤ) → IsState a → IsA t a.graph.operations k
    → ((vs : List ℤ) → Typed a vs → at vs k ≡ v vs) → Makes a a t n (total v) k
total_stays laws a t n k v i h is = record {
  follows = follows-none a i;
  unread = λ slot e. refl;
  place = h;
  count = omega arith;
  gives = λ cells row start now vs r loaded knows. (vs, r, ((λ j lt. refl), knows, is vs (λ u j x. laws.typed a cells row start vs u j i r loaded x)));
}

-- ---- conditions

pub joined_alone : Laws → (a : State) (outer : Option ℕ) (k : ℕ) → outer ≡ None → IsState a → IsA ty.Bool a.graph.operations k
    → Makes a a ty.Bool 1 (joins outer k) k
joined_alone laws a outer k none i h =
    total_stays laws a ty.Bool 1 k (λ vs. truth (active outer vs && holds k vs)) i h
    (λ vs types. as_bit (at vs k) (types ty.Bool k h) ∙ ap (λ o. truth (active o vs && holds k vs)) (sym none))

pub joined : Laws → (a b : State) (outer : Option ℕ) (p k j : ℕ) (spot : Spot) → outer ≡ Some p → IsPlace ty.Bool a.graph.operations outer
    → IsA ty.Bool a.graph.operations k → Makes a b ty.Bool 1 (acts a kind.And ty.Bool p k 0 spot) j → Makes a b ty.Bool 1 (joins outer k) j
joined laws a b outer p k j spot some ho hk f =
    makes_same laws a b ty.Bool 1 1 j (acts a kind.And ty.Bool p k 0 spot) (joins outer k) (omega arith)
    (λ now vs types.
    ap₂ (λ x y. exactly (in_range ty.Bool spot (turns_of a.graph a.turn) (truth (x && y)))) (one_holds (at vs p) (types ty.Bool p hp))
    (one_holds (at vs k) (types ty.Bool k hk))
    ∙ truth_ok (holds p vs && holds k vs) spot (turns_of a.graph a.turn) ∙ ap (λ o. Ok (Some (truth (active o vs && holds k vs)))) (sym some)) f
  where
    hp : IsA ty.Bool a.graph.operations p
    hp = subst (IsPlace ty.Bool a.graph.operations) some ho

pub denied : Laws → (a b : State) (k j : ℕ) (spot : Spot) → IsA ty.Bool a.graph.operations k → Makes a b ty.Bool 1 (acts a kind.Not ty.Bool k 0 0 spot) j
    → Makes a b ty.Bool 1 (denies k) j
denied laws a b k j spot hk f =
    makes_same laws a b ty.Bool 1 1 j (acts a kind.Not ty.Bool k 0 0 spot) (denies k) (omega arith)
    (λ now vs types.
    ap (λ x. exactly (in_range ty.Bool spot (turns_of a.graph a.turn) (pos 1 -ℤ x))) (as_bit (at vs k) (types ty.Bool k hk))
    ∙ not_ok (holds k vs) spot (turns_of a.graph a.turn)) f

-- OR of two conditions
pub either : Laws → (a b : State) (j k r : ℕ) (spot : Spot) → IsA ty.Bool a.graph.operations j → IsA ty.Bool a.graph.operations k
    → Makes a b ty.Bool 1 (acts a kind.Or ty.Bool j k 0 spot) r → Makes a b ty.Bool 1 (total (λ vs. truth (holds j vs || holds k vs))) r
either laws a b j k r spot hj hk f =
    makes_same laws a b ty.Bool 1 1 r (acts a kind.Or ty.Bool j k 0 spot) (total (λ vs. truth (holds j vs || holds k vs))) (omega arith)
    (λ now vs types.
    ap₂ (λ x y. exactly (in_range ty.Bool spot (turns_of a.graph a.turn) (truth (x || y)))) (one_holds (at vs j) (types ty.Bool j hj))
    (one_holds (at vs k) (types ty.Bool k hk))
    ∙ truth_ok (holds j vs || holds k vs) spot (turns_of a.graph a.turn)) f

equal : Laws → (a b : State) (j k r : ℕ) (spot : Spot) → Makes a b ty.Bool 1 (acts a kind.Eq ty.Bool j k 0 spot) r
    → Makes a b ty.Bool 1 (total (λ vs. truth (same (at vs j) (at vs k)))) r
equal laws a b j k r spot f =
    makes_same laws a b ty.Bool 1 1 r (acts a kind.Eq ty.Bool j k 0 spot) (total (λ vs. truth (same (at vs j) (at vs k)))) (omega arith)
    (λ now vs types. truth_ok (same (at vs j) (at vs k)) spot (turns_of a.graph a.turn)) f

less : Laws → (a b : State) (j k r : ℕ) (spot : Spot) → Makes a b ty.Bool 1 (acts a kind.Lt ty.Bool j k 0 spot) r
    → Makes a b ty.Bool 1 (total (λ vs. truth (int_lt (at vs j) (at vs k)))) r
less laws a b j k r spot f =
    makes_same laws a b ty.Bool 1 1 r (acts a kind.Lt ty.Bool j k 0 spot) (total (λ vs. truth (int_lt (at vs j) (at vs k)))) (omega arith)
    (λ now vs types. truth_ok (int_lt (at vs j) (at vs k)) spot (turns_of a.graph a.turn)) f

-- ---- labels

both_ways : (x a b : ℤ) → b ≡ a → same x a ≡ (int_le a x && int_le x b)
both_ways x a b e = and_other (int_le x a) (int_le a x) ∙ ap (λ y. int_le a x && int_le x y) (sym e)
  where
    and_other : (p q : Bool) → (p && q) ≡ (q && p)
    and_other true true = refl
    and_other true false = refl
    and_other false true = refl
    and_other false false = refl

-- one value: its CONST, and EQ
pub labelled_one : Laws → (a b c : State) (t : Ty) (k j r : ℕ) (l : TLabel) → l.range ≡ false → l.last ≡ l.first → IsA t a.graph.operations k →
    Makes a b t 1 (giving l.first) j → Makes b c ty.Bool 1 (acts b kind.Eq ty.Bool k j 0 l.spot) r → Makes a c ty.Bool (alone_size l) (labelled k l) r
labelled_one laws a b c t k j r l one last hk f g =
    subst (λ n. Makes a c ty.Bool n (labelled k l) r) (sym (ap (λ x. cond x 6 2) one))
    (total_then laws a b c t ty.Bool 1 1 (λ vs. l.first) (λ ws. truth (same (at ws k) (at ws j))) (λ vs. truth (is_labelled (at vs k) l)) j r f
    (equal laws b c k j r l.spot g)
    (λ vs ws types types1 stay is. ap₂ (λ x y. truth (same x y)) (stay t k hk) is ∙ ap truth (both_ways (at vs k) l.first l.last last)))

outside_not : (p q : Bool) → not (p || q) ≡ (not p && not q)
outside_not true q = refl
outside_not false q = refl

-- a range: the CONSTs of both ends, LT below, LT above, OR and NOT
pub labelled_range : Laws → (s0 s1 s2 s3 s4 s5 s6 : State) (t : Ty) (k first last below above out r : ℕ) (l : TLabel) → l.range ≡ true
    → IsA t s0.graph.operations k →
    Makes s0 s1 t 1 (giving l.first) first → Makes s1 s2 t 1 (giving l.last) last →
    Makes s2 s3 ty.Bool 1 (acts s2 kind.Lt ty.Bool k first 0 l.spot) below → Makes s3 s4 ty.Bool 1 (acts s3 kind.Lt ty.Bool last k 0 l.spot) above →
    Makes s4 s5 ty.Bool 1 (acts s4 kind.Or ty.Bool below above 0 l.spot) out → Makes s5 s6 ty.Bool 1 (acts s5 kind.Not ty.Bool out 0 0 l.spot) r →
    Makes s0 s6 ty.Bool (alone_size l) (labelled k l) r
labelled_range laws s0 s1 s2 s3 s4 s5 s6 t k first last below above out r l range hk f1 f2 f3 f4 f5 f6 =
    subst (λ n. Makes s0 s6 ty.Bool n (labelled k l) r) (sym (ap (λ x. cond x 6 2) range))
    (total_then laws s0 s1 s6 t ty.Bool 1 5 (λ vs. l.first) v1 (λ vs. truth (is_labelled (at vs k) l)) first r f1
    (total_then laws s1 s2 s6 t ty.Bool 1 4 (λ vs. l.last) v2 v1 last r f2
    (total_then laws s2 s3 s6 ty.Bool ty.Bool 1 3 (λ vs. truth (int_lt (at vs k) (at vs first))) v3 v2 below r (less laws s2 s3 k first below l.spot f3)
    (total_then laws s3 s4 s6 ty.Bool ty.Bool 1 2 (λ vs. truth (int_lt (at vs last) (at vs k))) v4 v3 above r (less laws s3 s4 last k above l.spot f4)
    (total_then laws s4 s5 s6 ty.Bool ty.Bool 1 1 (λ vs. truth (holds below vs || holds above vs)) (λ ws. truth (not (holds out ws))) v4 out r
    (either laws s4 s5 below above out l.spot (f4.follows.typed ty.Bool below f3.place) f4.place f5) (denied laws s5 s6 out r l.spot f5.place f6)
    (λ vs ws types types1 stay is. ap (λ x. truth (not (not (same x (pos 0))))) is ∙ ap (λ b. truth (not b)) (holds_truth (holds below vs || holds above vs))))
    (λ vs ws types types1 stay is. ap₂ (λ x y. truth (not (x || y))) (ap (λ x. not (same x (pos 0))) (stay ty.Bool below f3.place))
    (ap (λ x. not (same x (pos 0))) is ∙ holds_truth (int_lt (at vs last) (at vs k)))))
    (λ vs ws types types1 stay is. ap₂ (λ x y. truth (not (x || y))) (ap (λ x. not (same x (pos 0))) is ∙ holds_truth (int_lt (at vs k) (at vs first)))
    (ap₂ int_lt (stay t last f2.place) (stay t k hk2))))
    (λ vs ws types types1 stay is. ap (λ x. truth (not (int_lt x (at ws first) || int_lt (at ws last) x))) (stay t k hk1)
    ∙ ap₂ (λ x y. truth (not (int_lt (at vs k) x || int_lt y (at vs k)))) (stay t first f1.place) is))
    (λ vs ws types types1 stay is. ap (λ x. truth (not (int_lt x (at ws first) || int_lt l.last x))) (stay t k hk)
    ∙ ap (λ x. truth (not (int_lt (at vs k) x || int_lt l.last (at vs k)))) is
    ∙ ap truth (outside_not (int_lt (at vs k) l.first) (int_lt l.last (at vs k))
    ∙ ap₂ (λ x y. x && y) (not_less l.first (at vs k)) (not_less (at vs k) l.last))))
  where
    hk1 : IsA t s1.graph.operations k
    hk1 = f1.follows.typed t k hk

    hk2 : IsA t s2.graph.operations k
    hk2 = f2.follows.typed t k hk1

    v1 : List ℤ → ℤ
    v1 vs = truth (not (int_lt (at vs k) (at vs first) || int_lt l.last (at vs k)))

    v2 : List ℤ → ℤ
    v2 vs = truth (not (int_lt (at vs k) (at vs first) || int_lt (at vs last) (at vs k)))

    v3 : List ℤ → ℤ
    v3 vs = truth (not (holds below vs || int_lt (at vs last) (at vs k)))

    v4 : List ℤ → ℤ
    v4 vs = truth (not (holds below vs || holds above vs))

-- another label, joined by its OR
pub labelled_more : Laws → (a b c : State) (t : Ty) (n k j r q : ℕ) (l : TLabel) (spot : Spot) → IsA t a.graph.operations k → IsA ty.Bool a.graph.operations j →
    Makes a b ty.Bool n (labelled k l) r → Makes b c ty.Bool 1 (acts b kind.Or ty.Bool j r 0 spot) q → Makes a c ty.Bool (n + 1) (or_labelled j k l) q
labelled_more laws a b c t n k j r q l spot hk hj f g =
    total_then laws a b c ty.Bool ty.Bool n 1 (λ vs. truth (is_labelled (at vs k) l)) (λ ws. truth (holds j ws || holds r ws))
    (λ vs. truth (holds j vs || is_labelled (at vs k) l)) r q f (either laws b c j r q spot (f.follows.typed ty.Bool j hj) f.place g)
    (λ vs ws types types1 stay is. ap₂ (λ x y. truth (x || y)) (ap (λ x. not (same x (pos 0))) (stay ty.Bool j hj))
    (ap (λ x. not (same x (pos 0))) is ∙ holds_truth (is_labelled (at vs k) l)))

any_more : (v : ℤ) (ls : List TLabel) (l : TLabel) → list_any (is_labelled v) (ls ++ l ∷ []) ≡ (list_any (is_labelled v) ls || is_labelled v l)
any_more v [] l = or_false (is_labelled v l)
  where
    or_false : (b : Bool) → (b || false) ≡ b
    or_false true = refl
    or_false false = refl
any_more v (x ∷ ls) l = ap (λ b. is_labelled v x || b) (any_more v ls l) ∙ assoc (is_labelled v x) (list_any (is_labelled v) ls) (is_labelled v l)
  where
    assoc : (p q r : Bool) → (p || (q || r)) ≡ ((p || q) || r)
    assoc true q r = refl
    assoc false q r = refl

-- the labels so far, and one more
pub any_then : Laws → (a b c : State) (t : Ty) (n1 n2 k j r : ℕ) (ls : List TLabel) (l : TLabel) → IsA t a.graph.operations k
    → Makes a b ty.Bool n1 (any_labelled k ls) j → Makes b c ty.Bool n2 (or_labelled j k l) r → Makes a c ty.Bool (n1 + n2) (any_labelled k (ls ++ l ∷ [])) r
any_then laws a b c t n1 n2 k j r ls l hk f g =
    total_then laws a b c ty.Bool ty.Bool n1 n2 (λ vs. truth (list_any (is_labelled (at vs k)) ls)) (λ ws. truth (holds j ws || is_labelled (at ws k) l))
    (λ vs. truth (list_any (is_labelled (at vs k)) (ls ++ l ∷ []))) j r f g
    (λ vs ws types types1 stay is.
    ap₂ (λ x y. truth (x || is_labelled y l)) (ap (λ x. not (same x (pos 0))) is ∙ holds_truth (list_any (is_labelled (at vs k)) ls)) (stay t k hk)
    ∙ ap truth (sym (any_more (at vs k) ls l)))

-- the first label
pub any_first : Laws → (a b : State) (n k r : ℕ) (l : TLabel) → Makes a b ty.Bool n (labelled k l) r → Makes a b ty.Bool n (any_labelled k (l ∷ [])) r
any_first laws a b n k r l f =
    makes_same laws a b ty.Bool n n r (labelled k l) (any_labelled k (l ∷ [])) (omega arith)
    (λ now vs types. ap (λ x. Ok (Some (truth x))) (sym (any_more (at vs k) [] l))) f

-- ---- sizes and types

pub range_size : (l : TLabel) → l.range ≡ true → alone_size l ≡ 6
range_size l h = ap (λ b. cond b 6 2) h

pub one_size : (l : TLabel) → l.range ≡ false → alone_size l ≡ 2
one_size l h = ap (λ b. cond b 6 2) h

pub joined_size : (l : TLabel) → alone_size l + 1 ≡ label_size l
joined_size l = go l.range
  where
    go : (b : Bool) → cond b 6 2 + 1 ≡ cond b 7 3
    go true = refl
    go false = refl

pub alone_fits : (l : TLabel) → alone_size l ≤ label_size l
alone_fits l = omega (arith, joined_size l)

pub alone_first : (l : TLabel) → 0 + alone_size l ≤ label_size l
alone_first l = omega (arith, joined_size l)

pub joined_fits : (l : TLabel) → alone_size l + 1 ≤ label_size l
joined_fits l = omega (arith, joined_size l)

-- a selector's type is one of numbers, which LT compares
pub orders : (t : Ty) → joined_type t t ≡ Some t → types_fit kind.Lt t ty.Bool ≡ true
orders ty.Bool h = absurd cc
orders ty.Int h = refl
orders ty.Dint h = refl
orders ty.Lint h = refl

-- ---- the loop over labels

pub first_label : Laws → (a b : State) (k r : ℕ) (ls : List TLabel) (d : TLabel) → 0 < length ls
    → Makes a b ty.Bool (alone_size (get_or ls 0 d)) (labelled k (get_or ls 0 d)) r
    → Makes a b ty.Bool (sum_by label_size (take 1 ls)) (any_labelled k (take 1 ls)) r
first_label laws a b k r [] d lt f = absurd (omega (arith, lt))
first_label laws a b k r (l ∷ ls) d lt f =
    makes_same laws a b ty.Bool (alone_size l) (sum_by label_size (l ∷ [])) r (any_labelled k (l ∷ [])) (any_labelled k (l ∷ [])) (omega (arith, alone_fits l))
    (λ now vs types. refl) (any_first laws a b (alone_size l) k r l f)

pub label_sum : (ls : List TLabel) (i : ℕ) (d : TLabel) → i < length ls
    → sum_by label_size (take (i + 1) ls) ≡ sum_by label_size (take i ls) + label_size (get_or ls i d)
label_sum ls i d lt = ap (sum_by label_size) (take_more ls i d lt) ∙ sum_by_push label_size (take i ls) (get_or ls i d)

pub label_sum_fits : (ls : List TLabel) (i : ℕ) (d : TLabel) → i < length ls → sum_by label_size (take i ls) + label_size (get_or ls i d) ≤ sum_by label_size ls
label_sum_fits ls i d lt = omega (arith, label_sum ls i d lt, sum_by-take-le label_size ls (i + 1))

pub first_fits : (ls : List TLabel) (d : TLabel) → 0 < length ls → 0 + alone_size (get_or ls 0 d) ≤ sum_by label_size ls
first_fits ls d lt = omega (arith, label_sum_fits ls 0 d lt, alone_fits (get_or ls 0 d))

pub next_label : Laws → (a b c : State) (t : Ty) (k j r : ℕ) (ls : List TLabel) (i : ℕ) (d : TLabel) → i < length ls → IsA t a.graph.operations k
    → Makes a b ty.Bool (sum_by label_size (take i ls)) (any_labelled k (take i ls)) j →
    Makes b c ty.Bool (label_size (get_or ls i d)) (or_labelled j k (get_or ls i d)) r → Makes a c ty.Bool (sum_by label_size (take (i + 1) ls))
    (any_labelled k (take (i + 1) ls)) r
next_label laws a b c t k j r ls i d lt hk f g =
    subst (λ n. Makes a c ty.Bool n (any_labelled k (take (i + 1) ls)) r) (sym (label_sum ls i d lt))
    (subst (λ xs. Makes a c ty.Bool (sum_by label_size (take i ls) + label_size (get_or ls i d)) (any_labelled k xs) r) (sym (take_more ls i d lt))
    (any_then laws a b c t (sum_by label_size (take i ls)) (label_size (get_or ls i d)) k j r (take i ls) (get_or ls i d) hk f g))
