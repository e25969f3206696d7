-- Branches: IF and CASE, from the conditions and the bodies.
use Rattle.std.proofs.Common.{◌≡◌, ℕ, ◌+◌, ℤ, pos, Bool, true, false, not, ◌&&◌, cond, List, Option, Some, None, Result, Ok, Err, refl, sym, ap, ap₂, ◌∙◌}
use Rattle.std.proofs.Common.{subst, arith}
use Rattle.std.specs.List.{list_any}
use Rattle.vcp_base.specs.declared.ty.Ty.{Ty}
use Rattle.vcp_base.specs.declared.ty.Ty.TheVariants as ty
use Rattle.vcp_base.specs.Kinds.{same, truth}
use Rattle.op_graph.specs.Lists.{turns_of}
use Rattle.vcp_base.specs.Values.{at}
use Rattle.vcp_typed.specs.declared.stmt.TLabel.{TLabel}
use Rattle.vcp_typed.specs.TExprTree.{TExprTree}
use Rattle.vcp_typed.specs.Meaning.{Stop, and_then, value, is_labelled}
use Rattle.vcp_typed.specs.Size.{expr_size}
use Rattle.vcp_typed.specs.Checked.{ty_of}
use Rattle.flat_expr.specs.Laws.{Laws}
use Rattle.flat_expr.specs.State.{State, IsState, IsA, IsPlace, active, Makes, Flattens, guarded, meaning_of}
use Rattle.flat_stmt.specs.Moves.{Here, here, Doing, Moves, Any, where_reached, Does}
use Rattle.flat_stmt.specs.Conditions.{holds, joins, denies, any_labelled}
use Rattle.flat_stmt.specs.Branches.{Conditions, branch_of, arm_of}
use Rattle.flat_stmt.proofs.Algebra.{Lasts, place_typed, With, Binds, then_do, moves_then, moves_same, moves_nothing, moves_from, moves_to, moves_with}
use Rattle.flat_stmt.proofs.Conditions.{holds_truth}

-- ---- what lasts

pub lasts_any : (s : State) → Lasts s Any
lasts_any s vs ws e kept h = tt

pub lasts_at : Laws → (s : State) (t : Ty) (k : ℕ) (x : ℤ) → IsA t s.graph.operations k → Lasts s (λ vs. at vs k ≡ x)
lasts_at laws s t k x h vs ws e kept is = kept k (omega (arith, e, laws.below t s.graph.operations k h)) ∙ is

pub lasts_active : Laws → (s : State) (t : Ty) (p : Option ℕ) (o : Bool) → IsPlace t s.graph.operations p → Lasts s (λ vs. active p vs ≡ o)
lasts_active laws s t None o h vs ws e kept is = is
lasts_active laws s t (Some k) o h vs ws e kept is = ap (λ x. not (same x (pos 0))) (kept k (omega (arith, e, laws.below t s.graph.operations k h))) ∙ is

pub lasts_both : (s : State) (P Q : List ℤ → Type 0) → Lasts s P → Lasts s Q → Lasts s (λ vs. P vs × Q vs)
lasts_both s P Q f g vs ws e kept h = (f vs ws e kept h.0, g vs ws e kept h.1)

-- ---- cases

-- what is done where the path condition is known to be 1 or not
pub moves_case : (a b : State) (Such : List ℤ → Type 0) (n : ℕ) (f : Bool → Doing) → ((o : Bool) → Moves a b (λ vs. Such vs × (active a.path vs ≡ o)) n (f o))
    → Moves a b Such n (λ c m. f c c m)
moves_case a b Such n f q = record {
  continues = (q true).continues;
  path = (q true).path;
  count = (q true).count;
  few = (q true).few;
  gives = λ cells row start now vs r loaded knows such. (q (active a.path vs)).gives cells row start now vs r loaded knows (such, refl);
}

-- the path condition of before again
pub restored : Laws → (a b : State) (p : Option ℕ) (Such : List ℤ → Type 0) (n : ℕ) (f : Doing) (meaning : List ℤ → Result (List ℤ) Stop) → Lasts a Such
    → p ≡ a.path → Moves a b Such n f →
    ((c : Bool) (m : List ℤ) → and_then (f c m) (λ h. Ok h.slots) ≡ cond c (meaning m) (Ok m)) → Moves a (record b { path = p }) Such n (where_reached meaning)
restored laws a b p Such n f meaning lasts same_path q is =
    subst (λ o. Moves a (record b { path = o }) Such n (where_reached meaning)) (sym same_path)
    (moves_same a (record b { path = a.path }) Such Such n n (λ c m. then_do f (λ d k. Ok (here c k)) c m) (where_reached meaning) (omega arith) (λ vs h. h)
    (λ vs now h. all (active a.path vs) now)
    (moves_case a (record b { path = a.path }) Such n (λ o. then_do f (λ d k. Ok (here o k)))
    (λ o. moves_to laws a b a.path (λ vs. Such vs × (active a.path vs ≡ o)) o n f
    (lasts_both a Such (λ vs. active a.path vs ≡ o) lasts (lasts_active laws a ty.Bool a.path o q.continues.before.path)) q.continues.after.path
    (λ vs h. h.1)
    (moves_same a b Such (λ vs. Such vs × (active a.path vs ≡ o)) n n f f (omega arith) (λ vs h. h.0) (λ vs now h. refl) q))))
  where
    slots_then : (c : Bool) (x : Result Here Stop) → and_then x (λ h. Ok (here c h.slots)) ≡ and_then (and_then x (λ h. Ok h.slots)) (λ m. Ok (here c m))
    slots_then c (Ok h) = refl
    slots_then c (Err s) = refl

    by_case : (c d : Bool) (x : Result (List ℤ) Stop) (m : List ℤ)
        → and_then (cond c x (Ok m)) (λ n. Ok (here d n)) ≡ cond c (and_then x (λ n. Ok (here d n))) (Ok (here d m))
    by_case true d x m = refl
    by_case false d x m = refl

    all : (c : Bool) (m : List ℤ) → then_do f (λ d k. Ok (here c k)) c m ≡ where_reached meaning c m
    all c m = slots_then c (f c m) ∙ ap (λ x. and_then x (λ n. Ok (here c n))) (is c m) ∙ by_case c c (meaning m) m

-- ---- a branch

lasts_conditions : Laws → (s : State) (r : ℕ) (x : ℤ) (outer : Option ℕ) (o : Bool) → IsA ty.Bool s.graph.operations r
    → IsPlace ty.Bool s.graph.operations outer → Lasts s (Conditions r x outer o)
lasts_conditions laws s r x outer o hr ho =
    lasts_both s (λ vs. at vs r ≡ x) (λ vs. active outer vs ≡ o) (lasts_at laws s ty.Bool r x hr) (lasts_active laws s ty.Bool outer o ho)

-- the outer condition of the next branch
pub next_made : Laws → (a b c : State) (r n j : ℕ) (outer : Option ℕ) (x : ℤ) (o : Bool) → IsA ty.Bool a.graph.operations r
    → IsPlace ty.Bool a.graph.operations outer →
    Makes a b ty.Bool 1 (denies r) n → Makes b c ty.Bool 1 (joins outer n) j → Moves a (record c { path = Some j }) (Conditions r x outer o) 2
    (λ d m. Ok (here (o && same x (pos 0)) m))
next_made laws a b c r n j outer x o hr ho f g =
    moves_with laws a b (record c { path = Some j }) ty.Bool (Conditions r x outer o) n 1 1 (denies r) (λ d m. Ok (here (o && same x (pos 0)) m))
    (λ z d m. Ok (here (o && not (same z (pos 0))) m))
    (lasts_conditions laws a r x outer o hr ho) f
    (λ z. moves_with laws b c (record c { path = Some j }) ty.Bool (With (Conditions r x outer o) n z) j 1 0 (joins outer n)
    (λ d m. Ok (here (o && not (same z (pos 0))) m)) (λ w d m. Ok (here (not (same w (pos 0))) m))
    (lasts_both b (Conditions r x outer o) (λ vs. at vs n ≡ z) (lasts_conditions laws b r x outer o (f.follows.typed ty.Bool r hr) hb)
    (lasts_at laws b ty.Bool n z f.place)) g
    (λ w. moves_to laws c c (Some j) (With (With (Conditions r x outer o) n z) j w) (not (same w (pos 0))) 0 (λ d m. Ok (here d m))
    (lasts_both c (With (Conditions r x outer o) n z) (λ vs. at vs j ≡ w)
    (lasts_both c (Conditions r x outer o) (λ vs. at vs n ≡ z)
    (lasts_conditions laws c r x outer o (g.follows.typed ty.Bool r (f.follows.typed ty.Bool r hr)) hc)
    (lasts_at laws c ty.Bool n z (g.follows.typed ty.Bool n f.place))) (lasts_at laws c ty.Bool j w g.place))
    g.place (λ vs h. ap (λ y. not (same y (pos 0))) h.1) (moves_nothing c (With (With (Conditions r x outer o) n z) j w) g.follows.after))
    (λ now vs types h. ap (λ y. Ok (here y now))
    (ap₂ (λ p q. p && not (same q (pos 0))) (sym h.0.1) (sym h.1) ∙ sym (holds_truth (active outer vs && holds n vs)))))
    (λ now vs types h. ap (λ y. Ok (here (o && y) now))
    (ap (λ q. same q (pos 0)) (sym h.0) ∙ flip_twice (same (at vs r) (pos 0)) ∙ sym (holds_truth (not (holds r vs)))))
  where
    flip_twice : (b : Bool) → b ≡ not (not b)
    flip_twice true = refl
    flip_twice false = refl

    hb : IsPlace ty.Bool b.graph.operations outer
    hb = place_typed a b ty.Bool outer f.follows.typed ho

    hc : IsPlace ty.Bool c.graph.operations outer
    hc = place_typed b c ty.Bool outer g.follows.typed hb

-- a branch of which others follow
pub branch_more : Laws → (s1 s2 s3 s6 : State) (r c : ℕ) (outer : Option ℕ) (x : ℤ) (n : ℕ) (body : List ℤ → Result (List ℤ) Stop) → outer ≡ s1.path
    → IsState s1 → IsA ty.Bool s1.graph.operations r →
    Makes s1 s2 ty.Bool 1 (joins outer r) c → Does (record s2 { path = Some c }) s3 n body →
    ((o : Bool) → Moves s3 s6 (Conditions r x outer o) 2 (λ d m. Ok (here (o && same x (pos 0)) m))) → Moves s1 s6 (λ vs. at vs r ≡ x) (3 + n)
    (branch_of true x body)
branch_more laws s1 s2 s3 s6 r c outer x n body is_outer i hr f d next =
    moves_same s1 s6 (λ vs. at vs r ≡ x) (λ vs. at vs r ≡ x) (1 + (n + 2)) (3 + n) (λ b m. after b b m) (branch_of true x body) (omega arith) (λ vs h. h)
    (λ vs now h. same_thing (active s1.path vs) now)
    (moves_case s1 s6 (λ vs. at vs r ≡ x) (1 + (n + 2)) after
    (λ o. subst (λ p. Moves s1 s6 (λ vs. (at vs r ≡ x) × (active p vs ≡ o)) (1 + (n + 2)) (after o)) is_outer
    (moves_with laws s1 s2 s6 ty.Bool (Conditions r x outer o) c 1 (n + 2) (joins outer r) (after o)
    (λ y b m. then_do (where_reached body) (tail o) (not (same y (pos 0))) m)
    (lasts_conditions laws s1 r x outer o hr ho) f
    (λ y. moves_from s2 s6 (Some c) (With (Conditions r x outer o) c y) (not (same y (pos 0))) (n + 2) (then_do (where_reached body) (tail o)) f.follows.after
    (λ vs h. ap (λ w. not (same w (pos 0))) h.1)
    (moves_then laws (record s2 { path = Some c }) s3 s6 (With (Conditions r x outer o) c y) n 2 (where_reached body) (tail o)
    (lasts_both (record s2 { path = Some c }) (Conditions r x outer o) (λ vs. at vs c ≡ y)
    (lasts_conditions laws (record s2 { path = Some c }) r x outer o (f.follows.typed ty.Bool r hr) (place_typed s1 s2 ty.Bool outer f.follows.typed ho))
    (lasts_at laws (record s2 { path = Some c }) ty.Bool c y f.place))
    (moves_same (record s2 { path = Some c }) s3 Any (With (Conditions r x outer o) c y) n n (where_reached body) (where_reached body) (omega arith)
    (λ vs h. tt) (λ vs now h. refl) d.moves)
    (moves_same s3 s6 (Conditions r x outer o) (With (Conditions r x outer o) c y) 2 2 (tail o) (tail o) (omega arith) (λ vs h. h.0) (λ vs now h. refl)
    (next o))))
    (λ now vs types h. ap (λ y. then_do (where_reached body) (tail o) y now)
    (ap₂ (λ p q. p && not (same q (pos 0))) (sym h.1) (sym h.0) ∙ sym (holds_truth (active outer vs && holds r vs)))))))
  where
    ho : IsPlace ty.Bool s1.graph.operations outer
    ho = subst (IsPlace ty.Bool s1.graph.operations) (sym is_outer) i.path

    tail : Bool → Doing
    tail o b m = Ok (here (o && same x (pos 0)) m)

    after : Bool → Doing
    after o b m = then_do (where_reached body) (tail o) (o && not (same x (pos 0))) m

    taken : (y : Result (List ℤ) Stop) → and_then (and_then y (λ n. Ok (here true n))) (λ h. Ok (here false h.slots)) ≡ and_then y (λ n. Ok (here false n))
    taken (Ok m) = refl
    taken (Err s) = refl

    cases : (b z : Bool) (m : List ℤ)
        → and_then (where_reached body (b && not z) m) (λ h. Ok (here (b && z) h.slots))
        ≡ cond b (cond z (Ok (here true m)) (and_then (body m) (λ n. Ok (here false n)))) (Ok (here false m))
    cases true true m = refl
    cases true false m = taken (body m)
    cases false z m = refl

    same_thing : (b : Bool) (m : List ℤ) → after b b m ≡ branch_of true x body b m
    same_thing b m = cases b (same x (pos 0)) m

-- the last branch, and the outer condition again
pub branch_last : Laws → (s1 s2 s3 : State) (r c : ℕ) (outer : Option ℕ) (x : ℤ) (n : ℕ) (body : List ℤ → Result (List ℤ) Stop) → outer ≡ s1.path → IsState s1
    → IsA ty.Bool s1.graph.operations r →
    Makes s1 s2 ty.Bool 1 (joins outer r) c → Does (record s2 { path = Some c }) s3 n body → Moves s1 (record s3 { path = outer }) (λ vs. at vs r ≡ x) (3 + n)
    (branch_of false x body)
branch_last laws s1 s2 s3 r c outer x n body is_outer i hr f d =
    moves_same s1 (record s3 { path = outer }) (λ vs. at vs r ≡ x) (λ vs. at vs r ≡ x) (1 + n) (3 + n) (λ b m. after b b m) (branch_of false x body)
    (omega arith) (λ vs h. h) (λ vs now h. cases (active s1.path vs) (same x (pos 0)) now)
    (moves_case s1 (record s3 { path = outer }) (λ vs. at vs r ≡ x) (1 + n) after
    (λ o. subst (λ p. Moves s1 (record s3 { path = outer }) (λ vs. (at vs r ≡ x) × (active p vs ≡ o)) (1 + n) (after o)) is_outer
    (moves_with laws s1 s2 (record s3 { path = outer }) ty.Bool (Conditions r x outer o) c 1 n (joins outer r) (after o)
    (λ y b m. then_do (where_reached body) (λ d k. Ok (here o k)) (not (same y (pos 0))) m)
    (lasts_conditions laws s1 r x outer o hr ho) f
    (λ y. moves_from s2 (record s3 { path = outer }) (Some c) (With (Conditions r x outer o) c y) (not (same y (pos 0))) n
    (then_do (where_reached body) (λ d k. Ok (here o k))) f.follows.after (λ vs h. ap (λ w. not (same w (pos 0))) h.1)
    (moves_to laws (record s2 { path = Some c }) s3 outer (With (Conditions r x outer o) c y) o n (where_reached body)
    (lasts_both (record s2 { path = Some c }) (Conditions r x outer o) (λ vs. at vs c ≡ y)
    (lasts_conditions laws (record s2 { path = Some c }) r x outer o (f.follows.typed ty.Bool r hr) h2)
    (lasts_at laws (record s2 { path = Some c }) ty.Bool c y f.place))
    (place_typed s2 s3 ty.Bool outer d.moves.continues.typed h2) (λ vs h. h.0.1)
    (moves_same (record s2 { path = Some c }) s3 Any (With (Conditions r x outer o) c y) n n (where_reached body) (where_reached body) (omega arith)
    (λ vs h. tt) (λ vs now h. refl) d.moves)))
    (λ now vs types h. ap (λ y. then_do (where_reached body) (λ d k. Ok (here o k)) y now)
    (ap₂ (λ p q. p && not (same q (pos 0))) (sym h.1) (sym h.0) ∙ sym (holds_truth (active outer vs && holds r vs)))))))
  where
    ho : IsPlace ty.Bool s1.graph.operations outer
    ho = subst (IsPlace ty.Bool s1.graph.operations) (sym is_outer) i.path

    h2 : IsPlace ty.Bool s2.graph.operations outer
    h2 = place_typed s1 s2 ty.Bool outer f.follows.typed ho

    after : Bool → Doing
    after o b m = then_do (where_reached body) (λ d k. Ok (here o k)) (o && not (same x (pos 0))) m

    taken : (y : Result (List ℤ) Stop) → and_then (and_then y (λ n. Ok (here true n))) (λ h. Ok (here true h.slots)) ≡ and_then y (λ n. Ok (here true n))
    taken (Ok m) = refl
    taken (Err s) = refl

    cases : (b z : Bool) (m : List ℤ)
        → and_then (where_reached body (b && not z) m) (λ h. Ok (here b h.slots))
        ≡ cond b (cond z (Ok (here true m)) (and_then (body m) (λ n. Ok (here true n)))) (Ok (here false m))
    cases true true m = refl
    cases true false m = taken (body m)
    cases false z m = refl

-- ---- an arm of IF, and a branch of CASE

pub arm_moves : Laws → (a b c : State) (e : TExprTree) (r n : ℕ) (more : Bool) (body : List ℤ → Result (List ℤ) Stop) → Flattens a b e r
    → ((x : ℤ) → Moves b c (λ vs. at vs r ≡ x) n (branch_of more x body)) →
    Moves a c Any (expr_size e + n) (arm_of more (turns_of a.graph a.turn) e body)
arm_moves laws a b c e r n more body f q =
    moves_with laws a b c (ty_of e) Any r (expr_size e) n (meaning_of a e) (arm_of more (turns_of a.graph a.turn) e body) (λ x. branch_of more x body)
    (lasts_any a) f
    (λ x. moves_same b c (λ vs. at vs r ≡ x) (With Any r x) n n (branch_of more x body) (branch_of more x body) (omega arith) (λ vs h. h.1) (λ vs now h. refl)
    (q x))
    (λ now vs types h. binds (active a.path vs) (value (turns_of a.graph a.turn) e now) now)
  where
    binds : (b : Bool) (v : Result ℤ Stop) (m : List ℤ)
        → Binds (guarded b v) (cond b (and_then v (λ x. branch_of more x body true m)) (Ok (here false m))) (λ x. branch_of more x body b m)
    binds true (Ok v) m = refl
    binds true (Err s) m = refl
    binds false v m = λ x. refl

pub labels_moves : Laws → (a b c : State) (t : Ty) (k r n1 n2 : ℕ) (v : ℤ) (ls : List TLabel) (more : Bool) (body : List ℤ → Result (List ℤ) Stop)
    → IsA t a.graph.operations k → Makes a b ty.Bool n1 (any_labelled k ls) r →
    ((x : ℤ) → Moves b c (λ vs. at vs r ≡ x) n2 (branch_of more x body)) → Moves a c (λ vs. at vs k ≡ v) (n1 + n2)
    (branch_of more (truth (list_any (is_labelled v) ls)) body)
labels_moves laws a b c t k r n1 n2 v ls more body hk f q =
    moves_with laws a b c ty.Bool (λ vs. at vs k ≡ v) r n1 n2 (any_labelled k ls) (branch_of more (truth (list_any (is_labelled v) ls)) body)
    (λ x. branch_of more x body) (lasts_at laws a t k v hk) f
    (λ x. moves_same b c (λ vs. at vs r ≡ x) (With (λ vs. at vs k ≡ v) r x) n2 n2 (branch_of more x body) (branch_of more x body) (omega arith) (λ vs h. h.1)
    (λ vs now h. refl) (q x))
    (λ now vs types h. ap (λ y. branch_of more (truth (list_any (is_labelled y) ls)) body (active a.path vs) now) (sym h))
