-- Joining: one more operation is kept, or joined to the first that does the same.
use Rattle.std.proofs.Common.{◌≡◌, ◌⊎◌, ⊎_elim, inl, inr, ℕ, suc, ◌+◌, ◌<◌, ◌≤◌, ◌==◌, ℤ, Bool, true, false, cond, List, [], ◌∷◌, ◌++◌, length, take, slice_get}
use Rattle.std.proofs.Common.{Option, Some, None, refl, sym, ap, subst, ◌∙◌, length-append, arith}
use Rattle.std.proofs.lemmas.Bool.Decides.{nat_tests}
use Rattle.std.proofs.lemmas.List.{length-take-le}
use Rattle.std.proofs.lemmas.Option.{slice_get_within}
use Rattle.vcp_base.specs.declared.ty.Ty.{Ty}
use Rattle.vcp_base.specs.declared.ty.Ty.TheVariants as ty
use Rattle.vcp_base.specs.declared.kind.Kind.{Kind}
use Rattle.vcp_base.specs.declared.kind.Kind.TheVariants as kind
use Rattle.vcp_base.specs.Spellings.{kinds, kind_code, types, ty_code}
use Rattle.op_graph.specs.declared.op.Op.{Op}
use Rattle.op_graph.specs.Lists.{Lists}
use Rattle.op_graph.specs.Rules.{IsGraph, scope, place_of, operand_fits, reads_as, OpFits}
use Rattle.op_graph.specs.Laws.{EntryLaws}
use Rattle.graph_passes.specs.declared.sharing.Work.{Work}
use Rattle.graph_passes.specs.Part.{Numbering, below, own_number, moved, work, JoinedTo}
use Rattle.graph_passes.specs.Sharing.{joins}
use Rattle.graph_passes.specs.Tables.{marked, number_at}
use Rattle.graph_passes.specs.Joining.{done_by, IsFound, IsEntered, sharing, AreJoined}
use Rattle.graph_passes.proofs.ByTables.{at_front, at_end, operand_in_front, below_same, place_by}
use Rattle.graph_passes.proofs.Queueing.{get_longer, get_last, get_pushed, marked_inside}

some_is : {X : Type 0} {a b : X} → Some a ≡ Some b → a ≡ b
some_is e = cc

-- ---- what an operation does, by its codes

kind_at : (k : Kind) → slice_get kinds (kind_code k) ≡ Some k
kind_at kind.Input = refl
kind_at kind.Const = refl
kind_at kind.Load = refl
kind_at kind.Store = refl
kind_at kind.Out = refl
kind_at kind.Conv = refl
kind_at kind.Neg = refl
kind_at kind.Not = refl
kind_at kind.Add = refl
kind_at kind.Sub = refl
kind_at kind.Mul = refl
kind_at kind.Div = refl
kind_at kind.Mod = refl
kind_at kind.Eq = refl
kind_at kind.Lt = refl
kind_at kind.And = refl
kind_at kind.Or = refl
kind_at kind.Xor = refl
kind_at kind.Sel = refl

type_at : (t : Ty) → slice_get types (ty_code t) ≡ Some t
type_at ty.Bool = refl
type_at ty.Int = refl
type_at ty.Dint = refl
type_at ty.Lint = refl

built : Option Kind → Option Ty → Option Ty → ℕ → ℕ → ℕ → ℤ → Option Op
built (Some k) (Some f) (Some t) a b c imm =
    Some (record { kind = k; from = f; ty = t; a = a; b = b; c = c; imm = imm; spot = record { line = 0; col = 0 }; turn = 0 })
built (Some k) (Some f) None a b c imm = None
built (Some k) None t a b c imm = None
built None f t a b c imm = None

-- an operation that does this
decoded : Work → Option Op
decoded w = built (slice_get kinds w.kind) (slice_get types w.from) (slice_get types w.ty) w.a w.b w.c w.imm

own_joins : (m : Numbering) (k : Kind) (imm : ℤ) → joins k ≡ true → own_number m k imm ≡ imm
own_joins m kind.Load imm h = absurd cc
own_joins m kind.Store imm h = absurd cc
own_joins m _ imm h = refl

decoded_done : (m : Numbering) (numbers : List ℕ) (op : Op) → ((n : ℕ) → m.number n ≡ number_at numbers n) → joins op.kind ≡ true →
    decoded (done_by numbers op) ≡ Some (work (moved m op))
unfolding decoded built
decoded_done m numbers op same join =
    let a = number_at numbers op.a in
    let b = number_at numbers op.b in
    let c = number_at numbers op.c in
    ap (λ o. built o (slice_get types (ty_code op.from)) (slice_get types (ty_code op.ty)) a b c op.imm) (kind_at op.kind)
    ∙ ap (λ o. built (Some op.kind) o (slice_get types (ty_code op.ty)) a b c op.imm) (type_at op.from)
    ∙ ap (λ o. built (Some op.kind) (Some op.from) o a b c op.imm) (type_at op.ty)
    ∙ ap (λ n. built (Some op.kind) (Some op.from) (Some op.ty) n b c op.imm) (sym (same op.a))
    ∙ ap (λ n. built (Some op.kind) (Some op.from) (Some op.ty) (m.number op.a) n c op.imm) (sym (same op.b))
    ∙ ap (λ n. built (Some op.kind) (Some op.from) (Some op.ty) (m.number op.a) (m.number op.b) n op.imm) (sym (same op.c))
    ∙ ap (λ v. built (Some op.kind) (Some op.from) (Some op.ty) (m.number op.a) (m.number op.b) (m.number op.c) v) (sym (own_joins m op.kind op.imm join))

-- operations that do the same by their codes do the same
same_work : (kept : List Bool) (numbers : List ℕ) (p q : Op) → joins p.kind ≡ true → joins q.kind ≡ true → done_by numbers p ≡ done_by numbers q →
    work (moved (sharing kept numbers) p) ≡ work (moved (sharing kept numbers) q)
same_work kept numbers p q join_p join_q same =
    let m = sharing kept numbers in
    some_is (sym (decoded_done m numbers p (λ n. refl) join_p) ∙ ap decoded same ∙ decoded_done m numbers q (λ n. refl) join_q)

encoded : Op → Work
encoded x = record { kind = kind_code x.kind; from = ty_code x.from; ty = ty_code x.ty; a = x.a; b = x.b; c = x.c; imm = x.imm }

encoded_work : (kept : List Bool) (numbers : List ℕ) (op : Op) → joins op.kind ≡ true → encoded (work (moved (sharing kept numbers) op)) ≡ done_by numbers op
unfolding encoded
encoded_work kept numbers op join =
    let w : ℤ → Work =
    λ v. record {
      kind = kind_code op.kind;
      from = ty_code op.from;
      ty = ty_code op.ty;
      a = number_at numbers op.a;
      b = number_at numbers op.b;
      c = number_at numbers op.c;
      imm = v;
    } in
    ap w (own_joins (sharing kept numbers) op.kind op.imm join)

same_done : (kept : List Bool) (numbers : List ℕ) (p q : Op) → joins p.kind ≡ true → joins q.kind ≡ true →
    work (moved (sharing kept numbers) p) ≡ work (moved (sharing kept numbers) q) → done_by numbers p ≡ done_by numbers q
same_done kept numbers p q join_p join_q same =
    sym (encoded_work kept numbers p join_p) ∙ ap encoded same ∙ encoded_work kept numbers q join_q

-- ---- the operations that are found by what they do

pub record IsFirst (g : Lists) (n : ℕ) (kept : List Bool) (numbers : List ℕ) (w : Work) (v : ℕ) : Type 0 where
  pub place : ℕ
  pub earlier : place < n
  pub op : Op
  pub there : slice_get g.operations place ≡ Some op
  pub is_kept : marked kept place ≡ true
  pub join : joins op.kind ≡ true
  pub does : done_by numbers op ≡ w
  pub number : number_at numbers place ≡ v

-- each entry is of one of the first n operations that is kept, and each that is kept and may be joined to has its entry
pub record FirstsAre (g : Lists) (n : ℕ) (kept : List Bool) (numbers : List ℕ) (firsts : List (Work × ℕ)) : Type 0 where
  pub sound : (p : ℕ) (w : Work) (v : ℕ) → slice_get firsts p ≡ Some (w, v) → IsFirst g n kept numbers w v
  pub complete : (i : ℕ) (op : Op) → i < n → slice_get g.operations i ≡ Some op → marked kept i ≡ true → joins op.kind ≡ true →
      (p : ℕ) × (slice_get firsts p ≡ Some (done_by numbers op, number_at numbers i))

-- what is known of the first n operations
pub record SoFar (g : Lists) (n : ℕ) (kept : List Bool) (numbers : List ℕ) (firsts : List (Work × ℕ)) (count : ℕ) : Type 0 where
  pub are : AreJoined g n kept numbers
  pub entries_are : FirstsAre g n kept numbers firsts
  pub many : count ≡ below (marked kept) n

-- what is known of one more
pub record Placed (before after : List (Work × ℕ)) (numbers : List ℕ) (op : Op) (count v : ℕ) (b : Bool) : Type 0 where
  pub kept : b ≡ true → v ≡ count
  pub entry : joins op.kind ≡ false → (b ≡ true) × (after ≡ before)
  pub joined : b ≡ false → IsFound before after (done_by numbers op) v
  pub first : b ≡ true → joins op.kind ≡ true → IsEntered before after (done_by numbers op) count

-- ---- the tables grow

pub record Longer (g : Lists) (n : ℕ) (kept : List Bool) (numbers : List ℕ) (more_kept : List Bool) (more_numbers : List ℕ) : Type 0 where
  pub kept_same : (i : ℕ) → i < n → marked more_kept i ≡ marked kept i
  pub number_same : (i : ℕ) → i < n → number_at more_numbers i ≡ number_at numbers i
  pub moved_same : (i : ℕ) (op : Op) → i ≤ n → slice_get g.operations i ≡ Some op → moved (sharing more_kept more_numbers) op ≡ moved (sharing kept numbers) op
  pub done_same : (i : ℕ) (op : Op) → i ≤ n → slice_get g.operations i ≡ Some op → done_by more_numbers op ≡ done_by numbers op

moved_by : (kept more_kept : List Bool) (numbers more_numbers : List ℕ) (op : Op) → number_at more_numbers op.a ≡ number_at numbers op.a →
    number_at more_numbers op.b ≡ number_at numbers op.b → number_at more_numbers op.c ≡ number_at numbers op.c →
    moved (sharing more_kept more_numbers) op ≡ moved (sharing kept numbers) op
moved_by kept more_kept numbers more_numbers op a b c =
    let own = own_number (sharing kept numbers) op.kind op.imm in
    ap (λ n. record op { a = n; b = number_at more_numbers op.b; c = number_at more_numbers op.c; imm = own }) a
    ∙ ap (λ n. record op { a = number_at numbers op.a; b = n; c = number_at more_numbers op.c; imm = own }) b
    ∙ ap (λ n. record op { a = number_at numbers op.a; b = number_at numbers op.b; c = n; imm = own }) c

done_by_same : (numbers more_numbers : List ℕ) (op : Op) → number_at more_numbers op.a ≡ number_at numbers op.a →
    number_at more_numbers op.b ≡ number_at numbers op.b → number_at more_numbers op.c ≡ number_at numbers op.c → done_by more_numbers op ≡ done_by numbers op
done_by_same numbers more_numbers op a b c =
    let w : ℕ → ℕ → ℕ → Work = λ x y z. record { kind = kind_code op.kind; from = ty_code op.from; ty = ty_code op.ty; a = x; b = y; c = z; imm = op.imm } in
    ap (λ n. w n (number_at more_numbers op.b) (number_at more_numbers op.c)) a
    ∙ ap (λ n. w (number_at numbers op.a) n (number_at more_numbers op.c)) b
    ∙ ap (λ n. w (number_at numbers op.a) (number_at numbers op.b) n) c

none_or : (n many v : ℕ) (numbers : List ℕ) → length numbers ≡ many → (many ≡ 0 → v ≡ 0) → (n ≡ 0) ⊎ (n < many)
    → number_at (numbers ++ v ∷ []) n ≡ number_at numbers n
none_or n many v (x ∷ numbers) long start (inl none) = ap (number_at (x ∷ (numbers ++ v ∷ []))) none ∙ sym (ap (number_at (x ∷ numbers)) none)
none_or n many v [] long start (inl none) = ap (number_at (v ∷ [])) none ∙ start (sym long)
none_or n many v numbers long start (inr lt) = at_front 0 numbers (v ∷ []) n (omega (arith, long, lt))

zero_or : (n : ℕ) (i : ℕ) (before : List Op) (o : Option Ty) → length before ≡ i → operand_fits before o n ≡ true → (n ≡ 0) ⊎ (n < i)
zero_or n i before None long h = inl (let is : (n == 0) ≡ true = h in let none : n ≡ 0 = grind (arith, nat_tests) in none)
zero_or n i before (Some t) long h = inr (let inside = operand_in_front before n t h in omega (arith, inside, long))

pub longer : (entries : EntryLaws) (g : Lists) → IsGraph g → (n : ℕ) (kept : List Bool) (numbers : List ℕ) (b : Bool) (v : ℕ) → length kept ≡ n →
    length numbers ≡ n → (n ≡ 0 → v ≡ 0) → Longer g n kept numbers (kept ++ b ∷ []) (numbers ++ v ∷ [])
longer entries g graph n kept numbers b v many_kept many_numbers start =
    let same : (i k : ℕ) (op : Op) (o : Option Ty) → i ≤ n → slice_get g.operations i ≡ Some op → operand_fits (take i g.operations) o k ≡ true →
    number_at (numbers ++ v ∷ []) k ≡ number_at numbers k = λ i k op o le there fits.
    let inside = slice_get_within g.operations i op there in
    let long = length-take-le i g.operations (omega (arith, inside)) in
    none_or k n v numbers many_numbers start
    (⊎_elim (λ (e : k ≡ 0). inl e) (λ (lt : k < i). inr (omega (arith, lt, le))) (zero_or k i (take i g.operations) o long fits)) in
    let fit : (i : ℕ) (op : Op) → slice_get g.operations i ≡ Some op → OpFits (place_of (scope g) i) (length g.turn_nodes) (take i g.operations) op =
    λ i op there. entries.operation g i op graph.part there in
    record {
      kept_same = λ i lt. at_front false kept (b ∷ []) i (omega (arith, lt, many_kept));
      number_same = λ i lt. at_front 0 numbers (v ∷ []) i (omega (arith, lt, many_numbers));
      moved_same = λ i op le there. moved_by kept (kept ++ b ∷ []) numbers (numbers ++ v ∷ []) op
          (same i op.a op (reads_as op.kind op.from 0) le there (fit i op there).a)
          (same i op.b op (reads_as op.kind op.from 1) le there (fit i op there).b)
          (same i op.c op (reads_as op.kind op.from 2) le there (fit i op there).c);
      done_same = λ i op le there. done_by_same numbers (numbers ++ v ∷ []) op
          (same i op.a op (reads_as op.kind op.from 0) le there (fit i op there).a)
          (same i op.b op (reads_as op.kind op.from 1) le there (fit i op there).b)
          (same i op.c op (reads_as op.kind op.from 2) le there (fit i op there).c);
    }

-- ---- one more

-- the first operation has number 0
starts : (g : Lists) (n : ℕ) (kept : List Bool) (numbers : List ℕ) (firsts after : List (Work × ℕ)) (count v : ℕ) (b : Bool) (op : Op) →
    SoFar g n kept numbers firsts count → Placed firsts after numbers op count v b → n ≡ 0 → v ≡ 0
starts g n kept numbers firsts after count v true op so placed none = placed.kept refl ∙ so.many ∙ ap (below (marked kept)) none
starts g n kept numbers firsts after count v false op so placed none =
    let found = placed.joined refl in
    let first = so.entries_are.sound found.place (done_by numbers op) v found.there in
    let earlier = first.earlier in
    absurd (omega (arith, earlier, none))

contrary : {b : Bool} → b ≡ false → b ≡ true → ⊥
contrary f t = absurd cc

truth : (b : Bool) → (b ≡ true) ⊎ (b ≡ false)
truth true = inl refl
truth false = inr refl

kind_work : (kept : List Bool) (numbers : List ℕ) (p q : Op) → work (moved (sharing kept numbers) p) ≡ work (moved (sharing kept numbers) q) → p.kind ≡ q.kind
kind_work kept numbers p q same = ap (λ (x : Op). x.kind) same

first_later : (g : Lists) (n : ℕ) (kept : List Bool) (numbers : List ℕ) (more_kept : List Bool) (more_numbers : List ℕ) (w : Work) (v : ℕ) →
    Longer g n kept numbers more_kept more_numbers → IsFirst g n kept numbers w v → IsFirst g (n + 1) more_kept more_numbers w v
first_later g n kept numbers more_kept more_numbers w v longer f = let lt = f.earlier in record {
  place = f.place;
  earlier = omega (arith, lt);
  op = f.op;
  there = f.there;
  is_kept = longer.kept_same f.place lt ∙ f.is_kept;
  join = f.join;
  does = longer.done_same f.place f.op (omega (arith, lt)) f.there ∙ f.does;
  number = longer.number_same f.place lt ∙ f.number;
}

-- what is joined to what it was found to do
joined_here : (g : Lists) (n : ℕ) (kept : List Bool) (numbers : List ℕ) (more_kept : List Bool) (more_numbers : List ℕ) (op : Op) (v : ℕ) →
    Longer g n kept numbers more_kept more_numbers → slice_get g.operations n ≡ Some op → number_at more_numbers n ≡ v → joins op.kind ≡ true →
    IsFirst g n kept numbers (done_by numbers op) v → JoinedTo (sharing more_kept more_numbers) g n op
joined_here g n kept numbers more_kept more_numbers op v longer there number join f = let lt = f.earlier in record {
  place = f.place;
  earlier = lt;
  kept = longer.kept_same f.place lt ∙ f.is_kept;
  number = number ∙ sym f.number ∙ sym (longer.number_same f.place lt);
  first = f.op;
  there = f.there;
  same = ap work (longer.moved_same n op (omega arith) there) ∙ same_work kept numbers op f.op join f.join (sym f.does)
      ∙ sym (ap work (longer.moved_same f.place f.op (omega (arith, lt)) f.there));
}

joined_later : (g : Lists) (n : ℕ) (kept : List Bool) (numbers : List ℕ) (more_kept : List Bool) (more_numbers : List ℕ) (i : ℕ) (op : Op) →
    Longer g n kept numbers more_kept more_numbers → i < n → slice_get g.operations i ≡ Some op → JoinedTo (sharing kept numbers) g i op →
    JoinedTo (sharing more_kept more_numbers) g i op
joined_later g n kept numbers more_kept more_numbers i op longer lt there j =
    let earlier = j.earlier in
    let before : j.place < n = omega (arith, earlier, lt) in
    record {
      place = j.place;
      earlier = earlier;
      kept = longer.kept_same j.place before ∙ j.kept;
      number = longer.number_same i lt ∙ j.number ∙ sym (longer.number_same j.place before);
      first = j.first;
      there = j.there;
      same = ap work (longer.moved_same i op (omega (arith, lt)) there) ∙ j.same
          ∙ sym (ap work (longer.moved_same j.place j.first (omega (arith, before)) j.there));
    }

pub one_placed : (entries : EntryLaws) (g : Lists) → IsGraph g → (n : ℕ) (kept : List Bool) (numbers : List ℕ) (firsts after : List (Work × ℕ))
    (count v after_count : ℕ) (b : Bool)
    (op : Op) → slice_get g.operations n ≡ Some op → SoFar g n kept numbers firsts count → Placed firsts after numbers op count v b →
    after_count ≡ cond b (suc count) count → SoFar g (n + 1) (kept ++ b ∷ []) (numbers ++ v ∷ []) after after_count
one_placed entries g graph n kept numbers firsts after count v after_count b op there so placed counted =
    let are = so.are in
    let K = kept ++ b ∷ [] in
    let N = numbers ++ v ∷ [] in
    let start = starts g n kept numbers firsts after count v b op so placed in
    let l = longer entries g graph n kept numbers b v are.many_kept are.many_numbers start in
    let kept_here : marked K n ≡ b = ap (marked K) (sym are.many_kept) ∙ at_end false kept b in
    let number_here : number_at N n ≡ v = ap (number_at N) (sym are.many_numbers) ∙ at_end 0 numbers v in
    let long : length K ≡ n + 1 = length-append kept (b ∷ []) ∙ ap (λ m. m + 1) are.many_kept in
    let below_here : below (marked K) n ≡ below (marked kept) n = below_same (marked K) (marked kept) n (λ i lt. l.kept_same i lt) in
    let same_op : (p : Op) → slice_get g.operations n ≡ Some p → op ≡ p = λ p at. some_is (sym there ∙ at) in
    let join_unkept : b ≡ false → joins op.kind ≡ true = λ out. ⊎_elim (λ (yes : joins op.kind ≡ true). yes)
    (λ (no : joins op.kind ≡ false). absurd (contrary out (placed.entry no).0)) (truth (joins op.kind)) in
    record {
      are = record {
        many_kept = long;
        many_numbers = length-append numbers (v ∷ []) ∙ ap (λ m. m + 1) are.many_numbers;
        kept_number = λ i is. ⊎_elim
            (λ (lt : i < n). l.number_same i lt ∙ are.kept_number i (sym (l.kept_same i lt) ∙ is)
            ∙ sym (below_same (marked K) (marked kept) i (λ j less. l.kept_same j (omega (arith, less, lt)))))
            (λ (e : i ≡ n). ap (number_at N) e ∙ number_here ∙ placed.kept (sym kept_here ∙ ap (marked K) (sym e) ∙ is) ∙ so.many ∙ sym below_here
            ∙ ap (below (marked K)) (sym e))
            (place_by i n (let inside = marked_inside K i is in omega (arith, inside, long)));
        first_number = ⊎_elim
            (λ (lt : 0 < n). l.number_same 0 lt ∙ are.first_number)
            (λ (e : 0 ≡ n). ap (number_at N) e ∙ number_here ∙ start (sym e))
            (place_by 0 n (omega arith));
        entries = λ i p lt at no. ⊎_elim
            (λ (less : i < n). l.kept_same i less ∙ are.entries i p less at no)
            (λ (e : i ≡ n). ap (marked K) e ∙ kept_here
            ∙ (placed.entry (ap (λ (x : Op). joins x.kind) (same_op p (ap (slice_get g.operations) (sym e) ∙ at)) ∙ no)).0)
            (place_by i n lt);
        joined = λ i p lt at out. ⊎_elim
            (λ (less : i < n). joined_later g n kept numbers K N i p l less at (are.joined i p less at (sym (l.kept_same i less) ∙ out)))
            (λ (e : i ≡ n).
            let unkept : b ≡ false = sym kept_here ∙ ap (marked K) (sym e) ∙ out in
            let found = placed.joined unkept in
            let first = so.entries_are.sound found.place (done_by numbers op) v found.there in
            let here = joined_here g n kept numbers K N op v l there number_here (join_unkept unkept) first in
            subst (λ x. JoinedTo (sharing K N) g i x) (same_op p (ap (slice_get g.operations) (sym e) ∙ at))
            (subst (λ j. JoinedTo (sharing K N) g j op) (sym e) here))
            (place_by i n lt);
        differ = λ i j p q less lt first second kept_i kept_j join same. ⊎_elim
            (λ (before : j < n).
            let i_before : i < n = omega (arith, less, before) in
            are.differ i j p q less before first second (sym (l.kept_same i i_before) ∙ kept_i) (sym (l.kept_same j before) ∙ kept_j) join
            (sym (ap work (l.moved_same i p (omega (arith, i_before)) first)) ∙ same ∙ ap work (l.moved_same j q (omega (arith, before)) second)))
            (λ (e : j ≡ n).
            let i_before : i < n = omega (arith, less, e) in
            let kept_now : b ≡ true = sym kept_here ∙ ap (marked K) (sym e) ∙ kept_j in
            let is : op ≡ q = same_op q (ap (slice_get g.operations) (sym e) ∙ second) in
            let join_op : joins op.kind ≡ true = ap (λ (x : Op). joins x.kind) is ∙ join in
            let join_p : joins p.kind ≡ true = ap joins (kind_work K N p q same) ∙ join in
            let old : work (moved (sharing kept numbers) p) ≡ work (moved (sharing kept numbers) op) =
            sym (ap work (l.moved_same i p (omega (arith, i_before)) first)) ∙ same ∙ ap (λ x. work (moved (sharing K N) x)) (sym is)
            ∙ ap work (l.moved_same n op (omega arith) there) in
            let entry = so.entries_are.complete i p i_before first (sym (l.kept_same i i_before) ∙ kept_i) join_p in
            (placed.first kept_now join_op).new entry.0 (number_at numbers i)
            (entry.1 ∙ ap (λ w. Some (w, number_at numbers i)) (same_done kept numbers p op join_p join_op old)))
            (place_by j n lt);
      };
      entries_are = firsts_by b refl;
      many = counted ∙ ap (λ m. cond b (suc m) m) so.many ∙ sym (ap (λ c. cond c (suc (below (marked kept) n)) (below (marked kept) n)) kept_here)
          ∙ sym (ap (λ m. cond (marked K n) (suc m) m) below_here) ∙ ap (below (marked K)) (let next : suc n ≡ n + 1 = omega arith in next);
    }
  where
    are : AreJoined g n kept numbers
    are = so.are

    l : Longer g n kept numbers (kept ++ b ∷ []) (numbers ++ v ∷ [])
    l = longer entries g graph n kept numbers b v are.many_kept are.many_numbers (starts g n kept numbers firsts after count v b op so placed)

    kept_at_end : marked (kept ++ b ∷ []) n ≡ b
    kept_at_end = ap (marked (kept ++ b ∷ [])) (sym are.many_kept) ∙ at_end false kept b

    number_at_end : number_at (numbers ++ v ∷ []) n ≡ v
    number_at_end = ap (number_at (numbers ++ v ∷ [])) (sym are.many_numbers) ∙ at_end 0 numbers v

    old_first : after ≡ firsts → (b ≡ true → joins op.kind ≡ false) → FirstsAre g (n + 1) (kept ++ b ∷ []) (numbers ++ v ∷ []) after
    old_first same none = record {
      sound = λ p w x at. first_later g n kept numbers (kept ++ b ∷ []) (numbers ++ v ∷ []) w x l
          (so.entries_are.sound p w x (ap (λ f. slice_get f p) (sym same) ∙ at));
      complete = λ i p lt at is join. ⊎_elim
          (λ (less : i < n).
          let entry = so.entries_are.complete i p less at (sym (l.kept_same i less) ∙ is) join in (
            entry.0,
            ap (λ f. slice_get f entry.0) same ∙ entry.1 ∙ ap (λ w. Some (w, number_at numbers i)) (sym (l.done_same i p (omega (arith, less)) at))
                ∙ ap (λ x. Some (done_by (numbers ++ v ∷ []) p, x)) (sym (l.number_same i less)),
          ))
          (λ (e : i ≡ n).
          let kept_now : b ≡ true = sym kept_at_end ∙ ap (marked (kept ++ b ∷ [])) (sym e) ∙ is in
          let here : op ≡ p = some_is (sym there ∙ ap (slice_get g.operations) (sym e) ∙ at) in
          absurd (contrary (none kept_now) (ap (λ (x : Op). joins x.kind) here ∙ join)))
          (place_by i n lt);
    }

    new_first : b ≡ true → joins op.kind ≡ true → IsEntered firsts after (done_by numbers op) count
        → FirstsAre g (n + 1) (kept ++ b ∷ []) (numbers ++ v ∷ []) after
    new_first kept_now join entered = record {
      sound = λ p w x at. ⊎_elim
          (λ (old : slice_get firsts p ≡ Some (w, x)). first_later g n kept numbers (kept ++ b ∷ []) (numbers ++ v ∷ []) w x l (so.entries_are.sound p w x old))
          (λ (e : (w, x) ≡ (done_by numbers op, count)). record {
            place = n;
            earlier = omega arith;
            op = op;
            there = there;
            is_kept = kept_at_end ∙ kept_now;
            join = join;
            does = l.done_same n op (omega arith) there ∙ sym (ap (λ (y : Work × ℕ). y.0) e);
            number = number_at_end ∙ placed.kept kept_now ∙ sym (ap (λ (y : Work × ℕ). y.1) e);
          })
          (get_pushed firsts p (done_by numbers op, count) (w, x) (ap (λ f. slice_get f p) (sym entered.entered) ∙ at));
      complete = λ i p lt at is join_p. ⊎_elim
          (λ (less : i < n).
          let entry = so.entries_are.complete i p less at (sym (l.kept_same i less) ∙ is) join_p in (
            entry.0,
            ap (λ f. slice_get f entry.0) entered.entered
                ∙ get_longer firsts ((done_by numbers op, count) ∷ []) entry.0 (done_by numbers p, number_at numbers i) entry.1
                ∙ ap (λ w. Some (w, number_at numbers i)) (sym (l.done_same i p (omega (arith, less)) at))
                ∙ ap (λ x. Some (done_by (numbers ++ v ∷ []) p, x)) (sym (l.number_same i less)),
          ))
          (λ (e : i ≡ n).
          let here : op ≡ p = some_is (sym there ∙ ap (slice_get g.operations) (sym e) ∙ at) in (
            length firsts,
            ap (λ f. slice_get f (length firsts)) entered.entered ∙ get_last firsts (done_by numbers op, count)
                ∙ ap (λ w. Some (w, count)) (sym (l.done_same n op (omega arith) there) ∙ ap (done_by (numbers ++ v ∷ [])) here)
                ∙ ap (λ x. Some (done_by (numbers ++ v ∷ []) p, x)) (sym (ap (number_at (numbers ++ v ∷ [])) e ∙ number_at_end ∙ placed.kept kept_now)),
          ))
          (place_by i n lt);
    }

    firsts_by : (c : Bool) → b ≡ c → FirstsAre g (n + 1) (kept ++ b ∷ []) (numbers ++ v ∷ []) after
    firsts_by true is = ⊎_elim
        (λ (join : joins op.kind ≡ true). new_first is join (placed.first is join))
        (λ (no : joins op.kind ≡ false). old_first (placed.entry no).1 (λ yes. no))
        (truth (joins op.kind))
    firsts_by false is = old_first (placed.joined is).same (λ yes. absurd (contrary is yes))

-- before the first
pub none_placed : (g : Lists) (firsts : List (Work × ℕ)) → firsts ≡ [] → SoFar g 0 [] [] firsts 0
none_placed g firsts none = record {
  are = record {
    many_kept = refl;
    many_numbers = refl;
    kept_number = λ i is. absurd (no_mark is);
    first_number = refl;
    entries = λ i op lt at no. absurd (omega (arith, lt));
    joined = λ i op lt at out. absurd (omega (arith, lt));
    differ = λ i j p q less lt first second kept_i kept_j join same. absurd (omega (arith, lt));
  };
  entries_are = record {
    sound = λ p w v at. absurd (nothing_there p (w, v) (sym (ap (λ (f : List (Work × ℕ)). slice_get f p) none) ∙ at));
    complete = λ i op lt at is join. absurd (omega (arith, lt));
  };
  many = refl;
}
  where
    no_mark : false ≡ true → ⊥
    no_mark e = absurd cc

    nothing_there : (p : ℕ) (x : Work × ℕ) → slice_get [] p ≡ Some x → ⊥
    nothing_there p x e = absurd cc

-- the same of tables that are known by an equation
pub so_far_by : (g : Lists) (n : ℕ) (more_kept : List Bool) (more_numbers : List ℕ) (kept : List Bool) (numbers : List ℕ) (firsts : List (Work × ℕ)) (count : ℕ)
    →
    kept ≡ more_kept → numbers ≡ more_numbers → SoFar g n more_kept more_numbers firsts count → SoFar g n kept numbers firsts count
so_far_by g n more_kept more_numbers kept numbers firsts count is_kept is_numbers so =
    subst (λ k. SoFar g n k numbers firsts count) (sym is_kept) (subst (λ m. SoFar g n more_kept m firsts count) (sym is_numbers) so)
