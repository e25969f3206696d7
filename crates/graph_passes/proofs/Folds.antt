-- Folds: a folded graph has the same run.
use Rattle.std.proofs.Common.{◌≡◌, ℕ, zero, suc, ◌+◌, ◌<◌, ℤ, pos, Bool, true, false, cond, List, [], ◌∷◌, ◌++◌, length, take, slice_get, Option, Some, None}
use Rattle.std.proofs.Common.{Ok, Err, inl, inr, refl, sym, ap, subst, ◌∙◌, arith, nat_lt, append_assoc}
use Rattle.std.proofs.lemmas.Bool.{cases_lt}
use Rattle.std.proofs.lemmas.List.{length_push, append-nil}
use Rattle.std.proofs.lemmas.Option.{slice_get_within}
use Rattle.vcp_base.specs.declared.ty.Ty.{Ty}
use Rattle.vcp_base.specs.declared.kind.Kind.{Kind}
use Rattle.vcp_base.specs.declared.kind.Kind.TheVariants as kind
use Rattle.vcp_base.specs.declared.kind.StopKind.{StopKind}
use Rattle.vcp_base.specs.declared.kind.StopKind.TheVariants as stop
use Rattle.vcp_base.specs.Values.{at}
use Rattle.vcp_base.specs.Types.{fits}
use Rattle.vcp_base.specs.Kinds.{operands, operands_fit, divides_by_zero, value, Outcome, outcome}
use Rattle.op_graph.specs.declared.op.Op.{Op}
use Rattle.op_graph.specs.Lists.{Lists}
use Rattle.op_graph.specs.GraphRun.{own, read, operand, outcome_of, Cycle, after, cycle_from, cycle, run_from, initial, stored, after_cycle}
use Rattle.graph_passes.specs.Folding.{computes, number_of, constant, fixed_operand, value_unless_stop, applied, fixed_value, const_for, replaced, folded_op}
use Rattle.graph_passes.specs.Folding.{folded_after, folded}
use Rattle.graph_passes.specs.SameRun.{SamePlace, MeansAs}
use Rattle.graph_passes.proofs.Chosen.{at_push, at_last}
use Rattle.graph_passes.proofs.Renumbering.{SameFrom, after_same}

-- ---- outcomes

-- an outcome that is a value is in the type, and is what the kind gives
pub record Gives (to : Ty) (v w : ℤ) : Type 0 where
  pub fit : fits to w ≡ true
  pub is : w ≡ v

gives_by : (to : Ty) (a b c : Bool) (v w : ℤ) → c ≡ fits to v →
    cond a (cond b (Err stop.DivZero) (cond c (Ok v) (Err stop.Range))) (Err stop.Operand) ≡ Ok w → Gives to v w
gives_by to false b c v w e h = absurd cc
gives_by to true true c v w e h = absurd cc
gives_by to true false false v w e h = absurd cc
gives_by to true false true v w e h = let same : v ≡ w = cc in record { fit = subst (λ x. fits to x ≡ true) same (sym e); is = sym same }

pub outcome_gives : (k : Kind) (from to : Ty) (imm a b c w : ℤ) → outcome k from to imm a b c ≡ Ok w → Gives to (value k imm a b c) w
outcome_gives k from to imm a b c w h = gives_by to (operands_fit k from a b c) (divides_by_zero k b) (fits to (value k imm a b c)) (value k imm a b c) w refl h

const_by : (b : Bool) (v : ℤ) → b ≡ true → cond b (Ok v) (Err stop.Range) ≡ (let x : Outcome = Ok v in x)
const_by true v h = refl
const_by false v h = absurd cc

-- the CONST of a value of its type gives it
const_gives : (cells row values : List ℤ) (op : Op) (v : ℤ) → fits op.ty v ≡ true → outcome_of cells row values (const_for op v) ≡ Ok v
const_gives cells row values op v h = const_by (fits op.ty v) v h

-- what a CONST gives is its number
number_given : (cells row values : List ℤ) (k : Kind) (from to : Ty) (imm x y z v w : ℤ) → number_of k imm ≡ Some v →
    outcome k from to (own row k imm) x y z ≡ Ok w → w ≡ v
number_given cells row values kind.Const from to imm x y z v w is gives = let same : imm ≡ v = cc in
    (outcome_gives kind.Const from to imm x y z w gives).is ∙ same
number_given cells row values _ from to imm x y z v w is gives = absurd cc

-- ---- operands

-- the values are those of the CONSTs among these operations
record Fixed (done : List Op) (values : List ℤ) : Type 0 where
  whole : length values ≡ length done
  consts : (k : ℕ) (v : ℤ) → constant (slice_get done k) ≡ Some v → at values k ≡ v

read_plain : (cells values : List ℤ) (k : Kind) (imm : ℤ) (n : ℕ) → computes k ≡ true → read cells values k imm n ≡ at values n
read_plain cells values kind.Input imm n h = absurd cc
read_plain cells values kind.Const imm n h = absurd cc
read_plain cells values kind.Load imm n h = absurd cc
read_plain cells values kind.Store imm n h = absurd cc
read_plain cells values kind.Out imm n h = absurd cc
read_plain cells values _ imm n h = refl

own_plain : (row : List ℤ) (k : Kind) (imm : ℤ) → computes k ≡ true → own row k imm ≡ imm
own_plain row kind.Input imm h = absurd cc
own_plain row _ imm h = refl

operand_by : (b : Bool) (done : List Op) (values : List ℤ) (f : Fixed done values) (n : ℕ) (x v : ℤ) → x ≡ at values n →
    cond b (constant (slice_get done n)) (Some (pos 0)) ≡ Some v → cond b x (pos 0) ≡ v
operand_by true done values f n x v e h = e ∙ f.consts n v h
operand_by false done values f n x v e h = cc

operand_fixed : (cells : List ℤ) (done : List Op) (values : List ℤ) (f : Fixed done values) (op : Op) (j n : ℕ) (v : ℤ) → computes op.kind ≡ true →
    fixed_operand done op.kind j n ≡ Some v → operand cells values op j n ≡ v
operand_fixed cells done values f op j n v plain h = operand_by (nat_lt j (operands op.kind)) done values f n (read cells values op.kind op.imm n) v
    (read_plain cells values op.kind op.imm n plain) h

-- ---- one operation

pub record Applied (f : ℤ → ℤ → ℤ → Outcome) (x y z : Option ℤ) (v : ℤ) : Type 0 where
  pub a : ℤ
  pub b : ℤ
  pub c : ℤ
  pub first : x ≡ Some a
  pub second : y ≡ Some b
  pub third : z ≡ Some c
  pub gives : f a b c ≡ Ok v

value_is : (o : Outcome) (v : ℤ) → value_unless_stop o ≡ Some v → o ≡ Ok v
value_is (Ok w) v h = let same : w ≡ v = cc in ap Ok same
value_is (Err why) v h = absurd cc

applied_is : (f : ℤ → ℤ → ℤ → Outcome) (x y z : Option ℤ) (v : ℤ) → applied f x y z ≡ Some v → Applied f x y z v
applied_is f (Some a) (Some b) (Some c) v h = record { a = a; b = b; c = c; first = refl; second = refl; third = refl; gives = value_is (f a b c) v h }
applied_is f (Some a) (Some b) None v h = absurd cc
applied_is f (Some a) None z v h = absurd cc
applied_is f None y z v h = absurd cc

-- what has a fixed value is an operation that computes, over fixed operands
pub record HasValue (done : List Op) (op : Op) (v : ℤ) : Type 0 where
  pub plain : computes op.kind ≡ true
  pub over : Applied (outcome op.kind op.from op.ty op.imm) (fixed_operand done op.kind 0 op.a) (fixed_operand done op.kind 1 op.b)
      (fixed_operand done op.kind 2 op.c) v

has_value_by : (done : List Op) (op : Op) (v : ℤ) (b : Bool) → computes op.kind ≡ b →
    cond b (applied (outcome op.kind op.from op.ty op.imm) (fixed_operand done op.kind 0 op.a) (fixed_operand done op.kind 1 op.b)
    (fixed_operand done op.kind 2 op.c)) None ≡ Some v → HasValue done op v
has_value_by done op v true e h = record {
  plain = e;
  over = applied_is (outcome op.kind op.from op.ty op.imm) (fixed_operand done op.kind 0 op.a)
      (fixed_operand done op.kind 1 op.b) (fixed_operand done op.kind 2 op.c) v h;
}
has_value_by done op v false e h = absurd cc

pub has_value : (done : List Op) (op : Op) (v : ℤ) → fixed_value done op ≡ Some v → HasValue done op v
has_value done op v h = has_value_by done op v (computes op.kind) refl h

-- a fixed value is in the type of the operation
pub fixed_fits : (done : List Op) (op : Op) (v : ℤ) → fixed_value done op ≡ Some v → fits op.ty v ≡ true
fixed_fits done op v h = let o = (has_value done op v h).over in (outcome_gives op.kind op.from op.ty op.imm o.a o.b o.c v o.gives).fit

fixed_gives : (cells row : List ℤ) (done : List Op) (values : List ℤ) (f : Fixed done values) (op : Op) (v : ℤ) → fixed_value done op ≡ Some v →
    outcome_of cells row values op ≡ Ok v
fixed_gives cells row done values f op v h =
    let has = has_value done op v h in
    let o = has.over in
    let first : operand cells values op 0 op.a ≡ o.a = operand_fixed cells done values f op 0 op.a o.a has.plain o.first in
    let second : operand cells values op 1 op.b ≡ o.b = operand_fixed cells done values f op 1 op.b o.b has.plain o.second in
    let third : operand cells values op 2 op.c ≡ o.c = operand_fixed cells done values f op 2 op.c o.c has.plain o.third in
    ap (λ i. outcome op.kind op.from op.ty i (operand cells values op 0 op.a) (operand cells values op 1 op.b) (operand cells values op 2 op.c))
    (own_plain row op.kind op.imm has.plain)
    ∙ ap (λ x. outcome op.kind op.from op.ty op.imm x (operand cells values op 1 op.b) (operand cells values op 2 op.c)) first
    ∙ ap (λ x. outcome op.kind op.from op.ty op.imm o.a x (operand cells values op 2 op.c)) second
    ∙ ap (λ x. outcome op.kind op.from op.ty op.imm o.a o.b x) third
    ∙ o.gives

replaced_gives : (cells row : List ℤ) (done : List Op) (values : List ℤ) (f : Fixed done values) (op : Op) (o : Option ℤ) → fixed_value done op ≡ o →
    outcome_of cells row values (replaced op o) ≡ outcome_of cells row values op
replaced_gives cells row done values f op None h = refl
replaced_gives cells row done values f op (Some v) h = const_gives cells row values op v (fixed_fits done op v h)
    ∙ sym (fixed_gives cells row done values f op v h)

-- a folded operation gives what the operation gave
folded_gives : (cells row : List ℤ) (done : List Op) (values : List ℤ) (f : Fixed done values) (op : Op) →
    outcome_of cells row values (folded_op done op) ≡ outcome_of cells row values op
folded_gives cells row done values f op = replaced_gives cells row done values f op (fixed_value done op) refl

-- ---- one cycle

get_push : {X : Type 0} (xs : List X) (y : X) (i : ℕ) → i < length xs → slice_get (xs ++ y ∷ []) i ≡ slice_get xs i
get_push [] y i lt = absurd (omega arith)
get_push (x ∷ xs) y zero lt = refl
get_push (x ∷ xs) y (suc i) lt = get_push xs y i (omega arith)

get_last : {X : Type 0} (xs : List X) (y : X) → slice_get (xs ++ y ∷ []) (length xs) ≡ Some y
get_last [] y = refl
get_last (x ∷ xs) y = get_last xs y

constant_there : (o : Option Op) (v : ℤ) → constant o ≡ Some v → (op : Op) × (o ≡ Some op)
constant_there None v h = absurd cc
constant_there (Some op) v h = (op, refl)

fixed_push : (cells row : List ℤ) (done : List Op) (values : List ℤ) (f : Fixed done values) (op : Op) (w : ℤ) → outcome_of cells row values op ≡ Ok w →
    Fixed (done ++ op ∷ []) (values ++ w ∷ [])
fixed_push cells row done values f op w gives = record {
  whole = let a = length_push values w in let b = length_push done op in let e = f.whole in omega (arith, a, b, e);
  consts = λ k v h.
      let there = constant_there (slice_get (done ++ op ∷ []) k) v h in
      let within = slice_get_within (done ++ op ∷ []) k there.0 there.1 in
      elim (cases_lt k (length done)) [
        | inl less ↦ at_push values w k (let e = f.whole in omega (arith, less, e))
            ∙ f.consts k v (subst (λ o. constant o ≡ Some v) (get_push done op k less) h)
        | inr past ↦
            let b = length_push done op in
            let is : k ≡ length done = omega (arith, past, within, b) in
            let last : slice_get (done ++ op ∷ []) k ≡ Some op = ap (slice_get (done ++ op ∷ [])) is ∙ get_last done op in
            let number : number_of op.kind op.imm ≡ Some v = subst (λ o. constant o ≡ Some v) last h in
            let value_at : at (values ++ w ∷ []) k ≡ w = ap (at (values ++ w ∷ [])) (is ∙ sym f.whole) ∙ at_last values w in
            value_at ∙ number_given cells row values op.kind op.from op.ty op.imm (operand cells values op 0 op.a) (operand cells values op 1 op.b)
            (operand cells values op 2 op.c) v w number gives
      ];
}

-- the cycle of the folded operations is that of the operations, and where it stops both stand for one place
record FoldedCycle (all folds : List Op) (c d : Cycle) : Type 0 where
  same : c ≡ d
  halted : (why : StopKind) → c.stop ≡ Some why → SamePlace (slice_get all (length c.values)) (slice_get folds (length c.values))

after_folded : (all folds : List Op) (values : List ℤ) (next follow : ℤ → Cycle) (o p : Outcome) → p ≡ o → ((v : ℤ) → o ≡ Ok v →
    FoldedCycle all folds (next v) (follow v)) → SamePlace (slice_get all (length values)) (slice_get folds (length values)) →
    FoldedCycle all folds (after values next o) (after values follow p)
after_folded all folds values next follow (Ok v) p e rest place =
    let r = rest v refl in
    subst (λ x. FoldedCycle all folds (next v) (after values follow x)) (sym e) r
after_folded all folds values next follow (Err why) p e rest place =
    let stopped : Cycle = record { values = values; stop = Some why } in
    let here : FoldedCycle all folds stopped stopped = record { same = refl; halted = λ w f. place } in
    subst (λ x. FoldedCycle all folds stopped (after values follow x)) (sym e) here

place_kept : (op : Op) (o : Option ℤ) → SamePlace (Some op) (Some (replaced op o))
place_kept op None = (refl, refl)
place_kept op (Some v) = (refl, refl)

same_place : (all folds : List Op) (i : ℕ) (op : Op) (o : Option ℤ) → slice_get all i ≡ Some op → slice_get folds i ≡ Some (replaced op o) →
    SamePlace (slice_get all i) (slice_get folds i)
same_place all folds i op o there here = subst (λ x. SamePlace x (slice_get folds i)) (sym there) (subst (λ x. SamePlace (Some op) x) (sym here)
    (place_kept op o))

folded_cycle : (all folds : List Op) (cells row : List ℤ) (done : List Op) (values : List ℤ) (rest : List Op) → Fixed done values → ((k : ℕ) →
    slice_get rest k ≡ slice_get all (length done + k)) → ((k : ℕ) → slice_get (folded_after done rest) k ≡ slice_get folds (length done + k)) →
    FoldedCycle all folds (cycle_from cells row values rest) (cycle_from cells row values (folded_after done rest))
folded_cycle all folds cells row done values [] f at_rest at_folds = record { same = refl; halted = λ why e. absurd cc }
folded_cycle all folds cells row done values (op ∷ rest) f at_rest at_folds =
    let o = folded_op done op in
    let here : length done + 0 ≡ length values = let e = f.whole in omega (arith, e) in
    let there : slice_get all (length values) ≡ Some op = ap (slice_get all) (sym here) ∙ sym (at_rest 0) in
    let image : slice_get folds (length values) ≡ Some o = ap (slice_get folds) (sym here) ∙ sym (at_folds 0) in
    let long = length_push done o in
    let step : (k : ℕ) → length done + suc k ≡ length (done ++ o ∷ []) + k = λ k. omega (arith, long) in
    after_folded all folds values (λ v. cycle_from cells row (values ++ v ∷ []) rest) (λ v. cycle_from cells row (values ++ v ∷ []) (folded_after
    (done ++ o ∷ []) rest))
    (outcome_of cells row values op) (outcome_of cells row values o) (folded_gives cells row done values f op)
    (λ v is. folded_cycle all folds cells row (done ++ o ∷ []) (values ++ v ∷ []) rest (fixed_push cells row done values f o v
    (folded_gives cells row done values f op ∙ is)) (λ k. at_rest (suc k) ∙ ap (slice_get all) (step k)) (λ k. at_folds (suc k)
    ∙ ap (slice_get folds) (step k)))
    (same_place all folds (length values) op (fixed_value done op) there image)

-- ---- the run

folded_run : (g : Lists) (cells : List ℤ) (rows : List (List ℤ)) → SameFrom g (folded g) (run_from g cells rows) (run_from (folded g) cells rows)
folded_run g cells [] = record { rows = refl; end = tt }
folded_run g cells (row ∷ rows) =
    let h = folded g in
    let c = cycle g cells row in
    let d = cycle h cells row in
    let nothing : Fixed [] [] = record { whole = refl; consts = λ k v e. absurd cc } in
    let start : (xs : List Op) (k : ℕ) → slice_get xs k ≡ slice_get xs (0 + k) = λ xs k. ap (slice_get xs) (let e : k ≡ 0 + k = omega arith in e) in
    let fold : FoldedCycle g.operations h.operations c d = folded_cycle g.operations h.operations cells row [] [] g.operations nothing (start g.operations)
    (start h.operations) in
    let went : SameFrom g h (after_cycle g c.values (λ kept. run_from g kept rows) c.stop) (after_cycle h c.values (λ kept. run_from h kept rows) c.stop) =
    after_same g h c.values c.values (λ kept. run_from g kept rows) (λ kept. run_from h kept rows) c.stop (λ e. refl) (λ e. folded_run g
    (stored g c.values) rows) fold.halted in
    subst (λ (x : Cycle). SameFrom g h (after_cycle g c.values (λ kept. run_from g kept rows) c.stop) (after_cycle h x.values
    (λ kept. run_from h kept rows) x.stop)) fold.same went

pub length-folded : (done ops : List Op) → length (folded_after done ops) ≡ length ops
length-folded done [] = refl
length-folded done (op ∷ ops) = let e = length-folded (done ++ folded_op done op ∷ []) ops in omega (arith, e)

pub folded_means : (g : Lists) → MeansAs g (folded g)
folded_means g = record {
  profile = refl;
  names = refl;
  inputs = refl;
  columns = refl;
  turn_nodes = refl;
  no_more = let e = length-folded [] g.operations in omega (arith, e);
  runs = λ rows. let r = folded_run g (initial g) rows in record { outputs = r.rows; end = r.end };
}

-- ---- nothing is left to fold

record Place (ops done : List Op) (k : ℕ) (x : Op) : Type 0 where
  op : Op
  is : x ≡ folded_op (done ++ take k (folded_after done ops)) op

placed : (done ops : List Op) (k : ℕ) (x : Op) → slice_get (folded_after done ops) k ≡ Some x → Place ops done k x
placed done [] k x there = absurd cc
placed done (op ∷ ops) zero x there = record { op = op; is = let e : folded_op done op ≡ x = cc in sym e ∙ ap (λ b. folded_op b op) (sym (append-nil done)) }
placed done (op ∷ ops) (suc k) x there =
    let o = folded_op done op in
    let p = placed (done ++ o ∷ []) ops k x there in
    record { op = p.op; is = p.is ∙ ap (λ b. folded_op b p.op) (append_assoc done (o ∷ []) (take k (folded_after (done ++ o ∷ []) ops))) }

folds_once : (before : List Op) (op : Op) (o : Option ℤ) → fixed_value before op ≡ o → fixed_value before (replaced op o) ≡ None
folds_once before op None h = h
folds_once before op (Some v) h = refl

pub none_folds : (ops : List Op) (i : ℕ) (x : Op) → slice_get (folded_after [] ops) i ≡ Some x → fixed_value (take i (folded_after [] ops)) x ≡ None
none_folds ops i x there =
    let p = placed [] ops i x there in
    let before = take i (folded_after [] ops) in
    subst (λ y. fixed_value before y ≡ None) (sym p.is) (folds_once before p.op (fixed_value before p.op) refl)

-- the fixed value of an operation over these values of its operands
pub fixed_from : (before : List Op) (op : Op) (a b c : ℤ) → computes op.kind ≡ true → fixed_operand before op.kind 0 op.a ≡ Some a →
    fixed_operand before op.kind 1 op.b ≡ Some b → fixed_operand before op.kind 2 op.c ≡ Some c →
    fixed_value before op ≡ value_unless_stop (outcome op.kind op.from op.ty op.imm a b c)
fixed_from before op a b c plain x y z =
    let f = outcome op.kind op.from op.ty op.imm in
    ap (λ t. cond t (applied f (fixed_operand before op.kind 0 op.a) (fixed_operand before op.kind 1 op.b) (fixed_operand before op.kind 2 op.c)) None) plain
    ∙ ap (λ o. applied f o (fixed_operand before op.kind 1 op.b) (fixed_operand before op.kind 2 op.c)) x
    ∙ ap (λ o. applied f (Some a) o (fixed_operand before op.kind 2 op.c)) y
    ∙ ap (λ o. applied f (Some a) (Some b) o) z
