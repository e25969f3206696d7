-- Steps: what a loop over the operations keeps.
use Rattle.std.proofs.Common.{false, ◌≤◌, Option, None, ◌≡◌, ◌≢◌, ℕ, zero, suc, ◌<◌, ℤ, pos, true, List, [], ◌∷◌, ◌++◌, length, take, slice_get, Some, Ok, Err, refl, sym, subst, length-take-le, get_or-take, take-take, arith}
use Rattle.std.proofs.lemmas.Option.{slice_get_within}
use Rattle.vcp_base.specs.declared.kind.StopKind.{StopKind}
use Rattle.vcp_base.specs.declared.kind.StopKind.TheVariants as stop
use Rattle.std.proofs.lemmas.Bool.{eqb-true}
use Rattle.vcp_base.specs.declared.ty.Ty.{Ty}
use Rattle.vcp_base.specs.Types.{within}
use Rattle.vcp_base.specs.Values.{at}
use Rattle.op_graph.specs.declared.op.Op.{Op}
use Rattle.op_graph.specs.Lists.{Lists}
use Rattle.op_graph.specs.Laws.{EntryLaws, ReadLaws}
use Rattle.op_graph.specs.Reads.{Linked, OperandThere}
use Rattle.op_graph.specs.Rules.{IsGraph, scope, place_of, operand_fits, OpFits, Operates}
use Rattle.op_graph.specs.GraphRun.{outcome_of}
use Rattle.vcp_base.specs.declared.kind.Kind.{Kind}
use Rattle.vcp_base.specs.declared.kind.Kind.TheVariants as kind
use Rattle.std.specs.Prelude.{unsigned_abs}
use Rattle.range_walk.specs.declared.range.Range.{Range}
use Rattle.range_walk.specs.declared.range.Stops.{Stops}
use Rattle.range_walk.specs.declared.told.Told.{Told}
use Rattle.range_walk.specs.Known.{is_named, may_stop, can_stop_so}
use Rattle.range_walk.specs.Intervals.{IsIn, LiesIn, Fit, Hold, RowIn}
use Rattle.range_walk.specs.Walking.{Given, OwnFits, Tells, TellsAt, OperandIs, OperandsAre, IsWalk}
use Rattle.range_walk.proofs.Allowed.{named_able}

pub get_there : {X : Type 0} (xs : List X) (i : ℕ) → i < length xs → (x : X) × (slice_get xs i ≡ Some x)
get_there [] i lt = absurd (omega arith)
get_there (x ∷ xs) zero lt = (x, refl)
get_there (x ∷ xs) (suc i) lt = get_there xs i (omega arith)

-- what holds at each place of a list
abbrev pub Each : {X : Type 0} → (ℕ → X → Type 0) → List X → Type 0
Each {X = X} P xs = (k : ℕ) (x : X) → slice_get xs k ≡ Some x → P k x

each_more : {X : Type 0} (P : ℕ → X → Type 0) (xs : List X) (x : X) → Each P xs → P (length xs) x → Each P (xs ++ x ∷ [])
each_more P [] x each last zero y there = let same : x ≡ y = cc in subst (λ z. P 0 z) same last
each_more P [] x each last (suc k) y there = absurd cc
each_more P (z ∷ xs) x each last zero y there = each zero y there
each_more P (z ∷ xs) x each last (suc k) y there = each_more (λ j. P (suc j)) xs x (λ j. each (suc j)) last k y there

pub each_none : {X : Type 0} (P : ℕ → X → Type 0) (xs : List X) → xs ≡ [] → Each P xs
each_none P [] e k x there = absurd cc
each_none P (y ∷ xs) e k x there = absurd cc

-- of one more item
pub each_push : {X : Type 0} (P : ℕ → X → Type 0) (xs ys : List X) (x : X) (i : ℕ) → ys ≡ xs ++ x ∷ [] → length xs ≡ i → Each P xs → P i x → Each P ys
each_push P xs ys x i e many each here = subst (λ zs. Each P zs) (sym e) (each_more P xs x each (subst (λ n. P n x) (sym many) here))

operand_is : (before : List Op) (stores : List ℕ) (cells : ℕ) (k : Kind) (imm : ℤ) (n : ℕ) → length stores ≡ cells → OperandThere before stores k imm n
    → OperandIs cells (length before) k imm n
operand_is before stores cells kind.Load imm n many there = let lt = slice_get_within stores (unsigned_abs imm) there.0 there.1 in omega (arith, lt)
operand_is before stores cells _ imm n many there = there

found_below : (before : List Op) (n : ℕ) (t : Ty) (o : Option Op) → slice_get before n ≡ o → elim o [ None ↦ false | Some op ↦ within op.ty t ] ≡ true
    → n ≤ length before
found_below before n t None e h = absurd cc
found_below before n t (Some op) e h = let lt = slice_get_within before n op e in omega arith

operand_below : (before : List Op) (o : Option Ty) (n : ℕ) → operand_fits before o n ≡ true → n ≤ length before
operand_below before None n h = omega (arith, eqb-true n 0 h)
operand_below before (Some t) n h = found_below before n t (slice_get before n) refl h

module _ (g : Lists) (i : ℕ) (op : Op) (entries : EntryLaws) (graph : IsGraph g) (there : slice_get g.operations i ≡ Some op) where
  front : length (take i g.operations) ≡ i
  front = let lt = slice_get_within g.operations i op there in length-take-le i g.operations (omega arith)

  rules : OpFits (place_of (scope g) i) (length g.turn_nodes) (take i g.operations) op
  rules = entries.operation g i op graph.part there

  pub operands_are : (cells : ℕ) → ReadLaws → length g.stores ≡ cells → OperandsAre cells i op
  operands_are cells reads many =
      let operates : Operates (scope g) (length g.turn_nodes) (take i g.operations) op =
      subst (λ j. OpFits (place_of (scope g) j) (length g.turn_nodes) (take i g.operations) op) (sym front) rules in
      let linked : Linked g.stores (take i g.operations) op = reads.linked g (length g.turn_nodes) (take i g.operations) op graph operates in
      subst (λ j. OperandsAre cells j op) front (record {
        first = λ h. operand_is (take i g.operations) g.stores cells op.kind op.imm op.a many (linked.first h);
        second = λ h. operand_is (take i g.operations) g.stores cells op.kind op.imm op.b many (linked.second h);
        third = λ h. operand_is (take i g.operations) g.stores cells op.kind op.imm op.c many (linked.third h);
      })

  -- an operand is an earlier operation or 0
  pub operands_below : (op.a ≤ i) × (op.b ≤ i) × (op.c ≤ i)
  operands_below =
      let a = operand_below (take i g.operations) _ op.a rules.a in
      let b = operand_below (take i g.operations) _ op.b rules.b in
      let c = operand_below (take i g.operations) _ op.c rules.c in
      let many = front in
      (omega arith, omega arith, omega arith)

-- operation k is in the range
abbrev pub FitsAt : List Op → List Range → List Range → ℕ → Range → Type 0
FitsAt ops cells inputs k r = (held row vs : List ℤ) → Hold cells held → RowIn inputs row → Given ops held row vs → k < length vs → IsIn r (at vs k)

-- operation k stops only as it is named
abbrev pub NamesAt : List Op → List Range → List Range → ℕ → Stops → Type 0
NamesAt ops cells inputs k s = (held row vs : List ℤ) (op : Op) (why : StopKind) → Hold cells held → RowIn inputs row → Given ops held row vs → length vs ≡ k
    → slice_get ops k ≡ Some op → OwnFits row op → why ≢ stop.Operand → outcome_of held row vs op ≡ Err why → may_stop why s ≡ true

-- operation k may stop only so as its kind and types allow
abbrev pub AbleAt : List Op → ℕ → Stops → Type 0
AbleAt ops k s = (op : Op) (why : StopKind) → slice_get ops k ≡ Some op → may_stop why s ≡ true → can_stop_so why op ≡ true

-- the range of operation k lies within its type
abbrev pub LiesAt : List Op → ℕ → Range → Type 0
LiesAt ops k r = (op : Op) → slice_get ops k ≡ Some op → LiesIn op.ty r

pub fit_front : (known : List Range) (vs : List ℤ) (i : ℕ) → i < length vs → Fit known vs → Fit known (take i vs)
fit_front known vs i lt fit = λ k r below there.
    let count : length (take i vs) ≡ i = length-take-le i vs (omega arith) in
    let first : k < i = omega arith in
    subst (λ v. IsIn r v) (sym (get_or-take i vs k (pos 0) first)) (fit k r (omega arith) there)

pub given_front : (ops : List Op) (held row vs : List ℤ) (i : ℕ) → i < length vs → Given ops held row vs → Given ops held row (take i vs)
given_front ops held row vs i lt given =
    let few = given.few in
    let count : length (take i vs) ≡ i = length-take-le i vs (omega arith) in
    record {
      few = omega arith;
      each = λ j op below there.
          let first : j < i = omega arith in
          subst (λ ws. outcome_of held row ws op ≡ Ok (at (take i vs) j)) (sym (take-take j i vs (omega arith)))
          (subst (λ w. outcome_of held row (take j vs) op ≡ Ok w) (sym (get_or-take i vs j (pos 0) first)) (given.each j op (omega arith) there));
    }

pub fits_here : (ops : List Op) (cells inputs known : List Range) (i : ℕ) (t : Told) → i < length ops → TellsAt ops cells inputs known i t
    → Each (FitsAt ops cells inputs) known → FitsAt ops cells inputs i t.range
fits_here ops cells inputs known i t within tells fits = λ held row vs hold inside given lt.
    let op = get_there ops i within in
    let fit : Fit known vs = λ k r below there. fits k r there held row vs hold inside given below in
    let told : Tells held row (take i vs) op.0 t =
    tells held row (take i vs) op.0 op.1 hold inside (given_front ops held row vs i lt given) (fit_front known vs i lt fit)
    (length-take-le i vs (omega arith)) in
    told.value (at vs i) (given.each i op.0 lt op.1)

pub names_here : (ops : List Op) (cells inputs known : List Range) (i : ℕ) (t : Told) → TellsAt ops cells inputs known i t
    → Each (FitsAt ops cells inputs) known → NamesAt ops cells inputs i t.stops
names_here ops cells inputs known i t tells fits = λ held row vs op why hold inside given place there own no e.
    let told : Tells held row vs op t =
    tells held row vs op there hold inside given (λ k r below is. fits k r is held row vs hold inside given below) place in
    told.stop why own no e

pub whole_walk : (ops : List Op) (cells inputs known : List Range) (stops : List Stops) → length known ≡ length ops → length stops ≡ length ops
    → Each (FitsAt ops cells inputs) known → Each (NamesAt ops cells inputs) stops → Each (AbleAt ops) stops → Each (LiesAt ops) known
    → IsWalk ops cells inputs (record { known = known; stops = stops })
whole_walk ops cells inputs known stops known_many stops_many fits names able lie = record {
  known_many = known_many;
  stops_many = stops_many;
  fits = λ held row vs hold inside given k r below there. fits k r there held row vs hold inside given below;
  names = λ held row vs op why hold inside given there own no e.
      let lt = slice_get_within ops (length vs) op there in
      let s = get_there stops (length vs) (omega (arith, lt)) in
      subst (λ o. is_named why o ≡ true) (sym s.1) (names (length vs) s.0 s.1 held row vs op why hold inside given refl there own no e);
  able = λ i op why there named. named_able op why (slice_get stops i) (λ s is may. able i s is op why there may) named;
  types = λ i op r there is. lie i r is op there;
}
