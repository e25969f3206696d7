-- Steps: what a step gives, and what one gives after another.
use Rattle.std.proofs.Common.{◌≡◌, ◌≢◌, ℕ, zero, suc, ◌+◌, ◌<◌, ◌≤◌, ℤ, pos, Bool, true, false, ◌||◌, cond, List, [], ◌∷◌, ◌++◌, length, slice_get, get_or, Option, Some, None}
use Rattle.std.proofs.Common.{Result, Ok, Err, refl, sym, ap, ◌∙◌, subst, arith, length-append, append_assoc, nat_lt}
use Rattle.std.proofs.lemmas.List.{append-nil}
use Rattle.vcp_base.specs.declared.spot.Spot.{Spot}
use Rattle.vcp_base.specs.declared.ty.Ty.{Ty}
use Rattle.vcp_base.specs.declared.ty.Ty.TheVariants as ty
use Rattle.vcp_base.specs.declared.kind.Kind.{Kind}
use Rattle.vcp_base.specs.declared.kind.StopKind.TheVariants as why
use Rattle.vcp_base.specs.Kinds.{operands}
use Rattle.op_graph.specs.declared.op.Op.{Op}
use Rattle.op_graph.specs.Lists.{turns_of}
use Rattle.op_graph.specs.Rules.{IsPart}
use Rattle.op_graph.specs.Building.{with_op}
use Rattle.vcp_base.specs.Values.{at}
use Rattle.op_graph.specs.GraphRun.{own, operand, read, outcome_of}
use Rattle.vcp_typed.specs.declared.slot.Slot.{Slot}
use Rattle.vcp_typed.specs.Meaning.{Stop, and_then}
use Rattle.flat_expr.specs.State.{State, IsState, IsA, IsPlace, active, KnowsOne, IsNumber, Knows, AreLoaded, exactly, IsValue, Kept, Ends, Follows, Meant}
use Rattle.flat_expr.specs.State.{Computes, Makes, Extends, no_slot, pushed, Pushes, act, acts, is_plain, given, run, op_at}
use Rattle.flat_expr.proofs.Ops.{plain, isa_below, isa_push, isa_last, place_push}
use Rattle.flat_expr.proofs.Runs.{step, run-push, run-push_stops, run-length, no_operand, act_is, Typed, typed, at-front, at-last, kept-trans, active-kept}

-- ---- lists that begin with others

pub extends-self : {X : Type 0} (xs : List X) → Extends xs xs
extends-self xs = ([], sym (append-nil xs))

pub extends-same : {X : Type 0} (xs ys : List X) → ys ≡ xs → Extends xs ys
extends-same xs ys e = ([], e ∙ sym (append-nil xs))

pub extends-trans : {X : Type 0} (xs ys zs : List X) → Extends xs ys → Extends ys zs → Extends xs zs
extends-trans xs ys zs f g = (f.0 ++ g.0, g.1 ∙ ap (λ l. l ++ g.0) f.1 ∙ append_assoc xs f.0 g.0)

-- ---- a state with one more operation

pub push_state : (s : State) (op : Op) → IsState s → IsPart (with_op s.graph op) → IsState (pushed s op)
push_state s op i part = record {
  part = part;
  code = i.code;
  names = i.names;
  few = i.few;
  inits = i.inits;
  long = i.long;
  known = λ slot x e. place_push x.ty s.graph.operations op (get_or s.known slot None) (i.known slot x e);
  variables = i.variables;
  inputs = i.inputs;
  columns = i.columns;
  loads = i.loads;
  held = i.held;
  no_outputs = i.no_outputs;
  no_stores = i.no_stores;
  cells = i.cells;
  path = place_push ty.Bool s.graph.operations op s.path i.path;
  turn = i.turn;
  nought = place_push ty.Int s.graph.operations op s.nought i.nought;
  unit = place_push ty.Int s.graph.operations op s.unit i.unit;
}

pub follows-self : (s : State) → IsState s → Follows s s
follows-self s i = record {
  before = i;
  after = i;
  slots = refl;
  path = refl;
  turn = refl;
  profile = refl;
  turn_nodes = refl;
  inputs = refl;
  outputs = refl;
  stores = refl;
  operations = extends-self s.graph.operations;
  cells = extends-self s.graph.loads;
  places = λ slot k e. e;
  longer = omega arith;
  typed = λ t k h. h;
  loads = λ cells start h. h;
  stops = λ cells row s h. h;
}

pub follows-trans : (a b c : State) → Follows a b → Follows b c → Follows a c
follows-trans a b c f g = record {
  before = f.before;
  after = g.after;
  slots = g.slots ∙ f.slots;
  path = g.path ∙ f.path;
  turn = g.turn ∙ f.turn;
  profile = g.profile ∙ f.profile;
  turn_nodes = g.turn_nodes ∙ f.turn_nodes;
  inputs = g.inputs ∙ f.inputs;
  outputs = g.outputs ∙ f.outputs;
  stores = g.stores ∙ f.stores;
  operations = extends-trans a.graph.operations b.graph.operations c.graph.operations f.operations g.operations;
  cells = extends-trans a.graph.loads b.graph.loads c.graph.loads f.cells g.cells;
  places = λ slot k e. g.places slot k (f.places slot k e);
  longer = omega (arith, f.longer, g.longer);
  typed = λ t k h. g.typed t k (f.typed t k h);
  loads = λ cells start h. f.loads cells start (g.loads cells start h);
  stops = λ cells row s e. g.stops cells row s (f.stops cells row s e);
}

follows-pushed : (s : State) (op : Op) → IsState s → IsState (pushed s op) → Follows s (pushed s op)
follows-pushed s op i j = record {
  before = i;
  after = j;
  slots = refl;
  path = refl;
  turn = refl;
  profile = refl;
  turn_nodes = refl;
  inputs = refl;
  outputs = refl;
  stores = refl;
  operations = (op ∷ [], refl);
  cells = extends-self s.graph.loads;
  places = λ slot k e. e;
  longer = omega (arith, length-append s.graph.operations (op ∷ []));
  typed = λ t k h. isa_push t s.graph.operations op k h;
  loads = λ cells start h. h;
  stops = λ cells row e h. run-push_stops s.graph op cells row e h;
}

-- ---- what is known stays

pub knows_one-kept : (t : Ty) (s : State) (o : Option ℕ) (vs ws : List ℤ) (x y : ℤ) → IsPlace t s.graph.operations o → length vs ≡ length s.graph.operations
    → Kept vs ws → KnowsOne o vs x y → KnowsOne o ws x y
knows_one-kept t s None vs ws x y p e h g = g
knows_one-kept t s (Some k) vs ws x y p e h g = h k (omega (arith, isa_below t s.graph.operations k p)) ∙ g

number-kept : (t : Ty) (s : State) (o : Option ℕ) (n : ℤ) (vs ws : List ℤ) → IsPlace t s.graph.operations o → length vs ≡ length s.graph.operations → Kept vs ws
    → IsNumber o n vs → IsNumber o n ws
number-kept t s None n vs ws p e h g = g
number-kept t s (Some k) n vs ws p e h g = h k (omega (arith, isa_below t s.graph.operations k p)) ∙ g

pub slot_there : (slots : List Slot) (i : ℕ) → i < length slots → (x : Slot) × (slice_get slots i ≡ Some x)
slot_there [] i lt = absurd (omega arith)
slot_there (x ∷ slots) zero lt = (x, refl)
slot_there (x ∷ slots) (suc i) lt = slot_there slots i (omega arith)

-- the same things are known of values that have more operations, where the state knows the same
pub knows-kept : (s : State) (start now vs ws : List ℤ) → IsState s → length vs ≡ length s.graph.operations → Kept vs ws → Knows s start now vs
    → Knows s start now ws
knows-kept s start now vs ws i e h g = record {
  long = g.long;
  each = λ slot lt.
      let x = slot_there s.slots slot lt in
      knows_one-kept x.0.ty s (get_or s.known slot None) vs ws _ _ (i.known slot x.0 x.1) e h (g.each slot lt);
  nought = number-kept ty.Int s s.nought (pos 0) vs ws i.nought e h g.nought;
  unit = number-kept ty.Int s s.unit (pos 1) vs ws i.unit e h g.unit;
}

knows-pushed : (s : State) (op : Op) (start now vs : List ℤ) → Knows s start now vs → Knows (pushed s op) start now vs
knows-pushed s op start now vs g = record { long = g.long; each = g.each; nought = g.nought; unit = g.unit }

-- ---- one operation

-- what is meant, against what an operation gives
abbrev pub Tells : Result (Option ℤ) Stop → Result ℤ Stop → Type 0
Tells (Ok None) (Ok v) = Unit {0}
Tells (Ok (Some x)) (Ok v) = v ≡ x
Tells (Ok o) (Err s) = ⊥
Tells (Err s) (Ok v) = ⊥
Tells (Err s) (Err r) = r ≡ s

pub tells-exactly : (r : Result ℤ Stop) → Tells (exactly r) r
tells-exactly (Ok v) = refl
tells-exactly (Err s) = refl

ends_of : (P : Option ℤ → List ℤ → Type 0) (m : Result (Option ℤ) Stop) (r : Result ℤ Stop) (vs : List ℤ) (all : Result (List ℤ) Stop) → Tells m r
    → all ≡ and_then r (λ v. Ok (vs ++ v ∷ [])) → ((o : Option ℤ) (v : ℤ) → IsValue o v → P o (vs ++ v ∷ [])) → Ends P m all
ends_of P (Ok None) (Ok v) vs all h e f = (vs ++ v ∷ [], e, f None v tt)
ends_of P (Ok (Some x)) (Ok v) vs all h e f = (vs ++ v ∷ [], e, f (Some x) v h)
ends_of P (Ok None) (Err s) vs all h e f = absurd h
ends_of P (Ok (Some x)) (Err s) vs all h e f = absurd h
ends_of P (Err s) (Ok v) vs all h e f = absurd h
ends_of P (Err s) (Err r) vs all h e f = e ∙ ap (λ x. Err x) h

value_at : (o : Option ℤ) (x y : ℤ) → x ≡ y → IsValue o y → IsValue o x
value_at None x y e h = tt
value_at (Some v) x y e h = e ∙ h

-- an operation whose outcome is what is meant
pub made_of : (s : State) (op : Op) (k : ℕ) (m : Meant) → IsState s → IsState (pushed s op) → k ≡ length s.graph.operations →
    ((cells row start now vs : List ℤ) → outcome_of cells row vs op ≢ Err why.Operand → AreLoaded s.graph.loads cells start → Typed s.graph.operations vs
    → Tells (m now vs) (step s.graph.turn_nodes cells row vs op)) →
    Makes s (pushed s op) op.ty 1 m k
made_of s op k m i j place tells = record {
  follows = follows-pushed s op i j;
  unread = λ slot h. refl;
  place = isa_last op.ty s.graph.operations op k place refl;
  count = omega (arith, length-append s.graph.operations (op ∷ []));
  gives = λ cells row start now vs r loaded knows.
      let len = run-length s.graph cells row vs r in
      ends_of _ (m now vs) (step s.graph.turn_nodes cells row vs op) vs (run (with_op s.graph op) cells row)
      (tells cells row start now vs (no_operand s.graph op cells row start vs j.part loaded r) loaded
      (typed s.graph cells row start vs i.part loaded r))
      (run-push s.graph op cells row vs r)
      (λ o v h. (
        at-front vs v,
        knows-pushed s op start now (vs ++ v ∷ []) (knows-kept s start now vs (vs ++ v ∷ []) i len (at-front vs v) knows),
        value_at o (at (vs ++ v ∷ []) k) v (ap (at (vs ++ v ∷ [])) (place ∙ sym len) ∙ at-last vs v) h,
      ));
}

-- the same of a call
pub made : (old new : State) (op : Op) (k : ℕ) (m : Meant) → Pushes old new op k →
    ((cells row start now vs : List ℤ) → outcome_of cells row vs op ≢ Err why.Operand → AreLoaded old.graph.loads cells start → Typed old.graph.operations vs
    → Tells (m now vs) (step old.graph.turn_nodes cells row vs op)) →
    Makes old new op.ty 1 m k
made old new op k m p tells =
    subst (λ x. Makes old x op.ty 1 m k) (sym p.is) (made_of old op k m p.before (subst IsState p.is p.after) p.place tells)

operand_is : (cells vs : List ℤ) (op : Op) (j n : ℕ) → ((cs ws : List ℤ) (imm : ℤ) (m : ℕ) → read cs ws op.kind imm m ≡ at ws m)
    → operand cells vs op j n ≡ given op.kind vs j n
operand_is cells vs op j n h = ap (λ x. cond (nat_lt j (operands op.kind)) x (pos 0)) (h cells vs op.imm n)

-- a plain operation
pub made_plain : (old new : State) (k : Kind) (from to : Ty) (a b c : ℕ) (spot : Spot) (n : ℕ) → is_plain k ≡ true
    → Pushes old new (op_at old k from to a b c (pos 0) spot) n → Makes old new to 1 (acts old k to a b c spot) n
made_plain old new k from to a b c spot n is p =
    let op = op_at old k from to a b c (pos 0) spot in
    let q = plain k is in
    made old new op n (acts old k to a b c spot) p
    (λ cells row start now vs fit loaded types.
    let turns = turns_of old.graph old.turn in
    let e1 = operand_is cells vs op 0 a q.read in
    let e2 = operand_is cells vs op 1 b q.read in
    let e3 = operand_is cells vs op 2 c q.read in
    let e = act_is turns op k from to (own row k (pos 0)) (operand cells vs op 0 a) (operand cells vs op 1 b) (operand cells vs op 2 c) fit
    ∙ ap (λ x. act turns k to spot x (operand cells vs op 0 a) (operand cells vs op 1 b) (operand cells vs op 2 c)) (q.own row (pos 0))
    ∙ ap (λ x. act turns k to spot (pos 0) x (operand cells vs op 1 b) (operand cells vs op 2 c)) e1
    ∙ ap (λ x. act turns k to spot (pos 0) (given k vs 0 a) x (operand cells vs op 2 c)) e2
    ∙ ap (λ x. act turns k to spot (pos 0) (given k vs 0 a) (given k vs 1 b) x) e3 in
    subst (λ r. Tells (acts old k to a b c spot now vs) r) (sym e)
    (tells-exactly (act turns k to spot (pos 0) (given k vs 0 a) (given k vs 1 b) (given k vs 2 c))))

-- ---- one step after another

-- the second is the first, or any value where the first is a value
abbrev pub AsGood : Result (Option ℤ) Stop → Result (Option ℤ) Stop → Type 0
AsGood (Ok o) (Ok None) = Unit {0}
AsGood (Ok o) (Ok (Some v)) = o ≡ Some v
AsGood (Ok o) (Err s) = ⊥
AsGood (Err s) (Ok o) = ⊥
AsGood (Err s) (Err r) = s ≡ r

pub as_good-self : (r : Result (Option ℤ) Stop) → AsGood r r
as_good-self (Ok None) = tt
as_good-self (Ok (Some v)) = refl
as_good-self (Err s) = refl

pub as_good-is : (q r : Result (Option ℤ) Stop) → q ≡ r → AsGood q r
as_good-is q r e = subst (λ x. AsGood x r) (sym e) (as_good-self r)

-- what is meant at first, m, comes to one thing with the first step's m1 and the second's m2
pub record Leads (old mid : State) (a : ℕ) (m1 m2 m : Meant) : Type 0 where
  pub stops : (now vs : List ℤ) (s : Stop) → m1 now vs ≡ Err s → m now vs ≡ Err s
  pub goes : (now vs ws : List ℤ) (o : Option ℤ) → m1 now vs ≡ Ok o → ((t : Ty) (k : ℕ) → IsA t old.graph.operations k → at ws k ≡ at vs k) →
      active mid.path ws ≡ active old.path vs → Typed mid.graph.operations ws → IsValue o (at ws a) → AsGood (m2 now ws) (m now vs)

ends-good : (P : Option ℤ → List ℤ → Type 0) (q r : Result (Option ℤ) Stop) (all : Result (List ℤ) Stop) → ((ws : List ℤ) (o : Option ℤ) → P o ws → P None ws)
    → AsGood q r → Ends P q all → Ends P r all
ends-good P (Ok o) (Ok None) all f g h = (h.0, h.1, f h.0 o h.2)
ends-good P (Ok o) (Ok (Some v)) all f g h = (h.0, h.1, subst (λ x. P x h.0) g h.2)
ends-good P (Ok o) (Err s) all f g h = absurd g
ends-good P (Err s) (Ok o) all f g h = absurd g
ends-good P (Err s) (Err r) all f g h = h ∙ ap (λ x. Err x) g

ends-then : (P Q : Option ℤ → List ℤ → Type 0) (m1 m : Result (Option ℤ) Stop) (r1 r2 : Result (List ℤ) Stop) → Ends P m1 r1
    → ((s : Stop) → r1 ≡ Err s → r2 ≡ Err s) → ((s : Stop) → m1 ≡ Err s → m ≡ Err s) →
    ((o : Option ℤ) (ws : List ℤ) → m1 ≡ Ok o → r1 ≡ Ok ws → P o ws → Ends Q m r2) → Ends Q m r2
ends-then P Q (Ok o) m r1 r2 h f g next = next o h.0 refl h.1 h.2
ends-then P Q (Err s) m r1 r2 h f g next = subst (λ x. Ends Q x r2) (sym (g s refl)) (f s h)

pub neither : (a b : Bool) → (a || b) ≡ false → (a ≡ false) × (b ≡ false)
neither true b h = absurd cc
neither false b h = (refl, h)

-- what the two steps don't read is read by neither
pub then_reading : (p q r : ℕ → Bool) → ((slot : ℕ) → r slot ≡ false → (p slot ≡ false) × (q slot ≡ false)) → (s0 s1 s2 : State) (t1 t2 : Ty) (n1 n2 : ℕ)
    (m1 m2 m : Meant) (a b : ℕ) → Computes s0 s1 p t1 n1 m1 a → Computes s1 s2 q t2 n2 m2 b → Leads s0 s1 a m1 m2 m → Computes s0 s2 r t2 (n1 + n2) m b
then_reading p q r neither s0 s1 s2 t1 t2 n1 n2 m1 m2 m a b f g lead = record {
  follows = follows-trans s0 s1 s2 f.follows g.follows;
  unread = λ slot h. let none = neither slot h in g.unread slot none.1 ∙ f.unread slot none.0;
  place = g.place;
  count = omega (arith, f.count, g.count);
  gives = λ cells row start now vs r loaded knows.
      let P : Option ℤ → List ℤ → Type 0 = λ o ws. Kept vs ws × Knows s1 start now ws × IsValue o (at ws a) in
      let Q : Option ℤ → List ℤ → Type 0 = λ o ws. Kept vs ws × Knows s2 start now ws × IsValue o (at ws b) in
      let loaded1 = g.follows.loads cells start loaded in
      let len0 = run-length s0.graph cells row vs r in
      ends-then P Q (m1 now vs) (m now vs) (run s1.graph cells row) (run s2.graph cells row)
      (f.gives cells row start now vs r loaded1 knows)
      (λ s e. g.follows.stops cells row s e)
      (λ s e. lead.stops now vs s e)
      (λ o ws e r1 p.
      let len1 = run-length s1.graph cells row ws r1 in
      let kept : (t : Ty) (k : ℕ) → IsA t s0.graph.operations k → at ws k ≡ at vs k = λ t k h. p.0 k (omega (arith, isa_below t s0.graph.operations k h)) in
      let act1 : active s1.path ws ≡ active s0.path vs = ap (λ x. active x ws) f.follows.path
      ∙ active-kept ty.Bool s0.graph.operations s0.path vs ws f.follows.before.path len0 p.0 in
      let types = typed s1.graph cells row start ws f.follows.after.part loaded1 r1 in
      let good = lead.goes now vs ws o e kept act1 types p.2 in
      let longer : length vs ≤ length ws = omega (arith, f.follows.longer) in
      let Q1 : Option ℤ → List ℤ → Type 0 = λ x us. Kept ws us × Knows s2 start now us × IsValue x (at us b) in
      let h1 = ends-good Q1 (m2 now ws) (m now vs) (run s2.graph cells row) (λ us x q. (q.0, q.1, tt)) good (g.gives cells row start now ws r1 loaded p.1) in
      ends-weaker Q1 Q (m now vs) (run s2.graph cells row) (λ x us q. (kept-trans vs ws us longer p.0 q.0, q.1, q.2)) h1);
}
  where
    ends-weaker : (P Q : Option ℤ → List ℤ → Type 0) (x : Result (Option ℤ) Stop) (all : Result (List ℤ) Stop)
        → ((o : Option ℤ) (ws : List ℤ) → P o ws → Q o ws) → Ends P x all → Ends Q x all
    ends-weaker P Q (Ok o) all h e = (e.0, e.1, h o e.0 e.2)
    ends-weaker P Q (Err s) all h e = e

pub then : (s0 s1 s2 : State) (t1 t2 : Ty) (n1 n2 : ℕ) (m1 m2 m : Meant) (a b : ℕ) → Makes s0 s1 t1 n1 m1 a → Makes s1 s2 t2 n2 m2 b → Leads s0 s1 a m1 m2 m
    → Makes s0 s2 t2 (n1 + n2) m b
then s0 s1 s2 t1 t2 n1 n2 m1 m2 m a b f g lead =
    then_reading no_slot no_slot no_slot (λ slot h. (refl, refl)) s0 s1 s2 t1 t2 n1 n2 m1 m2 m a b f g lead

-- a step that means less, and may take more
pub weaker : {p : ℕ → Bool} (s0 s1 : State) (t : Ty) (n1 n2 : ℕ) (m1 m2 : Meant) (k : ℕ) → n1 ≤ n2
    → ((now vs : List ℤ) → Typed s0.graph.operations vs → AsGood (m1 now vs) (m2 now vs)) → Computes s0 s1 p t n1 m1 k → Computes s0 s1 p t n2 m2 k
weaker s0 s1 t n1 n2 m1 m2 k le good f = record {
  follows = f.follows;
  unread = f.unread;
  place = f.place;
  count = omega (arith, f.count);
  gives = λ cells row start now vs r loaded knows.
      ends-good _ (m1 now vs) (m2 now vs) (run s1.graph cells row) (λ us x q. (q.0, q.1, tt))
      (good now vs (typed s0.graph cells row start vs f.follows.before.part (f.follows.loads cells start loaded) r))
      (f.gives cells row start now vs r loaded knows);
}

-- no step at all: the value that a place has
pub stays : (s : State) (t : Ty) (k : ℕ) → IsState s → IsA t s.graph.operations k → Makes s s t 0 (λ now vs. Ok (Some (at vs k))) k
stays s t k i h = record {
  follows = follows-self s i;
  unread = λ slot e. refl;
  place = h;
  count = omega arith;
  gives = λ cells row start now vs r loaded knows. (vs, r, ((λ j lt. refl), knows, refl));
}
