-- Operators: masks, comparisons and arithmetic, step by step.
use Rattle.std.proofs.Common.{◌≡◌, ℕ, zero, suc, ◌+◌, ◌≤◌, ℤ, pos, negsuc, ◌-ℤ◌, neg_ℤ, int_lt, int_le, Bool, true, false, not, cond, List, [], reverse, Option}
use Rattle.std.proofs.Common.{Some, None, length, Result, Ok, Err, refl, sym, ap, ap₂, ◌∙◌, subst, arith, nat_lt}
use Rattle.std.proofs.lemmas.Bool.Decides.{nat_tests}
use Rattle.vcp_base.specs.declared.spot.Spot.{Spot}
use Rattle.vcp_base.specs.declared.turns.Turn.{Turn}
use Rattle.vcp_base.specs.declared.ty.Ty.{Ty}
use Rattle.vcp_base.specs.declared.ty.Ty.TheVariants as ty
use Rattle.vcp_base.specs.declared.kind.Kind.{Kind}
use Rattle.vcp_base.specs.declared.kind.Kind.TheVariants as kind
use Rattle.vcp_base.specs.declared.kind.StopKind.TheVariants as why
use Rattle.vcp_base.specs.Types.{fits, within}
use Rattle.vcp_base.specs.Kinds.{same, truth, operands}
use Rattle.op_graph.specs.declared.op.Op.{Op}
use Rattle.op_graph.specs.Lists.{turns_of, turns_back}
use Rattle.op_graph.specs.Rules.{is_number}
use Rattle.vcp_base.specs.Values.{at}
use Rattle.vcp_typed.specs.Meaning.{Stop, in_range}
use Rattle.st_tree.specs.declared.expr.UnOp.TheVariants as un
use Rattle.flat_expr.specs.State.{State, stopped, missing, IsState, IsA, IsPlace, active, IsNumber, guarded, exactly, IsValue, Follows, Meant, Makes, Pushes}
use Rattle.flat_expr.specs.State.{act, acts, giving, neutral, neutral_place, with_neutral, reserved, masks, guards, is_arithmetic, divides, is_comparison}
use Rattle.flat_expr.specs.State.{compares, denies, signs, picks, limits, selects, narrows, copies}
use Rattle.flat_expr.proofs.Ops.{there, isa}
use Rattle.flat_expr.proofs.Runs.{Typed}
use Rattle.flat_expr.proofs.Steps.{made, then, weaker, follows-self, Tells, AsGood, as_good-self, as_good-is}

pub turns-same : (a b : State) → Follows a b → turns_of b.graph b.turn ≡ turns_of a.graph a.turn
turns-same a b f = ap (λ n. turns_of b.graph n) f.turn ∙ ap (λ nodes. turns_back (reverse nodes) a.turn) f.turn_nodes

-- ---- constants

pub in_range-fits : (t : Ty) (spot : Spot) (turns : List Turn) (v : ℤ) → fits t v ≡ true → in_range t spot turns v ≡ Ok v
in_range-fits t spot turns v h = ap (λ b. cond b (Ok v) (Err (record { kind = why.Range; spot = spot; turns = turns }))) h

pub made_const : (old new : State) (t : Ty) (v : ℤ) (spot : Spot) (turn k : ℕ) → fits t v ≡ true
    → Pushes old new (record { kind = kind.Const; from = t; ty = t; a = 0; b = 0; c = 0; imm = v; spot = spot; turn = turn }) k → Makes old new t 1 (giving v) k
made_const old new t v spot turn k h p =
    made old new (record { kind = kind.Const; from = t; ty = t; a = 0; b = 0; c = 0; imm = v; spot = spot; turn = turn }) k (giving v) p
    (λ cells row start now vs fit loaded types.
    subst (λ b. Tells (Ok (Some v))
    (stopped (turns_back (reverse old.graph.turn_nodes) turn)
    (record { kind = kind.Const; from = t; ty = t; a = 0; b = 0; c = 0; imm = v; spot = spot; turn = turn }) (cond b (Ok v) (Err why.Range)))) (sym h) refl)

-- the constant of masks that is there
pub nought_there : (s : State) (k : ℕ) → IsState s → s.nought ≡ Some k → Makes s s ty.Int 0 (giving (pos 0)) k
nought_there s k i e = record {
  follows = follows-self s i;
  unread = λ slot h. refl;
  place = subst (IsPlace ty.Int s.graph.operations) e i.nought;
  count = omega arith;
  gives = λ cells row start now vs r loaded knows. (vs, r, ((λ j lt. refl), knows, subst (λ o. IsNumber o (pos 0) vs) e knows.nought));
}

pub unit_there : (s : State) (k : ℕ) → IsState s → s.unit ≡ Some k → Makes s s ty.Int 0 (giving (pos 1)) k
unit_there s k i e = record {
  follows = follows-self s i;
  unread = λ slot h. refl;
  place = subst (IsPlace ty.Int s.graph.operations) e i.unit;
  count = omega arith;
  gives = λ cells row start now vs r loaded knows. (vs, r, ((λ j lt. refl), knows, subst (λ o. IsNumber o (pos 1) vs) e knows.unit));
}

-- the constant of masks that is new
pub nought_new : (s p : State) (k : ℕ) → s.nought ≡ None → p.nought ≡ None → Makes s p ty.Int 1 (giving (pos 0)) k
    → Makes s (record p { nought = Some k }) ty.Int 0 (giving (pos 0)) k
nought_new s p k e e2 f = record {
  follows = record {
    before = f.follows.before;
    after = record {
      part = i.part;
      code = i.code;
      names = i.names;
      few = i.few;
      inits = i.inits;
      long = i.long;
      known = i.known;
      variables =
          i.variables;
      inputs = i.inputs;
      columns = i.columns;
      loads = i.loads;
      held = i.held;
      no_outputs = i.no_outputs;
      no_stores = i.no_stores;
      cells = i.cells;
      path = i.path;
      turn = i.turn;
      nought = f.place;
      unit = i.unit;
    };
    slots = f.follows.slots;
    path = f.follows.path;
    turn = f.follows.turn;
    profile = f.follows.profile;
    turn_nodes = f.follows.turn_nodes;
    inputs = f.follows.inputs;
    outputs = f.follows.outputs;
    stores = f.follows.stores;
    operations = f.follows.operations;
    cells = f.follows.cells;
    places = f.follows.places;
    longer = f.follows.longer;
    typed = f.follows.typed;
    loads = f.follows.loads;
    stops = f.follows.stops;
  };
  unread = f.unread;
  place = f.place;
  count = omega (arith, f.count, ap missing e, ap missing e2);
  gives = λ cells row start now vs r loaded knows.
      let h = f.gives cells row start now vs r loaded knows in
      (h.0, h.1, (h.2.0, record { long = h.2.1.long; each = h.2.1.each; nought = h.2.2; unit = h.2.1.unit }, h.2.2));
}
  where
    i : IsState p
    i = f.follows.after

pub unit_new : (s p : State) (k : ℕ) → s.unit ≡ None → p.unit ≡ None → Makes s p ty.Int 1 (giving (pos 1)) k
    → Makes s (record p { unit = Some k }) ty.Int 0 (giving (pos 1)) k
unit_new s p k e e2 f = record {
  follows = record {
    before = f.follows.before;
    after = record {
      part = i.part;
      code = i.code;
      names = i.names;
      few = i.few;
      inits = i.inits;
      long = i.long;
      known = i.known;
      variables =
          i.variables;
      inputs = i.inputs;
      columns = i.columns;
      loads = i.loads;
      held = i.held;
      no_outputs = i.no_outputs;
      no_stores = i.no_stores;
      cells = i.cells;
      path = i.path;
      turn = i.turn;
      nought = i.nought;
      unit = f.place;
    };
    slots = f.follows.slots;
    path = f.follows.path;
    turn = f.follows.turn;
    profile = f.follows.profile;
    turn_nodes = f.follows.turn_nodes;
    inputs = f.follows.inputs;
    outputs = f.follows.outputs;
    stores = f.follows.stores;
    operations = f.follows.operations;
    cells = f.follows.cells;
    places = f.follows.places;
    longer = f.follows.longer;
    typed = f.follows.typed;
    loads = f.follows.loads;
    stops = f.follows.stops;
  };
  unread = f.unread;
  place = f.place;
  count = omega (arith, f.count, ap missing e, ap missing e2);
  gives = λ cells row start now vs r loaded knows.
      let h = f.gives cells row start now vs r loaded knows in
      (h.0, h.1, (h.2.0, record { long = h.2.1.long; each = h.2.1.each; nought = h.2.1.nought; unit = h.2.2 }, h.2.2));
}
  where
    i : IsState p
    i = f.follows.after

-- the constant of masks, by its number
number_fits : (one : Bool) → fits ty.Int (neutral one) ≡ true
number_fits true = refl
number_fits false = refl

pub made_neutral : (s p : State) (one : Bool) (v : ℤ) (k : ℕ) → v ≡ neutral one
    → Pushes s p (record { kind = kind.Const; from = ty.Int; ty = ty.Int; a = 0; b = 0; c = 0; imm = v; spot = record { line = 0; col = 0 }; turn = 0 }) k
    → Makes s p ty.Int 1 (giving (neutral one)) k
made_neutral s p one v k e h =
    made_const s p ty.Int (neutral one) (record { line = 0; col = 0 }) 0 k (number_fits one)
    (subst (λ n. Pushes s p
    (record { kind = kind.Const; from = ty.Int; ty = ty.Int; a = 0; b = 0; c = 0; imm = n; spot = record { line = 0; col = 0 }; turn = 0 }) k) e h)

pub neutral_there : (s : State) (one : Bool) (k : ℕ) → IsState s → neutral_place s one ≡ Some k → Makes s s ty.Int 0 (giving (neutral one)) k
neutral_there s true k i e = unit_there s k i e
neutral_there s false k i e = nought_there s k i e

pub neutral_new : (s p : State) (one : Bool) (k : ℕ) → neutral_place s one ≡ None → neutral_place p one ≡ None → Makes s p ty.Int 1 (giving (neutral one)) k
    → Makes s (with_neutral p one k) ty.Int 0 (giving (neutral one)) k
neutral_new s p true k e e2 f = unit_new s p k e e2 f
neutral_new s p false k e e2 f = nought_new s p k e e2 f

-- there is room for the constant that isn't there yet
pub neutral_room : (s : State) (one : Bool) → neutral_place s one ≡ None → 1 + length s.graph.operations ≤ reserved s
neutral_room s true e = let missed = ap missing e in omega (arith, missed)
neutral_room s false e = let missed = ap missing e in omega (arith, missed)

-- another operation leaves the constants as they are
pub neutral_pushed : (s p : State) (op : Op) (one : Bool) (k : ℕ) → Pushes s p op k → neutral_place p one ≡ neutral_place s one
neutral_pushed s p op true k h = ap (λ (x : State). x.unit) h.is
neutral_pushed s p op false k h = ap (λ (x : State). x.nought) h.is

-- ---- masks

within_int : (s t : Ty) → is_number t ≡ true → within s ty.Int ≡ true → within s t ≡ true
within_int s ty.Bool n h = absurd cc
within_int s ty.Int n h = h
within_int ty.Bool ty.Dint n h = absurd cc
within_int ty.Int ty.Dint n h = refl
within_int ty.Dint ty.Dint n h = absurd cc
within_int ty.Lint ty.Dint n h = absurd cc
within_int ty.Bool ty.Lint n h = absurd cc
within_int ty.Int ty.Lint n h = refl
within_int ty.Dint ty.Lint n h = absurd cc
within_int ty.Lint ty.Lint n h = absurd cc

-- an INT is a number of either type
pub int_as : (t : Ty) (ops : List Op) (k : ℕ) → is_number t ≡ true → IsA ty.Int ops k → IsA t ops k
int_as t ops k n h = let p = there ty.Int ops k h in isa t ops k p.op p.is (within_int p.op.ty t n p.type)

pub some_is : (o : Option ℤ) (v x : ℤ) → giving v [] [] ≡ Ok o → IsValue o x → x ≡ v
some_is None v x e h = absurd cc
some_is (Some w) v x e h = let s : v ≡ w = cc in h ∙ sym s

pub flip : (z : Bool) (x n : ℤ) → cond z n x ≡ cond (not z) x n
flip true x n = refl
flip false x n = refl

pub sel_fits : (t : Ty) (z : Bool) (x y : ℤ) → fits t x ≡ true → fits t y ≡ true → fits t (cond z x y) ≡ true
sel_fits t true x y hx hy = hx
sel_fits t false x y hx hy = hy

pub masked : (s0 s1 s2 : State) (t : Ty) (one : Bool) (path other k j : ℕ) (spot : Spot) → is_number t ≡ true → s0.path ≡ Some path
    → IsA t s0.graph.operations k →
    Makes s0 s1 ty.Int 0 (giving (neutral one)) other → Makes s1 s2 t 1 (acts s1 kind.Sel t path other k spot) j → Makes s0 s2 t 1 (masks s0 one k) j
masked s0 s1 s2 t one path other k j spot num e h f g =
    then s0 s1 s2 ty.Int t 0 1 (giving (neutral one)) (acts s1 kind.Sel t path other k spot) (masks s0 one k) other j f g (record {
      stops = λ now vs s x. absurd cc;
      goes = λ now vs ws o is kept same_path types value. good now vs ws o is kept types value;
    })
  where
    n : ℤ
    n = neutral one

    good : (now vs ws : List ℤ) (o : Option ℤ) → giving (neutral one) now vs ≡ Ok o → ((u : Ty) (i : ℕ) → IsA u s0.graph.operations i → at ws i ≡ at vs i)
        → Typed s1.graph.operations ws → IsValue o (at ws other) → AsGood (acts s1 kind.Sel t path other k spot now ws) (masks s0 one k now vs)
    good now vs ws o is kept types value =
        let here : at ws other ≡ neutral one = some_is o (neutral one) (at ws other) is value in
        let z = same (at ws path) (pos 0) in
        let fo : fits t (at ws other) ≡ true = types t other (int_as t s1.graph.operations other num f.place) in
        let fk : fits t (at ws k) ≡ true = types t k (f.follows.typed t k h) in
        let pl : IsA ty.Bool s0.graph.operations path = subst (IsPlace ty.Bool s0.graph.operations) e f.follows.before.path in
        let e1 = in_range-fits t spot (turns_of s1.graph s1.turn) (cond z (at ws other) (at ws k)) (sel_fits t z (at ws other) (at ws k) fo fk) in
        let e2 : cond z (at ws other) (at ws k) ≡ cond (active s0.path vs) (at vs k) (neutral one) =
        ap₂ (λ x y. cond z x y) here (kept t k h) ∙ flip z (at vs k) (neutral one)
        ∙ ap (λ x. cond (not (same x (pos 0))) (at vs k) (neutral one)) (kept ty.Bool path pl)
        ∙ ap (λ p. cond (active p vs) (at vs k) (neutral one)) (sym e) in
        as_good-is _ _ (ap exactly e1 ∙ ap (λ x. Ok (Some x)) e2)

-- ---- arithmetic

neutral_ok : (k : Kind) (t : Ty) (spot : Spot) (turns : List Turn) → is_arithmetic k ≡ true → is_number t ≡ true
    → act turns k t spot (pos 0) (pos 0) (neutral (divides k)) (pos 0) ≡ Ok (pos 0)
neutral_ok kind.Add ty.Int spot turns a n = refl
neutral_ok kind.Add ty.Dint spot turns a n = refl
neutral_ok kind.Add ty.Lint spot turns a n = refl
neutral_ok kind.Sub ty.Int spot turns a n = refl
neutral_ok kind.Sub ty.Dint spot turns a n = refl
neutral_ok kind.Sub ty.Lint spot turns a n = refl
neutral_ok kind.Mul ty.Int spot turns a n = refl
neutral_ok kind.Mul ty.Dint spot turns a n = refl
neutral_ok kind.Mul ty.Lint spot turns a n = refl
neutral_ok kind.Div ty.Int spot turns a n = refl
neutral_ok kind.Div ty.Dint spot turns a n = refl
neutral_ok kind.Div ty.Lint spot turns a n = refl
neutral_ok kind.Mod ty.Int spot turns a n = refl
neutral_ok kind.Mod ty.Dint spot turns a n = refl
neutral_ok kind.Mod ty.Lint spot turns a n = refl
neutral_ok kind.Add ty.Bool spot turns a n = absurd cc
neutral_ok kind.Sub ty.Bool spot turns a n = absurd cc
neutral_ok kind.Mul ty.Bool spot turns a n = absurd cc
neutral_ok kind.Div ty.Bool spot turns a n = absurd cc
neutral_ok kind.Mod ty.Bool spot turns a n = absurd cc
neutral_ok _ t spot turns a n = absurd cc

arithmetic_two : (k : Kind) → is_arithmetic k ≡ true → operands k ≡ 2
arithmetic_two kind.Add a = refl
arithmetic_two kind.Sub a = refl
arithmetic_two kind.Mul a = refl
arithmetic_two kind.Div a = refl
arithmetic_two kind.Mod a = refl
arithmetic_two _ a = absurd cc

pub acts-two : (s : State) (k : Kind) (t : Ty) (a b : ℕ) (spot : Spot) (now vs : List ℤ) → operands k ≡ 2
    → acts s k t a b 0 spot now vs ≡ exactly (act (turns_of s.graph s.turn) k t spot (pos 0) (at vs a) (at vs b) (pos 0))
acts-two s k t a b spot now vs e =
    ap (λ n. exactly
    (act (turns_of s.graph s.turn) k t spot (pos 0) (cond (nat_lt 0 n) (at vs a) (pos 0)) (cond (nat_lt 1 n) (at vs b) (pos 0))
    (cond (nat_lt 2 n) (at vs 0) (pos 0)))) e

guard_good : (b : Bool) (f : ℤ → ℤ → Result ℤ Stop) (x y n v : ℤ) → f (pos 0) n ≡ Ok v
    → AsGood (exactly (f (cond b x (pos 0)) (cond b y n))) (guarded b (f x y))
guard_good true f x y n v h = as_good-self (exactly (f x y))
guard_good false f x y n v h = subst (λ r. AsGood (exactly r) (Ok None)) (sym h) tt

-- what comes after the first mask
abbrev masked_one : State → Kind → Ty → ℕ → ℕ → Bool → Spot → Meant
masked_one s k t ma b one spot =
    λ now ws. exactly (act (turns_of s.graph s.turn) k t spot (pos 0) (at ws ma) (cond (active s.path ws) (at ws b) (neutral one)) (pos 0))

pub calculated : (s0 s1 s2 s3 : State) (k : Kind) (t : Ty) (one : Bool) (a b ma mb j : ℕ) (spot : Spot) → is_arithmetic k ≡ true → divides k ≡ one
    → is_number t ≡ true → IsA t s0.graph.operations a → IsA t s0.graph.operations b →
    Makes s0 s1 t 1 (masks s0 false a) ma → Makes s1 s2 t 1 (masks s1 one b) mb → Makes s2 s3 t 1 (acts s2 k t ma mb 0 spot) j → Makes s0 s3 t 3
    (guards s0 k t a b spot) j
calculated s0 s1 s2 s3 k t one a b ma mb j spot ar di num ha hb f1 f2 f3 =
    then s0 s1 s3 t t 1 2 (masks s0 false a) (masked_one s1 k t ma b one spot) (guards s0 k t a b spot) ma j f1
    (then s1 s2 s3 t t 1 1 (masks s1 one b) (acts s2 k t ma mb 0 spot) (masked_one s1 k t ma b one spot) mb j f2 f3
    (record { stops = λ now vs s x. absurd cc; goes = λ now vs ws o is kept same_path types value. inner now vs ws o is kept value }))
    (record { stops = λ now vs s x. absurd cc; goes = λ now vs ws o is kept same_path types value. outer now vs ws o is kept same_path value })
  where
    inner : (now vs ws : List ℤ) (o : Option ℤ) → masks s1 one b now vs ≡ Ok o → ((u : Ty) (i : ℕ) → IsA u s1.graph.operations i → at ws i ≡ at vs i)
        → IsValue o (at ws mb) → AsGood (acts s2 k t ma mb 0 spot now ws) (masked_one s1 k t ma b one spot now vs)
    inner now vs ws o is kept value =
        as_good-is _ _ (acts-two s2 k t ma mb spot now ws (arithmetic_two k ar)
        ∙ ap (λ u. exactly (act u k t spot (pos 0) (at ws ma) (at ws mb) (pos 0))) (turns-same s1 s2 f2.follows)
        ∙ ap₂ (λ x y. exactly (act (turns_of s1.graph s1.turn) k t spot (pos 0) x y (pos 0))) (kept t ma f1.place) (some_is o _ (at ws mb) is value))

    outer : (now vs ws : List ℤ) (o : Option ℤ) → masks s0 false a now vs ≡ Ok o → ((u : Ty) (i : ℕ) → IsA u s0.graph.operations i → at ws i ≡ at vs i)
        → active s1.path ws ≡ active s0.path vs → IsValue o (at ws ma) → AsGood (masked_one s1 k t ma b one spot now ws) (guards s0 k t a b spot now vs)
    outer now vs ws o is kept same_path value =
        let bb = active s0.path vs in
        let turns = turns_of s0.graph s0.turn in
        let e : masked_one s1 k t ma b one spot now ws ≡ exactly
        (act turns k t spot (pos 0) (cond bb (at vs a) (pos 0)) (cond bb (at vs b) (neutral one)) (pos 0)) =
        ap (λ u. exactly (act u k t spot (pos 0) (at ws ma) (cond (active s1.path ws) (at ws b) (neutral one)) (pos 0))) (turns-same s0 s1 f1.follows)
        ∙ ap₂ (λ x y. exactly (act turns k t spot (pos 0) x (cond y (at ws b) (neutral one)) (pos 0))) (some_is o _ (at ws ma) is value) same_path
        ∙ ap (λ x. exactly (act turns k t spot (pos 0) (cond bb (at vs a) (pos 0)) (cond bb x (neutral one)) (pos 0))) (kept t b hb) in
        subst (λ r. AsGood r (guards s0 k t a b spot now vs)) (sym e)
        (guard_good bb (λ x y. act turns k t spot (pos 0) x y (pos 0)) (at vs a) (at vs b) (neutral one) (pos 0)
        (ap (λ d. act turns k t spot (pos 0) (pos 0) (neutral d) (pos 0)) (sym di) ∙ neutral_ok k t spot turns ar num))

-- ---- comparisons

truth_ok : (b : Bool) (spot : Spot) (turns : List Turn) → in_range ty.Bool spot turns (truth b) ≡ Ok (truth b)
truth_ok true spot turns = refl
truth_ok false spot turns = refl

pub compare_ok : (k : Kind) (spot : Spot) (turns : List Turn) (x y : ℤ) → is_comparison k ≡ true
    → act turns k ty.Bool spot (pos 0) x y (pos 0) ≡ Ok (truth (compares k x y))
compare_ok kind.Eq spot turns x y h = truth_ok (same x y) spot turns
compare_ok kind.Lt spot turns x y h = truth_ok (int_lt x y) spot turns
compare_ok _ spot turns x y h = absurd cc

comparison_two : (k : Kind) → is_comparison k ≡ true → operands k ≡ 2
comparison_two kind.Eq h = refl
comparison_two kind.Lt h = refl
comparison_two _ h = absurd cc

not_truth : (b : Bool) (spot : Spot) (turns : List Turn) → in_range ty.Bool spot turns (pos 1 -ℤ truth b) ≡ Ok (truth (not b))
not_truth true spot turns = refl
not_truth false spot turns = refl

pub denied : (s0 s1 s2 : State) (k : Kind) (a b r j : ℕ) (spot : Spot) → is_comparison k ≡ true → Makes s0 s1 ty.Bool 1 (acts s0 k ty.Bool a b 0 spot) r
    → Makes s1 s2 ty.Bool 1 (acts s1 kind.Not ty.Bool r 0 0 spot) j → Makes s0 s2 ty.Bool 2 (denies k a b) j
denied s0 s1 s2 k a b r j spot h f g =
    then s0 s1 s2 ty.Bool ty.Bool 1 1 (acts s0 k ty.Bool a b 0 spot) (acts s1 kind.Not ty.Bool r 0 0 spot) (denies k a b) r j f g (record {
      stops = λ now vs s x. let y = sym (is now vs) ∙ x in absurd cc;
      goes = λ now vs ws o e kept same_path types value.
          as_good-is _ _
          (ap (λ x. exactly (in_range ty.Bool spot (turns_of s1.graph s1.turn) (pos 1 -ℤ x))) (some_is o _ (at ws r) (sym (is now vs) ∙ e) value)
          ∙ ap exactly (not_truth (compares k (at vs a) (at vs b)) spot (turns_of s1.graph s1.turn)));
    })
  where
    is : (now vs : List ℤ) → acts s0 k ty.Bool a b 0 spot now vs ≡ Ok (Some (truth (compares k (at vs a) (at vs b))))
    is now vs = acts-two s0 k ty.Bool a b spot now vs (comparison_two k h) ∙ ap exactly (compare_ok k spot (turns_of s0.graph s0.turn) (at vs a) (at vs b) h)

pub good_total : (b : Bool) (q : Result (Option ℤ) Stop) (v : ℤ) → q ≡ Ok (Some v) → AsGood q (guarded b (Ok v))
good_total true q v e = as_good-is q (Ok (Some v)) e
good_total false q v e = subst (λ x. AsGood x (Ok None)) (sym e) tt

-- an operation that gives a value whatever its operands
pub total_step : (s new : State) (t : Ty) (m : Meant) (f : List ℤ → ℤ) (n1 n2 k : ℕ) → n1 ≤ n2
    → ((now vs : List ℤ) → Typed s.graph.operations vs → m now vs ≡ Ok (Some (f vs))) → Makes s new t n1 m k
    → Makes s new t n2 (λ now vs. guarded (active s.path vs) (Ok (f vs))) k
total_step s new t m f n1 n2 k le is g =
    weaker s new t n1 n2 m (λ now vs. guarded (active s.path vs) (Ok (f vs))) k le
    (λ now vs types. good_total (active s.path vs) (m now vs) (f vs) (is now vs types)) g

pub compare_is : (s : State) (k : Kind) (a b : ℕ) (spot : Spot) (now vs : List ℤ) → is_comparison k ≡ true
    → acts s k ty.Bool a b 0 spot now vs ≡ Ok (Some (truth (compares k (at vs a) (at vs b))))
compare_is s k a b spot now vs h = acts-two s k ty.Bool a b spot now vs (comparison_two k h)
    ∙ ap exactly (compare_ok k spot (turns_of s.graph s.turn) (at vs a) (at vs b) h)

pub truth_is : (s : State) (b : Bool) (spot : Spot) → exactly (in_range ty.Bool spot (turns_of s.graph s.turn) (truth b)) ≡ Ok (Some (truth b))
truth_is s b spot = ap exactly (truth_ok b spot (turns_of s.graph s.turn))

pub not_less : (a b : ℤ) → not (int_lt b a) ≡ int_le a b
not_less (pos n) (pos m) = grind (arith, nat_tests)
not_less (pos n) (negsuc m) = refl
not_less (negsuc n) (pos m) = refl
not_less (negsuc n) (negsuc m) = grind (arith, nat_tests)

-- ---- signs

pub guard_one : (b : Bool) (f : ℤ → Result ℤ Stop) (x v : ℤ) → f (pos 0) ≡ Ok v → AsGood (exactly (f (cond b x (pos 0)))) (guarded b (f x))
guard_one true f x v h = as_good-self (exactly (f x))
guard_one false f x v h = subst (λ r. AsGood (exactly r) (Ok None)) (sym h) tt

neg_zero : (t : Ty) (spot : Spot) (turns : List Turn) → in_range t spot turns (neg_ℤ (pos 0)) ≡ Ok (neg_ℤ (pos 0))
neg_zero ty.Bool spot turns = refl
neg_zero ty.Int spot turns = refl
neg_zero ty.Dint spot turns = refl
neg_zero ty.Lint spot turns = refl

pub negated : (s0 s1 s2 : State) (t : Ty) (a m k : ℕ) (spot : Spot) → Makes s0 s1 t 1 (masks s0 false a) m → Makes s1 s2 t 1 (acts s1 kind.Neg t m 0 0 spot) k
    → Makes s0 s2 t 2 (signs s0 un.Neg t a spot) k
negated s0 s1 s2 t a m k spot f g =
    then s0 s1 s2 t t 1 1 (masks s0 false a) (acts s1 kind.Neg t m 0 0 spot) (signs s0 un.Neg t a spot) m k f g (record {
      stops = λ now vs s x. absurd cc;
      goes = λ now vs ws o is kept same_path types value.
          let bb = active s0.path vs in
          let turns = turns_of s0.graph s0.turn in
          subst (λ r. AsGood r (signs s0 un.Neg t a spot now vs))
          (sym (ap₂ (λ u x. exactly (in_range t spot u (neg_ℤ x))) (turns-same s0 s1 f.follows) (some_is o _ (at ws m) is value)))
          (guard_one bb (λ x. in_range t spot turns (neg_ℤ x)) (at vs a) (neg_ℤ (pos 0)) (neg_zero t spot turns));
    })

not_fits : (x : ℤ) → fits ty.Bool x ≡ true → fits ty.Bool (pos 1 -ℤ x) ≡ true
not_fits (pos zero) h = refl
not_fits (pos (suc zero)) h = refl
not_fits (pos (suc (suc n))) h = absurd (grind (arith, nat_tests))
not_fits (negsuc n) h = absurd cc

pub not_made : (s new : State) (a k : ℕ) (spot : Spot) → IsA ty.Bool s.graph.operations a → Makes s new ty.Bool 1 (acts s kind.Not ty.Bool a 0 0 spot) k
    → Makes s new ty.Bool 2 (signs s un.Not ty.Bool a spot) k
not_made s new a k spot h g =
    total_step s new ty.Bool (acts s kind.Not ty.Bool a 0 0 spot) (λ vs. pos 1 -ℤ at vs a) 1 2 k (omega arith)
    (λ now vs types. ap exactly (in_range-fits ty.Bool spot (turns_of s.graph s.turn) (pos 1 -ℤ at vs a) (not_fits (at vs a) (types ty.Bool a h)))) g

-- ---- functions

pub truth_zero : (c : Bool) (x y : ℤ) → cond (same (truth c) (pos 0)) x y ≡ cond c y x
truth_zero true x y = refl
truth_zero false x y = refl

pub picked : (s0 s1 s2 : State) (t : Ty) (x y a b r k : ℕ) (spot : Spot) → IsA t s0.graph.operations a → IsA t s0.graph.operations b →
    Makes s0 s1 ty.Bool 1 (acts s0 kind.Lt ty.Bool x y 0 spot) r → Makes s1 s2 t 1 (acts s1 kind.Sel t r a b spot) k → Makes s0 s2 t 2 (picks x y a b) k
picked s0 s1 s2 t x y a b r k spot ha hb f g =
    then s0 s1 s2 ty.Bool t 1 1 (acts s0 kind.Lt ty.Bool x y 0 spot) (acts s1 kind.Sel t r a b spot) (picks x y a b) r k f g (record {
      stops = λ now vs s e. let q = sym (compare_is s0 kind.Lt x y spot now vs refl) ∙ e in absurd cc;
      goes = λ now vs ws o e kept same_path types value.
          let c = int_lt (at vs x) (at vs y) in
          let is : at ws r ≡ truth c = some_is o (truth c) (at ws r) (sym (compare_is s0 kind.Lt x y spot now vs refl) ∙ e) value in
          let z = same (at ws r) (pos 0) in
          let e1 = in_range-fits t spot (turns_of s1.graph s1.turn) (cond z (at ws a) (at ws b))
          (sel_fits t z (at ws a) (at ws b) (types t a (f.follows.typed t a ha)) (types t b (f.follows.typed t b hb))) in
          as_good-is _ _
          (ap exactly e1
          ∙ ap (λ v. Ok (Some v))
          (ap (λ v. cond (same v (pos 0)) (at ws a) (at ws b)) is ∙ truth_zero c (at ws a) (at ws b)
          ∙ ap₂ (λ u v. cond c v u) (kept t a ha) (kept t b hb)));
    })

pub limited : (s0 s1 s2 : State) (t : Ty) (low a high m k : ℕ) → IsA t s0.graph.operations high → Makes s0 s1 t 2 (picks a low a low) m
    → Makes s1 s2 t 2 (picks high m m high) k → Makes s0 s2 t 6 (limits low a high) k
limited s0 s1 s2 t low a high m k hh f g =
    weaker s0 s2 t (2 + 2) 6 (limits low a high) (limits low a high) k (omega arith) (λ now vs types. as_good-self (limits low a high now vs))
    (then s0 s1 s2 t t 2 2 (picks a low a low) (picks high m m high) (limits low a high) m k f g (record {
      stops = λ now vs s e. absurd cc;
      goes = λ now vs ws o e kept same_path types value.
          as_good-is _ _ (ap₂ (λ u v. Ok (Some (cond (int_lt v u) v u))) (some_is o _ (at ws m) e value) (kept t high hh));
    }))

pub selected : (s new : State) (t : Ty) (g a b k : ℕ) (spot : Spot) → IsA t s.graph.operations a → IsA t s.graph.operations b
    → Makes s new t 1 (acts s kind.Sel t g a b spot) k → Makes s new t 3 (selects g a b) k
selected s new t g a b k spot ha hb f =
    weaker s new t 1 3 (acts s kind.Sel t g a b spot) (selects g a b) k (omega arith)
    (λ now vs types. as_good-is _ _
    (ap exactly (in_range-fits t spot (turns_of s.graph s.turn) _
    (sel_fits t (same (at vs g) (pos 0)) (at vs a) (at vs b) (types t a ha) (types t b hb))))) f

zero_ok : (t : Ty) (spot : Spot) (turns : List Turn) → in_range t spot turns (pos 0) ≡ Ok (pos 0)
zero_ok ty.Bool spot turns = refl
zero_ok ty.Int spot turns = refl
zero_ok ty.Dint spot turns = refl
zero_ok ty.Lint spot turns = refl

pub narrowed : (s0 s1 s2 : State) (from to : Ty) (a m k : ℕ) (spot : Spot) → Makes s0 s1 from 1 (masks s0 false a) m
    → Makes s1 s2 to 1 (acts s1 kind.Conv to m 0 0 spot) k → Makes s0 s2 to 2 (narrows s0 to a spot) k
narrowed s0 s1 s2 from to a m k spot f g =
    then s0 s1 s2 from to 1 1 (masks s0 false a) (acts s1 kind.Conv to m 0 0 spot) (narrows s0 to a spot) m k f g (record {
      stops = λ now vs s x. absurd cc;
      goes = λ now vs ws o is kept same_path types value.
          subst (λ r. AsGood r (narrows s0 to a spot now vs))
          (sym (ap₂ (λ u x. exactly (in_range to spot u x)) (turns-same s0 s1 f.follows) (some_is o _ (at ws m) is value)))
          (guard_one (active s0.path vs) (λ x. in_range to spot (turns_of s0.graph s0.turn) x) (at vs a) (pos 0) (zero_ok to spot (turns_of s0.graph s0.turn)));
    })

pub copied : (s new : State) (from to : Ty) (a k : ℕ) (spot : Spot) → ((v : ℤ) → fits from v ≡ true → fits to v ≡ true) → IsA from s.graph.operations a
    → Makes s new to 1 (acts s kind.Conv to a 0 0 spot) k → Makes s new to 2 (copies a) k
copied s new from to a k spot wider h f =
    weaker s new to 1 2 (acts s kind.Conv to a 0 0 spot) (copies a) k (omega arith)
    (λ now vs types. as_good-is _ _ (ap exactly (in_range-fits to spot (turns_of s.graph s.turn) (at vs a) (wider (at vs a) (types from a h))))) f
