-- Algebra: steps of statements one after another, and under other path conditions.
use Rattle.std.proofs.Common.{◌≡◌, ℕ, ◌+◌, ◌≤◌, ℤ, pos, Bool, true, not, List, [], ◌++◌, length, Option, Some, None, Result, Ok, Err, refl, sym, ap, ◌∙◌}
use Rattle.std.proofs.Common.{subst, arith}
use Rattle.std.proofs.Common.{append_assoc}
use Rattle.std.proofs.lemmas.List.{append-nil}
use Rattle.vcp_base.specs.declared.ty.Ty.{Ty}
use Rattle.vcp_base.specs.declared.ty.Ty.TheVariants as ty
use Rattle.vcp_base.specs.Kinds.{same}
use Rattle.vcp_base.specs.Types.{fits}
use Rattle.op_graph.specs.Lists.{turns_of}
use Rattle.vcp_base.specs.Values.{at}
use Rattle.vcp_typed.specs.Meaning.{Stop, and_then}
use Rattle.flat_expr.specs.Laws.{Laws}
use Rattle.flat_expr.specs.State.{State, IsState, IsA, IsPlace, active, Knows, Kept, Extends, Continues, Follows, Ends, IsValue, Meant, Computes, run}
use Rattle.flat_stmt.specs.Moves.{Here, here, Doing, EndsIn, Tells, Moves}

-- ---- results

pub ends_then : {A B : Type 0} (P : A → List ℤ → Type 0) (Q : B → List ℤ → Type 0) (x : Result A Stop) (g : A → Result B Stop) (r1 r2 : Result (List ℤ) Stop) →
    EndsIn P x r1 → ((s : Stop) → r1 ≡ Err s → r2 ≡ Err s) → ((a : A) (ws : List ℤ) → r1 ≡ Ok ws → P a ws → EndsIn Q (g a) r2) → EndsIn Q (and_then x g) r2
ends_then P Q (Ok a) g r1 r2 h stops next = next a h.0 h.1 h.2
ends_then P Q (Err s) g r1 r2 h stops next = stops s h

pub ends_weaker : {A : Type 0} (P Q : A → List ℤ → Type 0) (x : Result A Stop) (r : Result (List ℤ) Stop)
    → ((a : A) (ws : List ℤ) → r ≡ Ok ws → P a ws → Q a ws) → EndsIn P x r → EndsIn Q x r
ends_weaker P Q (Ok a) r f h = (h.0, h.1, f a h.0 h.1 h.2)
ends_weaker P Q (Err s) r f h = h

-- ---- lists that begin with others

pub extends-self : {X : Type 0} (xs : List X) → Extends xs xs
extends-self xs = ([], sym (append-nil xs))

extends-same : {X : Type 0} (xs ys : List X) → ys ≡ xs → Extends xs ys
extends-same xs ys e = ([], e ∙ sym (append-nil xs))

pub extends-trans : {X : Type 0} (xs ys zs : List X) → Extends xs ys → Extends ys zs → Extends xs zs
extends-trans xs ys zs f g = (f.0 ++ g.0, g.1 ∙ ap (λ l. l ++ g.0) f.1 ∙ append_assoc xs f.0 g.0)

-- ---- states

pub kept_trans : (us vs ws : List ℤ) → length us ≤ length vs → Kept us vs → Kept vs ws → Kept us ws
kept_trans us vs ws le f g k lt = g k (omega (arith, le, lt)) ∙ f k lt

pub repathed : (s : State) (p : Option ℕ) → IsState s → IsPlace ty.Bool s.graph.operations p → IsState (record s { path = p })
repathed s p i h =
    record {
      part = i.part;
      code = i.code;
      names = i.names;
      few = i.few;
      inits = i.inits;
      variables = i.variables;
      long = i.long;
      known = i.known;
      inputs = i.inputs;
      columns = i.columns;
      loads = i.loads;
      held = i.held;
      cells = i.cells;
      no_outputs = i.no_outputs;
      no_stores = i.no_stores;
      path =
          h;
      turn = i.turn;
      nought = i.nought;
      unit = i.unit;
    }

pub place_typed : (a b : State) (t : Ty) (o : Option ℕ) → ((u : Ty) (k : ℕ) → IsA u a.graph.operations k → IsA u b.graph.operations k)
    → IsPlace t a.graph.operations o → IsPlace t b.graph.operations o
place_typed a b t None f h = tt
place_typed a b t (Some k) f h = f t k h

-- the same is known under another path condition and in another turn
pub knows_at : (s : State) (p : Option ℕ) (start now vs : List ℤ) → Knows s start now vs → Knows (record s { path = p }) start now vs
knows_at s p start now vs k = record { long = k.long; each = k.each; nought = k.nought; unit = k.unit }

pub continues-trans : (a b c : State) → Continues a b → Continues b c → Continues a c
continues-trans a b c f g = record {
  before = f.before;
  after = g.after;
  slots = g.slots ∙ f.slots;
  path = g.path ∙ f.path;
  turn = g.turn ∙ f.turn;
  profile = g.profile ∙ f.profile;
  nodes = omega (arith, f.nodes, g.nodes);
  turns = λ n le. g.turns n (omega (arith, le, f.nodes)) ∙ f.turns n le;
  operations = extends-trans a.graph.operations b.graph.operations c.graph.operations f.operations g.operations;
  cells = extends-trans a.graph.loads b.graph.loads c.graph.loads f.cells g.cells;
  turn_nodes = extends-trans a.graph.turn_nodes b.graph.turn_nodes c.graph.turn_nodes f.turn_nodes g.turn_nodes;
  ends = (g.ends.0 ∙ f.ends.0, g.ends.1 ∙ f.ends.1, g.ends.2 ∙ f.ends.2);
  longer = omega (arith, f.longer, g.longer);
  typed = λ t k h. g.typed t k (f.typed t k h);
  loads = λ cells start h. f.loads cells start (g.loads cells start h);
  stops = λ cells row s h. g.stops cells row s (f.stops cells row s h);
}

pub continues-self : (s : State) → IsState s → Continues s s
continues-self s i = record {
  before = i;
  after = i;
  slots = refl;
  path = refl;
  turn = refl;
  profile = refl;
  nodes = omega arith;
  turns = λ n le. refl;
  operations = extends-self s.graph.operations;
  cells = extends-self s.graph.loads;
  turn_nodes = extends-self s.graph.turn_nodes;
  ends = (refl, refl, refl);
  longer = omega arith;
  typed = λ t k h. h;
  loads = λ cells start h. h;
  stops = λ cells row s h. h;
}

-- both under another path condition
pub continues-at : (a b : State) (p : Option ℕ) → IsPlace ty.Bool a.graph.operations p → Continues a b
    → Continues (record a { path = p }) (record b { path = p })
continues-at a b p h f = record {
  before = repathed a p f.before h;
  after = repathed b p f.after (place_typed a b ty.Bool p f.typed h);
  slots = f.slots;
  path = refl;
  turn = f.turn;
  profile = f.profile;
  nodes = f.nodes;
  turns = f.turns;
  operations = f.operations;
  cells = f.cells;
  turn_nodes = f.turn_nodes;
  ends = f.ends;
  longer = f.longer;
  typed = f.typed;
  loads = f.loads;
  stops = f.stops;
}

pub follows_continues : (a b : State) → Follows a b → Continues a b
follows_continues a b f = record {
  before = f.before;
  after = f.after;
  slots = f.slots;
  path = f.path;
  turn = f.turn;
  profile = f.profile;
  nodes = omega (arith, ap length f.turn_nodes);
  turns = λ n le. turns_same n;
  operations = f.operations;
  cells = f.cells;
  turn_nodes = extends-same a.graph.turn_nodes b.graph.turn_nodes f.turn_nodes;
  ends = (f.inputs, f.outputs, f.stores);
  longer = f.longer;
  typed = f.typed;
  loads = f.loads;
  stops = f.stops;
}
  where
    turns_same : (n : ℕ) → turns_of b.graph n ≡ turns_of a.graph n
    turns_same n = ap (λ l. turns_of (record a.graph { turn_nodes = l }) n) f.turn_nodes

pub follows-none : (s : State) → IsState s → Follows s s
follows-none s i = record {
  before = i;
  after = i;
  slots = refl;
  path = refl;
  turn = refl;
  profile = refl;
  turn_nodes = refl;
  inputs = refl;
  outputs = refl;
  stores = refl;
  operations = extends-self s.graph.operations;
  cells = extends-self s.graph.loads;
  places = λ slot k e. e;
  longer = omega arith;
  typed = λ t k h. h;
  loads = λ cells start h. h;
  stops = λ cells row s h. h;
}

-- ---- steps

-- a condition on values that is kept where the earlier values are
abbrev pub Lasts : State → (List ℤ → Type 0) → Type 0
Lasts s Such = (vs ws : List ℤ) → length vs ≡ length s.graph.operations → Kept vs ws → Such vs → Such ws

abbrev pub then_do : Doing → Doing → Doing
then_do f g b m = and_then (f b m) (λ h. g h.reached h.slots)

pub moves_then : Laws → (a b c : State) (Such : List ℤ → Type 0) (n k : ℕ) (f g : Doing) → Lasts a Such → Moves a b Such n f → Moves b c Such k g
    → Moves a c Such (n + k) (then_do f g)
moves_then laws a b c Such n k f g lasts p q = record {
  continues = continues-trans a (record b { path = a.path }) (record c { path = a.path }) p.continues
      (continues-at b (record c { path = b.path }) a.path (place_typed a b ty.Bool a.path p.continues.typed p.continues.before.path) q.continues);
  path = q.path;
  count = omega (arith, p.count, q.count);
  few = omega (arith, p.few, q.few);
  gives = λ cells row start now vs r loaded knows such.
      let len = laws.long a.graph cells row vs r in
      ends_then (Tells b start vs) (Tells c start vs) (f (active a.path vs) now) (λ h. g h.reached h.slots) (run b.graph cells row) (run c.graph cells row)
      (p.gives cells row start now vs r (q.continues.loads cells start loaded) knows such)
      (λ s e. q.continues.stops cells row s e)
      (λ h ws r1 e.
      ends_weaker (Tells c start ws) (Tells c start vs) (g h.reached h.slots) (run c.graph cells row)
      (λ i us r2 x. record {
        kept = kept_trans vs ws us (omega (arith, len, laws.long b.graph cells row ws r1, p.continues.longer)) e.kept x.kept;
        knows =
            x.knows;
        reached = x.reached;
      })
      (subst (λ y. EndsIn (Tells c start ws) (g y h.slots) (run c.graph cells row)) e.reached
      (q.gives cells row start h.slots ws r1 loaded e.knows (lasts vs ws len e.kept such))));
}

-- the same thing done, said in another way
pub moves_same : (a b : State) (P Q : List ℤ → Type 0) (n k : ℕ) (f g : Doing) → n ≤ k → ((vs : List ℤ) → Q vs → P vs)
    → ((vs now : List ℤ) → Q vs → f (active a.path vs) now ≡ g (active a.path vs) now) → Moves a b P n f → Moves a b Q k g
moves_same a b P Q n k f g le weaker same p = record {
  continues = p.continues;
  path = p.path;
  count = omega (arith, p.count, le);
  few = omega (arith, p.few, le);
  gives = λ cells row start now vs r loaded knows such.
      subst (λ x. EndsIn (Tells b start vs) x (run b.graph cells row)) (same vs now such) (p.gives cells row start now vs r loaded knows (weaker vs such));
}

-- nothing is done
pub moves_nothing : (a : State) (Such : List ℤ → Type 0) → IsState a → Moves a a Such 0 (λ b m. Ok (here b m))
moves_nothing a Such i = record {
  continues = continues-self a i;
  path = i.path;
  count = omega arith;
  few = omega arith;
  gives = λ cells row start now vs r loaded knows such. (vs, r, record { kept = λ k lt. refl; knows = knows; reached = refl });
}

-- another path condition at first, of which the values tell whether it is 1
pub moves_from : (a b : State) (p : Option ℕ) (Such : List ℤ → Type 0) (o : Bool) (n : ℕ) (f : Doing) → IsState a → ((vs : List ℤ) → Such vs → active p vs ≡ o)
    →
    Moves (record a { path = p }) b Such n f → Moves a b Such n (λ b m. f o m)
moves_from a b p Such o n f i tells q = record {
  continues = continues-at (record a { path = p }) (record b { path = p }) a.path i.path q.continues;
  path = q.path;
  count = q.count;
  few = q.few;
  gives = λ cells row start now vs r loaded knows such.
      subst (λ x. EndsIn (Tells b start vs) (f x now) (run b.graph cells row)) (tells vs such)
      (q.gives cells row start now vs r loaded (knows_at a p start now vs knows) such);
}

-- another path condition at last
pub moves_to : Laws → (a b : State) (p : Option ℕ) (Such : List ℤ → Type 0) (o : Bool) (n : ℕ) (f : Doing) → Lasts a Such → IsPlace ty.Bool b.graph.operations p
    → ((vs : List ℤ) → Such vs → active p vs ≡ o) →
    Moves a b Such n f → Moves a (record b { path = p }) Such n (then_do f (λ c m. Ok (here o m)))
moves_to laws a b p Such o n f lasts place tells q = record {
  continues = q.continues;
  path = place;
  count = q.count;
  few = q.few;
  gives = λ cells row start now vs r loaded knows such.
      let len = laws.long a.graph cells row vs r in
      ends_then (Tells b start vs) (Tells (record b { path = p }) start vs) (f (active a.path vs) now) (λ h. Ok (here o h.slots)) (run b.graph cells row)
      (run b.graph cells row)
      (q.gives cells row start now vs r loaded knows such)
      (λ s e. e)
      (λ h ws r1 e. (ws, r1, record { kept = e.kept; knows = knows_at b p start h.slots ws e.knows; reached = tells ws (lasts vs ws len e.kept such) }));
}

-- a step that gives a value, and then what is done with it
abbrev pub Binds : Result (Option ℤ) Stop → Result Here Stop → (ℤ → Result Here Stop) → Type 0
Binds (Ok (Some v)) all next = all ≡ next v
Binds (Ok None) all next = (v : ℤ) → all ≡ next v
Binds (Err s) all next = all ≡ Err s

abbrev pub With : (List ℤ → Type 0) → ℕ → ℤ → List ℤ → Type 0
With Such k v vs = Such vs × (at vs k ≡ v)

-- values of the types of their operations
abbrev pub Typed : State → List ℤ → Type 0
Typed s vs = (t : Ty) (k : ℕ) → IsA t s.graph.operations k → fits t (at vs k) ≡ true

bind_ends : (P : Option ℤ → List ℤ → Type 0) (Q : Here → List ℤ → Type 0) (m : Result (Option ℤ) Stop) (all : Result Here Stop) (next : ℤ
    → Result Here Stop) (r1 r2 : Result (List ℤ) Stop) (place : ℕ) →
    Binds m all next → Ends P m r1 → ((s : Stop) → r1 ≡ Err s → r2 ≡ Err s) →
    ((o : Option ℤ) (ws : List ℤ) → r1 ≡ Ok ws → P o ws → IsValue o (at ws place)) →
    ((o : Option ℤ) (ws : List ℤ) → r1 ≡ Ok ws → P o ws → EndsIn Q (next (at ws place)) r2) → EndsIn Q all r2
bind_ends P Q (Ok (Some v)) all next r1 r2 place b h stops val go =
    subst (λ x. EndsIn Q x r2) (ap next (val (Some v) h.0 h.1 h.2) ∙ sym b) (go (Some v) h.0 h.1 h.2)
bind_ends P Q (Ok None) all next r1 r2 place b h stops val go = subst (λ x. EndsIn Q x r2) (sym (b (at h.0 place))) (go None h.0 h.1 h.2)
bind_ends P Q (Err s) all next r1 r2 place b h stops val go = subst (λ x. EndsIn Q x r2) (sym b) (stops s h)

pub moves_with : {is_read : ℕ → Bool} → Laws → (a b c : State) (t : Ty) (Such : List ℤ → Type 0) (k n1 n2 : ℕ) (m : Meant) (f : Doing) (g : ℤ → Doing) → Lasts a Such
    → Computes a b is_read t n1 m k → ((v : ℤ) → Moves b c (With Such k v) n2 (g v)) →
    ((now vs : List ℤ) → Typed a vs → Such vs → Binds (m now vs) (f (active a.path vs) now) (λ v. g v (active a.path vs) now)) →
    Moves a c Such (n1 + n2) f
moves_with laws a b c t Such k n1 n2 m f g lasts p q binds = record {
  continues = continues-trans a (record b { path = a.path }) (record c { path = a.path }) pc
      (continues-at b (record c { path = b.path }) a.path (place_typed a b ty.Bool a.path p.follows.typed p.follows.before.path) q0.continues);
  path = q0.path;
  count = omega (arith, p.count, q0.count);
  few = omega (arith, ap length p.follows.turn_nodes, q0.few);
  gives = λ cells row start now vs r loaded knows such.
      let len = laws.long a.graph cells row vs r in
      let loaded1 = q0.continues.loads cells start loaded in
      let P : Option ℤ → List ℤ → Type 0 = λ o ws. Kept vs ws × Knows b start now ws × IsValue o (at ws k) in
      bind_ends P (Tells c start vs) (m now vs) (f (active a.path vs) now) (λ v. g v (active a.path vs) now) (run b.graph cells row) (run c.graph cells row) k
      (binds now vs (λ u j h. laws.typed a cells row start vs u j p.follows.before r (p.follows.loads cells start loaded1) h) such)
      (p.gives cells row start now vs r loaded1 knows)
      (λ s e. q0.continues.stops cells row s e)
      (λ o ws r1 e. e.2)
      (λ o ws r1 e.
      let same_path : active b.path ws ≡ active a.path vs = ap (λ x. active x ws) p.follows.path
      ∙ active_kept ty.Bool a a.path vs ws p.follows.before.path len e.0 in
      ends_weaker (Tells c start ws) (Tells c start vs) (g (at ws k) (active a.path vs) now) (run c.graph cells row)
      (λ i us r2 x. record {
        kept = kept_trans vs ws us (omega (arith, len, laws.long b.graph cells row ws r1, p.follows.longer)) e.0 x.kept;
        knows =
            x.knows;
        reached = x.reached;
      })
      (subst (λ y. EndsIn (Tells c start ws) (g (at ws k) y now) (run c.graph cells row)) same_path
      ((q (at ws k)).gives cells row start now ws r1 loaded e.1 (lasts vs ws len e.0 such, refl))));
}
  where
    q0 : Moves b c (With Such k (pos 0)) n2 (g (pos 0))
    q0 = q (pos 0)

    pc : Continues a (record b { path = a.path })
    pc = subst (λ o. Continues a (record b { path = o })) p.follows.path (follows_continues a b p.follows)

    active_kept : (u : Ty) (s : State) (o : Option ℕ) (vs ws : List ℤ) → IsPlace u s.graph.operations o → length vs ≡ length s.graph.operations → Kept vs ws
        → active o ws ≡ active o vs
    active_kept u s None vs ws h e kept = refl
    active_kept u s (Some j) vs ws h e kept = ap (λ x. not (same x (pos 0))) (kept j (omega (arith, laws.below u s.graph.operations j h, e)))
