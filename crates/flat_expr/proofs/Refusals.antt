-- Refusals: what a call leaves that gives no number.
use Rattle.std.proofs.Common.{◌≡◌, ℕ, ◌+◌, ◌≤◌, ◌↔◌, Bool, false, length, get_or, None, Result, Ok, Err, refl, sym, ap, ◌∙◌, subst, arith}
use Rattle.std.specs.Prelude.{IfErr, OnErr}
use Rattle.vcp_base.specs.Limits.{most_operations}
use Rattle.op_graph.specs.declared.build.Build.{Build}
use Rattle.op_graph.specs.declared.build.Build.TheVariants as build
use Rattle.op_graph.specs.Lists.{Lists}
use Rattle.flat_expr.specs.State.{State, IsState, Follows, Leaves, Refuses, no_slot, reserved, unknown}
use Rattle.flat_expr.proofs.Steps.{follows-self, follows-trans}

-- nothing was added
unchanged : (p : ℕ → Bool) (old new : State) (n : ℕ) (r : Result ℕ Build) → IsState old → length old.graph.operations + 1 ≤ reserved old + n
    → OnErr r (new ≡ old) → ((r ≡ Err build.Full) ↔ (length old.graph.operations ≡ most_operations)) → IfErr r (λ e. Leaves old new p n e)
unchanged p old new n (Ok k) i some h f = tt
unchanged p old new n (Err e) i some h f = record {
  follows = subst (λ s. Follows old s) (sym h) (follows-self old i);
  unread = λ slot no. ap (λ (s : State). get_or s.known slot None) h;
  full = λ is. ap (λ (s : State). length s.graph.operations) h ∙ f.0 (ap (λ x. Err x) is);
  room = λ is. let all = f.0 (ap (λ x. Err x) is) in omega (arith, all, some);
}

pub push_refuses : (old new : State) (r : Result ℕ Build) → IsState old → OnErr r (new ≡ old)
    → ((r ≡ Err build.Full) ↔ (length old.graph.operations ≡ most_operations)) → IfErr r (λ e. Refuses old new 1 e)
push_refuses old new r i h f = unchanged no_slot old new 1 r i (omega arith) h f

-- a constant of masks is wanted only where it is missing
pub constant_refuses : (old new : State) (r : Result ℕ Build) → IsState old → 1 + length old.graph.operations ≤ reserved old → OnErr r (new ≡ old)
    → ((r ≡ Err build.Full) ↔ (length old.graph.operations ≡ most_operations)) → IfErr r (λ e. Refuses old new 0 e)
constant_refuses old new r i some h f = unchanged no_slot old new 0 r i (omega (arith, some)) h f

pub load_refuses : (p : ℕ → Bool) (s : State) (g : Lists) (r : Result ℕ Build) → IsState s → 1 ≤ unknown s.known → OnErr r (g ≡ s.graph)
    → ((r ≡ Err build.Full) ↔ (length s.graph.operations ≡ most_operations)) → IfErr r (λ e. Leaves s (record s { graph = g }) p 0 e)
load_refuses p s g (Ok k) i some h f = tt
load_refuses p s g (Err e) i some h f = record {
  follows = subst (λ x. Follows s (record s { graph = x })) (sym h) (follows-self s i);
  unread = λ slot no. refl;
  full = λ is. ap (λ (x : Lists). length x.operations) h ∙ f.0 (ap (λ x. Err x) is);
  room = λ is. let all = f.0 (ap (λ x. Err x) is) in omega (arith, all, some);
}

-- a refusal after a step that reads some slots
pub later_leaves : (p q all : ℕ → Bool) (old mid new : State) (n m : ℕ) (r : Result ℕ Build)
    → ((slot : ℕ) → all slot ≡ false → (p slot ≡ false) × (q slot ≡ false)) → Follows old mid
    → ((slot : ℕ) → p slot ≡ false → get_or mid.known slot None ≡ get_or old.known slot None) → reserved mid ≤ reserved old + n
    → IfErr r (λ e. Leaves mid new q m e) → IfErr r (λ e. Leaves old new all (n + m) e)
later_leaves p q all old mid new n m (Ok k) split f u c h = tt
later_leaves p q all old mid new n m (Err e) split f u c h = record {
  follows = follows-trans old mid new f h.follows;
  unread = λ slot no. h.unread slot (split slot no).1 ∙ u slot (split slot no).0;
  full = h.full;
  room = λ is. let lt = h.room is in omega (arith, lt, c);
}

pub later_refuses : (old mid new : State) (n m : ℕ) (r : Result ℕ Build) → Follows old mid
    → ((slot : ℕ) → no_slot slot ≡ false → get_or mid.known slot None ≡ get_or old.known slot None) → reserved mid ≤ reserved old + n
    → IfErr r (λ e. Refuses mid new m e) → IfErr r (λ e. Refuses old new (n + m) e)
later_refuses old mid new n m r f u c h = later_leaves no_slot no_slot no_slot old mid new n m r (λ slot no. (refl, refl)) f u c h

-- a call that may read more slots, and add more
pub more_leaves : (p q : ℕ → Bool) (old new : State) (n m : ℕ) (r : Result ℕ Build) → ((slot : ℕ) → q slot ≡ false → p slot ≡ false) → n ≤ m
    → IfErr r (λ e. Leaves old new p n e) → IfErr r (λ e. Leaves old new q m e)
more_leaves p q old new n m (Ok k) fewer le h = tt
more_leaves p q old new n m (Err e) fewer le h = record {
  follows = h.follows;
  unread = λ slot no. h.unread slot (fewer slot no);
  full = h.full;
  room = λ is. let lt = h.room is in omega (arith, lt, le);
}

pub more_refuses : (old new : State) (n m : ℕ) (r : Result ℕ Build) → n ≤ m → IfErr r (λ e. Refuses old new n e) → IfErr r (λ e. Refuses old new m e)
more_refuses old new n m r le h = more_leaves no_slot no_slot old new n m r (λ slot no. no) le h

-- a part of a number
pub at_least : (n k m : ℕ) → m ≡ n + k → n ≤ m
at_least n k m is = omega (arith, is)
