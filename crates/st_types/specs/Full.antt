-- Full: whether memory ran out, which is kept to the end while one step comes after another.
-- How the typing works, and no promise: what it promises is in Typing.
use Rattle.std.specs.Prelude.{◌≡◌, Bool, true, false}

-- Whether memory had run out, before and after a step: where it hasn't after it, it hadn't before, and P is so.
pub record UnlessFull (old new : Bool) (P : Type 0) : Type 0 where
  pub before : new ≡ false → old ≡ false
  pub is : new ≡ false → P

-- a step that takes no memory
pub not-full : {a : Bool} {P : Type 0} → P → UnlessFull a a P
not-full p = record { before = λ o. o; is = λ o. p }

-- memory ran out
pub is-full : {a : Bool} {P : Type 0} → UnlessFull a true P
is-full = record { before = λ o. absurd cc; is = λ o. absurd cc }

-- what follows from a step
pub so : {a b : Bool} {P Q : Type 0} → UnlessFull a b P → (P → Q) → UnlessFull a b Q
so h f = record { before = h.before; is = λ o. f (h.is o) }

-- what follows from two steps, and from three
pub so-two : {a b c : Bool} {P Q R : Type 0} → UnlessFull a b P → UnlessFull b c Q → (P → Q → R) → UnlessFull a c R
so-two h k f = record { before = λ o. h.before (k.before o); is = λ o. f (h.is (k.before o)) (k.is o) }

pub so-three : {a b c d : Bool} {P Q R S : Type 0} → UnlessFull a b P → UnlessFull b c Q → UnlessFull c d R → (P → Q → R → S) → UnlessFull a d S
so-three h k l f = record {
  before = λ o. h.before (k.before (l.before o));
  is = λ o. f (h.is (k.before (l.before o))) (k.is (l.before o)) (l.is o);
}

pub so-four : {a b c d e : Bool} {P Q R S U : Type 0} → UnlessFull a b P → UnlessFull b c Q → UnlessFull c d R → UnlessFull d e S
    → (P → Q → R → S → U) → UnlessFull a e U
so-four h k l m f = record {
  before = λ o. h.before (k.before (l.before (m.before o)));
  is = λ o. f (h.is (k.before (l.before (m.before o)))) (k.is (l.before (m.before o))) (l.is (m.before o)) (m.is o);
}
