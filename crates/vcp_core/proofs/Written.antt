-- Bytes that were written in one step and then another.
use Rattle.std.proofs.Common.{◌≡◌, ℕ, ◌≤◌, Result, Ok, Err, arith, length-append, List, ◌++◌, Option, append_assoc, ◌∙◌}
use Rattle.std.proofs.KnownBytes.{Appends-trans}
use Rattle.std.specs.Io.KnownBytes.{Appends}
use Rattle.vcp_outside.specs.Counts.{last_count}
use Rattle.vcp_outside.specs.Written.{AppendsPart, Writes}

-- some bytes were written and then others, which together are all of these
pub appends-appends : (a b c : Option (List ℕ)) (p q all : List ℕ) → Appends a b p → Appends b c q → all ≡ p ++ q → Appends a c all
appends-appends a b c p q all first second is = rw is (Appends-trans a b c p q first second)

-- a part of some bytes, written after others, is a part of all of them with more behind
pub part-after : (a b c : Option (List ℕ)) (p q more all : List ℕ) → Appends a b p → AppendsPart b c q → all ≡ p ++ q ++ more → AppendsPart a c all
part-after a b c p q more all before (front, rest, is, some, taken) whole =
    (p ++ front, rest ++ more, rw (whole, is) (simp append_assoc), rw length-append (omega arith), Appends-trans a b c p front before taken)

-- some bytes were written, and then a call failed in the midst of others
pub failed_after : {T E : Type 0} (e : E) (a b c : Option (List ℕ)) (f g h : ℕ) (p q more all : List ℕ)
    → Appends a b p → f ≤ g → (f ≤ last_count → g ≤ last_count) → Writes {T = T} b c g h q (Err e) → all ≡ p ++ q ++ more → Writes {T = T} a c f h all (Err e)
failed_after e a b c f g h p q more all before later capped failure is = record {
  whole = tt;
  part = part-after a b c p q more all before failure.part is;
  cause = record {
    later = omega (arith, failure.cause.later);
    capped = λ within. failure.cause.capped (capped within);
    stayed = tt;
    failed = omega (arith, failure.cause.failed);
  };
}

-- the same bytes, written otherwise
pub writes_same : {T E : Type 0} {a b : Option (List ℕ)} {f g : ℕ} {p q : List ℕ} {r : Result T E} → Writes a b f g p r → q ≡ p → Writes a b f g q r
writes_same written is = rw is written

-- a call that answers something else where another wrote all of the same bytes, or a part of them
pub writes_answer : {T U E : Type 0} (t : T) (u : U) {a b : Option (List ℕ)} {f g : ℕ} {p q : List ℕ} → Writes {T = T} {E = E} a b f g p (Ok t) → q ≡ p
    → Writes {T = U} {E = E} a b f g q (Ok u)
writes_answer t u written is = record {
  whole = rw is written.whole;
  part = tt;
  cause = record { later = written.cause.later; capped = written.cause.capped; stayed = written.cause.stayed; failed = tt };
}

pub fails_answer : {T U E : Type 0} (e : E) {a b : Option (List ℕ)} {f g : ℕ} {p q : List ℕ} → Writes {T = T} {E = E} a b f g p (Err e) → q ≡ p
    → Writes {T = U} {E = E} a b f g q (Err e)
fails_answer e written is = record {
  whole = tt;
  part = rw is written.part;
  cause = record { later = written.cause.later; capped = written.cause.capped; stayed = tt; failed = written.cause.failed };
}

-- all of some bytes was written and then all of others
pub writes-on : {T E : Type 0} (x y z : T) (a b c : Option (List ℕ)) (f g h : ℕ) (p q all : List ℕ) → Writes {T = T} {E = E} a b f g p (Ok x)
    → Writes {T = T} {E = E} b c g h q (Ok y) → all ≡ p ++ q → Writes {T = T} {E = E} a c f h all (Ok z)
writes-on x y z a b c f g h p q all before next is = record {
  whole = rw is (Appends-trans a b c p q before.whole next.whole);
  part = tt;
  cause = record {
    later = omega (arith, before.cause.later, next.cause.later);
    capped = λ within. next.cause.capped (before.cause.capped within);
    stayed = next.cause.stayed ∙ before.cause.stayed;
    failed = tt;
  };
}

-- and then a call failed in the midst of others
pub writes-fail : {T E : Type 0} (x : T) (e d : E) (a b c : Option (List ℕ)) (f g h : ℕ) (p q more all : List ℕ) → Writes {T = T} {E = E} a b f g p (Ok x)
    → Writes {T = T} b c g h q (Err e) → all ≡ p ++ q ++ more → Writes {T = T} a c f h all (Err d)
writes-fail x e d a b c f g h p q more all before failure is =
    let w = failed_after e a b c f g h p q more all before.whole before.cause.later before.cause.capped failure is in
    record { whole = tt; part = w.part; cause = record { later = w.cause.later; capped = w.cause.capped; stayed = tt; failed = w.cause.failed } }
