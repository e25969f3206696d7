-- Joined: a text, and one more piece behind it.
use Rattle.std.proofs.Common.{◌≡◌, ℕ, List, ◌++◌, Option, Result, Ok, Err, sym, ap, ◌∙◌, append_assoc, length-append, arith}
use Rattle.std.specs.Io.KnownBytes.{Appends}
use Rattle.std.proofs.KnownBytes.{Appends-trans}
use Rattle.vcp_outside.specs.declared.failed.Failed.{Failed}
use Rattle.vcp_outside.specs.Written.{Writes, AppendsPart}

-- all of a text, and behind it a part of a piece
part-behind : (start old new : Option (List ℕ)) (text piece : List ℕ) →
    Appends start old text → AppendsPart old new piece → AppendsPart start new (text ++ piece)
part-behind start old new text piece whole (front, rest, is, left, part) =
    (text ++ front, rest, ap (λ l. text ++ l) is ∙ sym (append_assoc text front rest), left, Appends-trans start old new text front whole part)

-- all of a text, and behind it what a call writes
pub written-behind : {start old new : Option (List ℕ)} {before mid now : ℕ} {text piece : List ℕ} {done : Unit {0}} (r : Result (Unit {0}) Failed) →
    Writes {T = Unit {0}} {E = Failed} start old before mid text (Ok done) → Writes old new mid now piece r → Writes start new before now (text ++ piece) r
written-behind {start = start} {old = old} {new = new} {text = text} {piece = piece} (Ok d) first second = record {
  whole = Appends-trans start old new text piece first.whole second.whole;
  part = tt;
  cause = record {
    later = omega (arith, first.cause.later, second.cause.later);
    capped = λ h. second.cause.capped (first.cause.capped h);
    stayed = second.cause.stayed ∙ first.cause.stayed;
    failed = tt;
  };
}
written-behind {start = start} {old = old} {new = new} {text = text} {piece = piece} (Err e) first second = record {
  whole = tt;
  part = part-behind start old new text piece first.whole second.part;
  cause = record {
    later = omega (arith, first.cause.later, second.cause.later);
    capped = λ h. second.cause.capped (first.cause.capped h);
    stayed = tt;
    failed = omega (arith, first.cause.later, second.cause.failed);
  };
}

-- a part of a text, and nothing behind it
pub cut-before : {start old : Option (List ℕ)} {before now : ℕ} {text : List ℕ} {e : Failed} (piece : List ℕ) →
    Writes {T = Unit {0}} {E = Failed} start old before now text (Err e) → Writes {T = Unit {0}} {E = Failed} start old before now (text ++ piece) (Err e)
cut-before {text = text} piece written =
    let (front, rest, is, left, part) = written.part in
    record {
      whole = tt;
      part = (front, rest ++ piece, ap (λ l. l ++ piece) is ∙ append_assoc front rest piece, rw (length-append rest piece) (omega (arith, left)), part);
      cause = written.cause;
    }

-- two pieces behind a text are one piece behind it
pub as-one : {start old : Option (List ℕ)} {before now : ℕ} {r : Result (Unit {0}) Failed} (text first second both : List ℕ) → both ≡ first ++ second →
    Writes start old before now ((text ++ first) ++ second) r → Writes start old before now (text ++ both) r
as-one text first second both e written = rw (e, ← (append_assoc text first second)) written
