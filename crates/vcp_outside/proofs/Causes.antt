-- What a call writes after others, and how its count stands.
use Rattle.std.proofs.Common.{◌≡◌, ◌≤◌, ◌<◌, ◌∙◌, ap, sym, ℕ, List, ◌++◌, length}
use Rattle.std.proofs.Common.{take, drop, append_assoc, take-append-drop, length-append, arith, Option, Result, Ok, Err, IsErr}
use Rattle.std.proofs.KnownBytes.{Appends-trans, Appends-kept}
use Rattle.std.proofs.Math.Seq.{take-length}
use Rattle.std.proofs.lemmas.Bool.{false≢true}
use Rattle.std.proofs.lemmas.List.{length-drop}
use Rattle.std.specs.Io.KnownBytes.{Appends, Keeps}
use Rattle.vcp_outside.specs.declared.failed.Failed.{Failed}
use Rattle.vcp_outside.specs.Counts.{HasCause}
use Rattle.vcp_outside.specs.Written.{Writes}
use Rattle.vcp_outside.proofs.Taken.{later_on, capped_on, rose_on}

-- a call that leaves the count as it was
pub cause_stays : {T E : Type 0} {before now : ℕ} {value : T} → now ≡ before → HasCause {E = E} before now (Ok value)
cause_stays same = record {
  later = rw same (omega arith);
  capped = λ within. rw same within;
  stayed = same;
  failed = tt;
}

-- a call after one that left the count as it was
pub cause_on : {T U E : Type 0} {before mid now : ℕ} {value : U} {result : Result T E} → HasCause {E = E} before mid (Ok value) → HasCause mid now result
    → HasCause before now result
cause_on {result = Ok value} first second = record {
  later = later_on first.stayed second.later;
  capped = capped_on first.stayed second.capped;
  stayed = second.stayed ∙ first.stayed;
  failed = tt;
}
cause_on {result = Err why} first second = record {
  later = later_on first.stayed second.later;
  capped = capped_on first.stayed second.capped;
  stayed = tt;
  failed = rose_on first.stayed second.failed;
}

-- one more piece
pub written_on : (start old new : Option (List ℕ)) (before f g : ℕ) (text piece : List ℕ) (done : Unit {0}) (so_far result : Result (Unit {0}) Failed)
    → so_far ≡ Ok done → Writes old new f g piece result → Writes start old before f text so_far
    → Writes start new before g (text ++ piece) result
written_on start old new before f g text piece done so_far (Ok value) is now earlier =
    let first : Writes start old before f text (Ok done) = rw is at earlier in
    record {
      whole = Appends-trans start old new text piece first.whole now.whole;
      part = tt;
      cause = cause_on first.cause now.cause;
    }
written_on start old new before f g text piece done so_far (Err why) is now earlier =
    let first : Writes start old before f text (Ok done) = rw is at earlier in
    let p = now.part in
    record {
      whole = tt;
      part = (text ++ p.0, p.1, ap (λ x. text ++ x) p.2 ∙ sym (append_assoc text p.0 p.1), p.3, Appends-trans start old new text p.0 first.whole p.4);
      cause = cause_on first.cause now.cause;
    }

-- nothing more after a failure
pub written_no_more : (start old : Option (List ℕ)) (before f : ℕ) (text piece : List ℕ) (why again : Failed) (so_far : Result (Unit {0}) Failed)
    → so_far ≡ Err why → Writes start old before f text so_far
    → Writes {T = Unit {0}} start old before f (text ++ piece) (Err again)
written_no_more start old before f text piece why again so_far is earlier =
    let first : Writes {T = Unit {0}} start old before f text (Err why) = rw is at earlier in
    let p = first.part in
    record {
      whole = tt;
      part = (p.0, p.1 ++ piece, ap (λ x. x ++ piece) p.2 ∙ append_assoc p.0 p.1 piece, omega (arith, length-append p.1 piece, p.3), p.4);
      cause = record { later = first.cause.later; capped = first.cause.capped; stayed = tt; failed = first.cause.failed };
    }

-- a piece of which all was written
pub written_whole : (old new : Option (List ℕ)) (before now at : ℕ) (piece : List ℕ) (done : Unit {0}) → at ≤ length piece → length piece ≤ at
    → Appends old new (take at piece) → now ≡ before
    → Writes {E = Failed} old new before now piece (Ok done)
written_whole old new before now at piece done high low bytes same =
    let all : at ≡ length piece = omega (arith, high, low) in
    record { whole = rw (all, take-length piece) at bytes; part = tt; cause = cause_stays same }

-- a piece of which the rest failed
pub written_part : (old mid new : Option (List ℕ)) (before between now at : ℕ) (piece : List ℕ) (why : Failed) (result : Result (Unit {0}) Failed)
    → IsErr result → at < length piece → Appends old mid (take at piece) → between ≡ before → Keeps mid new
    → HasCause {T = ℕ} between now (Err why)
    → Writes old new before now piece result
written_part old mid new before between now at piece why (Ok done) failed some bytes same kept cause = absurd (false≢true failed)
written_part old mid new before between now at piece why (Err again) failed some bytes same kept cause = record {
  whole = tt;
  part = (
    take at piece,
    drop at piece,
    sym (take-append-drop at piece),
    omega (arith, length-drop at piece, some),
    Appends-kept old mid new (take at piece) bytes kept,
  );
  cause = record { later = later_on same cause.later; capped = capped_on same cause.capped; stayed = tt; failed = rose_on same cause.failed };
}
