-- Pens: what is seen of one, what is written with it, and how a text of several pieces is put together.
use mathlib.Core.Path.{subst, sym, ap, ◌∙◌}
use Rattle.std.specs.Prelude.{◌≡◌, ℕ, ◌+◌, ◌<◌, List, [], ◌∷◌, ◌++◌, length, take, get_or, flat_map, Result}
use Rattle.std.specs.Borrow.{GName}
use Rattle.std.proofs.Common.{add-one, take-suc}
use Rattle.std.proofs.lemmas.Grind.{flat_map-append}
use Rattle.std.proofs.lemmas.List.{append_assoc, append-nil}
use Rattle.vcp_outside.specs.declared.failed.Failed.{Failed}
use Rattle.vcp_outside.specs.Seen.{SinkSeen}
use Rattle.vcp_outside.specs.Written.{Writes, WritesTo}
use Rattle.vcp_outside.specs.Gathering.{Gathered, IsGathered}

-- a pen: its sink, the line that is on its way there, and which sink it is
pub record Penned : Type 0 where
  pub sink : SinkSeen
  pub line : Gathered
  pub name : GName

abbrev pub penned : SinkSeen → Gathered → GName → Penned
penned sink line name = record { sink = sink; line = line; name = name }

-- This text is written with the pen, since it was made for the sink of this name, which was seen so: a front of the text is in the sink, or a part
-- of that front after a failure, and the rest is on its way.
pub record HasWritten (sink : SinkSeen) (name : GName) (text : List ℕ) (pen : Penned) : Type 0 where
  pub front : List ℕ
  pub joined : text ≡ front ++ pen.line.pending
  pub written : Writes sink.written pen.sink.written sink.faults pen.sink.faults front pen.line.so_far
  pub same : pen.name ≡ name

-- a call goes on with these bytes: whatever text is written with the pen before it, that text and then the bytes are written with it afterwards
abbrev pub Goes : Penned → Penned → List ℕ → Type 0
Goes old new bytes = (sink : SinkSeen) (name : GName) (text : List ℕ) → HasWritten sink name text old → HasWritten sink name (text ++ bytes) new

-- the last call: the whole text that is written with the pen, and then these bytes, are in the sink, or a part of them after a failure
abbrev pub Ends : Penned → SinkSeen → List ℕ → Result (Unit {0}) Failed → Type 0
Ends pen now bytes result = (sink : SinkSeen) (name : GName) (text : List ℕ) → HasWritten sink name text pen → WritesTo sink now (text ++ bytes) result

-- the same of its line alone, and back
pub gathered : {sink : SinkSeen} {name : GName} {text : List ℕ} {pen : Penned} → HasWritten sink name text pen
    → IsGathered sink.written pen.sink.written sink.faults pen.sink.faults text pen.line
gathered has = record { front = has.front; joined = has.joined; written = has.written }

pub has_written : {sink : SinkSeen} {name : GName} {text : List ℕ} {pen : Penned} → pen.name ≡ name
    → IsGathered sink.written pen.sink.written sink.faults pen.sink.faults text pen.line → HasWritten sink name text pen
has_written same is = record { front = is.front; joined = is.joined; written = is.written; same = same }

-- ---- laws: the text is the same however it is put together

-- nothing
pub unmoved : {x : Penned} → Goes x x []
unmoved {x = x} sink name text is = subst (λ t. HasWritten sink name t x) (sym (append-nil text)) is

-- a piece and another
pub and_then : {x y z : Penned} {s t : List ℕ} → Goes x y s → Goes y z t → Goes x z (s ++ t)
and_then {z = z} {s = s} {t = t} first second sink name text is =
    subst (λ u. HasWritten sink name u z) (append_assoc text s t) (second sink name _ (first sink name text is))

-- the same piece, written otherwise
pub same : {x y : Penned} {s t : List ℕ} → Goes x y s → t ≡ s → Goes x y t
same {x = x} {y = y} goes is = subst (λ u. Goes x y u) (sym is) goes

-- two pieces are one
pub both : {x y z : Penned} (whole s t : List ℕ) → Goes x y s → Goes y z t → whole ≡ s ++ t → Goes x z whole
both whole s t first second is = same (and_then first second) is

-- what is written for the first elements of a list, and then for the next one
pub one_more : {X : Type 0} {x y z : Penned} (f : X → List ℕ) (xs : List X) (i : ℕ) (d : X) → i < length xs → Goes x y (flat_map f (take i xs))
    → Goes y z (f (get_or xs i d)) → Goes x z (flat_map f (take (i + 1) xs))
one_more f xs i d inside first next =
    same (and_then first next)
    (ap (λ n. flat_map f (take n xs)) (add-one i) ∙ (ap (flat_map f) (take-suc xs i d inside)
    ∙ (flat_map-append f (take i xs) (get_or xs i d ∷ []) ∙ ap (λ t. flat_map f (take i xs) ++ t) (append-nil (f (get_or xs i d))))))

-- the same text, written otherwise
pub written_so : {sink : SinkSeen} {name : GName} {x : Penned} {s t : List ℕ} → HasWritten sink name s x → t ≡ s → HasWritten sink name t x
written_so {sink = sink} {name = name} {x = x} has is = subst (λ u. HasWritten sink name u x) (sym is) has

-- the whole text, for whom the sink comes back to: it is the one that the pen was made for
pub ended : {X : Type 0} {back left : X} {sink : SinkSeen} {name : GName} {pen : Penned} {whole text bytes : List ℕ} {result : Result (Unit {0}) Failed}
    (seen : X → SinkSeen) → (name ≡ pen.name → back ≡ left) → HasWritten sink name text pen → Ends pen (seen left) bytes result
    → whole ≡ text ++ bytes → WritesTo sink (seen back) whole result
ended {left = left} {sink = sink} {name = name} {whole = whole} {text = text} {result = result} seen is_back has ends is =
    subst (λ x. WritesTo sink (seen x) whole result) (sym (is_back (sym has.same)))
    (subst (λ t. WritesTo sink (seen left) t result) (sym is) (ends sink name text has))
