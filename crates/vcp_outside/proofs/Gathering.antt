-- What is in a line after a step.
use Rattle.std.proofs.Common.{◌≡◌, ℕ, ◌+◌, ◌<◌, List, [], ◌∷◌, ◌++◌, length, take, get_or, flat_map, add-one, Option, Result, Ok, Err, OnErr, IsErr, ap, sym, ◌∙◌, refl, subst, append_assoc, Bool, false, nat_le, ◌≤◌}
use Rattle.std.proofs.Math.Seq.{take-suc}
use Rattle.std.proofs.lemmas.Bool.{false≢true, le-leb}
use Rattle.std.proofs.lemmas.List.{append-nil, flat_map_more}
use Rattle.vcp_outside.specs.declared.failed.Failed.{Failed}
use Rattle.vcp_outside.specs.Written.{Writes}
use Rattle.vcp_outside.specs.Seen.{SinkSeen}
use Rattle.vcp_outside.specs.Gathering.{Gathered, Gathers, IsGathered, GathersTo}
pub use Rattle.vcp_outside.specs.SameText.{written_same, gathered_same}

-- what was pending is written
pub flushed : (start old new : Option (List ℕ)) (before f g : ℕ) (text pending : List ℕ) (line : Gathered) (r : Result (Unit {0}) Failed)
    → IsGathered start old before f text line → pending ≡ []
    → ((front : List ℕ) → Writes start old before f front line.so_far → Writes start new before g (front ++ line.pending) r)
    → IsGathered start new before g (text ++ []) (record { pending = pending; so_far = r })
flushed start old new before f g text pending line r is none goes = record {
  front = is.front ++ line.pending;
  joined = rw (none, is.joined) refl;
  written = goes is.front is.written;
}

-- nothing is pending, and a piece is written at once
pub written_at_once : (start old new : Option (List ℕ)) (before f g : ℕ) (text piece pending : List ℕ) (line : Gathered) (r : Result (Unit {0}) Failed)
    → IsGathered start old before f (text ++ []) line → line.pending ≡ [] → pending ≡ []
    → ((front : List ℕ) → Writes start old before f front line.so_far → Writes start new before g (front ++ piece) r)
    → IsGathered start new before g (text ++ piece) (record { pending = pending; so_far = r })
written_at_once start old new before f g text piece pending line r is none none_now goes =
    let joined : text ≡ is.front = rw (none, append-nil text, append-nil is.front) at is.joined in
    record {
      front = is.front ++ piece;
      joined = rw (none_now, append-nil, joined) refl;
      written = goes is.front is.written;
    }

-- nothing is pending, so that the text is written
pub written_all : {start now : Option (List ℕ)} {before f : ℕ} {text : List ℕ} {line : Gathered}
    → IsGathered start now before f (text ++ []) line → line.pending ≡ [] → Writes start now before f text line.so_far
written_all {text = text} {line = line} is none =
    let joined : text ≡ is.front = rw (none, append-nil text, append-nil is.front) at is.joined in
    rw joined is.written

-- what doesn't change after a failure in one step nor in the next doesn't change in both
pub unchanged_on : {A T E : Type 0} (a b c : A) (r s : Result T E) → OnErr r (b ≡ a) → (IsErr r → IsErr s) → OnErr s (c ≡ b) → OnErr r (c ≡ a)
unchanged_on a b c (Ok v) s first failed second = tt
unchanged_on a b c (Err e) (Ok v) first failed second = absurd (false≢true (failed refl))
unchanged_on a b c (Err e) (Err f) first failed second = second ∙ first

-- the same bytes, told otherwise
pub gathers_as : {a b : Option (List ℕ)} {f g : ℕ} {l m : Gathered} {s t : List ℕ} → Gathers a b f g l m s → t ≡ s → Gathers a b f g l m t
gathers_as {a = a} {b = b} {f = f} {g = g} {l = l} {m = m} goes is = subst (λ (u : List ℕ). Gathers a b f g l m u) (sym is) goes

-- ---- bytes for which there is room

-- the line after them
pub grown : {inside line new : Gathered} (pending bytes : List ℕ) → inside ≡ line → new ≡ record inside { pending = pending }
    → pending ≡ inside.pending ++ bytes → new ≡ record line { pending = line.pending ++ bytes }
grown {inside = inside} pending bytes same is more =
    is ∙ ap (λ (ps : List ℕ). record inside { pending = ps }) more ∙ ap (λ (x : Gathered). record x { pending = x.pending ++ bytes }) same

pub gathered_more : {a : Option (List ℕ)} {f : ℕ} {line new : Gathered} (bytes : List ℕ) → new ≡ record line { pending = line.pending ++ bytes }
    → Gathers a a f f line new bytes
gathered_more {a = a} {f = f} {line = line} bytes is start before text has =
    subst (λ (l : Gathered). IsGathered start a before f (text ++ bytes) l) (sym is) (record {
      front = has.front;
      joined = ap (λ (t : List ℕ). t ++ bytes) has.joined ∙ append_assoc has.front line.pending bytes;
      written = has.written;
    })

pub same_after : {T E A : Type 0} (r : Result T E) (x : A) → OnErr r (x ≡ x)
same_after (Ok v) x = tt
same_after (Err e) x = refl

pub fails_on : {new : Gathered} (line : Gathered) (bytes : List ℕ) → new ≡ record line { pending = line.pending ++ bytes } → IsErr line.so_far → IsErr new.so_far
fails_on line bytes is failed = subst (λ (l : Gathered). IsErr l.so_far) (sym is) failed

-- bytes for which there is none
pub no_room : {inside line : Gathered} (n most : ℕ) (fits : Bool) → inside ≡ line → fits ≡ nat_le (length inside.pending + n) most → fits ≡ false
    → length line.pending + n ≤ most → ⊥
no_room {inside = inside} n most fits same test none room =
    false≢true (sym none ∙ test ∙ le-leb (length inside.pending + n) most (subst (λ (l : Gathered). length l.pending + n ≤ most) (sym same) room))

-- of the elements of a list one more is gathered
pub gathered_next : {X : Type 0} (f : X → List ℕ) (xs : List X) (i : ℕ) (d : X) (old mid new : SinkSeen) (before between now : Gathered)
    → i < length xs → GathersTo old mid before between (flat_map f (take i xs)) → GathersTo mid new between now (f (get_or xs i d))
    → GathersTo old new before now (flat_map f (take (i + 1) xs))
gathered_next f xs i d old mid new before between now inside so_far next start count text here =
    let longer : take (i + 1) xs ≡ take i xs ++ get_or xs i d ∷ [] = rw add-one (take-suc xs i d inside) in
    gathered_same (next start count (text ++ flat_map f (take i xs)) (so_far start count text here))
    (ap (λ ys. text ++ flat_map f ys) longer ∙ sym (flat_map_more f text (take i xs) (get_or xs i d)))
