-- Facts: what holds of what is told.
use Rattle.std.proofs.Common.{◌≡◌, List, [], ℕ, Option, Some, None, IfSome, sym}
use Rattle.std.proofs.lemmas.List.{append-nil}
use Rattle.std.specs.Io.KnownBytes.{Appends}

pub if_some_weaker : {X : Type 0} (o : Option X) (P Q : X → Type 0) → ((x : X) → P x → Q x) → IfSome o P → IfSome o Q
if_some_weaker None P Q f h = tt
if_some_weaker (Some x) P Q f h = f x h

pub if_some_always : {X : Type 0} (o : Option X) (P : X → Type 0) → ((x : X) → P x) → IfSome o P
if_some_always None P f = tt
if_some_always (Some x) P f = f x

pub if_some_is : {X : Type 0} (o : Option X) (x : X) (P : X → Type 0) → Some x ≡ o → P x → IfSome o P
if_some_is None x P e h = absurd cc
if_some_is (Some y) x P e h = let same : x ≡ y = cc in rw same at h

-- two facts of what is held, seen at two moments between which nothing of it changed
pub if_some_both : {X : Type 0} (o p : Option X) (P Q R : X → Type 0) → p ≡ o → ((x : X) → P x → Q x → R x) → IfSome o P → IfSome p Q → IfSome o R
if_some_both None p P Q R e f h k = tt
if_some_both (Some x) p P Q R e f h k = f x h (rw e at k)

pub appends-nothing : (old : Option (List ℕ)) → Appends old old []
appends-nothing None = tt
appends-nothing (Some bytes) = sym (append-nil bytes)
