-- The last entry with a name, one entry further.
use Rattle.std.proofs.Common.{◌≡◌, ℕ, ◌+◌, ◌<◌, List, length, take, Some, cond, get_or, slice_get, find, reverse, bytes_eq, true, false, Bool, add-one, refl}
use Rattle.std.proofs.Math.Seq.{take-suc}
use Rattle.std.proofs.lemmas.List.{reverse-append}
use Rattle.std.proofs.lemmas.Option.{slice_get_read}
use Rattle.vcp_outside.specs.MemFiles.{last_named}
use Rattle.vcp_outside.specs.declared.mem_files.Entry.{Entry}

-- what is found from the end on, one element further
find-reverse-take : {X : Type 0} (p : X → Bool) (xs : List X) (i : ℕ) (x : X) → i < length xs → x ≡ get_or xs i x
    → find p (reverse (take (i + 1) xs)) ≡ cond (p x) (Some x) (find p (reverse (take i xs)))
find-reverse-take p xs i x h is = rw (add-one, take-suc xs i x h, ← is, reverse-append) refl

-- an entry with the name is the last so far
pub hit : (entries : List Entry) (i : ℕ) (entry : Entry) (name : List ℕ) → i < length entries → entry ≡ get_or entries i entry → bytes_eq entry.name name ≡ true
    → slice_get entries i ≡ last_named (take (i + 1) entries) name
hit entries i entry name h is named =
    rw (find-reverse-take (λ e. bytes_eq e.name name) entries i entry h is, named) (slice_get_read entries (length entries) i entry refl h is)

-- an entry with another name leaves the last one as it was
pub miss : (entries : List Entry) (i : ℕ) (entry : Entry) (name : List ℕ) → i < length entries → entry ≡ get_or entries i entry
    → bytes_eq entry.name name ≡ false
    → last_named (take (i + 1) entries) name ≡ last_named (take i entries) name
miss entries i entry name h is named = rw (find-reverse-take (λ e. bytes_eq e.name name) entries i entry h is, named) refl
