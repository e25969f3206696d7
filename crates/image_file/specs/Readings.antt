-- Readings: what a reader has read, which keeps the first fault.
use Rattle.std.specs.Prelude.{◌≡◌, Bool, true, false, List, ℕ, Option, Some, None, Result, Ok, Err}
use Rattle.image_file.specs.declared.fields.fault.FieldFault.{FieldFault}
use Rattle.image_file.specs.declared.fields.fault.ReadError.{ReadError}
use Rattle.image_file.specs.declared.fields.fault.ReadError.TheVariants as errors
use Rattle.image_file.specs.declared.fields.reading.Reader.{Reader}

-- Which fault is kept before and after a step, where reading on from before it gives `all`, and from after it `more`.
-- Where none is kept after it, none was before, and both are the same. The fault that it meets is that of all.
-- The one that was kept before it is kept.
pub record GoesOn {B : Type 0} (old new : Option ReadError) (all more : Result B FieldFault) : Type 0 where
  pub before : new ≡ None → old ≡ None
  pub same : new ≡ None → all ≡ more
  pub fault : old ≡ None → (f : FieldFault) → new ≡ Some (errors.FieldFault f) → all ≡ Err f
  pub keeps : (e : ReadError) → old ≡ Some e → new ≡ Some e

-- x is read, and the bytes after it are left
abbrev pub Takes : {X : Type 0} → Reader → Reader → (List ℕ → Result (X × List ℕ) FieldFault) → X → Type 0
Takes old new read x = GoesOn old.fault new.fault (read old.left.now) (Ok (x, new.left.now))

-- no byte is read
abbrev pub Keeps : Reader → Reader → Type 0
Keeps old new = GoesOn old.fault new.fault (Ok old.left.now) (Ok new.left.now)

-- which fault is kept after a test, whose failing has this one
abbrev pub kept : Option ReadError → Bool → ReadError → Option ReadError
kept (Some e) passes error = Some e
kept None true error = None
kept None false error = Some error
