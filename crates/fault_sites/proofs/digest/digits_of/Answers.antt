use Rattle.std.proofs.Common.{arith, ◌≤◌, ℕ, All, List, sym, subst}
use Rattle.std.specs.Prelude.{IsOk, Result, Ok, Err, OnOk}
use Rattle.fault_sites.proofs.Plain.{plain}
use Rattle.fault_sites.proofs.digest.digits_of.Goals as goal

-- what holds after success, holds where it succeeded
holds_of : {T E : Type 0} (r : Result T E) (X : Type 0) → IsOk r → OnOk r X → X
holds_of (Ok done) X is x = x
holds_of (Err e) X is x = absurd cc

pub returns-clause-plain : goal.returns-clause-plain
returns-clause-plain c =
    let P : List ℕ → Type 0 = λ xs. All (λ b. 32 ≤ b) xs in
    let written =
    holds_of c.encode_to_slice-written.result _
    (c.encode_to_slice-written.ensures.fits.1 (omega (arith, c.requires))) c.encode_to_slice-written.ensures.written in
    subst P (sym written) (plain c.args.hash.now (λ k. omega (arith, c.type_inv.hash k)))
