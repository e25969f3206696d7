-- Written: how much is written of the lines of some verdicts and of their totals.
use Rattle.std.specs.Prelude.{◌≡◌, ◌+◌, ℕ, List, [], ◌∷◌, ◌++◌, length, Option, Result, Ok, Err}
use Rattle.std.specs.Io.KnownBytes.{Appends}
use Rattle.vcp_outside.specs.Written.{AppendsPart}
use Rattle.fault_injector.specs.declared.campaign.fault.CampaignFault.{CampaignFault}
use Rattle.fault_injector.specs.declared.campaign.fault.CampaignFault.TheVariants as fault

-- whatever the later verdicts are, up to so many, a front of the whole text was written that lacks at least its last byte
abbrev pub PartWritten : {V : Type 0} → (List V → List ℕ) → ℕ → List V → Option (List ℕ) → Option (List ℕ) → Type 0
PartWritten {V} text count vs old new = (later : List V) → length vs + length later ≡ count → AppendsPart old new (text (vs ++ later))

-- all lines of the verdicts before the last were written, and maybe more
abbrev pub EarlierWritten : {V : Type 0} → (List V → List ℕ) → List V → Option (List ℕ) → Option (List ℕ) → Type 0
EarlierWritten {V} lines vs old new =
    (earlier : List V) (last : V) → vs ≡ earlier ++ last ∷ [] → (more : List ℕ) × Appends old new (lines earlier ++ more)

-- What was written where these verdicts were found, of so many groups. At the end it is all, with a verdict for each group; where a write failed it is a
-- part; where memory was wanted for the next verdict it is the lines of those before it.
abbrev pub VerdictsWritten : {V : Type 0} → (List V → List ℕ) → (List V → List ℕ) → ℕ → List V → Option (List ℕ) → Option (List ℕ)
    → Result (Unit {0}) CampaignFault → Type 0
VerdictsWritten lines text count vs old new (Ok _) = (length vs ≡ count) × Appends old new (text vs)
VerdictsWritten lines text count vs old new (Err fault.Write) = PartWritten text count vs old new × EarlierWritten lines vs old new
VerdictsWritten lines text count vs old new (Err fault.Memory) = Appends old new (lines vs)
