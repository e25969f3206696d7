-- What files hold, and what their calls answer of it.
use Rattle.std.specs.Prelude.{◌≡◌, ◌⊎◌, ℕ, List, Option, None, Result, IsSome, IfSome, OnErr, MatchResult}
use Rattle.std.specs.Io.KnownBytes.{IsAtEnd}
use Rattle.vcp_outside.specs.Counts.{Rose}

-- the bytes under each name, if there are any
abbrev pub Held : Type 0
Held = List ℕ → Option (List ℕ)

-- what is unread after a file was begun: its bytes, which are held, and nothing after a failure
abbrev pub Begins : {T E : Type 0} → Option Held → List ℕ → Result T E → Option (List ℕ) → Type 0
Begins held name result rest = MatchResult result (λ _. IfSome held (λ h. IsSome rest × (rest ≡ h name))) (λ _. IsAtEnd rest)

-- where it is told what is held, a name is refused only where it is lacking or the files broke
abbrev pub OnlyLackingOrBroken : {T E : Type 0} → Option Held → List ℕ → ℕ → ℕ → Result T E → Type 0
OnlyLackingOrBroken held name before now result = IfSome held (λ h. OnErr result ((h name ≡ None) ⊎ Rose before now))

-- where it is told what is held, a call fails only where the files broke
abbrev pub OnlyBroken : {T E : Type 0} → Option Held → ℕ → ℕ → Result T E → Type 0
OnlyBroken held before now result = IfSome held (λ h. OnErr result (Rose before now))
