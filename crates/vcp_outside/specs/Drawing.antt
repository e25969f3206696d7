-- Drawing: what is drawn of numbered things, one behind the other.
use Rattle.std.specs.Prelude.{ℕ, zero, suc, List, [], ◌++◌}

-- what f gives for each number below n, in order
abbrev pub each_below : {X : Type 0} → (ℕ → List X) → ℕ → List X
each_below f zero = []
each_below f (suc n) = each_below f n ++ f n
