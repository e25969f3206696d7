-- Spending: what the calls that write a part of the groups do, one after another.
use Rattle.std.specs.Prelude.{◌≡◌, ℕ, ◌-◌, ◌==◌, ◌||◌, Bool, cond, nat_lt, nat_le, List, [], ◌∷◌, ◌++◌, length, codes}
use Rattle.fault_sites.specs.declared.budget.Budget.{Budget}
use Rattle.fault_sites.specs.declared.site.Site.{Site}
use Rattle.fault_sites.specs.Telling.{fed_lines}
use Rattle.vcp_outside.specs.Pens.{Penned, Goes}

-- what of a group is written within a budget, and what is left of it then
abbrev pub one_within : Budget → List Site → List (List Site)
one_within b xs = cond (b.left == 0) [] (cond (nat_lt 0 b.skip) [] (cond (nat_le (length xs) b.room) (xs ∷ []) []))

abbrev pub one_behind : Budget → List Site → Budget
one_behind b xs =
    cond (b.left == 0) b
    (cond (nat_lt 0 b.skip) (record { skip = b.skip - 1; left = b.left; room = b.room })
    (cond (nat_le (length xs) b.room) (record { skip = 0; left = b.left - 1; room = b.room - length xs }) (record { skip = 0; left = 0; room = b.room })))

-- of these groups, one after another
abbrev pub within : Budget → List (List Site) → List (List Site)
within b [] = []
within b (xs ∷ more) = one_within b xs ++ within (one_behind b xs) more

abbrev pub behind : Budget → List (List Site) → Budget
behind b [] = b
behind b (xs ∷ more) = behind (one_behind b xs) more

-- these groups, each behind the LF of the line before it
abbrev pub fed_groups : List (List Site) → List ℕ
fed_groups [] = []
fed_groups (xs ∷ more) = codes "\nbegin" ++ (fed_lines xs ++ (codes "\nend" ++ fed_groups more))

-- a call goes on with those of these groups that are within the budget, and gives what is left of it
pub record Spends (old new : Penned) (b next : Budget) (gs : List (List Site)) : Type 0 where
  pub gathers : Goes old new (fed_groups (within b gs))
  pub left : next ≡ behind b gs

-- a part with so much room has begun with its first group, where this is left of its budget, or it has none
abbrev pub is_begun : ℕ → Budget → Bool
is_begun room next = nat_lt 0 next.left || nat_lt next.room room

abbrev pub has_begun : ℕ → ℕ → Budget → Bool
has_begun room left next = (left == 0) || is_begun room next
