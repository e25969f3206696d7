-- GroupLines: the lines of a script of faults on a pair of channels. Each ends with LF.
use Rattle.std.specs.Prelude.{ℕ, ◌+◌, List, [], ◌∷◌, ◌++◌, decimal, codes}
use Rattle.fault_injector.specs.declared.campaign.pairs.lines.PairTotals.{PairTotals}
use Rattle.fault_injector.specs.declared.campaign.pairs.verdict.PairVerdict.{PairVerdict}
use Rattle.fault_injector.specs.declared.campaign.pairs.verdict.PairVerdict.TheVariants as held

-- the channels agree to the end, or a cycle is held
abbrev pub shown : PairVerdict → List ℕ
shown held.Same = codes "same"
shown (held.Held cycle) = codes "held " ++ decimal cycle

-- the verdict on a group, after the number of the script's line on which it begins
abbrev pub group_text : ℕ → PairVerdict → List ℕ
group_text line v = decimal line ++ (codes " " ++ (shown v ++ codes "\n"))

-- ---- all verdicts of a script

-- how many there are
abbrev pub groups_in : PairTotals → ℕ
groups_in t = t.same + t.held

-- one more
abbrev pub counted : PairTotals → PairVerdict → PairTotals
counted t held.Same = record t { same = t.same + 1 }
counted t (held.Held cycle) = record t { held = t.held + 1 }

-- before any
abbrev pub no_groups : PairTotals
no_groups = record { same = 0; held = 0 }

-- the totals of verdicts
abbrev pub totals_after : PairTotals → List PairVerdict → PairTotals
totals_after t [] = t
totals_after t (v ∷ vs) = totals_after (counted t v) vs

abbrev pub totals_of : List PairVerdict → PairTotals
totals_of vs = totals_after no_groups vs

-- how many groups a script has, and how many of each verdict
abbrev pub pair_totals_text : PairTotals → List ℕ
pair_totals_text t = codes "pairs " ++ (decimal (groups_in t) ++ (codes " same " ++ (decimal t.same ++ (codes " held " ++ (decimal t.held ++ codes "\n")))))
