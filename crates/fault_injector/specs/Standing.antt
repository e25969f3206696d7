-- Standing: the faults of a group that are in one cycle.
use Rattle.std.specs.Prelude.{ℕ, ◌≡◌, ◌==◌, cond, List, [], ◌∷◌, ◌++◌}
use Rattle.fault_script.specs.declared.act.Fault.{Fault}
use Rattle.fault_injector.specs.declared.campaign.reruns.standing.Standing.{Standing}

-- those of cycle n, in their order
abbrev pub faults_in : ℕ → List Fault → List Fault
faults_in n [] = []
faults_in n (f ∷ faults) = cond (f.cycle == n) (f ∷ []) [] ++ faults_in n faults

-- what is told of a group and a cycle are the group's faults in that cycle
abbrev pub IsStanding : Standing → Type 0
IsStanding s = s.faults.now ≡ faults_in s.cycle s.group.now
