-- Carried: the faults that a scripted unit carries out, and the words that it keeps for them.
use Rattle.std.specs.Prelude.{List, map, Option, ℤ}
use Rattle.fault_script.specs.declared.act.Fault.{Fault}
use Rattle.fault_injector.specs.declared.runs.scripted.Carried.{Carried}

abbrev pub faults_of : List Carried → List Fault
faults_of carried = map (λ c. c.fault) carried

abbrev pub keeps_of : List Carried → List (Option ℤ)
keeps_of carried = map (λ c. c.kept) carried
