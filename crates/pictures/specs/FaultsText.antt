-- FaultsText: the text of the picture of a graph by the verdicts of a script's groups.
use Rattle.std.specs.Prelude.{◌≡◌, ℕ, List, ◌∷◌, ◌++◌, Some, None, codes}
use Rattle.op_graph.specs.Lists.{Lists}
use Rattle.vcp_outside.specs.Elements.{Element}
use Rattle.fault_script.specs.declared.act.Fault.{Fault}
use Rattle.fault_injector.specs.declared.verdicts.Verdict.{Verdict}
use Rattle.fault_injector.specs.declared.lines.Totals.{Totals}
use Rattle.fault_injector.specs.FaultLines.{totals_of}
use Rattle.pictures.specs.Arrangement.{Arrangement, IsArranged}
use Rattle.pictures.specs.Elements.{style, sample, picture_of}
use Rattle.pictures.specs.VerdictLooks.{verdict_looks}

-- the rules of style
abbrev pub faults_style : List ℕ
faults_style =
    codes "text{font:9px monospace}rect{stroke:#333;fill:#fff}line{stroke:#888}.wrong{fill:#f66}.ran-on{fill:#fa6} "
    ++ codes ".same{fill:#fe9}.stopped{fill:#9cf}.refused{fill:#9e9}.cell{fill:#36c}"

-- what the colours say, and how many groups have each verdict
abbrev pub faults_legend : Totals → List Element
faults_legend t =
    style faults_style ∷ (sample 12 (codes "wrong") (codes "wrong") (Some t.wrong) ++ (sample 112 (codes "ran-on") (codes "ran-on") (Some t.ran_on)
    ++ (sample 216 (codes "same") (codes "same") (Some t.same) ++ (sample 312 (codes "stopped") (codes "stopped") (Some t.stopped)
    ++ (sample 420 (codes "refused") (codes "refused") (Some t.refused) ++ (sample 528 (codes "plain") (codes "no fault stands there") None
    ++ sample 680 (codes "cell") (codes "a cell's LOAD (left) or STORE (right)") None))))))

-- the picture of a graph by the verdicts of a script's groups, and by where the boxes stand
abbrev pub faults_text : Lists → List (List Fault) → List Verdict → Arrangement → List ℕ
faults_text g groups vs l = picture_of g (verdict_looks groups vs) (faults_legend (totals_of vs)) l

-- a text is a picture of the graph by these verdicts
pub record IsFaultsPicture (g : Lists) (groups : List (List Fault)) (vs : List Verdict) (text : List ℕ) : Type 0 where
  pub arrangement : Arrangement
  pub arranged : IsArranged g arrangement
  pub told : text ≡ faults_text g groups vs arrangement
