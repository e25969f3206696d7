use Rattle.std.proofs.Common.{refl}
use Rattle.fault_injector.specs.FaultLines.{totals_of}
use Rattle.pictures.specs.FaultsText.{faults_legend}
use Rattle.pictures.specs.VerdictLooks.{verdict_looks}
use Rattle.pictures.proofs.verdicts.laws.a_picture_is_well_formed.Goals as goal

pub returns : goal.returns
returns c g groups vs l =
    c.a_graph_is_drawn_whole.ensures.well_formed g (verdict_looks groups vs) (faults_legend (totals_of vs)) l
    (refl, (refl, (refl, (refl, (refl, (refl, (refl, (refl, (refl, (refl, (refl, (refl, (refl, (refl, (refl, tt)))))))))))))))
