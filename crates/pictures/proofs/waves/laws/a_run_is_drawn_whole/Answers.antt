use Rattle.pictures.specs.WavesElements.{waves_elements, width_of, height_of}
use Rattle.pictures.proofs.WavesWholeDrawing.{whole}
use Rattle.pictures.proofs.WavesWholeText.{each_once}
use Rattle.pictures.proofs.waves.laws.a_run_is_drawn_whole.Goals as goal

pub returns-clause-whole : goal.returns-clause-whole
returns-clause-whole c = whole

pub returns-clause-well_formed : goal.returns-clause-well_formed
returns-clause-well_formed c = λ l run period.
    c.pictures_are_well_formed.ensures (width_of l run) (height_of run period) (waves_elements l run period) (each_once l run period)
