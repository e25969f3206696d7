use Rattle.vcp_study_core.proofs.Weights.{drawn_horizon}
use Rattle.vcp_study_core.proofs.studies.study_alone.Goals as goal

pub write_graph-requires-clause-horizon : goal.write_graph-requires-clause-horizon
write_graph-requires-clause-horizon g c = drawn_horizon c.in-Drawn.horizon c.in-Drawn.drawing (rw c.in-Drawn.is at c.requires.sound)

pub returns-in-Drawn : goal.returns-in-Drawn
returns-in-Drawn g c = rw c.in-Drawn.is c.write_graph.ensures

pub returns-in-Cover : goal.returns-in-Cover
returns-in-Cover g c = rw c.in-Cover.is (λ h b n. c.write_cover.ensures)

pub returns-in-Sites : goal.returns-in-Sites
returns-in-Sites g c = rw c.in-Sites.is c.write_sites.ensures

pub returns-in-RestSites : goal.returns-in-RestSites
returns-in-RestSites g c = rw c.in-RestSites.is c.write_rests.ensures
