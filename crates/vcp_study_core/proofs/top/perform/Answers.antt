use Rattle.vcp_study_core.proofs.ListFaults.{list_coded}
use Rattle.vcp_study_core.proofs.top.perform.Goals as goal

pub returns-in-Waves : goal.returns-in-Waves
returns-in-Waves g c = rw c.in-Waves.is c.waves_command.ensures

pub returns-in-On : goal.returns-in-On
returns-in-On g c = rw c.in-On.is c.image_command.ensures

pub list_command-requires : goal.list_command-requires
list_command-requires g c = list_coded c.in-List.source.now c.in-List.study (rw c.in-List.is at c.requires.sound)

pub returns-in-List : goal.returns-in-List
returns-in-List g c = rw c.in-List.is c.list_command.ensures
