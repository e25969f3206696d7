use Rattle.vcp_study_core.proofs.Carrying.{only_writes}
use Rattle.vcp_study_core.proofs.Sums.{few_names, few_rows}
use Rattle.vcp_study_core.proofs.studies.study_image.Goals as goal

pub returns-in-Alone : goal.returns-in-Alone
returns-in-Alone g c end = rw c.in-Alone.is (only_writes end c.study_alone.ensures)

pub returns-in-Ranges : goal.returns-in-Ranges
returns-in-Ranges g c end = rw c.in-Ranges.is (c.ranges_of_image.ensures end c.args.name.now)

pub returns-in-RunSites : goal.returns-in-RunSites
returns-in-RunSites g c end = rw c.in-RunSites.is (c.run_sites_of_image.ensures end)

pub returns-in-Sum : goal.returns-in-Sum
returns-in-Sum g c end = rw c.in-Sum.is (c.sum_of_image.ensures end c.args.name.now)

pub sum_of_image-requires-clause-few : goal.sum_of_image-requires-clause-few
sum_of_image-requires-clause-few g c = few_names _ c.in-Sum.rows (rw c.in-Sum.is at c.requires.sound)

pub sum_of_image-requires-clause-few_rows : goal.sum_of_image-requires-clause-few_rows
sum_of_image-requires-clause-few_rows g c = few_rows _ c.in-Sum.rows (rw c.in-Sum.is at c.requires.sound)

pub returns-in-Faults : goal.returns-in-Faults
returns-in-Faults g c end = rw c.in-Faults.is (c.faults_of_image.ensures c.args.name.now)

pub returns-in-Script : goal.returns-in-Script
returns-in-Script g c end = rw c.in-Script.is (c.script_of_image.ensures c.args.name.now)
