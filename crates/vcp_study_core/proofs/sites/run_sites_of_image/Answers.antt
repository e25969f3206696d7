use Rattle.fault_sites.specs.RunSites.{run_class_name, run_sites}
use Rattle.vcp_study_core.proofs.Carrying.{lost, then_writes}
use Rattle.vcp_study_core.proofs.ChosenSites.{with_fact}
use Rattle.vcp_study_core.proofs.sites.run_sites_of_image.Goals as goal

pub returns-in-Ok : goal.returns-in-Ok
returns-in-Ok g c end =
    let i = c.args.image.now in
    let class = c.args.class in
    let rows = c.in-Ok.list in
    then_writes (c.in-Ok.ensures.fetches end) (λ h b n.
    with_fact
    (c.each_run_site_stands_once.ensures class i.table i.graph rows c.step-step.ensures.ranges c.in-Ok.ensures.few c.len-operations.ensures.rules.part.few_operations)
    (c.chosen_of.ensures.sites i (run_class_name class) (run_sites class i.table i.graph rows) c.args.chosen.now _ _
    c.write_chosen_run_sites-written.ensures.writes c.write_chosen_run_sites-written.ensures.failed))

pub returns-in-Err : goal.returns-in-Err
returns-in-Err g c end = lost (c.in-Err.ensures.fetches end)

pub write_chosen_run_sites-written-requires-clause-few : goal.write_chosen_run_sites-written-requires-clause-few
write_chosen_run_sites-written-requires-clause-few g c = c.in-Ok.ensures.few

pub write_chosen_run_sites-written-requires-clause-width : goal.write_chosen_run_sites-written-requires-clause-width
write_chosen_run_sites-written-requires-clause-width g c = c.in-Ok.ensures.width
