use Rattle.fault_sites.specs.Rests.{groups}
use Rattle.vcp_study_core.proofs.sites.write_rests.Goals as goal

pub returns : goal.returns
returns g c h b n =
    let i = c.args.image.now in
    c.chosen_of.ensures.groups i (groups i.graph c.args.cycles) c.args.chosen.now _ _ c.write_chosen_rests-written.ensures.writes
    c.write_chosen_rests-written.ensures.failed
