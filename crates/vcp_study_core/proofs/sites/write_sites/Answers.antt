use Rattle.fault_sites.specs.SiteText.{classes_name}
use Rattle.fault_sites.specs.Sites.{sites}
use Rattle.vcp_study_core.proofs.ChosenSites.{with_fact}
use Rattle.vcp_study_core.proofs.sites.write_sites.Goals as goal

pub returns : goal.returns
returns g c h b n =
    let i = c.args.image.now in
    with_fact (c.each_site_stands_once.ensures c.args.classes i.graph c.args.cycles)
    (c.chosen_of.ensures.sites i (classes_name c.args.classes) (sites c.args.classes i.graph c.args.cycles) c.args.chosen.now _ _ c.write_chosen_sites-written.ensures.writes
    c.write_chosen_sites-written.ensures.failed)
