use Rattle.fault_sites.specs.SiteText.{classes_name}
use Rattle.fault_sites.specs.Sites.{sites}
use Rattle.fault_sites.proofs.WrittenScripts.{how_many_written, part_written}
use Rattle.fault_sites.proofs.scripts.of_class.write_chosen_sites.Goals as goal

pub returns-in-Some-clause-writes : goal.returns-in-Some-clause-writes
returns-in-Some-clause-writes g c =
    part_written _ _ c.args.graph.now c.args.table.now (classes_name c.args.classes) (sites c.args.classes c.args.graph.now c.args.cycles) c.args.chosen.now
    c.count_sites-total.result c.in-Some.part c.write_part.result c.count_sites-total.ensures c.in-Some.ensures c.write_part.ensures.writes

pub returns-in-Some-clause-failed : goal.returns-in-Some-clause-failed
returns-in-Some-clause-failed g c = c.write_part.ensures.failed

pub returns-in-None-clause-writes : goal.returns-in-None-clause-writes
returns-in-None-clause-writes g c =
    how_many_written _ _ c.args.graph.now c.args.table.now (classes_name c.args.classes) (sites c.args.classes c.args.graph.now c.args.cycles) c.args.chosen.now
    c.count_sites-total.result c.write_number.result c.count_sites-total.ensures c.in-None.ensures c.write_number.ensures.writes

pub returns-in-None-clause-failed : goal.returns-in-None-clause-failed
returns-in-None-clause-failed g c = c.write_number.ensures.failed
