use Rattle.fault_sites.proofs.LateOnce.{each_run_once}
use Rattle.fault_sites.proofs.laws.each_run_site_stands_once.Goals as goal

pub returns : goal.returns
returns c = λ class t g rows table few many.
    each_run_once c.signatures_are_distinct.ensures c.expected_residues_are_residues.ensures c.words_split_in_one_way.ensures t table class g rows few many
