use Rattle.image_file.specs.Views.{parts}
use Rattle.image_file.proofs.Kept.{fits_graph}
use Rattle.image_file.proofs.whole.Whole.into_graph.Goals as goal

pub from_lists-graph-requires : goal.from_lists-graph-requires
from_lists-graph-requires c = rw (c.requires.loads, c.requires.stores) (fits_graph (parts c.args.self) c.requires.fits).graph

pub new-requires-clause-seed : goal.new-requires-clause-seed
new-requires-clause-seed c = (fits_graph (parts c.args.self) c.requires.fits).seed_to

pub new-requires-clause-step_from : goal.new-requires-clause-step_from
new-requires-clause-step_from c = (fits_graph (parts c.args.self) c.requires.fits).step_from

pub new-requires-clause-step_to : goal.new-requires-clause-step_to
new-requires-clause-step_to c = (fits_graph (parts c.args.self) c.requires.fits).step_to
