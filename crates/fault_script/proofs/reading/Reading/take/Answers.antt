use Rattle.fault_script.proofs.GroupsFit.{fits_here}
use Rattle.fault_script.proofs.reading.Reading.take.Goals as goal

pub returns-in-Begin-clause-fits : goal.returns-in-Begin-clause-fits
returns-in-Begin-clause-fits c = fits_here c.args.graph.now c.args.self.now c.begin.new.self c.begin.result c.begin.ensures.fits

pub returns-in-End-clause-fits : goal.returns-in-End-clause-fits
returns-in-End-clause-fits c = fits_here c.args.graph.now c.args.self.now c.end.new.self c.end.result c.end.ensures.fits
