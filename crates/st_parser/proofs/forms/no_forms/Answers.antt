use Rattle.std.proofs.Common.{refl}
use Rattle.st_parser.proofs.Frames.{forms-none}
use Rattle.st_parser.proofs.forms.no_forms.Goals as goal

pub returns : goal.returns
returns c = rw (c.new.ensures.items, forms-none) refl
