use Rattle.std.proofs.Common.{sym, ◌∙◌}
use Rattle.image_file.proofs.Chains.{known, unknown, then}
use Rattle.image_file.proofs.head.version_here.Goals as goal

pub returns-in-Some : goal.returns-in-Some
returns-in-Some c = then _ c.read_u16-n.ensures (known _ _ (sym c.profile_named.ensures ∙ c.in-Some.is))

pub returns-in-None : goal.returns-in-None
returns-in-None c = then _ c.read_u16-n.ensures (unknown _ _ _ _ (sym c.profile_named.ensures ∙ c.in-None.is) c.refuse.ensures.fault)
