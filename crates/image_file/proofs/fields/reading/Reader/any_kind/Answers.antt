use Rattle.std.proofs.Common.{sym, ◌∙◌}
use Rattle.image_file.proofs.Chains.{known, unknown, then}
use Rattle.image_file.proofs.fields.reading.Reader.any_kind.Goals as goal

pub returns-in-Some : goal.returns-in-Some
returns-in-Some c = then _ c.read_u8-n.ensures (known _ _ (sym c.kind_of_code.ensures.kind ∙ c.in-Some.is))

pub returns-in-None : goal.returns-in-None
returns-in-None c = then _ c.read_u8-n.ensures (unknown _ _ _ _ (sym c.kind_of_code.ensures.kind ∙ c.in-None.is) c.refuse.ensures.fault)
