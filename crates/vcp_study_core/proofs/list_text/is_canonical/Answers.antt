use Rattle.std.proofs.Common.{◌≡◌, sym, ◌∙◌}
use Rattle.std.proofs.lemmas.Slice.Eq.{bytes_eq-Decides}
use Rattle.vcp_study_core.proofs.list_text.is_canonical.Goals as goal

pub returns-in-Ok-Some : goal.returns-in-Ok-Some
returns-in-Ok-Some c yes_same =
    let (tree, is, written) = rw c.in-Ok-Some.field-0-is at c.in-Ok-Some.ensures in
    let same = (bytes_eq-Decides c.bytes.result.now c.bytes-in-Ok-Some.result.now).0 (sym c.eq.ensures ∙ yes_same) in
    let own : c.in-Ok-Some.canonical ≡ c.args.text.now = sym c.bytes.ensures ∙ same ∙ c.bytes-in-Ok-Some.ensures in
    (tree, is, sym own ∙ written)
