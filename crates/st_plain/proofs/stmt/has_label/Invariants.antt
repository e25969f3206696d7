use Rattle.std.proofs.Common.{◌≡◌, drop}
use Rattle.std.specs.List.{list_any}
use Rattle.vcp_typed.specs.Meaning.{is_labelled}
use Rattle.st_plain.proofs.stmt.has_label.Given as goal

abbrev pub invariant-each : goal.invariant-each
invariant-each l = list_any (is_labelled l.v) (drop l.label-index l.labels) ≡ list_any (is_labelled l.v) l.labels
