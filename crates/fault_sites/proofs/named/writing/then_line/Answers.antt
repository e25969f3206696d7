use Rattle.std.proofs.Common.{Result, ap, sym, ◌∙◌}
use Rattle.std.proofs.lemmas.List.{append-nil}
use Rattle.fault_sites.specs.declared.named.meant.Meant.{Meant}
use Rattle.fault_sites.specs.declared.named.refused.Why.{Why}
use Rattle.fault_sites.specs.NamedScript.{entry_of, entry_text, entry_texts}
use Rattle.vcp_outside.specs.Pens.{and_then, same}
use Rattle.fault_sites.proofs.named.writing.then_line.Goals as goal

pub returns-in-Ok : goal.returns-in-Ok
returns-in-Ok g c =
    same (and_then c.texts.ensures (and_then c.text-pen.ensures c.then_meant.ensures))
    (ap (λ (r : Result Meant Why). entry_texts (entry_of c.args.text.now r)) (sym c.meaning.ensures ∙ c.in-Ok.is)
    ∙ append-nil (entry_text (record { text = c.args.text.now; meant = c.in-Ok.meant })))
