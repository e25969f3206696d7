use Rattle.std.proofs.Common.{◌≡◌, map, ap, ◌∙◌}
use Rattle.std.proofs.lemmas.Result.{IfOk-weaker}
use Rattle.fault_cover.specs.Beginnings.{AreReadings, starts_of}
use Rattle.fault_cover.proofs.Gathering.{are_readings}
use Rattle.fault_cover.proofs.starts.readings.Goals as goal

pub returns : goal.returns
returns c =
    let g = c.args.graph.now in
    let words = c.in_ok-by_word.by_word.items in
    IfOk-weaker c.starts_by_word.result (λ starts. starts.items ≡ map (starts_of c.args.profile) c.deref.result.now) (λ starts. AreReadings g starts.items)
    (λ starts are. are_readings g words starts.items c.in_ok-by_word.ensures
    (are ∙ ap (map (starts_of c.args.profile)) c.deref.ensures.value ∙ ap (λ p. map (starts_of p) words) c.requires))
    c.starts_by_word.ensures
