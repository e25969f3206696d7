use Rattle.std.proofs.Common.{rules, w64, SFits, [], ◌∷◌, sym, ◌∙◌}
use Rattle.std.proofs.lemmas.Int.{to_z-of_z}
use Rattle.pictures.specs.WavesElements.{holds, last_element}
use Rattle.pictures.proofs.WavesGoing.{drawn_unless, one_drawn}
use Rattle.pictures.proofs.waves.lanes.then_last.Goals as goal

pub returns-then-not-holds : goal.returns-then-not-holds
returns-then-not-holds g c =
    let last = last_element c.args.layout c.args.stretch in
    let fits : SFits w64 c.args.stretch.last = search rules in
    let told = rw (c.saturating_sub-x.ensures, c.start.ensures.begin, c.height_by-y.ensures) at c.then_text.ensures in
    drawn_unless (last ∷ []) (holds c.args.stretch) (sym c.holds.ensures ∙ c.if-not-holds.true)
    (one_drawn last (rw (to_z-of_z w64 c.args.stretch.last fits) at told))
