use Rattle.std.proofs.Common.{◌≡◌, false, rules, w64, SFits, [], ◌∷◌, cond}
use borrow.Author.Tests.{tests}
use Rattle.std.proofs.lemmas.Int.{to_z-of_z}
use Rattle.pictures.specs.WavesElements.{holds, first_element, last_element}
use Rattle.pictures.proofs.WavesGoing.{drawn_unless}
use Rattle.vcp_outside.specs.Pens.{and_then}
use Rattle.pictures.proofs.waves.lanes.then_labels.Goals as goal

pub returns-then-not-stretch : goal.returns-then-not-stretch
returns-then-not-stretch g c =
    let l = c.args.layout in
    let s = c.args.stretch in
    let fits : SFits w64 s.first = search rules in
    let other : s.is_level ≡ false = search (tests, rules) in
    let told = rw (c.start-x.ensures.begin, c.first_height-y.ensures) at c.then_text-pen.ensures in
    drawn_unless (first_element l s ∷ cond (holds s) [] (last_element l s ∷ [])) s.is_level other
    (and_then (rw (to_z-of_z w64 s.first fits) at told) c.then_last.ensures)
