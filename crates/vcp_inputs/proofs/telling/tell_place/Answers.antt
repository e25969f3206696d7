use Rattle.std.proofs.Common.{◌≡◌, ℕ, List, ◌++◌, codes, decimal, append_assoc, rules, refl}
use Rattle.vcp_inputs.proofs.Lines.{writes_same}
use Rattle.vcp_outside.specs.Pens.{ended}
use Rattle.vcp_inputs.proofs.telling.tell_place.Goals as goal

pieces : (name place what : List ℕ)
    → name ++ (codes ":" ++ (place ++ (codes " " ++ (what ++ codes "\n")))) ≡ name ++ (codes ":" ++ place) ++ (codes " " ++ what) ++ codes "\n"
pieces name place what = simp append_assoc

pub returns : goal.returns
returns g c =
    let place = c.numbered.ensures _ _ _ (c.text.ensures _ _ _ (c.new.ensures)) in
    writes_same (ended g.E.Sink.seen (search rules) (c.texts.ensures _ _ _ place) c.end.ensures refl) (pieces c.args.name.now (decimal c.args.place) c.args.what.now)
