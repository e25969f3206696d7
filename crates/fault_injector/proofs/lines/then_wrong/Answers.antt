use Rattle.std.proofs.Common.{◌≡◌, ℕ, List, ◌++◌, codes, decimal, append_assoc, rules, w64}
use mir.Val.{SFits}
use Rattle.std.proofs.Math.Facts.{to_z-of_z}
use Rattle.vcp_outside.specs.Pens.{written_so}
use Rattle.fault_injector.proofs.lines.then_wrong.Goals as goal

pieces : (text cycle name got want : List ℕ)
    → text ++ (codes "wrong " ++ (cycle ++ (codes " " ++ (name ++ (codes " got " ++ (got ++ (codes " want " ++ want)))))))
    ≡ text ++ (codes "wrong " ++ cycle) ++ (codes " " ++ name) ++ (codes " got " ++ got) ++ (codes " want " ++ want)
pieces text cycle name got want = simp append_assoc

pub returns : goal.returns
returns g c sink name text is =
    let got_fits : SFits w64 c.args.got = search rules in
    let want_fits : SFits w64 c.args.want = search rules in
    let named = rw c.bytes.ensures at (c.texts.ensures _ _ _ (c.numbered.ensures sink name text is)) in
    let got = rw (to_z-of_z {w = w64} {z = c.args.got} got_fits) at (c.signed.ensures _ _ _ named) in
    let all = rw (to_z-of_z {w = w64} {z = c.args.want} want_fits) at (c.signed-2.ensures _ _ _ got) in
    written_so all (pieces text (decimal c.args.cycle) c.args.name.now _ _)
