use Rattle.std.proofs.Common.{ℕ, ℤ, ◌+◌, List, ◌∷◌, get_or, pos, SFits, to_z, of_z, ap, sym, arith, rules, w64}
use Rattle.std.proofs.lemmas.Int.{to_z-of_z}
use Rattle.std.proofs.lemmas.List.{append-nil}
use Rattle.fault_script.specs.declared.act.Act.TheVariants as act
use Rattle.fault_sites.specs.Rests.{changed}
use Rattle.fault_sites.specs.Sites.{site}
use Rattle.fault_sites.specs.SiteText.{site_line}
use Rattle.fault_sites.specs.Telling.{fed_lines}
use Rattle.fault_sites.proofs.GroupsGoing.{at_there, changed_all, changed_more, changed_none}
use Rattle.vcp_outside.specs.Pens.{and_then, same}
use Rattle.fault_sites.proofs.rests.then_changed.Goals as goal

pub readings-init : goal.readings-init
readings-init g c = changed_none c.args.n _ c.args.rs.now

pub returns : goal.returns
returns g c =
    let fits : SFits w64 c.args.e = search rules in
    same (changed_all c.args.n _ c.args.rs.now c.readings.i c.readings.invariant (omega (arith, c.readings-test.false)))
    (ap (λ (e : ℤ). fed_lines (changed c.args.n e c.args.rs.now)) (sym (to_z-of_z w64 c.args.e fits)))

pub readings-preserved : goal.readings-preserved
readings-preserved g c =
    let r = get_or c.args.rs.now c.readings.i (record { op = 0; operand = 0; borders = 0; multiplier = pos 0 }) in
    changed_more c.args.n _ c.args.rs.now c.readings.i _ c.readings.invariant (at_there c.args.rs.now c.readings.i _ c.readings-test.true)
    (same (and_then c.text.ensures c.then_site-pen.ensures)
    (ap (λ (t : List ℕ). 10 ∷ t) (append-nil (site_line (site (c.args.n + r.borders) r.op (act.OperandAdd r.operand (to_z w64 (of_z w64 c.args.e))))))))
