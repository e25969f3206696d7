use Rattle.std.proofs.Common.{◌≡◌, ◌<◌, nat_lt, false, refl, sym, ap, ◌∙◌, arith}
use Rattle.std.proofs.lemmas.Bool.Decides.{nat_tests}
use Rattle.fault_sites.specs.declared.run_class.RunClass.{RunClass}
use Rattle.fault_sites.specs.declared.run_class.RunClass.TheVariants as run
use Rattle.fault_sites.specs.RunSites.{cycle_of, in_cycle}
use Rattle.fault_sites.specs.Running.{before}
use Rattle.fault_sites.specs.Acts.{sites_by}
use Rattle.fault_sites.specs.Flips.{flips_in}
use Rattle.fault_sites.specs.RunActs.{act_at, columns, rows}
use Rattle.fault_sites.specs.RunCycle.{RunCycle}
use Rattle.fault_sites.proofs.Few.{flips_many}
use Rattle.fault_sites.proofs.Going.{tells_none, tells_same}
use Rattle.fault_sites.proofs.Rows.{flip_sites, late_sites}
use Rattle.fault_sites.proofs.RunGoing.{passed_by, same_cycle}
use Rattle.fault_sites.proofs.run_sites.then_cycle.Goals as goal

pub returns-then-count-part : goal.returns-then-count-part
returns-then-count-part g c =
    let now = before c.args.graph.now c.args.run.now in
    let are = c.args.run.now.values.operations.items in
    let cycle : RunCycle = record {
      graph = c.args.graph.now;
      table = c.args.table.now;
      cycle = c.args.n;
      cells = c.deref.result.now;
      past = c.deref-2.result.now;
      values = c.deref-3.result.now;
    } in
    tells_same
    (passed_by (flips_in cycle) _ (omega (arith, flips_many cycle, c.len.ensures.count)) c.requires.going c.if-count-part.true)
    (ap (λ (d : RunClass). in_cycle d (cycle_of c.args.table.now c.args.n now are)) c.in-Flips.is
    ∙ same_cycle run.Flips c.args.table.now c.args.n now c.args.graph.now _ _ _ are refl c.deref.ensures.value c.deref-2.ensures.value c.deref-3.ensures.value)

pub then_acts-requires : goal.then_acts-requires
then_acts-requires g c = record { same = refl; few = c.requires.few; later = λ e. absurd (cc) }

pub returns-else-count-part : goal.returns-else-count-part
returns-else-count-part g c =
    let now = before c.args.graph.now c.args.run.now in
    let are = c.args.run.now.values.operations.items in
    let cycle : RunCycle = record {
      graph = c.args.graph.now;
      table = c.args.table.now;
      cycle = c.args.n;
      cells = c.deref.result.now;
      past = c.deref-2.result.now;
      values = c.deref-3.result.now;
    } in
    tells_same c.then_acts.ensures
    (ap (λ (d : RunClass). in_cycle d (cycle_of c.args.table.now c.args.n now are)) c.in-Flips.is
    ∙ (same_cycle run.Flips c.args.table.now c.args.n now c.args.graph.now _ _ _ are refl c.deref.ensures.value c.deref-2.ensures.value c.deref-3.ensures.value
    ∙ (flip_sites cycle
    ∙ ap (λ (d : RunClass). sites_by (rows d) (columns d cycle.graph) (act_at d cycle) cycle.graph cycle.cycle) (sym c.in-Flips.is))))

pub returns-then-n-eq0 : goal.returns-then-n-eq0
returns-then-n-eq0 g c =
    let now = before c.args.graph.now c.args.run.now in
    let are = c.args.run.now.values.operations.items in
    let first : nat_lt 0 c.args.n ≡ false = grind (arith, nat_tests) in
    tells_same tells_none
    (ap (λ (d : RunClass). in_cycle d (cycle_of c.args.table.now c.args.n now are)) c.in-Late.is
    ∙ (same_cycle run.Late c.args.table.now c.args.n now c.args.graph.now _ _ _ are refl c.deref.ensures.value c.deref-2.ensures.value c.deref-3.ensures.value
    ∙ rw first refl))

pub then_acts-requires-else-n-eq0 : goal.then_acts-requires-else-n-eq0
then_acts-requires-else-n-eq0 g c = record { same = refl; few = c.requires.few; later = λ _. omega (arith, c.if-n-eq0.false) }

pub returns-else-n-eq0 : goal.returns-else-n-eq0
returns-else-n-eq0 g c =
    let now = before c.args.graph.now c.args.run.now in
    let are = c.args.run.now.values.operations.items in
    let cycle : RunCycle = record {
      graph = c.args.graph.now;
      table = c.args.table.now;
      cycle = c.args.n;
      cells = c.deref.result.now;
      past = c.deref-2.result.now;
      values = c.deref-3.result.now;
    } in
    let later : 0 < c.args.n = omega (arith, c.if-n-eq0.false) in
    tells_same c.then_acts-else-n-eq0.ensures
    (ap (λ (d : RunClass). in_cycle d (cycle_of c.args.table.now c.args.n now are)) c.in-Late.is
    ∙ (same_cycle run.Late c.args.table.now c.args.n now c.args.graph.now _ _ _ are refl c.deref.ensures.value c.deref-2.ensures.value c.deref-3.ensures.value
    ∙ (late_sites cycle later
    ∙ ap (λ (d : RunClass). sites_by (rows d) (columns d cycle.graph) (act_at d cycle) cycle.graph cycle.cycle) (sym c.in-Late.is))))
