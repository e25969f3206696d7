use Rattle.std.proofs.Common.{◌≡◌, ◌+◌, ◌-◌, ◌<◌, ◌≤◌, ℕ, Option, subst, arith}
use Rattle.std.proofs.Math.Nat.{le_trans}
use Rattle.fault_injector.specs.declared.verdicts.Verdict.{Verdict}
use Rattle.fault_injector.specs.Crossing.{CycleRan}
use Rattle.fault_injector.specs.References.{KeptRun}
use Rattle.fault_injector.specs.declared.campaign.reruns.rerun.Work.{Work}
use Rattle.fault_injector.proofs.Crossed.{crossed, judged_there, started}
use Rattle.fault_injector.proofs.PassedOver.{NoMark, between, ends_same, reached}
use Rattle.fault_injector.proofs.RerunRuns.{ends}
use Rattle.fault_injector.proofs.campaign.reruns.rerun.rerun.Goals as goal

one_more : (n m : ℕ) → n < m → n + 1 ≤ m
one_more n m below = omega (arith, below)

some_there : (n count many : ℕ) → n < count → count ≡ many → 0 < many
some_there n count many below is = omega (arith, below, is)

fewer_left : (n here count many : ℕ) → n ≤ here → here < many → count ≡ many → count - (here + 1) < count - n
fewer_left n here count many from below is = omega (arith, from, below, is)

pub cycles-init : goal.cycles-init
cycles-init g c =
    let seen = g.U.Unit.seen c.args.unit.now in
    let r : KeptRun = c.args.reference.now in
    record {
      between =
          started r c.args.group.now c.args.work.now seen.log seen.wrong (c.cycles_by_hand_are_whole.ensures.nothing_carried seen.log seen.wrong)
          c.requires.begun.past_held c.requires.begun.past c.requires.begun.held c.requires.begun.cell_marks;
      room = c.requires.begun.room;
      faults = c.requires.faults;
      count = c.cycles-count.ensures.count;
      within = omega arith;
    }

pub returns-then-ends_same : goal.returns-then-ends_same
returns-then-ends_same g c =
    let r : KeptRun = c.args.reference.now in
    let n = c.cycles.n in
    let w : Work = c.cycles.work in
    let i = c.cycles.invariant in
    let first = g.U.Unit.seen c.args.unit.now in
    let now = g.U.Unit.seen c.cycles.unit in
    let told = c.next_touched-next.ensures in
    let last = c.ends_same.ensures.none c.if-ends_same.true in
    let cells : NoMark w.cell_marks.items =
    subst NoMark c.deref.ensures.value (told.cells (omega (arith, last, c.cycles-test.true, c.cycles-count.ensures.count))) in
    ends_same r c.args.group.now n _ w.held.items w.cell_marks.items first.log now.log first.wrong now.wrong i.within c.cycles-count.ensures.sound.5
    (c.ends_same.ensures.stands c.if-ends_same.true) cells (λ m k above below. told.none m k above (omega (arith, below, last))) i.between

pub returns-in-Some : goal.returns-in-Some
returns-in-Some g c =
    let r : KeptRun = c.args.reference.now in
    let faults = c.args.group.now in
    let here = c.advance-here.result in
    let w : Work = c.cycles.work in
    let v : Work = c.advance-here.new.work in
    let u : Work = c.rerun_one.new.work in
    let first = g.U.Unit.seen c.args.unit.now in
    let before = g.U.Unit.seen c.cycles.unit in
    let after = g.U.Unit.seen c.rerun_one.new.unit in
    let told = c.next_touched-next.ensures in
    let came =
    reached r faults c.cycles.n c.next_touched-next.result c.min.result c.cycles-count.result w v here first.log before.log first.wrong before.wrong
    c.cycles-count.ensures.count c.cycles-count.ensures.few c.cycles-count.ensures.sound.5 c.cycles-test.true told.from c.min.ensures told.none
    (λ below. subst NoMark c.deref.ensures.value (told.cells below)) (c.cycles_by_hand_are_whole.ensures.nothing_carried before.log before.wrong)
    c.cycles.invariant.between c.advance-here.ensures.advanced in
    let ran =
    subst (λ (x : Option Verdict). CycleRan r faults here came.row.0 came.other.0 v u x before.log after.log before.wrong after.wrong) c.in-Some.is
    (c.rerun_one.ensures.ran came.row.0 came.row.1 came.other.0 came.other.1) in
    judged_there r faults here came.row.0 came.other.0 v u c.in-Some.verdict first.log before.log after.log first.wrong before.wrong after.wrong came.row.1
    came.other.1 came.between ran

pub cycles-preserved : goal.cycles-preserved
cycles-preserved g c =
    let r : KeptRun = c.args.reference.now in
    let faults = c.args.group.now in
    let here = c.advance-here.result in
    let w : Work = c.cycles.work in
    let v : Work = c.advance-here.new.work in
    let u : Work = c.rerun_one.new.work in
    let i = c.cycles.invariant in
    let first = g.U.Unit.seen c.args.unit.now in
    let before = g.U.Unit.seen c.cycles.unit in
    let after = g.U.Unit.seen c.rerun_one.new.unit in
    let told = c.next_touched-next.ensures in
    let came =
    reached r faults c.cycles.n c.next_touched-next.result c.min.result c.cycles-count.result w v here first.log before.log first.wrong before.wrong
    c.cycles-count.ensures.count c.cycles-count.ensures.few c.cycles-count.ensures.sound.5 c.cycles-test.true told.from c.min.ensures told.none
    (λ below. subst NoMark c.deref.ensures.value (told.cells below)) (c.cycles_by_hand_are_whole.ensures.nothing_carried before.log before.wrong)
    i.between c.advance-here.ensures.advanced in
    let ran =
    subst (λ (x : Option Verdict). CycleRan r faults here came.row.0 came.other.0 v u x before.log after.log before.wrong after.wrong) c.in_default.is
    (c.rerun_one.ensures.ran came.row.0 came.row.1 came.other.0 came.other.1) in
    record {
      between =
          crossed r faults here came.row.0 came.other.0 v u first.log before.log after.log first.wrong before.wrong after.wrong came.row.1 came.other.1
          came.between ran;
      room = c.rerun_one.ensures.room;
      faults = le_trans i.faults c.rerun_one.ensures.faults;
      count = i.count;
      within = one_more here _ came.there;
    }

pub returns : goal.returns
returns g c =
    let i = c.cycles.invariant in
    let r : KeptRun = c.args.reference.now in
    let w : Work = c.cycles.work in
    let first = g.U.Unit.seen c.args.unit.now in
    let now = g.U.Unit.seen c.cycles.unit in
    ends r c.args.group.now c.cycles.n _ w.held.items w.cell_marks.items first.log now.log first.wrong now.wrong
    (omega (arith, c.cycles-test.false, c.cycles-count.ensures.count)) i.between

pub advance-here-requires : goal.advance-here-requires
advance-here-requires g c =
    let to =
    between c.cycles.n c.next_touched-next.result c.min.result c.cycles-count.result _ c.cycles-test.true c.next_touched-next.ensures.from c.min.ensures
    c.cycles-count.ensures.count in
    record { from = to.0; there = to.1; room = c.cycles.invariant.room }

pub rerun_one-requires : goal.rerun_one-requires
rerun_one-requires g c =
    let r : KeptRun = c.args.reference.now in
    let w : Work = c.cycles.work in
    let first = g.U.Unit.seen c.args.unit.now in
    let before = g.U.Unit.seen c.cycles.unit in
    let told = c.next_touched-next.ensures in
    let came =
    reached r c.args.group.now c.cycles.n c.next_touched-next.result c.min.result c.cycles-count.result w c.advance-here.new.work c.advance-here.result first.log
    before.log first.wrong before.wrong c.cycles-count.ensures.count c.cycles-count.ensures.few c.cycles-count.ensures.sound.5 c.cycles-test.true told.from
    c.min.ensures told.none (λ below. subst NoMark c.deref.ensures.value (told.cells below))
    (c.cycles_by_hand_are_whole.ensures.nothing_carried before.log before.wrong) c.cycles.invariant.between c.advance-here.ensures.advanced in
    record { there = came.there; room = c.advance-here.ensures.room; faults = c.cycles.invariant.faults }

pub next_touched-next-requires : goal.next_touched-next-requires
next_touched-next-requires g c = subst (λ k. c.cycles.n < k) c.cycles-count.ensures.count c.cycles-test.true

pub ends_same-requires : goal.ends_same-requires
ends_same-requires g c = some_there c.cycles.n c.cycles-count.result _ c.cycles-test.true c.cycles-count.ensures.count

pub cycles-smaller : goal.cycles-smaller
cycles-smaller g c =
    let r : KeptRun = c.args.reference.now in
    let w : Work = c.cycles.work in
    let first = g.U.Unit.seen c.args.unit.now in
    let before = g.U.Unit.seen c.cycles.unit in
    let told = c.next_touched-next.ensures in
    let came =
    reached r c.args.group.now c.cycles.n c.next_touched-next.result c.min.result c.cycles-count.result w c.advance-here.new.work c.advance-here.result first.log
    before.log first.wrong before.wrong c.cycles-count.ensures.count c.cycles-count.ensures.few c.cycles-count.ensures.sound.5 c.cycles-test.true told.from
    c.min.ensures told.none (λ below. subst NoMark c.deref.ensures.value (told.cells below))
    (c.cycles_by_hand_are_whole.ensures.nothing_carried before.log before.wrong) c.cycles.invariant.between c.advance-here.ensures.advanced in
    fewer_left c.cycles.n c.advance-here.result c.cycles-count.result _ came.from came.there c.cycles-count.ensures.count
