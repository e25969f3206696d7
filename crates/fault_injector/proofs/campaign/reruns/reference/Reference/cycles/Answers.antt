use Rattle.std.proofs.Common.{length, ap, arith}
use Rattle.fault_injector.specs.References.{KeptRun, kept_cycles}
use Rattle.fault_injector.proofs.KeptAnswers.{count_stop, cycles_few, kept_count}
use Rattle.fault_injector.proofs.campaign.reruns.reference.Reference.cycles.Goals as goal

pub overflow_add-result : goal.overflow_add-result
overflow_add-result c =
    let s = c.self.inside in
    let size = length s.graph.now.operations in
    let count = kept_count size s.kept.whole s.kept.words.items s.kept.stop in
    let few = cycles_few s.graph.now s.table.now 0 s.rows.now (kept_cycles size s.kept.whole s.kept.words.items s.kept.stop) c.self.invariant.all in
    let answers = ap (λ (r : KeptRun). length r.answers) c.self.view_is in
    let rows = ap (λ (r : KeptRun). length r.rows) c.self.view_is in
    omega (arith, count, few, ap count_stop c.in-Some.is, c.self.invariant.few)

pub returns-in-Some-clause-count : goal.returns-in-Some-clause-count
returns-in-Some-clause-count c =
    let s = c.self.inside in
    let size = length s.graph.now.operations in
    let count = kept_count size s.kept.whole s.kept.words.items s.kept.stop in
    let few = cycles_few s.graph.now s.table.now 0 s.rows.now (kept_cycles size s.kept.whole s.kept.words.items s.kept.stop) c.self.invariant.all in
    let answers = ap (λ (r : KeptRun). length r.answers) c.self.view_is in
    let rows = ap (λ (r : KeptRun). length r.rows) c.self.view_is in
    omega (arith, count, answers, ap count_stop c.in-Some.is)

pub returns-in-Some-clause-few : goal.returns-in-Some-clause-few
returns-in-Some-clause-few c =
    let s = c.self.inside in
    let size = length s.graph.now.operations in
    let count = kept_count size s.kept.whole s.kept.words.items s.kept.stop in
    let few = cycles_few s.graph.now s.table.now 0 s.rows.now (kept_cycles size s.kept.whole s.kept.words.items s.kept.stop) c.self.invariant.all in
    let answers = ap (λ (r : KeptRun). length r.answers) c.self.view_is in
    let rows = ap (λ (r : KeptRun). length r.rows) c.self.view_is in
    omega (arith, count, few, answers, rows, ap count_stop c.in-Some.is)

pub returns-in-None-clause-count : goal.returns-in-None-clause-count
returns-in-None-clause-count c =
    let s = c.self.inside in
    let size = length s.graph.now.operations in
    let count = kept_count size s.kept.whole s.kept.words.items s.kept.stop in
    let few = cycles_few s.graph.now s.table.now 0 s.rows.now (kept_cycles size s.kept.whole s.kept.words.items s.kept.stop) c.self.invariant.all in
    let answers = ap (λ (r : KeptRun). length r.answers) c.self.view_is in
    let rows = ap (λ (r : KeptRun). length r.rows) c.self.view_is in
    omega (arith, count, answers, ap count_stop c.in-None.is)

pub returns-in-None-clause-few : goal.returns-in-None-clause-few
returns-in-None-clause-few c =
    let s = c.self.inside in
    let size = length s.graph.now.operations in
    let count = kept_count size s.kept.whole s.kept.words.items s.kept.stop in
    let few = cycles_few s.graph.now s.table.now 0 s.rows.now (kept_cycles size s.kept.whole s.kept.words.items s.kept.stop) c.self.invariant.all in
    let answers = ap (λ (r : KeptRun). length r.answers) c.self.view_is in
    let rows = ap (λ (r : KeptRun). length r.rows) c.self.view_is in
    omega (arith, count, few, answers, rows, ap count_stop c.in-None.is)
