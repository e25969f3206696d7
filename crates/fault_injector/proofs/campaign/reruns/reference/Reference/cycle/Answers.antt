use Rattle.std.proofs.Common.{◌++◌, ◌<◌, List, ℤ, Some, length, slice_get, sym, ap, subst, ◌∙◌}
use Rattle.coded_machine.specs.Honest.{stop_answer}
use Rattle.std.specs.Prelude.{None}
use Rattle.fault_injector.specs.References.{KeptRun, words_answered}
use Rattle.fault_injector.proofs.KeptAnswers.{kept_within, kept_last}
use Rattle.fault_injector.proofs.KeptParts.{last_one, last_part, last_there, part_is}
use Rattle.fault_injector.proofs.campaign.reruns.reference.Reference.cycle.Goals as goal

pub returns-then-n-self : goal.returns-then-n-self
returns-then-n-self c =
    let s = c.self.inside in
    let size = length s.graph.now.operations in
    let n = c.args.n in
    sym (ap (λ (r : KeptRun). slice_get r.answers n) c.self.view_is)
    ∙ (kept_within size s.kept.whole s.kept.words.items s.kept.stop n c.if-n-self.true
    ∙ ap (λ (ws : List ℤ). Some (words_answered ws ++ stop_answer None))
    (part_is n size c.len-operations.result s.kept.words.items c.deref.result.now c.len-operations.ensures.count c.deref.ensures.value))

pub behind-requires : goal.behind-requires
behind-requires c =
    let s = c.self.inside in
    let size = length s.graph.now.operations in
    let n = c.args.n in
    let within = subst (λ (r : KeptRun). n < length r.answers) (sym c.self.view_is) c.requires in
    last_there n s.kept.whole size c.len-operations.result s.kept.words.items c.deref-else-n-self.result.now
    (last_one size s.kept.whole s.kept.words.items s.kept.stop n within c.if-n-self.false) c.len-operations.ensures.count c.deref-else-n-self.ensures.value
    c.self.invariant.there

pub returns-else-n-self : goal.returns-else-n-self
returns-else-n-self c =
    let s = c.self.inside in
    let size = length s.graph.now.operations in
    let n = c.args.n in
    let within = subst (λ (r : KeptRun). n < length r.answers) (sym c.self.view_is) c.requires in
    sym (ap (λ (r : KeptRun). slice_get r.answers n) c.self.view_is)
    ∙ (kept_last size s.kept.whole s.kept.words.items s.kept.stop n c.if-n-self.false within
    ∙ ap (λ (ws : List ℤ). Some (words_answered ws ++ stop_answer s.kept.stop))
    (last_part n size c.len-operations.result s.kept.words.items c.deref-else-n-self.result.now c.len-operations.ensures.count c.deref-else-n-self.ensures.value
    ∙ sym c.behind.ensures))
