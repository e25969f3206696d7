use Rattle.std.proofs.Common.{◌≡◌, ℕ, List, Option, None, sym, ap, ◌∙◌, subst}
use Rattle.op_graph.specs.Lists.{Lists}
use Rattle.op_graph.specs.Rules.{IsPart}
use Rattle.vcp_base.specs.Code.{is_wide}
use Rattle.vcp_typed.specs.Wide.{wide}
use Rattle.vcp_typed.specs.declared.slot.Slot.{Slot}
use Rattle.flat_expr.specs.Begin.{Begins, entered, held_from}
use Rattle.flat_expr.specs.State.{State, IsState, SlotsAllowed}
use Rattle.flat_expr.specs.Told.{names_of}
use Rattle.flat_expr.proofs.Beginning.{begins}
use Rattle.flat_expr.proofs.Codes.{slots_allowed}
use Rattle.flat_expr.proofs.flat.Flat.new.Goals as goal

-- a state before the body
before : List Slot → Lists → List (Option ℕ) → State
before slots graph known = record { slots = slots; graph = graph; known = known; path = None; turn = 0; nought = None; unit = None }

same_state : (l m : List Slot) (g h : Lists) (k n : List (Option ℕ)) → l ≡ m → g ≡ h → k ≡ n → before l g k ≡ before m h n
same_state l m g h k n e f q = ap (λ x. before x g k) e ∙ ap (λ x. before m x k) f ∙ ap (λ x. before m h x) q

pub enter_all-requires-clause-code : goal.enter_all-requires-clause-code
enter_all-requires-clause-code c =
    let p = c.args.program.now in
    let slots : c.deref-2.result.now ≡ p.slots = c.deref-2.ensures.value ∙ c.slots-slots.ensures.slots in
    let profile = c.in_ok-graph.graph.profile in
    let code : is_wide profile ≡ wide p = ap (λ (g : Lists). is_wide g.profile) c.in_ok-graph.ensures ∙ c.profile_of-profile.ensures ∙ c.wide.ensures in
    subst (SlotsAllowed profile) (sym slots) (slots_allowed profile p code)

pub invariant_of-result : goal.invariant_of-result
unfolding before
invariant_of-result c =
    let p = c.args.program.now in
    let slots : c.deref-2.result.now ≡ p.slots = c.deref-2.ensures.value ∙ c.slots-slots.ensures.slots in
    let profile = c.in_ok-graph.graph.profile in
    let code : is_wide profile ≡ wide p = ap (λ (g : Lists). is_wide g.profile) c.in_ok-graph.ensures ∙ c.profile_of-profile.ensures ∙ c.wide.ensures in
    let graph : c.enter_all.new.graph ≡ entered profile (names_of p.slots) p.slots = c.in_ok-known.ensures.graph
    ∙ ap (λ l. entered profile (names_of l) l) slots in
    let known : c.in_ok-known.known.items ≡ held_from 0 p.slots = c.in_ok-known.ensures.known ∙ ap (held_from 0) slots in
    let all = begins profile p code c.slots-slots.ensures.checked (subst IsPart graph c.len-rules.ensures.rules) in
    subst IsState (sym (same_state c.slots-slots.result.now.items.items p.slots c.enter_all.new.graph _ c.in_ok-known.known.items _ c.slots-slots.ensures.slots graph known)) all.state

pub returns : goal.returns
unfolding before
returns c =
    let p = c.args.program.now in
    let slots : c.deref-2.result.now ≡ p.slots = c.deref-2.ensures.value ∙ c.slots-slots.ensures.slots in
    let profile = c.in_ok-graph.graph.profile in
    let code : is_wide profile ≡ wide p = ap (λ (g : Lists). is_wide g.profile) c.in_ok-graph.ensures ∙ c.profile_of-profile.ensures ∙ c.wide.ensures in
    let graph : c.enter_all.new.graph ≡ entered profile (names_of p.slots) p.slots = c.in_ok-known.ensures.graph
    ∙ ap (λ l. entered profile (names_of l) l) slots in
    let known : c.in_ok-known.known.items ≡ held_from 0 p.slots = c.in_ok-known.ensures.known ∙ ap (held_from 0) slots in
    let all = begins profile p code c.slots-slots.ensures.checked (subst IsPart graph c.len-rules.ensures.rules) in
    subst (λ s. Begins s p) (sym (same_state c.slots-slots.result.now.items.items p.slots c.enter_all.new.graph _ c.in_ok-known.known.items _ c.slots-slots.ensures.slots graph known)) all
