use Rattle.std.proofs.Common.{◌≡◌, ◌∙◌, ◌+◌, sym, ap, cond, slice_get}
use Rattle.op_graph.specs.Rules.{Scope, place_of}
use Rattle.op_graph.specs.Walk.{entry_at, store_at, is_of}
use Rattle.image_file.specs.Views.{scope_of}
use Rattle.image_file.proofs.Places.{place_is}
use Rattle.image_file.proofs.walk.Walk.place.Goals as goal

pub returns-clause-place : goal.returns-clause-place
returns-clause-place c =
    let s : Scope = scope_of c.args.s.now in
    let i = c.args.i in
    let r = c.requires.rising in
    let h = c.requires.here in
    let law = c.entries_are_found_by_one_walk.ensures in
    let load : c.loaded_at-load.result.0 ≡ (place_of s i).load = c.loaded_at-load.ensures.entry
    ∙ ap (λ k. entry_at (λ l. l.load) (λ l. l.ty) i k (slice_get s.loads k)) h.load ∙ sym (law.load s r.names r.operations i r.loads) in
    let store : c.stored_at-store.result.0 ≡ (place_of s i).store = c.stored_at-store.ensures.entry
    ∙ ap (λ k. store_at s.loads i k (slice_get s.stores k)) h.store ∙ sym (law.store s r.operations i r.stores) in
    let out : c.output_at-out.result.0 ≡ (place_of s i).out = c.output_at-out.ensures.entry
    ∙ ap (λ k. entry_at (λ o. o.op) (λ o. o.ty) i k (slice_get s.outputs k)) h.out ∙ sym (law.out s r.names r.operations i r.outputs) in
    place_is _ _ _ _ _ _ _ _ c.input_at.ensures load store out

pub returns-clause-past : goal.returns-clause-past
returns-clause-past c =
    let s : Scope = scope_of c.args.s.now in
    let i = c.args.i in
    let r = c.requires.rising in
    let h = c.requires.here in
    let law = c.entries_are_found_by_one_walk.ensures in
    record {
      out = c.output_at-out.ensures.next ∙ ap (λ k. cond (is_of (λ o. o.op) i (slice_get s.outputs k)) (k + 1) k) h.out
          ∙ sym (law.out_goes_on s.outputs r.names r.operations i r.outputs);
      load = c.loaded_at-load.ensures.next ∙ ap (λ k. cond (is_of (λ l. l.load) i (slice_get s.loads k)) (k + 1) k) h.load
          ∙ sym (law.load_goes_on s.loads r.names r.operations i r.loads);
      store = c.stored_at-store.ensures.next ∙ ap (λ k. cond (is_of (λ n. n) i (slice_get s.stores k)) (k + 1) k) h.store
          ∙ sym (law.store_goes_on s.loads s.stores r.operations i r.stores);
    }
