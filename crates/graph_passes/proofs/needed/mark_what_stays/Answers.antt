use Rattle.std.proofs.Common.{◌≡◌, ⊎_elim, ◌<◌, ◌≤◌, false, true, Some, length, slice_get, sym, ap, subst, ◌∙◌, arith}
use Rattle.std.proofs.lemmas.List.{length-replicate}
use Rattle.std.proofs.lemmas.Option.{slice_get_within}
use Rattle.std.specs.Prelude.{vec_capacity}
use Rattle.graph_passes.specs.Pruning.{Needed, must_stay}
use Rattle.graph_passes.specs.Tables.{marked}
use Rattle.graph_passes.proofs.ByTables.{place_by}
use Rattle.graph_passes.proofs.Needing.{stays_needed}
use Rattle.graph_passes.proofs.Queueing.{unmarked, queues_none}
use Rattle.graph_passes.proofs.needed.mark_what_stays.Goals as goal

pub operations-init : goal.operations-init
operations-init c =
    let g = c.args.graph.now in
    record {
      many = ap length c.requires.none ∙ length-replicate (length g.operations) false;
      stays = λ n op lt there must. absurd (omega (arith, lt));
      needed = λ n now. absurd (unmarked (length g.operations) c.args.marks.now n c.requires.none now);
      queue = queues_none (length g.operations) c.args.marks.now c.args.queue.now.items c.requires.none c.requires.empty;
      room = subst (λ n. n ≤ vec_capacity c.args.queue.now) (sym (ap length c.requires.none ∙ length-replicate (length g.operations) false)) c.requires.room;
    }

pub mark_if_it_stays-requires : goal.mark_if_it_stays-requires
mark_if_it_stays-requires c = record {
  place = omega (arith, c.operations.invariant.many, c.operations-test.true, c.len-i-end.ensures.count);
  queue = c.operations.invariant.queue;
  room = c.operations.invariant.room;
}

some_is : {X : Type 0} {a b : X} → Some a ≡ Some b → a ≡ b
some_is e = cc

pub operations-preserved : goal.operations-preserved
operations-preserved c =
    let g = c.args.graph.now in
    let i = c.operations.invariant in
    let op = c.operation.result in
    let e = c.mark_if_it_stays.ensures in
    let after = c.mark_if_it_stays.new.marks in
    record {
      many = e.grows.many ∙ i.many;
      stays = λ n p lt there must. ⊎_elim
          (λ (less : n < c.operations.i). e.grows.kept n (i.stays n p less there must))
          (λ (here : n ≡ c.operations.i).
          let same : p ≡ op = some_is (sym there ∙ ap (slice_get g.operations) here ∙ c.operation.ensures) in
          subst (λ k. marked after k ≡ true) (sym here) (e.marked (ap must_stay (sym same) ∙ must)))
          (place_by n c.operations.i lt);
      needed = λ n now. ⊎_elim
          (λ (was : marked c.operations.marks n ≡ true). i.needed n was)
          (λ (p : (n ≡ c.operations.i) × (must_stay op ≡ true)). subst (Needed g) (sym p.0) (stays_needed g c.operations.i op c.operation.ensures p.1))
          (e.grows.sound n now);
      queue = e.grows.lists;
      room = e.room;
    }

pub returns-clause-stays : goal.returns-clause-stays
returns-clause-stays c = λ k op there must.
    let inside = slice_get_within c.args.graph.now.operations k op there in
    c.operations.invariant.stays k op (omega (arith, inside, c.operations-test.false, c.len-i-end.ensures.count)) there must
