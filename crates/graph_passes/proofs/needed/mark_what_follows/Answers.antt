use Rattle.std.proofs.Common.{◌≡◌, ⊎_elim, true, length, refl, ◌∙◌, arith}
use Rattle.std.proofs.lemmas.Option.{slice_get_read}
use Rattle.graph_passes.specs.Marking.{Follows}
use Rattle.graph_passes.specs.Tables.{marked}
use Rattle.graph_passes.proofs.Needing.{follows_needed, done_more, all_done, queue_short}
use Rattle.graph_passes.proofs.needed.mark_what_follows.Goals as goal

pub queue-init : goal.queue-init
queue-init c = record {
  many = c.requires.many;
  queue = c.requires.queue;
  room = c.requires.room;
  kept = λ k here. here;
  done = λ p q k lt there follows. absurd (omega (arith, lt));
  sound = λ all k here. all k here;
}

pub queue-smaller : goal.queue-smaller
queue-smaller c =
    let short = queue_short c.queue.marks c.queue.queue.items c.queue.invariant.queue in
    omega (arith, short, c.queue.invariant.many, c.queue-test.true)

pub mark_following-requires-clause-here : goal.mark_following-requires-clause-here
mark_following-requires-clause-here c =
    let s = c.queue in
    let q = c.index-q.result.now in
    let there = slice_get_read s.queue.items (length s.queue.items) s.next q refl (omega (arith, c.queue-test.true)) c.index-q.ensures in
    s.invariant.queue.are s.next q there

pub queue-preserved : goal.queue-preserved
queue-preserved c =
    let g = c.args.graph.now in
    let i = c.queue.invariant in
    let q = c.index-q.result.now in
    let e = c.mark_following.ensures in
    let there = slice_get_read c.queue.queue.items (length c.queue.queue.items) c.queue.next q refl (omega (arith, c.queue-test.true)) c.index-q.ensures in
    record {
      many = e.grows.many ∙ i.many;
      queue = e.grows.lists;
      room = e.room;
      kept = λ k here. e.grows.kept k (i.kept k here);
      done = done_more g _ _ _ _ c.queue.next q there e.grows e.marked i.done;
      sound = λ all k now. ⊎_elim
          (λ (was : marked c.queue.marks k ≡ true). i.sound all k was)
          (λ (follows : Follows g q k). follows_needed g q k follows (i.sound all q (i.queue.are c.queue.next q there)))
          (e.grows.sound k now);
    }

pub returns-clause-closed : goal.returns-clause-closed
returns-clause-closed c = λ q k follows here.
    let i = c.queue.invariant in
    all_done c.args.graph.now c.queue.marks c.queue.queue.items c.queue.next i.queue i.done (omega (arith, c.queue-test.false)) q k follows here
