use Rattle.std.proofs.Common.{◌≡◌, ◌++◌, length, take, drop, vec_capacity, ap, ◌∙◌, arith}
use Rattle.std.proofs.Math.Seq.{take-append_seam}
use Rattle.coded_machine.specs.CycleEnds.{stored_words}
use Rattle.verdict_tables.proofs.endless.run.store.Goals as goal

pub copy_words-requires : goal.copy_words-requires
copy_words-requires c = omega (arith, ap length c.deref.ensures.value, c.requires.room.held, c.requires.room.past_held)

pub store_words-requires : goal.store_words-requires
store_words-requires c = record { cells = ap length c.deref_mut.ensures.value ∙ c.requires.room.held }

pub returns-clause-room : goal.returns-clause-room
returns-clause-room c =
    let room = c.requires.room in
    let held = c.args.work.now.held in
    let new = c.store_words.new.held in
    let left = drop (length new) held.items in
    let same : length new ≡ length held.items = omega (arith, c.store_words.auto.held, ap length c.deref_mut.ensures.value) in
    let many : held.len ≡ length new = omega (arith, same, held.ok.0) in
    record {
      own = omega (arith, ap vec_capacity c.swap.ensures.x_after, room.past);
      past = omega (arith, ap vec_capacity c.swap.ensures.y_after, room.own);
      past_held = omega (arith, c.copy_words.ensures.capacity, room.past_held);
      held = ap length (ap (λ n. take n (new ++ left)) many ∙ take-append_seam new left) ∙ same ∙ room.held;
      inputs = room.inputs;
    }

pub returns-clause-held : goal.returns-clause-held
returns-clause-held c =
    let held = c.args.work.now.held in
    let new = c.store_words.new.held in
    let left = drop (length new) held.items in
    let many : held.len ≡ length new = omega (arith, c.store_words.auto.held, ap length c.deref_mut.ensures.value, held.ok.0) in
    ap (λ n. take n (new ++ left)) many ∙ take-append_seam new left ∙ c.store_words.ensures
    ∙ ap (stored_words c.args.graph.now) c.deref-2.ensures.value
