use Rattle.std.proofs.Common.{◌≡◌, ◌≢◌, ◌<◌, ◌^◌, false, Option, None, IfSome, length, sym, ap, subst, ◌∙◌}
use Rattle.op_graph.specs.Lists.{Lists}
use Rattle.coded_machine.specs.State.{State, Awaits}
use Rattle.pair_channel.specs.declared.pair_end.PairEnd.{PairEnd}
use Rattle.pair_channel.specs.declared.pair_end.PairEnd.TheVariants as pair
use Rattle.pair_channel.specs.PairStates.{PairState, pair_with_answer}
use Rattle.pair_channel.specs.SoundPair.{SoundPair, Together}
use Rattle.pair_channel.proofs.pair.Pair.put.Goals as goal

pub put-requires : goal.put-requires
put-requires c = subst (λ (q : PairState). Awaits q.first) (sym c.self.view_is) c.requires.1

pub invariant_of-self : goal.invariant_of-self
invariant_of-self c =
    let s = c.self.inside in
    let p : PairState = record { first = s.first; second = s.second; cycles = s.cycles; ended = s.ended } in
    let sound : SoundPair p s.ours s.theirs = c.self.invariant in
    let now : State = c.put.new.self in
    let graph : now.graph ≡ s.first.graph = ap (λ (x : State). x.graph) c.put.ensures in
    let wide = ap (λ (h : Lists). length h.outputs) (sym graph) in
    let none : s.ended ≡ None = ap (λ (q : PairState). q.ended) c.self.view_is ∙ c.requires.0 in
    record {
      one_graph = sound.one_graph ∙ sym graph;
      few = subst (λ (h : Lists). length h.outputs < 2 ^ 32) (sym graph) sound.few;
      ours = sound.ours ∙ wide;
      theirs = sound.theirs ∙ wide;
      between = sound.between;
      cycles = sound.cycles;
      together = λ e.
          let t : Together p = sound.together e in
          record {
            first_going = ap (λ (x : State). x.ended) c.put.ensures ∙ t.first_going;
            second_going = t.second_going;
            first_cycles = ap (λ (x : State). x.cycles) c.put.ensures ∙ t.first_cycles;
            second_cycles = t.second_cycles;
          };
      closed = subst (λ (o : Option PairEnd). IfSome o (λ z. (z ≢ pair.Released) × (now.under_way ≡ false))) (sym none) tt;
    }

pub returns : goal.returns
returns c =
    let s = c.self.inside in
    let with_first : State → PairState = λ m. record { first = m; second = s.second; cycles = s.cycles; ended = s.ended } in
    ap with_first c.put.ensures ∙ ap (λ (q : PairState). pair_with_answer q c.args.answer) c.self.view_is
