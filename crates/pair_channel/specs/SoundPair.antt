-- SoundPair: what holds of every pair.
use Rattle.std.specs.Prelude.{◌≡◌, ◌≢◌, ◌≤◌, ◌<◌, ◌^◌, false, List, length, None, IfSome, ℤ}
use Rattle.vcp_base.specs.Limits.{most_cycles}
use Rattle.pair_channel.specs.declared.pair_end.PairEnd.TheVariants as pair
use Rattle.pair_channel.specs.PairStates.{PairState}

-- where no end is repeated, no machine repeats one and both released as many cycles as the pair
pub record Together (p : PairState) : Type 0 where
  pub first_going : p.first.ended ≡ None
  pub second_going : p.second.ended ≡ None
  pub first_cycles : p.first.cycles ≡ p.cycles
  pub second_cycles : p.second.cycles ≡ p.cycles

-- Both machines carry one graph; the rows kept for them have its outputs' width; the second is never under way between two calls; and
-- an end that is repeated is no release, and leaves the first between two cycles.
pub record SoundPair (p : PairState) (row other : List ℤ) : Type 0 where
  pub one_graph : p.second.graph ≡ p.first.graph
  pub few : length p.first.graph.outputs < 2 ^ 32
  pub ours : length row ≡ length p.first.graph.outputs
  pub theirs : length other ≡ length p.first.graph.outputs
  pub between : p.second.under_way ≡ false
  pub cycles : p.cycles ≤ most_cycles
  pub together : p.ended ≡ None → Together p
  pub closed : IfSome p.ended (λ e. (e ≢ pair.Released) × (p.first.under_way ≡ false))
