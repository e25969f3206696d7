-- States: what a cycle leaves of a pair.
use Rattle.std.proofs.Common.{ℕ, ◌+◌, ◌<◌, ◌≤◌, ◌≡◌, ◌≢◌, ◌↔◌, ◌^◌, inl, inr, false, refl, sym, ap, subst, ◌∙◌, List, length, arith, ℤ, Option, Some, None, IfSome}
use Rattle.std.proofs.lemmas.List.{length-map}
use Rattle.vcp_base.specs.Limits.{most_cycles}
use Rattle.op_graph.specs.Lists.{Lists}
use Rattle.coded_machine.specs.declared.cycle_end.CycleEnd.{CycleEnd}
use Rattle.coded_machine.specs.declared.cycle_end.CycleEnd.TheVariants as end
use Rattle.coded_machine.specs.CycleEnds.{outputs_of}
use Rattle.coded_machine.specs.State.{State, given, after_end, row_after, Awaits, Finished}
use Rattle.pair_channel.specs.declared.pair_end.PairEnd.{PairEnd}
use Rattle.pair_channel.specs.declared.pair_end.PairEnd.TheVariants as pair
use Rattle.pair_channel.specs.PairEnds.{both, PairCause}
use Rattle.pair_channel.specs.PairStates.{PairState, PairAwaits, PairFinished, after_pair, cycles_after, ended_after, pair_row_after}
use Rattle.pair_channel.specs.SoundPair.{SoundPair, Together}
use Rattle.pair_channel.proofs.Ends.{both_cause, both_first_row, both_second_row}

-- what is said of an end that there isn't
pub if_none : {X : Type 0} (o : Option X) (P : X → Type 0) → o ≡ None → IfSome o P
if_none None P none = tt
if_none (Some x) P none = absurd cc

-- a release sets the row, and its cause is that both channels released theirs
row_set : (m : State) (e : CycleEnd) (x : List ℤ) → e ≡ end.Released → row_after m e x ≡ outputs_of m.graph (given m)
row_set m e x is = ap (λ z. row_after m z x) is

released_row : (p : PairEnd) (row more out : List ℤ) → (p ≡ pair.Released → row ≡ more) → pair_row_after p row out ≡ pair_row_after p more out
released_row pair.Released row more out h = h refl
released_row (pair.Stopped k why) row more out h = refl
released_row (pair.Parted e f) row more out h = refl
released_row (pair.Differ i x y) row more out h = refl

first_released : (p : PairEnd) (e f : CycleEnd) (row other : List ℤ) → PairCause e f row other p → p ≡ pair.Released → e ≡ end.Released
first_released p e f row other h is = (subst (PairCause e f row other) is h).0

second_released : (p : PairEnd) (e f : CycleEnd) (row other : List ℤ) → PairCause e f row other p → p ≡ pair.Released → f ≡ end.Released
second_released p e f row other h is = (subst (PairCause e f row other) is h).1

-- the pair's end by these ends and rows, its cause, and the caller's row after it
pub record Settled (e f : CycleEnd) (row other : List ℤ) (p : PairEnd) (out_before out_now : List ℤ) : Type 0 where
  pub end_is : p ≡ both e f row other
  pub cause : PairCause e f row other p
  pub out_is : out_now ≡ pair_row_after p row out_before

pub settled : (e f : CycleEnd) (m k : State) (x y ours theirs out_before out_now : List ℤ) (p : PairEnd) → k.graph ≡ m.graph → ours ≡ row_after m e x →
    theirs ≡ row_after k f y → p ≡ both e f ours theirs → out_now ≡ pair_row_after p ours out_before →
    Settled e f (outputs_of m.graph (given m)) (outputs_of k.graph (given k)) p out_before out_now
settled e f m k x y ours theirs out_before out_now p one_graph mine other is out =
    let row = outputs_of m.graph (given m) in
    let beside = outputs_of k.graph (given k) in
    let wide : length row ≡ length beside =
    length-map m.graph.outputs _ ∙ (ap (λ (g : Lists). length g.outputs) (sym one_graph) ∙ sym (length-map k.graph.outputs _)) in
    let end_is : p ≡ both e f row beside =
    is ∙ (both_first_row e f ours theirs row (λ h. mine ∙ row_set m e x h) ∙ both_second_row e f row theirs beside (λ h. other ∙ row_set k f y h)) in
    let cause : PairCause e f row beside p = subst (PairCause e f row beside) (sym end_is) (both_cause e f row beside wide) in
    record {
      end_is = end_is;
      cause = cause;
      out_is = out ∙ released_row p ours row out_before (λ h. mine ∙ row_set m e x (first_released p e f row beside cause h));
    }

-- ---- what holds of every pair

released_machine : (m n : State) (e : CycleEnd) → n ≡ after_end m e → e ≡ end.Released → (n.ended ≡ m.ended) × (n.cycles ≡ m.cycles + 1)
released_machine m n e is released =
    let all : n ≡ after_end m end.Released = is ∙ ap (after_end m) released in (
      ap (λ (s : State). s.ended) all,
      ap (λ (s : State). s.cycles) all,
    )

none_ended : (p : PairEnd) → ended_after p ≡ None → p ≡ pair.Released
none_ended pair.Released h = refl
none_ended (pair.Stopped k why) h = absurd cc
none_ended (pair.Parted e f) h = absurd cc
none_ended (pair.Differ i x y) h = absurd cc

closed_by : (p : PairEnd) (first : State) → first.under_way ≡ false → IfSome (ended_after p) (λ e. (e ≢ pair.Released) × (first.under_way ≡ false))
closed_by pair.Released first between = tt
closed_by (pair.Stopped k why) first between = (λ h. absurd cc, between)
closed_by (pair.Parted e f) first between = (λ h. absurd cc, between)
closed_by (pair.Differ i x y) first between = (λ h. absurd cc, between)

pub few_more : (n : ℕ) → n ≤ n + 1
few_more n = omega arith

pub counted : (p : PairEnd) (n : ℕ) → cycles_after p n ≤ n + 1
counted pair.Released n = omega arith
counted (pair.Stopped k why) n = omega arith
counted (pair.Parted e f) n = omega arith
counted (pair.Differ i x y) n = omega arith

released_count : (p : PairEnd) (n : ℕ) → p ≡ pair.Released → cycles_after p n ≡ n + 1
released_count p n is = ap (λ q. cycles_after q n) is

pub sound_after : (old : PairState) (ours theirs : List ℤ) (m k first second : State) (e f : CycleEnd) (row other mine more : List ℤ) (p : PairEnd)
    (cycles : ℕ) (ended : Option PairEnd) → SoundPair old ours theirs → old.ended ≡ None → old.cycles < most_cycles →
    (m.ended ≡ old.first.ended) × (m.cycles ≡ old.first.cycles) → (k.ended ≡ old.second.ended) × (k.cycles ≡ old.second.cycles) →
    first ≡ after_end m e → second ≡ after_end k f → first.graph ≡ old.first.graph → second.graph ≡ old.second.graph → first.under_way ≡ false →
    second.under_way ≡ false → PairCause e f row other p → length mine ≡ length ours → length more ≡ length theirs → cycles ≡ cycles_after p old.cycles →
    ended ≡ ended_after p → SoundPair (record { first = first; second = second; cycles = cycles; ended = ended }) mine more
sound_after old ours theirs m k first second e f row other mine more p cycles ended sound going few as_first as_second is_first is_second graph graph_too
    between between_too cause wide wide_too count is_ended =
    let together : Together old = sound.together going in
    let outputs : length first.graph.outputs ≡ length old.first.graph.outputs = ap (λ (g : Lists). length g.outputs) graph in
    record {
      one_graph = graph_too ∙ (sound.one_graph ∙ sym graph);
      few = subst (λ (g : Lists). length g.outputs < 2 ^ 32) (sym graph) sound.few;
      ours = wide ∙ (sound.ours ∙ sym outputs);
      theirs = wide_too ∙ (sound.theirs ∙ sym outputs);
      between = between_too;
      cycles = omega (arith, count, counted p old.cycles, few);
      together = λ none.
          let released : p ≡ pair.Released = none_ended p (sym is_ended ∙ none) in
          let one = released_machine m first e is_first (first_released p e f row other cause released) in
          let two = released_machine k second f is_second (second_released p e f row other cause released) in
          let more_one : cycles ≡ old.cycles + 1 = count ∙ released_count p old.cycles released in
          record {
            first_going = one.0 ∙ (as_first.0 ∙ together.first_going);
            second_going = two.0 ∙ (as_second.0 ∙ together.second_going);
            first_cycles = omega (arith, one.1, as_first.1, together.first_cycles, more_one);
            second_cycles = omega (arith, two.1, as_second.1, together.second_cycles, more_one);
          };
      closed = subst (λ o. IfSome o (λ z. (z ≢ pair.Released) × (first.under_way ≡ false))) (sym is_ended) (closed_by p first between);
    }

-- what a cycle of both machines and the settling of its end leave of a pair
pub left_by : (old : PairState) (ours theirs : List ℤ) (m k first second : State) (e f : CycleEnd) (mine more kept out_before out_now : List ℤ) (p : PairEnd)
    (cycles : ℕ) (ended : Option PairEnd) → SoundPair old ours theirs → old.ended ≡ None → old.cycles < most_cycles →
    m ≡ record old.first { answers = m.answers; under_way = m.under_way } → k ≡ record old.second { answers = k.answers; under_way = k.under_way } →
    first ≡ after_end m e → second ≡ after_end k f → first.graph ≡ old.first.graph → second.graph ≡ old.second.graph → first.under_way ≡ false →
    second.under_way ≡ false → mine ≡ row_after m e ours → more ≡ row_after k f theirs → length mine ≡ length ours → length more ≡ length theirs →
    p ≡ both e f mine more → length kept ≡ length mine → out_now ≡ pair_row_after p mine out_before → cycles ≡ cycles_after p old.cycles →
    ended ≡ ended_after p →
    SoundPair (record { first = first; second = second; cycles = cycles; ended = ended }) kept more
    × Settled e f (outputs_of m.graph (given m)) (outputs_of k.graph (given k)) p out_before out_now
left_by old ours theirs m k first second e f mine more kept out_before out_now p cycles ended sound going few as_first as_second is_first is_second graph
    graph_too between between_too row other wide wide_too is_end wide_kept out count is_ended =
    let one_graph : k.graph ≡ m.graph =
    ap (λ (s : State). s.graph) as_second ∙ (sound.one_graph ∙ sym (ap (λ (s : State). s.graph) as_first)) in
    let done = settled e f m k ours theirs mine more out_before out_now p one_graph row other is_end out in (
      sound_after old ours theirs m k first second e f (outputs_of m.graph (given m)) (outputs_of k.graph (given k)) kept more p cycles ended sound going few
          (ap (λ (s : State). s.ended) as_first, ap (λ (s : State). s.cycles) as_first)
          (ap (λ (s : State). s.ended) as_second, ap (λ (s : State). s.cycles) as_second) is_first is_second graph graph_too between between_too
          done.cause (wide_kept ∙ wide) wide_too count is_ended,
      done,
    )

pub pair_left : (p : PairState) (first second : State) (e : PairEnd) (cycles : ℕ) (ended : Option PairEnd) → cycles ≡ cycles_after e p.cycles →
    ended ≡ ended_after e → after_pair p first second e ≡ record { first = first; second = second; cycles = cycles; ended = ended }
pair_left p first second e cycles ended count is =
    let with_count : ℕ → PairState = λ n. record { first = first; second = second; cycles = n; ended = ended_after e } in
    let with_end : Option PairEnd → PairState = λ o. record { first = first; second = second; cycles = cycles; ended = o } in
    ap with_count (sym count) ∙ ap with_end (sym is)

-- ---- what the conditions of a call are of its fields

pub first_finished : (p q : PairState) → p ≡ q → p.ended ≡ None → PairFinished q → Finished p.first
first_finished p q same none (inl h) = absurd (h (ap (λ (x : PairState). x.ended) (sym same) ∙ none))
first_finished p q same none (inr h) = subst (λ (x : PairState). Finished x.first) (sym same) h

pub finished_as : (p q : PairState) (X : Type 0) → p ≡ q → p.ended ≡ None → X ↔ Finished p.first → X ↔ PairFinished q
finished_as p q X same none h = (λ x. subst PairFinished same (inr (h.0 x)), λ f. h.1 (first_finished p q same none f))

pub awaits_as : (p q : PairState) (X : Type 0) → p ≡ q → p.ended ≡ None → X ↔ Awaits p.first → X ↔ PairAwaits q
awaits_as p q X same none h =
    (λ x. subst PairAwaits same (none, h.0 x), λ w. h.1 (subst (λ (y : PairState). Awaits y.first) (sym same) w.1))

pub unchanged_row : (p : PairEnd) (row out : List ℤ) → p ≢ pair.Released → pair_row_after p row out ≡ out
unchanged_row pair.Released row out h = absurd (h refl)
unchanged_row (pair.Stopped k why) row out h = refl
unchanged_row (pair.Parted e f) row out h = refl
unchanged_row (pair.Differ i x y) row out h = refl

pub closed_between : (p : PairState) (ours theirs : List ℤ) (e : PairEnd) → SoundPair p ours theirs → p.ended ≡ Some e → p.first.under_way ≡ false
closed_between p ours theirs e sound is =
    (subst (λ (o : Option PairEnd). IfSome o (λ z. (z ≢ pair.Released) × (p.first.under_way ≡ false))) is sound.closed).1
