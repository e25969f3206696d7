-- Runs: a pair's run over rows, one cycle after another.
use Rattle.std.proofs.Common.{ℕ, suc, ◌+◌, ◌≡◌, refl, sym, ap, subst, ◌∙◌, List, [], ◌∷◌, ◌++◌, length, length-append, map, arith, ℤ, Option, None}
use Rattle.std.proofs.lemmas.List.{map-append}
use Rattle.coded_unit.specs.declared.call.Answer.{Answer}
use Rattle.coded_unit.specs.Log.{Entry}
use Rattle.op_graph.specs.Lists.{Lists}
use Rattle.signature_table.specs.Signatures.{Numbers}
use Rattle.coded_machine.specs.declared.cycle_end.CycleEnd.{CycleEnd}
use Rattle.coded_machine.specs.declared.cycle_end.CycleEnd.TheVariants as end
use Rattle.coded_machine.specs.Calls.{CallsOf, Whole, Carried}
use Rattle.coded_machine.specs.CycleEnds.{Cause, end_of, end_or, outputs_of, stored_words, initial_words}
use Rattle.coded_machine.specs.Laws.{ByHandLaws, RunLaws}
use Rattle.coded_machine.specs.Runs.{setting_at, calls_over, AllReleased, RunSoFar, Turn, Ended}
use Rattle.coded_machine.specs.State.{State, given}
use Rattle.pair_channel.specs.declared.pair_end.PairEnd.{PairEnd}
use Rattle.pair_channel.specs.declared.pair_end.PairEnd.TheVariants as pair
use Rattle.pair_channel.specs.PairEnds.{both, PairCause}
use Rattle.pair_channel.specs.PairLaws.{PairsByHand}
use Rattle.pair_channel.specs.PairRuns.{pair_end, pair_then, pair_over, unless_over, AllPairs, pair_row_if, PairSoFar, PairOver}
use Rattle.pair_channel.specs.PairStates.{PairState, fresh_pair, after_pair, pair_row_after}
use Rattle.coded_unit.specs.Seen.{UnitSeen}
use Rattle.pair_channel.specs.PairTurns.{PairTurn}
use Rattle.pair_channel.proofs.Ends.{both_released}

-- ---- a cycle by hand

pub by_hand : ByHandLaws → PairsByHand
by_hand laws old p new row calls e out_before out_now x y z w way same finished carried c =
    let going : old.ended ≡ None = sym (ap (λ (q : PairState). q.ended) same) ∙ c.going in
    let end_is : c.first_end ≡ end_of p.first.graph p.first.table p.first.cycles (given p.first) = c.first_end_is in
    let ended : Ended old.first new.first row calls c.first_end =
    laws.ends old.first p.first new.first row calls c.first_end way finished
    (subst (λ (o : Option CycleEnd). c.first_end ≡ end_or o (end_of p.first.graph p.first.table p.first.cycles (given p.first))) (sym c.first_going) end_is)
    c.first_machine c.first_answers in
    let turn : Turn old.first new.first row c.first_end x.log y.log x.wrong y.wrong =
    laws.turn old.first new.first row calls c.first_end x.log y.log x.wrong y.wrong ended carried in
    let graph : p.first.graph ≡ old.first.graph = ap (λ (s : State). s.graph) way.same in
    let second : p.second ≡ old.second = ap (λ (q : PairState). q.second) same in
    record {
      going = going;
      first_end = c.first_end;
      second_end = c.second_end;
      first = turn;
      second = subst (λ (s : State). Turn s new.second row c.second_end z.log w.log z.wrong w.wrong) second c.second;
      first_cause = subst (λ (s : State). Cause s.graph s.table s.cycles new.first.answers c.first_end) way.same c.first_cause;
      second_cause = subst (λ (s : State). Cause s.graph s.table s.cycles new.second.answers c.second_end) second c.second_cause;
      end_is = subst (λ (s : State). e ≡ both c.first_end c.second_end (outputs_of old.first.graph new.first.answers) (outputs_of s.graph new.second.answers))
          second
          (subst (λ (g : Lists). e ≡ both c.first_end c.second_end (outputs_of g new.first.answers) (outputs_of p.second.graph new.second.answers)) graph
          c.end_is);
      cause = subst (λ (s : State). PairCause c.first_end c.second_end (outputs_of old.first.graph new.first.answers) (outputs_of s.graph new.second.answers) e)
          second
          (subst (λ (g : Lists). PairCause c.first_end c.second_end (outputs_of g new.first.answers) (outputs_of p.second.graph new.second.answers) e) graph
          c.cause);
      out_is = c.out_is ∙ ap (λ (g : Lists). pair_row_after e (outputs_of g new.first.answers) out_before) graph;
      pair_is = c.pair_is ∙ ap (λ (q : PairState). after_pair q new.first new.second e) same;
    }

-- ---- ends and outcomes of some cycles that were released, and of one more

unless_goes_on : (p : PairEnd) (P Q : Type 0) → p ≡ pair.Released → P → unless_over p P Q
unless_goes_on pair.Released P Q is h = h
unless_goes_on (pair.Stopped k why) P Q is h = absurd cc
unless_goes_on (pair.Parted e f) P Q is h = absurd cc
unless_goes_on (pair.Differ i x y) P Q is h = absurd cc

abbrev first_or : List ℤ → List (List ℤ) → List ℤ
first_or other [] = other
first_or other (x ∷ xs) = x

abbrev rest_of : List (List ℤ) → List (List ℤ)
rest_of [] = []
rest_of (x ∷ xs) = xs

heads : (x y : List ℤ) (xs ys : List (List ℤ)) → x ∷ xs ≡ y ∷ ys → (x ≡ y) × (xs ≡ ys)
heads x y xs ys e = (ap (first_or x) e, ap rest_of e)

all_so_far : (g : Lists) (t u : Numbers) (n : ℕ) (rows : List (List ℤ)) (ours theirs : List (List Answer)) → length rows ≡ length ours →
    length rows ≡ length theirs → AllReleased g t n ours → AllReleased g u n theirs → map (outputs_of g) ours ≡ map (outputs_of g) theirs →
    AllPairs g t u n rows ours theirs
all_so_far g t u n [] [] [] e f h k same = tt
all_so_far g t u n [] [] (b ∷ theirs) e f h k same = absurd (omega (arith, f))
all_so_far g t u n [] (a ∷ ours) theirs e f h k same = absurd (omega (arith, e))
all_so_far g t u n (row ∷ rows) [] theirs e f h k same = absurd (omega (arith, e))
all_so_far g t u n (row ∷ rows) (a ∷ ours) [] e f h k same = absurd (omega (arith, f))
all_so_far g t u n (row ∷ rows) (a ∷ ours) (b ∷ theirs) e f h k same =
    let p = heads (outputs_of g a) (outputs_of g b) (map (outputs_of g) ours) (map (outputs_of g) theirs) same in (
      h.0,
      k.0,
      unless_goes_on (pair_end g t u n a b) _ _ (both_released (end_of g t n a) (end_of g u n b) (outputs_of g a) (outputs_of g b) h.1 k.1 p.0)
          (all_so_far g t u (suc n) rows ours theirs (omega (arith, e)) (omega (arith, f)) h.2 k.2 p.1),
    )

outcome_so_far : (g : Lists) (t u : Numbers) (n : ℕ) (ours theirs : List (List Answer)) → AllReleased g t n ours → AllReleased g u n theirs →
    map (outputs_of g) ours ≡ map (outputs_of g) theirs → pair_over g t u n ours theirs ≡ record { rows = map (outputs_of g) ours; end = pair.Released }
outcome_so_far g t u n [] theirs h k same = refl
outcome_so_far g t u n (a ∷ ours) [] h k same = absurd cc
outcome_so_far g t u n (a ∷ ours) (b ∷ theirs) h k same =
    let p = heads (outputs_of g a) (outputs_of g b) (map (outputs_of g) ours) (map (outputs_of g) theirs) same in
    ap (λ q. pair_then q (outputs_of g a) (pair_over g t u (suc n) ours theirs))
    (both_released (end_of g t n a) (end_of g u n b) (outputs_of g a) (outputs_of g b) h.1 k.1 p.0)
    ∙ ap (pair_then pair.Released (outputs_of g a)) (outcome_so_far g t u (suc n) ours theirs h.2 k.2 p.1)

abbrev none_more : List (List Answer)
none_more = []

last_all : (g : Lists) (t u : Numbers) (n : ℕ) (p : PairEnd) (more : List (List ℤ)) → (p ≡ pair.Released → more ≡ []) →
    unless_over p (AllPairs g t u n more [] []) ((none_more ≡ []) × (none_more ≡ []))
last_all g t u n pair.Released more left = subst (λ rows. AllPairs g t u n rows [] []) (sym (left refl)) tt
last_all g t u n (pair.Stopped k why) more left = (refl, refl)
last_all g t u n (pair.Parted e f) more left = (refl, refl)
last_all g t u n (pair.Differ i x y) more left = (refl, refl)

all_to_end : (g : Lists) (t u : Numbers) (n m : ℕ) (rows more : List (List ℤ)) (ours theirs : List (List Answer)) (row : List ℤ) (a b : List Answer) →
    m ≡ n + length ours → length rows ≡ length ours → length rows ≡ length theirs → AllReleased g t n ours → AllReleased g u n theirs →
    map (outputs_of g) ours ≡ map (outputs_of g) theirs → Whole g.operations a → Whole g.operations b →
    (pair_end g t u m a b ≡ pair.Released → more ≡ []) → AllPairs g t u n (rows ++ row ∷ more) (ours ++ a ∷ []) (theirs ++ b ∷ [])
all_to_end g t u n m [] more [] [] row a b at e f h k same whole too left =
    let here : m ≡ n = omega (arith, at) in
    (whole, too, last_all g t u (suc n) (pair_end g t u n a b) more (λ is. left (ap (λ j. pair_end g t u j a b) here ∙ is)))
all_to_end g t u n m [] more [] (c ∷ theirs) row a b at e f h k same whole too left = absurd (omega (arith, f))
all_to_end g t u n m [] more (c ∷ ours) theirs row a b at e f h k same whole too left = absurd (omega (arith, e))
all_to_end g t u n m (r ∷ rows) more [] theirs row a b at e f h k same whole too left = absurd (omega (arith, e))
all_to_end g t u n m (r ∷ rows) more (c ∷ ours) [] row a b at e f h k same whole too left = absurd (omega (arith, f))
all_to_end g t u n m (r ∷ rows) more (c ∷ ours) (d ∷ theirs) row a b at e f h k same whole too left =
    let p = heads (outputs_of g c) (outputs_of g d) (map (outputs_of g) ours) (map (outputs_of g) theirs) same in (
      h.0,
      k.0,
      unless_goes_on (pair_end g t u n c d) _ _ (both_released (end_of g t n c) (end_of g u n d) (outputs_of g c) (outputs_of g d) h.1 k.1 p.0)
          (all_to_end g t u (suc n) m rows more ours theirs row a b (omega (arith, at)) (omega (arith, e)) (omega (arith, f)) h.2 k.2 p.1 whole too left),
    )

last_outcome : (p : PairEnd) (row : List ℤ) → pair_then p row (record { rows = []; end = pair.Released }) ≡ record { rows = pair_row_if p row; end = p }
last_outcome pair.Released row = refl
last_outcome (pair.Stopped k why) row = refl
last_outcome (pair.Parted e f) row = refl
last_outcome (pair.Differ i x y) row = refl

outcome_to_end : (g : Lists) (t u : Numbers) (n m : ℕ) (ours theirs : List (List Answer)) (a b : List Answer) → m ≡ n + length ours →
    length theirs ≡ length ours → AllReleased g t n ours → AllReleased g u n theirs → map (outputs_of g) ours ≡ map (outputs_of g) theirs →
    pair_over g t u n (ours ++ a ∷ []) (theirs ++ b ∷ [])
    ≡ record { rows = map (outputs_of g) ours ++ pair_row_if (pair_end g t u m a b) (outputs_of g a); end = pair_end g t u m a b }
outcome_to_end g t u n m [] [] a b at e h k same =
    last_outcome (pair_end g t u n a b) (outputs_of g a)
    ∙ ap (λ j. record { rows = pair_row_if (pair_end g t u j a b) (outputs_of g a); end = pair_end g t u j a b }) (omega (arith, at))
outcome_to_end g t u n m [] (d ∷ theirs) a b at e h k same = absurd (omega (arith, e))
outcome_to_end g t u n m (c ∷ ours) [] a b at e h k same = absurd (omega (arith, e))
outcome_to_end g t u n m (c ∷ ours) (d ∷ theirs) a b at e h k same =
    let p = heads (outputs_of g c) (outputs_of g d) (map (outputs_of g) ours) (map (outputs_of g) theirs) same in
    ap (λ q. pair_then q (outputs_of g c) (pair_over g t u (suc n) (ours ++ a ∷ []) (theirs ++ b ∷ [])))
    (both_released (end_of g t n c) (end_of g u n d) (outputs_of g c) (outputs_of g d) h.1 k.1 p.0)
    ∙ ap (pair_then pair.Released (outputs_of g c))
    (outcome_to_end g t u (suc n) m ours theirs a b (omega (arith, at)) (omega (arith, e)) h.2 k.2 p.1)

-- rows behind the last cycle call for nothing
calls_last : (g : Lists) (t : Numbers) (n : ℕ) (held : List ℤ) (rows more : List (List ℤ)) (cycles : List (List Answer)) (row : List ℤ) (a : List Answer) →
    length rows ≡ length cycles →
    calls_over g t n held (rows ++ row ∷ []) (cycles ++ a ∷ []) ≡ calls_over g t n held (rows ++ row ∷ more) (cycles ++ a ∷ [])
calls_last g t n held [] more [] row a e = refl
calls_last g t n held [] more (c ∷ cycles) row a e = absurd (omega (arith, e))
calls_last g t n held (r ∷ rows) more [] row a e = absurd (omega (arith, e))
calls_last g t n held (r ∷ rows) more (c ∷ cycles) row a e =
    ap (λ es. CallsOf (setting_at g t n held r) c ++ es) (calls_last g t (suc n) (stored_words g c) rows more cycles row a (omega (arith, e)))

-- ---- the laws

pub starts : RunLaws → (g : Lists) (t u : Numbers) (x z : UnitSeen) → PairSoFar g t u [] [] [] (fresh_pair g t u) x x z z
starts runs g t u x z = record {
  first = runs.starts g t x.log x.wrong;
  second = runs.starts g u z.log z.wrong;
  alike = refl;
  cycles = refl;
  going = refl;
}

pub goes_on : RunLaws → (g : Lists) (t u : Numbers) (rows : List (List ℤ)) (ours theirs : List (List Answer)) (p q : PairState)
    (row out_before out_now : List ℤ) (x y z w y2 w2 : UnitSeen) → PairSoFar g t u rows ours theirs p x y z w →
    PairTurn p q row pair.Released out_before out_now y y2 w w2 →
    PairSoFar g t u (rows ++ row ∷ []) (ours ++ q.first.answers ∷ []) (theirs ++ q.second.answers ∷ []) q x y2 z w2
goes_on runs g t u rows ours theirs p q row out_before out_now x y z w y2 w2 s turn =
    let a = q.first.answers in
    let b = q.second.answers in
    let one : Turn p.first q.first row end.Released y.log y2.log y.wrong y2.wrong =
    subst (λ f. Turn p.first q.first row f y.log y2.log y.wrong y2.wrong) turn.cause.0 turn.first in
    let two : Turn p.second q.second row end.Released w.log w2.log w.wrong w2.wrong =
    subst (λ f. Turn p.second q.second row f w.log w2.log w.wrong w2.wrong) turn.cause.1 turn.second in
    let rows_same : outputs_of g a ≡ outputs_of g b =
    ap (λ (h : Lists). outputs_of h a) (sym s.first.graph) ∙ (turn.cause.2 ∙ ap (λ (h : Lists). outputs_of h b) s.second.graph) in
    record {
      first = runs.goes_on g t rows ours p.first q.first row x.log y.log y2.log x.wrong y.wrong y2.wrong s.first one;
      second = runs.goes_on g u rows theirs p.second q.second row z.log w.log w2.log z.wrong w.wrong w2.wrong s.second two;
      alike = map-append (outputs_of g) ours (a ∷ [])
          ∙ (ap (λ xs. xs ++ outputs_of g a ∷ []) s.alike
          ∙ (ap (λ o. map (outputs_of g) theirs ++ o ∷ []) rows_same ∙ sym (map-append (outputs_of g) theirs (b ∷ []))));
      cycles = ap (λ (v : PairState). v.cycles) turn.pair_is ∙ simp length-append (omega (arith, s.cycles));
      going = ap (λ (v : PairState). v.ended) turn.pair_is;
    }

pub stands : RunLaws → (g : Lists) (t u : Numbers) (rows : List (List ℤ)) (ours theirs : List (List Answer)) (p : PairState) (x y z w : UnitSeen) →
    PairSoFar g t u rows ours theirs p x y z w → PairOver g t u rows ours theirs (map (outputs_of g) ours) pair.Released x y z w
stands runs g t u rows ours theirs p x y z w s = record {
  first = s.first.carried;
  second = s.second.carried;
  all = all_so_far g t u 0 rows ours theirs s.first.many_rows s.second.many_rows s.first.released s.second.released s.alike;
  outcome = outcome_so_far g t u 0 ours theirs s.first.released s.second.released s.alike;
}

-- the end of a channel's cycle, by its number
channel_end : (g : Lists) (t : Numbers) (rows : List (List ℤ)) (cycles : List (List Answer)) (m n : State) (row : List ℤ) (e : CycleEnd)
    (x y z : Option (List Entry)) (i j k : ℕ) → RunSoFar g t rows cycles m x y i j → Turn m n row e y z j k → e ≡ end_of g t (length cycles) n.answers
channel_end g t rows cycles m n row e x y z i j k r turn =
    turn.end_is ∙ (ap (λ (h : Lists). end_of h m.table m.cycles n.answers) r.graph
    ∙ (ap (λ (v : Numbers). end_of g v m.cycles n.answers) r.table ∙ ap (λ c. end_of g t c n.answers) r.many_cycles))

-- and of the pair's
turn_end : (g : Lists) (t u : Numbers) (rows : List (List ℤ)) (ours theirs : List (List Answer)) (p q : PairState) (row : List ℤ) (e : PairEnd)
    (out_before out_now : List ℤ) (x y z w y2 w2 : UnitSeen) → PairSoFar g t u rows ours theirs p x y z w → PairTurn p q row e out_before out_now y y2 w w2 →
    e ≡ pair_end g t u (length ours) q.first.answers q.second.answers
turn_end g t u rows ours theirs p q row e out_before out_now x y z w y2 w2 s turn =
    let a = q.first.answers in
    let b = q.second.answers in
    let one : turn.first_end ≡ end_of g t (length ours) a =
    channel_end g t rows ours p.first q.first row turn.first_end x.log y.log y2.log x.wrong y.wrong y2.wrong s.first turn.first in
    let count : length theirs ≡ length ours = omega (arith, s.first.many_rows, s.second.many_rows) in
    let two : turn.second_end ≡ end_of g u (length ours) b =
    channel_end g u rows theirs p.second q.second row turn.second_end z.log w.log w2.log z.wrong w.wrong w2.wrong s.second turn.second
    ∙ ap (λ c. end_of g u c b) count in
    turn.end_is
    ∙ (ap (λ (h : Lists). both turn.first_end turn.second_end (outputs_of h a) (outputs_of p.second.graph b)) s.first.graph
    ∙ (ap (λ (h : Lists). both turn.first_end turn.second_end (outputs_of g a) (outputs_of h b)) s.second.graph
    ∙ (ap (λ f. both f turn.second_end (outputs_of g a) (outputs_of g b)) one
    ∙ ap (λ f. both (end_of g t (length ours) a) f (outputs_of g a) (outputs_of g b)) two)))

pub ends : RunLaws → (g : Lists) (t u : Numbers) (rows more : List (List ℤ)) (ours theirs : List (List Answer)) (p q : PairState) (row : List ℤ) (e : PairEnd)
    (out_before out_now : List ℤ) (x y z w y2 w2 : UnitSeen) → PairSoFar g t u rows ours theirs p x y z w → PairTurn p q row e out_before out_now y y2 w w2 →
    (e ≡ pair.Released → more ≡ []) →
    PairOver g t u (rows ++ row ∷ more) (ours ++ q.first.answers ∷ []) (theirs ++ q.second.answers ∷ [])
    (map (outputs_of g) ours ++ pair_row_if e (outputs_of g q.first.answers)) e x y2 z w2
ends runs g t u rows more ours theirs p q row e out_before out_now x y z w y2 w2 s turn left =
    let a = q.first.answers in
    let b = q.second.answers in
    let n = length ours in
    let is : e ≡ pair_end g t u n a b = turn_end g t u rows ours theirs p q row e out_before out_now x y z w y2 w2 s turn in
    let whole : Whole g.operations a = subst (λ (h : Lists). Whole h.operations a) s.first.graph turn.first.whole in
    let too : Whole g.operations b = subst (λ (h : Lists). Whole h.operations b) s.second.graph turn.second.whole in
    let one = runs.ends g t rows ours p.first q.first row turn.first_end x.log y.log y2.log x.wrong y.wrong y2.wrong s.first turn.first in
    let two = runs.ends g u rows theirs p.second q.second row turn.second_end z.log w.log w2.log z.wrong w.wrong w2.wrong s.second turn.second in
    record {
      first = subst (λ es. Carried es x.log y2.log x.wrong y2.wrong)
          (calls_last g t 0 (initial_words g t.seed) rows more ours row a s.first.many_rows) one.carried;
      second = subst (λ es. Carried es z.log w2.log z.wrong w2.wrong)
          (calls_last g u 0 (initial_words g u.seed) rows more theirs row b s.second.many_rows) two.carried;
      all = all_to_end g t u 0 n rows more ours theirs row a b (omega arith) s.first.many_rows s.second.many_rows s.first.released s.second.released s.alike
          whole too (λ h. left (is ∙ h));
      outcome = outcome_to_end g t u 0 n ours theirs a b (omega arith) (omega (arith, s.first.many_rows, s.second.many_rows)) s.first.released
          s.second.released s.alike
          ∙ ap (λ f. record { rows = map (outputs_of g) ours ++ pair_row_if f (outputs_of g a); end = f }) (sym is);
    }
