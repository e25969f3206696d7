-- KeptRuns: a run over rows, cycle by cycle, beside the words that are kept of it.
use Rattle.std.proofs.Common.{◌≡◌, ◌≢◌, ℕ, zero, suc, ◌+◌, ◌*◌, ◌<◌, ◌≤◌, Bool, true, false, All, List, [], ◌∷◌, ◌++◌, length, take, drop, get_or, slice_get, Option, Some, None, ℤ, refl, sym, ap, subst, ◌∙◌, arith}
use Rattle.std.proofs.lemmas.List.{append_assoc, length-append, length-map}
use Rattle.std.proofs.lemmas.List.Elements.{All-get_or}
use Rattle.std.proofs.lemmas.Option.{get_or_from_slice_get, slice_get_within}
use Rattle.vcp_base.specs.declared.kind.StopKind.{StopKind}
use Rattle.coded_unit.specs.declared.call.Answer.{Answer}
use Rattle.coded_unit.specs.declared.call.Answer.TheVariants as answer
use Rattle.coded_unit.specs.Log.{Entry}
use Rattle.op_graph.specs.Lists.{Lists}
use Rattle.signature_table.specs.Signatures.{Numbers}
use Rattle.coded_machine.specs.declared.cycle_end.CycleEnd.{CycleEnd}
use Rattle.coded_machine.specs.declared.cycle_end.CycleEnd.TheVariants as end
use Rattle.coded_machine.specs.Calls.{AllWords, Whole, Carried}
use Rattle.coded_machine.specs.CycleEnds.{end_of, end_or, first_outside, first_refused, initial_words}
use Rattle.coded_machine.specs.Honest.{stop_answer}
use Rattle.coded_machine.specs.Laws.{RunLaws}
use Rattle.coded_machine.specs.Runs.{AllCycles, Outcome, RunSoFar, Turn, calls_over}
use Rattle.coded_machine.specs.State.{State, fresh}
use Rattle.fault_injector.specs.Kept.{front_words, stop_kind}
use Rattle.fault_injector.specs.References.{RanOver, words_answered, kept_cycles}
use Rattle.fault_injector.proofs.KeptAnswers.{words_split, words_counted, whole_words, stop_split, stop_there, kept_more, kept_whole, kept_stop, calls_front, all_ended}

take_row : (rows : List (List ℤ)) (i : ℕ) (row : List ℤ) → slice_get rows i ≡ Some row → take (i + 1) rows ≡ take i rows ++ row ∷ []
take_row [] i row there = absurd cc
take_row (r ∷ rows) zero row there = let same : r ≡ row = cc in ap (λ (x : List ℤ). x ∷ []) same
take_row (r ∷ rows) (suc i) row there =
    let on : suc i + 1 ≡ suc (i + 1) = omega arith in
    ap (λ (n : ℕ). take n (r ∷ rows)) on ∙ ap (λ (xs : List (List ℤ)). r ∷ xs) (take_row rows i row there)

split_row : (rows : List (List ℤ)) (i : ℕ) (row : List ℤ) → slice_get rows i ≡ Some row → take i rows ++ row ∷ drop (i + 1) rows ≡ rows
split_row [] i row there = absurd cc
split_row (r ∷ rows) zero row there = let same : r ≡ row = cc in ap (λ (x : List ℤ). x ∷ rows) (sym same)
split_row (r ∷ rows) (suc i) row there =
    let on : suc i + 1 ≡ suc (i + 1) = omega arith in
    ap (λ (n : ℕ). r ∷ (take i rows ++ row ∷ drop n (r ∷ rows))) on ∙ ap (λ (xs : List (List ℤ)). r ∷ xs) (split_row rows i row there)

-- one cycle more, in which every operation answered a word
cycle_more : (n i : ℕ) (words : List ℤ) (answers : List Answer) → length words ≡ i * n → AllWords answers → length (front_words answers) ≡ n
    → kept_cycles n (i + 1) (words ++ front_words answers) None ≡ kept_cycles n i words None ++ answers ∷ []
cycle_more n i words answers flat all count =
    kept_more n i words (front_words answers) answers 1 None flat (kept_whole n (front_words answers) answers count (words_split answers all))

-- after a release the run goes on
pub run_on : (laws : RunLaws) (g : Lists) (t : Numbers) (rows : List (List ℤ)) (i : ℕ) (row : List ℤ) (words : List ℤ) (m n : State)
    (x y z : Option (List Entry)) (a b c : ℕ) → RunSoFar g t (take i rows) (kept_cycles (length g.operations) i words None) m x y a b
    → length words ≡ i * length g.operations → slice_get rows i ≡ Some row → Turn m n row end.Released y z b c → AllWords n.answers
    → length n.answers ≡ length g.operations
    → RunSoFar g t (take (i + 1) rows) (kept_cycles (length g.operations) (i + 1) (words ++ front_words n.answers) None) n x z a c
run_on laws g t rows i row words m n x y z a b c run flat there turn all count =
    let cycles : List (List Answer) = kept_cycles (length g.operations) i words None in
    let more = laws.goes_on g t (take i rows) cycles m n row x y z a b c run turn in
    let kept = cycle_more (length g.operations) i words n.answers flat all (words_counted n.answers all ∙ count) in
    subst (λ (rs : List (List ℤ)). RunSoFar g t rs (kept_cycles (length g.operations) (i + 1) (words ++ front_words n.answers) None) n x z a c)
    (sym (take_row rows i row there))
    (subst (λ (cs : List (List Answer)). RunSoFar g t (take i rows ++ row ∷ []) cs n x z a c) (sym kept) more)

-- after any other end it is whole
ran_over : (laws : RunLaws) (g : Lists) (t : Numbers) (rows : List (List ℤ)) (i : ℕ) (row : List ℤ) (cycles : List (List Answer)) (m n : State) (e : CycleEnd)
    (x y z : Option (List Entry)) (a b c : ℕ) → RunSoFar g t (take i rows) cycles m x y a b → slice_get rows i ≡ Some row
    → Turn m n row e y z b c → e ≢ end.Released → RanOver g t rows (cycles ++ n.answers ∷ []) e x z a c
ran_over laws g t rows i row cycles m n e x y z a b c run there turn not =
    let front = take i rows in
    let rest = drop (i + 1) rows in
    let answers : List Answer = n.answers in
    let over = laws.ends g t front cycles m n row e x y z a b c run turn in
    let whole : Whole g.operations answers = subst (λ (h : Lists). Whole h.operations answers) run.graph turn.whole in
    let end_is : e ≡ end_of g t m.cycles answers =
    turn.end_is ∙ (ap (λ (h : Lists). end_of h m.table m.cycles answers) run.graph ∙ ap (λ (u : Numbers). end_of g u m.cycles answers) run.table) in
    let split = split_row rows i row there in
    let many = length-append cycles (answers ∷ []) in
    let rows_many = length-append front (row ∷ []) in
    let few : length (cycles ++ answers ∷ []) ≤ length (front ++ row ∷ []) = omega (arith, many, rows_many, run.many_rows) in
    let held = initial_words g t.seed in
    let same_rows : (front ++ row ∷ []) ++ rest ≡ rows = append_assoc front (row ∷ []) rest ∙ split in
    let calls : calls_over g t 0 held (front ++ row ∷ []) (cycles ++ answers ∷ []) ≡ calls_over g t 0 held rows (cycles ++ answers ∷ []) =
    sym (calls_front g t 0 held (front ++ row ∷ []) rest (cycles ++ answers ∷ []) few)
    ∙ ap (λ (rs : List (List ℤ)). calls_over g t 0 held rs (cycles ++ answers ∷ [])) same_rows in
    let at : m.cycles ≡ 0 + length cycles = omega (arith, run.many_cycles) in
    record {
      all =
          subst (λ (rs : List (List ℤ)). AllCycles g t 0 rs (cycles ++ answers ∷ [])) split
          (all_ended g t 0 front rest row cycles answers m.cycles run.released run.many_rows at whole (λ is. not (end_is ∙ is)));
      ended = ap (λ (o : Outcome). o.end) over.outcome;
      carried = subst (λ (es : List Entry). Carried es x z a c) calls over.carried;
    }

-- so it is of the words that are kept
pub run_ended : (laws : RunLaws) (g : Lists) (t : Numbers) (rows : List (List ℤ)) (i : ℕ) (row : List ℤ) (words : List ℤ) (m n : State) (e : CycleEnd)
    (x y z : Option (List Entry)) (a b c : ℕ) (all : Bool) (whole : ℕ) (s : Option StopKind)
    → RunSoFar g t (take i rows) (kept_cycles (length g.operations) i words None) m x y a b
    → length words ≡ i * length g.operations → slice_get rows i ≡ Some row → Turn m n row e y z b c → e ≢ end.Released
    → (all ≡ true → length (front_words n.answers) ≡ length g.operations) → (all ≡ false → length (front_words n.answers) < length g.operations)
    → (all ≡ true → whole ≡ i + 1) → (all ≡ true → s ≡ None) → (all ≡ false → whole ≡ i) → (all ≡ false → s ≡ stop_kind e)
    → RanOver g t rows (kept_cycles (length g.operations) whole (words ++ front_words n.answers) s) e x z a c
    × (whole * length g.operations ≤ length (words ++ front_words n.answers))
run_ended laws g t rows i row words m n e x y z a b c true whole s run flat there turn not full part one none same stops =
    let answers : List Answer = n.answers in
    let size = length g.operations in
    let cycles : List (List Answer) = kept_cycles size i words None in
    let ran = ran_over laws g t rows i row cycles m n e x y z a b c run there turn not in
    let is_whole : Whole g.operations answers = subst (λ (h : Lists). Whole h.operations answers) run.graph turn.whole in
    let words_all = whole_words g.operations answers is_whole (full refl) in
    let kept : kept_cycles size whole (words ++ front_words answers) s ≡ cycles ++ answers ∷ [] =
    ap (λ (k : ℕ). kept_cycles size k (words ++ front_words answers) s) (one refl)
    ∙ (ap (λ (o : Option StopKind). kept_cycles size (i + 1) (words ++ front_words answers) o) (none refl)
    ∙ cycle_more size i words answers flat words_all (full refl)) in
    let count = length-append words (front_words answers) in
    let product : (i + 1) * size ≡ i * size + size = grind arith in (
      subst (λ (cs : List (List Answer)). RanOver g t rows cs e x z a c) (sym kept) ran,
      rw (one refl) (omega (arith, count, full refl, flat, product)),
    )
run_ended laws g t rows i row words m n e x y z a b c false whole s run flat there turn not full part one none same stops =
    let answers : List Answer = n.answers in
    let size = length g.operations in
    let cycles : List (List Answer) = kept_cycles size i words None in
    let ran = ran_over laws g t rows i row cycles m n e x y z a b c run there turn not in
    let is_whole : Whole g.operations answers = subst (λ (h : Lists). Whole h.operations answers) run.graph turn.whole in
    let end_is : e ≡ end_of m.graph m.table m.cycles answers = turn.end_is in
    let later : CycleEnd =
    end_or (first_outside m.graph.profile answers m.graph.outputs)
    (end_or (first_refused m.graph.profile m.table m.cycles answers 0 m.graph.outputs) end.Released) in
    let split = stop_split g.operations answers 0 later is_whole (part refl) in
    let there_is = stop_there g.operations answers 0 later is_whole (part refl) in
    let stop_is : s ≡ stop_kind (end_of m.graph m.table m.cycles answers) = stops refl ∙ ap stop_kind end_is in
    let is : answers ≡ words_answered (front_words answers) ++ stop_answer s =
    split ∙ ap (λ (o : Option StopKind). words_answered (front_words answers) ++ stop_answer o) (sym stop_is) in
    let nothing : i + 0 ≡ i = omega arith in
    let kept : kept_cycles size whole (words ++ front_words answers) s ≡ cycles ++ answers ∷ [] =
    ap (λ (k : ℕ). kept_cycles size k (words ++ front_words answers) s) (same refl ∙ sym nothing)
    ∙ kept_more size i words (front_words answers) answers 0 s flat
    (kept_stop size (front_words answers) answers s there_is.0 (stop_is ∙ there_is.1) is) in
    let count = length-append words (front_words answers) in (
      subst (λ (cs : List (List Answer)). RanOver g t rows cs e x z a c) (sym kept) ran,
      rw (same refl) (omega (arith, count, flat)),
    )

-- where the rows end, all cycles were released
take_all : (rows : List (List ℤ)) (i : ℕ) → i ≡ length rows → take i rows ≡ rows
take_all [] zero e = refl
take_all [] (suc i) e = refl
take_all (row ∷ rows) zero e = absurd (omega (arith, e))
take_all (row ∷ rows) (suc i) e = ap (λ (rs : List (List ℤ)). row ∷ rs) (take_all rows i (omega (arith, e)))

pub run_whole : (laws : RunLaws) (g : Lists) (t : Numbers) (rows : List (List ℤ)) (i : ℕ) (cycles : List (List Answer)) (m : State)
    (x y : Option (List Entry)) (a b : ℕ) → RunSoFar g t (take i rows) cycles m x y a b → i ≡ length rows → RanOver g t rows cycles end.Released x y a b
run_whole laws g t rows i cycles m x y a b run all =
    let over = laws.stands g t (take i rows) cycles m x y a b run in
    subst (λ (rs : List (List ℤ)). RanOver g t rs cycles end.Released x y a b) (take_all rows i all)
    (record { all = over.all; ended = ap (λ (o : Outcome). o.end) over.outcome; carried = over.carried })

-- a row that is there has the width of all
pub width_there : (rows : List (List ℤ)) (n i : ℕ) (row : List ℤ) → All (λ row. length row ≡ n) rows → slice_get rows i ≡ Some row → length row ≡ n
width_there rows n i row all there =
    subst (λ (r : List ℤ). length r ≡ n) (get_or_from_slice_get rows i row row there)
    (All-get_or (λ (r : List ℤ). length r ≡ n) rows i row (slice_get_within rows i row there) all)

-- ---- room for the words, and the rows that are left

row_words : (i size : ℕ) → (i + 1) * size ≡ i * size + size
row_words i size = grind arith

fewer : (m n size : ℕ) → m ≤ n → m * size ≤ n * size
fewer zero n size h = let none : 0 * size ≡ 0 = grind arith in omega (arith, none)
fewer (suc m) zero size h = absurd (omega (arith, h))
fewer (suc m) (suc n) size h =
    let before = fewer m n size (omega (arith, h)) in
    let one : suc m * size ≡ m * size + size = grind arith in
    let other : suc n * size ≡ n * size + size = grind arith in
    omega (arith, before, one, other)

-- of words of so many whole cycles there is room for those of one more
pub room_for : (len size i rows cap : ℕ) → len ≡ i * size → i < rows → rows * size ≤ cap → len + size ≤ cap
room_for len size i rows cap is below room =
    let most = fewer (i + 1) rows size (omega (arith, below)) in omega (arith, is, room, most, row_words i size)

pub flat_more : (len size i more : ℕ) → len ≡ i * size → more ≡ size → len + more ≡ (i + 1) * size
flat_more len size i more is same = omega (arith, is, same, row_words i size)

pub nothing_flat : (words : List ℤ) (size : ℕ) → words ≡ [] → length words ≡ 0 * size
nothing_flat words size none = let nothing : 0 * size ≡ 0 = grind arith in omega (arith, ap length none, nothing)

pub take_few : {X : Type 0} (i : ℕ) (rows : List X) → length (take i rows) ≤ i
take_few zero [] = omega arith
take_few zero (row ∷ rows) = omega arith
take_few (suc i) [] = omega arith
take_few (suc i) (row ∷ rows) = omega (arith, take_few i rows)

-- before a row the cycles are fewer than a run may have
pub cycles_below : (rows : List (List ℤ)) (i cycles kept most : ℕ) → length (take i rows) ≡ kept → cycles ≡ kept → i < length rows → length rows ≤ most
    → cycles < most
cycles_below rows i cycles kept most taken count below few = omega (arith, take_few i rows, taken, count, below, few)

none_taken : (rows : List (List ℤ)) → [] ≡ take 0 rows
none_taken [] = refl
none_taken (row ∷ rows) = refl

-- before the first cycle
pub run_first : (laws : RunLaws) (rows : List (List ℤ)) (words : List ℤ) (m : State) (x : Option (List Entry)) (a : ℕ) → m ≡ fresh m.graph m.table
    → RunSoFar m.graph m.table (take 0 rows) (kept_cycles (length m.graph.operations) 0 words None) m x x a a
run_first laws rows words m x a is =
    subst (λ (rs : List (List ℤ)). RunSoFar m.graph m.table rs [] m x x a a) (none_taken rows)
    (subst (λ (s : State). RunSoFar m.graph m.table [] [] s x x a a) (sym is) (laws.starts m.graph m.table x a))

-- ---- the words of a cycle, copied as answers

-- one word more
pub one_answered : (words : List ℤ) (i : ℕ) (w : ℤ) → i < length words → w ≡ get_or words i w
    → words_answered (take (i + 1) words) ≡ words_answered (take i words) ++ answer.Word w ∷ []
one_answered [] i w below is = absurd (omega (arith, below))
one_answered (x ∷ words) zero w below is = ap (λ (y : ℤ). answer.Word y ∷ []) (sym is)
one_answered (x ∷ words) (suc i) w below is =
    let on : suc i + 1 ≡ suc (i + 1) = omega arith in
    ap (λ (n : ℕ). words_answered (take n (x ∷ words))) on
    ∙ ap (λ (answers : List Answer). answer.Word x ∷ answers) (one_answered words i w (omega (arith, below)) is)

pub take_past : (i : ℕ) (words : List ℤ) → length words ≤ i → take i words ≡ words
take_past zero [] past = refl
take_past zero (x ∷ words) past = absurd (omega (arith, past))
take_past (suc i) [] past = refl
take_past (suc i) (x ∷ words) past = ap (λ (more : List ℤ). x ∷ more) (take_past i words (omega (arith, past)))

pub room_answered : (words : List ℤ) (i : ℕ) (stop : Option StopKind) (copied : List Answer) (cap now : ℕ) → copied ≡ words_answered (take i words)
    → i < length words → length (words_answered words ++ stop_answer stop) ≤ cap → cap ≤ now → length copied < now
room_answered words i stop copied cap now is below few more =
    let front = length-map (take i words) (λ w. answer.Word w) in
    let all = length-map words (λ w. answer.Word w) in
    omega (arith, ap length is, front, take_few i words, below, length-append (words_answered words) (stop_answer stop), all, few, more)
