-- Sending: the sendings of a cycle, sender by sender.
use Rattle.std.proofs.Common.{◌≡◌, ℕ, zero, suc, ◌+◌, ◌-◌, ◌^◌, ◌<◌, ◌≤◌, List, [], ◌∷◌, ◌++◌, length, take, slice_get, Some, None, ℤ, refl, sym, ap, subst, ◌∙◌, arith, append_assoc, append-nil, length-append}
use Rattle.std.proofs.lemmas.List.{take_all}
use Rattle.vcp_base.specs.Values.{at}
use Rattle.vcp_outside.specs.Counts.{Rose}
use Rattle.coded_unit.specs.declared.call.Answer.{Answer}
use Rattle.coded_unit.specs.declared.call.Answer.TheVariants as answer
use Rattle.coded_unit.specs.Log.{Entry, GrowsBy, Counts}
use Rattle.coded_unit.specs.Right.{Right}
use Rattle.coded_unit.specs.Seen.{UnitSeen, StaysHonest}
use Rattle.telegram.specs.declared.wire.Wire.{Wire}
use Rattle.telegram.specs.Sendings.{send_call, telegram_word, IsNoWord}
use Rattle.telegram.specs.WireRead.{words_from}
use Rattle.telegram.specs.Sends.{sendings_from, SendsAll}
use Rattle.telegram.proofs.Growing.{grows_on, grows_by_none, counts_later, honest_first, honest_second, take_one_more}

-- ---- answers that are no words

pub no_range : IsNoWord answer.Range
no_range w e = absurd cc

pub no_division : IsNoWord answer.DivZero
no_division w e = absurd cc

pub no_operand : IsNoWord answer.Operand
no_operand w e = absurd cc

-- ---- lists of calls and words

no_sendings : (w : Wire) (n id : ℕ) (values : List ℤ) → sendings_from w n id values [] ≡ []
no_sendings w n id [] = refl
no_sendings w n id (v ∷ values) = refl

-- one call more
sendings_more : (w : Wire) (n id : ℕ) (values row : List ℤ) (x v : ℤ) → slice_get values (length row) ≡ Some v
    → sendings_from w n id values (row ++ x ∷ [])
    ≡ sendings_from w n id values row ++ (send_call (id + length row) w.seed w.step n v, answer.Word x) ∷ []
sendings_more w n id [] row x v there = absurd cc
sendings_more w n id (u ∷ values) [] x v there =
    let same : u ≡ v = cc in
    let here : id ≡ id + 0 = omega arith in
    ap (λ (l : List Entry). (send_call id w.seed w.step n u, answer.Word x) ∷ l) (no_sendings w n (suc id) values)
    ∙ (ap (λ (z : ℤ). (send_call id w.seed w.step n z, answer.Word x) ∷ []) same
    ∙ ap (λ (i : ℕ). (send_call i w.seed w.step n v, answer.Word x) ∷ []) here)
sendings_more w n id (u ∷ values) (y ∷ row) x v there =
    let next : suc id + length row ≡ id + suc (length row) = omega arith in
    ap (λ (l : List Entry). (send_call id w.seed w.step n u, answer.Word y) ∷ l)
    (sendings_more w n (suc id) values row x v there
    ∙ ap (λ (i : ℕ). sendings_from w n (suc id) values row ++ (send_call i w.seed w.step n v, answer.Word x) ∷ []) next)

-- the right word of a sender
word_at : (w : Wire) (n id : ℕ) (values : List ℤ) (i : ℕ) (v : ℤ) → slice_get values i ≡ Some v
    → slice_get (words_from w n id values) i ≡ Some (telegram_word (id + i) w.seed w.step n v)
word_at w n id [] i v there = absurd cc
word_at w n id (u ∷ values) zero v there =
    let same : u ≡ v = cc in
    let here : id ≡ id + 0 = omega arith in
    ap (λ (z : ℤ). Some (telegram_word id w.seed w.step n z)) same ∙ ap (λ (i : ℕ). Some (telegram_word i w.seed w.step n v)) here
word_at w n id (u ∷ values) (suc i) v there =
    let next : suc id + i ≡ id + suc i = omega arith in
    word_at w n (suc id) values i v there ∙ ap (λ (k : ℕ). Some (telegram_word k w.seed w.step n v)) next

pub words_length : (w : Wire) (n id : ℕ) (values : List ℤ) → length (words_from w n id values) ≡ length values
words_length w n id [] = refl
words_length w n id (v ∷ values) = ap suc (words_length w n (suc id) values)

value_there : (values : List ℤ) (i : ℕ) (v : ℤ) → slice_get values i ≡ Some v → at values i ≡ v
value_there [] i v there = absurd cc
value_there (u ∷ values) zero v there = cc
value_there (u ∷ values) (suc i) v there = value_there values i v there

-- ---- so many senders sent

pub record SentSoFar (w : Wire) (n : ℕ) (values kept kept_now : List ℤ) (before now : UnitSeen) (id : ℕ) : Type 0 where
  pub row : List ℤ
  pub kept_is : kept_now ≡ kept ++ row
  pub count : length row ≡ id
  pub log : GrowsBy before.log now.log (sendings_from w n 0 values row)
  pub later : before.wrong ≤ now.wrong
  pub honest : StaysHonest before now → row ≡ take id (words_from w n 0 values)

pub sent_none : (w : Wire) (n : ℕ) (values kept : List ℤ) (before : UnitSeen) → SentSoFar w n values kept kept before before 0
sent_none w n values kept before = record {
  row = [];
  kept_is = sym (append-nil kept);
  count = refl;
  log = subst (GrowsBy before.log before.log) (sym (no_sendings w n 0 values)) (grows_by_none before.log);
  later = omega arith;
  honest = λ h. refl;
}

-- what a sending left
pub record Sent (w : Wire) (n id : ℕ) (v : ℤ) (given : Answer) (before now : UnitSeen) : Type 0 where
  pub log : GrowsBy before.log now.log ((send_call id w.seed w.step n v, given) ∷ [])
  pub wrong : Counts given (Right (send_call id w.seed w.step n v)) before.wrong now.wrong
  pub honest : now.wrong ≡ before.wrong → before.wrong < 2 ^ 64 - 1 → given ≡ answer.Word (telegram_word id w.seed w.step n v)
  pub failed : IsNoWord given → Rose before.wrong now.wrong

same_word : (a b : ℤ) → answer.Word a ≡ answer.Word b → a ≡ b
same_word a b e = cc

module _ (w : Wire) (n : ℕ) (values kept kept_now : List ℤ) (before now after : UnitSeen) (id : ℕ) (v : ℤ) (given : Answer)
    (so_far : SentSoFar w n values kept kept_now before now id) (there : slice_get values id ≡ Some v) (sent : Sent w n id v given now after) where
  still : now.wrong ≤ after.wrong
  still = counts_later given (Right (send_call id w.seed w.step n v)) now.wrong after.wrong sent.wrong

  pub sent_next : (x : ℤ) → given ≡ answer.Word x → SentSoFar w n values kept (kept_now ++ x ∷ []) before after (id + 1)
  sent_next x is =
      let row = so_far.row in
      let here : slice_get values (length row) ≡ Some v = ap (slice_get values) so_far.count ∙ there in
      let call : (send_call id w.seed w.step n v, given) ∷ [] ≡ (send_call (0 + length row) w.seed w.step n v, answer.Word x) ∷ [] =
      let place : id ≡ 0 + length row = omega (arith, so_far.count) in
      ap (λ (i : ℕ). (send_call i w.seed w.step n v, given) ∷ []) place
      ∙ ap (λ (a : Answer). (send_call (0 + length row) w.seed w.step n v, a) ∷ []) is in
      let next : suc id ≡ id + 1 = omega arith in
      record {
        row = row ++ x ∷ [];
        kept_is = ap (λ (l : List ℤ). l ++ x ∷ []) so_far.kept_is ∙ append_assoc kept row (x ∷ []);
        count = omega (arith, length-append row (x ∷ []), so_far.count);
        log = subst (GrowsBy before.log after.log) (sym (sendings_more w n 0 values row x v here))
            (grows_on before.log now.log after.log (sendings_from w n 0 values row) _ so_far.log (subst (GrowsBy now.log after.log) call sent.log));
        later = omega (arith, so_far.later, still);
        honest = λ h.
            let first = so_far.honest (honest_first before now after so_far.later still h) in
            let second = honest_second before now after so_far.later still h in
            let word : x ≡ telegram_word id w.seed w.step n v = same_word x _ (sym is ∙ sent.honest second.0 second.1) in
            let all = words_from w n 0 values in
            let place : 0 + id ≡ id = omega arith in
            let right : slice_get all id ≡ Some (telegram_word id w.seed w.step n v) =
            word_at w n 0 values id v there ∙ ap (λ (i : ℕ). Some (telegram_word i w.seed w.step n v)) place in
            ap (λ (l : List ℤ). l ++ x ∷ []) first ∙ (ap (λ (z : ℤ). take id all ++ z ∷ []) word
            ∙ (sym (take_one_more all id _ right) ∙ ap (λ (k : ℕ). take k all) next));
      }

  -- the sending was answered by no word
  pub sent_cut : IsNoWord given → id < w.senders → SendsAll w n values kept kept_now before after (Some id)
  sent_cut none below =
      let row = so_far.row in
      let value : v ≡ at values (length row) = sym (value_there values id v there) ∙ ap (at values) (sym so_far.count) in
      let call : (send_call id w.seed w.step n v, given) ∷ [] ≡ (send_call (length row) w.seed w.step n (at values (length row)), given) ∷ [] =
      ap (λ (i : ℕ). (send_call i w.seed w.step n v, given) ∷ []) (sym so_far.count)
      ∙ ap (λ (z : ℤ). (send_call (length row) w.seed w.step n z, given) ∷ []) value in
      let rose : Rose now.wrong after.wrong = sent.failed none in
      record {
        row = row;
        kept_is = so_far.kept_is;
        ends = (
          given,
          none,
          sym so_far.count,
          omega (arith, so_far.count, below),
          grows_on before.log now.log after.log (sendings_from w n 0 values row) _ so_far.log (subst (GrowsBy now.log after.log) call sent.log),
          omega (arith, so_far.later, rose),
        );
        later = omega (arith, so_far.later, still);
        honest = λ h.
            let second = honest_second before now after so_far.later still h in
            absurd (none (telegram_word id w.seed w.step n v) (sent.honest second.0 second.1));
      }

-- all senders sent
pub sent_all : (w : Wire) (n : ℕ) (values kept kept_now : List ℤ) (before now : UnitSeen) → length values ≡ w.senders
    → SentSoFar w n values kept kept_now before now w.senders → SendsAll w n values kept kept_now before now None
sent_all w n values kept kept_now before now many so_far = record {
  row = so_far.row;
  kept_is = so_far.kept_is;
  ends = (so_far.count, so_far.log);
  later = so_far.later;
  honest = λ h. (refl, so_far.honest h ∙ take_all w.senders (words_from w n 0 values) (omega (arith, words_length w n 0 values, many)));
}
