use Rattle.std.proofs.Common.{◌≡◌, ◌∙◌, ap, sym, refl, Bor, Bool, true, false, not, List, [], ℕ, Option, Some, None, if◌then◌else◌}
use Rattle.std.proofs.lemmas.Bool.{false≢true}
use Rattle.csv.specs.Reading.{reader_state}
use Rattle.csv.specs.Records.{fields_of}
use Rattle.csv.specs.declared.reader.Reader.{Reader}
use Rattle.input_rows.specs.RecordsLeft.{RecordsLeft, Reads, Takes, left_of, text_left}
use Rattle.input_rows.proofs.records.Records.next.Goals as goal

-- what a read gives is taken from those that were left
taken : (old new : Reader (Bor (List ℕ))) (fields : List (List ℕ)) (found : Bool) → Reads old new fields found
    → Takes (Some (left_of (reader_state old) (text_left old)))
    (if not found then Some [] else Some (left_of (reader_state new) (text_left new))) fields found
taken old new fields true reads = (left_of (reader_state new) (text_left new), ap Some reads.1, refl)
taken old new fields false none = (ap Some none, refl)

pub returns-in-Some-clause-reads : goal.returns-in-Some-clause-reads
returns-in-Some-clause-reads c =
    let reads = c.in-Some.ensures (c.self.invariant c.if-self-2.false c.if-self.false) in
    rw (← c.self.view_is, c.if-self.false, c.if-self-2.false) (taken c.self.inside.reader c.read.new.reader (fields_of c.read.new.cells) c.in-Some.found reads)

-- ---- how records are seen

abbrev seen : Bool → Bool → List (List (List ℕ)) → RecordsLeft
seen ended failed left = record { left = if ended then Some [] else (if failed then None else Some left); ended = ended }

-- their end was given
given : {now : RecordsLeft} (ended failed : Bool) (left : List (List (List ℕ))) → seen ended failed left ≡ now → ended ≡ true
    → (now.left ≡ Some []) × (now.ended ≡ true)
given ended failed left is so =
    let all = sym is ∙ ap (λ (b : Bool). seen b failed left) so in
    (ap (λ (r : RecordsLeft). r.left) all, ap (λ (r : RecordsLeft). r.ended) all)

-- memory ran out
lost : {now : RecordsLeft} (ended failed : Bool) (left : List (List (List ℕ))) → seen ended failed left ≡ now → ended ≡ false → failed ≡ true
    → (now.left ≡ None) × (now.ended ≡ false)
lost ended failed left is going so =
    let all = sym is ∙ ap (λ (b : Bool). seen b failed left) going ∙ ap (λ (b : Bool). seen false b left) so in
    (ap (λ (r : RecordsLeft). r.left) all, ap (λ (r : RecordsLeft). r.ended) all)

-- neither
open_ : {now : RecordsLeft} (ended failed : Bool) (left : List (List (List ℕ))) → seen ended failed left ≡ now → ended ≡ false → failed ≡ false
    → (now.left ≡ Some left) × (now.ended ≡ false)
open_ ended failed left is going well =
    let all = sym is ∙ ap (λ (b : Bool). seen b failed left) going ∙ ap (λ (b : Bool). seen false b left) well in
    (ap (λ (r : RecordsLeft). r.left) all, ap (λ (r : RecordsLeft). r.ended) all)

not_none : {A : Type 0} {o : Option A} (x : A) → o ≡ Some x → o ≡ None → ⊥
not_none x is none = absurd cc

not_both : {b : Bool} → b ≡ false → b ≡ true → ⊥
not_both first second = false≢true (sym first ∙ second)

pub returns-then-self : goal.returns-then-self
returns-then-self c =
    let all = given c.self.inside.ended c.self.inside.failed _ c.self.view_is c.if-self.true in
    record {
      reads = (all.0, all.0);
      end = λ none. all.1;
      err = tt;
      again = λ ended. (refl, refl, refl);
      failed_again = λ none. absurd (not_none _ all.0 none);
    }

pub returns-then-self-2 : goal.returns-then-self-2
returns-then-self-2 c =
    let all = lost c.self.inside.ended c.self.inside.failed _ c.self.view_is c.if-self.false c.if-self-2.true in
    record {
      reads = tt;
      end = tt;
      err = all.0;
      again = λ ended. absurd (not_both all.1 ended);
      failed_again = λ none. (refl, refl, refl);
    }

pub returns-in-Some-clause-end : goal.returns-in-Some-clause-end
returns-in-Some-clause-end c = λ none. ap not none

pub returns-in-Some-clause-again : goal.returns-in-Some-clause-again
returns-in-Some-clause-again c = λ ended.
    absurd (not_both (open_ c.self.inside.ended c.self.inside.failed _ c.self.view_is c.if-self.false c.if-self-2.false).1 ended)

pub returns-in-Some-clause-failed_again : goal.returns-in-Some-clause-failed_again
returns-in-Some-clause-failed_again c = λ none.
    absurd (not_none _ (open_ c.self.inside.ended c.self.inside.failed _ c.self.view_is c.if-self.false c.if-self-2.false).0 none)

pub returns-in-None-clause-again : goal.returns-in-None-clause-again
returns-in-None-clause-again c = λ ended.
    absurd (not_both (open_ c.self.inside.ended c.self.inside.failed _ c.self.view_is c.if-self.false c.if-self-2.false).1 ended)

pub returns-in-None-clause-failed_again : goal.returns-in-None-clause-failed_again
returns-in-None-clause-failed_again c = λ none.
    absurd (not_none _ (open_ c.self.inside.ended c.self.inside.failed _ c.self.view_is c.if-self.false c.if-self-2.false).0 none)
