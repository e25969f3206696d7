use Rattle.std.proofs.Common.{◌∙◌, refl, sym, ap, length}
use Rattle.std.proofs.lemmas.Bool.{false≢true}
use Rattle.input_rows.specs.RowsOf.{RowsLeft}
use Rattle.input_rows.proofs.Nexts.{alike}
use Rattle.input_rows.proofs.twice.Twice.next.Goals as goal

pub returns-then-not-self : goal.returns-then-not-self
returns-then-not-self c = record {
  row = tt;
  end = tt;
  stays = tt;
  refusal = λ other. absurd (other refl);
  types = refl;
  fresh = ap (λ (left : RowsLeft). left.ended) (sym c.self.view_is) ∙ c.self.invariant.fresh;
  out = refl;
  width = refl;
}

pub returns-in-Err : goal.returns-in-Err
returns-in-Err c = record {
  row = tt;
  end = tt;
  stays = tt;
  refusal = rw c.self.view_is at c.in-Err.ensures.refusal;
  types = c.next.ensures.types ∙ ap (λ (left : RowsLeft). left.types) c.self.view_is;
  fresh = c.next.ensures.fresh;
  out = refl;
  width = refl;
}

pub returns-in-Err-next : goal.returns-in-Err-next
returns-in-Err-next c =
    let same = c.self.invariant.same c.if-not-self.false ∙ c.self.view_is in
    record {
      row = tt;
      end = tt;
      stays = tt;
      refusal = rw same at c.in-Err-next.ensures.refusal;
      types = c.next.ensures.types ∙ ap (λ (left : RowsLeft). left.types) c.self.view_is;
      fresh = c.next.ensures.fresh;
      out = c.in-Err-next.ensures.out;
      width = c.next-2.ensures.width;
    }

pub are_alike-requires : goal.are_alike-requires
are_alike-requires c =
    let s = c.self.inside in
    let both = alike s.first s.second c.next.new.self c.next-2.new.self c.next.new.out c.next-2.new.out c.in-Ok.found c.in-Ok-next.again
    (c.self.invariant.same c.if-not-self.false) c.in-Ok.ensures.row c.in-Ok.ensures.end c.in-Ok-next.ensures.row c.in-Ok-next.ensures.end in
    record { answer = both.0; row = λ found. (both.1 found).0 }

pub invariant_of-self-then-not-are_alike : goal.invariant_of-self-then-not-are_alike
invariant_of-self-then-not-are_alike c = absurd (false≢true (sym c.if-not-are_alike.true ∙ c.are_alike.ensures))

pub returns-then-not-are_alike : goal.returns-then-not-are_alike
returns-then-not-are_alike c = absurd (false≢true (sym c.if-not-are_alike.true ∙ c.are_alike.ensures))

pub invariant_of-self-2 : goal.invariant_of-self-2
invariant_of-self-2 c =
    let s = c.self.inside in
    let both = alike s.first s.second c.next.new.self c.next-2.new.self c.next.new.out c.next-2.new.out c.in-Ok.found c.in-Ok-next.again
    (c.self.invariant.same c.if-not-self.false) c.in-Ok.ensures.row c.in-Ok.ensures.end c.in-Ok-next.ensures.row c.in-Ok-next.ensures.end in
    record {
      same = λ found. (both.1 found).1;
      types = c.next-2.ensures.types ∙ c.self.invariant.types ∙ sym c.next.ensures.types;
      fresh = c.next.ensures.fresh;
      width = c.next.ensures.width ∙ c.self.invariant.width ∙ ap length (sym c.next.ensures.types);
    }

pub returns : goal.returns
returns c =
    let s = c.self.inside in
    let both = alike s.first s.second c.next.new.self c.next-2.new.self c.next.new.out c.next-2.new.out c.in-Ok.found c.in-Ok-next.again
    (c.self.invariant.same c.if-not-self.false) c.in-Ok.ensures.row c.in-Ok.ensures.end c.in-Ok-next.ensures.row c.in-Ok-next.ensures.end in
    record {
      row = λ found. rw (both.1 found).0 (sym c.self.view_is ∙ c.in-Ok.ensures.row found);
      end = rw c.self.view_is at c.in-Ok.ensures.end;
      stays = λ none. c.in-Ok-next.ensures.stays (both.0 ∙ none);
      refusal = tt;
      types = c.next.ensures.types ∙ ap (λ (left : RowsLeft). left.types) c.self.view_is;
      fresh = c.next.ensures.fresh;
      out = tt;
      width = c.next-2.ensures.width;
    }
