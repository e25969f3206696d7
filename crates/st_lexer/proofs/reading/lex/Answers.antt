use Rattle.std.proofs.Common.{ℕ, ◌+◌, ◌≤◌, List, ◌++◌, length, drop, take, sym, ap, subst, arith, length-drop, ◌∙◌, refl}
use Rattle.std.proofs.Math.Seq.{take-add}
use Rattle.std.proofs.lemmas.List.{length-take}
use Rattle.st_lexer.specs.declared.token.Token.{Token}
use Rattle.st_lexer.specs.Reading.{StandsAt}
use Rattle.st_lexer.specs.Spots.{spot_after}
use Rattle.st_lexer.proofs.Covers.{Upto, upto-start, upto-more, upto-inside}
use Rattle.st_lexer.proofs.reading.lex.Goals as goal

pub loop-at-init : goal.loop-at-init
unfolding spot_after
loop-at-init c = record {
  within = omega arith;
  line = omega arith;
  col = omega arith;
  spot = refl;
  upto = subst (λ (l : List Token). Upto c.args.text.now l 0) (sym c.new-tokens.ensures.tokens) (upto-start c.args.text.now);
}

pub loop-at-preserved : goal.loop-at-preserved
loop-at-preserved c =
    let text = c.args.text.now in
    let at = c.loop-at.at in
    let n = c.in-Piece.len in
    let t = c.in-Piece.tok in
    let w = c.in-Piece.ensures.within in
    let b = c.split_at.ensures.back in
    let fits : n ≤ length (drop at text) = omega (arith, w.1, ap length b) in
    let first = c.front.ensures ∙ ap (λ (l : List ℕ). take n l) b in
    let short : length c.front.result.now ≤ n = omega (arith, ap length c.front.ensures, length-take n (c.split_at.result.1.now)) in
    let stands = subst (λ (s : List ℕ). StandsAt at s n t) b c.in-Piece.ensures.finds in
    let more = upto-more text c.loop-at.tokens.tokens at n t c.loop-at.invariant.upto w.0 fits c.loop-at-test.true stands in
    let added = c.in_ok-add-in-Piece.ensures.ok text c.loop-at.invariant.spot in
    record {
      within = omega (arith, fits, length-drop at text);
      line = omega (arith, c.spot_behind-spot.ensures.line, short, c.loop-at.invariant.line);
      col = omega (arith, c.spot_behind-spot.ensures.col, short, c.loop-at.invariant.col);
      spot =
          c.spot_behind-spot.ensures.spot (take at text) c.loop-at.invariant.spot
          ∙ ap (λ (l : List ℕ). spot_after (take at text ++ l)) first ∙ ap spot_after (sym (take-add at n text));
      upto = subst (λ (l : List Token). Upto text l (at + n)) (sym added) more;
    }

pub returns-clause-inside : goal.returns-clause-inside
returns-clause-inside c = upto-inside c.args.text.now _ _ c.loop-at.at c.set_end.ensures.tokens c.loop-at.invariant.upto
