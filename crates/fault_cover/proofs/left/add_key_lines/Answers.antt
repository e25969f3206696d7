use Rattle.std.proofs.Common.{◌/◌, ◌%◌, [], ◌∷◌, ◌++◌, ◌∙◌, ap, append_assoc, sym, arith}
use Rattle.std.proofs.lemmas.List.{append-nil}
use Rattle.fault_sites.specs.Sites.{each_below}
use Rattle.fault_cover.specs.Leftovers.{key_line, run_line, runs_on}
use Rattle.fault_cover.proofs.Leaving.{lines_last, lines_next}
use Rattle.fault_cover.proofs.left.add_key_lines.Goals as goal

pub keys-init : goal.keys-init
keys-init c = record { lines = λ none. (none, sym (append-nil c.args.lines.now.list.items)); low = omega arith }

pub keys-preserved : goal.keys-preserved
keys-preserved c =
    let keys = c.args.keys.now in
    let first = c.args.lines.now.list.items in
    let key = c.in-Some.key in
    let line = run_line c.args.k c.args.width keys key in
    let so_far = each_below (key_line c.args.k c.args.width keys) c.keys.next in
    record {
      lines = λ none.
          let pushed = c.push.ensures none in
          let was = c.keys.invariant.lines pushed.0 in (
            was.0,
            pushed.1 ∙ ap (λ n. c.keys.lines.list.items ++ runs_on c.args.k (key / c.args.width) (key % c.args.width) n ∷ []) c.count_of-faults.ensures ∙ ap (λ xs. xs ++ line ∷ []) was.1
                ∙ append_assoc first so_far (line ∷ [])
                ∙ ap (λ xs. first ++ xs) (sym (lines_next c.args.k c.args.width keys c.keys.next c.args.most c.in-Some.key c.in-Some.ensures)),
          );
      low = let low = c.in-Some.ensures.low in omega (arith, low);
    }

pub returns : goal.returns
returns c = λ none.
    let keys = c.args.keys.now in
    let was = c.keys.invariant.lines none in (
      was.0,
      was.1 ∙ ap (λ xs. c.args.lines.now.list.items ++ xs)
          (sym (lines_last c.args.k c.args.width keys c.keys.next c.args.most c.keys.invariant.low c.in_default.ensures)),
    )
