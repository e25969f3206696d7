use Rattle.std.proofs.Common.{◌+◌, ◌++◌, List, Option, sym, ap, ◌∙◌, arith, drop, length}
use Rattle.verdict_tables.specs.declared.endless.ending.SameEnding.{SameEnding}
use Rattle.verdict_tables.specs.SameEndings.{endings_for, ended_count}
use Rattle.verdict_tables.proofs.Apart.{one_ended, none_ended, each_ended, three_are_all}
use Rattle.verdict_tables.proofs.endings.endings_of.Goals as goal

pub words_left-requires : goal.words_left-requires
words_left-requires c = record { table = c.requires.table; width = c.requires.width; few = c.requires.few }

pub ending_if-requires-clause-table : goal.ending_if-requires-clause-table
ending_if-requires-clause-table c = c.requires.table

pub ending_if-requires-clause-width : goal.ending_if-requires-clause-width
ending_if-requires-clause-width c = c.requires.width

pub ending_if-requires-clause-few : goal.ending_if-requires-clause-few
ending_if-requires-clause-few c = c.requires.few

pub ending_if-requires-clause-without : goal.ending_if-requires-clause-without
ending_if-requires-clause-without c = c.deref.ensures.value ∙ c.in-Ok.ensures

pub returns-in-Err-push : goal.returns-in-Err-push
returns-in-Err-push c = record { endings = tt; each = tt; sum = tt }

pub returns-in-Err : goal.returns-in-Err
returns-in-Err c = record { endings = tt; each = tt; sum = tt }

pub returns-in-Err-ending_if : goal.returns-in-Err-ending_if
returns-in-Err-ending_if c = record { endings = tt; each = tt; sum = tt }

pub groups-preserved : goal.groups-preserved
groups-preserved c =
    let t = c.args.table.now in
    let g = c.args.graph.now in
    let rows = c.args.rows.now in
    let groups = c.args.script.now in
    let vs = c.args.verdicts.now in
    let i = c.groups.i in
    c.groups.invariant
    ∙ (one_ended t g rows groups vs i c.at-group.result.now c.at-verdict.result c.in-Ok-ending_if.ending c.groups.endings c.at-group.ensures
    c.at-verdict.ensures c.in-Ok-ending_if.ensures
    ∙ ap (λ (es : List (Option SameEnding)). es ++ endings_for t g rows (drop (i + 1) groups) (drop (i + 1) vs)) (sym c.in-Ok-push.ensures.ok))

pub returns : goal.returns
returns c =
    let t = c.args.table.now in
    let g = c.args.graph.now in
    let rows = c.args.rows.now in
    let groups = c.args.script.now in
    let vs = c.args.verdicts.now in
    let all = sym (c.groups.invariant
    ∙ none_ended t g rows groups vs c.groups.i c.groups.endings (omega (arith, c.groups-test.false, c.len-i-end.ensures))) in
    record {
      endings = all;
      each = ap length all ∙ each_ended t g rows groups vs c.requires.many;
      sum = ap (λ (es : List (Option SameEnding)). ended_count 0 es + ended_count 1 es + ended_count 2 es) all
          ∙ three_are_all t g rows groups vs c.requires.many;
    }
