use Rattle.std.proofs.lemmas.Result.{IfOk-from_err}
use Rattle.fault_cover.proofs.Placing.{placed_word}
use Rattle.fault_cover.proofs.Resting.{words_more}
use Rattle.fault_cover.proofs.rests.word_rests.Goals as goal

pub rests_of-requires-clause-placed : goal.rests_of-requires-clause-placed
rests_of-requires-clause-placed c =
    placed_word c.args.graph.now c.args.survey.now.readings c.words.k c.readings-word.result.now c.requires.maps.readings c.readings-word.ensures
    (c.words_split_in_one_way.ensures c.args.graph.now.profile) c.entries_keep_their_rules.ensures c.requires.graph.part

pub words-preserved : goal.words-preserved
words-preserved c =
    words_more c.args.graph.now c.args.survey.now c.words.all.items _ c.words.k c.readings-word.result.now c.in_ok-rests.rests c.words.invariant
    c.in_ok-push.ensures.items c.readings-word.ensures c.in_ok-rests.ensures

pub returns-in_err-rests : goal.returns-in_err-rests
returns-in_err-rests c = IfOk-from_err c.from_residual.result _ c.from_residual.ensures.0

pub returns-in_err-push : goal.returns-in_err-push
returns-in_err-push c = IfOk-from_err c.from_residual-in_err-push.result _ c.from_residual-in_err-push.ensures.0

pub rests_of-requires-clause-graph : goal.rests_of-requires-clause-graph
rests_of-requires-clause-graph c = c.requires.graph

pub rests_of-requires-clause-maps : goal.rests_of-requires-clause-maps
rests_of-requires-clause-maps c = c.requires.maps
