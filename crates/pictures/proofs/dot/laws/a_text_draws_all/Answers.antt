use Rattle.std.proofs.Common.{[]}
use Rattle.pictures.proofs.dot.laws.a_text_draws_all.Goals as goal

pub returns : goal.returns
returns c g horizon a is = c.a_graph_is_drawn_whole.ensures.colours_whole g horizon a [] is
