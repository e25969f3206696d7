use Rattle.std.proofs.Common.{◌≡◌, ◌∙◌, [], ◌∷◌, length, sym, arith}
use Rattle.pictures.specs.WavesDrawn.{is_level}
use Rattle.pictures.specs.WavesElements.{base_element, base_elements}
use Rattle.pictures.proofs.WavesGoing.{drawn_if, not_drawn, one_drawn, text_more}
use Rattle.vcp_outside.specs.Pens.{unmoved, and_then, same}
use Rattle.pictures.proofs.waves.cycles.then_bases.Goals as goal

pub columns-init : goal.columns-init
columns-init g c = unmoved

pub columns-preserved : goal.columns-preserved
columns-preserved g c =
    let l = c.args.layout in
    let run = c.args.run.now in
    let base = base_element l (length run.rows) c.columns.column in
    let told = rw (c.start.ensures.begin, c.start-end.ensures.begin, c.cycles.ensures.count, c.top-y.ensures) at c.then_line-pen.ensures in
    let drawn = drawn_if (base ∷ []) (is_level run c.columns.column) (sym c.is_level.ensures ∙ c.if-not-is_level.false) (one_drawn base told) in
    same (and_then c.columns.invariant drawn) (text_more (base_elements l run) c.columns.column)

pub columns-preserved-then-not-is_level : goal.columns-preserved-then-not-is_level
columns-preserved-then-not-is_level g c =
    let l = c.args.layout in
    let run = c.args.run.now in
    let base = base_element l (length run.rows) c.columns.column in
    let none = not_drawn (base ∷ []) (is_level run c.columns.column) (sym c.is_level.ensures ∙ c.if-not-is_level.true) in
    same (and_then c.columns.invariant none) (text_more (base_elements l run) c.columns.column)

pub returns : goal.returns
returns g c =
    let all : c.columns.column ≡ length c.args.run.now.names = omega arith in
    rw all at c.columns.invariant
