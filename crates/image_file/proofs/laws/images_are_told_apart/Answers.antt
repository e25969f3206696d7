use Rattle.std.proofs.Common.{◌≡◌, sym, ap, ◌∙◌, length}
use Rattle.image_file.specs.Image.{Parts, image_piece, parts_of}
use Rattle.image_file.specs.Graphs.{lists_of, placed}
use Rattle.image_file.proofs.PieceLaws.{one_value, one_fault, no_fault}
use Rattle.image_file.proofs.Sections.{image_law}
use Rattle.image_file.proofs.Found.{either}
use Rattle.image_file.proofs.FittingGraphs.{graph_fits, lists_back}
use Rattle.image_file.proofs.Admits.{GraphLaws}
use Rattle.image_file.proofs.laws.images_are_told_apart.Goals as goal

pub returns-clause-one_graph : goal.returns-clause-one_graph
returns-clause-one_graph c = λ g h seed other_seed step other_step hg hh e.
    let laws : GraphLaws =
    record {
      output = c.entries_keep_their_rules.ensures.output;
      operation = c.entries_keep_their_rules.ensures.operation;
      imm = c.numbers_have_64_bits.ensures.imm;
      init = c.numbers_have_64_bits.ensures.init;
    } in
    let same : parts_of g seed step ≡ parts_of h other_seed other_step =
    one_value image_piece image_law (parts_of g seed step) (parts_of h other_seed other_step) (graph_fits laws g seed step hg)
    (graph_fits laws h other_seed other_step hh) e in (
      sym (lists_back g seed step hg) ∙ ap lists_of same
          ∙ lists_back h other_seed other_step hh,
      ap (λ (p : Parts). p.seed) same,
      ap (λ (p : Parts). p.step) same,
    )

pub returns-clause-one_fault : goal.returns-clause-one_fault
returns-clause-one_fault c = λ bytes e f he hf. he.2 ∙ ap (placed (length bytes)) (one_fault image_piece image_law bytes he.0 hf.0 he.1 hf.1) ∙ sym hf.2

pub returns-clause-no_fault : goal.returns-clause-no_fault
returns-clause-no_fault c = λ g seed step e hg hf.
    let laws : GraphLaws =
    record {
      output = c.entries_keep_their_rules.ensures.output;
      operation = c.entries_keep_their_rules.ensures.operation;
      imm = c.numbers_have_64_bits.ensures.imm;
      init = c.numbers_have_64_bits.ensures.init;
    } in
    no_fault image_piece image_law (parts_of g seed step) hf.0 (graph_fits laws g seed step hg) hf.1

pub returns-clause-either : goal.returns-clause-either
returns-clause-either c = λ bytes all. either bytes all
