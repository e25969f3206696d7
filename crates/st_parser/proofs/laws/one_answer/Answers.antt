use Rattle.std.proofs.Common.{sym, ◌∙◌}
use Rattle.st_parser.proofs.OneAnswer.{one-fault, no-fault, within-by-none}
use Rattle.st_parser.proofs.OneProgram.{only-one}
use Rattle.st_parser.proofs.Verdicts.{within-shallow, some}
use Rattle.st_tree.specs.Spelling.{bytes_in}
use Rattle.st_parser.proofs.laws.one_answer.Goals as goal

pub returns : goal.returns
returns c =
    let law = c.spelling_begins.ensures in
    record {
      some = λ text ts end. some law.renamed text end ts;
      either = λ p text ts end f s r. no-fault law.front law.program text ts end p f (s.0, s.1, s.2) (within-shallow law.renamed text ts p s) r;
      program = λ p q text ts s t. only-one (bytes_in text) p q s.0 t.0 s.1 t.1 (s.2 ∙ sym t.2);
      refused = λ text ts end f g m n r s. one-fault law.front text ts end f g r s m n;
      shallow = λ p text ts s. within-shallow law.renamed text ts p s;
      within = λ p text ts s none. within-by-none law.renamed text ts p s none;
    }
