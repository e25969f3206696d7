use Rattle.telegram.proofs.Following.{right_words_follow}
use Rattle.telegram.proofs.Senders.{solves, solved}
use Rattle.telegram.proofs.laws.receipts_follow_the_equation.Goals as goal

pub returns-clause-run : goal.returns-clause-run
returns-clause-run c =
    right_words_follow
    (record {
      words = c.words_split_in_one_way.ensures;
      shifts = c.shifted_words_keep_their_parts.ensures;
      residues = c.expected_residues_are_residues.ensures;
    })

pub returns-clause-equation : goal.returns-clause-equation
returns-clause-equation c = λ w sent begun numbers id n alter v. (solves w sent begun numbers id n alter v, solved w sent begun numbers id n alter v)
