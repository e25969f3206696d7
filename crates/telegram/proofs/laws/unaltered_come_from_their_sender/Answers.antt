use Rattle.telegram.proofs.Senders.{unaltered_come}
use Rattle.telegram.proofs.laws.unaltered_come_from_their_sender.Goals as goal

pub returns : goal.returns
returns c =
    unaltered_come
    (record {
      words = c.words_split_in_one_way.ensures;
      residues = c.expected_residues_are_residues.ensures;
      distinct = c.signatures_are_distinct.ensures;
    })
