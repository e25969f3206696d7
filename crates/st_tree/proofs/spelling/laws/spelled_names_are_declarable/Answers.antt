use Rattle.st_tree.proofs.DeclaredSpellings.{has_names, begun_names}
use Rattle.st_tree.proofs.spelling.laws.spelled_names_are_declarable.Goals as goal

pub returns : goal.returns
returns c = record {
  names = λ p text ts reads short s. has_names p text ts reads short s;
  begun = λ p text more k ts e w reads short key s. begun_names p text more k ts e w reads short key s;
}
