use Rattle.st_parser.proofs.Verdicts.{spelled-of, one-of, answered, err-of, shallow-of}
use Rattle.st_parser.proofs.OneAnswer.{within-by-none}
use Rattle.st_parser.proofs.parsing.parse.Goals as goal

pub returns : goal.returns
returns c =
    let text = c.args.text.now in
    let end = c.args.tokens.now.end in
    let ts = c.args.tokens.now.tokens in
    let r = c.read_program.result in
    let e = c.read_program.ensures in
    record {
      spelled = spelled-of text end ts r e;
      one = one-of text end ts r e;
      only = λ p s. answered text end ts p r s e;
      all = λ p s none. answered text end ts p r (within-by-none c.spelling_begins.ensures.renamed text ts p s none) e;
      shallow = shallow-of c.spelling_begins.ensures.renamed text end ts r e;
      err = err-of c.spelling_begins.ensures.renamed text end ts r e;
    }
