use Rattle.coded_unit.proofs.Modular.{whole, modulo_below, one_split, value_part_coded, modulo_coded, modulo_small, modulo_plus, coded_zero}
use Rattle.coded_unit.proofs.laws.words_split_in_one_way.Goals as goal

pub returns : goal.returns
returns c = λ p. record {
  whole = whole p;
  below = modulo_below p;
  one = one_split p;
  value = value_part_coded p;
  residue = modulo_coded p;
  small = modulo_small p;
  multiple = modulo_plus p;
  zero = coded_zero p;
}
