-- The right answers to the four calls of one cycle of `y := x + 1` at x = 5, worked by hand.
use Rattle.std.proofs.Common.{refl, ℕ, ◌≡◌, ◌-◌, ◌^◌, ℤ, pos, negsuc, [], ◌∷◌, Some, None}
use Rattle.vcp_base.specs.declared.code.Profile.{Profile}
use Rattle.vcp_base.specs.declared.code.Profile.TheVariants as profile
use Rattle.vcp_base.specs.declared.kind.Kind.{Kind}
use Rattle.vcp_base.specs.declared.kind.Kind.TheVariants as kind
use Rattle.vcp_base.specs.declared.ty.Ty.{Ty}
use Rattle.vcp_base.specs.declared.ty.Ty.TheVariants as ty
use Rattle.coded_unit.specs.declared.call.Call.{Call}
use Rattle.coded_unit.specs.declared.call.Answer.TheVariants as answer
use Rattle.coded_unit.specs.Words.{modulo, value_part, coded, nearest_word}
use Rattle.coded_unit.specs.Right.{Right}
use Rattle.coded_unit.specs.Faulty.{Faulty, nothing_replaced, replacement, next_answer}

-- a call on values of one type in cycle 0, whose stamp is 1
called_in : Profile → Ty → Kind → ℤ → ℤ → ℤ → ℕ → Call
called_in p t kind a b imm corr =
    record { profile = p; op = 0; cycle = 0; kind = kind; from = t; ty = t; a = a; b = b; c = pos 0; imm = imm; corr = corr; stamp = 1 }

called : Kind → ℤ → ℤ → ℤ → ℕ → Call
called = called_in profile.Narrow ty.Dint

-- x has the value 5 and the signature 305419896
right-input : Right (called kind.Input (pos 0) (pos 0) (pos 5) 305419896) ≡ answer.Word (pos 11042838132)
unfolding called called_in modulo value_part coded
right-input = refl

-- the constant has the value 1 and the signature 520168261
right-const : Right (called kind.Const (pos 0) (pos 0) (pos 1) 520168261) ≡ answer.Word (pos 2667651909)
unfolding called called_in modulo value_part coded
right-const = refl

right-add : Right (called kind.Add (pos 11042838132) (pos 2667651909) (pos 0) 2056812116) ≡ answer.Word (pos 13619818509)
unfolding called called_in modulo value_part coded
right-add = refl

right-out : Right (called kind.Out (pos 13619818509) (pos 0) (pos 0) 214748365) ≡ answer.Word (pos 13834566874)
unfolding called called_in modulo value_part coded
right-out = refl

-- the same cycle on LINT in the wide code, with the seed 0
wide-input : Right (called_in profile.Wide ty.Lint kind.Input (pos 0) (pos 0) (pos 5) 0) ≡ answer.Word (pos 11529215046068469756)
unfolding called_in modulo value_part coded
wide-input = refl

wide-const : Right (called_in profile.Wide ty.Lint kind.Const (pos 0) (pos 0) (pos 1) 922337203685477581) ≡ answer.Word (pos 3228180212899171533)
unfolding called_in modulo value_part coded
wide-const = refl

wide-add : Right (called_in profile.Wide ty.Lint kind.Add (pos 11529215046068469756) (pos 3228180212899171533) (pos 0) 2075258708292324556)
    ≡ answer.Word (pos 14526810958046271893)
unfolding called_in modulo value_part coded
wide-add = refl

wide-out : Right (called_in profile.Wide ty.Lint kind.Out (pos 14526810958046271893) (pos 0) (pos 0) 2075258708292324556)
    ≡ answer.Word (pos 14296226657124902498)
unfolding called_in modulo value_part coded
wide-out = refl

-- -2147483646 is the word of the value -1 and the residue 1
split-negative : (value_part profile.Narrow (negsuc 2147483645) ≡ negsuc 0) × (modulo profile.Narrow (negsuc 2147483645) ≡ 1)
unfolding modulo value_part
split-negative = (refl, refl)

-- the least DINT with the residue 1
coded-least : coded profile.Narrow (negsuc 2147483647) 1 ≡ negsuc 4611686016279904254
unfolding coded
coded-least = refl

-- past the greatest word stands the greatest word
nearest_word-past : nearest_word (pos (2 ^ 126)) ≡ pos (2 ^ 126 - 1)
nearest_word-past = refl

-- two calls done, with the answers of the calls 2 and 7 replaced
two_done : Faulty
two_done = record (nothing_replaced 4) { calls = 2; replacements = (2, answer.Range) ∷ (7, answer.Word (pos 4294967299)) ∷ [] }

replaced-seven : replacement two_done.replacements 7 ≡ Some (answer.Word (pos 4294967299))
unfolding two_done
replaced-seven = refl

replaced-eight : replacement two_done.replacements 8 ≡ None
unfolding two_done
replaced-eight = refl

-- the next call is number 2
answered-replaced : next_answer two_done (called kind.Const (pos 0) (pos 0) (pos 1) 520168261) ≡ answer.Range
unfolding two_done called called_in
answered-replaced = refl

-- and number 3 after it is answered rightly
answered-right : next_answer (record two_done { calls = 3 }) (called kind.Const (pos 0) (pos 0) (pos 1) 520168261) ≡ answer.Word (pos 2667651909)
unfolding two_done called called_in modulo value_part coded
answered-right = refl
