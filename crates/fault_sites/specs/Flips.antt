-- Flips: the faults that flip one bit of the word of a result, with the sign that this needs taken from a run without faults.
use Rattle.std.specs.Prelude.{ℕ, ◌/◌, ◌%◌, ◌^◌, ◌==◌, Bool, not, cond, List, [], ◌∷◌, length, ℤ, pos, negsuc, neg_ℤ}
use Rattle.vcp_base.specs.Values.{at}
use Rattle.fault_script.specs.declared.act.Act.{Act}
use Rattle.fault_script.specs.declared.act.Act.TheVariants as act
use Rattle.fault_sites.specs.declared.site.Site.{Site}
use Rattle.fault_sites.specs.RunCycle.{RunCycle, expected_word}
use Rattle.fault_sites.specs.Sites.{each_below, sited}

-- bit b of an integer in two's complement
abbrev pub bit_of : ℤ → ℕ → Bool
bit_of (pos n) b = n / 2 ^ b % 2 == 1
bit_of (negsuc n) b = not (n / 2 ^ b % 2 == 1)

-- what flips bit b of a word w, where it is added to it: plus 2^b where the bit is 0, and minus 2^b where it is 1
abbrev pub flip : ℤ → ℕ → ℤ
flip w b = cond (bit_of w b) (neg_ℤ (pos (2 ^ b))) (pos (2 ^ b))

-- how many bits of a word are flipped: the lowest 32
abbrev pub flipped_bits : ℕ
flipped_bits = 32

-- the flips of a result that is the word w, the lowest bit first
abbrev pub flips_of : ℤ → List Act
flips_of w = each_below (λ b. act.ResultAdd (flip w b) ∷ []) flipped_bits

-- the flips of a cycle
abbrev pub flips_in : RunCycle → List Site
flips_in c = each_below (λ k. sited c.cycle k (flips_of (expected_word c.table c.cycle k (at c.values k)))) (length c.graph.operations)
