-- Cuts: a word before and behind its first such byte.
use Rattle.std.proofs.Common.{◌≡◌, ℕ, ◌+◌, ◌-◌, ◌==◌, ◌<◌, Bool, true, false, cond, nat_lt, List, length, take, drop, Option, Some, None, sym, ap, ◌∙◌, arith}
use Rattle.std.specs.List.{position_or_len, before_first, after_first}
use Rattle.std.proofs.lemmas.Bool.Decides.{nat_tests}
use Rattle.vcp_base.proofs.Firsts.{part_to_end}
use Rattle.fault_sites.specs.NamedWords.{cut}

abbrev Cut : Type 0
Cut = Option (List ℕ × List ℕ)

cut_by : (c : ℕ) (w : List ℕ) (b : Bool) → nat_lt (position_or_len (λ b. b == c) w) (length w) ≡ b
    → cut c w ≡ cond b (Some (before_first (λ b. b == c) w, after_first (λ b. b == c) w)) None
cut_by c w b e = ap (λ (b : Bool). cond b (Some (before_first (λ b. b == c) w, after_first (λ b. b == c) w)) None) e

pub cut_is : (c : ℕ) (w : List ℕ) (place : ℕ) → place ≡ position_or_len (λ b. b == c) w → place < length w
    → cut c w ≡ Some (take place w, take (length w - (place + 1)) (drop (place + 1) w))
cut_is c w place is within =
    let less : nat_lt (position_or_len (λ b. b == c) w) (length w) ≡ true = grind (arith, nat_tests) in
    cut_by c w true less
    ∙ (ap (λ (n : ℕ). Some (take n w, drop (n + 1) w)) (sym is) ∙ ap (λ (t : List ℕ). Some (take place w, t)) (sym (part_to_end w (place + 1))))

pub no_cut : (c : ℕ) (w : List ℕ) (place : ℕ) → place ≡ position_or_len (λ b. b == c) w → place ≡ length w → cut c w ≡ None
no_cut c w place is all =
    let less : nat_lt (position_or_len (λ b. b == c) w) (length w) ≡ false = grind (arith, nat_tests) in cut_by c w false less
