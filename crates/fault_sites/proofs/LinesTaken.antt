-- LinesTaken: what the lines so far leave.
use borrow.Author.Tests.{le-leb, lt-leb}
use Rattle.std.proofs.Common.{◌≡◌, ℕ, ◌+◌, ◌<◌, ◌≤◌, nat_le, List, [], ◌∷◌, Result, Ok, Err, Bool, false, cond, ap, sym, ◌∙◌}
use Rattle.op_graph.specs.Lists.{Lists}
use Rattle.vcp_base.specs.Lines.{Line}
use Rattle.vcp_base.specs.Words.{words}
use Rattle.fault_script.specs.ScriptOf.{most_faults}
use Rattle.fault_sites.specs.declared.named.refused.Refused.{Refused}
use Rattle.fault_sites.specs.declared.named.refused.Why.TheVariants as reason
use Rattle.fault_sites.specs.declared.named.meant.Meant.{Meant}
use Rattle.fault_sites.specs.NamedLines.{and_next, meant_of}
use Rattle.fault_sites.specs.NamedEntries.{fault_count, counted, taken, going, lines_checked}

-- the faults of a line are counted, unless there are too many
count_of : (g : Lists) (before n : ℕ) (text : List ℕ) (m : Meant) → meant_of g (words text) ≡ Ok m → n ≡ fault_count m
    → taken g before text ≡ cond (nat_le (before + n) most_faults) (Ok (before + n)) (Err reason.Faults)
count_of g before n text m is count =
    ap (and_next (λ m. counted before m)) is
    ∙ ap (λ (k : ℕ). cond (nat_le (before + k) most_faults) (Ok (before + k)) (Err reason.Faults)) (sym count)

pub counts : (g : Lists) (before n : ℕ) (text : List ℕ) (m : Meant) → meant_of g (words text) ≡ Ok m → n ≡ fault_count m
    → before + n ≤ most_faults → taken g before text ≡ Ok (before + n)
counts g before n text m is count few =
    count_of g before n text m is count
    ∙ ap (λ (b : Bool). cond b (Ok (before + n)) (Err reason.Faults)) (le-leb (before + n) most_faults few)

pub too_many : (g : Lists) (before n : ℕ) (text : List ℕ) (m : Meant) → meant_of g (words text) ≡ Ok m → n ≡ fault_count m
    → most_faults < before + n → taken g before text ≡ Err reason.Faults
too_many g before n text m is count many =
    count_of g before n text m is count
    ∙ ap (λ (b : Bool). cond b (Ok (before + n)) (Err reason.Faults)) (lt-leb (before + n) most_faults many)

-- a line is taken
pub goes_on : (g : Lists) (before n : ℕ) (l : Line) (ls more : List Line) → ls ≡ l ∷ more → taken g before l.text ≡ Ok n
    → lines_checked g before ls ≡ lines_checked g n more
goes_on g before n l ls more is ok =
    ap (lines_checked g before) is ∙ ap (going l.number (λ n. lines_checked g n more)) ok

-- a line is refused
pub refuses : (g : Lists) (before : ℕ) (r : Refused) (l : Line) (ls more : List Line) → ls ≡ l ∷ more → r.line ≡ l.number
    → taken g before l.text ≡ Err r.why → lines_checked g before ls ≡ Err r
refuses g before r l ls more is same err =
    ap (lines_checked g before) is
    ∙ (ap (going l.number (λ n. lines_checked g n more)) err ∙ ap (λ (n : ℕ). Err (record { line = n; why = r.why })) (sym same))

-- no line is left
pub ends : (g : Lists) (before : ℕ) (ls : List Line) → ls ≡ [] → lines_checked g before ls ≡ Ok tt
ends g before ls none = ap (lines_checked g before) none

pub no_other : (b : Bool) (why : Refused) (r s : Result (Unit {0}) Refused) → b ≡ false → r ≡ s → cond b (Err why) r ≡ s
no_other b why r s is same = rw is same
