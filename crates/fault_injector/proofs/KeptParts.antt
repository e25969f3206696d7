-- KeptParts: where the words of a cycle stand among those that are kept, and how each cycle ended.
use Rattle.std.proofs.Common.{◌≡◌, ℕ, ◌+◌, ◌-◌, ◌*◌, ◌<◌, ◌≤◌, List, [], length, take, drop, slice_index_or, Option, Some, None, ℤ, sym, ap, subst, ◌∙◌, arith}
use Rattle.vcp_base.specs.declared.kind.StopKind.{StopKind}
use Rattle.coded_unit.specs.declared.call.Answer.{Answer}
use Rattle.op_graph.specs.Lists.{Lists}
use Rattle.signature_table.specs.Signatures.{Numbers}
use Rattle.coded_machine.specs.declared.cycle_end.CycleEnd.TheVariants as end
use Rattle.coded_machine.specs.CycleEnds.{end_of}
use Rattle.coded_machine.specs.Runs.{AllCycles, outcome_over}
use Rattle.fault_injector.specs.References.{kept_cycles}
use Rattle.fault_injector.proofs.KeptAnswers.{count_stop, ended_inside, ended_last, kept_count}

pub stop_one : (s : Option StopKind) → count_stop s ≤ 1
stop_one None = omega arith
stop_one (Some why) = omega arith

pub part_is : (n size count : ℕ) (words now : List ℤ) → count ≡ size → now ≡ words
    → take size (drop (n * size) words) ≡ take (n * count + count - n * count) (drop (n * count) now)
part_is n size count words now e d =
    let all : n * count + count - n * count ≡ count = omega arith in
    ap (λ (k : ℕ). take k (drop (n * size) words)) (sym e ∙ sym all)
    ∙ (ap (λ (k : ℕ). take (n * count + count - n * count) (drop (n * k) words)) (sym e)
    ∙ ap (λ (ws : List ℤ). take (n * count + count - n * count) (drop (n * count) ws)) (sym d))

pub last_part : (n size count : ℕ) (words now : List ℤ) → count ≡ size → now ≡ words → drop (n * size) words ≡ drop (n * count) now
last_part n size count words now e d = ap (λ (k : ℕ). drop (n * k) words) (sym e) ∙ ap (λ (ws : List ℤ). drop (n * count) ws) (sym d)

pub last_there : (n whole size count : ℕ) (words now : List ℤ) → n ≡ whole → count ≡ size → now ≡ words → whole * size ≤ length words
    → n * count ≤ length now
last_there n whole size count words now e c d there =
    subst (λ (k : ℕ). k * count ≤ length now) (sym e)
    (subst (λ (k : ℕ). whole * k ≤ length now) (sym c) (subst (λ (ws : List ℤ). whole * size ≤ length ws) (sym d) there))

-- a cycle that isn't one of the whole ones is the last
pub last_one : (size whole : ℕ) (words : List ℤ) (s : Option StopKind) (n : ℕ) → n < length (kept_cycles size whole words s) → whole ≤ n → n ≡ whole
last_one size whole words s n within past = omega (arith, kept_count size whole words s, stop_one s, within, past)

pub ended_early : (g : Lists) (t : Numbers) (rows : List (List ℤ)) (cycles : List (List Answer)) (i : ℕ) → AllCycles g t 0 rows cycles
    → i + 1 < length cycles → end_of g t i (slice_index_or cycles i []) ≡ end.Released
ended_early g t rows cycles i all within =
    let same : 0 + i ≡ i = omega arith in
    subst (λ (k : ℕ). end_of g t k (slice_index_or cycles i []) ≡ end.Released) same (ended_inside g t 0 rows cycles i all within)

pub ended_late : (g : Lists) (t : Numbers) (rows : List (List ℤ)) (cycles : List (List Answer)) (i : ℕ) → AllCycles g t 0 rows cycles
    → i + 1 ≡ length cycles → end_of g t i (slice_index_or cycles i []) ≡ (outcome_over g t 0 cycles).end
ended_late g t rows cycles i all last =
    let same : 0 + i ≡ i = omega arith in
    subst (λ (k : ℕ). end_of g t k (slice_index_or cycles i []) ≡ (outcome_over g t 0 cycles).end) same (ended_last g t 0 rows cycles i all last)
