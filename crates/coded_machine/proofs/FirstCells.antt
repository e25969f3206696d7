-- FirstCells: before the first cycle the cells hold honest words.
use Rattle.std.proofs.Common.{ℕ, zero, suc, ◌+◌, ◌<◌, ◌≡◌, ap, ◌∙◌, List, [], ◌∷◌, length, map, slice_get, arith, Some}
use Rattle.vcp_base.specs.Code.{modulus}
use Rattle.vcp_base.specs.declared.code.Profile.{Profile}
use Rattle.vcp_base.specs.Limits.{most_cycles}
use Rattle.vcp_base.specs.Values.{at}
use Rattle.coded_unit.specs.Words.{coded}
use Rattle.op_graph.specs.declared.op.Cell.{Cell}
use Rattle.op_graph.specs.declared.op.Loaded.{Loaded}
use Rattle.op_graph.specs.Lists.{Lists, joined}
use Rattle.op_graph.specs.Rules.{IsGraph}
use Rattle.op_graph.specs.GraphRun.{initial}
use Rattle.signature_table.specs.Signatures.{Numbers, IsTable, signature, expected, stamp_before}
use Rattle.coded_machine.specs.CycleEnds.{initial_words}
use Rattle.coded_machine.specs.Honest.{CellsHold}
use Rattle.coded_machine.proofs.Promised.{Laws}

pub all_below : (laws : Laws) (p : Profile) (t : Numbers) (n : ℕ) → IsTable t → n < most_cycles → (k : ℕ) → expected p t.seed t.step k n < modulus p
all_below laws p t n table few = λ k. laws.coded.residues p t.seed t.step k n table.step_to few

initial_at : (p : Profile) (seed d : ℕ) (loads : List Loaded) (stores : List ℕ) (k n : ℕ) → d ≡ 0 → length stores ≡ length loads → slice_get stores k ≡ Some n →
    at (map (λ (c : Cell). coded p c.init (signature p seed c.store)) (joined loads stores)) k ≡ coded p (at (map (λ (l : Loaded). l.init) loads) k)
    (signature p seed n + d)
initial_at p seed d [] [] k n zero_ e there = absurd cc
initial_at p seed d [] (m ∷ stores) k n zero_ e there = absurd (omega arith)
initial_at p seed d (l ∷ loads) [] k n zero_ e there = absurd (omega arith)
initial_at p seed d (l ∷ loads) (m ∷ stores) zero n zero_ e there = let same : m ≡ n = cc in ap (λ j. coded p l.init (signature p seed j)) same
    ∙ ap (coded p l.init) (omega (arith, zero_))
initial_at p seed d (l ∷ loads) (m ∷ stores) (suc k) n zero_ e there = initial_at p seed d loads stores k n zero_ (omega arith) there

pub cells_at_first : (laws : Laws) (g : Lists) (seed step : ℕ) → IsGraph g → CellsHold g seed (stamp_before step 0) (initial_words g seed) (initial g)
cells_at_first laws g seed step graph = record {
  words = λ k n there. initial_at g.profile seed (stamp_before step 0) g.loads g.stores k n (omega arith) graph.all_stored there;
  typed = laws.typed.cells_at_first g graph;
}
