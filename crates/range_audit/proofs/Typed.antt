-- Typed: what is found of cells of which nothing is known but their types.
use Rattle.std.proofs.Common.{◌≡◌, ◌∷◌, [], ℤ, true, List, length, refl, sym, subst}
use Rattle.op_graph.specs.Laws.{OperandLaws}
use Rattle.op_graph.specs.Lists.{Lists}
use Rattle.op_graph.specs.Rules.{IsGraph}
use Rattle.range_walk.specs.declared.range.Range.{Range}
use Rattle.range_walk.specs.Intervals.{Hold}
use Rattle.range_walk.specs.Known.{KnownRanges}
use Rattle.range_walk.specs.Walking.{IsWalk}
use Rattle.range_audit.specs.Searching.{Always, AreLoaded, Box, InBox, IsHeld, IsSound}
use Rattle.range_audit.proofs.Cycles.{always_fit}

module _ (g : Lists) (inputs : List Range) (cells : Box) (laws : OperandLaws) (graph : IsGraph g)
    (holds : (held : List ℤ) → AreLoaded true g.loads held → Hold cells.items held) where
  hold : (held : List ℤ) → IsHeld g inputs held → Hold cells.items held
  hold held is = holds held (always_fit g inputs laws graph held is)

  pub typed_sound : (told : KnownRanges) → IsWalk g.operations cells.items inputs told → IsSound g inputs told
  typed_sound told walk = record {
    known = walk.known_many;
    stops = walk.stops_many;
    found = record {
      fits = λ held row vs is row_in given. walk.fits held row vs (hold held is) row_in given;
      names = λ held row vs op why is row_in given there own no e. walk.names held row vs op why (hold held is) row_in given there own no e;
    };
    able = walk.able;
    types = walk.types;
  }

  pub typed_always : (boxes : List Box) → length cells.items ≡ length g.stores → boxes ≡ cells ∷ [] → Always g inputs (InBox boxes (length g.stores))
  typed_always boxes many made held is = subst (λ bs. InBox bs (length g.stores) held) (sym made) (0, cells, refl, (many, hold held is))
