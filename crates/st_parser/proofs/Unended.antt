-- Unended: where the tokens end before END_PROGRAM was read.
use Rattle.std.proofs.Common.{◌≡◌, List, [], ◌∷◌, Err, refl}
use Rattle.vcp_base.specs.declared.spot.Spot.{Spot}
use Rattle.st_tree.specs.StmtTree.{StmtTrees}
use Rattle.st_parser.specs.declared.fault.SyntaxFault.TheVariants as fault
use Rattle.st_parser.specs.declared.state.Parsed.{Parsed}
use Rattle.st_parser.specs.declared.state.Phase.{Phase}
use Rattle.st_parser.specs.declared.state.Phase.TheVariants as phase_is
use Rattle.st_parser.specs.declared.state.Place.{Place}
use Rattle.st_parser.specs.declared.state.Place.TheVariants as place_is
use Rattle.st_parser.specs.StateViews.{phase}
use Rattle.st_parser.specs.ProgramViews.{program}
use Rattle.st_parser.specs.StmtMachine.{Level}
use Rattle.st_parser.specs.ProgramMachine.{Front, finish, in_body}

-- no body was begun
pub outside-body : (end : Spot) (p : Parsed) (at : Place) → (at ≡ place_is.InBody → ⊥) → finish end (program p at) ≡ Err (fault.Syntax end)
outside-body end p place_is.AtProgram h = refl
outside-body end p place_is.AtName h = refl
outside-body end p place_is.AtBlock h = refl
outside-body end p place_is.AtVar h = refl
outside-body end p place_is.AtDecl h = refl
outside-body end p place_is.AtComma h = refl
outside-body end p place_is.AtNextName h = refl
outside-body end p place_is.AtType h = refl
outside-body end p place_is.AtInit h = refl
outside-body end p place_is.InInit h = refl
outside-body end p place_is.InBody h = absurd (h refl)

-- the body was begun
pub unended-body : (end : Spot) (f : Front) (outer : List Level) (ss : StmtTrees) (p : Phase) → (p ≡ phase_is.Finished → ⊥)
    → finish end (in_body f outer ss (phase p)) ≡ Err (fault.Syntax end)
unended-body end f (l ∷ ls) ss p h = refl
unended-body end f [] ss phase_is.Start h = refl
unended-body end f [] ss (phase_is.Named n s) h = refl
unended-body end f [] ss (phase_is.Reading u fs m) h = refl
unended-body end f [] ss phase_is.Closed h = refl
unended-body end f [] ss (phase_is.LoopBegun s) h = refl
unended-body end f [] ss (phase_is.LoopNamed l) h = refl
unended-body end f [] ss (phase_is.Labelling k ls p) h = refl
unended-body end f [] ss phase_is.Finished h = absurd (h refl)
