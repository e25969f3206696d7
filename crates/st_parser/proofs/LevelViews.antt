-- LevelViews: one level more.
use Rattle.std.proofs.Common.{◌≡◌, ◌+◌, List, [], ◌∷◌, ◌++◌, length, refl, ap, ◌∙◌, arith, Option, Some, None}
use Rattle.std.specs.Option.{option_to_list}
use Rattle.st_parser.specs.declared.state.Level.{Level}
use Rattle.st_parser.specs.StateViews.{level, inside, levels, Leaves}
use Rattle.st_parser.specs.StmtMachine as machine

inside-push : (outer : List machine.Level) (ls : List Level) (l : Level) → inside outer (ls ++ l ∷ []) ≡ level l ∷ inside outer ls
inside-push outer [] l = refl
inside-push outer (m ∷ ls) l = inside-push (level m ∷ outer) ls l

pub levels-push : (ls : List Level) (l : Level) → levels (ls ++ l ∷ []) ≡ level l ∷ levels ls
unfolding levels
levels-push ls l = inside-push [] ls l

pub levels-none : levels [] ≡ []
unfolding levels
levels-none = refl

length-inside : (outer : List machine.Level) (ls : List Level) → length (inside outer ls) ≡ length outer + length ls
length-inside outer [] = omega arith
length-inside outer (l ∷ ls) = omega (arith, length-inside (level l ∷ outer) ls)

pub length-levels : (ls : List Level) → length (levels ls) ≡ length ls
unfolding levels
length-levels ls = omega (arith, length-inside [] ls)

pub leaves : (old new : List Level) (o : Option Level) → old ≡ new ++ option_to_list o → (o ≡ None → length new ≡ 0) → Leaves (levels old) o (levels new)
leaves old [] None is h = (ap levels is ∙ levels-none, levels-none)
leaves old (f ∷ fs) None is h = absurd (omega (arith, h refl))
leaves old new (Some l) is h = ap levels is ∙ levels-push new l
