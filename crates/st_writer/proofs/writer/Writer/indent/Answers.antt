use Rattle.std.proofs.Common.{◌≡◌, ℕ, zero, suc, List, [], ◌∷◌, ◌++◌, refl, ap, sym, ◌∙◌, add-one}
use Rattle.st_writer.specs.Lexemes as lexeme
use Rattle.st_writer.proofs.Added.{and_then, nothing, same}
use Rattle.st_writer.proofs.writer.Writer.indent.Goals as goal

deeper : (n : ℕ) → lexeme.indent n ++ lexeme.blank ∷ lexeme.blank ∷ [] ≡ lexeme.indent (suc n)
deeper zero = refl
deeper (suc n) = ap (λ (t : List lexeme.Lexeme). lexeme.blank ∷ lexeme.blank ∷ t) (deeper n)

pub levels-init : goal.levels-init
levels-init c = nothing

pub levels-preserved : goal.levels-preserved
levels-preserved c =
    same (deeper c.levels._outer ∙ ap lexeme.indent (sym (add-one c.levels._outer)))
    (and_then c.levels.invariant (c.put-self.ensures (lexeme.blank ∷ lexeme.blank ∷ []) refl))
