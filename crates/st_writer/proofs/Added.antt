-- One step of the writer after another.
use Rattle.std.proofs.Common.{◌≡◌, ℕ, List, [], ◌∷◌, ◌++◌, false, Bool, true, sym, ap, subst, ◌∙◌, append_assoc, append-nil}
use Rattle.std.proofs.lemmas.Grind.{flat_map-append}
use Rattle.st_lexer.specs.declared.token.Sym.TheVariants as symbols
use Rattle.st_writer.specs.Adds.{Adds, Puts, where_needed}
use Rattle.st_writer.specs.CanonicalExpr.{bracketed}
use Rattle.st_writer.specs.Lexemes.{Lexeme, text_of, line_end}
use Rattle.st_writer.specs.declared.writer.Writer.{Writer}

-- first some lexemes, then the others
pub and_then : {a b c : Writer} {xs ys : List Lexeme} → Adds a b xs → Adds b c ys → Adds a c (xs ++ ys)
and_then {a} {b} {c} {xs} {ys} first second = record {
  so_far = λ sound. first.so_far (second.so_far sound);
  text = λ sound. second.text sound ∙ ap (λ (t : List ℕ). t ++ text_of ys) (first.text (second.so_far sound))
      ∙ append_assoc a.text.list.items (text_of xs) (text_of ys)
      ∙ ap (λ (t : List ℕ). a.text.list.items ++ t) (sym (flat_map-append (λ (x : Lexeme). x.bytes) xs ys));
}

pub nothing : {a : Writer} → Adds a a []
nothing {a} = record { so_far = λ sound. sound; text = λ sound. sym (append-nil a.text.list.items) }

-- the same lexemes
pub same : {a b : Writer} {xs ys : List Lexeme} → xs ≡ ys → Adds a b xs → Adds a b ys
same {a} {b} e one = subst (Adds a b) e one

-- lexemes of the same bytes
pub respelled : {a b : Writer} {xs : List Lexeme} (ys : List Lexeme) → text_of xs ≡ text_of ys → Adds a b xs → Adds a b ys
respelled {a} {b} ys e one = record { so_far = one.so_far; text = λ sound. one.text sound ∙ ap (λ (t : List ℕ). a.text.list.items ++ t) e }

-- one lexeme, of which the bytes are written
pub one_put : {a b : Writer} {bytes : List ℕ} (x : Lexeme) → x.bytes ≡ bytes → Puts a b bytes → Adds a b (x ∷ [])
one_put x e put = put (x ∷ []) (append-nil x.bytes ∙ e)

-- what is written at a level, which is known where the text is sound
pub at_level : {a b : Writer} {m : ℕ} (n : ℕ) (f : ℕ → List Lexeme) → (a.has_failed ≡ false → m ≡ n) → Adds a b (f m) → Adds a b (f n)
at_level {a} {b} {m} n f level one = record {
  so_far = one.so_far;
  text = λ sound. one.text sound ∙ ap (λ (k : ℕ). a.text.list.items ++ text_of (f k)) (level (one.so_far sound));
}

-- an expression in brackets where they are needed
pub in_brackets : {a b : Writer} (needed : Bool) (xs : List Lexeme)
    → Adds a b (where_needed needed symbols.LParen ++ (xs ++ where_needed needed symbols.RParen)) → Adds a b (bracketed needed xs)
in_brackets true xs one = one
in_brackets false xs one = same (append-nil xs) one

-- a line of an expression between lexemes, with the end of the line
pub head_ends : {a b : Writer} (before xs e ys : List Lexeme) → Adds a b (before ++ (xs ++ (e ++ (ys ++ line_end ∷ []))))
    → Adds a b (before ++ ((xs ++ (e ++ ys)) ++ line_end ∷ []))
head_ends before xs e ys one = same (ap (λ (t : List Lexeme). before ++ t)
    (sym (append_assoc xs (e ++ ys) (line_end ∷ []) ∙ ap (λ (t : List Lexeme). xs ++ t) (append_assoc e ys (line_end ∷ []))))) one
