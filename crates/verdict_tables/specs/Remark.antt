-- Remark: which image a script is for, by the remark in its first line.
use Rattle.std.specs.Prelude.{ℕ, Bool, true, cond, List, [], ◌∷◌, bytes_eq, codes, drop, Option, Some, None}
use Rattle.std.specs.Str.Lines.{lines}
use Rattle.vcp_base.specs.Words.{words}
use Rattle.fault_sites.specs.NextWord.{first_is}

-- what comes behind this word, which has to be the first
abbrev pub behind_word : List ℕ → (List (List ℕ) → Option (List ℕ)) → List (List ℕ) → Option (List ℕ)
behind_word name next words = cond (first_is name words) (next (drop 1 words)) None

abbrev pub first_word : List (List ℕ) → Option (List ℕ)
first_word [] = None
first_word (word ∷ more) = Some word

abbrev pub behind_class : List (List ℕ) → Option (List ℕ)
behind_class [] = None
behind_class (class ∷ more) = behind_word (codes "of") first_word more

-- the digits of a digest in the words of a remark: `# sites CLASS of DIGEST`
abbrev pub digest_in : List (List ℕ) → Option (List ℕ)
digest_in words = behind_word (codes "#") (behind_word (codes "sites") behind_class) words

abbrev pub first_digest : List (List ℕ) → Option (List ℕ)
first_digest [] = None
first_digest (line ∷ more) = digest_in (words line)

-- the digits of the digest in the first line of a script, where it is such a remark
abbrev pub digest_of : List ℕ → Option (List ℕ)
digest_of text = first_digest (lines text)

abbrev pub is_digest : List ℕ → Option (List ℕ) → Bool
is_digest digest None = true
is_digest digest (Some named) = bytes_eq named digest

-- a script names the image with this digest, or none
abbrev pub is_for : List ℕ → List ℕ → Bool
is_for digest text = is_digest digest (digest_of text)
