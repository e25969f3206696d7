-- WellFormed: what makes bytes a document, by the rules of XML 1.0 for elements, attributes and characters.
use Rattle.std.specs.Prelude.{◌≡◌, ℕ, List, [], ◌∷◌, ◌++◌, codes, true, false, Bool, ◌&&◌, ◌||◌, nat_le, ◌==◌, bytes_eq, not, map}
use Rattle.std.specs.List.{list_any}
use Rattle.vcp_outside.specs.Characters.{is_plain}
use Rattle.vcp_outside.specs.Elements.{Element, attribute_name}

-- references to a character that each document may have
abbrev pub references : List (List ℕ)
references = codes "&lt;" ∷ codes "&gt;" ∷ codes "&amp;" ∷ codes "&quot;" ∷ codes "&#39;" ∷ codes "&#65533;" ∷ []

-- characters of a text or of a value: such that have no meaning of their own, and references
pub data AreCharacters : List ℕ → Type 0 where
  no_character : AreCharacters []
  plain : (b : ℕ) (more : List ℕ) → is_plain b ≡ true → AreCharacters more → AreCharacters (b ∷ more)
  referred : (r more : List ℕ) → list_any (bytes_eq r) references ≡ true → AreCharacters more → AreCharacters (r ++ more)

-- a name: a letter, and then letters, digits and `-`
abbrev pub is_letter : ℕ → Bool
is_letter b = (nat_le 65 b && nat_le b 90) || (nat_le 97 b && nat_le b 122)

abbrev pub is_name_byte : ℕ → Bool
is_name_byte b = is_letter b || (nat_le 48 b && nat_le b 57) || b == 45

abbrev pub are_name_bytes : List ℕ → Bool
are_name_bytes [] = true
are_name_bytes (b ∷ bytes) = is_name_byte b && are_name_bytes bytes

abbrev pub is_name : List ℕ → Bool
is_name [] = false
is_name (b ∷ bytes) = is_letter b && are_name_bytes bytes

-- no name stands twice among these
abbrev pub each_once : List (List ℕ) → Bool
each_once [] = true
each_once (n ∷ names) = not (list_any (bytes_eq n) names) && each_once names

-- attributes of these names: each after a space, its value between quotes
pub data AreAttributes : List (List ℕ) → List ℕ → Type 0 where
  no_attribute : AreAttributes [] []
  then_one : (n : List ℕ) (names : List (List ℕ)) (value more : List ℕ) → is_name n ≡ true → AreCharacters value → AreAttributes names more
      → AreAttributes (n ∷ names) (codes " " ++ (n ++ (codes "=\"" ++ (value ++ (codes "\"" ++ more)))))

-- what may stand inside an element: ends of lines, characters, and elements whose end has the name of their start
pub data IsContent : List ℕ → Type 0 where
  nothing : IsContent []
  line_end : (more : List ℕ) → IsContent more → IsContent (codes "\n" ++ more)
  characters : (text more : List ℕ) → AreCharacters text → IsContent more → IsContent (text ++ more)
  inner : (n : List ℕ) (names : List (List ℕ)) (attributes inside more : List ℕ) → is_name n ≡ true → AreAttributes names attributes
      → each_once names ≡ true → IsContent inside → IsContent more
      → IsContent (codes "<" ++ (n ++ (attributes ++ (codes ">" ++ (inside ++ (codes "</" ++ (n ++ (codes ">" ++ more))))))))

-- a document: one element, and the end of a line
pub data IsDocument : List ℕ → Type 0 where
  one : (n : List ℕ) (names : List (List ℕ)) (attributes inside : List ℕ) → is_name n ≡ true → AreAttributes names attributes
      → each_once names ≡ true → IsContent inside
      → IsDocument (codes "<" ++ (n ++ (attributes ++ (codes ">" ++ (inside ++ (codes "</" ++ (n ++ codes ">\n")))))))

-- an element has no attribute twice
abbrev pub HasEachOnce : Element → Type 0
HasEachOnce e = each_once (map (λ a. attribute_name a.name) e.attributes) ≡ true
