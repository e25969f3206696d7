-- Turns that are told one after another.
use Rattle.std.proofs.Common.{◌≡◌, ℕ, ◌<◌, List, [], ◌∷◌, ◌++◌, Some, None, length, drop, slice_get, flat_map, map, ap, sym, ◌∙◌, subst, refl, append_assoc}
use Rattle.std.proofs.lemmas.List.{append-nil, flat_map_more}
use Rattle.std.proofs.lemmas.List.Folds.{flat_map-map}
use Rattle.std.proofs.lemmas.List.Elements.{All-head, All-tail}
use Rattle.std.proofs.lemmas.Option.{get_or_from_slice_get}
use Rattle.vcp_base.specs.declared.turns.Turn.{Turn}
use Rattle.vcp_base.specs.Stops.{told_turn}
use Rattle.run_report.specs.Lines.{turn_text, AreNamed}

-- the text of turns, by the names in this list
abbrev pub turns_text : List (List ℕ) → List Turn → List ℕ
turns_text names turns = flat_map (λ t. turn_text (told_turn names t)) turns

-- some of the turns are told, and these are left; what is told stands as P says
pub record Told (names : List (List ℕ)) (all left : List Turn) (P : List ℕ → Type 0) : Type 0 where
  pub front : List Turn
  pub joined : front ++ left ≡ all
  pub text : P (turns_text names front)

-- the next turn that is left, and the others
pub first_left : (left : List Turn) (turn : Turn) → Some turn ≡ slice_get left 0 → left ≡ turn ∷ drop 1 left
first_left [] turn is = absurd cc
first_left (t ∷ left) turn is = let same : turn ≡ t = cc in ap (λ x. x ∷ left) (sym same)

pub none_left : (left : List Turn) → None ≡ slice_get left 0 → left ≡ []
none_left [] is = refl
none_left (t ∷ left) is = absurd cc

pub told_next : (names : List (List ℕ)) (all left : List Turn) (turn : Turn) (P Q : List ℕ → Type 0) → Told names all left P → left ≡ turn ∷ drop 1 left
    → ((text : List ℕ) → P text → Q (text ++ turn_text (told_turn names turn))) → Told names all (drop 1 left) Q
told_next names all left turn P Q told is goes = record {
  front = told.front ++ turn ∷ [];
  joined = append_assoc told.front (turn ∷ []) (drop 1 left) ∙ ap (λ l. told.front ++ l) (sym is) ∙ told.joined;
  text = rw (flat_map_more (λ t. turn_text (told_turn names t)) [] told.front turn) at (goes (turns_text names told.front) told.text);
}

pub told_all : (names : List (List ℕ)) (all left : List Turn) (P : List ℕ → Type 0) → Told names all left P → left ≡ []
    → P (flat_map turn_text (map (told_turn names) all))
told_all names all left P told none =
    let whole : told.front ≡ all = sym (append-nil told.front) ∙ ap (λ l. told.front ++ l) (sym none) ∙ told.joined in
    rw (flat_map-map turn_text (told_turn names) all, ← whole) told.text

-- what is left keeps its names
pub named_left : (names : List (List ℕ)) (left : List Turn) (turn : Turn) → AreNamed left names → left ≡ turn ∷ drop 1 left
    → turn.name < length names × AreNamed (drop 1 left) names
named_left names left turn named is =
    let all : AreNamed (turn ∷ drop 1 left) names = subst (λ l. AreNamed l names) is named in
    (All-head (λ (t : Turn). t.name < length names) turn (drop 1 left) all, All-tail (λ (t : Turn). t.name < length names) turn (drop 1 left) all)

-- the text of a turn whose name is there, after two others
pub next_text : (names : List (List ℕ)) (turn : Turn) (name front text : List ℕ) → slice_get names turn.name ≡ Some name
    → front ++ (text ++ turn_text (told_turn names turn)) ≡ (front ++ text) ++ turn_text (record { name = name; value = turn.value })
next_text names turn name front text there =
    rw (get_or_from_slice_get names turn.name name [] there) (sym (append_assoc front text (turn_text (record { name = name; value = turn.value }))))
