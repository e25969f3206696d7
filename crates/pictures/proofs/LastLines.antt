-- LastLines: the last lines that runs print are known, and `end` is no other.
use Rattle.std.proofs.Common.{◌≡◌, ℕ, List, [], ◌∷◌, ◌++◌, length, take, drop, Bool, true, false, cond, bytes_eq, codes, decimal, flat_map, refl, sym, ap, ◌∙◌, append_assoc, Option, Some, None}
use Rattle.std.specs.Option.{is_some, option_and_then}
use Rattle.std.proofs.lemmas.Bool.{false≢true}
use Rattle.std.proofs.lemmas.List.{append-nil, append_cancel_right, take-append-drop}
use Rattle.std.proofs.lemmas.Slice.Eq.{bytes_eq-Decides}
use Rattle.std.proofs.Math.Seq.{take-append_seam}
use Rattle.vcp_base.specs.Stops.{ToldStop}
use Rattle.run_report.specs.Lines.{end_text, cause_text, stop_front, stop_text, turn_text, refused_front, refused_text}
use Rattle.pictures.specs.declared.waves.ending.Mark.{Mark}
use Rattle.pictures.specs.declared.waves.ending.Mark.TheVariants as mark
use Rattle.pictures.specs.Ending.{rest_behind, rest_behind_number, is_nothing, is_end, is_stop, is_refusal, mark_of}

-- ---- what stands behind a front

drop_front : (xs ys : List ℕ) → drop (length xs) (xs ++ ys) ≡ ys
drop_front [] ys = refl
drop_front (x ∷ xs) ys = drop_front xs ys

by_parts : (a b f y : List ℕ) → a ≡ f → b ≡ y → bytes_eq f f ≡ true → cond (bytes_eq a f) (Some b) None ≡ Some y
by_parts a b f y e g same = rw (e, g, same) refl

begins : (front y : List ℕ) → rest_behind front (front ++ y) ≡ Some y
begins front y =
    by_parts (take (length front) (front ++ y)) (drop (length front) (front ++ y)) front y (take-append_seam front y) (drop_front front y)
    ((bytes_eq-Decides front front).1 refl)

numbered : (word : List ℕ) (n : ℕ) (y : List ℕ) → rest_behind_number word n (word ++ (decimal n ++ y)) ≡ Some y
numbered word n y = ap (option_and_then (rest_behind (decimal n))) (begins word (decimal n ++ y)) ∙ begins (decimal n) y

-- ---- each line

pick_end : (a : Bool) (o : Option Mark) → a ≡ true → cond a (Some mark.Ended) o ≡ Some mark.Ended
pick_end a o e = rw e refl

pick_stop : (a b : Bool) (o : Option Mark) → a ≡ false → b ≡ true → cond a (Some mark.Ended) (cond b (Some mark.Stopped) o) ≡ Some mark.Stopped
pick_stop a b o e g = rw (e, g) refl

pick_refusal : (a b c : Bool) → a ≡ false → b ≡ false → c ≡ true
    → cond a (Some mark.Ended) (cond b (Some mark.Stopped) (cond c (Some mark.Refused) None)) ≡ Some mark.Refused
pick_refusal a b c e g h = rw (e, g, h) refl

pub ended : (cycle : ℕ) (text : List ℕ) → text ++ codes "\n" ≡ end_text cycle → mark_of cycle text ≡ Some mark.Ended
ended cycle text e =
    let whole : text ++ codes "\n" ≡ (codes "end " ++ decimal cycle) ++ codes "\n" = e ∙ sym (append_assoc (codes "end ") (decimal cycle) (codes "\n")) in
    let front : text ≡ codes "end " ++ decimal cycle = append_cancel_right text (codes "end " ++ decimal cycle) (codes "\n") whole in
    let padded : text ≡ codes "end " ++ (decimal cycle ++ []) = front ∙ ap (λ (t : List ℕ). codes "end " ++ t) (sym (append-nil (decimal cycle))) in
    let is : is_end cycle text ≡ true = ap (is_end cycle) padded ∙ ap is_nothing (numbered (codes "end ") cycle []) in
    pick_end (is_end cycle text) (cond (is_stop cycle text) (Some mark.Stopped) (cond (is_refusal cycle text) (Some mark.Refused) None)) is

pub stopped : (cycle : ℕ) (stop : ToldStop) (text : List ℕ) → text ++ codes "\n" ≡ stop_text cycle stop → mark_of cycle text ≡ Some mark.Stopped
stopped cycle stop text e =
    let cause = cause_text stop.kind stop.spot in
    let turns = flat_map turn_text stop.turns in
    let line = stop_front cycle stop.kind stop.spot in
    let whole : text ++ codes "\n" ≡ (line ++ turns) ++ codes "\n" = e ∙ sym (append_assoc line turns (codes "\n")) in
    let front : text ≡ line ++ turns = append_cancel_right text (line ++ turns) (codes "\n") whole in
    let parts : line ++ turns ≡ codes "stop " ++ (decimal cycle ++ (codes " " ++ (cause ++ turns))) = simp append_assoc in
    let all = front ∙ parts in
    let no : is_end cycle text ≡ false = ap (is_end cycle) all in
    let is : is_stop cycle text ≡ true =
    ap (is_stop cycle) all
    ∙ ap (λ (o : Option (List ℕ)). is_some (option_and_then (rest_behind (codes " ")) o)) (numbered (codes "stop ") cycle (codes " " ++ (cause ++ turns))) in
    pick_stop (is_end cycle text) (is_stop cycle text) (cond (is_refusal cycle text) (Some mark.Refused) None) no is

pub refused : (cycle : ℕ) (name : List ℕ) (found wanted : ℕ) (text : List ℕ) → text ++ codes "\n" ≡ refused_text cycle name found wanted
    → mark_of cycle text ≡ Some mark.Refused
refused cycle name found wanted text e =
    let more = name ++ (codes " found " ++ (decimal found ++ (codes " expected " ++ decimal wanted))) in
    let all : text ≡ codes "refused " ++ (decimal cycle ++ (codes " " ++ more)) =
    append_cancel_right text (refused_front cycle name found wanted) (codes "\n") e in
    let no : is_end cycle text ≡ false = ap (is_end cycle) all in
    let none : is_stop cycle text ≡ false = ap (is_stop cycle) all in
    let is : is_refusal cycle text ≡ true =
    ap (is_refusal cycle) all
    ∙ ap (λ (o : Option (List ℕ)). is_some (option_and_then (rest_behind (codes " ")) o)) (numbered (codes "refused ") cycle (codes " " ++ more)) in
    pick_refusal (is_end cycle text) (is_stop cycle text) (is_refusal cycle text) no none is

-- ---- `end` alone

behind_is : (front text rest : List ℕ) (b : Bool) → bytes_eq (take (length front) text) front ≡ b
    → cond b (Some (drop (length front) text)) None ≡ Some rest → text ≡ front ++ rest
behind_is front text rest true is e =
    let first : take (length front) text ≡ front = (bytes_eq-Decides (take (length front) text) front).0 is in
    let last : drop (length front) text ≡ rest = cc in
    sym (take-append-drop (length front) text) ∙ rw (first, last) refl
behind_is front text rest false is e = absurd cc

behind_front : (front text rest : List ℕ) → rest_behind front text ≡ Some rest → text ≡ front ++ rest
behind_front front text rest e = behind_is front text rest (bytes_eq (take (length front) text) front) refl e

behind_number : (word text : List ℕ) (n : ℕ) (o : Option (List ℕ)) → rest_behind word text ≡ o → is_nothing (option_and_then (rest_behind (decimal n)) o) ≡ true
    → text ≡ word ++ decimal n
behind_number word text n None e h = absurd (false≢true h)
behind_number word text n (Some rest) e h =
    behind_front word text rest e ∙ ap (λ (t : List ℕ). word ++ t) (at_end (rest_behind (decimal n) rest) refl h)
  where
    at_end : (p : Option (List ℕ)) → rest_behind (decimal n) rest ≡ p → is_nothing p ≡ true → rest ≡ decimal n
    at_end None is k = absurd (false≢true k)
    at_end (Some []) is k = behind_front (decimal n) rest [] is ∙ append-nil (decimal n)
    at_end (Some (b ∷ more)) is k = absurd (false≢true k)

only_end : (a b c : Bool) → cond a (Some mark.Ended) (cond b (Some mark.Stopped) (cond c (Some mark.Refused) None)) ≡ Some mark.Ended → a ≡ true
only_end true b c e = refl
only_end false true c e = absurd cc
only_end false false true e = absurd cc
only_end false false false e = absurd cc

pub ended_only : (cycle : ℕ) (text : List ℕ) → mark_of cycle text ≡ Some mark.Ended → text ++ codes "\n" ≡ end_text cycle
ended_only cycle text e =
    let is : is_end cycle text ≡ true = only_end (is_end cycle text) (is_stop cycle text) (is_refusal cycle text) e in
    let front : text ≡ codes "end " ++ decimal cycle = behind_number (codes "end ") text cycle (rest_behind (codes "end ") text) refl is in
    ap (λ (t : List ℕ). t ++ codes "\n") front ∙ append_assoc (codes "end ") (decimal cycle) (codes "\n")
