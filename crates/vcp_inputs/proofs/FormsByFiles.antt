-- The forms by the files that they name are the forms.
use Rattle.std.proofs.Common.{◌≡◌, ◌∙◌, ◌-◌, ℕ, Bool, true, false, cond, List, [], ◌∷◌, Option, Some, None, codes, bytes_eq, refl, sym, ap}
use Rattle.std.proofs.lemmas.Slice.Eq.{bytes_eq-Decides}
use Rattle.vcp_base.specs.Limits.{seeds}
use Rattle.std.specs.Option.{option_and_then, option_map}
use Rattle.vcp_inputs.specs.Forms.{Code, Form, Rows, form_of, followed, name_and_rest, rows_and_rest, number_and_rest, code_of, code_then, rows_then, is_end, end_then}
use Rattle.vcp_inputs.specs.Forms as forms
use Rattle.vcp_inputs.specs.FormsByFiles.{code_done, form_behind_file, form_behind_rows, form_behind_seed, form_by_files, form_of_image, form_of_image_run}

-- ---- a word that is no command's name says no form, whatever stands behind it

nothing : {X : Type 0} (o : Option (X × List (List ℕ))) (more : X → List (List ℕ) → Option Form)
    → ((x : X) (rest : List (List ℕ)) → more x rest ≡ None) → followed o more ≡ None
nothing None more h = refl
nothing (Some front) more h = h front.0 front.1

same_behind : {X : Type 0} (o : Option (X × List (List ℕ))) (more other : X → List (List ℕ) → Option Form)
    → ((x : X) (rest : List (List ℕ)) → more x rest ≡ other x rest) → followed o more ≡ followed o other
same_behind None more other h = refl
same_behind (Some front) more other h = h front.0 front.1

-- behind CODE there is no word
with_code : (f : Code → Form) (o : Option Code) → option_and_then (λ code. end_then (f code) []) o ≡ option_map f o
with_code f None = refl
with_code f (Some code) = refl

code_same : (f : Code → Form) (words : List (List ℕ)) → code_done end_then f words ≡ code_then f words
code_same f words = with_code f (code_of words)

abbrev IsNot : List ℕ → List ℕ → Type 0
IsNot w name = bytes_eq w name ≡ false

behind_seed : (w m : List ℕ) (rows : Rows) (seed : ℕ) (words : List (List ℕ)) → IsNot w (codes "pair") → IsNot w (codes "pairs")
    → form_behind_seed end_then w m rows seed words ≡ None
behind_seed w m rows seed words pair pairs = rw (pair, pairs) refl

of_run : (w m : List ℕ) (rows : Rows) (words : List (List ℕ)) → IsNot w (codes "exec") → IsNot w (codes "trace") → IsNot w (codes "inject")
    → ((seed : ℕ) (rest : List (List ℕ)) → form_behind_seed end_then w m rows seed rest ≡ None) → form_of_image_run end_then w m rows words ≡ None
of_run w m rows words exec trace inject h =
    rw (exec, trace, inject) (nothing (number_and_rest 0 (seeds - 1) words) (form_behind_seed end_then w m rows) h)

behind_rows : (w p : List ℕ) (rows : Rows) (words : List (List ℕ)) → IsNot w (codes "plain") → IsNot w (codes "run") → IsNot w (codes "il")
    → form_of_image_run end_then w p rows words ≡ None → form_behind_rows end_then w p rows words ≡ None
behind_rows w p rows words plain run il h = rw (plain, run, il) h

of_image : (w m : List ℕ) (words : List (List ℕ)) → IsNot w (codes "list") → IsNot w (codes "widen") → IsNot w (codes "audit")
    → ((rows : Rows) (rest : List (List ℕ)) → form_behind_rows end_then w m rows rest ≡ None) → form_of_image end_then w m words ≡ None
of_image w m words list widen audit h = rw (list, widen, audit) (nothing (rows_and_rest words) (form_behind_rows end_then w m) h)

behind_file : (w p : List ℕ) (words : List (List ℕ)) → IsNot w (codes "check") → IsNot w (codes "format") → IsNot w (codes "compile")
    → IsNot w (codes "wire") → form_of_image end_then w p words ≡ None → form_behind_file end_then w p words ≡ None
behind_file w p words check format compile wire h = rw (check, format, compile, wire) h

-- ---- each name, and any other word

abbrev Same : List ℕ → List (List ℕ) → Type 0
Same w words = form_by_files end_then (w ∷ words) ≡ form_of (w ∷ words)

named : (name : List ℕ) (w : List ℕ) (words : List (List ℕ)) → Same name words → (IsNot w name → Same w words) → Same w words
named name w words same other = go (bytes_eq w name) refl
  where
    go : (b : Bool) → bytes_eq w name ≡ b → Same w words
    go true is = rw ((bytes_eq-Decides w name).0 is) same
    go false is = other is

-- a name, ROWS and CODE
rows_and_code : (w : List ℕ) (f : List ℕ → Rows → Code → Form) (words : List (List ℕ))
    → ((p : List ℕ) (rows : Rows) (rest : List (List ℕ)) → form_behind_rows end_then w p rows rest ≡ code_then (f p rows) rest)
    → followed (name_and_rest words) (λ p. rows_then (form_behind_rows end_then w p))
    ≡ followed (name_and_rest words) (λ p. rows_then (λ rows. code_then (f p rows)))
rows_and_code w f words h = same_behind (name_and_rest words) (λ p. rows_then (form_behind_rows end_then w p)) (λ p. rows_then (λ rows. code_then (f p rows)))
    (λ p rest. same_behind (rows_and_rest rest) (form_behind_rows end_then w p) (λ rows. code_then (f p rows)) (h p))

pub by_files : (words : List (List ℕ)) → form_by_files end_then words ≡ form_of words
by_files [] = refl
by_files (w ∷ words) =
    named (codes "check") w words refl (λ check.
    named (codes "format") w words refl (λ format.
    named (codes "compile") w words
    (same_behind (name_and_rest words) (form_behind_file end_then (codes "compile")) (λ p. code_then (forms.compile p)) (λ p rest. code_same (forms.compile p) rest)) (λ compile.
    named (codes "wire") w words refl (λ wire.
    named (codes "list") w words refl (λ list.
    named (codes "widen") w words refl (λ widen.
    named (codes "audit") w words refl (λ audit.
    named (codes "plain") w words refl (λ plain.
    named (codes "run") w words (rows_and_code (codes "run") forms.run words (λ p rows rest. code_same (forms.run p rows) rest)) (λ run.
    named (codes "il") w words (rows_and_code (codes "il") forms.il words (λ p rows rest. code_same (forms.il p rows) rest)) (λ il.
    named (codes "exec") w words refl (λ exec.
    named (codes "trace") w words refl (λ trace.
    named (codes "inject") w words refl (λ inject.
    named (codes "pair") w words refl (λ pair.
    named (codes "pairs") w words refl (λ pairs.
    named (codes "demo") w words refl (λ demo.
    let seed = λ (m : List ℕ) (rows : Rows) (s : ℕ) (rest : List (List ℕ)). behind_seed w m rows s rest pair pairs in
    let rows = λ (m : List ℕ) (rows : Rows) (rest : List (List ℕ)).
    behind_rows w m rows rest plain run il (of_run w m rows rest exec trace inject (seed m rows)) in
    let file = λ (p : List ℕ) (rest : List (List ℕ)). behind_file w p rest check format compile wire (of_image w p rest list widen audit (rows p)) in
    rw (check, format, compile, wire, list, widen, audit, plain, run, il, exec, trace, inject, pair, pairs, demo)
    (nothing (name_and_rest words) (form_behind_file end_then w) file)))))))))))))))))

-- ---- where no word is left

pub at_end : (f : Form) (rest : List (List ℕ)) (said : Option Form) → end_then f rest ≡ said → is_end rest ≡ true → Some f ≡ said
at_end f rest said is end = sym (ap (λ (b : Bool). cond b (Some f) None) end) ∙ is

pub before_end : (f : Form) (rest : List (List ℕ)) (said : Option Form) → end_then f rest ≡ said → is_end rest ≡ false → None ≡ said
before_end f rest said is more = sym (ap (λ (b : Bool). cond b (Some f) None) more) ∙ is
