-- The forms as words are read, by the files that they name: first a file's name, then ROWS, then SEED, as far as a command has them.
-- `done` is what is said of a form and of the words behind its own.
use Rattle.std.specs.Prelude.{ℕ, ◌-◌, List, [], ◌∷◌, Option, None, cond, bytes_eq, codes}
use Rattle.std.specs.Option.{option_and_then}
use Rattle.vcp_base.specs.Limits.{most_cycles, most_horizon, seeds}
use Rattle.vcp_inputs.specs.Forms.{Form, Rows, Code, name_then, rows_then, number_then, code_of, most_made}
use Rattle.vcp_inputs.specs.Forms.{check, format, plain, run, il, compile, list, exec, trace, widen, audit, inject, pair, pairs, wire, demo}

abbrev pub Done : Type 0
Done = Form → List (List ℕ) → Option Form

-- CODE, behind which there is no word
abbrev pub code_done : Done → (Code → Form) → List (List ℕ) → Option Form
code_done done f words = option_and_then (λ code. done (f code) []) (code_of words)

-- the run of M on ROWS that a name, SEED and the words behind these say
abbrev pub form_behind_seed : Done → List ℕ → List ℕ → Rows → ℕ → List (List ℕ) → Option Form
form_behind_seed done w m rows seed words =
    cond (bytes_eq w (codes "pair")) (done (pair m rows seed) words)
    (cond (bytes_eq w (codes "pairs")) (name_then (λ f. done (pairs m rows seed f)) words)
    None)

-- the run of M on ROWS that a name and the words behind these say, or one that has SEED next
abbrev pub form_of_image_run : Done → List ℕ → List ℕ → Rows → List (List ℕ) → Option Form
form_of_image_run done w m rows words =
    cond (bytes_eq w (codes "exec")) (done (exec m rows) words)
    (cond (bytes_eq w (codes "trace")) (number_then 0 (most_cycles - 1) (λ c. done (trace m rows c)) words)
    (cond (bytes_eq w (codes "inject")) (name_then (λ f. done (inject m rows f)) words)
    (number_then 0 (seeds - 1) (form_behind_seed done w m rows) words)))

-- the command that a name, a file's name, ROWS and the words behind these say
abbrev pub form_behind_rows : Done → List ℕ → List ℕ → Rows → List (List ℕ) → Option Form
form_behind_rows done w p rows words =
    cond (bytes_eq w (codes "plain")) (done (plain p rows) words)
    (cond (bytes_eq w (codes "run")) (code_done done (run p rows) words)
    (cond (bytes_eq w (codes "il")) (code_done done (il p rows) words)
    (form_of_image_run done w p rows words)))

-- the command that a name, an image's name and the words behind it say, or one that has ROWS next
abbrev pub form_of_image : Done → List ℕ → List ℕ → List (List ℕ) → Option Form
form_of_image done w m words =
    cond (bytes_eq w (codes "list")) (done (list m) words)
    (cond (bytes_eq w (codes "widen")) (done (widen m) words)
    (cond (bytes_eq w (codes "audit")) (number_then 0 most_horizon (λ h. done (audit m h)) words)
    (rows_then (form_behind_rows done w m) words)))

-- the command that a name, a file's name and the words behind it say
abbrev pub form_behind_file : Done → List ℕ → List ℕ → List (List ℕ) → Option Form
form_behind_file done w p words =
    cond (bytes_eq w (codes "check")) (done (check p) words)
    (cond (bytes_eq w (codes "format")) (done (format p) words)
    (cond (bytes_eq w (codes "compile")) (code_done done (compile p) words)
    (cond (bytes_eq w (codes "wire")) (done (wire p) words)
    (form_of_image done w p words))))

-- the command that words say: `demo` and its number, or a command's name with a file's name behind it
abbrev pub form_by_files : Done → List (List ℕ) → Option Form
form_by_files done [] = None
form_by_files done (w ∷ words) =
    cond (bytes_eq w (codes "demo")) (number_then 0 most_made (λ n. done (demo n)) words)
    (name_then (form_behind_file done w) words)
