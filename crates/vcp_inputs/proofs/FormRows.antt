-- Worked rows, computed by the definitions alone.
use Rattle.std.proofs.Common.{◌≡◌, ℕ, refl, List, [], ◌∷◌, Option, Some, None, codes}
use Rattle.vcp_inputs.specs.Forms.{Form, form_of, check, format, plain, run, il, compile, list, exec, trace, widen, audit, inject, pair, pairs, wire, demo, file, cycles}

format_words : form_of (codes "format" ∷ codes "p" ∷ []) ≡ Some (format (codes "p"))
format_words = refl

check_words : form_of (codes "check" ∷ codes "p" ∷ []) ≡ Some (check (codes "p"))
check_words = refl

check_without_name : form_of (codes "check" ∷ []) ≡ None
check_without_name = refl

check_with_two_names : form_of (codes "check" ∷ codes "p" ∷ codes "r" ∷ []) ≡ None
check_with_two_names = refl

name_with_a_dash : form_of (codes "check" ∷ codes "-p" ∷ []) ≡ None
name_with_a_dash = refl

plain_words : form_of (codes "plain" ∷ codes "p" ∷ codes "r" ∷ []) ≡ Some (plain (codes "p") (file (codes "r")))
plain_words = refl

plain_for_cycles : form_of (codes "plain" ∷ codes "p" ∷ codes "--cycles" ∷ codes "007" ∷ []) ≡ Some (plain (codes "p") (cycles 7))
plain_for_cycles = refl

cycles_without_number : form_of (codes "plain" ∷ codes "p" ∷ codes "--cycles" ∷ []) ≡ None
cycles_without_number = refl

too_many_cycles : form_of (codes "plain" ∷ codes "p" ∷ codes "--cycles" ∷ codes "1000001" ∷ []) ≡ None
too_many_cycles = refl

most_cycles : form_of (codes "plain" ∷ codes "p" ∷ codes "--cycles" ∷ codes "1000000" ∷ []) ≡ Some (plain (codes "p") (cycles 1000000))
most_cycles = refl

plain_takes_no_code : form_of (codes "plain" ∷ codes "p" ∷ codes "r" ∷ codes "--seed" ∷ codes "7" ∷ []) ≡ None
plain_takes_no_code = refl

-- `run p r` and the words of CODE
abbrev run_with : List (List ℕ) → Option Form
run_with code = form_of (codes "run" ∷ codes "p" ∷ codes "r" ∷ code)

-- the run of p on r with this seed and step
abbrev run_of : ℕ → ℕ → Option Form
run_of seed step = Some (run (codes "p") (file (codes "r")) (record { seed = seed; step = step }))

run_words : run_with [] ≡ run_of 305419896 1
run_words = refl

il_words : form_of (codes "il" ∷ codes "p" ∷ codes "--cycles" ∷ codes "3" ∷ codes "--step" ∷ codes "7" ∷ [])
    ≡ Some (il (codes "p") (cycles 3) (record { seed = 305419896; step = 7 }))
il_words = refl

il_without_rows : form_of (codes "il" ∷ codes "p" ∷ []) ≡ None
il_without_rows = refl

run_without_rows : form_of (codes "run" ∷ codes "p" ∷ []) ≡ None
run_without_rows = refl

run_for_cycles : form_of (codes "run" ∷ codes "p" ∷ codes "--cycles" ∷ codes "3" ∷ codes "--seed" ∷ codes "7" ∷ [])
    ≡ Some (run (codes "p") (cycles 3) (record { seed = 7; step = 1 }))
run_for_cycles = refl

a_seed : run_with (codes "--seed" ∷ codes "1073741823" ∷ []) ≡ run_of 1073741823 1
a_seed = refl

a_step : run_with (codes "--step" ∷ codes "0000000007" ∷ []) ≡ run_of 305419896 7
a_step = refl

seed_and_step : run_with (codes "--seed" ∷ codes "7" ∷ codes "--step" ∷ codes "5" ∷ []) ≡ run_of 7 5
seed_and_step = refl

step_and_seed : run_with (codes "--step" ∷ codes "5" ∷ codes "--seed" ∷ codes "7" ∷ []) ≡ run_of 7 5
step_and_seed = refl

seed_twice : run_with (codes "--seed" ∷ codes "7" ∷ codes "--seed" ∷ codes "7" ∷ []) ≡ None
seed_twice = refl

seed_without_number : run_with (codes "--seed" ∷ []) ≡ None
seed_without_number = refl

seed_below_zero : run_with (codes "--seed" ∷ codes "-1" ∷ []) ≡ None
seed_below_zero = refl

eleven_digits : run_with (codes "--seed" ∷ codes "00000000007" ∷ []) ≡ None
eleven_digits = refl

seed_too_great : run_with (codes "--seed" ∷ codes "1073741824" ∷ []) ≡ None
seed_too_great = refl

step_zero : run_with (codes "--step" ∷ codes "0" ∷ []) ≡ None
step_zero = refl

step_too_great : run_with (codes "--step" ∷ codes "1001" ∷ []) ≡ None
step_too_great = refl

code_before_rows : form_of (codes "run" ∷ codes "p" ∷ codes "--seed" ∷ codes "7" ∷ codes "r" ∷ []) ≡ None
code_before_rows = refl

-- `compile p` and the words of CODE
compile_words : form_of (codes "compile" ∷ codes "p" ∷ []) ≡ Some (compile (codes "p") (record { seed = 305419896; step = 1 }))
compile_words = refl

compile_of_a_seed : form_of (codes "compile" ∷ codes "p" ∷ codes "--seed" ∷ codes "0" ∷ []) ≡ Some (compile (codes "p") (record { seed = 0; step = 1 }))
compile_of_a_seed = refl

compile_takes_no_rows : form_of (codes "compile" ∷ codes "p" ∷ codes "r" ∷ []) ≡ None
compile_takes_no_rows = refl

list_words : form_of (codes "list" ∷ codes "m" ∷ []) ≡ Some (list (codes "m"))
list_words = refl

list_takes_no_code : form_of (codes "list" ∷ codes "m" ∷ codes "--seed" ∷ codes "7" ∷ []) ≡ None
list_takes_no_code = refl

exec_words : form_of (codes "exec" ∷ codes "m" ∷ codes "r" ∷ []) ≡ Some (exec (codes "m") (file (codes "r")))
exec_words = refl

exec_takes_no_code : form_of (codes "exec" ∷ codes "m" ∷ codes "r" ∷ codes "--seed" ∷ codes "7" ∷ []) ≡ None
exec_takes_no_code = refl

trace_words : form_of (codes "trace" ∷ codes "m" ∷ codes "r" ∷ codes "0000000007" ∷ []) ≡ Some (trace (codes "m") (file (codes "r")) 7)
trace_words = refl

last_cycle : form_of (codes "trace" ∷ codes "m" ∷ codes "--cycles" ∷ codes "3" ∷ codes "999999" ∷ []) ≡ Some (trace (codes "m") (cycles 3) 999999)
last_cycle = refl

no_such_cycle : form_of (codes "trace" ∷ codes "m" ∷ codes "r" ∷ codes "1000000" ∷ []) ≡ None
no_such_cycle = refl

trace_without_cycle : form_of (codes "trace" ∷ codes "m" ∷ codes "r" ∷ []) ≡ None
trace_without_cycle = refl

widen_words : form_of (codes "widen" ∷ codes "m" ∷ []) ≡ Some (widen (codes "m"))
widen_words = refl

audit_words : form_of (codes "audit" ∷ codes "m" ∷ codes "1000" ∷ []) ≡ Some (audit (codes "m") 1000)
audit_words = refl

no_such_horizon : form_of (codes "audit" ∷ codes "m" ∷ codes "1001" ∷ []) ≡ None
no_such_horizon = refl

audit_without_horizon : form_of (codes "audit" ∷ codes "m" ∷ []) ≡ None
audit_without_horizon = refl

inject_words : form_of (codes "inject" ∷ codes "m" ∷ codes "--cycles" ∷ codes "5" ∷ codes "f" ∷ []) ≡ Some (inject (codes "m") (cycles 5) (codes "f"))
inject_words = refl

inject_without_script : form_of (codes "inject" ∷ codes "m" ∷ codes "r" ∷ []) ≡ None
inject_without_script = refl

pair_words : form_of (codes "pair" ∷ codes "m" ∷ codes "r" ∷ codes "1073741823" ∷ []) ≡ Some (pair (codes "m") (file (codes "r")) 1073741823)
pair_words = refl

-- a seed is compared as a number
pair_for_cycles : form_of (codes "pair" ∷ codes "m" ∷ codes "--cycles" ∷ codes "3" ∷ codes "00" ∷ []) ≡ Some (pair (codes "m") (cycles 3) 0)
pair_for_cycles = refl

no_such_seed : form_of (codes "pair" ∷ codes "m" ∷ codes "r" ∷ codes "1073741824" ∷ []) ≡ None
no_such_seed = refl

pair_without_seed : form_of (codes "pair" ∷ codes "m" ∷ codes "r" ∷ []) ≡ None
pair_without_seed = refl

pairs_words : form_of (codes "pairs" ∷ codes "m" ∷ codes "r" ∷ codes "7" ∷ codes "f" ∷ []) ≡ Some (pairs (codes "m") (file (codes "r")) 7 (codes "f"))
pairs_words = refl

pairs_for_cycles : form_of (codes "pairs" ∷ codes "m" ∷ codes "--cycles" ∷ codes "5" ∷ codes "7" ∷ codes "f" ∷ []) ≡ Some (pairs (codes "m") (cycles 5) 7 (codes "f"))
pairs_for_cycles = refl

pairs_without_script : form_of (codes "pairs" ∷ codes "m" ∷ codes "r" ∷ codes "7" ∷ []) ≡ None
pairs_without_script = refl

wire_words : form_of (codes "wire" ∷ codes "f" ∷ []) ≡ Some (wire (codes "f"))
wire_words = refl

wire_without_script : form_of (codes "wire" ∷ []) ≡ None
wire_without_script = refl

wire_of_two_scripts : form_of (codes "wire" ∷ codes "f" ∷ codes "f" ∷ []) ≡ None
wire_of_two_scripts = refl

-- leading zeros are allowed
demo_words : form_of (codes "demo" ∷ codes "007" ∷ []) ≡ Some (demo 7)
demo_words = refl

demo_too_great : form_of (codes "demo" ∷ codes "4294967296" ∷ []) ≡ None
demo_too_great = refl
