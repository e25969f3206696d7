-- Limits: the most of everything that a text, a file, a program, a graph and a run may have.
use Rattle.std.specs.Prelude.{ℕ}

-- the bytes of a source or a fault script
abbrev pub most_source_bytes : ℕ
most_source_bytes = 1048576

-- the bytes of an image
abbrev pub most_image_bytes : ℕ
most_image_bytes = 16777216

-- the bytes of a rows file
abbrev pub most_rows_bytes : ℕ
most_rows_bytes = 67108864

-- the bytes of a name
abbrev pub most_name_bytes : ℕ
most_name_bytes = 1048576

-- the names that a program declares, constants included, and those of a graph
abbrev pub most_names : ℕ
most_names = 1024

-- the cells of a graph
abbrev pub most_cells : ℕ
most_cells = 1024

-- the greatest depth of a token
abbrev pub most_depth : ℕ
most_depth = 64

-- the Size of a program
abbrev pub most_size : ℕ
most_size = 65536

-- the operations of a graph
abbrev pub most_operations : ℕ
most_operations = 65536

-- the turn nodes of a graph
abbrev pub most_turn_nodes : ℕ
most_turn_nodes = 65536

-- the cycles of a run, which are counted from 0
abbrev pub most_cycles : ℕ
most_cycles = 1000000

-- the cycle borders of an audit
abbrev pub most_horizon : ℕ
most_horizon = 1000

-- how many seeds there are: they are the numbers below this one
abbrev pub seeds : ℕ
seeds = 1073741824

-- the step of the stamps, which is at least 1
abbrev pub most_step : ℕ
most_step = 1000

-- the stamp of a cycle: that of the last cycle with the greatest step
abbrev pub most_stamp : ℕ
most_stamp = 1000000000
