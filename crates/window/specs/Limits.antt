-- The limits of the machine and of its images, each in one line (document 01, Windows and Image).
use Rattle.std.specs.Prelude.{ℕ, ◌^◌}

-- user tasks are 1 to 7
abbrev pub tasks : ℕ
tasks = 7

-- the most constants, registers, program words and data words
abbrev pub most_constants : ℕ
most_constants = 4096

abbrev pub most_registers : ℕ
most_registers = 2048

abbrev pub most_program : ℕ
most_program = 2 ^ 20

abbrev pub most_data : ℕ
most_data = 2 ^ 20
