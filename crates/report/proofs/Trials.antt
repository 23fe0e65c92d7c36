-- The trials of document 01 that are proved of the definitions: its starred ones, and its printed case.
use Rattle.std.proofs.Common.{None}
use Rattle.std.specs.Prelude.{◌≡◌, refl, List, [], ◌∷◌, ◌++◌, ℕ, zero, suc, ◌+◌, ◌-◌, ◌*◌, ◌^◌, get_or, replicate}
use Rattle.word.specs.Fields.{psw_of}
use Rattle.window.specs.declared.Row.{Row}
use Rattle.window.specs.declared.Cell.{Cell}
use Rattle.window.specs.Memories.{memory, cell, cell_at}
use Rattle.operand.specs.declared.Role.TheVariants.{Source}
use Rattle.operand.specs.Field.{lookup_of}
use Rattle.operation.specs.declared.Trap.TheVariants.{CreateFault, ProtectionViolation}
use Rattle.operation.proofs.Exclusions.{instruction_word, Excluded, excluded}
use Rattle.step.specs.declared.Ending.TheVariants.{Executed, Trapped}
use Rattle.step.specs.State.{State}
use Rattle.step.specs.Act.{table_of}
use Rattle.step.specs.Step.{no_trap, Item, item}
use Rattle.step.proofs.SfuInstances.{queue_with, row_with, sfu_program, sfu_psws, sfu_state}
use Rattle.image.specs.Image.{queue_of}
use Rattle.run.specs.Run.{counts, no_counts, Ran, run}
use Rattle.report.specs.Report.{report_of, output_of}
use Rattle.report.specs.Letters.{letters, unspaced, hex_value, pairs_of, hex_bytes}
use Rattle.report.proofs.Laws.Opened.{opened}

-- CB 4095, RB 3, RL 3, DB 1, DL 1: registers 6 and 7, data words 32 to 63
unfoldable pub trial_row : Row
trial_row = record { task = 1; cb = 4095; rb = 3; rl = 3; pb = 0; pl = 0; db = 1; dl = 1; kind = no_trap; psw = 0 }

unfoldable pub row_of : (task : ℕ) → Row
row_of t = record { task = t; cb = 0; rb = 0; rl = 0; pb = 0; pl = 0; db = 0; dl = 0; kind = no_trap; psw = 0 }

unfoldable pub up_to : ℕ → List ℕ
up_to zero = []
up_to (suc n) = up_to n ++ (n ∷ [])

-- task 1 with `live` processes, one instruction, constant 0 with word 77, register 7 with word s1, register 6 with word s2 and quality 5, and
-- data word 63 with word 99
unfoldable pub machine : (live w s1 s2 : ℕ) → State
machine live w s1 s2 = record {
  rows = trial_row ∷ [];
  table = table_of (replicate 64 0) (replicate 2 (queue_of []) ++ (queue_of (up_to live) ∷ replicate 13 (queue_of []))) 0;
  constants = memory (0 ∷ []) (77 ∷ []);
  registers = memory (replicate 6 0 ++ (5 ∷ 0 ∷ [])) (replicate 6 0 ++ (s2 ∷ s1 ∷ []));
  program = w ∷ replicate 15 0;
  data_words = memory (replicate 64 1) (replicate 63 0 ++ (99 ∷ []));
}

-- one item of task 1 over an instruction
unfoldable pub stepped : (w s1 s2 : ℕ) → Item
stepped w s1 s2 = item 1 (machine 1 w s1 s2)

-- D after a step, register 6: its tag and its word
unfoldable pub register_d : Item → Cell
register_d x = cell_at x.state.registers 6

-- D after an instruction with this code, S1 in register 7, S2, where it has one, in register 6
unfoldable pub result_d : (code s1 s2 : ℕ) → Cell
result_d code s1 s2 = register_d (stepped (instruction_word code 0 1 0) s1 s2)

-- the PSW of the process after B to 9 by test C on S2, S1 being zero
unfoldable pub branch_on : (c s2 : ℕ) → ℕ
branch_on c s2 = get_or (stepped (instruction_word (0x3800 + c * 16) 9 0x4000 0) 0 s2).state.table.users.psw 0 0

-- CREATE always, ACT 0, S1 and S2 constants
unfoldable pub create : ℕ
create = instruction_word 0x3970 0 0x4000 0x4000

pub record Starred : Type 0 where
  -- DEC 0: -1, quality 0. DEC 5: 4, quality 1. DEC -2^63: 2^63-1, quality 4
  pub dec_0 : result_d 0x612F 0 0 ≡ cell 0 (2 ^ 64 - 1)
  pub dec_5 : result_d 0x612F 5 0 ≡ cell 1 4
  pub dec_least : result_d 0x612F (2 ^ 63) 0 ≡ cell 4 (2 ^ 63 - 1)
  -- MUL -1, -1: 1, quality 0. MUL 2^32, 2^31: quality 4
  pub mul_minus : result_d 0x7320 (2 ^ 64 - 1) (2 ^ 64 - 1) ≡ cell 0 1
  pub mul_large : result_d 0x7320 (2 ^ 32) (2 ^ 31) ≡ cell 4 (2 ^ 63)
  -- ENCODE1 of 1: 63, of 0: -2^63. BITSET 0 at 64: leftmost bit
  pub encode_1 : result_d 0x6710 1 0 ≡ cell 0 63
  pub encode_0 : result_d 0x6710 0 0 ≡ cell 0 (2 ^ 63)
  pub bitset_64 : result_d 0x7720 0 64 ≡ cell 0 (2 ^ 63)
  -- RB 3, RL 3: displacement 1 reaches register 7 (MOV of it to register 6), 2 traps
  pub register_1 : register_d (stepped (instruction_word 0x611F 0 1 0) 5 0) ≡ cell 0 5
  pub register_2 : (stepped (instruction_word 0x611F 0 2 0) 5 0).ending ≡ Trapped ProtectionViolation 0
  -- DB 1, DL 1: hex F8 reaches byte 504, the data word 63; hex 100 traps
  pub data_F8 : register_d (stepped (instruction_word 0x6C00 0 1 0) 0xF8 0) ≡ cell 0 99
  pub data_100 : (stepped (instruction_word 0x6C00 0 1 0) 0x100 0).ending ≡ Trapped ProtectionViolation 0
  -- CB 4095: displacement 2 reads constant 0
  pub constant_2 : register_d (stepped (instruction_word 0x611F 0 0x4002 0) 5 0) ≡ cell 0 77
  -- test E of 0 holds: B goes to 9; test F of 0 doesn't
  pub even_0 : branch_on 0xE 0 ≡ 9
  pub odd_0 : branch_on 0xF 0 ≡ 1
  -- create at 62 live: no fault, at 63: fault
  pub create_62 : (item 1 (machine 62 create 0 0)).ending ≡ Executed
  pub create_62_flag : (item 1 (machine 62 create 0 0)).state.table.users.flag ≡ 0
  pub create_63 : (item 1 (machine 63 create 0 0)).ending ≡ Trapped CreateFault 1
  pub create_63_flag : (item 1 (machine 63 create 0 0)).state.table.users.flag ≡ 1
  -- RI 2047 and displacement 1 never mean register 0
  pub index : lookup_of Source (record { task = 1; cb = 0; rb = 0; rl = 1023; pb = 0; pl = 0; db = 0; dl = 0; kind = no_trap; psw = 0 }) (psw_of 0 2047 0 0) 0x8001 ≡ None

pub starred : Starred
unfolding opened trial_row up_to machine stepped register_d result_d branch_on instruction_word create
starred = record {
  dec_0 = refl;
  dec_5 = refl;
  dec_least = refl;
  mul_minus = refl;
  mul_large = refl;
  encode_1 = refl;
  encode_0 = refl;
  bitset_64 = refl;
  register_1 = refl;
  register_2 = refl;
  data_F8 = refl;
  data_100 = refl;
  constant_2 = refl;
  even_0 = refl;
  odd_0 = refl;
  create_62 = refl;
  create_62_flag = refl;
  create_63 = refl;
  create_63_flag = refl;
  index = refl;
}

-- the printed case, as document 01 prints it
unfoldable pub printed_input : List ℕ
printed_input =
    hex_bytes "0001 01 | 01 01 0000 0001 0000 0001 0000 00000001 00000000 FF 0000000000000000 | 01 00 00 01 0000000000000000 | 0000 | 0000 | 00000000 | 00000000"

unfoldable pub printed_output : List ℕ
printed_output = letters "1 1 14 00000 E0 W0 T1 I0 S0\nE0 W0 T1 I0 S0 CF0\n"

-- the same image under a schedule of two items
unfoldable pub two_items : List ℕ
two_items =
    hex_bytes "0002 01 01 | 01 01 0000 0001 0000 0001 0000 00000001 00000000 FF 0000000000000000 | 01 00 00 01 0000000000000000 | 0000 | 0000 | 00000000 | 00000000"

-- and under one of an item of task 1 and an item of task 3
unfoldable pub other_item : List ℕ
other_item =
    hex_bytes "0002 01 03 | 01 01 0000 0001 0000 0001 0000 00000001 00000000 FF 0000000000000000 | 01 00 00 01 0000000000000000 | 0000 | 0000 | 00000000 | 00000000"

-- a run of two tasks, the row of task 5 before that of task 2, each count another number
unfoldable pub counted : Ran
counted =
    let s : State = machine 1 0 0 0 in
    record {
      state = record {
        rows = row_of 5 ∷ row_of 2 ∷ [];
        table = s.table;
        constants = s.constants;
        registers = s.registers;
        program = s.program;
        data_words = s.data_words;
      };
      notes = record {
        counts = counts 1 2 3 4 5;
        own = replicate 2 no_counts ++ (counts 21 22 23 24 25 ∷ no_counts ∷ no_counts ∷ counts 51 52 53 54 55 ∷ []);
      };
    }

-- the starred trials, the printed case from its input bytes to its two lines, and what document 01 excludes
pub record Trials : Type 0 where
  pub starred_ones : Starred
  pub printed : output_of printed_input ≡ printed_output
  -- two items: the second finds the task trapped
  pub two : output_of two_items ≡ letters "1 1 14 00000 E0 W0 T1 I1 S0\nE0 W0 T1 I1 S0 CF0\n"
  -- an item of an unlisted task counts under its number, which has no line
  pub unlisted : output_of other_item ≡ letters "1 1 14 00000 E0 W0 T1 I0 S0\nE0 W0 T1 I1 S0 CF0\n"
  -- a line has the counts of its task, the last line those of the run
  pub own : report_of counted ≡ letters "5 0 -- ----- E51 W52 T53 I54 S55\n2 0 -- ----- E21 W22 T23 I24 S25\nE1 W2 T3 I4 S5 CF0\n"
  -- three processes, of which two leave by QT always
  pub quits : report_of (run (1 ∷ 1 ∷ []) (machine 3 (instruction_word 0x1970 0 0 0x4000) 0 0)) ≡ letters "1 1 -- ----- E2 W0 T0 I0 S0\nE2 W0 T0 I0 S0 CF0\n"
  -- a process in each queue: the try waits, and the step executes
  pub tried : report_of (run (1 ∷ []) (sfu_state (row_with no_trap 0) (1 ∷ []) (0 ∷ []) 0 0 0)) ≡ letters "1 2 -- ----- E1 W0 T0 I0 S1\nE1 W0 T0 I0 S1 CF0\n"
  -- the longest input, and a byte more: 11
  pub longest : output_of (replicate 65536 0) ≡ letters "R4\n"
  pub longer : output_of (replicate 65537 0) ≡ letters "R11\n"
  pub exclusions : Excluded

pub trials : Trials
unfolding opened letters unspaced hex_value pairs_of hex_bytes printed_input printed_output two_items other_item instruction_word trial_row row_of up_to machine counted queue_with row_with sfu_program sfu_psws sfu_state
trials = record { starred_ones = starred; printed = refl; two = refl; unlisted = refl; own = refl; quits = refl; tried = refl; longest = refl; longer = refl; exclusions = excluded }
