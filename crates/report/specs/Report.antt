-- The batch program: standard input as bytes, standard output as bytes.
use Rattle.std.specs.Prelude.{ℕ, zero, suc, ◌+◌, ◌/◌, ◌%◌, true, cond, List, [], ◌∷◌, ◌++◌, eqb, ltb, length, Option, None, Some}
use Rattle.word.specs.Fields.{pc_of}
use Rattle.window.specs.declared.Row.{Row}
use Rattle.step.specs.declared.ProcessTable.{ProcessTable}
use Rattle.step.specs.State.{live_count}
use Rattle.step.specs.Step.{no_trap}
use Rattle.run.specs.declared.Counts.{Counts}
use Rattle.refusal.specs.declared.Refusal.{Refusal}
use Rattle.refusal.specs.declared.Refusal.TheVariants.{ItemOutOfRange, InputTooLong}
use Rattle.refusal.specs.Numbers.{number_of}
use Rattle.run.specs.Schedule.{most_items, schedule_refusal}
use Rattle.run.specs.Run.{Tally, own_counts, Ran, run}
use Rattle.image.specs.Codec.{Codec, Result, refused, accepted, num, uniform_section}
use Rattle.image.specs.Image.{Image, state_of, Decoded, bad, good, decode}

-- ---- characters: '0' is 48, 'A' 65, space 32, '-' 45, newline 10

-- the k lowest decimal digits of n, without leading zeros
unfoldable pub decimal_by : (k n : ℕ) → List ℕ
decimal_by zero n = []
decimal_by (suc k) n =
    let rest : List ℕ = decimal_by k (n / 10) in
    cond (ltb n 10) ((48 + n) ∷ []) (rest ++ ((48 + n % 10) ∷ []))

-- a number of at most 20 digits
unfoldable pub decimal : ℕ → List ℕ
decimal n = decimal_by 20 n

-- hex digits print as capitals
unfoldable pub hex_digit : ℕ → ℕ
hex_digit d = cond (ltb d 10) (48 + d) (55 + d)

-- the k lowest hex digits of n
unfoldable pub hex : (k n : ℕ) → List ℕ
hex zero n = []
hex (suc k) n = hex k (n / 16) ++ (hex_digit (n % 16) ∷ [])

abbrev pub space : List ℕ
space = 32 ∷ []

abbrev pub newline : List ℕ
newline = 10 ∷ []

-- ---- the report

-- trap kind or `--`
unfoldable pub kind_text : ℕ → List ℕ
kind_text kind = cond (eqb kind no_trap) (45 ∷ 45 ∷ []) (hex 2 kind)

-- trapped PC in hex or `-----`
unfoldable pub pc_text : (kind psw : ℕ) → List ℕ
pc_text kind psw = cond (eqb kind no_trap) (45 ∷ 45 ∷ 45 ∷ 45 ∷ 45 ∷ []) (hex 5 (pc_of psw))

-- E, W, T, I, S and their counts (S the tries)
unfoldable pub counts_text : Counts → List ℕ
counts_text c =
    (69 ∷ decimal c.executed)
    ++ (space ++ (87 ∷ decimal c.waved))
    ++ (space ++ (84 ∷ decimal c.trapped))
    ++ (space ++ (73 ∷ decimal c.idle))
    ++ (space ++ (83 ∷ decimal c.tries))

-- a line per row: task, live processes, trap kind, trapped PC, the task's own counts
unfoldable pub row_line : ProcessTable → Row → Counts → List ℕ
row_line table r c =
    decimal r.task
    ++ (space ++ decimal (live_count table.users r.task))
    ++ (space ++ kind_text r.kind)
    ++ (space ++ pc_text r.kind r.psw)
    ++ (space ++ counts_text c)
    ++ newline

unfoldable pub row_lines : ProcessTable → Tally → List Row → List ℕ
row_lines table n [] = []
row_lines table n (r ∷ rs) = row_line table r (own_counts r.task n) ++ row_lines table n rs

-- the counts, CF and the flag
unfoldable pub counts_line : Counts → (flag : ℕ) → List ℕ
counts_line c flag = counts_text c ++ (space ++ (67 ∷ 70 ∷ decimal flag)) ++ newline

unfoldable pub report_of : Ran → List ℕ
report_of r = row_lines r.state.table r.notes r.state.rows ++ counts_line r.notes.counts r.state.table.users.flag

-- refused: one line such as `R3`
unfoldable pub refusal_line : Refusal → List ℕ
refusal_line e = (82 ∷ decimal (number_of e)) ++ newline

-- ---- the input: schedule count (2 bytes), items (1 each), image

unfoldable pub item_codec : Codec ℕ
item_codec = num 1 ItemOutOfRange (λ _. true)

unfoldable pub schedule_codec : Codec (List ℕ)
schedule_codec = uniform_section item_codec 2 most_items

unfoldable pub output_run : Option Refusal → (schedule : List ℕ) → Image → List ℕ
output_run (Some e) schedule i = refusal_line e
output_run None schedule i = report_of (run schedule (state_of i))

-- the program reads its whole input before it runs, so 10 comes last
unfoldable pub output_read : (schedule : List ℕ) → Decoded → List ℕ
output_read schedule (bad e) = refusal_line e
output_read schedule (good i) = output_run (schedule_refusal schedule) schedule i

unfoldable pub output_scheduled : Result (List ℕ) → List ℕ
output_scheduled (refused e) = refusal_line e
output_scheduled (accepted schedule image) = output_read schedule (decode image)

-- the most bytes of an input
abbrev pub most_input : ℕ
most_input = 65536

-- the output of the batch program; 11 where the input is longer
unfoldable pub output_of : List ℕ → List ℕ
output_of input = cond (ltb most_input (length input)) (refusal_line InputTooLong) (output_scheduled (schedule_codec.dec input))
