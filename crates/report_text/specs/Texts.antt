-- A text in a lent buffer: how long one can be, what is answered and what is left.
use Rattle.std.specs.Prelude.{ℕ, ◌+◌, ◌*◌, ◌≤◌, ◌≡◌, List, length, take}
use Rattle.image.specs.Fields.{over}
use Rattle.window.specs.Limits.{tasks}
use Rattle.run.specs.declared.Counts.{Counts}
use Rattle.run.specs.Run.{Tally}

-- how many bytes are enough for every text
abbrev pub report_room : ℕ
report_room = 2048

-- the longest text of five counts: 10 digits each, which is 32 bits, their letters and four spaces
abbrev pub longest_counts : ℕ
longest_counts = 5 * 10 + 5 + 4

-- the longest line of any row: a task of 3 digits and 20 digits of processes, 12 bytes for the rest, and the counts
abbrev pub longest_row : ℕ
longest_row = 3 + 20 + 12 + longest_counts

-- the longest last line: the counts, a flag of 3 digits, 4 bytes for the rest
abbrev pub longest_last : ℕ
longest_last = longest_counts + 3 + 4

-- the longest report of any rows, table and counts: seven rows and the last line
abbrev pub longest_report : ℕ
longest_report = tasks * longest_row + longest_last

-- the counts of a run, in all and of each task number
abbrev pub tally : Counts → (own : List Counts) → Tally
tally c own = record { counts = c; own = own }

-- the promise of a text: as many of its bytes as a buffer has room for go to the buffer's front, and are counted
pub record TextPromise (text buffer : List ℕ) (r : ℕ) (after : List ℕ) : Type 0 where
  pub answer : r ≡ length (take (length buffer) text)
  pub leaves : after ≡ over (take (length buffer) text) buffer
  pub short : length text ≤ longest_report
