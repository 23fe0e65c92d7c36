-- How long the lines of a report can be.
use Rattle.std.specs.Prelude.{ℕ, zero, suc, ◌+◌, ◌*◌, ◌-◌, ◌/◌, ◌%◌, ◌^◌, ◌≤◌, ◌<◌, ◌≡◌, refl, Bool, true, false, cond, List, [], ◌∷◌, ◌++◌, ltb, eqb, length, get_or, replicate}
use Rattle.std.proofs.Common.{arith, lt-ltb, length-append}
use Rattle.word.specs.Fields.{pc_of}
use Rattle.window.specs.declared.Row.{Row}
use Rattle.step.specs.declared.ProcessTable.{ProcessTable}
use Rattle.step.specs.Queues.{task_place}
use Rattle.step.specs.State.{live_count}
use Rattle.run.specs.declared.Counts.{Counts}
use Rattle.run.specs.Run.{counts, Tally, own_counts}
use Rattle.report.specs.Report.{decimal_by, decimal, hex_digit, hex, kind_text, pc_text, counts_text, row_line, row_lines, counts_line, newline}
use Rattle.report_text.specs.Texts.{longest_row, longest_counts, longest_last, longest_report, tally}

-- ---- digits

-- one digit more
digits_step : (k n j : ℕ) → length (decimal_by k (n / 10)) ≤ j → length (decimal_by (suc k) n) ≤ suc j
unfolding decimal_by
digits_step k n j h = go (ltb n 10)
  where
    go : (b : Bool) → length (cond b ((48 + n) ∷ []) (decimal_by k (n / 10) ++ ((48 + n % 10) ∷ []))) ≤ suc j
    go true = omega arith
    go false = omega (arith, length-append (decimal_by k (n / 10)) ((48 + n % 10) ∷ []))

digits_at_most : (k n : ℕ) → length (decimal_by k n) ≤ k
unfolding decimal_by
digits_at_most zero n = omega arith
digits_at_most (suc k) n = digits_step k n k (digits_at_most k (n / 10))

-- numbers below m have at most j digits
abbrev Digits : (m j : ℕ) → Type 0
Digits m j = (k n : ℕ) → n < m → length (decimal_by k n) ≤ j

digits_more : (m j : ℕ) → Digits m j → Digits (m * 10) (suc j)
unfolding decimal_by
digits_more m j d zero n h = omega arith
digits_more m j d (suc k) n h = digits_step k n j (d k (n / 10) (omega arith))

digits_1 : Digits 10 1
unfolding decimal_by
digits_1 zero n h = omega arith
digits_1 (suc k) n h = rw (lt-ltb n 10 h) (omega arith)

digits_3 : Digits 1000 3
digits_3 = digits_more 100 2 (digits_more 10 1 digits_1)

digits_6 : Digits 1000000 6
digits_6 = digits_more 100000 5 (digits_more 10000 4 (digits_more 1000 3 digits_3))

digits_10 : Digits 10000000000 10
digits_10 = digits_more 1000000000 9 (digits_more 100000000 8 (digits_more 10000000 7 (digits_more 1000000 6 digits_6)))

length_hex : (k n : ℕ) → length (hex k n) ≡ k
unfolding hex
length_hex zero n = refl
length_hex (suc k) n = omega (arith, length-append (hex k (n / 16)) (hex_digit (n % 16) ∷ []), length_hex k (n / 16))

-- ---- lines

-- dashes are as long as what they stand for
dashed : (b : Bool) (dashes text : List ℕ) (k : ℕ) → length dashes ≡ k → length text ≡ k → length (cond b dashes text) ≡ k
dashed true dashes text k d t = d
dashed false dashes text k d t = t

length_kind : (kind : ℕ) → length (kind_text kind) ≡ 2
unfolding kind_text
length_kind kind = dashed (eqb kind 255) (45 ∷ 45 ∷ []) (hex 2 kind) 2 refl (length_hex 2 kind)

length_pc : (kind psw : ℕ) → length (pc_text kind psw) ≡ 5
unfolding pc_text
length_pc kind psw = dashed (eqb kind 255) (45 ∷ 45 ∷ 45 ∷ 45 ∷ 45 ∷ []) (hex 5 (pc_of psw)) 5 refl (length_hex 5 (pc_of psw))

-- a number of 32 bits
length_narrow : (n : ℕ) → n < 2 ^ 32 → length (decimal n) ≤ 10
unfolding decimal
length_narrow n h = digits_10 20 n (omega arith)

pub length_counts : (c : Counts) → c.executed < 2 ^ 32 → c.waved < 2 ^ 32 → c.trapped < 2 ^ 32 → c.idle < 2 ^ 32 → c.tries < 2 ^ 32
    → length (counts_text c) ≤ longest_counts
unfolding counts_text
length_counts c e w t i s =
    simp length-append
    (omega (
      arith,
      length_narrow c.executed e,
      length_narrow c.waved w,
      length_narrow c.trapped t,
      length_narrow c.idle i,
      length_narrow c.tries s,
    ))

pub length_row : (table : ProcessTable) (r : Row) (c : Counts) → r.task < 256 → length (counts_text c) ≤ longest_counts
    → length (row_line table r c) ≤ longest_row
unfolding row_line decimal
length_row table r c h k =
    simp length-append
    (omega (
      arith,
      digits_3 20 r.task (omega arith),
      digits_at_most 20 (live_count table.users r.task),
      length_kind r.kind,
      length_pc r.kind r.psw,
      k,
    ))

pub length_last : (c : Counts) (flag : ℕ) → length (counts_text c) ≤ longest_counts → flag < 256 → length (counts_line c flag) ≤ longest_last
unfolding counts_line decimal
length_last c flag k h = simp length-append (omega (arith, k, digits_3 20 flag (omega arith)))

pub length_refusal : (n : ℕ) → length ((82 ∷ decimal n) ++ newline) ≤ longest_report
unfolding decimal
length_refusal n = omega (arith, length-append (82 ∷ decimal n) newline, digits_at_most 20 n)

-- ---- the bounds are reached

unfoldable pub largest : ℕ
largest = 2 ^ 64 - 1

unfoldable pub long_counts : Counts
long_counts = let n : ℕ = 2 ^ 32 - 1 in counts n n n n n

unfoldable pub long_row : Row
long_row = record { task = 255; cb = 0; rb = 0; rl = 0; pb = 0; pl = 0; db = 0; dl = 0; kind = 255; psw = 0 }

pub longest_row_lem : (table : ProcessTable) → get_or table.users.live 7 0 ≡ largest → length (row_line table long_row long_counts) ≡ longest_row
unfolding largest long_counts long_row counts_text row_line live_count task_place decimal decimal_by kind_text pc_text
longest_row_lem table h = rw h

unfoldable pub long_tally : Tally
long_tally = tally long_counts (replicate 256 long_counts)

own_long : own_counts long_row.task long_tally ≡ long_counts
unfolding long_row long_tally own_counts
own_long = refl

length_longest : length (counts_line long_counts 255) ≡ longest_last
unfolding long_counts counts_text counts_line decimal decimal_by
length_longest = refl

pub longest_report_lem : (table : ProcessTable) → get_or table.users.live 7 0 ≡ largest
    → length (row_lines table long_tally (replicate 7 long_row) ++ counts_line long_counts 255) ≡ longest_report
unfolding row_lines
longest_report_lem table h = simp (length-append, own_long, longest_row_lem table h, length_longest)
