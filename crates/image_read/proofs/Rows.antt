-- The loop that takes the rows: its invariant, and a turn.
use Prim.Native.Nat.{ℕ, ◌+◌, ◌-◌, ◌≤◌, ◌<◌}
use mathlib.Core.Path.{◌≡◌, sym, ◌∙◌}
use mathlib.Core.List.{List, ◌++◌, append_assoc}
use native.Mathlib.Nat.{sub-zero}
use native.Mathlib.Numerals.{add-one}
use native.Mathlib.Omega.{arith}
use lib.ListN.{length, take, drop, set, length-set, take-append-drop}
use lib.Seq.{take-suc-set, drop-set-lt}
use Rattle.window.specs.declared.Row.{Row}
use Rattle.image_bytes.specs.Code.Reading.{listed}
use Rattle.image_bytes.specs.Laws.Listed.{length_listed}
use Rattle.image.specs.Fields.{over}
use Rattle.image_check.specs.Code.Places.{row_at, rows_at}
use Rattle.image.specs.Image.{row_length, tasks_length}
use Rattle.image_read.proofs.Listed.{listed_from}

-- i of n rows are in l
pub record Filling (s : List ℕ) (n : ℕ) (old l : List Row) (i : ℕ) : Type 0 where
  pub size : length l ≡ 7
  pub all : take i l ++ (listed row_length (λ q. row_at q s) (n - i) (tasks_length i) ++ drop n l) ≡ over (rows_at n s) old

module _ (s : List ℕ) (n : ℕ) (old l : List Row) where
  pub start : length l ≡ 7 → l ≡ old → Filling s n old l 0
  unfolding rows_at
  start size e = record { size = size; all = rw (e, sub-zero, length_listed) }

  module _ (i : ℕ) (z : Filling s n old l i) where
    pub step : {v : Row} → i < n → n ≤ 7 → v ≡ row_at (tasks_length i) s → Filling s n old (set l i v) (i + 1)
    step {v} h few e = record {
      size = length-set l i v ∙ z.size;
      all =
          rw (e, add-one i, take-suc-set l i (row_at (tasks_length i) s) (omega (arith, z.size)), drop-set-lt n l i (row_at (tasks_length i) s) h, append_assoc)
          (rw add-one at (rw (listed_from row_length (λ q. row_at q s) n 1 i h) at z.all));
    }

    pub done : n ≤ i → i ≤ n → l ≡ over (rows_at n s) old
    unfolding listed
    done h most =
        let m : n - i ≡ 0 = omega arith in
        let d : i ≡ n = omega arith in
        sym (take-append-drop n l) ∙ rw d at (rw m at z.all)
