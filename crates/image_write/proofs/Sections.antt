-- The sections of an image: how long they are, and that they are put where their count and then their values are put.
use Prim.Native.Nat.{ℕ, ◌+◌, ◌*◌, ◌≤◌}
use mathlib.Core.Path.{◌≡◌, refl, sym, ap, ◌∙◌}
use mathlib.Core.Bool.{Bool, true, false, cond}
use mathlib.Core.List.{List, ◌++◌}
use native.Mathlib.Omega.{arith}
use lib.ListN.{length, length-append}
use lib.Dec.{leb}
use borrow.Author.Tests.{eq-eqb}
use Rattle.word.proofs.Laws.Bools.{Le?, below, above, le?}
use Rattle.window.specs.declared.Row.{Row}
use Rattle.step.specs.declared.Queue.{Queue}
use Rattle.step.specs.Queues.{live_pts}
use Rattle.image.specs.Codec.{digits}
use Rattle.image.specs.Image.{processes_from, process_length, tasks_length, processes_length, cells_length, words_length}
use Rattle.image.proofs.Laws.Numbers.{length_digits}
use Rattle.image_bytes.specs.Code.Writing.{laid, put_at, word_bytes, cell_bytes, put_cells}
use Rattle.image_bytes.specs.Laws.Bytes.{word_bytes_length, cell_bytes_length}
use Rattle.image_bytes.specs.Laws.Laid.{length_laid}
use Rattle.image_write.specs.Code.Bytes.{rows_bytes, processes_bytes, tasks_section, processes_section, words_section, cells_section}
use Rattle.image_write.proofs.Going.{start, goes, last}
use Rattle.image_write.proofs.Parts.{rows_length, processes_length_lem, from_length}

put_length : (at : ℕ) (xs l : List ℕ) → length (put_at at xs l) ≡ length l
unfolding put_at
put_length at xs l = go (leb (at + length xs) (length l)) (le? (at + length xs) (length l))
  where
    go : (b : Bool) → Le? (at + length xs) (length l) b → length (cond b (laid at xs l) l) ≡ length l
    go true (below h) = length_laid at xs l h
    go false (above h) = refl

-- a number, and then a body
counted : (at w v : ℕ) (body l₀ : List ℕ) {l₁ l₂ : List ℕ} {q : ℕ} → at + (w + length body) ≤ length l₀ → q ≡ at + w → l₁ ≡ put_at at (digits w v) l₀ → l₂ ≡ put_at q body l₁
    → l₂ ≡ put_at at (digits w v ++ body) l₀
counted at w v body l₀ h e e₁ e₂ =
    let f : at + length (digits w v ++ body) ≤ length l₀ = simp (length-append, length_digits) h in
    let z = goes at (digits w v ++ body) l₀ (start at (digits w v ++ body) l₀ f) (record { is = refl }) (e ∙ ap (λ (n : ℕ). at + n) (sym (length_digits w v))) e₁ in
    last at (digits w v ++ body) l₀ z e₂

-- ---- tasks

module _ (rows : List Row) where
  pub tasks_size : length (tasks_section rows) ≡ tasks_length (length rows)
  unfolding tasks_section
  tasks_size = simp (length-append, length_digits, rows_length rows)

  pub tasks_put : (l₀ : List ℕ) {l₁ l₂ : List ℕ} → tasks_length (length rows) ≤ length l₀ → l₁ ≡ put_at 0 (digits 1 (length rows)) l₀ → l₂ ≡ put_at 1 (rows_bytes rows) l₁
      → l₂ ≡ put_at 0 (tasks_section rows) l₀
  unfolding tasks_section
  tasks_put l₀ f e₁ e₂ = counted 0 1 (length rows) (rows_bytes rows) l₀ (omega (arith, rows_length rows)) refl e₁ e₂

-- ---- processes

module _ (psw : List ℕ) (flag : ℕ) (qs : List Queue) (m : ℕ) (h : m ≡ length (live_pts qs)) where
  count : length (processes_from psw 0 qs) ≡ m
  count = from_length psw 0 qs ∙ sym h

  body : length (processes_bytes (processes_from psw 0 qs)) ≡ process_length * m
  body = processes_length_lem (processes_from psw 0 qs) ∙ ap (λ (k : ℕ). process_length * k) count

  pub processes_size : length (processes_section flag (processes_from psw 0 qs)) ≡ processes_length m
  unfolding processes_section
  processes_size = simp (length-append, length_digits, body) (omega arith)

  pub processes_put : (at : ℕ) (l₀ : List ℕ) {l₁ l₂ l₃ : List ℕ} → at + processes_length m ≤ length l₀ → l₁ ≡ put_at at (digits 1 m) l₀
      → l₂ ≡ put_at (at + 1) (digits 1 flag) l₁ → l₃ ≡ put_at (at + 2) (processes_bytes (processes_from psw 0 qs)) l₂
      → l₃ ≡ put_at at (processes_section flag (processes_from psw 0 qs)) l₀
  unfolding processes_section
  processes_put at l₀ {l₁} f e₁ e₂ e₃ =
      let ps = processes_bytes (processes_from psw 0 qs) in
      let n : length l₁ ≡ length l₀ = ap length e₁ ∙ put_length at (digits 1 m) l₀ in
      let k : length (digits 1 flag ++ ps) ≡ 1 + process_length * m = simp (length-append, length_digits, body) in
      rw count
      (counted at 1 m (digits 1 flag ++ ps) l₀ (omega arith) refl e₁
      (counted (at + 1) 1 flag ps l₁ (omega (arith, body)) (omega arith) e₂ e₃))

-- ---- words and cells

module _ (w : ℕ) (words : List ℕ) where
  pub words_size : length (words_section w words) ≡ words_length w (length words)
  unfolding words_section
  words_size = simp (length-append, length_digits, word_bytes_length)

  pub words_put : (at : ℕ) (l₀ : List ℕ) {l₁ l₂ : List ℕ} → at + words_length w (length words) ≤ length l₀ → l₁ ≡ put_at at (digits w (length words)) l₀
      → l₂ ≡ put_at (at + w) (word_bytes words) l₁ → l₂ ≡ put_at at (words_section w words) l₀
  unfolding words_section
  words_put at l₀ f e₁ e₂ = counted at w (length words) (word_bytes words) l₀ (omega (arith, word_bytes_length words)) refl e₁ e₂

  module _ (tags : List ℕ) (h : length tags ≡ length words) where
    pub cells_size : length (cells_section w tags words) ≡ cells_length w (length words)
    unfolding cells_section
    cells_size = simp (length-append, length_digits, cell_bytes_length tags words h)

    pub cells_put : (at : ℕ) (l₀ : List ℕ) {l₁ l₂ : List ℕ} → at + cells_length w (length words) ≤ length l₀ → l₁ ≡ put_at at (digits w (length words)) l₀
        → l₂ ≡ put_cells (at + w) tags words l₁ → l₂ ≡ put_at at (cells_section w tags words) l₀
    unfolding cells_section put_cells
    cells_put at l₀ {l₁} f e₁ e₂ =
        counted at w (length words) (cell_bytes tags words) l₀ (omega (arith, cell_bytes_length tags words h)) refl e₁
        (e₂ ∙ ap (λ (b : Bool). cond b (put_at (at + w) (cell_bytes tags words) l₁) l₁) (eq-eqb (length tags) (length words) h))
