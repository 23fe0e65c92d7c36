-- The whole image: its sections are what the definition of an image's bytes says, and what is left after each.
use Prim.Native.Nat.{ℕ}
use mathlib.Core.Path.{◌≡◌, refl, ap, ap₂}
use mathlib.Core.Bool.{Bool}
use mathlib.Core.List.{List, [], ◌∷◌, ◌++◌}
use lib.ListN.{length}
use Rattle.window.specs.declared.Row.{Row}
use Rattle.step.specs.State.{State}
use Rattle.refusal.specs.declared.Refusal.{Refusal}
use Rattle.image.specs.declared.Process.{Process}
use Rattle.image.specs.Codec.{Codec, digits, num, count, seq, via, enc_many, section, no_header, list_section, no_state, uniform_section}
use Rattle.image.specs.Image.{row_codec, row_task, tasks_codec, process_codec, queue_after, processes_codec, processes_from, words_codec, cells_codec, cells_of, image_codec, image_of, encode}
use Rattle.image_bytes.specs.Code.Writing.{word_bytes}
use Rattle.image_bytes.specs.Laws.Bytes.{cells_length_lem, cell_bytes_lem}
use Rattle.image_write.specs.Code.Bytes.{rows_bytes, processes_bytes, tasks_section, processes_section, words_section, cells_section, image_bytes}

-- values are written alike whatever stands before them
alike : {S A : Type 0} (c : S → Codec A) (next : S → A → S) (d : Codec A) → ((s : S) (a : A) → (c s).enc a ≡ d.enc a) → (s : S) (xs : List A)
    → enc_many c next s xs ≡ enc_many (λ _. d) no_state tt xs
unfolding enc_many
alike c next d h s [] = refl
alike c next d h s (x ∷ xs) = ap₂ {C = List ℕ} (λ a b. a ++ b) (h s x) (alike c next d h (next s x) xs)

tasks_bytes : (rows : List Row) → tasks_codec.enc rows ≡ tasks_section rows
unfolding tasks_codec list_section section via count num no_header tasks_section rows_bytes row_codec seq
tasks_bytes rows = ap (λ (l : List ℕ). digits 1 (length rows) ++ l) (alike row_codec row_task (row_codec 0) (λ s a. refl) 0 rows)

processes_bytes_lem : (rows : List Row) (flag : ℕ) (ps : List Process) → (processes_codec rows).enc (flag, ps) ≡ processes_section flag ps
unfolding processes_codec section count num processes_section processes_bytes process_codec via seq
processes_bytes_lem rows flag ps =
    ap (λ (l : List ℕ). digits 1 (length ps) ++ (digits 1 flag ++ l)) (alike (process_codec rows) queue_after (process_codec [] 0) (λ s a. refl) 0 ps)

words_bytes : (w most : ℕ) (words : List ℕ) → (words_codec w most).enc words ≡ words_section w words
unfolding words_codec uniform_section list_section section via count num no_header words_section word_bytes
words_bytes w most words = refl

cells_bytes : (e : Refusal) (good : ℕ → Bool) (w most : ℕ) (tags words : List ℕ) → length tags ≡ length words → (cells_codec e good w most).enc (cells_of tags words) ≡ cells_section w tags words
unfolding cells_codec uniform_section list_section section via count num no_header cells_section
cells_bytes e good w most tags words h = ap₂ {C = List ℕ} (λ n l. digits w n ++ l) (cells_length_lem tags words h) (cell_bytes_lem e good tags words)

-- what is left after each section
module _ (s : State) where
  abbrev pub left₅ : List ℕ
  left₅ = cells_section 4 s.data_words.tags s.data_words.words

  abbrev pub left₄ : List ℕ
  left₄ = words_section 4 s.program ++ left₅

  abbrev pub left₃ : List ℕ
  left₃ = cells_section 2 s.registers.tags s.registers.words ++ left₄

  abbrev pub left₂ : List ℕ
  left₂ = cells_section 2 s.constants.tags s.constants.words ++ left₃

  abbrev pub left₁ : List ℕ
  left₁ = processes_section s.table.users.flag (processes_from s.table.users.psw 0 s.table.users.queues) ++ left₂

  pub image_bytes_lem : length s.constants.tags ≡ length s.constants.words → length s.registers.tags ≡ length s.registers.words → length s.data_words.tags ≡ length s.data_words.words → encode s ≡ image_bytes s
  unfolding encode image_of image_codec via seq image_bytes
  image_bytes_lem g h k =
      ap₂ {C = List ℕ} (λ a b. a ++ b) (tasks_bytes _)
      (ap₂ {C = List ℕ} (λ a b. a ++ b) (processes_bytes_lem _ _ _)
      (ap₂ {C = List ℕ} (λ a b. a ++ b) (cells_bytes _ _ _ _ _ _ g)
      (ap₂ {C = List ℕ} (λ a b. a ++ b) (cells_bytes _ _ _ _ _ _ h)
      (ap₂ {C = List ℕ} (λ a b. a ++ b) (words_bytes _ _ _) (cells_bytes _ _ _ _ _ _ k)))))
