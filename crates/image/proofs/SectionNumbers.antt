-- The number of a refusal tells the section that is bad. Whether an image is accepted is for `decode` alone, which knows no number.
use Rattle.std.specs.Prelude.{ℕ, ◌≡◌, Bool, List, ◌⊎◌, ◌↔◌}
use Rattle.window.specs.declared.Row.{Row}
use Rattle.refusal.specs.declared.Refusal.{Refusal}
use Rattle.refusal.specs.declared.Refusal.TheVariants.{InputEnds, TaskField, ProcessField, ConstantField, CellField}
use Rattle.refusal.specs.Numbers.{number_of}
use Rattle.image.specs.Codec.{Codec, refused}
use Rattle.image.specs.Image.{bad, decode, tasks_codec, processes_codec, words_codec, cells_codec}
use Rattle.image.specs.Sections.{Tasks, Processes, Constants, Registers, DataWords, inside, stop_of}
use Rattle.image.proofs.Laws.Refusals.{tasks_refuse, processes_refuse, words_refuse, cells_refuse, only_numbers}
use Rattle.image.proofs.Laws.Sections.{three, twelve, fourteen, thirteen}

-- a format is refused by 1, by 2 or by n only
pub record RefusedBy {A : Type 0} (n : ℕ) (c : Codec A) : Type 0 where
  pub numbers : (b : List ℕ) (e : Refusal) → c.dec b ≡ refused e → (number_of e ≡ 1) ⊎ ((number_of e ≡ 2) ⊎ (number_of e ≡ n))

pub tasks_numbers : RefusedBy 3 tasks_codec
unfolding number_of
tasks_numbers = record { numbers = λ b e h. only_numbers TaskField e (tasks_refuse.such b e h) }

pub processes_numbers : (rows : List Row) → RefusedBy 12 (processes_codec rows)
unfolding number_of
processes_numbers rows = record { numbers = λ b e h. only_numbers ProcessField e ((processes_refuse rows).such b e h) }

-- the program: 1 or 2
pub words_numbers : (w most : ℕ) → RefusedBy 1 (words_codec w most)
unfolding number_of
words_numbers w most = record { numbers = λ b e h. only_numbers InputEnds e ((words_refuse w most).such b e h) }

-- constants
pub constants_numbers : (allowed : ℕ → Bool) (w most : ℕ) → RefusedBy 14 (cells_codec ConstantField allowed w most)
unfolding number_of
constants_numbers allowed w most = record { numbers = λ b e h. only_numbers ConstantField e ((cells_refuse ConstantField allowed w most).such b e h) }

-- registers and data words
pub cells_numbers : (allowed : ℕ → Bool) (w most : ℕ) → RefusedBy 13 (cells_codec CellField allowed w most)
unfolding number_of
cells_numbers allowed w most = record { numbers = λ b e h. only_numbers CellField e ((cells_refuse CellField allowed w most).such b e h) }

module _ (b : List ℕ) (e : Refusal) (d : decode b ≡ bad e) where
  -- 3 exactly if a field of the task section is refused
  pub three_tasks : (number_of e ≡ 3) ↔ (stop_of b ≡ inside Tasks TaskField)
  three_tasks = three b e d

  -- 12 exactly if one of the process section is
  pub twelve_processes : (number_of e ≡ 12) ↔ (stop_of b ≡ inside Processes ProcessField)
  twelve_processes = twelve b e d

  -- 14 exactly if the quality of a constant is
  pub fourteen_constants : (number_of e ≡ 14) ↔ (stop_of b ≡ inside Constants ConstantField)
  fourteen_constants = fourteen b e d

  -- 13 exactly if a tag or a state is
  pub thirteen_cells : (number_of e ≡ 13) ↔ ((stop_of b ≡ inside Registers CellField) ⊎ (stop_of b ≡ inside DataWords CellField))
  thirteen_cells = thirteen b e d
