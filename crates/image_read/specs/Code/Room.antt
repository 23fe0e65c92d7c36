-- Where the sections end with the input and each buffer has room.
use Rattle.std.specs.Prelude.{ℕ, ◌≤◌, ◌≡◌, List, length}
use Rattle.library.specs.declared.Sizes.{Sizes}
use Rattle.image_bytes.specs.Code.Reading.{field_at}
use Rattle.image.specs.Image.{tasks_length, image_length}

-- an image of these sizes and m processes, and buffers of these lengths
pub record Room (n : Sizes) (m : ℕ) (s : List ℕ) (a b c d e f g : ℕ) : Type 0 where
  pub processes : m ≡ field_at 1 (tasks_length n.rows) s
  pub ends : image_length n.rows m n.constants n.registers n.program n.data_words ≡ length s
  pub constant_tags : n.constants ≤ a
  pub constant_words : n.constants ≤ b
  pub register_tags : n.registers ≤ c
  pub register_words : n.registers ≤ d
  pub program : n.program ≤ e
  pub data_tags : n.data_words ≤ f
  pub data_words : n.data_words ≤ g
