-- Sizes that were found and that fit.
use Rattle.std.specs.Prelude.{ℕ, ◌≡◌, true, List, length}
use Rattle.library.specs.declared.Sizes.{Sizes}
use Rattle.library.specs.Buffers.{fits}
use Rattle.library.specs.Held.{room_from}
use Rattle.library.proofs.Laws.Places.{fitting}
use Rattle.image_bytes.specs.Code.Reading.{field_at}
use Rattle.image_check.specs.Code.Places.{processes_place, constants_place, registers_place, program_place, data_place, end_place}
use Rattle.image_read.specs.Code.Room.{Room}
use Rattle.image.specs.Image.{tasks_length}

pub room_of_lem : (n : Sizes) (m : ℕ) (s : List ℕ) (r a b c d e f g : ℕ) → m ≡ field_at 1 (tasks_length n.rows) s → end_place n s ≡ length s → fits n (room_from r a b c d e f g) ≡ true → Room n m s a b c d e f g
unfolding end_place data_place program_place registers_place constants_place processes_place
room_of_lem n m s r a b c d e f g p ends h =
    let u = fitting n (room_from r a b c d e f g) h in
    record {
      processes = p;
      ends = rw p ends;
      constant_tags = u.constant_tags;
      constant_words = u.constant_words;
      register_tags = u.register_tags;
      register_words = u.register_words;
      program = u.program;
      data_tags = u.data_tags;
      data_words = u.data_words;
    }
