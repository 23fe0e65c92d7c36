-- Buffers that hold a state are as long as before.
use Rattle.std.specs.Prelude.{ℕ, ◌≤◌, ◌≡◌, true, List, length, drop}
use Rattle.std.proofs.Common.{arith, length-append, length-drop}
use Rattle.step.specs.State.{State}
use Rattle.image.specs.Fields.{over}
use Rattle.library.specs.declared.Sizes.{Sizes}
use Rattle.library.specs.Buffers.{Buffers, room_of, fits, holding}
use Rattle.library.proofs.Laws.InPlace.{Sized}
use Rattle.library.proofs.Laws.Places.{fitting}

module _ {A : Type 0} where
  over_length : (n : ℕ) (xs l : List A) → length xs ≡ n → n ≤ length l → length (over xs l) ≡ length l
  over_length n xs l e h = omega (arith, length-append xs (drop (length xs) l), length-drop (length xs) l)

pub room_kept : (n : Sizes) (s : State) (b : Buffers) → Sized n s → fits n (room_of b) ≡ true → room_of (holding s b) ≡ room_of b
unfolding room_of holding
room_kept n s b z e =
    let f = fitting n (room_of b) e in
    rw (
      over_length n.rows s.rows b.rows z.rows f.rows,
      over_length n.constants s.constants.tags b.constant_tags z.constant_tags f.constant_tags,
      over_length n.constants s.constants.words b.constant_words z.constant_words f.constant_words,
      over_length n.registers s.registers.tags b.register_tags z.register_tags f.register_tags,
      over_length n.registers s.registers.words b.register_words z.register_words f.register_words,
      over_length n.program s.program b.program z.program f.program,
      over_length n.data_words s.data_words.tags b.data_tags z.data_tags f.data_tags,
      over_length n.data_words s.data_words.words b.data_words z.data_words f.data_words,
    )
