use lib.Seq.{drop-drop}
use Rattle.image_check.proofs.Loops.{from_place}
use Rattle.image_bytes.specs.Code.Reading.{number_at}
use Rattle.image_check.specs.Code.Places.{row_at}
use Rattle.image_check.proofs.row_at.Goals as goal

pub returns : goal.returns
unfolding row_at number_at
returns c =
    simp (c.number_at.ensures.value, c.number_at-2.ensures.value, c.number_at-3.ensures.value, c.number_at-4.ensures.value, c.number_at-5.ensures.value, c.number_at-6.ensures.value, c.number_at-7.ensures.value, c.number_at-8.ensures.value, c.number_at-9.ensures.value, c.number_at-10.ensures.value, from_place c.args.at c.args.s.now c.min.ensures, drop-drop)
