use Rattle.image_bytes.specs.Code.Reading.{number_at}
use Rattle.image_check.specs.Code.Places.{sizes_in}
use Rattle.image_check.proofs.sizes.Goals as goal

pub returns-clause-value : goal.returns-clause-value
unfolding sizes_in number_at
returns-clause-value c =
    simp (c.number_at-data_words.ensures.value, c.number_at-program.ensures.value, c.number_at-registers.ensures.value, c.number_at-constants.ensures.value, c.number_at-processes.ensures.value, c.number_at-rows.ensures.value)
