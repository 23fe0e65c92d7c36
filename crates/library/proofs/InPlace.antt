-- What the calls leave in the buffers reads, by the counts, as the state of the definitions; nothing beyond the counts is touched.
use Rattle.std.specs.Prelude.{ℕ, ◌≡◌, List}
use Rattle.std.proofs.Common.{ap, ◌∙◌, None}
use Rattle.step.specs.Step.{item}
use Rattle.run.specs.Run.{run}
use Rattle.image.specs.Image.{Image, state_of, good, decode}
use Rattle.library.specs.declared.Sizes.{Sizes}
use Rattle.library.specs.Buffers.{Buffers, room_of, sizes_of, fields_in, spare_in}
use Rattle.library.specs.Calls.{unless, leaving, read_refusal, read_leaves, run_refusal, run_answer, run_leaves, step_refusal, step_answer, step_leaves}
use Rattle.library.proofs.Laws.InPlace.{held_by_read, holding_fields, holding_spare, read_sized, run_sized, step_sized}
use Rattle.library.proofs.Laws.Refused.{run_parts, step_parts}

-- after a reading that isn't refused the first places of the buffers, by the counts that it answers, are the state that was read
pub read_in_place : (b : Buffers) (bytes : List ℕ) (i : Image) → decode bytes ≡ good i → read_refusal (room_of b) bytes ≡ None
    → fields_in (sizes_of (state_of i)) (read_leaves b bytes) ≡ state_of i
read_in_place b bytes i d e =
    ap (fields_in (sizes_of (state_of i))) (held_by_read b bytes i d e) ∙ holding_fields (sizes_of (state_of i)) (state_of i) b (read_sized i)

pub read_touches_no_more : (b : Buffers) (bytes : List ℕ) (i : Image) → decode bytes ≡ good i → read_refusal (room_of b) bytes ≡ None
    → spare_in (sizes_of (state_of i)) (read_leaves b bytes) ≡ spare_in (sizes_of (state_of i)) b
read_touches_no_more b bytes i d e =
    ap (spare_in (sizes_of (state_of i))) (held_by_read b bytes i d e) ∙ holding_spare (sizes_of (state_of i)) (state_of i) b (read_sized i)

-- after a run that isn't refused they are, by the same counts, the state after the run
pub run_in_place : (n : Sizes) (b : Buffers) (schedule : List ℕ) → run_refusal n b schedule ≡ None
    → fields_in n (run_leaves n b schedule) ≡ (run schedule (fields_in n b)).state
unfolding run_leaves run_answer unless leaving
run_in_place n b schedule e =
    rw e (holding_fields n (run schedule (fields_in n b)).state b (run_sized n b schedule (run_parts n b schedule e).0))

pub run_touches_no_more : (n : Sizes) (b : Buffers) (schedule : List ℕ) → run_refusal n b schedule ≡ None
    → spare_in n (run_leaves n b schedule) ≡ spare_in n b
unfolding run_leaves run_answer unless leaving
run_touches_no_more n b schedule e =
    rw e (holding_spare n (run schedule (fields_in n b)).state b (run_sized n b schedule (run_parts n b schedule e).0))

-- after a step that isn't refused they are, by the same counts, the state after the step
pub step_in_place : (n : Sizes) (b : Buffers) (t : ℕ) → step_refusal n b t ≡ None → fields_in n (step_leaves n b t) ≡ (item t (fields_in n b)).state
unfolding step_leaves step_answer unless leaving
step_in_place n b t e = rw e (holding_fields n (item t (fields_in n b)).state b (step_sized n b t (step_parts n b t e).0))

pub step_touches_no_more : (n : Sizes) (b : Buffers) (t : ℕ) → step_refusal n b t ≡ None → spare_in n (step_leaves n b t) ≡ spare_in n b
unfolding step_leaves step_answer unless leaving
step_touches_no_more n b t e = rw e (holding_spare n (item t (fields_in n b)).state b (step_sized n b t (step_parts n b t e).0))
