-- All definitions up to the library's calls at once, for trials that compute.
use Rattle.std.specs.Prelude.{ℕ}
use Rattle.image.proofs.Laws.Opened.{opened as below}
use Rattle.library.specs.Buffers.{room_of, fits, sizes_of, fields_in, holding}
use Rattle.library.specs.Calls.{unless, leaving, check_answer, decoded_refusal, read_refusal, decoded_answer, read_answer, decoded_leaves, read_leaves, state_refused, state_refusal, or_else}
use Rattle.library.specs.Calls.{run_refusal, run_answer, run_leaves, task_refusal, step_refusal, step_answer, step_leaves, output_refusal, write_refusal, write_answer, write_leaves}

-- naming this opens all of them
unfoldable pub opened : ℕ
unfolding below room_of fits sizes_of fields_in holding unless leaving check_answer decoded_refusal read_refusal decoded_answer read_answer decoded_leaves read_leaves state_refused state_refusal or_else run_refusal run_answer run_leaves task_refusal step_refusal step_answer step_leaves output_refusal write_refusal write_answer write_leaves
opened = 0
