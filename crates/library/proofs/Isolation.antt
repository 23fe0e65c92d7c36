-- Demand 3 of the calls: two images, each read into buffers of its own and run there. What is left in the buffers, and each task's own counts.
use Rattle.std.specs.Prelude.{ℕ, ◌≡◌, true, List, get_or}
use Rattle.std.proofs.Common.{sym, ap, ◌∙◌}
use Rattle.step.specs.State.{State}
use Rattle.run.specs.Run.{no_counts, Tally, own_counts, run}
use Rattle.run.specs.Compared.{Compared}
use Rattle.image.specs.Image.{Image, state_of}
use Rattle.image.specs.Demand3.{WholeRun, Agreed}
use Rattle.image.proofs.Demand3.{demand_3, demand_3_counts}
use Rattle.library.specs.Buffers.{Buffers, room_of, fits, fields_in}
use Rattle.library.specs.declared.RunResult.{RunResult}
use Rattle.library.specs.Calls.{Answer, read_leaves, run_answer}
use Rattle.library.specs.Promises.{run_answered}
use Rattle.library.proofs.InTurn.{sizes_read, read_and_run, read_then_run}

-- what the buffers hold after an image was read into them and a schedule run over it
abbrev pub held_after : Buffers → (bytes schedule : List ℕ) → Image → State
held_after b bytes schedule i = fields_in (sizes_read i) (read_and_run b bytes schedule i)

held_is : (b : Buffers) (bytes schedule : List ℕ) (i : Image) → WholeRun bytes schedule i → fits (sizes_read i) (room_of b) ≡ true
    → held_after b bytes schedule i ≡ (run schedule (state_of i)).state
held_is b bytes schedule i r f = (read_then_run b bytes schedule i r.string r.accepted f r.scheduled).held

-- for any two sets of long enough buffers: where two whole runs agree on task t, what they left in them is equal on it
pub calls_demand_3 : (t : ℕ) (b b' : Buffers) (bytes bytes' schedule schedule' : List ℕ) (i i' : Image)
    → fits (sizes_read i) (room_of b) ≡ true → fits (sizes_read i') (room_of b') ≡ true
    → WholeRun bytes schedule i → WholeRun bytes' schedule' i' → Agreed t schedule schedule' i i'
    → Compared t (held_after b bytes schedule i) (held_after b' bytes' schedule' i')
calls_demand_3 t b b' bytes bytes' schedule schedule' i i' f f' r r' a =
    rw (held_is b bytes schedule i r f, held_is b' bytes' schedule' i' r' f') (demand_3 t bytes bytes' schedule schedule' i i' r r' a)

-- what the run of an image that was read answers
abbrev pub answered_after : Buffers → (bytes schedule : List ℕ) → Image → RunResult
answered_after b bytes schedule i = run_answered (run_answer (sizes_read i) (read_leaves b bytes) schedule)

own_is : (t : ℕ) (b : Buffers) (bytes schedule : List ℕ) (i : Image) → WholeRun bytes schedule i → fits (sizes_read i) (room_of b) ≡ true
    → get_or (answered_after b bytes schedule i).own t no_counts ≡ own_counts t (run schedule (state_of i)).notes
unfolding run_answered own_counts
own_is t b bytes schedule i r f =
    ap (λ (a : Answer Tally). get_or (run_answered a).own t no_counts) (read_then_run b bytes schedule i r.string r.accepted f r.scheduled).ran

-- and the answers have equal counts of the task
pub calls_demand_3_counts : (t : ℕ) (b b' : Buffers) (bytes bytes' schedule schedule' : List ℕ) (i i' : Image)
    → fits (sizes_read i) (room_of b) ≡ true → fits (sizes_read i') (room_of b') ≡ true
    → WholeRun bytes schedule i → WholeRun bytes' schedule' i' → Agreed t schedule schedule' i i'
    → get_or (answered_after b bytes schedule i).own t no_counts ≡ get_or (answered_after b' bytes' schedule' i').own t no_counts
calls_demand_3_counts t b b' bytes bytes' schedule schedule' i i' f f' r r' a =
    own_is t b bytes schedule i r f ∙ demand_3_counts t bytes bytes' schedule schedule' i i' r r' a ∙ sym (own_is t b' bytes' schedule' i' r' f')
