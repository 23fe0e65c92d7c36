-- The calls one after another: read, then run; read, then written; run, then written; one item, then the others.
use Rattle.std.specs.Prelude.{ℕ, ◌≤◌, ◌≡◌, true, List, ◌∷◌, length, take, drop}
use Rattle.std.proofs.Common.{sym, ap, ◌∙◌, subst, None}
use Rattle.std.proofs.Math.Seq.{take-append_seam}
use Rattle.step.specs.State.{State}
use Rattle.step.specs.Step.{account_of, item}
use Rattle.step.specs.Soundness.{sound}
use Rattle.run.specs.Schedule.{schedule_sound}
use Rattle.run.specs.Run.{Tally, tallied, run}
use Rattle.image.specs.Codec.{Bytes}
use Rattle.image.specs.Image.{Image, state_of, image_of, good, decode, encode}
use Rattle.image.specs.Fields.{SameFields, over}
use Rattle.image.proofs.RoundTrips.{encode_bytes, written_then_read, read_back}
use Rattle.library.specs.declared.Sizes.{Sizes}
use Rattle.library.specs.Buffers.{Buffers, room_of, fits, sizes_of, fields_in}
use Rattle.library.specs.Calls.{answers, read_answer, read_leaves, run_refusal, run_answer, run_leaves, step_answer, step_leaves, write_answer, write_leaves}
use Rattle.library.proofs.Laws.InTurn.{read_answers, read_run_unrefused, read_run_answers, read_run_held, read_write_answers, read_write_leaves, run_sound_after, run_write_answers, run_write_leaves}
use Rattle.library.proofs.Laws.StepThenRun.{step_answers, others_answer, all_answers, all_left}

-- the sizes that reading answers
abbrev pub sizes_read : Image → Sizes
sizes_read i = sizes_of (state_of i)

-- the buffers after an image was read into them and a schedule run over it, by the sizes that reading answered
abbrev pub read_and_run : Buffers → (bytes schedule : List ℕ) → Image → Buffers
read_and_run b bytes schedule i = run_leaves (sizes_read i) (read_leaves b bytes) schedule

-- neither call is refused, and the buffers then hold the state after the run
pub record ReadThenRun (b : Buffers) (bytes schedule : List ℕ) (i : Image) : Type 0 where
  pub read : read_answer (room_of b) bytes ≡ answers (sizes_read i)
  pub unrefused : run_refusal (sizes_read i) (read_leaves b bytes) schedule ≡ None
  pub ran : run_answer (sizes_read i) (read_leaves b bytes) schedule ≡ answers (run schedule (state_of i)).notes
  pub held : fields_in (sizes_read i) (read_and_run b bytes schedule i) ≡ (run schedule (state_of i)).state

-- an accepted image, enough room, an accepted schedule
pub read_then_run : (b : Buffers) (bytes schedule : List ℕ) (i : Image) → Bytes bytes → decode bytes ≡ good i
    → fits (sizes_read i) (room_of b) ≡ true → schedule_sound schedule ≡ true → ReadThenRun b bytes schedule i
read_then_run b bytes schedule i hb d f ok = record {
  read = read_answers (room_of b) bytes i d f;
  unrefused = read_run_unrefused b bytes i hb d f schedule ok;
  ran = read_run_answers b bytes i hb d f schedule ok;
  held = read_run_held b bytes i hb d f schedule ok;
}

-- read, then written: the output holds the image's bytes, and beyond them it isn't touched
pub record ReadThenWrite (b : Buffers) (bytes output : List ℕ) (i : Image) : Type 0 where
  pub answer : write_answer (sizes_read i) (read_leaves b bytes) (length output) ≡ answers (length bytes)
  pub leaves : write_leaves (sizes_read i) (read_leaves b bytes) output ≡ over bytes output

pub read_then_write : (b : Buffers) (bytes output : List ℕ) (i : Image) → Bytes bytes → decode bytes ≡ good i
    → fits (sizes_read i) (room_of b) ≡ true → length bytes ≤ length output → ReadThenWrite b bytes output i
read_then_write b bytes output i hb d f h = record {
  answer = read_write_answers b bytes i hb d f output h;
  leaves = read_write_leaves b bytes i hb d f output h;
}

-- the first k bytes of an output are an accepted image that reads as the state s
pub record HoldsImage (s : State) (k : ℕ) (output : List ℕ) : Type 0 where
  pub string : Bytes (take k output)
  pub accepted : decode (take k output) ≡ good (image_of s)
  pub same : SameFields (state_of (image_of s)) s

-- the image of a sound state in an output, as writing and hep_c's `hep_run` leave it
pub holds_image : (s : State) (output : List ℕ) → sound s ≡ true → HoldsImage s (length (encode s)) (over (encode s) output)
holds_image s output e =
    let first : take (length (encode s)) (over (encode s) output) ≡ encode s = take-append_seam (encode s) (drop (length (encode s)) output) in
    record {
      string = subst Bytes (sym first) (encode_bytes s);
      accepted = ap decode first ∙ written_then_read s e;
      same = read_back s e;
    }

-- run, then written: what is written is accepted and reads as the state after the run
pub record RunThenWrite (n : Sizes) (b : Buffers) (schedule output : List ℕ) (after : State) : Type 0 where
  pub answer : write_answer n (run_leaves n b schedule) (length output) ≡ answers (length (encode after))
  pub holds : HoldsImage after (length (encode after)) (write_leaves n (run_leaves n b schedule) output)

pub run_then_write : (n : Sizes) (b : Buffers) (schedule output : List ℕ) → run_refusal n b schedule ≡ None
    → length (encode (run schedule (fields_in n b)).state) ≤ length output
    → RunThenWrite n b schedule output (run schedule (fields_in n b)).state
run_then_write n b schedule output e h =
    let after : State = (run schedule (fields_in n b)).state in
    record {
      answer = run_write_answers n b schedule e output h;
      holds =
          subst (HoldsImage after (length (encode after))) (sym (run_write_leaves n b schedule e output h)) (holds_image after output (run_sound_after n b schedule e));
    }

-- one item, then the others, is a run of all: neither call is refused, what the item did is counted with the others, and the buffers are left the
-- same
pub record StepThenRun (n : Sizes) (b : Buffers) (t : ℕ) (ts : List ℕ) : Type 0 where
  pub others : Tally
  pub stepped : step_answer n b t ≡ answers (item t (fields_in n b)).ending
  pub ran : run_answer n (step_leaves n b t) ts ≡ answers others
  pub answer : run_answer n b (t ∷ ts) ≡ answers (tallied t (account_of (item t (fields_in n b))) others)
  pub leaves : run_leaves n (step_leaves n b t) ts ≡ run_leaves n b (t ∷ ts)

pub step_then_run : (n : Sizes) (b : Buffers) (t : ℕ) (ts : List ℕ) → run_refusal n b (t ∷ ts) ≡ None → StepThenRun n b t ts
step_then_run n b t ts e = record {
  others = (run ts (item t (fields_in n b)).state).notes;
  stepped = step_answers n b t ts e;
  ran = others_answer n b t ts e;
  answer = all_answers n b t ts e;
  leaves = all_left n b t ts e;
}
