-- The number in a promise follows from its answer: a promise is made of the answer and of what is left.
use Rattle.std.specs.Prelude.{ℕ, ◌≡◌, refl, List, length}
use Rattle.std.proofs.Common.{ap, ◌∙◌, Result}
use Rattle.step.specs.declared.Ending.{Ending}
use Rattle.run.specs.Run.{Tally}
use Rattle.library.specs.declared.Sizes.{Sizes}
use Rattle.library.specs.declared.RunResult.{RunResult}
use Rattle.library.specs.Buffers.{Buffers, room_of}
use Rattle.library.specs.Calls.{Answer, refuses, answers, read_answer, read_leaves, run_answer, run_leaves, step_answer, step_leaves, write_answer, write_leaves}
use Rattle.library.specs.Numbers.{number_answered}
use Rattle.library.specs.Promises.{read_answered, read_number, ReadPromise, run_answered, run_number, RunPromise, step_answered, step_number, StepPromise, write_answered, write_number, WritePromise}
use Rattle.refusal.specs.declared.Refusal.{Refusal}

read_number_lem : (a : Answer Sizes) → read_number (read_answered a) ≡ number_answered a
unfolding read_number read_answered number_answered
read_number_lem (refuses e) = refl
read_number_lem (answers n) = refl

run_number_lem : (a : Answer Tally) → run_number (run_answered a).answer ≡ number_answered a
unfolding run_number run_answered number_answered
run_number_lem (refuses e) = refl
run_number_lem (answers c) = refl

step_number_lem : (a : Answer Ending) → step_number (step_answered a) ≡ number_answered a
unfolding step_number step_answered number_answered
step_number_lem (refuses e) = refl
step_number_lem (answers x) = refl

write_number_lem : (a : Answer ℕ) → write_number (write_answered a) ≡ number_answered a
unfolding write_number write_answered number_answered
write_number_lem (refuses e) = refl
write_number_lem (answers k) = refl

pub read_promise : {b : Buffers} {bytes : List ℕ} {r : Result Sizes Refusal} {b' : Buffers}
    → r ≡ read_answered (read_answer (room_of b) bytes) → b' ≡ read_leaves b bytes → ReadPromise b bytes r b'
read_promise {b} {bytes} e k = record { answer = e; number = ap read_number e ∙ read_number_lem (read_answer (room_of b) bytes); leaves = k }

pub run_promise : {n : Sizes} {b : Buffers} {l : List ℕ} {r : RunResult} {b' : Buffers}
    → r ≡ run_answered (run_answer n b l) → b' ≡ run_leaves n b l → RunPromise n b l r b'
run_promise {n} {b} {l} e k = record { answer = e; number = ap (λ (x : RunResult). run_number x.answer) e ∙ run_number_lem (run_answer n b l); leaves = k }

pub step_promise : {n : Sizes} {b : Buffers} {t : ℕ} {r : Result Ending Refusal} {b' : Buffers}
    → r ≡ step_answered (step_answer n b t) → b' ≡ step_leaves n b t → StepPromise n b t r b'
step_promise {n} {b} {t} e k = record { answer = e; number = ap step_number e ∙ step_number_lem (step_answer n b t); leaves = k }

pub write_promise : {n : Sizes} {b : Buffers} {r : Result ℕ Refusal} {out out' : List ℕ}
    → r ≡ write_answered (write_answer n b (length out)) → out' ≡ write_leaves n b out → WritePromise n b r out out'
write_promise {n} {b} {r} {out} e k = record { answer = e; number = ap write_number e ∙ write_number_lem (write_answer n b (length out)); leaves = k }
