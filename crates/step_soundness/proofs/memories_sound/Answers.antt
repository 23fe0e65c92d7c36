use Prim.Native.Nat.{◌^◌}
use mathlib.Core.Path.{sym, ◌∙◌}
use Rattle.image_bytes.specs.Code.Scanning.{tag_test}
use Rattle.step.specs.Soundness.{memories_sound}
use Rattle.step_soundness.specs.Code.Held.{state_in}
use Rattle.step_soundness.proofs.Memories.{words_long, words_few}
use Rattle.step_soundness.proofs.memories_sound.Goals as goal

pub returns-then-not-memory_sound : goal.returns-then-not-memory_sound
unfolding memories_sound state_in tag_test
returns-then-not-memory_sound c = λ all k t. simp (sym c.memory_sound.ensures ∙ c.if-not-memory_sound.true)

pub returns-then-not-memory_sound-2 : goal.returns-then-not-memory_sound-2
unfolding memories_sound state_in tag_test
returns-then-not-memory_sound-2 c = λ all k t. simp (sym c.memory_sound.ensures ∙ c.if-not-memory_sound.false, sym c.memory_sound-2.ensures ∙ c.if-not-memory_sound-2.true)

pub returns-then-program-gt-MOST_PROGRAM : goal.returns-then-program-gt-MOST_PROGRAM
unfolding memories_sound state_in tag_test
returns-then-program-gt-MOST_PROGRAM c = λ all k t. simp (sym c.memory_sound.ensures ∙ c.if-not-memory_sound.false, sym c.memory_sound-2.ensures ∙ c.if-not-memory_sound-2.false, words_long (2 ^ 20) c.args.program.now c.if-program-gt-MOST_PROGRAM.true)

pub returns : goal.returns
unfolding memories_sound state_in tag_test
returns c = λ all k t. simp (sym c.memory_sound.ensures ∙ c.if-not-memory_sound.false, sym c.memory_sound-2.ensures ∙ c.if-not-memory_sound-2.false, words_few (2 ^ 20) c.args.program.now c.if-program-gt-MOST_PROGRAM.false (λ i. (c.type_inv.program i).fits), ← c.memory_sound-3.ensures)
