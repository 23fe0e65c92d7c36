-- When two states are the same, when some image reads as a state, and what a lent buffer holds.
use Rattle.std.specs.Prelude.{ℕ, ◌≡◌, Bool, ◌&&◌, List, map, ◌++◌, length, drop, eqb}
use Rattle.window.specs.Memories.{Memory}
use Rattle.step.specs.declared.Queue.{Queue}
use Rattle.step.specs.Queues.{places, queue_count, pt_count}
use Rattle.step.specs.State.{State}
use Rattle.step.specs.Soundness.{every}
use Rattle.image.specs.Codec.{Bytes}
use Rattle.image.specs.Image.{Image, good, state_of, image_of, decode}

-- a state is the fields of its image; storage beyond them isn't compared, nor are the live counts, which the fields give
unfoldable pub SameFields : State → State → Type 0
SameFields s s' = image_of s ≡ image_of s'

-- some accepted image reads as this state
pub record SomeImageReads (s : State) : Type 0 where
  pub bytes : List ℕ
  pub string : Bytes bytes
  pub image : Image
  pub accepted : decode bytes ≡ good image
  pub same : SameFields (state_of image) s

-- as many tags as words
unfoldable pub paired : Memory → Bool
paired m = eqb (length m.tags) (length m.words)

-- the lengths of the arrays, which no image shows: 64 PSWs, 16 queues of 64 places, as many tags as words
unfoldable pub shaped : State → Bool
shaped s =
    (eqb (length s.table.users.psw) pt_count
    && (eqb (length s.table.users.queues) queue_count && every (λ n. eqb n places) (map (λ (q : Queue). length q.pts) s.table.users.queues)))
    && (paired s.constants && (paired s.registers && paired s.data_words))

-- a lent buffer with elements in its first places; beyond them it isn't touched
abbrev pub over : {A : Type 0} → (elements buffer : List A) → List A
over elements buffer = elements ++ drop (length elements) buffer
