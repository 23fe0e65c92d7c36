-- Reading accepts only sound states.
use Rattle.std.specs.Prelude.{ℕ, zero, suc, ◌≤◌, ◌≡◌, refl, true, List, map, length}
use Rattle.std.proofs.Common.{sym, ◌∙◌, subst, arith, eq-eqb}
use Rattle.std.proofs.lemmas.List.{length-map}
use Rattle.window.specs.declared.Cell.{Cell}
use Rattle.window.specs.Memories.{tag_of, word_of}
use Rattle.word.proofs.Laws.Conjunctions.{also}
use Rattle.step.specs.Soundness.{every, sound}
use Rattle.step.proofs.Laws.Counted.{made_live}
use Rattle.image.specs.declared.Process.{Process}
use Rattle.image.specs.Codec.{Bytes}
use Rattle.image.specs.Image.{Image, good, pts_of, queue_of, queues_of, memory_of, state_of, decode}
use Rattle.image.proofs.Laws.Accepted.{Accepted, decode_accepted}
use Rattle.image.proofs.Laws.Table.{places_full, length_queue_of, length_pts_of, length_queues_of, length_psw_table}
use Rattle.image.proofs.Laws.Again.{fields_again}
use Rattle.image.proofs.Laws.Fields.{Shape, accepted_sound}

queues_full : (n t : ℕ) (ps : List Process) → length ps ≤ 64 → places_full (queues_of n t ps) ≡ true
unfolding queues_of every
queues_full zero t ps few = refl
queues_full (suc n) t ps few =
    also (eq-eqb (length (queue_of (pts_of t ps)).pts) 64 (length_queue_of (pts_of t ps) (omega (arith, length_pts_of t ps)))) (queues_full n (suc t) ps few)

-- as many tags as words
pairs : (l : List Cell) → length (map tag_of l) ≡ length (map word_of l)
pairs l = length-map l tag_of ∙ sym (length-map l word_of)

state_shape : (i : Image) → length i.processes ≤ 64 → Shape (state_of i)
unfolding state_of memory_of
state_shape i few = record {
  wide = length_psw_table i.processes;
  sixteen = length_queues_of 16 0 i.processes;
  full = queues_full 16 0 i.processes few;
  counted = made_live _ _ _;
  constants = pairs i.constants;
  registers = pairs i.registers;
  data_words = pairs i.data_words;
}

pub decode_sound : (b : List ℕ) → Bytes b → (i : Image) → decode b ≡ good i → sound (state_of i) ≡ true
decode_sound b hb i h =
    let a = (decode_accepted b hb i h).0 in
    accepted_sound (state_of i) (state_shape i a.fields.processes.few) (subst Accepted (sym (fields_again i a)) a)
