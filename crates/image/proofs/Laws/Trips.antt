-- Both ways between a sound state and an image that reads as it.
use Rattle.std.specs.Prelude.{◌≡◌, true, List, ℕ, length}
use Rattle.std.proofs.Common.{sym, ap, ◌∙◌, subst, eqb-true, eq-eqb}
use Rattle.word.proofs.Laws.Conjunctions.{also, both}
use Rattle.step.specs.State.{State}
use Rattle.step.specs.Soundness.{live_sound, sound}
use Rattle.image.specs.Codec.{Bytes}
use Rattle.image.specs.Image.{Image, good, state_of, image_of, image_codec, decode, encode}
use Rattle.image.specs.Fields.{SameFields, SomeImageReads, paired, shaped}
use Rattle.image.proofs.Laws.Formats.{image_lawful}
use Rattle.image.proofs.Laws.Accepted.{Accepted, decode_accepted, accepted_decode}
use Rattle.image.proofs.Laws.Again.{fields_again}
use Rattle.image.proofs.Laws.Fields.{Shape, sound_accepted, accepted_sound}

pub written_again : (b : List ℕ) → Bytes b → (i : Image) → decode b ≡ good i → encode (state_of i) ≡ b
unfolding encode
written_again b hb i h = let u = decode_accepted b hb i h in ap image_codec.enc (fields_again i u.0) ∙ u.1

pub written_bytes : (s : State) → Bytes (encode s)
unfolding encode
written_bytes s = image_lawful.bytes (image_of s)

pub read_again : (s : State) → sound s ≡ true → decode (encode s) ≡ good (image_of s)
unfolding encode
read_again s e = accepted_decode (image_of s) (sound_accepted s e)

pub same_again : (s : State) → sound s ≡ true → SameFields (state_of (image_of s)) s
unfolding SameFields
same_again s e = fields_again (image_of s) (sound_accepted s e)

pub shape_shaped : (s : State) → Shape s → shaped s ≡ true
unfolding shaped paired
shape_shaped s h =
    also (also (eq-eqb (length s.table.users.psw) 64 h.wide) (also (eq-eqb (length s.table.users.queues) 16 h.sixteen) h.full))
    (also (eq-eqb (length s.constants.tags) (length s.constants.words) h.constants)
    (also (eq-eqb (length s.registers.tags) (length s.registers.words) h.registers)
    (eq-eqb (length s.data_words.tags) (length s.data_words.words) h.data_words)))

shaped_shape : (s : State) → shaped s ≡ true → live_sound s.table.users ≡ true → Shape s
unfolding shaped paired
shaped_shape s e c =
    let u =
    both (both (eqb-true (length s.table.users.psw) 64) (both (eqb-true (length s.table.users.queues) 16) (λ k. k)))
    (both (eqb-true (length s.constants.tags) (length s.constants.words))
    (both (eqb-true (length s.registers.tags) (length s.registers.words)) (eqb-true (length s.data_words.tags) (length s.data_words.words)))) e in
    record { wide = u.0.0; sixteen = u.0.1.0; full = u.0.1.1; counted = c; constants = u.1.0; registers = u.1.1.0; data_words = u.1.1.1 }

pub image_of_sound : (s : State) → sound s ≡ true → SomeImageReads s
image_of_sound s e = record { bytes = encode s; string = written_bytes s; image = image_of s; accepted = read_again s e; same = same_again s e }

pub sound_of_image : (s : State) → shaped s ≡ true → live_sound s.table.users ≡ true → SomeImageReads s → sound s ≡ true
unfolding SameFields
sound_of_image s h c r =
    let a = (decode_accepted r.bytes r.string r.image r.accepted).0 in
    accepted_sound s (shaped_shape s h c) (subst Accepted (sym (fields_again r.image a) ∙ r.same) a)
