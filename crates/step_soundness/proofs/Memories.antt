-- The memories: lengths and tags decide, since the elements of a slice of words are words.
use Prim.Native.Nat.{ℕ, suc, ◌≤◌, ◌<◌, ◌^◌}
use mathlib.Core.Path.{◌≡◌, refl, sym}
use mathlib.Core.Bool.{Bool, true, false, ◌&&◌}
use mathlib.Core.List.{List, [], ◌∷◌}
use lib.ListN.{length, get_or}
use borrow.Author.Tests.{eq-eqb, ne_eqb, le-leb, lt-leb}
use Rattle.word.proofs.Laws.Conjunctions.{also}
use Rattle.window.specs.Memories.{Memory}
use Rattle.window.specs.Sound.{word_sound}
use Rattle.window.proofs.Laws.Sound.{word_sound_lem}
use Rattle.step.specs.Soundness.{every, words_sound, memory_sound}
use Rattle.image.proofs.Laws.Conjoined.{and_true}

and_false : (b : Bool) → (b && false) ≡ false
and_false true = refl
and_false false = refl

words_of : (l : List ℕ) → ((i : ℕ) → get_or l i 0 < 2 ^ 64) → every word_sound l ≡ true
unfolding every
words_of [] h = refl
words_of (x ∷ l) h = also (word_sound_lem x (h 0)) (words_of l (λ i. h (suc i)))

module _ (most : ℕ) (l : List ℕ) where
  pub words_long : most < length l → words_sound most l ≡ false
  unfolding words_sound
  words_long h = rw (lt-leb (length l) most h)

  pub words_few : length l ≤ most → ((i : ℕ) → get_or l i 0 < 2 ^ 64) → words_sound most l ≡ true
  unfolding words_sound
  words_few h f = also (le-leb (length l) most h) (words_of l f)

module _ (most : ℕ) (tag : ℕ → Bool) (m : Memory) where
  pub unequal : (length m.tags ≡ length m.words → ⊥) → false ≡ memory_sound most tag m
  unfolding memory_sound
  unequal h = rw (ne_eqb (length m.tags) (length m.words) h)

  pub too_long : length m.tags ≡ length m.words → most < length m.words → false ≡ memory_sound most tag m
  unfolding memory_sound
  too_long e h = rw (eq-eqb (length m.tags) (length m.words) e, words_long most m.words h) (sym (and_false (every tag m.tags)))

  pub tags_decide : length m.tags ≡ length m.words → length m.words ≤ most → ((i : ℕ) → get_or m.words i 0 < 2 ^ 64)
      → every tag m.tags ≡ memory_sound most tag m
  unfolding memory_sound
  tags_decide e h f = rw (eq-eqb (length m.tags) (length m.words) e, words_few most m.words h f) (sym (and_true (every tag m.tags)))
