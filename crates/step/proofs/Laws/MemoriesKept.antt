-- Writes of sound cells through a window leave a memory sound, and what is seen through a window is sound.
use Rattle.std.specs.Prelude.{ℕ, ◌≡◌, Bool, cond, length, get_or, set, leb}
use Rattle.std.proofs.Common.{sym, ap, ◌∙◌, eqb-true, eq-eqb, Option, Some, None}
use Rattle.std.proofs.Math.Bool.{true, false}
use mathlib.Core.List.{List, [], ◌∷◌}
use Rattle.window.specs.declared.Window.{Window}
use Rattle.window.specs.declared.Cell.{Cell}
use Rattle.window.specs.Windows.{inside}
use Rattle.window.specs.Memories.{Memory, seen, stored, stored_one, stored_all, written, tag_of, word_of}
use Rattle.window.proofs.Laws.Memories.{length_stored_all}
use Rattle.word.proofs.Laws.Conjunctions.{also, both}
use Rattle.window.specs.Sound.{word_sound}
use Rattle.operation.proofs.Laws.SoundDecisions.{SoundWrite}
use Rattle.step.specs.Soundness.{every, words_sound, memory_sound}
use Rattle.step.proofs.Laws.Every.{every_set, every_get_d}

pub every_seen : (test : ℕ → Bool) (w : Window) (l : List ℕ) (a : ℕ) → test 0 ≡ true → every test l ≡ true → test (seen w l a) ≡ true
unfolding seen
every_seen test w l a z e = go (inside w a)
  where
    go : (b : Bool) → test (cond b (get_or l a 0) 0) ≡ true
    go true = every_get_d test l a z e
    go false = z

-- ---- writes

pub data SoundWrites (tag : ℕ → Bool) : List (Option (ℕ × Cell)) → Type 0 where
  done : SoundWrites tag []
  more : {x : (Option (ℕ × Cell))} {xs : List (Option (ℕ × Cell))} → SoundWrite tag x → SoundWrites tag xs → SoundWrites tag (x ∷ xs)

-- a number that f takes of a cell passes the test, if the cell is sound
module _ (tag test : ℕ → Bool) (f : Cell → ℕ) (passes : (c : Cell) → tag c.tag ≡ true → word_sound c.word ≡ true → test (f c) ≡ true) (w : Window) where
  every_one : (x : Option (ℕ × Cell)) (l : List ℕ) → SoundWrite tag x → every test l ≡ true → every test (stored_one f w x l) ≡ true
  unfolding stored_one stored
  every_one None l s e = e
  every_one (Some (a, c)) l s e = go (inside w a)
    where
      go : (b : Bool) → every test (cond b (set l a (f c)) l) ≡ true
      go true = every_set test l a (f c) (passes c s.0 s.1) e
      go false = e

  every_all : (xs : List (Option (ℕ × Cell))) (l : List ℕ) → SoundWrites tag xs → every test l ≡ true → every test (stored_all f w xs l) ≡ true
  unfolding stored_all
  every_all [] l done e = e
  every_all (x ∷ xs) l (more s ss) e = every_all xs (stored_one f w x l) ss (every_one x l s e)

-- ---- a memory

pub words_parts : (most : ℕ) (l : List ℕ) → words_sound most l ≡ true → (leb (length l) most ≡ true) × (every word_sound l ≡ true)
unfolding words_sound
words_parts most l e = both (λ k. k) (λ k. k) e

pub record SoundMemory (most : ℕ) (tag : ℕ → Bool) (m : Memory) : Type 0 where
  pub even : length m.tags ≡ length m.words
  pub tags : every tag m.tags ≡ true
  pub few : leb (length m.words) most ≡ true
  pub words : every word_sound m.words ≡ true

pub memory_parts : (most : ℕ) (tag : ℕ → Bool) (m : Memory) → memory_sound most tag m ≡ true → SoundMemory most tag m
unfolding memory_sound
memory_parts most tag m e =
    let u = both (eqb-true (length m.tags) (length m.words)) (both (λ k. k) (words_parts most m.words)) e in
    record { even = u.0; tags = u.1.0; few = u.1.1.0; words = u.1.1.1 }

pub written_sound : (most : ℕ) (tag : ℕ → Bool) (w : Window) (xs : List (Option (ℕ × Cell))) (m : Memory) → SoundWrites tag xs
    → memory_sound most tag m ≡ true → memory_sound most tag (written w xs m) ≡ true
unfolding memory_sound words_sound written
written_sound most tag w xs m s e =
    let p = memory_parts most tag m e in
    let n : length (stored_all word_of w xs m.words) ≡ length m.words = length_stored_all word_of w xs m.words in
    also (eq-eqb _ _ (length_stored_all tag_of w xs m.tags ∙ p.even ∙ sym n))
    (also (every_all tag tag tag_of (λ c t k. t) w xs m.tags s p.tags)
    (also (ap (λ (k : ℕ). leb k most) n ∙ p.few) (every_all tag word_sound word_of (λ c t k. k) w xs m.words s p.words)))
