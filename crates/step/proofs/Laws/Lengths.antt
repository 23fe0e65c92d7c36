-- No step changes the length of a memory, or how many rows there are.
use Rattle.std.specs.Prelude.{ℕ, suc, ◌≡◌, refl, Bool, true, false, cond, List, [], ◌∷◌, eqb, length}
use Rattle.std.proofs.Common.{ap, ◌∙◌, subst, sym}
use Rattle.window.specs.declared.Row.{Row}
use Rattle.window.specs.Windows.{register_window, data_word_window}
use Rattle.window.specs.Memories.{tag_of, word_of, written}
use Rattle.window.proofs.Laws.Memories.{length_stored_all}
use Rattle.operation.specs.Environment.{Environment}
use Rattle.operation.specs.declared.Decision.{Decision}
use Rattle.step.specs.declared.Attempt.{Attempt}
use Rattle.step.specs.State.{State, put_row}
use Rattle.step.specs.Act.{Stepped, act, change_of, register_writes, data_writes}
use Rattle.step.specs.Step.{attempt_by}
use Rattle.step.proofs.Laws.Step.{idles, acts, attempts}

pub record SameLengths (s s' : State) : Type 0 where
  pub rows : length s.rows ≡ length s'.rows
  pub constant_tags : length s.constants.tags ≡ length s'.constants.tags
  pub constant_words : length s.constants.words ≡ length s'.constants.words
  pub register_tags : length s.registers.tags ≡ length s'.registers.tags
  pub register_words : length s.registers.words ≡ length s'.registers.words
  pub program : length s.program ≡ length s'.program
  pub data_tags : length s.data_words.tags ≡ length s'.data_words.tags
  pub data_words : length s.data_words.words ≡ length s'.data_words.words

pub same_lengths : (s : State) → SameLengths s s
same_lengths s = record { rows = refl; constant_tags = refl; constant_words = refl; register_tags = refl; register_words = refl; program = refl; data_tags = refl; data_words = refl }

pub lengths_join : {a b c : State} → SameLengths a b → SameLengths b c → SameLengths a c
lengths_join p q = record {
  rows = p.rows ∙ q.rows;
  constant_tags = p.constant_tags ∙ q.constant_tags;
  constant_words = p.constant_words ∙ q.constant_words;
  register_tags = p.register_tags ∙ q.register_tags;
  register_words = p.register_words ∙ q.register_words;
  program = p.program ∙ q.program;
  data_tags = p.data_tags ∙ q.data_tags;
  data_words = p.data_words ∙ q.data_words;
}

length_put : (t : ℕ) (x : Row) (rows : List Row) → length (put_row t x rows) ≡ length rows
unfolding put_row
length_put t x [] = refl
length_put t x (r ∷ rs) = go (eqb r.task t) (length_put t x rs)
  where
    go : (b : Bool) → length (put_row t x rs) ≡ length rs → length (cond b (x ∷ rs) (r ∷ put_row t x rs)) ≡ suc (length rs)
    go true e = refl
    go false e = ap suc e

act_lengths : (s : State) (a : Attempt) (r : Row) (d : Decision) → SameLengths (act s a r d).state s
unfolding act written
act_lengths s a r d = record {
  rows = length_put r.task (change_of s.table.users a r d).row s.rows;
  constant_tags = refl;
  constant_words = refl;
  register_tags = length_stored_all tag_of (register_window r) (register_writes d) s.registers.tags;
  register_words = length_stored_all word_of (register_window r) (register_writes d) s.registers.words;
  program = refl;
  data_tags = length_stored_all tag_of (data_word_window r) (data_writes d) s.data_words.tags;
  data_words = length_stored_all word_of (data_word_window r) (data_writes d) s.data_words.words;
}

pub attempt_lengths : (instructions : Environment → Decision) (a : Attempt) (t : ℕ) (s : State) → SameLengths (attempt_by instructions a t s).state s
attempt_lengths instructions a t s =
    elim (attempts instructions a t s) [
      | idles e n ↦ subst (λ (x : Stepped). SameLengths x.state s) (sym e) (same_lengths s)
      | acts r d f q o n e ↦ subst (λ (x : Stepped). SameLengths x.state s) (sym e) (act_lengths s a r d)
    ]
