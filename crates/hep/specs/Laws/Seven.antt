-- The calls look at seven rows at most: what they promise of the first seven they promise of the whole slice.
use Rattle.std.specs.Prelude.{ℕ, min, ◌+◌, ◌≤◌, ◌<◌, Bool, not, ◌&&◌, take, None, Some}
use Rattle.std.proofs.Math.Path.{◌≡◌, refl, ap}
use Rattle.std.proofs.Common.{sym, ◌∙◌, arith, take-append-drop, take-take}
use Rattle.std.proofs.Math.Bool.{true, false, cond}
use mathlib.Core.List.{List, [], ◌∷◌, ◌++◌, append_assoc}
use Rattle.std.proofs.Math.Dec.{leb}
use Rattle.std.proofs.Math.ListN.{length, drop, length-take}
use Rattle.std.proofs.Math.Seq.{length-take-le}
use Rattle.std.proofs.lemmas.List.{drop-append-le}
use borrow.Author.Tests.{ltb-true, leb-true, leb-false, le-leb, lt-leb}
use Rattle.word.proofs.Laws.Conjunctions.{both}
use Rattle.refusal.specs.declared.Refusal.TheVariants.{UnsoundState}
use Rattle.window.specs.declared.Row.{Row}
use Rattle.step.specs.State.{State}
use Rattle.step.specs.Soundness.{task_sound, row_sound, rows_sound, sound}
use Rattle.step.proofs.Laws.Sound.{sound_parts}
use Rattle.image.specs.Fields.{over}
use Rattle.library.specs.declared.Sizes.{Sizes}
use Rattle.library.specs.Buffers.{Buffers, room_of, fits, fields_in, holding}
use Rattle.library.specs.Calls.{state_refused, state_refusal}
use Rattle.library.specs.Held.{lent_buffers}
use Rattle.library.proofs.Laws.Places.{fitting}

-- rows in ascending number, 1 to 7, are at most 7
rows_few : (before : ℕ) (rows : List Row) → before ≤ 7 → rows_sound before rows ≡ true → before + length rows ≤ 7
unfolding rows_sound row_sound task_sound
rows_few before [] h e = omega arith
rows_few before (r ∷ rows) h e =
    let u = both (both (both (ltb-true before r.task) (leb-true r.task 7)) (λ k. k)) (λ k. k) e in
    let k = rows_few r.task rows u.0.0.1 u.1 in
    omega (arith, u.0.0.0, k)

-- a sound state has at most seven rows
pub sound_few : (s : State) → sound s ≡ true → length s.rows ≤ 7
sound_few s e = omega (arith, rows_few 0 s.rows (omega arith) (sound_parts s e).rows)

-- where a state is refused
refused_where : (n : Sizes) (b : Buffers) → state_refusal n b ≡ cond (fits n (room_of b) && sound (fields_in n b)) None (Some UnsoundState)
unfolding state_refusal state_refused
refused_where n b = go (fits n (room_of b)) (sound (fields_in n b))
  where
    go : (t u : Bool) → cond (not (t && u)) (Some UnsoundState) None ≡ cond (t && u) None (Some UnsoundState)
    go false u = refl
    go true false = refl
    go true true = refl

-- the buffers with other rows
abbrev pub with_rows : List Row → Buffers → Buffers
with_rows rows b = lent_buffers rows b.table b.constant_tags b.constant_words b.register_tags b.register_words b.program b.data_tags b.data_words

-- with further rows behind
abbrev pub behind : List Row → Buffers → Buffers
behind rows b = with_rows (b.rows ++ rows) b

module _ (b : Buffers) where
  -- with their first seven rows alone
  abbrev pub seven : Buffers
  seven = with_rows (take 7 b.rows) b

  pub whole_again : behind (drop 7 b.rows) seven ≡ b
  whole_again = ap (λ (rows : List Row). with_rows rows b) (take-append-drop 7 b.rows)

  -- a state that is put into them
  pub holding_behind : (s : State) → length s.rows ≤ length (take 7 b.rows) → behind (drop 7 b.rows) (holding s seven) ≡ holding s b
  unfolding holding
  holding_behind s h =
      let e : over s.rows (take 7 b.rows) ++ drop 7 b.rows ≡ over s.rows b.rows =
      append_assoc s.rows (drop (length s.rows) (take 7 b.rows)) (drop 7 b.rows)
      ∙ ap (λ (l : List Row). s.rows ++ l) (sym (drop-append-le (length s.rows) (take 7 b.rows) (drop 7 b.rows) h) ∙ ap (drop (length s.rows)) (take-append-drop 7 b.rows)) in
      rw e

  -- counts of at most seven rows
  module _ (n : Sizes) (few : n.rows ≤ 7) where
    pub few_fits : fits n (room_of seven) ≡ fits n (room_of b)
    unfolding fits room_of
    few_fits = rw (length-take 7 b.rows, row_fits)
      where
        row_fits : leb n.rows (min 7 (length b.rows)) ≡ leb n.rows (length b.rows)
        row_fits = go (leb n.rows (length b.rows)) refl
          where
            go : (t : Bool) → leb n.rows (length b.rows) ≡ t → leb n.rows (min 7 (length b.rows)) ≡ t
            go true e = le-leb n.rows (min 7 (length b.rows)) (omega (arith, few, leb-true n.rows (length b.rows) e))
            go false e = lt-leb n.rows (min 7 (length b.rows)) (omega (arith, few, leb-false n.rows (length b.rows) e))

    pub few_fields : fields_in n seven ≡ fields_in n b
    unfolding fields_in
    few_fields = rw (take-take n.rows 7 b.rows few)

    few_state : state_refusal n seven ≡ state_refusal n b
    few_state = refused_where n seven ∙ rw (few_fits, few_fields) (sym (refused_where n b))

  -- counts of more rows: 8
  module _ (n : Sizes) (many : 7 < n.rows) where
    many_unfit : fits n (room_of seven) ≡ false
    unfolding fits room_of
    many_unfit = rw (length-take 7 b.rows, lt-leb n.rows (min 7 (length b.rows)) (omega (arith, many)))

    many_seven : state_refusal n seven ≡ Some UnsoundState
    many_seven = refused_where n seven ∙ rw many_unfit refl

    many_whole : state_refusal n b ≡ Some UnsoundState
    unfolding room_of fields_in
    many_whole = refused_where n b ∙ go (fits n (room_of b)) (sound (fields_in n b)) refl refl
      where
        go : (t u : Bool) → fits n (room_of b) ≡ t → sound (fields_in n b) ≡ u → cond (t && u) None (Some UnsoundState) ≡ Some UnsoundState
        go false u e f = refl
        go true false e f = refl
        go true true e f =
            let h = (fitting n (room_of b) e).rows in
            let k = sound_few (fields_in n b) f in
            absurd (omega (arith, many, h, k, length-take-le n.rows b.rows h))

  pub state_seven : (n : Sizes) → state_refusal n seven ≡ state_refusal n b
  state_seven n = go (leb n.rows 7) refl
    where
      go : (t : Bool) → leb n.rows 7 ≡ t → state_refusal n seven ≡ state_refusal n b
      go true e = few_state n (leb-true n.rows 7 e)
      go false e = many_seven n (leb-false n.rows 7 e) ∙ sym (many_whole n (leb-false n.rows 7 e))

  -- a state that isn't refused: its counts fit, its rows are at most seven
  pub state_few : (n : Sizes) → state_refusal n seven ≡ None → (n.rows ≤ 7) × (n.rows ≤ length (take 7 b.rows))
  unfolding room_of
  state_few n e = go (fits n (room_of seven)) refl (sym (refused_where n seven) ∙ e)
    where
      go : (t : Bool) → fits n (room_of seven) ≡ t → cond (t && sound (fields_in n seven)) None (Some UnsoundState) ≡ None → (n.rows ≤ 7) × (n.rows ≤ length (take 7 b.rows))
      go false q h = let z : ◌≡◌ {A = ℕ} 0 1 = cc in absurd (omega arith)
      go true q h = let f = (fitting n (room_of seven) q).rows in (omega (arith, f, length-take 7 b.rows), f)
