-- Cells outside the windows of a task, in the buffers that a step leaves.
use Rattle.std.specs.Prelude.{ℕ, zero, suc, ◌≤◌, ◌≡◌, true, List, [], ◌∷◌, ◌++◌, length, take, drop}
use Rattle.std.proofs.Math.Path.{refl}
use Rattle.std.proofs.Common.{sym, ap, ◌∙◌, arith, length-take-le, Option, None, Some, slice_get}
use Rattle.refusal.specs.declared.Refusal.{Refusal}
use Rattle.window.specs.Windows.{register_window, data_word_window}
use Rattle.window.specs.Memories.{Memory, memory}
use Rattle.step.specs.State.{State}
use Rattle.step.specs.Step.{item}
use Rattle.step.proofs.Confined.{Outside, SameAt, item_keeps_registers, item_keeps_data}
use Rattle.image.specs.Fields.{over}
use Rattle.library.specs.declared.Sizes.{Sizes}
use Rattle.library.specs.Buffers.{Buffers, room_of, fits, fields_in, holding}
use Rattle.library.specs.Calls.{unless, leaving, step_refusal, step_answer, step_leaves}
use Rattle.library.proofs.Laws.InPlace.{Sized, step_sized}
use Rattle.library.proofs.Laws.Refused.{step_parts}
use Rattle.library.proofs.Laws.Places.{fitting, over_first}

-- two lists of one length that agree at a, with the same behind them
behind_same : (a : ℕ) (xs ys zs : List ℕ) → length xs ≡ length ys → slice_get xs a ≡ slice_get ys a → slice_get (xs ++ zs) a ≡ slice_get (ys ++ zs) a
behind_same a [] [] zs e h = refl
behind_same a [] (y ∷ ys) zs e h = absurd (omega (arith, e))
behind_same a (x ∷ xs) [] zs e h = absurd (omega (arith, e))
behind_same zero (x ∷ xs) (y ∷ ys) zs e h = h
behind_same (suc a) (x ∷ xs) (y ∷ ys) zs e h = behind_same a xs ys zs (omega (arith, e)) h

-- the first k places of a buffer, with others put over them that agree at a
over_same : (k a : ℕ) (l m : List ℕ) → k ≤ length l → length m ≡ k → slice_get m a ≡ slice_get (take k l) a → slice_get (over m l) a ≡ slice_get l a
over_same k a l m h e q =
    let j : length m ≡ length (take k l) = e ∙ sym (length-take-le k l h) in
    behind_same a m (take k l) (drop (length m) l) j q
    ∙ ap (λ (i : ℕ). slice_get (take k l ++ drop i l) a) j ∙ ap (λ (x : List ℕ). slice_get x a) (over_first k l h)

-- two buffers of tags and of words, with the memory of a state that lies in their first places: a cell that the step keeps in the state it keeps there
module _ (n : Sizes) (b : Buffers) (t a size : ℕ) (tags words : Buffers → List ℕ) (part : State → Memory)
    (roomy : fits n (room_of b) ≡ true → (size ≤ length (tags b)) × (size ≤ length (words b)))
    (sized : (s : State) → Sized n s → (length (part s).tags ≡ size) × (length (part s).words ≡ size))
    (held : (s : State) → (tags (holding s b) ≡ over (part s).tags (tags b)) × (words (holding s b) ≡ over (part s).words (words b)))
    (same : SameAt a (part (item t (fields_in n b)).state) (memory (take size (tags b)) (take size (words b)))) where
  abbrev after : State
  after = (item t (fields_in n b)).state

  kept_there : step_refusal n b t ≡ None → SameAt a (memory (tags (holding after b)) (words (holding after b))) (memory (tags b) (words b))
  kept_there q =
      let f = (step_parts n b t q).0 in
      let g = roomy f in
      let z = sized after (step_sized n b t f) in
      record {
        tag = ap (λ (l : List ℕ). slice_get l a) (held after).0 ∙ over_same size a (tags b) (part after).tags g.0 z.0 same.tag;
        word = ap (λ (l : List ℕ). slice_get l a) (held after).1 ∙ over_same size a (words b) (part after).words g.1 z.1 same.word;
      }

  -- where the step is refused nothing changes
  kept : SameAt a (memory (tags (step_leaves n b t)) (words (step_leaves n b t))) (memory (tags b) (words b))
  unfolding step_leaves step_answer unless leaving
  kept = go (step_refusal n b t) refl
    where
      left : Option Refusal → Buffers
      left o = leaving (unless o (item t (fields_in n b)).ending) b (holding after b)

      go : (o : Option Refusal) → step_refusal n b t ≡ o → SameAt a (memory (tags (left o)) (words (left o))) (memory (tags b) (words b))
      go None q = kept_there q
      go (Some e) q = record { tag = refl; word = refl }

pub registers_kept : (n : Sizes) (b : Buffers) (t a : ℕ) → Outside register_window t (fields_in n b) a
    → SameAt a (memory (step_leaves n b t).register_tags (step_leaves n b t).register_words) (memory b.register_tags b.register_words)
unfolding holding fields_in room_of
registers_kept n b t a h =
    kept n b t a n.registers (λ x. x.register_tags) (λ x. x.register_words) (λ s. s.registers)
    (λ f. let g = fitting n (room_of b) f in (g.register_tags, g.register_words)) (λ s z. (z.register_tags, z.register_words)) (λ s. (refl, refl))
    (item_keeps_registers t (fields_in n b) a h)

pub data_kept : (n : Sizes) (b : Buffers) (t a : ℕ) → Outside data_word_window t (fields_in n b) a
    → SameAt a (memory (step_leaves n b t).data_tags (step_leaves n b t).data_words) (memory b.data_tags b.data_words)
unfolding holding fields_in room_of
data_kept n b t a h =
    kept n b t a n.data_words (λ x. x.data_tags) (λ x. x.data_words) (λ s. s.data_words)
    (λ f. let g = fitting n (room_of b) f in (g.data_tags, g.data_words)) (λ s z. (z.data_tags, z.data_words)) (λ s. (refl, refl))
    (item_keeps_data t (fields_in n b) a h)
