-- Reading: of the rows that were loaded and stored, and so of the lent slice.
use Rattle.std.specs.Prelude.{ℕ, ◌≡◌, Bool, List, drop, Result}
use Rattle.std.proofs.Math.Path.{refl, ap}
use Rattle.std.proofs.Common.{◌∙◌}
use Rattle.std.proofs.Math.Bool.{true, false}
use Rattle.window.specs.declared.Row.{Row}
use Rattle.image.specs.Image.{Decoded, bad, good, state_of, decode}
use Rattle.library.specs.declared.Sizes.{Sizes}
use Rattle.library.specs.declared.Rows.{Rows}
use Rattle.library.specs.Buffers.{Buffers, room_of, fits, sizes_of}
use Rattle.library.specs.Calls.{unless, leaving, decoded_refusal, decoded_answer, read_answer, decoded_leaves, read_leaves}
use Rattle.library.specs.Code.HeldRows.{held_rows, SamePlaces}
use Rattle.library.specs.Promises.{read_answered, ReadPromise}
use Rattle.library.proofs.Laws.Places.{fitting}
use Rattle.library.proofs.Laws.Numbers.{read_promise}
use Rattle.image_read.specs.Laws.Few.{few_rows}
use Rattle.hep.specs.Code.Rows.{loaded_rows, stored_rows}
use Rattle.hep.specs.Laws.Seven.{with_rows, behind, seven, whole_again, holding_behind, few_fits}
use Rattle.hep.specs.Laws.Lent.{first_seven, stored_back}
use Rattle.refusal.specs.declared.Refusal.{Refusal}

module _ (b : Buffers) where
  abbrev s : Buffers
  s = seven b

  abbrev rest : List Row
  rest = drop 7 b.rows

  module _ (bytes : List ℕ) where
    abbrev Same : Decoded → Type 0
    Same d = (decoded_answer (room_of s) d ≡ decoded_answer (room_of b) d) × (behind rest (decoded_leaves s d) ≡ decoded_leaves b d)

    read_both : (d : Decoded) → decode bytes ≡ d → Same d
    unfolding decoded_answer decoded_refusal decoded_leaves unless leaving sizes_of state_of room_of
    read_both (bad e) q = (refl, whole_again b)
    read_both (good i) q =
        let few = few_rows bytes i q in
        let f = few_fits b (sizes_of (state_of i)) few in
        go (fits (sizes_of (state_of i)) (room_of s)) refl f
      where
        go : (t : Bool) → fits (sizes_of (state_of i)) (room_of s) ≡ t → fits (sizes_of (state_of i)) (room_of s) ≡ fits (sizes_of (state_of i)) (room_of b) → Same (good i)
        go true e f =
            let h = (fitting (sizes_of (state_of i)) (room_of s) e).rows in
            rw (← f, e) (refl, holding_behind b (state_of i) h)
        go false e f = rw (← f, e) (refl, whole_again b)

    read_seven : (r : Result Sizes Refusal) (a : Buffers) → ReadPromise s bytes r a → ReadPromise b bytes r (behind rest a)
    unfolding read_answer read_leaves
    read_seven r a p =
        let k = read_both (decode bytes) refl in
        read_promise (p.answer ∙ ap read_answered k.0) (ap (behind rest) p.leaves ∙ k.1)

    pub read_lent : (r : Result Sizes Refusal) (v v' : Rows) (rows' : List Row) (a : Buffers) → v ≡ loaded_rows b.rows
        → ReadPromise (with_rows (held_rows v) b) bytes r (with_rows (held_rows v') a) × SamePlaces v v' → rows' ≡ stored_rows b.rows v' → ReadPromise b bytes r (with_rows rows' a)
    read_lent r v v' rows' a e p q =
        stored_back b (λ x y. ReadPromise x bytes r y) v e v' rows' a p.1 q
        (read_seven r (with_rows (held_rows v') a) (first_seven b (λ x y. ReadPromise x bytes r y) v e (with_rows (held_rows v') a) p.0))
