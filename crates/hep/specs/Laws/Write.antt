-- Writing: of the rows that were loaded, and so of the lent slice.
use Rattle.std.specs.Prelude.{ℕ, ◌≡◌, refl, List, length, Option, None, Some, Result}
use Rattle.std.proofs.Common.{ap, ◌∙◌}
use Rattle.refusal.specs.declared.Refusal.{Refusal}
use Rattle.library.specs.declared.Rows.{Rows}
use Rattle.library.specs.declared.Sizes.{Sizes}
use Rattle.library.specs.Buffers.{Buffers}
use Rattle.library.specs.Calls.{unless, leaving, state_refusal, or_else, write_refusal, write_answer, write_leaves}
use Rattle.library.specs.Code.HeldRows.{held_rows}
use Rattle.library.specs.Promises.{write_answered, WritePromise}
use Rattle.library.proofs.Laws.Numbers.{write_promise}
use Rattle.hep.specs.Code.Rows.{loaded_rows}
use Rattle.hep.specs.Laws.Seven.{with_rows, seven, few_fields, state_seven, state_few}
use Rattle.hep.specs.Laws.Lent.{first_seven}

module _ (b : Buffers) where
  abbrev s : Buffers
  s = seven b

  module _ (n : Sizes) (out : List ℕ) where
    write_both : (o : Option Refusal) → state_refusal n s ≡ o
        → (write_answer n s (length out) ≡ write_answer n b (length out)) × (write_leaves n s out ≡ write_leaves n b out)
    unfolding write_leaves write_answer write_refusal or_else unless leaving
    write_both (Some e) q = let k = state_seven b n in rw (← k, q) (refl, refl)
    write_both None q =
        let k = state_seven b n in
        let f = few_fields b n (state_few b n q).0 in
        rw (← k, q, f) (refl, refl)

    write_seven : (r : Result ℕ Refusal) (after : List ℕ) → WritePromise n s r out after → WritePromise n b r out after
    write_seven r after p =
        let e = write_both (state_refusal n s) refl in
        write_promise (p.answer ∙ ap write_answered e.0) (p.leaves ∙ e.1)

    pub write_lent : (r : Result ℕ Refusal) (v : Rows) (after : List ℕ) → v ≡ loaded_rows b.rows → WritePromise n (with_rows (held_rows v) b) r out after → WritePromise n b r out after
    write_lent r v after e p = write_seven r after (first_seven b (λ x y. WritePromise n x r out after) v e b p)
