-- A call on a state in lent buffers, whatever it does with the state: the first seven rows are all that it sees.
use Rattle.std.specs.Prelude.{◌≤◌, ◌≡◌, take, drop, Option, None, Some}
use Rattle.std.proofs.Math.Path.{refl, ap}
use Rattle.std.proofs.Common.{◌∙◌, arith}
use Rattle.std.proofs.Math.ListN.{length}
use Rattle.std.proofs.Math.Seq.{length-take-le}
use Rattle.refusal.specs.declared.Refusal.{Refusal}
use Rattle.step.specs.State.{State}
use Rattle.library.specs.declared.Sizes.{Sizes}
use Rattle.library.specs.Buffers.{Buffers, fields_in, holding}
use Rattle.library.specs.Calls.{Answer, answers, unless, leaving, state_refusal, or_else}
use Rattle.library.proofs.Laws.Refused.{or_else_none}
use Rattle.hep.specs.Laws.Seven.{behind, seven, whole_again, holding_behind, few_fields, state_seven, state_few}

-- the call's refusals behind 8, what it answers of a state, and the state that it leaves, with as many rows
module _ {A : Type 0} (b : Buffers) (n : Sizes) (o : Option Refusal) (answer : State → A) (after : State → State)
    (keeps : (x : State) → length (after x).rows ≡ length x.rows) where
  abbrev s : Buffers
  s = seven b

  abbrev refusal : Buffers → Option Refusal
  refusal x = or_else (state_refusal n x) o

  abbrev answered : Buffers → Answer A
  answered x = unless (refusal x) (answer (fields_in n x))

  abbrev left : Buffers → Buffers
  left x = leaving (answered x) x (holding (after (fields_in n x)) x)

  same : refusal s ≡ refusal b
  same = ap (λ (x : Option Refusal). or_else x o) (state_seven b n)

  few : refusal s ≡ None → (n.rows ≤ 7) × (n.rows ≤ length (take 7 b.rows))
  few e = state_few b n (or_else_none (state_refusal n s) o e)

  pub answered_seven : answered s ≡ answered b
  unfolding unless
  answered_seven = go (refusal s) refl
    where
      go : (x : Option Refusal) → refusal s ≡ x → answered s ≡ answered b
      go (Some e) q = rw (← same, q)
      go None q = rw (← same, q) (ap (λ (x : State). answers (answer x)) (few_fields b n (few q).0))

  pub left_seven : behind (drop 7 b.rows) (left s) ≡ left b
  unfolding unless leaving fields_in
  left_seven = go (refusal s) refl
    where
      go : (x : Option Refusal) → refusal s ≡ x → behind (drop 7 b.rows) (left s) ≡ left b
      go (Some e) q = rw (← same, q) (whole_again b)
      go None q =
          let f = few q in
          let k : length (after (fields_in n s)).rows ≡ n.rows = keeps (fields_in n s) ∙ length-take-le n.rows (take 7 b.rows) f.1 in
          rw (← same, q)
          (holding_behind b (after (fields_in n s)) (omega (arith, k, f.1)) ∙ ap (λ (x : State). holding (after x) b) (few_fields b n f.0))
