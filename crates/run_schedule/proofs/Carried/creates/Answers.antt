use native.Mathlib.Omega.{arith}
use mathlib.Core.Path.{refl, sym, ap, ◌∙◌}
use Prim.Native.Nat.{ℕ, ◌-◌, ◌^◌}
use lib.ListN.{get_or, set}
use Rattle.run_rings.specs.Laws.Rings.{joined_in}
use Rattle.run_next.specs.Laws.Settled.{makes_faults, makes_goes}
use Rattle.run_schedule.proofs.Carried.creates.Goals as goal

pub returns-then-not-below : goal.returns-then-not-below
returns-then-not-below c =
    let s = c.args.self.now in (
      ap (λ (w : ℕ). s.free - w) (c.alone_free.ensures ∙ ap (λ (w : ℕ). 2 ^ w) c.lowest-p.ensures),
      refl,
      ap (λ (w : ℕ). set s.psws w (get_or s.psws 64 0)) c.lowest-p.ensures,
      record { kinds = refl; stored = refl; tally = refl },
      makes_faults _ _ _ _ _ _ _ _ _ _ _ _ _ (sym c.below_total-below.ensures ∙ c.if-not-below.true) c.lowest-p.ensures (joined_in _ _ _ _ _ _ _ _ (omega (arith, c.requires.0.small)) c.join.ensures) refl,
    )

pub returns : goal.returns
returns c =
    let s = c.args.self.now in (
      ap (λ (w : ℕ). s.free - w) (c.alone_free.ensures ∙ ap (λ (w : ℕ). 2 ^ w) c.lowest-p.ensures),
      refl,
      ap (λ (w : ℕ). set s.psws w (get_or s.psws 64 0)) c.lowest-p.ensures,
      record { kinds = refl; stored = refl; tally = refl },
      makes_goes _ _ _ _ _ _ _ _ _ _ _ _ _ _ (sym c.below_total-below.ensures ∙ c.if-not-below.false) c.lowest-p.ensures c.joins.ensures.0 c.joins.ensures.1,
    )
