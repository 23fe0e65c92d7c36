-- Tables whose live counts are those of their queues: what the test of them says, and that every act leaves such a table.
use Rattle.std.specs.Prelude.{◌≡◌, refl, true, List, [], ◌∷◌, ℕ}
use Rattle.std.proofs.Common.{ap₂, eqb-true, eq-eqb}
use Rattle.std.proofs.lemmas.Bool.{false≢true}
use Rattle.word.proofs.Laws.Bools.{either}
use Rattle.word.proofs.Laws.Conjunctions.{also, both}
use Rattle.window.specs.declared.Row.{Row}
use Rattle.operation.specs.declared.Fate.{Fate}
use Rattle.operation.specs.declared.Fate.TheVariants.{Continues, Quits, Creates}
use Rattle.operation.specs.declared.Decision.{Decision}
use Rattle.operation.specs.declared.Decision.TheVariants.{Waits, Traps, Executes}
use Rattle.step.specs.declared.Attempt.{Attempt}
use Rattle.step.specs.declared.Queue.{Queue}
use Rattle.step.specs.declared.Processes.{Processes}
use Rattle.step.specs.Queues.{below_total, live_counts, live_total}
use Rattle.step.specs.State.{State}
use Rattle.step.specs.Act.{with_counts, Change, created_in, fault_in, fate_in, change_of, act}
use Rattle.step.specs.Soundness.{alike, live_sound}

-- ---- the test

alike_same : (xs ys : List ℕ) → alike xs ys ≡ true → xs ≡ ys
unfolding alike
alike_same [] [] e = refl
alike_same [] (y ∷ ys) e = absurd (false≢true e)
alike_same (x ∷ xs) [] e = absurd (false≢true e)
alike_same (x ∷ xs) (y ∷ ys) e = let u = both (eqb-true x y) (alike_same xs ys) e in ap₂ {C = List ℕ} (λ z zs. z ∷ zs) u.0 u.1

alike_self : (l : List ℕ) → alike l l ≡ true
unfolding alike
alike_self [] = refl
alike_self (x ∷ l) = also (eq-eqb x x refl) (alike_self l)

-- counts that pass the test are those of the queues
pub live_counted : (t : Processes) → live_sound t ≡ true → (t.live ≡ live_counts t.queues) × (t.count ≡ live_total t.queues)
unfolding live_sound
live_counted t e = both (alike_same t.live (live_counts t.queues)) (eqb-true t.count (live_total t.queues)) e

-- those of the queues pass it
pub made_live : (psw : List ℕ) (queues : List Queue) (flag : ℕ) → live_sound (with_counts psw queues flag) ≡ true
unfolding live_sound
made_live psw queues flag = also (alike_self (live_counts queues)) (eq-eqb (live_total queues) (live_total queues) refl)

-- so a table whose counts pass is the one that is made of its PSWs, queues and flag
pub live_made : (t : Processes) → live_sound t ≡ true → t ≡ with_counts t.psw t.queues t.flag
live_made t e =
    let u = live_counted t e in
    ap₂ (λ (l : List ℕ) (n : ℕ). record { psw = t.psw; queues = t.queues; flag = t.flag; live = l; count = n }) u.0 u.1

-- ---- an act

fate_live : (table : Processes) (a : Attempt) (r : Row) (f : Fate) → live_sound (fate_in table a r f).table ≡ true
unfolding fate_in created_in fault_in
fate_live table a r (Continues p) = made_live _ _ _
fate_live table a r Quits = made_live _ _ _
fate_live table a r (Creates p new) =
    either (λ (c : Change). live_sound c.table ≡ true) (below_total table.count) {x = created_in table a r p new} {y = fault_in table a r p new} (made_live _ _ _) (made_live _ _ _)

change_live : (table : Processes) (a : Attempt) (r : Row) (d : Decision) → live_sound (change_of table a r d).table ≡ true
unfolding change_of
change_live table a r (Waits w) = made_live _ _ _
change_live table a r (Traps k p) = made_live _ _ _
change_live table a r (Executes e) = fate_live table a r e.fate

pub act_live : (s : State) (a : Attempt) (r : Row) (d : Decision) → live_sound (act s a r d).state.table.users ≡ true
unfolding act
act_live s a r d = change_live s.table.users a r d
