-- One turn of the loop over the attempts of a run.
use Rattle.std.specs.Prelude.{Option, Some, None}
use Rattle.std.specs.Prelude.{◌≡◌, refl, ◌≢◌, Bool, true, false, cond, List, ℕ, ◌+◌, ◌-◌, ◌*◌, ◌≤◌, ◌<◌, leb, length, set}
use Rattle.std.proofs.Common.{sym, ◌∙◌, subst, arith}
use Rattle.std.proofs.Math.Path.{ap}
use Rattle.std.proofs.Math.Bool.{true≢false}
use Rattle.std.proofs.Math.ListN.{get_or}
use borrow.Author.Tests.{lt-leb, le-leb}
use Rattle.step.specs.Step.{no_trap}
use Rattle.step.specs.Queues.{pt_count, numbers}
use Rattle.window.specs.declared.Row.{Row}
use Rattle.operation.specs.declared.Course.{Course}
use Rattle.operation.specs.Environment.{environment_of}
use Rattle.operation.specs.Decide.{decide}
use Rattle.step.specs.declared.Attempt.{Attempt}
use Rattle.step.specs.declared.Attempt.TheVariants.{Step}
use Rattle.step.specs.declared.Ending.{Ending}
use Rattle.step.specs.declared.Ending.TheVariants.{Idle}
use Rattle.step.specs.State.{State}
use Rattle.step.specs.Code.Performs.{Performs}
use Rattle.run.specs.Run.{Tally, no_tally}
use Rattle.run.specs.Code.Attempts.{added}
use Rattle.run_rings.specs.Code.Records.{row_in}
use Rattle.run_rings.specs.Code.Spans.{Windows}
use Rattle.run_next.specs.declared.Next.{Next}
use Rattle.run_next.specs.Code.Next.{then_places, next_at, attempt_as, follows_try, Acting, alone, several, follows, tries, standing, had_in, goes_on}
use Rattle.run_next.specs.Code.Settled.{Lines, lines, queues_of, attempt_of, result_by, Ready, Settles}
use Rattle.run_next.specs.Code.Stands.{Stands}
use Rattle.run_next.specs.Code.Numbers.{Cells, state_from, Numbers, Attempted}
use Rattle.run_next.specs.Code.Tally.{tally_cells, tally_in, attempt_counts}
use Rattle.run_next.specs.Code.Running.{before, between, Standing, Running, left_over}
use Rattle.run_next.specs.Laws.Stands.{not_idle, place_goes}
use Rattle.run_next.specs.Laws.Numbers.{step_at, head_lt, acting_row, acting_windows, acting_ready, attempted}
use Rattle.run_next.specs.Laws.Tally.{idle_more, attempt_more}
use Rattle.run_next.specs.Laws.Running.{starts, idles_on, acting_now, untrapped_now, attempts_on, follows_stands, follows_on}

pub begins : (l : List ℕ) (rows : List Row) (spans : List ℕ) (x : Lines) (m : Cells) (c : Tally) → Numbers rows spans x m → Stands x.kinds x.next (queues_of x) → c ≡ no_tally
    → Running l 0 (state_from rows x m) rows spans x m c
begins l rows spans x m c h s e = record { tried = false; runs = rw e (starts l (state_from rows x m) (state_from rows x m) refl); numbers = h; stands = before s }

-- less is left where an item is over
pub less_next : (l : List ℕ) (i : ℕ) (next next' : List (Option Next)) → i < length l → left_over l (i + 1) next' < left_over l i next
unfolding left_over
less_next l i next next' h = on (follows_try (next_at next (get_or l i 0))) (follows_try (next_at next' (get_or l (i + 1) 0)))
  where
    on : (a b : Bool) → 2 * (length l - (i + 1)) - cond b 1 0 < 2 * (length l - i) - cond a 1 0
    on true true = omega (arith, h)
    on true false = omega (arith, h)
    on false true = omega (arith, h)
    on false false = omega (arith, h)

module _ (l : List ℕ) (i : ℕ) (s₀ : State) (rows : List Row) (spans : List ℕ) (x : Lines) (m : Cells) (tally : List ℕ)
    (going : Running l i s₀ rows spans x m (tally_in tally)) (here : i < length l) (small : get_or l i 0 < numbers) (wide : length tally ≡ tally_cells) where
  abbrev t : ℕ
  t = get_or l i 0

  -- an idle item
  pub turn_idle : (tally' : List ℕ) → next_at x.next t ≡ None → tally' ≡ set tally (3 * numbers + t) (get_or tally (3 * numbers + t) 0 + 1) → Running l (i + 1) s₀ rows spans x m (tally_in tally')
  turn_idle tally' up e =
      subst (Running l (i + 1) s₀ rows spans x m) (sym (ap tally_in e ∙ idle_more tally t small wide))
      (idles_on l i s₀ rows spans x m (tally_in tally) going here small up)

  -- an attempt
  module _ (nx : Next) (next : next_at x.next t ≡ Some nx) where
    up : next_at x.next t ≢ None
    up e = let z : None ≡ Some nx = sym e ∙ next in cc

    acts : Acting t x.next (queues_of x)
    acts = acting_now l i s₀ rows spans x m (tally_in tally) going here small up

    pub turn_head : nx.pt < pt_count
    turn_head = head_lt rows spans x m going.numbers t small nx next acts

    module _ (k : Course) (ps : List ℕ) (n : Cells)
        (performs : (row : Row) → Windows spans t row
        → Performs row (decide (environment_of row (get_or x.psws nx.pt 0) x.flag m.program m.constants m.registers m.data_words)) nx.pt 64 k
        x.psws ps m.registers n.registers m.data_words n.data_words) where
      abbrev mid : Lines
      mid = lines x.next x.pts x.heads x.lens x.kinds x.stored ps x.flag x.free x.count

      performed : Performs (row_in x.kinds x.stored (acting_row rows spans x m going.numbers t small nx next acts).row)
          (decide (environment_of (row_in x.kinds x.stored (acting_row rows spans x m going.numbers t small nx next acts).row) (get_or x.psws nx.pt 0) x.flag m.program
          m.constants m.registers m.data_words)) nx.pt 64 k x.psws ps m.registers n.registers m.data_words n.data_words
      performed = performs (row_in x.kinds x.stored (acting_row rows spans x m going.numbers t small nx next acts).row) (acting_windows rows spans x m going.numbers t small nx next acts)

      untrapped : get_or x.kinds t 0 ≡ no_trap
      untrapped = untrapped_now l i s₀ rows spans x m (tally_in tally) going here small up

      pub turn_ready : Ready t nx k mid
      turn_ready = acting_ready rows spans x m going.numbers t small nx next acts untrapped k ps n performed

      module _ (r : ℕ) (y : Lines) (kinds : numbers ≤ length x.kinds) (stored : numbers ≤ length x.stored)
          (settles : Settles t nx.pt k (get_or ps nx.pt 0) r mid y) (constants : m.constants ≡ n.constants) (program : m.program ≡ n.program) where
        abbrev ending : Ending
        ending = (result_by t k (get_or ps nx.pt 0) mid).ending

        acts_so : ending ≢ Idle
        acts_so = not_idle t k (get_or ps nx.pt 0) mid

        done : Attempted (attempt_of t x) t ending rows spans x m y n
        done = attempted rows spans x m going.numbers t small nx next acts untrapped k ps n performed r y kinds stored settles constants program

        goes : goes_on (attempt_of t x) (had_in t x.lens) ending ≡ leb then_places r
        goes = sym (ap (leb then_places) settles.place ∙ place_goes (attempt_of t x) (had_in t x.lens) ending acts_so)

        counts_so : (tally' : List ℕ) → tally' ≡ set tally (r + t) (get_or tally (r + t) 0 + 1)
            → tally_in tally' ≡ added t (attempt_counts (attempt_of t x) (had_in t x.lens) ending) (tally_in tally)
        counts_so tally' e =
            ap tally_in e ∙ ap (λ (j : ℕ). tally_in (set tally (j + t) (get_or tally (j + t) 0 + 1))) settles.place
            ∙ attempt_more tally t small wide (attempt_of t x) (had_in t x.lens) ending acts_so

        -- the item is over
        pub turn_over : (tally' : List ℕ) → tally' ≡ set tally (r + t) (get_or tally (r + t) 0 + 1) → r < then_places → Running l (i + 1) s₀ rows spans y n (tally_in tally')
        turn_over tally' e h =
            subst (Running l (i + 1) s₀ rows spans y n) (sym (counts_so tally' e))
            (attempts_on l i s₀ rows spans x m (tally_in tally) going here small up nx.pt (get_or ps nx.pt 0) r k ps y n kinds settles done
            (goes ∙ lt-leb then_places r h))

        -- its step follows
        pub turn_follows : (tally' : List ℕ) → tally' ≡ set tally (r + t) (get_or tally (r + t) 0 + 1) → then_places ≤ r → Running l i s₀ rows spans y n (tally_in tally')
        turn_follows tally' e h =
            subst (Running l i s₀ rows spans y n) (sym (counts_so tally' e))
            (follows_on l i s₀ rows spans x m (tally_in tally) going here small up nx.pt (get_or ps nx.pt 0) r k ps y n kinds settles done
            (goes ∙ le-leb then_places r h))

        follows_less : goes_on (attempt_of t x) (had_in t x.lens) ending ≡ true → Standing l i y.kinds y.next (queues_of y) true → left_over l i y.next < left_over l i x.next
        unfolding left_over goes_on standing follows_try attempt_as
        follows_less f (between j b) =
            let after : follows_try (next_at y.next t) ≡ true = ap follows_try b.here in
            rw (after, on acts) (omega (arith, here))
          where
            tried : attempt_of t x ≡ Step → ⊥
            tried e = true≢false (sym f ∙ ap (λ (a : Attempt). goes_on a (had_in t x.lens) ending) e)

            on : Acting t x.next (queues_of x) → follows_try (next_at x.next t) ≡ false
            on (alone e o s) = ap follows_try e
            on (several e o s) = ap follows_try e
            on (follows e o) = absurd (tried (step_at t x.next _ _ e))
            on (tries e o) = ap follows_try e

        -- less is left where a step follows
        pub turn_less : then_places ≤ r → left_over l i y.next < left_over l i x.next
        turn_less h = follows_less (goes ∙ le-leb then_places r h) (follows_stands l i s₀ rows spans x m (tally_in tally) going here small up nx.pt (get_or ps nx.pt 0) r k ps y n kinds settles done (goes ∙ le-leb then_places r h))
