-- An attempt of a run in numbers: performed, and then settled by its course, it is that of the definitions.
use Rattle.std.specs.Prelude.{◌≡◌, ◌≢◌, Bool, true, false, not, ◌&&◌, ℕ, ◌+◌, ◌*◌, ◌/◌, ◌%◌, ◌^◌, ◌≤◌, ◌<◌, leb, set, Option, Some, None}
use Rattle.std.proofs.Math.Path.{refl, ap, ap₂, subst}
use Rattle.std.proofs.Common.{sym, ◌∙◌, subst₂, true≢false, arith, length-set, get_or-take, get_or-set_other, eq-eqb}
use Rattle.std.proofs.lemmas.Bool.{false≢true}
use mathlib.Core.List.{List}
use Rattle.std.specs.Int.Count.{count_trailing_zeros}
use Rattle.std.proofs.Math.ListN.{length, get_or, take}
use Rattle.word.proofs.Laws.Bools.{Le?, below, above, le?}
use Rattle.window.specs.declared.Row.{Row}
use Rattle.operation.specs.declared.Course.{Course}
use Rattle.operation.specs.declared.Course.TheVariants as go
use Rattle.operation.specs.declared.Trap.{Trap}
use Rattle.operation.specs.declared.Trap.TheVariants as trap
use Rattle.operation.specs.declared.Wait.TheVariants as wait
use Rattle.operation.specs.declared.Fate.{Fate}
use Rattle.operation.specs.declared.Fate.TheVariants as fate
use Rattle.operation.specs.declared.Decision.{Decision}
use Rattle.operation.specs.declared.Decision.TheVariants as decision
use Rattle.operation.specs.Environment.{environment_of}
use Rattle.operation.specs.Decide.{decide}
use Rattle.operation.proofs.Laws.SoundDecisions.{SoundFate, SoundDecision}
use Rattle.step.specs.declared.Attempt.{Attempt}
use Rattle.step.specs.declared.Attempt.TheVariants.{Step, Try}
use Rattle.step.specs.declared.Queue.{Queue}
use Rattle.step.specs.declared.StepResult.{StepResult}
use Rattle.step.specs.Queues.{pt_count, numbers, own_number, sfu_number, task_place, acting_number, below_total, head_of, live_pts, live_total}
use Rattle.step.specs.State.{State, state, find_row, put_row, queue_in, processes_at, processes_acting, environment}
use Rattle.step.specs.Act.{Stepped, table_of}
use Rattle.step.specs.Step.{no_trap, row_decides, attempt_by}
use Rattle.step.specs.Code.Parts.{decided_as, row_after, fate_psws, decision_psws, Acts}
use Rattle.step.specs.Code.Performs.{trap_course, fate_course, course_of, Performs, course_result}
use Rattle.step.specs.Soundness.{total_sound, sound}
use Rattle.step.proofs.Laws.Act.{acting_inside}
use Rattle.step.proofs.Laws.Motions.{Tidy}
use Rattle.step.proofs.Laws.Rows.{find_task}
use Rattle.step.proofs.Laws.Sound.{Sound, sound_parts, found_has_row, listed_holds, tidy_of}
use Rattle.step.proofs.Laws.TableKept.{own_sound}
use Rattle.step.proofs.Laws.SoundKept.{decided_sound, attempt_sound}
use Rattle.step.proofs.Laws.Parts.{Parts, attempt_made, head_decides_lem}
use Rattle.step.proofs.Laws.Performs.{performs_acts}
use Rattle.run_rings.specs.Code.Records.{row_in, rows_in}
use Rattle.run_rings.specs.Code.Spans.{Windows}
use Rattle.run_rings.specs.Laws.Live as LiveLaws
use Rattle.run_rings.specs.Laws.Live.{lowest_is, lowest_lt, lowest_fits, total_le, head_fits, some_live, head_not_lowest}
use Rattle.run_rings.specs.Laws.Records.{find_in, records_after}
use Rattle.run_rings.specs.Laws.Rows.{rising_in, listed, Row-of, live_row}
use Rattle.run_rings.specs.Laws.Spans.{windows_in}
use Rattle.run_next.specs.declared.Next.{Next}
use Rattle.run_next.specs.declared.NextRole.{NextRole}
use Rattle.run_next.specs.Code.Next.{next_is, next_at, Acting, alone, several, follows, tries, attempt_as, attempt_in, attempt_at}
use Rattle.run_next.specs.Code.Settled.{Lines, lines, queues_of, attempt_of, result_by, psws_by, Ready, Settles}
use Rattle.run_next.specs.Code.Numbers.{Cells, state_from, Numbers, Attempted}
use Rattle.run_next.specs.Laws.Next.{own_number_lem, sfu_number_lem, pt_of}
use Rattle.run_next.specs.Laws.Frees.{Fit, course_fits}
use Rattle.run_next.specs.Laws.Fits.{both_fit}
use Rattle.run_next.specs.Laws.Psws.{psws_kept}

-- ---- a process is created with the flag down, and then one more has room

no_trap_lem : (k : Trap) → trap_course k ≡ go.Creates → ⊥
unfolding trap_course
no_trap_lem trap.CreateFault e = let q : true ≡ false = cc in true≢false q
no_trap_lem trap.IllegalInstruction e = let q : true ≡ false = cc in true≢false q
no_trap_lem trap.ProtectionViolation e = let q : true ≡ false = cc in true≢false q
no_trap_lem trap.PrivilegedInstruction e = let q : true ≡ false = cc in true≢false q
no_trap_lem trap.SupervisorCall e = let q : true ≡ false = cc in true≢false q
no_trap_lem trap.SimulatedInstruction e = let q : true ≡ false = cc in true≢false q
no_trap_lem trap.DataException e = let q : true ≡ false = cc in true≢false q

fate_down : (fl : ℕ) (f : Fate) → SoundFate fl f → fate_course f ≡ go.Creates → fl ≡ 0
unfolding fate_course
fate_down fl (fate.Continues p) h e = let q : true ≡ false = cc in absurd (true≢false q)
fate_down fl fate.Quits h e = let q : true ≡ false = cc in absurd (true≢false q)
fate_down fl (fate.Creates p new) h e = h.0

flag_down : (fl : ℕ) (d : Decision) → SoundDecision fl d → course_of d ≡ go.Creates → fl ≡ 0
unfolding course_of
flag_down fl (decision.Waits wait.Access) h e = let q : true ≡ false = cc in absurd (true≢false q)
flag_down fl (decision.Waits wait.Data) h e = let q : true ≡ false = cc in absurd (true≢false q)
flag_down fl (decision.Waits wait.Create) h e = let q : true ≡ false = cc in absurd (true≢false q)
flag_down fl (decision.Traps k p) h e = absurd (no_trap_lem k e)
flag_down fl (decision.Executes x) h e = fate_down fl x.fate h.fate e

room_down : (live fl : ℕ) → total_sound live fl ≡ true → fl ≡ 0 → live < pt_count
unfolding total_sound
room_down live fl e z = on (leb 64 live) (le? 64 live) (ap (λ (b : Bool). not (leb 64 live && b)) (sym (eq-eqb fl 0 z)) ∙ e)
  where
    on : (b : Bool) → Le? 64 live b → not (b && true) ≡ true → live < pt_count
    on true (below k) p = absurd (false≢true p)
    on false (above k) p = k

decides_some : (o : Option Decision) (d : Decision) → Some d ≡ decided_as o → o ≡ Some d
unfolding decided_as
decides_some None d e = let q : true ≡ false = cc in absurd (true≢false q)
decides_some (Some x) d e = cc

-- ---- the PSWs of settling

by_length : (c : Course) (z : ℕ) (w : List ℕ) → length (psws_by c z w) ≡ length w
unfolding psws_by
by_length go.Creates z w = length-set w (count_trailing_zeros 64 z) (get_or w 64 0)
by_length go.Quits z w = refl
by_length go.Continues z w = refl
by_length go.Waits z w = refl
by_length go.WaitsForData z w = refl
by_length go.CreateFault z w = refl
by_length go.IllegalInstruction z w = refl
by_length go.ProtectionViolation z w = refl
by_length go.PrivilegedInstruction z w = refl
by_length go.SupervisorCall z w = refl
by_length go.SimulatedInstruction z w = refl
by_length go.DataException z w = refl

by_other : (c : Course) (z pt : ℕ) (w : List ℕ) → (c ≡ go.Creates → pt ≢ count_trailing_zeros 64 z) → get_or (psws_by c z w) pt 0 ≡ get_or w pt 0
unfolding psws_by
by_other go.Creates z pt w n = get_or-set_other w (count_trailing_zeros 64 z) pt (get_or w 64 0) 0 (n refl)
by_other go.Quits z pt w n = refl
by_other go.Continues z pt w n = refl
by_other go.Waits z pt w n = refl
by_other go.WaitsForData z pt w n = refl
by_other go.CreateFault z pt w n = refl
by_other go.IllegalInstruction z pt w n = refl
by_other go.ProtectionViolation z pt w n = refl
by_other go.PrivilegedInstruction z pt w n = refl
by_other go.SupervisorCall z pt w n = refl
by_other go.SimulatedInstruction z pt w n = refl
by_other go.DataException z pt w n = refl

decided_length : (pt f : ℕ) (d : Decision) (w : List ℕ) → length (decision_psws pt f d w) ≡ length w
unfolding decision_psws fate_psws
decided_length pt f (decision.Waits k) w = refl
decided_length pt f (decision.Traps k p) w = length-set w pt p
decided_length pt f (decision.Executes e) w = on e.fate
  where
    on : (x : Fate) → length (fate_psws pt f x w) ≡ length w
    on (fate.Continues p) = length-set w pt p
    on fate.Quits = refl
    on (fate.Creates p new) = length-set (set w pt p) f new ∙ length-set w pt p

-- ---- the process that acts

pub step_at : (t : ℕ) (l : List (Option Next)) (u : ℕ) (r : NextRole) → next_at l t ≡ next_is u r → attempt_at t l ≡ attempt_as r
unfolding attempt_in
step_at t l u r e = ap attempt_in e

acts_head : (t : ℕ) (l : List (Option Next)) (n : Next) (qs : List Queue) → t < numbers → next_at l t ≡ Some n → Acting t l qs → n.pt ≡ head_of (queue_in qs (acting_number (attempt_at t l) t))
unfolding acting_number attempt_as
acts_head t l n qs h f (alone e o s) = rw (step_at t l _ _ e, own_number_lem t h) (pt_of l t n _ _ f e)
acts_head t l n qs h f (several e o s) = rw (step_at t l _ _ e, own_number_lem t h) (pt_of l t n _ _ f e)
acts_head t l n qs h f (follows e o) = rw (step_at t l _ _ e, own_number_lem t h) (pt_of l t n _ _ f e)
acts_head t l n qs h f (tries e o) = rw (step_at t l _ _ e, sfu_number_lem t h) (pt_of l t n _ _ f e)

acts_some : (t : ℕ) (l : List (Option Next)) (qs : List Queue) → t < numbers → Acting t l qs → (queue_in qs (acting_number (attempt_at t l) t)).len ≢ 0
unfolding acting_number attempt_as
acts_some t l qs h (alone e o s) = rw (step_at t l _ _ e, own_number_lem t h) (λ z. absurd (omega (arith, o, z)))
acts_some t l qs h (several e o s) = rw (step_at t l _ _ e, own_number_lem t h) (λ z. absurd (omega (arith, o, z)))
acts_some t l qs h (follows e o) = rw (step_at t l _ _ e, own_number_lem t h) (λ z. absurd (omega (arith, o, z)))
acts_some t l qs h (tries e o) = rw (step_at t l _ _ e, sfu_number_lem t h) (λ z. absurd (omega (arith, o, z)))

acting_task : (a : Attempt) (t : ℕ) → t < numbers → acting_number a t / 2 ≡ t
unfolding acting_number own_number sfu_number task_place
acting_task Step t h = let m : t % numbers ≡ t = omega (arith, h) in omega (arith, m)
acting_task Try t h = let m : t % numbers ≡ t = omega (arith, h) in omega (arith, m)

module _ (rs : List Row) (sp : List ℕ) (x : Lines) (m : Cells) (h : Numbers rs sp x m) (t : ℕ) (low : t < numbers) (nx : Next) (next : next_at x.next t ≡ Some nx) (acting : Acting t x.next (queues_of x)) where
  abbrev now : State
  now =
      state (rows_in x.kinds x.stored rs) (table_of (take pt_count x.psws) (queues_of x) x.flag) m.constants m.registers m.program m.data_words

  abbrev which : Attempt
  which = attempt_of t x

  abbrev pt : ℕ
  pt = nx.pt

  parts : Sound now
  unfolding state_from
  parts = sound_parts now h.sound

  tidy : Tidy (take pt_count x.psws) (queues_of x)
  tidy = tidy_of (rows_in x.kinds x.stored rs) now.table.users parts.table

  live : (queue_in (queues_of x) (acting_number which t)).len ≢ 0
  live = acts_some t x.next (queues_of x) low acting

  head_is : pt ≡ head_of (queue_in (queues_of x) (acting_number which t))
  head_is = acts_head t x.next nx (queues_of x) low next acting

  pub head_lt : nx.pt < pt_count
  head_lt = omega (arith, head_is, LiveLaws.head_lt (queues_of x) tidy (acting_number which t) (acting_inside which t) live)

  -- the task is listed
  pub acting_row : Row-of t rs
  acting_row =
      let r = live_row (rows_in x.kinds x.stored rs) t (acting_number which t) (queues_of x) parts.table.queues
      (omega (arith, acting_inside which t, parts.table.sixteen)) (acting_task which t low) live in
      let y = listed x.kinds x.stored t rs r.row r.finds in
      record { row = y.row; finds = y.finds }

  -- its windows in the numbers
  pub acting_windows : Windows sp t (row_in x.kinds x.stored acting_row.row)
  acting_windows =
      windows_in sp t acting_row.row (get_or x.kinds acting_row.row.task 0) (get_or x.stored acting_row.row.task 0)
      (h.windows t acting_row.row acting_row.finds)

  the_row : Row
  the_row = row_in x.kinds x.stored acting_row.row

  decision_now : Decision
  decision_now = decide (environment_of the_row (get_or x.psws pt 0) x.flag m.program m.constants m.registers m.data_words)

  -- what its process decides, and that it is done
  module _ (untrapped : get_or x.kinds t 0 ≡ no_trap) (c : Course) (ps : List ℕ) (n : Cells)
      (p : Performs (row_in x.kinds x.stored acting_row.row)
      (decide (environment_of (row_in x.kinds x.stored acting_row.row) (get_or x.psws nx.pt 0) x.flag m.program m.constants m.registers m.data_words))
      nx.pt 64 c x.psws ps m.registers n.registers m.data_words n.data_words) where
    abbrev mid : Lines
    mid = lines x.next x.pts x.heads x.lens x.kinds x.stored ps x.flag x.free x.count

    finds : find_row t (rows_in x.kinds x.stored rs) ≡ Some the_row
    unfolding the_row
    finds = find_in x.kinds x.stored t rs acting_row.row acting_row.finds

    no_trap_yet : the_row.kind ≡ no_trap
    unfolding the_row
    no_trap_yet = ap (λ (y : ℕ). get_or x.kinds y 0) (find_task t rs acting_row.row acting_row.finds) ∙ untrapped

    decides : Some decision_now ≡ decided_as (row_decides decide now the_row (processes_acting now.table.users which t))
    unfolding decision_now environment processes_at
    decides =
        head_decides_lem now the_row (take pt_count x.psws) (queue_in (queues_of x) (acting_number which t)) pt (get_or x.psws pt 0) decision_now no_trap_yet live head_is
        (sym (get_or-take pt_count x.psws pt 0 head_lt)) refl

    decided_now : SoundDecision x.flag decision_now
    decided_now =
        let held = listed_holds (rows_in x.kinds x.stored rs) t (omega (arith, low)) (found_has_row t (rows_in x.kinds x.stored rs) the_row finds) in
        decided_sound now the_row (processes_acting now.table.users which t) decision_now parts.memories
        (own_sound {rows = rows_in x.kinds x.stored rs} {table = now.table.users} {a = which} {t = t} (record { sound = parts.table; listed = held.0; waits = held.1; nonempty = live }))
        (decides_some (row_decides decide now the_row (processes_acting now.table.users which t)) decision_now decides)

    room : c ≡ go.Creates → live_total (queues_of x) < pt_count
    unfolding the_row decision_now live_total
    room k = room_down (length (live_pts (queues_of x))) x.flag parts.table.room (flag_down x.flag decision_now decided_now (sym p.course ∙ k))

    fresh_lt : live_total (queues_of x) < pt_count → count_trailing_zeros 64 x.free < pt_count
    fresh_lt k = subst (λ (z : ℕ). count_trailing_zeros 64 z < pt_count) (sym h.frees) (lowest_lt (queues_of x) k)

    both_few : get_or x.lens (2 * t) 0 + get_or x.lens (2 * t + 1) 0 ≤ pt_count
    both_few = omega (arith, both_fit t x.pts x.heads x.lens low, total_le (queues_of x) tidy)

    pub acting_ready : Ready t nx c mid
    acting_ready = record {
      small = low;
      next = next;
      acting = acting;
      fits = both_few;
      given =
          λ k. (
            head_lt,
            subst₂ (λ (z i : ℕ). z + 2 ^ i < 2 ^ 64) (sym h.frees) (sym head_is) (head_fits (queues_of x) tidy (acting_number which t) (acting_inside which t) live),
            omega (arith, h.counted, some_live (queues_of x) tidy (acting_number which t) (acting_inside which t) live),
          );
      taken =
          λ k. (
            fresh_lt (room k),
            subst (λ (z : ℕ). 2 ^ count_trailing_zeros 64 z ≤ z) (sym h.frees) (lowest_fits (queues_of x) (room k)),
            omega (arith, h.counted, room k),
            omega (arith, both_fit t x.pts x.heads x.lens low, room k),
          );
    }

    -- the attempt
    module _ (r : ℕ) (y : Lines) (wide : numbers ≤ length x.kinds) (long : numbers ≤ length x.stored) (s : Settles t nx.pt c (get_or ps nx.pt 0) r mid y)
        (constants : m.constants ≡ n.constants) (program : m.program ≡ n.program) where
      abbrev result_now : StepResult
      result_now = result_by t c (get_or ps pt 0) mid

      -- its PT is live, and so it is not the lowest free one
      not_fresh : pt ≢ count_trailing_zeros 64 x.free
      not_fresh e =
          head_not_lowest (queues_of x) tidy (acting_number which t) (acting_inside which t) live (sym head_is ∙ e ∙ ap (count_trailing_zeros 64) h.frees)

      psw_kept : get_or (take pt_count y.psws) pt 0 ≡ get_or ps pt 0
      psw_kept =
          get_or-take pt_count y.psws pt 0 head_lt ∙ ap (λ (l : List ℕ). get_or l pt 0) s.moved.psws ∙ by_other c x.free pt ps (λ _. not_fresh)

      performed : Performs the_row decision_now pt (count_trailing_zeros 64 x.free) c (take pt_count x.psws) (take pt_count y.psws) m.registers n.registers m.data_words n.data_words
      unfolding the_row decision_now
      performed = record {
        course = p.course;
        psws =
            ap (take pt_count) s.moved.psws
            ∙ ap₂ (λ (k : Course) (l : List ℕ). take pt_count (psws_by k x.free l)) p.course p.psws
            ∙ psws_kept pt x.free x.psws head_lt h.wide decision_now (λ k. fresh_lt (room (p.course ∙ k)));
        registers = p.registers;
        data_words = p.data_words;
      }

      parts_made : Parts which t now the_row (Some decision_now) result_now (take pt_count y.psws) n.registers n.data_words
      unfolding result_by
      parts_made = record {
        head = pt;
        free = count_trailing_zeros 64 x.free;
        below = below_total x.count;
        row = finds;
        counted = refl;
        decides = decides;
        heads = head_is;
        lowest = λ _. ap (count_trailing_zeros 64) h.frees ∙ lowest_is (queues_of x);
        places = λ _. ap below_total h.counted;
        acts =
            subst (λ (q : ℕ). Acts which the_row (Some decision_now) pt (count_trailing_zeros 64 x.free) (below_total x.count)
            (course_result which (count_trailing_zeros 64 x.free) (below_total x.count) q c) (take pt_count x.psws) (take pt_count y.psws) m.registers n.registers m.data_words n.data_words)
            psw_kept
            (performs_acts which pt (count_trailing_zeros 64 x.free) (below_total x.count) (take pt_count x.psws) (omega (arith, head_lt, tidy.wide)) not_fresh
            the_row decision_now c (take pt_count y.psws) m.registers n.registers m.data_words n.data_words performed);
      }

      rows_made : rows_in y.kinds y.stored rs ≡ put_row t (row_after result_now.ending the_row) (rows_in x.kinds x.stored rs)
      unfolding the_row
      rows_made =
          ap₂ (λ (k l : List ℕ). rows_in k l rs) s.kinds s.stored
          ∙ records_after x.kinds x.stored t 0 rs acting_row.row (rising_in x.kinds x.stored 0 rs parts.rows) (omega (arith, wide, low)) (omega (arith, long, low))
          acting_row.finds result_now.ending

      attempt_is : attempt_by decide which t now ≡ record { state = state_from rs y n; ending = result_now.ending }
      unfolding state_from
      attempt_is =
          attempt_made which t now the_row (row_after result_now.ending the_row) (Some decision_now) result_now (take pt_count y.psws) n.registers n.data_words (queues_of y) y.flag
          parts_made refl s.moved.queues s.moved.flag
          ∙ rw (← rows_made, constants, program) refl

      fit_after : Fit y.free y.count (queues_of y)
      unfolding result_by
      fit_after =
          rw (s.moved.free, s.moved.count, s.moved.queues, h.frees, h.counted)
          (course_fits (queues_of x) tidy t (get_or ps pt 0) pt (below_total (live_total (queues_of x))) which c live head_is room)

      pub attempted : Attempted (attempt_of t x) t (result_by t c (get_or ps nx.pt 0) mid).ending rs sp x m y n
      unfolding state_from decision_now the_row
      attempted = record {
        attempt = attempt_is;
        numbers = record {
          windows = h.windows;
          frees = fit_after.frees;
          counted = fit_after.counted;
          wide = ap length s.moved.psws ∙ by_length c x.free ps ∙ ap length p.psws ∙ decided_length pt 64 decision_now x.psws ∙ h.wide;
          sound = ap (λ (z : Stepped). sound z.state) (sym attempt_is) ∙ attempt_sound which t now h.sound;
        };
      }
