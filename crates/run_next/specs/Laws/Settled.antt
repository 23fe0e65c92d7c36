-- An attempt settled, by its course.
use Rattle.std.specs.Prelude.{Option, Some, None}
use Rattle.std.specs.Prelude.{◌≡◌, refl, ◌≢◌, Bool, List, ℕ, ◌+◌, ◌-◌, ◌*◌, ◌^◌, ◌<◌, eqb, get_or, set, length}
use Rattle.std.proofs.Math.Path.{sym, ap}
use Rattle.std.proofs.Common.{length-set, ◌∙◌, subst, true≢false, arith}
use Rattle.std.proofs.Math.Bool.{true, false, cond}
use Rattle.std.specs.Int.Count.{count_trailing_zeros}
use Rattle.operation.specs.declared.Course.{Course}
use Rattle.operation.specs.declared.Course.TheVariants as go
use Rattle.operation.specs.declared.Wait.TheVariants.{Data}
use Rattle.operation.specs.declared.Trap.TheVariants as trap
use Rattle.operation.specs.Environment.{kind_of}
use Rattle.step.specs.declared.Attempt.{Attempt}
use Rattle.step.specs.declared.Attempt.TheVariants.{Step, Try}
use Rattle.step.specs.declared.Ending.{Ending}
use Rattle.step.specs.declared.Ending.TheVariants.{Executed, Waved, Trapped, Idle}
use Rattle.step.specs.declared.Motion.{Motion}
use Rattle.step.specs.declared.Motion.TheVariants.{Stays, Turns, Leaves, Joins}
use Rattle.step.specs.declared.Queue.{Queue}
use Rattle.step.specs.declared.StepResult.{StepResult}
use Rattle.step.specs.Queues.{numbers, below_total}
use Rattle.step.specs.Act.{joined_at}
use Rattle.step.specs.Code.Parts.{result, moved_queues, flag_after, executed_motion, waved_motion, created_motion}
use Rattle.step.specs.Code.Performs.{course_result}
use Rattle.run_rings.specs.Code.Rings.{queues_in}
use Rattle.run_rings.specs.Code.Records.{kinds_after, stored_after}
use Rattle.run_next.specs.declared.Next.{Next}
use Rattle.run_next.specs.declared.NextRole.TheVariants.{Tries}
use Rattle.run_next.specs.Code.Next.{next_at, standing, Puts, attempt_at, had_in, followed, place_after, going_motion, Goes}
use Rattle.run_next.specs.Code.Settled.{Lines, queues_of, attempt_of, result_by, place_of, next_by, free_by, count_by, psws_by, Makes, Settles, going_place, trap_by, Others}
use Rattle.run_next.specs.Laws.Next.{own_number_lem, puts_as, as_step, as_try}

-- an ending that only moves, and the place of its count in a step
pub data Ends : Ending → ℕ → Type 0 where
  executed : Ends Executed 0
  waved : Ends Waved 8

flag_executed : (a : Attempt) (f : ℕ) → flag_after (executed_motion a) f ≡ f
unfolding flag_after executed_motion
flag_executed Step f = refl
flag_executed Try f = refl

flag_created : (a : Attempt) (p f : ℕ) → flag_after (created_motion a p) f ≡ f
unfolding flag_after created_motion
flag_created Step p f = refl
flag_created Try p f = refl

flag_parked : (a : Attempt) (f : ℕ) → flag_after (waved_motion a Data) f ≡ f
unfolding flag_after waved_motion
flag_parked Step f = refl
flag_parked Try f = refl

placed_as : (a : Attempt) (had : Bool) (e : Ending) (place : ℕ) → Ends e place → place_after a had place ≡ place_of a had e
unfolding place_of
placed_as a had Executed place executed = refl
placed_as a had Waved place waved = refl
placed_as a had (Trapped _ _) place e = elim e [ ]
placed_as a had Idle place e = elim e [ ]

kinds_stay : (e : Ending) (place t : ℕ) (l : List ℕ) → Ends e place → l ≡ kinds_after e t l
unfolding kinds_after
kinds_stay Executed place t l executed = refl
kinds_stay Waved place t l waved = refl
kinds_stay (Trapped _ _) place t l e = elim e [ ]
kinds_stay Idle place t l e = elim e [ ]

stored_stays : (e : Ending) (place t : ℕ) (l : List ℕ) → Ends e place → l ≡ stored_after e t l
unfolding stored_after
stored_stays Executed place t l executed = refl
stored_stays Waved place t l waved = refl
stored_stays (Trapped _ _) place t l e = elim e [ ]
stored_stays Idle place t l e = elim e [ ]

next_stands : (t : ℕ) (a : Attempt) (had : Bool) (e : Ending) (place : ℕ) (qs : List Queue) → Ends e place → next_by t a had e qs ≡ standing (followed a had) t qs
unfolding next_by
next_stands t a had Executed place qs executed = refl
next_stands t a had Waved place qs waved = refl
next_stands t a had (Trapped _ _) place qs e = elim e [ ]
next_stands t a had Idle place qs e = elim e [ ]

module _ (t pt p r : ℕ) (c : Course) (x y : Lines) where
  -- a course that only moves processes
  settle_goes : (m : Attempt → Motion) (e : Ending) (place : ℕ) → Ends e place → result_by t c p x ≡ result e (m (attempt_of t x)) → flag_after (m (attempt_of t x)) x.flag ≡ x.flag
      → r ≡ place_after (attempt_of t x) (had_in t x.lens) place
      → Goes t (had_in t x.lens) m x.pts x.heads x.lens x.next y.pts y.heads y.lens y.next
      → y.kinds ≡ x.kinds → y.stored ≡ x.stored → y.flag ≡ x.flag → y.free ≡ free_by c pt x.free → y.count ≡ count_by c x.count
      → y.psws ≡ psws_by c x.free x.psws → Settles t pt c p r x y
  settle_goes m e place i z f o g k s w u n v = record {
    moved = record {
      queues = g.queues ∙ sym (ap (λ (z : StepResult). moved_queues z.motion (attempt_of t x) t (queues_of x)) z);
      flag = w ∙ sym f ∙ sym (ap (λ (z : StepResult). flag_after z.motion x.flag) z);
      free = u;
      count = n;
      psws = v;
    };
    place = o ∙ placed e place i ∙ sym (ap (λ (z : StepResult). place_of (attempt_of t x) (had_in t x.lens) z.ending) z);
    kinds = k ∙ kept e place i ∙ sym (ap (λ (z : StepResult). kinds_after z.ending t x.kinds) z);
    stored = s ∙ stays e place i ∙ sym (ap (λ (z : StepResult). stored_after z.ending t x.stored) z);
    next =
        puts_as t (standing (followed (attempt_of t x) (had_in t x.lens)) t (queues_of y)) (next_by t (attempt_of t x) (had_in t x.lens) (result_by t c p x).ending (queues_of y)) x.next y.next
        (ap (λ (z : StepResult). next_by t (attempt_of t x) (had_in t x.lens) z.ending (queues_of y)) z ∙ follow e place i) g.puts;
  }
    where
      placed : (e : Ending) (place : ℕ) → Ends e place → place_after (attempt_of t x) (had_in t x.lens) place ≡ place_of (attempt_of t x) (had_in t x.lens) e
      placed e place i = placed_as (attempt_of t x) (had_in t x.lens) e place i

      kept : (e : Ending) (place : ℕ) → Ends e place → x.kinds ≡ kinds_after e t x.kinds
      kept e place i = kinds_stay e place t x.kinds i

      stays : (e : Ending) (place : ℕ) → Ends e place → x.stored ≡ stored_after e t x.stored
      stays e place i = stored_stays e place t x.stored i

      follow : (e : Ending) (place : ℕ) → Ends e place
          → next_by t (attempt_of t x) (had_in t x.lens) e (queues_of y) ≡ standing (followed (attempt_of t x) (had_in t x.lens)) t (queues_of y)
      follow e place i = next_stands t (attempt_of t x) (had_in t x.lens) e place (queues_of y) i

-- ---- the other courses

settled_others : (t pt p r : ℕ) (c : Course) (x y : Lines) → Settles t pt c p r x y → Others t pt c p (Some r) x y
settled_others t pt p r c x y s = record {
  moved = s.moved;
  settled = λ n e. let q : r ≡ n = cc in subst (λ (i : ℕ). Settles t pt c p i x y) q s;
  traps = λ e. cc;
}

pub parks_others : (t pt p r : ℕ) (c : Course) (x y : Lines) → c ≡ go.WaitsForData → r ≡ place_after (attempt_of t x) (had_in t x.lens) 8
    → Goes t (had_in t x.lens) (λ a. waved_motion a Data) x.pts x.heads x.lens x.next y.pts y.heads y.lens y.next
    → y.kinds ≡ x.kinds → y.stored ≡ x.stored → y.flag ≡ x.flag → y.free ≡ x.free → y.count ≡ x.count → y.psws ≡ x.psws → Others t pt c p (Some r) x y
unfolding result_by course_result free_by count_by psws_by
parks_others t pt p r c x y e o g k s f z m w =
    subst (λ (c : Course). Others t pt c p (Some r) x y) (sym e)
    (settled_others t pt p r go.WaitsForData x y
    (settle_goes t pt p r go.WaitsForData x y (λ a. waved_motion a Data) Waved 8 waved refl (flag_parked (attempt_of t x) x.flag) o g k s f z m w))

pub quits_others : (t pt p r : ℕ) (c : Course) (x y : Lines) → c ≡ go.Quits → r ≡ place_after (attempt_of t x) (had_in t x.lens) 0
    → Goes t (had_in t x.lens) (λ a. Leaves) x.pts x.heads x.lens x.next y.pts y.heads y.lens y.next
    → y.kinds ≡ x.kinds → y.stored ≡ x.stored → y.flag ≡ x.flag → y.free ≡ x.free + 2 ^ pt → y.count ≡ x.count - 1 → y.psws ≡ x.psws → Others t pt c p (Some r) x y
unfolding result_by course_result free_by count_by psws_by flag_after
quits_others t pt p r c x y e o g k s f z m w =
    subst (λ (c : Course). Others t pt c p (Some r) x y) (sym e)
    (settled_others t pt p r go.Quits x y
    (settle_goes t pt p r go.Quits x y (λ a. Leaves) Executed 0 executed refl refl o g k s f z m w))

module _ (t pt p : ℕ) (o : Option ℕ) (x y : Lines) (small : t < numbers) (k : y.kinds ≡ x.kinds) (s : y.stored ≡ x.stored) (z : y.free ≡ x.free - 2 ^ count_trailing_zeros 64 x.free) (m : y.count ≡ x.count + 1)
    (w : y.psws ≡ set x.psws (count_trailing_zeros 64 x.free) (get_or x.psws 64 0)) where
  new : ℕ
  new = count_trailing_zeros 64 x.free

  created : (q : Makes t (count_trailing_zeros 64 x.free) (below_total x.count) o x.next x.pts x.heads x.lens x.flag y.next y.pts y.heads y.lens y.flag)
      → (b : Bool) → below_total x.count ≡ b → Others t pt go.Creates p o x y
  unfolding result_by course_result free_by count_by psws_by trap_by moved_queues flag_after
  created q true e =
      let g = q.goes e in
      subst (λ (n : Option ℕ). Others t pt go.Creates p n x y) (sym g.0)
      (settled_others t pt p (place_after (attempt_of t x) (had_in t x.lens) 0) go.Creates x y
      (settle_goes t pt p (place_after (attempt_of t x) (had_in t x.lens) 0) go.Creates x y (λ a. created_motion a (count_trailing_zeros 64 x.free)) Executed 0 executed
      (ap (λ (b : Bool). cond b (result Executed (created_motion (attempt_of t x) (count_trailing_zeros 64 x.free))) (result (Trapped trap.CreateFault p) (Joins (count_trailing_zeros 64 x.free)))) e)
      (flag_created (attempt_of t x) (count_trailing_zeros 64 x.free) x.flag) refl g.1 k s g.2 z m w))
  created q false e =
      let g = q.faults e in
      let i : result_by t go.Creates p x ≡ result (Trapped trap.CreateFault p) (Joins (count_trailing_zeros 64 x.free)) =
      ap (λ (b : Bool). cond b (result Executed (created_motion (attempt_of t x) (count_trailing_zeros 64 x.free))) (result (Trapped trap.CreateFault p) (Joins (count_trailing_zeros 64 x.free)))) e in
      record {
        moved = record {
          queues =
              g.1 ∙ ap (λ (j : ℕ). joined_at (queues_of x) j (count_trailing_zeros 64 x.free)) (sym (own_number_lem t small))
              ∙ sym (ap (λ (z : StepResult). moved_queues z.motion (attempt_of t x) t (queues_of x)) i);
          flag = g.3 ∙ sym (ap (λ (z : StepResult). flag_after z.motion x.flag) i);
          free = z;
          count = m;
          psws = w;
        };
        settled = λ n f. let h : None ≡ Some n = sym g.0 ∙ f in cc;
        traps = λ f. (ap (λ (z : StepResult). z.ending) i, g.2);
      }

  pub creates_others : (c : Course) → c ≡ go.Creates
      → Makes t (count_trailing_zeros 64 x.free) (below_total x.count) o x.next x.pts x.heads x.lens x.flag y.next y.pts y.heads y.lens y.flag
      → Others t pt c p o x y
  creates_others c e q = subst (λ (c : Course). Others t pt c p o x y) (sym e) (created q (below_total x.count) refl)

-- a course that traps and changes no queue
pub traps_others : (t pt p : ℕ) (c : Course) (x : Lines) → ((y : Lines) → result_by t c p y ≡ result (Trapped (trap_by c) p) Stays) → free_by c pt x.free ≡ x.free → count_by c x.count ≡ x.count
    → psws_by c x.free x.psws ≡ x.psws → Others t pt c p None x x
unfolding moved_queues flag_after
traps_others t pt p c x i z m w = record {
  moved = record {
    queues = sym (ap (λ (z : StepResult). moved_queues z.motion (attempt_of t x) t (queues_of x)) (i x));
    flag = sym (ap (λ (z : StepResult). flag_after z.motion x.flag) (i x));
    free = sym z;
    count = sym m;
    psws = sym w;
  };
  settled = λ n e. cc;
  traps = λ o. (ap (λ (z : StepResult). z.ending) (i x), refl);
}

-- the trap behind it
pub trap_settles : (t pt p r k₀ : ℕ) (r₀ : Option ℕ) (c : Course) (x y z : Lines) → Others t pt c p r₀ x y → r₀ ≡ None → k₀ ≡ kind_of (trap_by c) → r ≡ place_after (attempt_of t y) false 16 → z.kinds ≡ set y.kinds t k₀
    → z.stored ≡ set y.stored t p → Puts t None y.next z.next
    → y.kinds ≡ x.kinds → y.stored ≡ x.stored → z.pts ≡ y.pts → z.heads ≡ y.heads → z.lens ≡ y.lens → z.flag ≡ y.flag → z.free ≡ y.free → z.count ≡ y.count → z.psws ≡ y.psws
    → Settles t pt c p r x z
unfolding place_of kinds_after stored_after next_by
trap_settles t pt p r k₀ r₀ c x y z o same j₀ q k s u f g a b d v w n h =
    let e = o.traps same in
    let i : queues_of z ≡ queues_of y = ap (λ (l : List ℕ). queues_in l z.heads z.lens) a ∙ ap (λ (l : List ℕ). queues_in y.pts l z.lens) b ∙ ap (queues_in y.pts y.heads) d in
    record {
      moved = record {
        queues = i ∙ o.moved.queues;
        flag = v ∙ o.moved.flag;
        free = w ∙ o.moved.free;
        count = n ∙ o.moved.count;
        psws = h ∙ o.moved.psws;
      };
      place =
          q ∙ ap (λ (l : List (Option Next)). place_after (attempt_at t l) false (2 * numbers)) e.1
          ∙ sym (ap (λ (j : Ending). place_of (attempt_of t x) (had_in t x.lens) j) e.0);
      kinds = k ∙ ap (λ (l : List ℕ). set l t k₀) f ∙ ap (set x.kinds t) j₀ ∙ sym (ap (λ (j : Ending). kinds_after j t x.kinds) e.0);
      stored = s ∙ ap (λ (l : List ℕ). set l t p) g ∙ sym (ap (λ (j : Ending). stored_after j t x.stored) e.0);
      next =
          puts_as t None (next_by t (attempt_of t x) (had_in t x.lens) (result_by t c p x).ending (queues_of z)) x.next z.next
          (ap (λ (j : Ending). next_by t (attempt_of t x) (had_in t x.lens) j (queues_of z)) e.0)
          (subst (λ (l : List (Option Next)). Puts t None l z.next) e.1 u);
    }

-- ---- what the functions need

-- the process goes on, or waits though not for a data word
pub going_by : (t pt p r place : ℕ) (c : Course) (x y : Lines) → going_place c ≡ Some place → r ≡ place_after (attempt_of t x) (had_in t x.lens) place
    → Goes t (had_in t x.lens) (going_motion (eqb place numbers)) x.pts x.heads x.lens x.next y.pts y.heads y.lens y.next
    → y.kinds ≡ x.kinds → y.stored ≡ x.stored → y.flag ≡ x.flag → y.free ≡ x.free → y.count ≡ x.count → y.psws ≡ x.psws → Settles t pt c p r x y
unfolding going_place going_motion result_by course_result free_by count_by psws_by flag_after
going_by t pt p r place go.Continues x y e o g k s f z m w =
    let i : place ≡ 0 = cc in
    settle_goes t pt p r go.Continues x y (λ a. executed_motion a) Executed 0 executed refl (flag_executed (attempt_of t x) x.flag)
    (o ∙ ap (place_after (attempt_of t x) (had_in t x.lens)) i)
    (subst (λ (n : ℕ). Goes t (had_in t x.lens) (going_motion (eqb n numbers)) x.pts x.heads x.lens x.next y.pts y.heads y.lens y.next) i g) k s f z m w
going_by t pt p r place go.Waits x y e o g k s f z m w =
    let i : place ≡ numbers = cc in
    settle_goes t pt p r go.Waits x y (λ a. Turns) Waved 8 waved refl refl
    (o ∙ ap (place_after (attempt_of t x) (had_in t x.lens)) i)
    (subst (λ (n : ℕ). Goes t (had_in t x.lens) (going_motion (eqb n numbers)) x.pts x.heads x.lens x.next y.pts y.heads y.lens y.next) i g) k s f z m w
going_by t pt p r place go.WaitsForData x y e o g k s f z m w = cc
going_by t pt p r place go.Quits x y e o g k s f z m w = cc
going_by t pt p r place go.Creates x y e o g k s f z m w = cc
going_by t pt p r place go.CreateFault x y e o g k s f z m w = cc
going_by t pt p r place go.IllegalInstruction x y e o g k s f z m w = cc
going_by t pt p r place go.ProtectionViolation x y e o g k s f z m w = cc
going_by t pt p r place go.PrivilegedInstruction x y e o g k s f z m w = cc
going_by t pt p r place go.SupervisorCall x y e o g k s f z m w = cc
going_by t pt p r place go.SimulatedInstruction x y e o g k s f z m w = cc
going_by t pt p r place go.DataException x y e o g k s f z m w = cc

pub going_lt : (c : Course) (place : ℕ) → going_place c ≡ Some place → place < 32
unfolding going_place
going_lt go.Continues place e = let i : place ≡ 0 = cc in omega (arith, i)
going_lt go.Waits place e = let i : place ≡ numbers = cc in omega (arith, i)
going_lt go.WaitsForData place e = cc
going_lt go.Quits place e = cc
going_lt go.Creates place e = cc
going_lt go.CreateFault place e = cc
going_lt go.IllegalInstruction place e = cc
going_lt go.ProtectionViolation place e = cc
going_lt go.PrivilegedInstruction place e = cc
going_lt go.SupervisorCall place e = cc
going_lt go.SimulatedInstruction place e = cc
going_lt go.DataException place e = cc

pub traps_create_fault : (t pt p : ℕ) (c : Course) (x : Lines) → c ≡ go.CreateFault → Others t pt c p None x x
unfolding result_by course_result free_by count_by psws_by trap_by
traps_create_fault t pt p c x e = subst (λ (c : Course). Others t pt c p None x x) (sym e) (traps_others t pt p go.CreateFault x (λ y. refl) refl refl refl)

pub traps_illegal_instruction : (t pt p : ℕ) (c : Course) (x : Lines) → c ≡ go.IllegalInstruction → Others t pt c p None x x
unfolding result_by course_result free_by count_by psws_by trap_by
traps_illegal_instruction t pt p c x e = subst (λ (c : Course). Others t pt c p None x x) (sym e) (traps_others t pt p go.IllegalInstruction x (λ y. refl) refl refl refl)

pub traps_protection_violation : (t pt p : ℕ) (c : Course) (x : Lines) → c ≡ go.ProtectionViolation → Others t pt c p None x x
unfolding result_by course_result free_by count_by psws_by trap_by
traps_protection_violation t pt p c x e = subst (λ (c : Course). Others t pt c p None x x) (sym e) (traps_others t pt p go.ProtectionViolation x (λ y. refl) refl refl refl)

pub traps_privileged_instruction : (t pt p : ℕ) (c : Course) (x : Lines) → c ≡ go.PrivilegedInstruction → Others t pt c p None x x
unfolding result_by course_result free_by count_by psws_by trap_by
traps_privileged_instruction t pt p c x e = subst (λ (c : Course). Others t pt c p None x x) (sym e) (traps_others t pt p go.PrivilegedInstruction x (λ y. refl) refl refl refl)

pub traps_supervisor_call : (t pt p : ℕ) (c : Course) (x : Lines) → c ≡ go.SupervisorCall → Others t pt c p None x x
unfolding result_by course_result free_by count_by psws_by trap_by
traps_supervisor_call t pt p c x e = subst (λ (c : Course). Others t pt c p None x x) (sym e) (traps_others t pt p go.SupervisorCall x (λ y. refl) refl refl refl)

pub traps_simulated_instruction : (t pt p : ℕ) (c : Course) (x : Lines) → c ≡ go.SimulatedInstruction → Others t pt c p None x x
unfolding result_by course_result free_by count_by psws_by trap_by
traps_simulated_instruction t pt p c x e = subst (λ (c : Course). Others t pt c p None x x) (sym e) (traps_others t pt p go.SimulatedInstruction x (λ y. refl) refl refl refl)

pub traps_data_exception : (t pt p : ℕ) (c : Course) (x : Lines) → c ≡ go.DataException → Others t pt c p None x x
unfolding result_by course_result free_by count_by psws_by trap_by
traps_data_exception t pt p c x e = subst (λ (c : Course). Others t pt c p None x x) (sym e) (traps_others t pt p go.DataException x (λ y. refl) refl refl refl)

pub makes_faults : (t p q : ℕ) (r : Option ℕ) (below : Bool) (l : List (Option Next)) (a b c : List ℕ) (f : ℕ) (a' b' c' : List ℕ) → below ≡ false → q ≡ p → queues_in a' b' c' ≡ joined_at (queues_in a b c) (2 * t) q → r ≡ None
    → Makes t p below r l a b c f l a' b' c' 1
makes_faults t p q r below l a b c f a' b' c' e i j o =
    record { goes = λ z. absurd (true≢false (sym z ∙ e)); faults = λ z. (o, j ∙ ap (joined_at (queues_in a b c) (2 * t)) i, refl, refl) }

pub makes_goes : (t p q r : ℕ) (below : Bool) (l : List (Option Next)) (a b c : List ℕ) (f : ℕ) (l' : List (Option Next)) (a' b' c' : List ℕ) → below ≡ true → q ≡ p → r ≡ place_after (attempt_at t l) (had_in t c) 0
    → Goes t (had_in t c) (λ d. created_motion d q) a b c l a' b' c' l' → Makes t p below (Some r) l a b c f l' a' b' c' f
makes_goes t p q r below l a b c f l' a' b' c' e i o g =
    record { goes = λ z. (ap Some o, subst (λ (n : ℕ). Goes t (had_in t c) (λ d. created_motion d n) a b c l a' b' c' l') i g, refl); faults = λ z. absurd (true≢false (sym e ∙ z)) }

-- the place of a trap
pub trap_step : (t : ℕ) (l : List (Option Next)) (n : Next) → next_at l t ≡ Some n → n.role ≢ Tries → 16 ≡ place_after (attempt_at t l) false (2 * numbers)
unfolding place_after
trap_step t l n e r = ap (λ (a : Attempt). place_after a false (2 * numbers)) (sym (as_step t l n e r))

pub trap_try : (t : ℕ) (l : List (Option Next)) (n : Next) → next_at l t ≡ Some n → n.role ≡ Tries → 48 ≡ place_after (attempt_at t l) false (2 * numbers)
unfolding place_after
trap_try t l n e r = ap (λ (a : Attempt). place_after a false (2 * numbers)) (sym (as_try t l n e r))

-- the courses left when those that a function names are taken out
pub going_none : (c : Course) → c ≢ go.Continues → c ≢ go.Waits → None ≡ going_place c
unfolding going_place
going_none go.Continues n m = absurd (n refl)
going_none go.Waits n m = absurd (m refl)
going_none go.WaitsForData n m = refl
going_none go.Quits n m = refl
going_none go.Creates n m = refl
going_none go.CreateFault n m = refl
going_none go.IllegalInstruction n m = refl
going_none go.ProtectionViolation n m = refl
going_none go.PrivilegedInstruction n m = refl
going_none go.SupervisorCall n m = refl
going_none go.SimulatedInstruction n m = refl
going_none go.DataException n m = refl

pub trap_default : (c : Course) → c ≢ go.IllegalInstruction → c ≢ go.ProtectionViolation → c ≢ go.PrivilegedInstruction → c ≢ go.SupervisorCall → c ≢ go.SimulatedInstruction → c ≢ go.DataException
    → trap.CreateFault ≡ trap_by c
unfolding trap_by
trap_default go.Continues i v p s m d = refl
trap_default go.Waits i v p s m d = refl
trap_default go.WaitsForData i v p s m d = refl
trap_default go.Quits i v p s m d = refl
trap_default go.Creates i v p s m d = refl
trap_default go.CreateFault i v p s m d = refl
trap_default go.IllegalInstruction i v p s m d = absurd (i refl)
trap_default go.ProtectionViolation i v p s m d = absurd (v refl)
trap_default go.PrivilegedInstruction i v p s m d = absurd (p refl)
trap_default go.SupervisorCall i v p s m d = absurd (s refl)
trap_default go.SimulatedInstruction i v p s m d = absurd (m refl)
trap_default go.DataException i v p s m d = absurd (d refl)

-- a course that changes no queue and traps
pub traps_rest : (t pt p : ℕ) (c : Course) (x : Lines) → going_place c ≡ None → c ≢ go.WaitsForData → c ≢ go.Quits → c ≢ go.Creates → Others t pt c p None x x
unfolding going_place
traps_rest t pt p go.Continues x g w q k = cc
traps_rest t pt p go.Waits x g w q k = cc
traps_rest t pt p go.WaitsForData x g w q k = absurd (w refl)
traps_rest t pt p go.Quits x g w q k = absurd (q refl)
traps_rest t pt p go.Creates x g w q k = absurd (k refl)
traps_rest t pt p go.CreateFault x g w q k = traps_create_fault t pt p go.CreateFault x refl
traps_rest t pt p go.IllegalInstruction x g w q k = traps_illegal_instruction t pt p go.IllegalInstruction x refl
traps_rest t pt p go.ProtectionViolation x g w q k = traps_protection_violation t pt p go.ProtectionViolation x refl
traps_rest t pt p go.PrivilegedInstruction x g w q k = traps_privileged_instruction t pt p go.PrivilegedInstruction x refl
traps_rest t pt p go.SupervisorCall x g w q k = traps_supervisor_call t pt p go.SupervisorCall x refl
traps_rest t pt p go.SimulatedInstruction x g w q k = traps_simulated_instruction t pt p go.SimulatedInstruction x refl
traps_rest t pt p go.DataException x g w q k = traps_data_exception t pt p go.DataException x refl

-- as many trap records as before
pub kinds_length : (e : Ending) (t : ℕ) (l : List ℕ) → length (kinds_after e t l) ≡ length l
unfolding kinds_after
kinds_length Executed t l = refl
kinds_length Waved t l = refl
kinds_length (Trapped k p) t l = length-set l t (kind_of k)
kinds_length Idle t l = refl

pub stored_length : (e : Ending) (t : ℕ) (l : List ℕ) → length (stored_after e t l) ≡ length l
unfolding stored_after
stored_length Executed t l = refl
stored_length Waved t l = refl
stored_length (Trapped k p) t l = length-set l t p
stored_length Idle t l = refl
