-- An operation that acts at once, once its operands are found: it waits, it traps, or it does what the operation performs. For any roles.
use Rattle.std.specs.Prelude.{ℕ, ◌≡◌, Bool, true, false, ◌||◌, List, [], ◌∷◌, get_or, set, Option, None}
use Rattle.std.proofs.Math.Path.{refl, ap}
use Rattle.std.proofs.Common.{sym, ◌∙◌}
use Rattle.word.specs.Fields.{next_of}
use Rattle.word.specs.declared.Instruction.{Instruction}
use Rattle.word.specs.declared.Outcome.{Outcome}
use Rattle.window.specs.declared.Row.{Row}
use Rattle.window.specs.declared.Cell.{Cell}
use Rattle.window.specs.declared.Window.{Window}
use Rattle.window.specs.Windows.{inside, register_window, data_word_window}
use Rattle.window.specs.Memories.{Memory, memory, cell, stored, stored_one, stored_all, written, tag_of, word_of}
use Rattle.operand.specs.declared.Role.{Role}
use Rattle.operand.specs.declared.Operand.{Operand}
use Rattle.operand.specs.declared.Operand.TheVariants.{Register}
use Rattle.operand.specs.Field.{access_of}
use Rattle.operand.specs.Access.{destination_tag, destination_left}
use Rattle.operation.specs.declared.Operation.{Operation}
use Rattle.operation.specs.declared.FoundOperands.{FoundOperands}
use Rattle.operation.specs.declared.Trap.TheVariants as trap
use Rattle.operation.specs.declared.Wait.TheVariants.{Access}
use Rattle.operation.specs.declared.Fate.{Fate}
use Rattle.operation.specs.declared.Fate.TheVariants as fate
use Rattle.operation.specs.declared.Course.{Course}
use Rattle.operation.specs.declared.Course.TheVariants as go
use Rattle.operation.specs.declared.Decision.{Decision}
use Rattle.operation.specs.Roles.{roles}
use Rattle.operation.specs.Environment.{Environment}
use Rattle.operation.specs.Code.FoundOperands.{found_with, found_at, all_found_at}
use Rattle.operation.specs.Perform.{perform, perform_result, left_of, executed, result_in}
use Rattle.operation.specs.Decide.{operand_waits, operands_wait, operand_masked, operands_masked, decide_found}
use Rattle.step.specs.Code.Performs.{trap_course, fate_course, Performs}
use Rattle.step.specs.Code.Parts.{fate_psws}
use Rattle.step.proofs.Laws.Performs.{performs_along, performs_waits, performs_traps, performs_executes}
use Rattle.operation_checks.specs.Code.Operands.{Destined, tag_in, waits_in, masked_in, left_in}
use Rattle.operation_checks.specs.Laws.Operands.{Operated, waits_in_lem, masked_in_lem}

-- the three operands with what stands there
abbrev pub operands_at : (r1 r2 r3 : Role) (first second third : ℕ) (o1 o2 o3 : Operand) (x1 w1 x2 w2 x3 w3 : ℕ) → FoundOperands
operands_at r1 r2 r3 first second third o1 o2 o3 x1 w1 x2 w2 x3 w3 = record {
  first = found_with r1 first o1 (cell x1 w1);
  second = found_with r2 second o2 (cell x2 w2);
  third = found_with r3 third o3 (cell x3 w3);
}

-- a destination in the window
put_one : (f : Cell → ℕ) (w : Window) (ac : ℕ) (o : Operand) (d word quality : ℕ) (l : List ℕ) → o ≡ Register d → inside w d ≡ true
    → stored_one f w (destination_left ac o word quality) l ≡ set l d (f (cell (destination_tag ac quality) word))
unfolding destination_left stored_one stored
put_one f w ac o d word quality l e i = rw (e, i)

-- no data word is written
pub no_datum : (row : Row) (n : Memory) → n ≡ written (data_word_window row) (None ∷ []) n
unfolding written stored_all stored_one
no_datum row n = refl

-- the process goes on with a PSW that is told
pub continued : (pt fresh q p : ℕ) (psws psws' : List ℕ) → psws' ≡ set psws pt q → q ≡ p → psws' ≡ fate_psws pt fresh (fate.Continues p) psws
unfolding fate_psws
continued pt fresh q p psws psws' e f = e ∙ ap (set psws pt) f

module _ (row : Row) (tags words : List ℕ) (constants : Memory) (first second third : ℕ)
    (r1 : Role) (o1 : Operand) (a1 x1 w1 : ℕ) (p1 : Operated row tags words constants r1 first o1 a1 x1 w1)
    (r2 : Role) (o2 : Operand) (a2 x2 w2 : ℕ) (p2 : Operated row tags words constants r2 second o2 a2 x2 w2)
    (r3 : Role) (o3 : Operand) (a3 x3 w3 : ℕ) (p3 : Operated row tags words constants r3 third o3 a3 x3 w3)
    (n : Memory) (pt fresh : ℕ) (psws : List ℕ) where
  -- the tags before the step
  abbrev t1 : ℕ
  t1 = tag_in r1 first a1 x1 constants.tags

  abbrev t2 : ℕ
  t2 = tag_in r2 second a2 x2 constants.tags

  abbrev t3 : ℕ
  t3 = tag_in r3 third a3 x3 constants.tags

  found_here : all_found_at (memory tags words) constants (roles r1 r2 r3) first second third o1 o2 o3 ≡ operands_at r1 r2 r3 first second third o1 o2 o3 t1 w1 t2 w2 t3 w3
  unfolding all_found_at found_at
  found_here = rw (p1.holds, p2.holds, p3.holds)

  -- sources are set empty first, then the destination is written
  sources_tags : stored_one tag_of (register_window row) (left_of (found_with r3 third o3 (cell t3 w3))) (stored_one tag_of (register_window row) (left_of (found_with r2 second o2 (cell t2 w2))) (stored_one tag_of (register_window row) (left_of (found_with r1 first o1 (cell t1 w1))) tags)) ≡ left_in r3 third a3 x3 (left_in r2 second a2 x2 (left_in r1 first a1 x1 tags))
  unfolding left_of
  sources_tags = rw (p1.tags_left tags, p2.tags_left (left_in r1 first a1 x1 tags), p3.tags_left (left_in r2 second a2 x2 (left_in r1 first a1 x1 tags)))

  sources_words : stored_one word_of (register_window row) (left_of (found_with r3 third o3 (cell t3 w3))) (stored_one word_of (register_window row) (left_of (found_with r2 second o2 (cell t2 w2))) (stored_one word_of (register_window row) (left_of (found_with r1 first o1 (cell t1 w1))) words)) ≡ words
  unfolding left_of
  sources_words = rw (p1.words_left, p2.words_left, p3.words_left)

  -- an execution without a destination
  pub executes_sources : (datum : Option (ℕ × Cell)) (fate : Fate) (r : Course) (psws' tags' : List ℕ) (n' : Memory) → r ≡ fate_course fate → psws' ≡ fate_psws pt fresh fate psws
      → tags' ≡ left_in r3 third a3 x3 (left_in r2 second a2 x2 (left_in r1 first a1 x1 tags)) → n' ≡ written (data_word_window row) (datum ∷ []) n
      → Performs row (executed (operands_at r1 r2 r3 first second third o1 o2 o3 t1 w1 t2 w2 t3 w3) None datum fate) pt fresh r psws psws' (memory tags words) (memory tags' words) n n'
  unfolding executed written stored_all stored_one
  executes_sources datum fate r psws' tags' n' c f t h =
      performs_executes row pt fresh psws (memory tags words) n _ r psws' (memory tags' words) n' c f (rw (t, sources_tags, sources_words)) h

  -- an execution with a result for the destination d
  pub executes_result : (d : ℕ) → Destined row o1 d → (out : Outcome) (datum : Option (ℕ × Cell)) (fate : Fate) (r : Course) (psws' tags' words' : List ℕ) (n' : Memory)
      → r ≡ fate_course fate → psws' ≡ fate_psws pt fresh fate psws
      → tags' ≡ set (left_in r3 third a3 x3 (left_in r2 second a2 x2 (left_in r1 first a1 x1 tags))) d (destination_tag (access_of first) out.quality)
      → words' ≡ set words d out.word → n' ≡ written (data_word_window row) (datum ∷ []) n
      → Performs row (executed (operands_at r1 r2 r3 first second third o1 o2 o3 t1 w1 t2 w2 t3 w3) (result_in (found_with r1 first o1 (cell t1 w1)) out) datum fate)
      pt fresh r psws psws' (memory tags words) (memory tags' words') n n'
  unfolding executed written stored_all stored_one result_in
  executes_result d z out datum fate r psws' tags' words' n' c f t w h =
      performs_executes row pt fresh psws (memory tags words) n _ r psws' (memory tags' words') n' c f
      (rw (
        t,
        w,
        sources_tags,
        sources_words,
        put_one tag_of (register_window row) (access_of first) o1 d out.word out.quality (left_in r3 third a3 x3 (left_in r2 second a2 x2 (left_in r1 first a1 x1 tags))) z.register z.within,
        put_one word_of (register_window row) (access_of first) o1 d out.word out.quality words z.register z.within,
      ))
      h

  module _ (op : Operation) (v : Environment) (i : Instruction) (waits : Bool)
      (w : waits ≡ waits_in r1 (access_of first) x1 || (waits_in r2 (access_of second) x2 || waits_in r3 (access_of third) x3)) where
    here_waits : operands_wait (operands_at r1 r2 r3 first second third o1 o2 o3 t1 w1 t2 w2 t3 w3) ≡ waits
    unfolding operands_wait operand_waits
    here_waits =
        rw (waits_in_lem r1 (access_of first) t1, waits_in_lem r2 (access_of second) t2, waits_in_lem r3 (access_of third) t3, p1.waits, p2.waits, p3.waits) (sym w)

    pub found_waits : waits ≡ true
        → Performs row (decide_found op v i (all_found_at (memory tags words) constants (roles r1 r2 r3) first second third o1 o2 o3))
        pt fresh go.Waits psws psws (memory tags words) (memory tags words) n n
    unfolding decide_found
    found_waits e =
        performs_along row _ _ pt fresh go.Waits psws psws (memory tags words) (memory tags words) n n (rw (found_here, here_waits, e))
        (performs_waits row pt fresh psws (memory tags words) n Access)

    module _ (free : waits ≡ false) (psw : ℕ) (of : v.psw ≡ psw) (masked : Bool)
        (m : masked ≡ masked_in r1 psw t1 || (masked_in r2 psw t2 || masked_in r3 psw t3)) where
      here_masked : operands_masked v.psw (operands_at r1 r2 r3 first second third o1 o2 o3 t1 w1 t2 w2 t3 w3) ≡ masked
      unfolding operands_masked operand_masked
      here_masked = rw (of, masked_in_lem r1 psw t1, masked_in_lem r2 psw t2, masked_in_lem r3 psw t3) (sym m)

      pub found_masked : masked ≡ true → psw ≡ get_or psws pt 0
          → Performs row (decide_found op v i (all_found_at (memory tags words) constants (roles r1 r2 r3) first second third o1 o2 o3))
          pt fresh go.DataException psws psws (memory tags words) (memory tags words) n n
      unfolding decide_found trap_course
      found_masked e own =
          performs_along row _ _ pt fresh go.DataException psws psws (memory tags words) (memory tags words) n n (rw (found_here, here_waits, free, here_masked, e))
          (performs_traps row pt fresh psws (memory tags words) n trap.DataException v.psw go.DataException refl (of ∙ own))

      -- else it does what the operation performs
      pub found_performs : masked ≡ false → (d : Decision) → d ≡ perform op v i (operands_at r1 r2 r3 first second third o1 o2 o3 t1 w1 t2 w2 t3 w3)
          → (r : Course) (psws' : List ℕ) (m' n' : Memory) → Performs row d pt fresh r psws psws' (memory tags words) m' n n'
          → Performs row (decide_found op v i (all_found_at (memory tags words) constants (roles r1 r2 r3) first second third o1 o2 o3))
          pt fresh r psws psws' (memory tags words) m' n n'
      unfolding decide_found
      found_performs e d k r psws' m' n' p =
          performs_along row d _ pt fresh r psws psws' (memory tags words) m' n n' (rw (found_here, here_waits, free, here_masked, e) k) p

      -- an operation without a destination that leaves the data words
      pub found_executes : masked ≡ false → (f : Fate) → executed (operands_at r1 r2 r3 first second third o1 o2 o3 t1 w1 t2 w2 t3 w3) None None f ≡ perform op v i (operands_at r1 r2 r3 first second third o1 o2 o3 t1 w1 t2 w2 t3 w3)
          → (r : Course) (psws' tags' : List ℕ) → r ≡ fate_course f → psws' ≡ fate_psws pt fresh f psws → tags' ≡ left_in r3 third a3 x3 (left_in r2 second a2 x2 (left_in r1 first a1 x1 tags))
          → Performs row (decide_found op v i (all_found_at (memory tags words) constants (roles r1 r2 r3) first second third o1 o2 o3))
          pt fresh r psws psws' (memory tags words) (memory tags' words) n n
      found_executes e f k r psws' tags' c g t =
          found_performs e _ k r psws' (memory tags' words) n (executes_sources None f r psws' tags' n c g t (no_datum row n))

      -- an operation that writes a result and leaves the data words
      pub found_writes : masked ≡ false → (out : Outcome) (f : Fate)
          → executed (operands_at r1 r2 r3 first second third o1 o2 o3 t1 w1 t2 w2 t3 w3) (result_in (found_with r1 first o1 (cell t1 w1)) out) None f ≡ perform op v i (operands_at r1 r2 r3 first second third o1 o2 o3 t1 w1 t2 w2 t3 w3)
          → (d : ℕ) → Destined row o1 d → (r : Course) (psws' tags' words' : List ℕ) → r ≡ fate_course f → psws' ≡ fate_psws pt fresh f psws
          → tags' ≡ set (left_in r3 third a3 x3 (left_in r2 second a2 x2 (left_in r1 first a1 x1 tags))) d (destination_tag (access_of first) out.quality) → words' ≡ set words d out.word
          → Performs row (decide_found op v i (all_found_at (memory tags words) constants (roles r1 r2 r3) first second third o1 o2 o3))
          pt fresh r psws psws' (memory tags words) (memory tags' words') n n
      found_writes e out f k d z r psws' tags' words' c g t w =
          found_performs e _ k r psws' (memory tags' words') n (executes_result d z out None f r psws' tags' words' n c g t w (no_datum row n))

      -- the same, ending with PC + 1
      pub found_result : masked ≡ false → (out : Outcome) → perform_result v (operands_at r1 r2 r3 first second third o1 o2 o3 t1 w1 t2 w2 t3 w3) out ≡ perform op v i (operands_at r1 r2 r3 first second third o1 o2 o3 t1 w1 t2 w2 t3 w3) → (d : ℕ) → Destined row o1 d
          → (r : Course) (next : ℕ) (psws' tags' words' : List ℕ) → r ≡ go.Continues → next ≡ next_of psw → psws' ≡ set psws pt next
          → tags' ≡ set (left_in r3 third a3 x3 (left_in r2 second a2 x2 (left_in r1 first a1 x1 tags))) d (destination_tag (access_of first) out.quality)
          → words' ≡ set words d out.word
          → Performs row (decide_found op v i (all_found_at (memory tags words) constants (roles r1 r2 r3) first second third o1 o2 o3))
          pt fresh r psws psws' (memory tags words) (memory tags' words') n n
      unfolding perform_result fate_course
      found_result e out k d z r next psws' tags' words' c g f t w =
          found_writes e out (fate.Continues (next_of v.psw)) k d z r psws' tags' words' c (continued pt fresh next (next_of v.psw) psws psws' f (g ∙ ap next_of (sym of))) t w
