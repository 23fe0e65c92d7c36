-- What a decision writes are sound cells and sound PSWs, where the environment is sound; and it creates only with the flag down.
use Rattle.std.specs.Prelude.{◌≡◌, Bool, cond, ◌&&◌, ℕ, ◌+◌, ◌*◌, ◌/◌, ◌%◌, ◌^◌, ◌≤◌, ◌<◌}
use Rattle.std.proofs.Math.Path.{refl}
use Rattle.std.proofs.Math.Bool.{true, false, not}
use Rattle.std.proofs.Common.{arith, eqb-true, Option, Some, None, Result, Ok, Err}
use Rattle.std.proofs.Math.Dec.{eqb}
use Rattle.word.specs.declared.Instruction.{Instruction}
use Rattle.word.specs.declared.Outcome.{Outcome}
use Rattle.word.specs.declared.Part.{Part}
use Rattle.word.specs.Fields.{psw_sound, pc_of, next_of, instruction_of}
use Rattle.word.proofs.Laws.Parts.{extracted_word, placed_word}
use Rattle.word.proofs.Laws.Bools.{either}
use Rattle.word.proofs.Laws.Words.{psw_sound_lem, next_sound, psw_word, not_word, eor_word, eqv_word, nand_word, nor_word, or_word, bitset_word, bitclr_word, encode1_word, encode0_word}
use Rattle.word.proofs.Laws.Words.{Fits, add_fits_lem, sub_fits_lem, mul_fits_lem}
use Rattle.window.specs.declared.Cell.{Cell}
use Rattle.window.specs.Windows.{place_in, program_window, byte_place}
use Rattle.window.specs.Sound.{word_sound, tag_sound, state_sound}
use Rattle.window.proofs.Laws.Sound.{word_sound_lem, sound_word, full_sound, empty_sound, quality_sound_lem}
use Rattle.operand.specs.declared.Role.{Role}
use Rattle.operand.specs.declared.Role.TheVariants.{Unused, Free, Destination, Source}
use Rattle.operand.specs.declared.Operand.{Operand}
use Rattle.operand.specs.declared.Operand.TheVariants.{Register, Constant, Absent}
use Rattle.operand.specs.Access.{code_line, emptying, source_left, destination_tag, destination_left}
use Rattle.operation.specs.declared.Roles.{Roles}
use Rattle.operation.specs.declared.Trap.{Trap}
use Rattle.operation.specs.declared.Trap.TheVariants as trap
use Rattle.operation.specs.declared.Three.{Three}
use Rattle.operation.specs.declared.Three.TheVariants.{Eor, Eqv, Nand, Nor, Or, Bitclr, Bitset, Add, Sub, Mul}
use Rattle.operation.specs.declared.Two.{Two}
use Rattle.operation.specs.declared.Two.TheVariants.{Mov, Not, Encode0, Encode1, Inc, Dec}
use Rattle.operation.specs.declared.One.{One}
use Rattle.operation.specs.declared.One.TheVariants.{Clr, Ones}
use Rattle.operation.specs.declared.Operation.{Operation}
use Rattle.operation.specs.declared.Operation.TheVariants as operation
use Rattle.operation.specs.declared.Code.{Code}
use Rattle.operation.specs.declared.Code.TheVariants.{Privileged, Simulated, Svc, Listed, Unlisted}
use Rattle.operation.specs.declared.FoundOperand.{FoundOperand}
use Rattle.operation.specs.declared.FoundOperands.{FoundOperands}
use Rattle.operation.specs.declared.Wait.TheVariants.{Create}
use Rattle.operation.specs.declared.Fate.{Fate}
use Rattle.operation.specs.declared.Fate.TheVariants.{Continues, Quits, Creates}
use Rattle.operation.specs.declared.Effects.{Effects}
use Rattle.operation.specs.declared.Decision.{Decision}
use Rattle.operation.specs.declared.Decision.TheVariants.{Waits, Traps, Executes}
use Rattle.operation.specs.Codes.{code_of}
use Rattle.operation.specs.Roles.{roles_of, svc_roles, illegal_fields, illegal_instruction, sac_of}
use Rattle.operation.specs.Results.{quality0, result_three, result_two, result_one}
use Rattle.operation.specs.Specified.{specified_part}
use Rattle.operation.specs.Environment.{Environment}
use Rattle.operation.specs.Perform.{left_of, executed, result_in, perform_result, test_of, branched, called, created, create_waits, create_fate}
use Rattle.operation.specs.Perform.{indirect_address, indexed_address, load_waits, load_leaves, load_part, store_waits, store_part, part_reach, data_reach, load_from, store_to}
use Rattle.operation.specs.Perform.{perform_branch, perform_call, perform_create, perform_quit, perform_load, perform_store, perform}
use Rattle.operation.specs.Decide.{found_operand, operands_wait, operands_masked, decide_found, found_operands, decide_lookups}
use Rattle.operation.specs.Decide.{decide_operands, decide_listed, decide_code, decide_fetched, decide}

-- what a task sees is sound
pub record SoundEnvironment (v : Environment) : Type 0 where
  pub psw : psw_sound v.psw ≡ true
  pub tags : (o : Operand) → tag_sound (v.cell o).tag ≡ true
  pub words : (o : Operand) → word_sound (v.cell o).word ≡ true
  pub data_words : (a : ℕ) → word_sound (v.datum a).word ≡ true

-- a write of a cell whose tag passes a test
abbrev pub SoundWrite : (ℕ → Bool) → Option (ℕ × Cell) → Type 0
SoundWrite tag None = Unit {0}
SoundWrite tag (Some (a, c)) = (tag c.tag ≡ true) × (word_sound c.word ≡ true)

abbrev pub SoundFate : (flag : ℕ) → Fate → Type 0
SoundFate flag (Continues p) = psw_sound p ≡ true
SoundFate flag Quits = Unit {0}
SoundFate flag (Creates p new) = (flag ≡ 0) × (psw_sound p ≡ true) × (psw_sound new ≡ true)

pub record SoundEffects (flag : ℕ) (e : Effects) : Type 0 where
  pub first : SoundWrite tag_sound e.first
  pub second : SoundWrite tag_sound e.second
  pub third : SoundWrite tag_sound e.third
  pub destination : SoundWrite tag_sound e.destination
  pub datum : SoundWrite state_sound e.datum
  pub fate : SoundFate flag e.fate

abbrev pub SoundDecision : (flag : ℕ) → Decision → Type 0
SoundDecision flag (Waits w) = Unit {0}
SoundDecision flag (Traps k p) = psw_sound p ≡ true
SoundDecision flag (Executes e) = SoundEffects flag e

-- a looked up field whose cell is sound
pub record SoundOperand (s : FoundOperand) : Type 0 where
  pub tag : tag_sound s.cell.tag ≡ true
  pub word : word_sound s.cell.word ≡ true

pub record SoundOperands (s : FoundOperands) : Type 0 where
  pub first : SoundOperand s.first
  pub second : SoundOperand s.second
  pub third : SoundOperand s.third

pub record SoundOutcome (r : Outcome) : Type 0 where
  pub word : word_sound r.word ≡ true
  pub quality : r.quality ≤ 6

quality0_sound : (w : ℕ) → word_sound w ≡ true → SoundOutcome (quality0 w)
quality0_sound w h = record { word = h; quality = omega arith }

-- every result is a word with a quality, where its sources are words
plain_sound : (w : ℕ) → w < 2 ^ 64 → SoundOutcome (quality0 w)
plain_sound w h = quality0_sound w (word_sound_lem w h)

fits_sound : (r : Outcome) → Fits r → SoundOutcome r
fits_sound r f = record { word = word_sound_lem _ f.word; quality = f.quality }

three_sound : (op : Three) (a b : ℕ) → a < 2 ^ 64 → SoundOutcome (result_three op a b)
unfolding result_three
three_sound Eor a b h = plain_sound _ (eor_word a b)
three_sound Eqv a b h = plain_sound _ (eqv_word a b)
three_sound Nand a b h = plain_sound _ (nand_word a b)
three_sound Nor a b h = plain_sound _ (nor_word a b)
three_sound Or a b h = plain_sound _ (or_word a b)
three_sound Bitclr a b h = plain_sound _ (bitclr_word a b h)
three_sound Bitset a b h = plain_sound _ (bitset_word a b h)
three_sound Add a b h = fits_sound _ (add_fits_lem a b)
three_sound Sub a b h = fits_sound _ (sub_fits_lem a b)
three_sound Mul a b h = fits_sound _ (mul_fits_lem a b)

two_sound : (op : Two) (a : ℕ) → a < 2 ^ 64 → SoundOutcome (result_two op a)
unfolding result_two
two_sound Mov a h = plain_sound _ h
two_sound Not a h = plain_sound _ (not_word a)
two_sound Encode0 a h = plain_sound _ (encode0_word a)
two_sound Encode1 a h = plain_sound _ (encode1_word a)
two_sound Inc a h = fits_sound _ (add_fits_lem a 1)
two_sound Dec a h = fits_sound _ (sub_fits_lem a 1)

one_sound : (op : One) → SoundOutcome (result_one op)
unfolding result_one
one_sound Clr = plain_sound _ (omega arith)
one_sound Ones = plain_sound _ (omega arith)

emptying_sound : (o : Operand) (c : Cell) → tag_sound c.tag ≡ true → word_sound c.word ≡ true → SoundWrite tag_sound (emptying o c)
unfolding emptying
emptying_sound (Register a) c t w = (empty_sound (c.tag % 8) (quality_sound_lem c.tag t), w)
emptying_sound (Constant a) c t w = tt
emptying_sound Absent c t w = tt

source_sound : (role : Role) (ac : ℕ) (o : Operand) (c : Cell) → tag_sound c.tag ≡ true → word_sound c.word ≡ true
    → SoundWrite tag_sound (source_left role ac o c)
unfolding source_left
source_sound Unused ac o c t w = tt
source_sound Free ac o c t w = tt
source_sound Destination ac o c t w = tt
source_sound Source ac o c t w = either (SoundWrite tag_sound) (code_line ac).source_emptied (emptying_sound o c t w) tt

tag_sound_lem : (ac q : ℕ) → q ≤ 6 → tag_sound (destination_tag ac q) ≡ true
unfolding destination_tag
tag_sound_lem ac q h =
    either (λ (t : ℕ). tag_sound t ≡ true) (code_line ac).destination_emptied (empty_sound (q % 8) (omega arith)) (full_sound (q % 8) (omega arith))

destination_sound : (ac : ℕ) (o : Operand) (w q : ℕ) → word_sound w ≡ true → q ≤ 6 → SoundWrite tag_sound (destination_left ac o w q)
unfolding destination_left
destination_sound ac (Register a) w q h k = (tag_sound_lem ac q k, h)
destination_sound ac (Constant a) w q h k = tt
destination_sound ac Absent w q h k = tt

result_sound : (s : FoundOperand) (r : Outcome) → SoundOutcome r → SoundWrite tag_sound (result_in s r)
unfolding result_in
result_sound s r h = destination_sound s.access s.operand r.word r.quality h.word h.quality

left_sound : (s : FoundOperand) → SoundOperand s → SoundWrite tag_sound (left_of s)
unfolding left_of
left_sound s h = source_sound s.role s.access s.operand s.cell h.tag h.word

-- every operation and every code, in a sound environment: `next_sound` and `psw_sound_lem` give each PSW, `executed_sound` each write
module _ (v : Environment) (h : SoundEnvironment v) where
  next_word : word_sound (next_of v.psw) ≡ true
  next_word = word_sound_lem _ (psw_word _ (next_sound v.psw))

  module _ (s : FoundOperands) (k : SoundOperands s) where
    executed_sound : (destination datum : Option (ℕ × Cell)) (fate : Fate) → SoundWrite tag_sound destination → SoundWrite state_sound datum → SoundFate v.flag fate
        → SoundDecision v.flag (executed s destination datum fate)
    unfolding executed
    executed_sound destination datum fate p q r = record {
      first = left_sound s.first k.first;
      second = left_sound s.second k.second;
      third = left_sound s.third k.third;
      destination = p;
      datum = q;
      fate = r;
    }

    perform_result_sound : (r : Outcome) → SoundOutcome r → SoundDecision v.flag (perform_result v s r)
    unfolding perform_result
    perform_result_sound r o = executed_sound _ _ _ (result_sound s.first r o) tt (next_sound v.psw)

    branch_sound : (c p : ℕ) → SoundDecision v.flag (perform_branch v s c p)
    unfolding perform_branch branched
    branch_sound c p =
        executed_sound _ _ _ tt tt (either (λ (x : ℕ). psw_sound x ≡ true) (test_of v s c) (psw_sound_lem _ _ _ _) (next_sound v.psw))

    call_sound : (c : ℕ) → SoundDecision v.flag (perform_call v s c)
    unfolding perform_call called
    call_sound c =
        executed_sound _ _ _ (result_sound s.first _ (quality0_sound _ next_word)) tt
        (either (λ (x : ℕ). psw_sound x ≡ true) (test_of v s c) (psw_sound_lem _ _ _ _) (next_sound v.psw))

    -- a process is created with the flag down
    create_sound : (c act : ℕ) → SoundDecision v.flag (perform_create v s c act)
    unfolding perform_create create_waits create_fate created
    create_sound c act = go (test_of v s c) (eqb v.flag 0) refl
      where
        go : (holds down : Bool) → eqb v.flag 0 ≡ down
            → SoundDecision v.flag (cond (holds && not down) (Waits Create) (executed s None None (create_fate holds act v.psw s.second.cell.word)))
        go true true e = executed_sound _ _ _ tt tt (eqb-true v.flag 0 e, next_sound v.psw, psw_sound_lem _ _ _ _)
        go true false e = tt
        go false down e = executed_sound _ _ _ tt tt (next_sound v.psw)

    quit_sound : (c : ℕ) → SoundDecision v.flag (perform_quit v s c)
    unfolding perform_quit
    quit_sound c = executed_sound _ _ _ tt tt (either (SoundFate v.flag) (test_of v s c) tt (next_sound v.psw))

    load_sound : (low a : ℕ) (part : Part) → SoundDecision v.flag (load_part v.psw s low a part (v.datum a))
    unfolding load_part load_leaves state_sound
    load_sound low a part =
        let w : word_sound (v.datum a).word ≡ true = h.data_words a in
        either (SoundDecision v.flag) (load_waits low (v.datum a).tag) tt
        (executed_sound _ _ _ (result_sound s.first _ (quality0_sound _ (word_sound_lem _ (extracted_word part _ (sound_word _ w)))))
        (either (SoundWrite state_sound) (eqb (sac_of low) 2) (refl, w) tt) (next_sound v.psw))

    store_sound : (low word a : ℕ) (part : Part) → word_sound word ≡ true → SoundDecision v.flag (store_part v.psw s low word a part (v.datum a))
    unfolding store_part state_sound
    store_sound low word a part w =
        either (SoundDecision v.flag) (store_waits low (v.datum a).tag) tt
        (executed_sound _ _ _ tt (refl, word_sound_lem _ (placed_word part _ _ (sound_word _ w) (sound_word _ (h.data_words a)))) (next_sound v.psw))

    part_sound : (P : Result (ℕ × Part) Trap → Type 0) (a : ℕ) (r : Option Part) → ((b : ℕ) (part : Part) → P (Ok (b, part))) → ((k : Trap) → P (Err k)) → P (part_reach a r)
    unfolding part_reach
    part_sound P a (Some part) f g = f a part
    part_sound P a None f g = g _

    reach_sound : (P : Result (ℕ × Part) Trap → Type 0) (low e : ℕ) (p : Option ℕ) → ((a : ℕ) (part : Part) → P (Ok (a, part))) → ((k : Trap) → P (Err k)) → P (data_reach low e p)
    unfolding data_reach
    reach_sound P low e (Some a) f g = part_sound P (a / 8) (specified_part low e) f g
    reach_sound P low e None f g = g trap.ProtectionViolation

    perform_load_lem : (low e : ℕ) → SoundDecision v.flag (perform_load v s low e)
    unfolding perform_load load_from
    perform_load_lem low e = reach_sound (λ r. SoundDecision v.flag (load_from v s low r)) low e (byte_place v.row e) (load_sound low) (λ k. h.psw)

    perform_store_lem : (low word e : ℕ) → word_sound word ≡ true → SoundDecision v.flag (perform_store v s low word e)
    unfolding perform_store store_to
    perform_store_lem low word e w =
        reach_sound (λ r. SoundDecision v.flag (store_to v s low word r)) low e (byte_place v.row e) (λ a part. store_sound low word a part w) (λ k. h.psw)

    perform_sound : (op : Operation) (i : Instruction) → SoundDecision v.flag (perform op v i s)
    unfolding perform
    perform_sound operation.Nop i = executed_sound _ _ _ tt tt (next_sound v.psw)
    perform_sound (operation.Three op) i = perform_result_sound _ (three_sound op _ _ (sound_word _ k.second.word))
    perform_sound (operation.Two op) i = perform_result_sound _ (two_sound op _ (sound_word _ k.second.word))
    perform_sound (operation.One op) i = perform_result_sound _ (one_sound op)
    perform_sound (operation.Branch c p) i = branch_sound c (p * 2 ^ 16 + i.first)
    perform_sound (operation.Call c) i = call_sound c
    perform_sound (operation.Create c act) i = create_sound c act
    perform_sound (operation.Quit c) i = quit_sound c
    perform_sound (operation.LoadIndirect low) i = perform_load_lem low (indirect_address s)
    perform_sound (operation.LoadIndexed low) i = perform_load_lem low (indexed_address s)
    perform_sound (operation.StoreIndirect low) i = perform_store_lem low s.third.cell.word (indirect_address s) k.third.word
    perform_sound (operation.StoreIndexed low) i = perform_store_lem low s.first.cell.word (indexed_address s) k.first.word

    found_sound : (op : Operation) (i : Instruction) → SoundDecision v.flag (decide_found op v i s)
    unfolding decide_found
    found_sound op i =
        either (SoundDecision v.flag) (operands_wait s) tt (either (SoundDecision v.flag) (operands_masked v.psw s) h.psw (perform_sound op i))

  operand_sound : (role : Role) (f : ℕ) (o : Operand) → SoundOperand (found_operand v role f o)
  unfolding found_operand
  operand_sound role f o = record { tag = h.tags o; word = h.words o }

  lookups_sound : (r : Roles) (op : Operation) (i : Instruction) (l m n : Option Operand) → SoundDecision v.flag (decide_lookups r op v i l m n)
  unfolding decide_lookups found_operands
  lookups_sound r op i (Some a) (Some b) (Some c) =
      found_sound _ (record { first = operand_sound _ _ a; second = operand_sound _ _ b; third = operand_sound _ _ c }) op i
  lookups_sound r op i (Some a) (Some b) None = h.psw
  lookups_sound r op i (Some a) None n = h.psw
  lookups_sound r op i None m n = h.psw

  operands_sound : (r : Roles) (op : Operation) (i : Instruction) → SoundDecision v.flag (decide_operands r op v i)
  unfolding decide_operands
  operands_sound r op i = lookups_sound r op i _ _ _

  code_sound : (c : Code) (i : Instruction) → SoundDecision v.flag (decide_code c v i)
  unfolding decide_code decide_listed
  code_sound Privileged i = h.psw
  code_sound Simulated i = h.psw
  code_sound Unlisted i = h.psw
  code_sound Svc i = either (SoundDecision v.flag) (illegal_fields svc_roles i) h.psw (next_sound v.psw)
  code_sound (Listed op) i = either (SoundDecision v.flag) (illegal_instruction (roles_of op) op i) h.psw (operands_sound (roles_of op) op i)

  fetched_sound : (p : Option ℕ) → SoundDecision v.flag (decide_fetched v p)
  unfolding decide_fetched
  fetched_sound (Some a) = code_sound (code_of (instruction_of (v.program_word a)).code) (instruction_of (v.program_word a))
  fetched_sound None = h.psw

pub decide_sound : (v : Environment) → SoundEnvironment v → SoundDecision v.flag (decide v)
unfolding decide
decide_sound v h = fetched_sound v h (place_in (program_window v.row) (pc_of v.psw))
