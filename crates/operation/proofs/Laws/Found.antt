-- What an operation decides by what its lookups answer. An operand that is found lies in the window, so what is seen there is what stands there.
use Rattle.std.specs.Prelude.{◌≡◌, refl, get_or, Bool, true, false, cond, leb, List, ℕ, ◌/◌, ◌^◌}
use Rattle.std.proofs.Common.{sym, ap, ◌∙◌, true≢false, Option, Some, None, Ok}
use Rattle.std.proofs.Math.Path.{subst}
use Rattle.word.specs.declared.Instruction.{Instruction}
use Rattle.word.specs.declared.Part.{Part}
use Rattle.window.specs.declared.Row.{Row}
use Rattle.window.specs.Windows.{window_of, inside, place_in, program_window, data_window, data_word_window, byte_place}
use Rattle.window.proofs.Laws.Windows.{in_of, of_in, placed, word_inside}
use Rattle.window.specs.Memories.{Memory, cell_at, cell_in, seen}
use Rattle.window.proofs.Laws.Memories.{cell_inside, seen_inside}
use Rattle.operand.specs.declared.Role.{Role}
use Rattle.operand.specs.declared.Operand.{Operand}
use Rattle.operand.specs.Field.{lookup_of}
use Rattle.operand.specs.Laws.Operands.{Within, lookup_within, visible_within}
use Rattle.operation.specs.declared.Roles.{Roles}
use Rattle.operation.specs.declared.Operation.{Operation}
use Rattle.operation.specs.declared.Trap.TheVariants as trap
use Rattle.operation.specs.declared.Decision.TheVariants.{Traps}
use Rattle.word.specs.Fields.{pc_of, instruction_of}
use Rattle.operation.specs.declared.Code.{Code}
use Rattle.operation.specs.declared.Code.TheVariants.{Listed}
use Rattle.operation.specs.Codes.{code_of}
use Rattle.operation.specs.Roles.{roles_of, illegal_instruction}
use Rattle.operation.specs.Specified.{specified_part}
use Rattle.operation.specs.Perform.{part_reach, data_reach}
use Rattle.operation.specs.Environment.{Environment, environment_of}
use Rattle.operation.specs.Decide.{found_operand, decide_found, found_operands, decide_lookups, decide_operands, decide_listed, decide_code, decide_fetched, decide}
use Rattle.operation.specs.Code.FoundOperands.{found_at, all_found_at}

-- an answer that is told in two ways
pub told : {A : Type 0} {x y z : A} → x ≡ y → x ≡ z → y ≡ z
told e f = sym e ∙ f

module _ (r : Roles) (op : Operation) (row : Row) (psw flag : ℕ) (program : List ℕ) (constants registers data_words : Memory) (i : Instruction) where
  pub refused : illegal_instruction r op i ≡ true
      → Traps trap.IllegalInstruction psw ≡ decide_listed r op (environment_of row psw flag program constants registers data_words) i
  unfolding decide_listed environment_of
  refused e = rw e

  module _ (legal : illegal_instruction r op i ≡ false) where
    pub no_first : lookup_of r.first row psw i.first ≡ None
        → Traps trap.ProtectionViolation psw ≡ decide_listed r op (environment_of row psw flag program constants registers data_words) i
    unfolding decide_listed environment_of decide_operands decide_lookups
    no_first e = rw (legal, e)

    pub no_second : (a : Operand) → lookup_of r.first row psw i.first ≡ Some a → lookup_of r.second row psw i.second ≡ None
        → Traps trap.ProtectionViolation psw ≡ decide_listed r op (environment_of row psw flag program constants registers data_words) i
    unfolding decide_listed environment_of decide_operands decide_lookups
    no_second a d e = rw (legal, d, e)

    pub no_third : (a b : Operand) → lookup_of r.first row psw i.first ≡ Some a → lookup_of r.second row psw i.second ≡ Some b
        → lookup_of r.third row psw i.third ≡ None
        → Traps trap.ProtectionViolation psw ≡ decide_listed r op (environment_of row psw flag program constants registers data_words) i
    unfolding decide_listed environment_of decide_operands decide_lookups
    no_third a b d e f = rw (legal, d, e, f)

    operand_found : (role : Role) (f : ℕ) (o : Operand) → lookup_of role row psw f ≡ Some o
        → found_at registers constants role f o ≡ found_operand (environment_of row psw flag program constants registers data_words) role f o
    unfolding found_at found_operand environment_of
    operand_found role f o e =
        let w : Within row (Some o) = subst (Within row) e (lookup_within role row psw f) in
        rw (visible_within row registers constants o w)

    pub all_found : (a b c : Operand) → lookup_of r.first row psw i.first ≡ Some a → lookup_of r.second row psw i.second ≡ Some b
        → lookup_of r.third row psw i.third ≡ Some c
        → decide_found op (environment_of row psw flag program constants registers data_words) i
        (all_found_at registers constants r i.first i.second i.third a b c)
        ≡ decide_listed r op (environment_of row psw flag program constants registers data_words) i
    unfolding decide_listed environment_of decide_operands decide_lookups found_operands all_found_at
    all_found a b c d e f =
        rw (legal, d, e, f, operand_found r.first i.first a d, operand_found r.second i.second b e, operand_found r.third i.third c f)

-- a data word that is reached lies in the data window
pub reached_inside : (row : Row) (low e a : ℕ) (part : Part) → data_reach low e (byte_place row e) ≡ Ok (a, part) → inside (data_word_window row) a ≡ true
unfolding data_reach part_reach byte_place data_window data_word_window
reached_inside row low e a part = go (leb (2 ^ 31) e)
  where
    at : (b : ℕ) (s : Option Part) → inside (window_of 8 row.db row.dl) b ≡ true → part_reach (b / 8) s ≡ Ok (a, part)
        → inside (window_of 5 row.db row.dl) a ≡ true
    at b None i q = let z : true ≡ false = cc in absurd (true≢false z)
    at b (Some other) i q =
        let pair : (b / 8, other) ≡ (a, part) = cc in
        let z : b / 8 ≡ a = ap (λ (x : ℕ × Part). x.0) pair in
        subst (λ (n : ℕ). inside (window_of 5 row.db row.dl) n ≡ true) z
        (of_in _ _ (word_inside 3 5 row.db row.dl b (in_of _ _ i)))

    placed_at : (p : Option ℕ) → place_in (window_of 8 row.db row.dl) e ≡ p → data_reach low e p ≡ Ok (a, part) → inside (window_of 5 row.db row.dl) a ≡ true
    placed_at (Some b) i q = at b (specified_part low e) (placed _ e b i) q
    placed_at None i q = let z : true ≡ false = cc in absurd (true≢false z)

    go : (t : Bool) → data_reach low e (cond t None (place_in (window_of 8 row.db row.dl) e)) ≡ Ok (a, part)
        → inside (window_of 5 row.db row.dl) a ≡ true
    go true q = let z : true ≡ false = cc in absurd (true≢false z)
    go false q = placed_at _ refl q

-- so what is seen there is what stands there
pub reached_seen : (row : Row) (low e a : ℕ) (part : Part) → data_reach low e (byte_place row e) ≡ Ok (a, part) → (m : Memory)
    → cell_in (data_word_window row) m a ≡ cell_at m a
reached_seen row low e a part q m = cell_inside (data_word_window row) m a (reached_inside row low e a part q)

-- an operation under its own roles
pub under : (r : Roles) (op : Operation) (v : Environment) (i : Instruction) → roles_of op ≡ r → decide_listed r op v i ≡ decide_code (Listed op) v i
unfolding decide_code
under r op v i e = ap (λ (x : Roles). decide_listed x op v i) (sym e)

-- a program word that is reached is seen
pub fetched : (row : Row) (e a : ℕ) → place_in (program_window row) e ≡ Some a → (l : List ℕ) → seen (program_window row) l a ≡ get_or l a 0
fetched row e a q l = seen_inside (program_window row) l a (placed (program_window row) e a q)

-- a code and an operation that are told in two ways
pub as_code : (k l : Code) (v : Environment) (i : Instruction) → k ≡ l → decide_code l v i ≡ decide_code k v i
as_code k l v i e = ap (λ (x : Code). decide_code x v i) (sym e)

pub as_listed : (o p : Operation) (v : Environment) (i : Instruction) → o ≡ p → decide_code (Listed p) v i ≡ decide_code (Listed o) v i
as_listed o p v i e = ap (λ (x : Operation). decide_code (Listed x) v i) (sym e)

-- the instruction i at the real address a
pub fetches : (v : Environment) (a w : ℕ) (i : Instruction) (k : Code) → place_in (program_window v.row) (pc_of v.psw) ≡ Some a → v.program_word a ≡ w
    → i ≡ instruction_of w → k ≡ code_of i.code → decide_code k v i ≡ decide v
unfolding decide decide_fetched
fetches v a w i k p q r s = rw (p, q, s, r)
