-- Records of many fields: each check goes on where the one before it stopped.
use Prim.Native.Nat.{ℕ, ◌+◌}
use mathlib.Core.Path.{◌≡◌, sym, ◌∙◌}
use mathlib.Core.Bool.{Bool}
use mathlib.Core.List.{List}
use native.Mathlib.Omega.{arith}
use lib.ListN.{drop}
use lib.Seq.{drop-drop}
use lib.Dec.{ltb}
use Rattle.window.specs.Limits.{most_constants, most_registers, most_program}
use Rattle.window.specs.Sound.{bits, tag_sound, state_sound, quality_sound}
use Rattle.step.specs.Soundness.{task_sound}
use Rattle.refusal.specs.declared.Refusal.TheVariants.{TaskField, ConstantField, CellField}
use Rattle.image.specs.Codec.{field, num}
use Rattle.image.specs.Image.{row_codec, to_row, from_row, row_task, tasks_codec, queue_of_byte, queue_after, processes_codec, words_codec, cells_codec, image_codec, to_image, from_image}
use Rattle.std.specs.Prelude.{Ok}
use Rattle.image_bytes.specs.Code.Reading.{field_at, number_at}
use Rattle.image_bytes.specs.Code.Scanning.{Scan, scan, value_at}
use Rattle.image_bytes.specs.Laws.Spans.{num_spans}
use Rattle.image_bytes.specs.Laws.Scans.{field_scan, then_scan, seq_scan, via_scan}
use Rattle.image_check.specs.Code.Places.{row_at, rows_at, process_at, trap_codec}
use Rattle.image_check.specs.Laws.Sections.{first_rows, tasks_spans, processes_spans, words_spans, cells_spans}

-- a row: its task, seven fields below a bound, and the trap record
pub row_scan : (before : ℕ) (s : List ℕ) (x : Scan) {t : ℕ} {ok : Bool} {c₁ c₂ c₃ c₄ c₅ c₆ c₇ c₈ : Scan} → t ≡ value_at 0 1 s x → ok ≡ task_sound before t
    → c₁ ≡ scan (num 1 TaskField (λ _. ok)).dec s x
    → c₂ ≡ scan (num 2 TaskField (λ v. ltb v 4096)).dec s c₁
    → c₃ ≡ scan (num 2 TaskField (λ v. ltb v 1024)).dec s c₂
    → c₄ ≡ scan (num 2 TaskField (λ v. ltb v 1024)).dec s c₃
    → c₅ ≡ scan (num 2 TaskField (λ v. ltb v 65536)).dec s c₄
    → c₆ ≡ scan (num 2 TaskField (λ v. ltb v 65536)).dec s c₅
    → c₇ ≡ scan (num 4 TaskField (λ v. ltb v 16777216)).dec s c₆
    → c₈ ≡ scan (num 4 TaskField (λ v. ltb v 16777216)).dec s c₇
    → scan (row_codec before).dec s x ≡ scan trap_codec.dec s c₈
unfolding row_codec trap_codec bits
row_scan before s x {c₁ = c₁} {c₂} {c₃} {c₄} {c₅} {c₆} {c₇} value test e₁ e₂ e₃ e₄ e₅ e₆ e₇ e₈ =
    via_scan to_row from_row _ s x
    ∙ field_scan 1 TaskField (task_sound before) (omega arith) s x value test e₁ _
    ∙ then_scan (num_spans 2 TaskField _) s c₁ e₂ _
    ∙ then_scan (num_spans 2 TaskField _) s c₂ e₃ _
    ∙ then_scan (num_spans 2 TaskField _) s c₃ e₄ _
    ∙ then_scan (num_spans 2 TaskField _) s c₄ e₅ _
    ∙ then_scan (num_spans 2 TaskField _) s c₅ e₆ _
    ∙ then_scan (num_spans 4 TaskField _) s c₆ e₇ _
    ∙ then_scan (num_spans 4 TaskField _) s c₇ e₈ _

-- the task that a record's check leads to is the number at its place
pub row_leads : (before : ℕ) (s : List ℕ) (p : ℕ) {v : ℕ} → v ≡ number_at 1 p s → (q : ℕ) → ◌≡◌ {A = Scan} (Ok p) (Ok q) → row_task before (row_at 0 (drop q s)) ≡ v
unfolding row_at number_at
row_leads before s p e q f = let z : p ≡ q = cc in rw (e, z)

pub process_leads : (before : ℕ) (s : List ℕ) (p : ℕ) {v k : ℕ} → v ≡ number_at 1 (p + 1) s → k ≡ queue_of_byte v → (q : ℕ) → ◌≡◌ {A = Scan} (Ok p) (Ok q)
    → queue_after before (process_at 0 (drop q s)) ≡ k
unfolding process_at number_at
process_leads before s p e f q g = let z : p ≡ q = cc in rw (f, e, z, drop-drop 1 q s)

-- the image: six sections
pub image_scan : (s : List ℕ) {c₁ c₂ c₃ c₄ c₅ c₆ : Scan} → c₁ ≡ scan tasks_codec.dec s (Ok 0)
    → c₂ ≡ scan (processes_codec (rows_at (field_at 1 0 s) s)).dec s c₁
    → c₃ ≡ scan (cells_codec ConstantField quality_sound 2 most_constants).dec s c₂
    → c₄ ≡ scan (cells_codec CellField tag_sound 2 most_registers).dec s c₃
    → c₅ ≡ scan (words_codec 4 1048576).dec s c₄
    → c₆ ≡ scan (cells_codec CellField state_sound 4 1048576).dec s c₅
    → scan image_codec.dec s (Ok 0) ≡ c₆
unfolding image_codec
image_scan s {c₁} {c₂} {c₃} {c₄} e₁ e₂ e₃ e₄ e₅ e₆ =
    via_scan to_image from_image _ s (Ok 0)
    ∙ seq_scan tasks_spans s (Ok 0) e₁ _ (rows_at (field_at 1 0 s) s) (λ p q. let z : ◌≡◌ {A = ℕ} 0 p = cc in rw (← z) (first_rows s (field 1 s)))
    ∙ then_scan (processes_spans (rows_at (field_at 1 0 s) s)) s c₁ e₂ _
    ∙ then_scan (cells_spans ConstantField quality_sound 2 most_constants) s c₂ e₃ _
    ∙ then_scan (cells_spans CellField tag_sound 2 most_registers) s c₃ e₄ _
    ∙ then_scan (words_spans 4 most_program) s c₄ e₅ _
    ∙ sym e₆
