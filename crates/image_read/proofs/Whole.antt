-- The buffers, filled section by section, hold the state that is read.
use Prim.Native.Nat.{ℕ, ◌+◌}
use mathlib.Core.Path.{◌≡◌, sym, ap₂, ◌∙◌}
use mathlib.Core.List.{List}
use Rattle.window.specs.declared.Row.{Row}
use Rattle.step.specs.declared.ProcessTable.{ProcessTable}
use Rattle.step.specs.Queues.{live_counts, live_total}
use Rattle.image.specs.Codec.{Bytes}
use Rattle.image.proofs.Laws.Accepted.{decode_accepted}
use Rattle.image.proofs.Laws.LiveCounts.{accepted_total}
use Rattle.image.specs.Image.{queues_of, psw_table, memory_of, state_of, process_length, tasks_length, constants_begin, registers_begin, program_begin, data_begin}
use Rattle.image.specs.Fields.{over}
use Rattle.image_bytes.specs.Code.Reading.{field_at, words_at, cells_at}
use Rattle.library.specs.declared.Sizes.{Sizes}
use Rattle.library.specs.Buffers.{holding}
use Rattle.library.specs.Held.{lent_buffers}
use Rattle.image_bytes.specs.Laws.Listed.{length_listed}
use Rattle.image_check.specs.Laws.Found.{Found}
use Rattle.image_check.specs.Code.Places.{process_at, processes_at, processes_place, constants_place, registers_place, program_place, data_place, image_at}

pub all_filled : (n : Sizes) (m : ℕ) (s : List ℕ) (rows : List Row) (t : ProcessTable) (constant_tags constant_words register_tags register_words program data_tags data_words : List ℕ)
    {constant_tags' constant_words' register_tags' register_words' program' data_tags' data_words' : List ℕ} → m ≡ field_at 1 (tasks_length n.rows) s
    → (constant_tags' ≡ over (memory_of (cells_at n.constants (constants_begin n.rows m + 2) s)).tags constant_tags)
    × (constant_words' ≡ over (memory_of (cells_at n.constants (constants_begin n.rows m + 2) s)).words constant_words)
    → (register_tags' ≡ over (memory_of (cells_at n.registers (registers_begin n.rows m n.constants + 2) s)).tags register_tags)
    × (register_words' ≡ over (memory_of (cells_at n.registers (registers_begin n.rows m n.constants + 2) s)).words register_words)
    → program' ≡ over (words_at n.program (program_begin n.rows m n.constants n.registers + 4) s) program
    → (data_tags' ≡ over (memory_of (cells_at n.data_words (data_begin n.rows m n.constants n.registers n.program + 4) s)).tags data_tags)
    × (data_words' ≡ over (memory_of (cells_at n.data_words (data_begin n.rows m n.constants n.registers n.program + 4) s)).words data_words)
    → lent_buffers (over (image_at n s).rows rows) (state_of (image_at n s)).table constant_tags' constant_words' register_tags' register_words' program' data_tags' data_words'
    ≡ holding (state_of (image_at n s)) (lent_buffers rows t constant_tags constant_words register_tags register_words program data_tags data_words)
unfolding holding state_of image_at processes_place constants_place registers_place program_place data_place
all_filled n m s rows t constant_tags constant_words register_tags register_words program data_tags data_words e c r p d = rw (c.0, c.1, r.0, r.1, p, d.0, d.1, e)

-- the table, from the section of m processes, all of which live
pub table_read : (n : Sizes) (m : ℕ) (s : List ℕ) {t : ProcessTable} → Bytes s → Found n s → m ≡ field_at 1 (tasks_length n.rows) s
    → t ≡ (record {
      users = record {
        psw = psw_table (processes_at m (tasks_length n.rows + 2) s);
        queues = queues_of 16 0 (processes_at m (tasks_length n.rows + 2) s);
        flag = field_at 1 (tasks_length n.rows + 1) s;
        live = live_counts (queues_of 16 0 (processes_at m (tasks_length n.rows + 2) s));
        count = m;
      };
    }) → t ≡ (state_of (image_at n s)).table
unfolding state_of image_at processes_place processes_at
table_read n m s hb f e i =
    let k : live_total (queues_of 16 0 (image_at n s).processes) ≡ m =
    accepted_total (image_at n s) (decode_accepted s hb (image_at n s) f.accepts).0 ∙ length_listed process_length (λ p. process_at p s) _ _ ∙ sym e in
    let at = tasks_length n.rows in
    i
    ∙ ap₂ {C = ProcessTable}
    (λ j l. record {
      users = record {
        psw = psw_table (processes_at j (at + 2) s);
        queues = queues_of 16 0 (processes_at j (at + 2) s);
        flag = field_at 1 (at + 1) s;
        live = live_counts (queues_of 16 0 (processes_at j (at + 2) s));
        count = l;
      };
    })
    e (sym k)
