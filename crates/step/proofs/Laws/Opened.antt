-- The definitions up to the step and the soundness of a state at once, for trials that compute.
use Rattle.std.specs.Prelude.{ℕ}
use Rattle.operation.proofs.Laws.Opened.{opened as below}
use Rattle.step.specs.Queues.{task_place, own_number, sfu_number, acting_number, ring, list_of, head_of, after_head, tail_index, turned, shifted, joined, live_pts, live_counts, live_total, hit, occ, free_from, lowest_free}
use Rattle.step.specs.State.{find_row, put_row, queue_in, live_count, with_queue, psws_of, processes_at, environment}
use Rattle.step.specs.Owned.{own}
use Rattle.step.specs.Act.{register_writes, data_writes, trapped_row, turned_at, left_at, joined_at, passed_to, executed_queues, waved_queues, actor_psws, created_psws, created_in, fault_in, fate_in, change_of, act}
use Rattle.step.specs.Step.{head_decides, row_decides, acted, attempt_row, attempt_by, has_process, step_follows, tries_of, after_try, item_by, item}
use Rattle.step.specs.Soundness.{every, member, distinct, task_sound, kinds, kind_sound, record_sound, bases_sound, row_sound, rows_sound, has_row, ends_in, row_ends_in, windows_sound, queue_shaped, may_hold, queues_sound, pt_sound, flag_sound, total_sound, processes_sound, alike, live_sound, table_sound, words_sound, memory_sound, memories_sound, sound}

-- naming this opens all of them
unfoldable pub opened : ℕ
unfolding below task_place own_number sfu_number acting_number ring list_of head_of after_head tail_index turned shifted joined live_pts live_counts live_total hit occ free_from lowest_free find_row put_row queue_in live_count with_queue psws_of processes_at environment own register_writes data_writes trapped_row turned_at left_at joined_at passed_to executed_queues waved_queues actor_psws created_psws created_in fault_in fate_in change_of act head_decides row_decides acted attempt_row attempt_by has_process step_follows tries_of after_try item_by item every member distinct task_sound kinds kind_sound record_sound bases_sound row_sound rows_sound has_row ends_in row_ends_in windows_sound queue_shaped may_hold queues_sound pt_sound flag_sound total_sound processes_sound alike live_sound table_sound words_sound memory_sound memories_sound sound
opened = 0
