-- The definitions up to the image at once, for trials that compute.
use Rattle.std.specs.Prelude.{ℕ}
use Rattle.run.proofs.Laws.Opened.{opened as below}
use Rattle.image.specs.Codec.{Bytes, bind, number, digits, field, num, count, seq, via, dec_many, enc_many, ok_many, section, no_header, list_section, uniform_section}
use Rattle.image.specs.Image.{row_codec, tasks_codec, queue_of_byte, byte_of_queue, byte_sound, process_codec, processes_codec, word_codec, words_codec, cell_codec, cells_codec, image_codec, pts_of, queue_of, queues_of, psw_table, memory_of, state_of, processes_in, processes_from, cells_of, image_of, after_sections, decode, encode}

-- naming this opens all of them
unfoldable pub opened : ℕ
unfolding below Bytes bind number digits field num count seq via dec_many enc_many ok_many section no_header list_section uniform_section row_codec tasks_codec queue_of_byte byte_of_queue byte_sound process_codec processes_codec word_codec words_codec cell_codec cells_codec image_codec pts_of queue_of queues_of psw_table memory_of state_of processes_in processes_from cells_of image_of after_sections decode encode
opened = 0
