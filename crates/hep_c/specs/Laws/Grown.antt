-- The image after a run is longer by at most `growth` bytes than the one before it: rows and memories keep their lengths, and 64 processes have 10 bytes each.
use Rattle.std.specs.Prelude.{ℕ, ◌+◌, ◌≤◌, ◌≡◌, true, List, length}
use Rattle.std.proofs.Common.{sym, ◌∙◌, arith}
use Rattle.std.proofs.lemmas.List.{length-map}
use Rattle.window.specs.declared.Cell.{Cell}
use Rattle.window.specs.Memories.{Memory, tag_of, word_of}
use Rattle.step.specs.State.{State}
use Rattle.step.specs.Soundness.{sound}
use Rattle.step.proofs.Laws.Lengths.{SameLengths}
use Rattle.image.specs.Image.{Image, good, cells_of, memory_of, state_of, image_of, decode, encode}
use Rattle.image.proofs.RoundTrips.{written_then_read}
use Rattle.image_bytes.specs.Laws.Bytes.{cells_length_lem}
use Rattle.library.specs.Buffers.{sizes_of}
use Rattle.image_check.specs.Code.Places.{processes_place, constants_place, registers_place, program_place, data_place, end_place}
use Rattle.image_read.specs.Laws.Few.{found_few, found_image}
use Rattle.hep_c.specs.Answers.{growth}

-- a memory with the lengths of one that was read has as many cells
as_many_cells : (m : Memory) (cells : List Cell) → length m.tags ≡ length (memory_of cells).tags → length m.words ≡ length (memory_of cells).words
    → length (cells_of m.tags m.words) ≡ length cells
unfolding memory_of
as_many_cells m cells h k =
    let e : length m.words ≡ length cells = k ∙ length-map cells word_of in
    cells_length_lem m.tags m.words (h ∙ length-map cells tag_of ∙ sym e) ∙ e

-- an accepted image has as many bytes as its sizes say, and at most 64 processes
pub grown : (bytes : List ℕ) (i : Image) (s : State) → decode bytes ≡ good i → sound s ≡ true → SameLengths s (state_of i)
    → length (encode s) ≤ length bytes + growth
unfolding sizes_of image_of state_of memory_of end_place data_place program_place registers_place constants_place processes_place
grown bytes i s d e k =
    let f = found_image bytes i d in
    let g = found_image (encode s) (image_of s) (written_then_read s e) in
    let c : length (cells_of s.constants.tags s.constants.words) ≡ length i.constants =
    as_many_cells s.constants i.constants k.constant_tags k.constant_words in
    let r : length (cells_of s.registers.tags s.registers.words) ≡ length i.registers =
    as_many_cells s.registers i.registers k.register_tags k.register_words in
    let w : length (cells_of s.data_words.tags s.data_words.words) ≡ length i.data_words =
    as_many_cells s.data_words i.data_words k.data_tags k.data_words in
    omega (arith, f.ends, g.ends, (found_few (sizes_of (state_of (image_of s))) (encode s) g).1, c, r, w, k.rows, k.program, length-map i.constants word_of, length-map i.registers word_of, length-map i.data_words word_of, length-map (cells_of s.constants.tags s.constants.words) word_of, length-map (cells_of s.registers.tags s.registers.words) word_of, length-map (cells_of s.data_words.tags s.data_words.words) word_of)
