-- The definitions up to the decision at once, for instances that compute.
use Rattle.word.specs.Fields.{instruction_of, ci_of, ri_of, utm_of, pc_of, psw_of, psw_sound, next_of}
use Rattle.word.specs.Vectors.{digits_by, not_of, eor_of, eqv_of, nand_of, nor_of, or_of}
use Rattle.word.specs.Bits.{bitset_of, bitclr_of, encode1_of, encode0_of, parity_of}
use Rattle.word.specs.Integers.{within, add_fits, sub_fits, quality_of, add_of, sub_of, magnitude_of, same_sign, most_of, mul_fits, mul_of}
use Rattle.word.specs.Tests.{tests, holds_of}
use Rattle.word.specs.Parts.{extracted, placed}
use Rattle.window.specs.Windows.{window_of, inside, place_in, register_window, program_window, data_window, data_word_window, byte_place, constant_place, meets}
use Rattle.window.specs.Memories.{cell_at, constant_at, seen, cell_in, stored, stored_one, stored_all, written}
use Rattle.window.specs.Sound.{bits, word_sound, quality_sound, tag_sound, state_sound}
use Rattle.operand.specs.Field.{indexed_of, constant_of, access_of, illegal_of, effective_of, illegal_field, register_lookup, source_lookup, destination_lookup, lookup_of}
use Rattle.operand.specs.Access.{visible_cell, access_codes, code_line, source_waits, destination_waits, waits_of, masked_of, emptying, source_left, destination_tag, destination_left}
use Rattle.operand.specs.Code.Cells.{operand_cell}
use Rattle.operation.specs.Codes.{find, privileged, simulated, single_codes, call_of, quit_of, data_code_of, families, family_of, single_of, code_of}
use Rattle.operation.specs.Roles.{roles_of, svc_roles, illegal_load, illegal_store, illegal_access, illegal_fields, illegal_instruction}
use Rattle.operation.specs.Results.{result_three, result_two, result_one}
use Rattle.operation.specs.Specified.{word_parts, specified_part}
use Rattle.operation.specs.Environment.{environment_of, kind_of}
use Rattle.operation.specs.Perform.{left_of, executed, result_in, perform_result, test_of, branched, perform_branch, called, perform_call, created, create_waits, create_fate, perform_create, perform_quit, indirect_address, indexed_address, load_waits, load_leaves, load_part, store_waits, store_part, part_reach, data_reach, load_from, perform_load, store_to, perform_store, perform}
use Rattle.operation.specs.Decide.{found_operand, operand_waits, operands_wait, operand_masked, operands_masked, decide_found, found_operands, decide_lookups, decide_operands, decide_listed, decide_code, decide_fetched, decide}
use Rattle.std.specs.Int.Count.{count_leading_zeros, ones_in}
use Rattle.std.specs.Prelude.{ℕ}

-- naming this opens all definitions
unfoldable pub opened : ℕ
unfolding instruction_of ci_of ri_of utm_of pc_of psw_of psw_sound next_of digits_by not_of eor_of eqv_of nand_of nor_of or_of bitset_of bitclr_of encode1_of encode0_of parity_of within add_fits sub_fits quality_of add_of sub_of magnitude_of same_sign most_of mul_fits mul_of tests holds_of extracted placed window_of inside place_in register_window program_window data_window data_word_window byte_place constant_place meets cell_at constant_at seen cell_in stored stored_one stored_all written bits word_sound quality_sound tag_sound state_sound indexed_of constant_of access_of illegal_of effective_of illegal_field register_lookup source_lookup destination_lookup lookup_of operand_cell visible_cell access_codes code_line source_waits destination_waits waits_of masked_of emptying source_left destination_tag destination_left find privileged simulated single_codes call_of quit_of data_code_of families family_of single_of code_of roles_of svc_roles illegal_load illegal_store illegal_access illegal_fields illegal_instruction result_three result_two result_one word_parts specified_part environment_of kind_of left_of executed result_in perform_result test_of branched perform_branch called perform_call created create_waits create_fate perform_create perform_quit indirect_address indexed_address load_waits load_leaves load_part store_waits store_part part_reach data_reach load_from perform_load store_to perform_store perform found_operand operand_waits operands_wait operand_masked operands_masked decide_found found_operands decide_lookups decide_operands decide_listed decide_code decide_fetched decide count_leading_zeros ones_in
opened = 0
