-- All definitions that an example computes with, under one name: `unfolding computing` unfolds them all.
use mathlib.Core.List.{Option-to_list}
use Rattle.vrf_bitio.specs.Bits.{bit_of, bits_of, bytes_of}
use Rattle.vrf_bitio.specs.Reading.{◌>>=◌, return, position, bind_read}
use Rattle.vrf_bitio.specs.Window.{rest, window}
use Rattle.vrf_bitio.specs.Number.{byte, bytes, word32, signed, int32, chunks, packed, low_bytes, encode_word32, encode_chunks, encode_packed}
use Rattle.vrf_text.specs.Utf8.{lead, within, utf8_from, utf8}
use Rattle.vrf_text.specs.Text.{text_bytes, drop_zero, as_utf8, checked, text8, text16, text_of, fstring, encode_text, caller_text}
use Rattle.vrf_path.specs.Text.{same, starts_with, ends_with, first_from, last_below, non_empty}
use Rattle.vrf_path.specs.Keys.{default_prefix, core_segment, characters_root, characters_core, is_separator, has_separator, default_alias, core_alias_at, core_alias, keys, is_one_of, has_key}
use Rattle.vrf_path.specs.Leaf.{leaf_after, leaf}
use Rattle.vrf_path.specs.Toggle.{class_net_cache, toggle, with_toggles, class_net_cache_keys}
use Rattle.vrf_path.specs.Stems.{cuts_below, is_digit, is_capital, digits_from, capital_stems, digit_stems, stems, component, underscore_c, stem_leaves, name_leaves}
use Rattle.vrf_names.specs.Names.{digits, decimal, suffix, rendered}
use Rattle.vrf_model.specs.Book.{no_increment, add_increments, stepped, zero_counters, fresh, fresh_book, sum, slot_fields, slot_text, guid_text, group_fields, group_text, held_fields, held_text, passed}
use Rattle.vrf_model.specs.Lookup.{next_place, rest_or_head, last_place, places_from, place_or, path_place, index_place, guid_place, slot_checksum, slot_name, slot_at, leaf_is, has_leaf, claim_of_places, leaf_claim}
use Rattle.vrf_model.specs.Lookup.{claim_or_next, first_claim, stems_leaves, unique_leaf_match, resolve_cnc, found_or_next, first_path, find_class_net_cache_key, outer_of, then_lookup, outer_guid, outer_path}
use Rattle.vrf_model.specs.Lookup.{tag_group_path, if_filled, gameplay_tag}
use Rattle.vrf_model.specs.Setting.{unless_passed, keep, schema_step, replaced_step, guid_step, dropped_step, renamed_step, clear_step, alter, with_guids, with_groups, has_path, set_guid_at, set_guid, new_group}
use Rattle.vrf_model.specs.Setting.{grown, merged_group, merge, add_group_at, add_group, with_slot, renames, set_field_at, set_field, clear}
use Rattle.vrf_model.specs.Names.{limited, text_name, index_name, fname}
use Rattle.vrf_model.specs.Parser.{return as return-parse, fail, bind_parsed, ◌>>=◌ as ◌then-parse◌, parsed_read, read, parsed_step, step, times, sum_from}
use Rattle.vrf_model.specs.Runs.{run_of, known, declared_group, group_of, exported_field, export_entry, fields_run, flags_of, skip_checksum, object_path, object_after, object_with_outer, object, object_at}
use Rattle.vrf_model.specs.Runs.{after_inner, inner_window, payload_of, guid_entry, guid_run}
use Rattle.vrf_model.specs.Block.{no_paths, take_literal, literal, resolved, by_table, path_of_kind, block_guid, block_guids, is_found, add_first, same_handle, block_field, block_slot, block_group}
use Rattle.vrf_model.specs.Block.{zero_word, count_up_to, block_end, block}
use Rattle.vrf_model.specs.Writer.{encode_guid, encode_slot, encode_slots, encode_group, encode_all, encode_tables, encode_book, is_key_of, here_or_later, first_clash, written_into, write}
use Rattle.vrf_model.specs.Calls.{whole, if_text_accepted, look_groups, look_guids, look, unchanged, of_step, of_parsed, read_opened, read_window, add_directly, run, run_book, play, answers}

unfoldable pub computing : Unit {0}
unfolding Option-to_list bit_of bits_of bytes_of return position bind_read ◌>>=◌ byte bytes word32 signed int32 chunks packed low_bytes encode_word32 encode_chunks encode_packed rest window lead within utf8_from utf8
    text_bytes drop_zero as_utf8 checked text8 text16 text_of fstring encode_text caller_text same starts_with ends_with first_from last_below non_empty default_prefix core_segment characters_root characters_core
    is_separator has_separator default_alias core_alias_at core_alias keys is_one_of has_key leaf_after leaf digits decimal suffix rendered cuts_below is_digit is_capital digits_from capital_stems digit_stems stems
    component underscore_c stem_leaves name_leaves class_net_cache toggle with_toggles class_net_cache_keys no_increment add_increments stepped zero_counters fresh fresh_book sum slot_fields slot_text guid_text group_fields
    group_text held_fields held_text passed next_place rest_or_head last_place places_from place_or path_place index_place guid_place slot_checksum slot_name slot_at leaf_is has_leaf claim_of_places leaf_claim claim_or_next
    first_claim stems_leaves unique_leaf_match resolve_cnc found_or_next first_path find_class_net_cache_key outer_of then_lookup outer_guid outer_path tag_group_path if_filled gameplay_tag unless_passed keep schema_step
    replaced_step guid_step dropped_step renamed_step clear_step alter with_guids with_groups has_path set_guid_at set_guid new_group grown merged_group merge add_group_at add_group with_slot renames set_field_at
    set_field clear limited text_name index_name fname return-parse fail bind_parsed ◌then-parse◌ parsed_read read parsed_step step times sum_from run_of known declared_group group_of exported_field export_entry fields_run
    flags_of skip_checksum object_path object_after object_with_outer object object_at after_inner inner_window payload_of guid_entry guid_run no_paths take_literal literal resolved by_table path_of_kind block_guid block_guids is_found add_first same_handle
    block_field block_slot block_group zero_word count_up_to block_end block encode_guid encode_slot encode_slots encode_group encode_all encode_tables encode_book is_key_of here_or_later
    first_clash written_into write whole if_text_accepted look_groups look_guids look unchanged of_step of_parsed read_opened read_window add_directly run run_book play answers
computing = tt
