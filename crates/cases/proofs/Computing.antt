-- Opening `computing` opens every definition of the model, so that a closed call computes.
use Prim.Native.Nat.{ℕ}
use Rattle.model.specs.Bytes.{put, paste, clear, digit, word, long, put_word, put_long, equal_bytes, ◌and◌, ◌or◌, within, sum, gather, run, place_of}
use Rattle.model.specs.Names.{capital, letter, name_byte, name_bytes, proper_name, parts_from, parts, proper_parts, proper_path, capital_name, same_name, alike}
use Rattle.model.specs.Map.{map_blocks, weight, bit, set_bit, clear_bit, map_at, free, room, first_free, lowest, taken, given, all_zero, rest_clear, fresh_bits, fresh_map}
use Rattle.model.specs.Kinds.{kind_for}
use Rattle.model.specs.Directory.{place, at, sort_of, sort, field, ftype, eof, chain, slots, slots_below, vacant, seek, last, along, lookup}
use Rattle.model.specs.File.{height_for, span, pointer, put_pointer, limb, nodes, first_below, blocks_of, above, data_block, file_byte}
use Rattle.model.specs.Walk.{walk}
use Rattle.model.specs.Sound.{whole_blocks, prodos, links, twins_of, twins, differ, volume_faults, header_faults, top_faults, directory_faults, file_faults, faults_of, owned, each_once, faultless, sound}
use Rattle.model.specs.Refusals.{first, settle}
use Rattle.model.specs.Calls.{is_no_volume, is_no_directory, is_missing, is_there, home, spot, last_part, allows, backed_up, stamp_bytes, name_field, given_all}
use Rattle.model.specs.Format.{linked, header_bytes, volume_header, formatted, format_number, format}
use Rattle.model.specs.Create.{last_block, gained, entry_bytes, subdirectory_header, entered, created_at, created, is_full, create_need, wrong_type, create_number, create}
use Rattle.model.specs.Info.{stamp_at, space_number, space, get_info, get_info_number, info, entry_info, volume_info}
use Rattle.model.specs.Destroy.{destroyed, may_destroy, destroy_number, destroy}
use Rattle.model.specs.Read.{to_read, filled_from, read_number, read}
use Rattle.model.specs.Grow.{zeroed_from, raised, raised_key, backed, lacks_block, lacks_index, need}
use Rattle.model.specs.Write.{noted, grown, grown_key, laid, poured, written, write_need, write_number, write}
use Rattle.model.specs.SetEof.{lowered, heir, sunk, sunk_key, each_pointer, trimmed, pruned, shrunk_key, shrunk, eof_set, set_eof_number, set_eof}

unfoldable pub computing : ℕ
unfolding put paste clear digit word long put_word put_long equal_bytes ◌and◌ ◌or◌ within sum gather run capital letter name_byte name_bytes proper_name place_of parts_from parts proper_parts proper_path capital_name same_name alike map_blocks weight bit set_bit clear_bit map_at free room first_free lowest taken given all_zero rest_clear fresh_bits fresh_map kind_for place at sort_of sort field ftype eof chain slots slots_below vacant seek last along lookup height_for span pointer put_pointer limb nodes first_below blocks_of above data_block file_byte walk whole_blocks prodos links twins_of twins differ volume_faults header_faults top_faults directory_faults file_faults faults_of owned each_once faultless sound first settle is_no_volume is_no_directory is_missing is_there home spot last_part allows backed_up stamp_bytes name_field given_all linked header_bytes volume_header formatted format_number format stamp_at space_number space get_info get_info_number info entry_info volume_info last_block gained entry_bytes subdirectory_header entered created_at created is_full create_need wrong_type create_number create destroyed may_destroy destroy_number destroy to_read filled_from read_number read zeroed_from raised raised_key backed lacks_block lacks_index need noted grown grown_key laid poured written write_need write_number write lowered heir sunk sunk_key each_pointer trimmed pruned shrunk_key shrunk eof_set set_eof_number set_eof
computing = 0
