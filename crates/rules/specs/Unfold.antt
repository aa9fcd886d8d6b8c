-- One name under which all definitions unfold: a proof by computation says `unfolding model`. Written by gen/unfold.py.
use Rattle.std.specs.Prelude.{List, [], ◌∷◌, ◌++◌, ℕ, replicate}
use Rattle.lists.specs.Tests.{every, between}
use Rattle.lists.specs.Search.{find, keep, any, all, without, without_first, first_left, is_none, or_else, count, below, member, index_from, index_of}
use Rattle.lists.specs.Tables.{put, put_all}
use Rattle.lists.specs.Totals.{total, under, same}
use Rattle.rules.specs.Shape.{within, cell, offset}
use Rattle.rules.specs.State.{found_number, closed}
use Rattle.rules.specs.Ranges.{is_kind, bytes_of, range_place, range_command, range_found, range_request, queue_fits, others, cache_fits, each_cell, ranges, in_range}
use Rattle.rules.specs.Memory.{needed}
use Rattle.rules.specs.Draws.{limit, draw, drawn_first, pass_over, draws, exchange, shuffle, new_order, order_bounds}
use Rattle.rules.specs.Levels.{filled, is_full, joins, grown, differ, highest, top_level, source_levels, down, written_levels}
use Rattle.rules.specs.Jobs.{queued, begun_with, joined, top_of, levels_of, leave_queue, capacity, slot_count, write_at, orders_bounds}
use Rattle.rules.specs.Blocks.{named, holder, entries, blocks_in, is_unread, reads_of, zeros, is_nowhere, contents, found_at, look_up, slot_bytes}
use Rattle.rules.specs.Open.{fresh}
use Rattle.rules.specs.Request.{accept, is_front, undrawn_only, is_source, worn, held_for, blocked, held, released_in, pass_level, released_for}
use Rattle.rules.specs.Reader.{level_of, slot_of, condition_by, condition, conditions, dummy, lowest, fake_by, read_fake, is_cached_in, read_real, if_filled, is_level, read_level, add_read, each_level, read_levels, read_partition, slot_read, costing, costs, levels_left}
use Rattle.rules.specs.Rebuild.{places, next_unread, unread, chosen, entries_in, gather_from, gathered, fills, item_place, new_place, item_holds, new_holds, cleared, new_places, write_levels, new_orders, new_marks, new_held, leave, do_rebuild}
use Rattle.rules.specs.Turn.{read_step, first_read, request_step, gather_step, rebuild_step, next_write, write_step, job_step, decide, command, step_bounds, send, mark_read, do_step}
use Rattle.rules.specs.Completion.{is_command, completed, gather_bytes, complete_read, job_done, end_job, finish_job, complete_write, complete}
use Rattle.rules.specs.Collect.{finished, emptied, finish, collected, answer, carried}
use Rattle.rules.specs.Form.Numbers.{little, value, each, form_of, slot_width}
use Rattle.rules.specs.Form.Sums.{words_of, sum_from, block_sum, body_of, blocks, block_count, in_blocks, sums_right, summed, out_of, out_of_blocks}
use Rattle.rules.specs.Form.Payload.{shape_numbers, place_bytes, block_bytes, filled_levels, order_slots, read_marks, level_bytes, waiters, waiter_bytes, payload, saved_form}
use Rattle.rules.specs.Form.Longest.{longest_payload, longest}
use Rattle.rules.specs.Form.Reading.{and_then, get_bytes, get_number, get_each, get_numbers, shape_of, get_spot, get_block, get_level, get_waiter, is_waiting, get_form}
use Rattle.rules.specs.Form.Loading.{lay_over, block_at, place_of, held_at, held_from, orders_of, marks_of, block_in, bytes_in, aged, of_block, loaded, is_in, stored_at, well_placed, is_permutation, are_marks, waits_at, checks, sound, is_sound, loads, state_in, loaded_form}
use Rattle.rules.specs.Questions.{bounds, ready, sends, possible, in_hand, at_rest, questions, first_no, number}
use Rattle.rules.specs.Run.{perform, act, refuse, sent_command, written, handed, form_length, handed_found, numbers_of, taken_of, refused, accepted, step, run, after}
use Rattle.rules.specs.Figures.{nowhere_blocks, stored_blocks, waiting_blocks, in_partition, jobs_for, figures, all_figures}
use Rattle.rules.specs.Shape.{Shape}
use Rattle.rules.specs.State.{Command, Found, found_nowhere}
use Rattle.rules.specs.Questions.{Ask, Call}
use Rattle.rules.specs.Run.{Outcome}

unfoldable pub model : Unit {0}
unfolding every between find keep any all without without_first first_left is_none or_else count below member index_from index_of put put_all total under same within cell offset found_number closed is_kind bytes_of range_place range_command range_found range_request queue_fits others cache_fits each_cell ranges in_range needed limit draw drawn_first pass_over draws exchange shuffle new_order order_bounds filled is_full joins grown differ highest top_level source_levels down written_levels queued begun_with joined top_of levels_of leave_queue capacity slot_count write_at orders_bounds named holder entries blocks_in is_unread reads_of zeros is_nowhere contents found_at look_up slot_bytes fresh accept is_front undrawn_only is_source worn held_for blocked held released_in pass_level released_for level_of slot_of condition_by condition conditions dummy lowest fake_by read_fake is_cached_in read_real if_filled is_level read_level add_read each_level read_levels read_partition slot_read costing costs levels_left places next_unread unread chosen entries_in gather_from gathered fills item_place new_place item_holds new_holds cleared new_places write_levels new_orders new_marks new_held leave do_rebuild read_step first_read request_step gather_step rebuild_step next_write write_step job_step decide command step_bounds send mark_read do_step is_command completed gather_bytes complete_read job_done end_job finish_job complete_write complete finished emptied finish collected answer carried little value each form_of slot_width words_of sum_from block_sum body_of blocks block_count in_blocks sums_right summed out_of out_of_blocks shape_numbers place_bytes block_bytes filled_levels order_slots read_marks level_bytes waiters waiter_bytes payload saved_form longest_payload longest and_then get_bytes get_number get_each get_numbers shape_of get_spot get_block get_level get_waiter is_waiting get_form lay_over block_at place_of held_at held_from orders_of marks_of block_in bytes_in aged of_block loaded is_in stored_at well_placed is_permutation are_marks waits_at checks sound is_sound loads state_in loaded_form bounds ready sends possible in_hand at_rest questions first_no number perform act refuse sent_command written handed form_length handed_found numbers_of taken_of refused accepted step run after nowhere_blocks stored_blocks waiting_blocks in_partition jobs_for figures all_figures
model = tt

-- short forms, for sessions and the table of edges
abbrev pub shape : ℕ → ℕ → ℕ → ℕ → ℕ → ℕ → Shape
shape n p l b e w = record { N = n; P = p; L = l; B = b; E = e; W = w }

abbrev pub call : Ask → ℕ → List ℕ → ℕ → Call
call a m ws n = record { ask = a; memory = m; words = ws; buffer = n }

abbrev pub out : ℕ → ℕ → Command → List ℕ → Outcome
out n k c bs = record { number = n; taken = k; command = c; bytes = bs; found = found_nowhere }

-- n zeros in front of a list
abbrev pub zeros_then : ℕ → List ℕ → List ℕ
zeros_then n xs = replicate n 0 ++ xs

abbrev pub out_found : ℕ → ℕ → Command → List ℕ → Found → Outcome
out_found n k c bs x = record { number = n; taken = k; command = c; bytes = bs; found = x }
