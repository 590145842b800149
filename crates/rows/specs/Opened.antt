-- What a row comes to, opened: for each module of `rules`, and for the rows' own, one name that stands for all that a proof by computing has to see through.
-- A new definition of `rules` that a step comes to is added to its module's name here.
use Rattle.std.specs.Prelude.{ℕ}
use Rattle.rules.specs.Words.{page_size, least_pages, most_pages, records, record_size, records_without_pool, entries_a_call, large, registers_size}
use Rattle.rules.specs.Words.{between, multiple, bits, bit, with_bit, without_bit, little, number, range, every, exists, count, lowest, places, each}
use Rattle.rules.specs.Answers.{outcome_number, code_number, launched_number, refuse, numbered}
use Rattle.rules.specs.Machine.{with_lent, N, below, page_of, offset_of, page_at, with_memory, written, write, zeros, fill, owner, valid, permitted}
use Rattle.rules.specs.Machine.{grant, revoke, own, make_valid, make_invalid, table_byte, put, change, owned_by, usable, fields, laid_out, is_live}
use Rattle.rules.specs.Machine.{holds, needs_page, record_at, vcpu, startup, amend, vmsa_vmpl, vmsa_features, efer}
use Rattle.rules.specs.Launch.{in_monitor, out_of_range, areas_meet, unfit_vmsa, launch_byte, launch_table, launch_record, launch_sheet, made, launch}
use Rattle.rules.specs.Steps.{may_store, store}
use Rattle.rules.specs.Sound.{bad_names, bad_record, claim, claims, agrees, well_permitted, page_fault, live_fault, record_fault, table_sized}
use Rattle.rules.specs.Sound.{pages_sized, sound}
use Rattle.rules.specs.Lists.{bad_list_page, in_list, list_count, list_next, list_entry, store_index, bad_count, bad_next, entry_first, entry_pages}
use Rattle.rules.specs.Lists.{covered, reserved_bits, malformed, coverable, read_covered, read_entry, wished, cleared, carry_out, carry_out_all}
use Rattle.rules.specs.Lists.{after_entry, run, run_within, list_call}
use Rattle.rules.specs.Calls.{remapped, remap, asked, unfit_page, unfit_pages, unfit_vcpu, free_record, is_free, free_page, any_free, new_record, created, create}
use Rattle.rules.specs.Calls.{clear_svme, deleted, named_by, delete, withdrawn_pages, give_back, gpas, withdrawn, withdraw, query, configure, vtom}
use Rattle.rules.specs.Call.{with_rax, with_rcx, bad_sheet, bad_machine, pending, no_call, protocol, call_number, on_lent, on_rcx, dispatch, handle}
use Rattle.rules.specs.Call.{clear_pending, set_flag, finish, call}
use Rattle.rules.specs.Runs.{called, step, run_steps}
use Rattle.rows.specs.Night.{hex, guest_stores, happen, same, stand, as_expected, wrong_rows}
use Rattle.rows.specs.Table.{blank, plan, at, times, entries, blank_page, ask, code, rows}

unfoldable pub open_words : ℕ
unfolding page_size least_pages most_pages records record_size records_without_pool entries_a_call large registers_size between multiple bits bit with_bit without_bit little number range every exists count lowest places each
open_words = 0

unfoldable pub open_answers : ℕ
unfolding outcome_number code_number launched_number refuse numbered
open_answers = 0

unfoldable pub open_machine : ℕ
unfolding with_lent N below page_of offset_of page_at with_memory written write zeros fill owner valid permitted grant revoke own make_valid make_invalid table_byte put change owned_by usable fields laid_out is_live holds needs_page record_at vcpu startup amend vmsa_vmpl vmsa_features efer
open_machine = 0

unfoldable pub open_launch : ℕ
unfolding in_monitor out_of_range areas_meet unfit_vmsa launch_byte launch_table launch_record launch_sheet made launch
open_launch = 0

unfoldable pub open_steps : ℕ
unfolding may_store store
open_steps = 0

unfoldable pub open_sound : ℕ
unfolding bad_names bad_record claim claims agrees well_permitted page_fault live_fault record_fault table_sized pages_sized sound
open_sound = 0

unfoldable pub open_lists : ℕ
unfolding bad_list_page in_list list_count list_next list_entry store_index bad_count bad_next entry_first entry_pages covered reserved_bits malformed coverable read_covered read_entry wished cleared carry_out carry_out_all after_entry run run_within list_call
open_lists = 0

unfoldable pub open_calls : ℕ
unfolding remapped remap asked unfit_page unfit_pages unfit_vcpu free_record is_free free_page any_free new_record created create clear_svme deleted named_by delete withdrawn_pages give_back gpas withdrawn withdraw query configure vtom
open_calls = 0

unfoldable pub open_call : ℕ
unfolding with_rax with_rcx bad_sheet bad_machine pending no_call protocol call_number on_lent on_rcx dispatch handle clear_pending set_flag finish call
open_call = 0

unfoldable pub open_runs : ℕ
unfolding called step run_steps
open_runs = 0

unfoldable pub open_night : ℕ
unfolding hex guest_stores happen same stand as_expected wrong_rows
open_night = 0

unfoldable pub open_table : ℕ
unfolding blank plan at times entries blank_page ask code rows
open_table = 0
