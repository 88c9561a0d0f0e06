-- Every definition of the rules at once, for theorems that the checker computes: they say `unfolding rules`. The values
-- here mean nothing; each definition only gathers the names on its `unfolding` line.
use mathlib.Core.Bool.{Bool, true}
use lib.Count.{ones_in}
use Rattle.machine.specs.Bytes.{little_endian_of, number, bytes, all_zero, zeros, splice}
use Rattle.machine.specs.Lists.{tabulate, every, all, sum, join}
use Rattle.machine.specs.Image.{envelope_in, process_in, processes_in, state_in, header_bytes, process_bytes}
use Rattle.machine.specs.Image.{record_bytes, image_bytes, image_with}
use Rattle.machine.specs.Sound.{header_fits, records_fit, stages_fit, marked_set, rest_fits, sound}
use Rattle.machine.specs.Fresh.{fresh_state}
use Rattle.machine.specs.Events.{ask, pass_for, pass, mark_for, mark, unmark, clear, wanted, leave, set_markers}
use Rattle.machine.specs.Events.{forward, ends, relay, wait, end_put, put_at}
use Rattle.machine.specs.Events.{start_put, start_get, work, signal, receive, take_request, put, react, change}
use Rattle.machine.specs.Events.{place}
use Rattle.machine.specs.Events.{reaction, outcome, apply}
use Rattle.machine.specs.Stopped.{quiet, stopped}
use Rattle.machine.specs.Run.{ledger_record, ledger_entry, ledger_from, counted, counts_from, after}
use Rattle.machine.specs.Traffic.{traffic, traffic_from}
use Rattle.machine.specs.Balance.{filled_from, taken_from, totals_from}
use Rattle.machine.specs.Tape.{event_in, events_in, words, check_from, covered, used_slots, list_of, block_bytes}
use Rattle.machine.specs.Tape.{list_bytes, slots_for, padded, block_for, tape_of}
use Rattle.machine.specs.Refusals.{first, size_verdict, home_verdict, room_verdict, front_verdict, sound_verdict}
use Rattle.machine.specs.Refusals.{image_verdict, event_fits, event_verdict, length_verdict, list_verdict}
use Rattle.machine.specs.Refusals.{check_verdict, block_fits, number_verdict, used_verdict, unused_verdict}
use Rattle.machine.specs.Refusals.{block_verdict, tape_verdict, output_verdict, count_verdict, seed_verdict}
use Rattle.machine.specs.Answers.{fresh_verdict, fresh_answer, fresh_image, step_verdict, step_answer, step_image}
use Rattle.machine.specs.Answers.{stopped_answer}
use Rattle.machine.specs.Answers.{run_events, run_records, run_verdict, run_answer, run_image, run_ledger}
use Rattle.machine.specs.Answers.{write_verdict, write_answer, write_output, read_verdict, read_answer, read_output}
use Rattle.machine.specs.Load.{drawn, event_by, load_event, load_events, load_tape}
use Rattle.machine.specs.Load.{load_verdict, load_answer, load_output}
use Rattle.machine.specs.Survey.{survey_answer}
use Rattle.machine.specs.Host.{returned, words_of, result_bytes, result_after, lent_with}
use Rattle.machine.specs.Text.{text, digits, decimal, line}
use Rattle.machine.specs.Report.{record_line, record_lines, counts_line, last_line, refusal_line, few_verdict}
use Rattle.machine.specs.Report.{report_verdict, ran_text, report_text, report_answer, report_output}

unfoldable pub of_bytes : Bool
unfolding little_endian_of number bytes all_zero zeros splice
of_bytes = true

unfoldable pub of_lists : Bool
unfolding tabulate every all sum join
of_lists = true

unfoldable pub of_image : Bool
unfolding envelope_in process_in processes_in state_in header_bytes process_bytes record_bytes image_bytes image_with
of_image = true

unfoldable pub of_sound : Bool
unfolding ones_in fresh_state header_fits records_fit stages_fit marked_set rest_fits sound
of_sound = true

unfoldable pub of_put : Bool
unfolding ask pass_for pass mark_for mark unmark clear wanted leave set_markers forward ends relay wait end_put put_at
of_put = true

unfoldable pub of_events : Bool
unfolding of_put start_put start_get work signal receive take_request put react change place reaction outcome apply
    quiet
    stopped
of_events = true

unfoldable pub of_run : Bool
unfolding ledger_record ledger_entry ledger_from counted counts_from traffic traffic_from after
of_run = true

unfoldable pub of_balance : Bool
unfolding filled_from taken_from totals_from
of_balance = true

unfoldable pub of_tape : Bool
unfolding event_in events_in words check_from covered used_slots list_of block_bytes slots_for padded block_for tape_of
of_tape = true

unfoldable pub of_tests : Bool
unfolding first size_verdict home_verdict room_verdict front_verdict sound_verdict image_verdict event_fits
    event_verdict
    length_verdict list_verdict
of_tests = true

unfoldable pub of_blocks : Bool
unfolding of_tests check_verdict block_fits number_verdict used_verdict unused_verdict block_verdict tape_verdict
    output_verdict
of_blocks = true

unfoldable pub of_image_calls : Bool
unfolding fresh_verdict fresh_answer fresh_image step_verdict step_answer step_image stopped_answer survey_answer
of_image_calls = true

unfoldable pub of_run_call : Bool
unfolding run_events run_records run_verdict run_answer run_image run_ledger
of_run_call = true

unfoldable pub of_tape_calls : Bool
unfolding write_verdict write_answer write_output read_verdict read_answer read_output
of_tape_calls = true

unfoldable pub of_calls : Bool
unfolding of_image_calls of_run_call of_tape_calls
of_calls = true

unfoldable pub of_load : Bool
unfolding list_bytes count_verdict seed_verdict drawn event_by load_event load_events load_tape load_verdict load_answer
    load_output
of_load = true

unfoldable pub of_host : Bool
unfolding returned words_of result_bytes result_after lent_with
of_host = true

unfoldable pub of_text : Bool
unfolding text digits decimal line record_line record_lines counts_line last_line refusal_line
of_text = true

unfoldable pub of_report : Bool
unfolding of_text few_verdict report_verdict ran_text report_text report_answer report_output
of_report = true

unfoldable pub rules : Bool
unfolding of_bytes of_lists of_image of_sound of_events of_run of_balance of_tape of_blocks of_calls of_load of_host
    of_report
rules = true
