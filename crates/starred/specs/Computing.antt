-- One name that unfolds every definition of the rules, for proofs by computation. Assumes nothing.
use Rattle.std.specs.Prelude.{ℕ}
use Rattle.rules.specs.Fold.{some_below, every_below, count_below, sum_below, greatest_below, first_below, tabulate_from, tabulate, first_refusal}
use Rattle.rules.specs.Signed.{signed_of, bits_of, joined, low_word, high_word}
use Rattle.rules.specs.Day.{is_day}
use Rattle.rules.specs.Record.{word, day_at, size_at, kind_at, length_of, rank_of, most_of, count_of, one_more, no_counts, judge_record, scan_from, scan}
use Rattle.rules.specs.Plan.{no_state, optional, track_record, state_record, transition_record, window_record, state_at, transition_at, window_at, is_within, plan_of, track_count, state_count, transition_count, window_count, host_word, state, transition, window, host, owner, replacement, is_root, is_state_of, is_final, is_in, is_hosted_by, is_hosting, every_in, some_in, first, first_state, transition_for, may_take, taken_on, mover, reach_by, height_to, height, climb_to, climb, is_inside, is_above, grant_record, grant_at, grant_count, grant, root_to, root_of}
use Rattle.rules.specs.Rights.{gives, gives_to, holds, is_permitted, holds_somewhere}
use Rattle.rules.specs.Acceptance.{no_track, bad_state, bad_host, bad_first, bad_hosting, bad_transition, bad_deviation, repeats_event, too_high, repeats_window, bad_window, judge_plan, judged, read_plan, names_no_root, repeats_pair, bad_grant}
use Rattle.rules.specs.Setting.{limit_of, terms_of, main_terms, reading_room_terms}
use Rattle.rules.specs.Layout.{leading_words, head_words, entry_width, track_width, track_place, entries_place, word_count}
use Rattle.rules.specs.Leading.{numbers_total, plan_sum, last_day, dated, stamped, other_plan}
use Rattle.rules.specs.Ledger.{is_awake, is_forward, is_undoing, is_empty, sleeping, mode_word, held_words, mode_of, entry_at, held_at, configuration_at, configuration_words, ledger_words, written, ledger_at}
use Rattle.rules.specs.Scope.{is_open, has_open_scope, is_bare, is_over}
use Rattle.rules.specs.Opening.{fresh, wakes_in, wakes, entered, enter, roots_first, begun}
use Rattle.rules.specs.Finish.{roots_done, some_root_ended, is_finishing, finished}
use Rattle.rules.specs.Event.{install, installed, destination_of, installed_by, has_code, is_move, move, moves, moved, is_closing, is_closed, closes_scope, closed, closings, is_replaced, is_full, after_event, may_move}
use Rattle.rules.specs.Signal.{turned_track, turned, turnings, is_abandoning, is_spent_to, is_spent, is_left, is_abandoned, abandoned, after_signal}
use Rattle.rules.specs.Fire.{newest, older, may_fire, removed, deviates_to, fired, ready, lowest_ready, after_fire}
use Rattle.rules.specs.Soundness.{good_mode, good_count, unused_zero, asleep_zero, is_tidy, are_tidy, every_held, same_mode, roots_awake, states_own, codes_real, good_deviation, deviations_good, is_whole, scopes_whole, is_hosted_well, hosts_awake, closing_done, finish_done, abandoning_done, is_live, is_sound}
use Rattle.rules.specs.Call.{refused_or, under_plan, too_short, ledger_refusals, ledger_refusal, bad_day, call_refusals, call_refusal, figures, after, day_after, dated_by, next, next_day, call_outcome, event_outcome, signal_outcome, fire_outcome, begin_outcome, ready_outcome, held_part, entries_part, lacks_fire_right}
use Rattle.rules.specs.Isolation.{society_of, holds_any, is_under, own_calls, own_answers, is_for_day, ready_bit, is_over_now, lasts}
use Rattle.rules.specs.Calendar.{is_leap, february, month_length, is_date, next_date, date_after, in_months, in_years, days_to}
use Rattle.rules.specs.Conversion.{days_since, day_number, date_of_day, day_of_date}
use Rattle.rules.specs.Text.{ascii, decimal_to, decimal, fields_text, line}
use Rattle.rules.specs.Journal.{journal_length, is_broken, record_of, item_at, fire_lowest_call, society_at}
use Rattle.rules.specs.Transcript.{refusal_line, plan_line, tally_line, deviation_text, done_line, call_line, firings_of, firings_in, held_total, ledger_of, last_line, call_text, replay, own_words, transcript}
use Rattle.rules.specs.FinishedRun.{taken, moves_below, moves_of}
use Rattle.rules.specs.ReferenceRun.{words_from, words_after, answers_from, answers_after, ledger_after}
use Rattle.rules.specs.FiringsDue.{is_plain, holds_no_deviation, none_forward, turns_every, is_order, after_order, is_firing_order, firing_calls, held_by}
use Rattle.starred.specs.SamplePlan.{bytes_of, plan_of_codes, plan_p, neighbour_p, alike_p, two_roots, journal_p, lent_at, lent_for, plan_loop}
use Rattle.starred.specs.WindowPlans.{with_windows, plan_d, window_last, window_early, chain_tracks, chain_states, chained}
use Rattle.starred.specs.RightsPlans.{with_rights, plan_r, plan_own, plan_shared, many_rights, entries_of, rights_early, rights_last}
use Rattle.starred.specs.BranchingPlans.{plan_b, deviating_b, track_words}

unfoldable pub computing : ℕ
unfolding some_below every_below count_below sum_below greatest_below first_below tabulate_from tabulate first_refusal signed_of bits_of joined low_word high_word is_day word day_at size_at kind_at length_of rank_of most_of count_of one_more no_counts judge_record scan_from scan no_state optional track_record state_record transition_record window_record state_at transition_at window_at is_within plan_of track_count state_count transition_count window_count host_word state transition window host owner replacement is_root is_state_of is_final is_in is_hosted_by is_hosting every_in some_in first first_state transition_for may_take taken_on mover reach_by height_to height climb_to climb is_inside is_above no_track bad_state bad_host bad_first bad_hosting bad_transition bad_deviation repeats_event too_high repeats_window bad_window judge_plan judged read_plan limit_of terms_of main_terms reading_room_terms leading_words head_words entry_width track_width track_place entries_place word_count numbers_total plan_sum last_day dated stamped other_plan is_awake is_forward is_undoing is_empty sleeping mode_word held_words mode_of entry_at held_at configuration_at configuration_words ledger_words written ledger_at is_open has_open_scope is_bare is_over fresh wakes_in wakes entered enter roots_first begun install installed destination_of installed_by has_code is_move move moves moved is_closing is_closed closes_scope closed roots_done some_root_ended is_finishing finished closings is_replaced is_full after_event turned_track turned turnings is_abandoning is_spent_to is_spent is_left is_abandoned abandoned after_signal newest older may_fire removed deviates_to fired ready lowest_ready after_fire good_mode good_count unused_zero asleep_zero is_tidy are_tidy every_held same_mode roots_awake states_own codes_real good_deviation deviations_good is_whole scopes_whole is_hosted_well hosts_awake closing_done finish_done abandoning_done is_live is_sound refused_or under_plan too_short ledger_refusals ledger_refusal bad_day call_refusals call_refusal figures after day_after dated_by next next_day call_outcome event_outcome signal_outcome fire_outcome begin_outcome ready_outcome held_part entries_part ascii decimal_to decimal fields_text line journal_length is_broken record_of item_at fire_lowest_call refusal_line plan_line tally_line deviation_text done_line call_line firings_of firings_in held_total ledger_of last_line call_text replay own_words transcript taken moves_below moves_of words_from words_after answers_from answers_after ledger_after bytes_of plan_of_codes plan_p neighbour_p alike_p two_roots journal_p lent_at lent_for plan_loop with_windows plan_d window_last window_early chain_tracks chain_states chained is_leap february month_length is_date next_date date_after in_months in_years days_to days_since day_number date_of_day day_of_date grant_record grant_at grant_count grant root_to root_of names_no_root repeats_pair bad_grant may_move lacks_fire_right society_at gives gives_to holds is_permitted holds_somewhere society_of holds_any is_under own_calls own_answers is_for_day ready_bit is_over_now lasts with_rights plan_r plan_own plan_shared many_rights entries_of rights_early rights_last plan_b deviating_b track_words is_plain holds_no_deviation none_forward turns_every is_order after_order is_firing_order firing_calls held_by
computing = 0
