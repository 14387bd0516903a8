-- What a worked example of calls computes with, named once: `unfolding call_rules` opens all of it.
use Rattle.codepage.specs.CodePage.{is_known, is_single, is_lead, is_trail, leads, leads_below, first_bad, bad_class, bad_number, class_fault, sizes_fault, entries_fault, first_fault}
use Rattle.codepage.specs.Lent.{over}
use Rattle.codepage.specs.Reading.{lookup, byte_alone, byte_joins, byte_pair, is_high, is_low, is_surrogate, unit_code, unit_alone, bytes_of, decoder, encoder, settled, completed, waits_then, codes_at_end, call_codes, left_pending, codes}
use Rattle.engine.specs.Policies.{action_of, policy_allowed}
use Rattle.engine.specs.Engine.{effect_of, converter, fits, room_left, halt, after, stop_at, take_when, take_code, take_codes, feed_from, whole}
use Rattle.convert.specs.Runs.{valid_run, start_of}
use Rattle.convert.specs.Calls.{refusal, units_read, pending_after, ended_after, run_after, fed_by, accepted_call, refused_call, run_call}

-- the shape report
unfoldable pub shape_rules : Type 0
unfolding is_known is_lead leads first_bad bad_class bad_number class_fault sizes_fault entries_fault first_fault
shape_rules = Unit {0}

-- reading codes from bytes and units, both readers, and the codes of a call
unfoldable pub reading_rules : Type 0
unfolding is_single is_lead is_trail leads leads_below lookup byte_alone byte_joins byte_pair is_high is_low is_surrogate unit_code unit_alone bytes_of decoder encoder settled completed waits_then codes_at_end call_codes left_pending codes
reading_rules = Unit {0}

-- what a code does, and taking code after code, on top of the reading
unfoldable pub engine_rules : Type 0
unfolding reading_rules action_of policy_allowed effect_of converter fits room_left halt after stop_at take_when take_code take_codes feed_from whole
engine_rules = Unit {0}

-- a whole call: shape, engine, run rules, start, refusals and the new run
unfoldable pub call_rules : Type 0
unfolding shape_rules engine_rules over valid_run start_of refusal units_read pending_after ended_after run_after fed_by accepted_call refused_call run_call
call_rules = Unit {0}
