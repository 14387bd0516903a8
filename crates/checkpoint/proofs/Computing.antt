-- What a worked example of saved lines computes with, named once: `unfolding line_rules` opens all of it.
use Rattle.codepage.specs.Reading.{is_high}
use Rattle.engine.specs.Policies.{policy_allowed}
use Rattle.convert.specs.Runs.{valid_run}
use Rattle.checkpoint.specs.Line.{decimal_from, decimal, field_of, closing_of, line_of, succeed, ◌>>=◌, or_else, one, more_digits, number, letter, three_digits, hex_pair, hex_pending, pending_field, field, closing, fields_by, fields, kept, run_of, write_of, read_of, loaded}
use Rattle.checkpoint.specs.Sample.{sample_run, sample_line, pending_run, pending_line, line_with, not_lines, longest_run, longest_pending}

-- the line of a run, the run of a line, writing and reading, and the sample lines
unfoldable pub line_rules : Type 0
unfolding is_high policy_allowed valid_run decimal_from decimal field_of closing_of line_of succeed ◌>>=◌ or_else one more_digits number letter three_digits hex_pair hex_pending pending_field field closing fields_by fields kept run_of write_of read_of loaded sample_run sample_line pending_run pending_line line_with not_lines longest_run longest_pending
line_rules = Unit {0}
