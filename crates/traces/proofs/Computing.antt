-- What a worked list of calls computes with, named once: `unfolding list_rules` opens all of it.
use Rattle.convert.proofs.Computing.{call_rules}
use Rattle.checkpoint.proofs.Computing.{line_rules}
use Rattle.traces.specs.Model.{opened, says, joined_by, noted_by, set_back_to, accepted_by, next, play, Allowed, AllAllowed}

-- A worked list of calls computes with these: calls and lines, and the model of a list.
unfoldable pub list_rules : Type 0
unfolding call_rules line_rules opened says joined_by noted_by set_back_to accepted_by next play Allowed AllAllowed
list_rules = Unit {0}
