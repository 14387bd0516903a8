-- Document 02, CR 13: the two forms of a run call beside each other. docs/RULES.md, "Lists of calls".
use Rattle.std.specs.Prelude.{List, [], ◌∷◌, ◌≡◌}
use Rattle.convert.specs.declared.Run.{Run}
use Rattle.runrecord.specs.Records.{outcome_of}
use Rattle.traces.specs.Model.{by_value, in_record, Call, feeding, saving, loading}
use Rattle.traces.specs.Traces.{Result, fed, fed_here, saved, loaded, Entry, hand_after}

-- a call, with a run call by value
abbrev pub call_by_value : Call → Call
call_by_value (feeding form piece last lent) = feeding by_value piece last lent
call_by_value (saving lent) = saving lent
call_by_value (loading line) = loading line

-- a result, with the record's run as the run given back
abbrev pub result_by_value : Result → Result
result_by_value (fed r lent) = fed r lent
result_by_value (fed_here r held lent) = fed (outcome_of r held) lent
result_by_value (saved r lent) = saved r lent
result_by_value (loaded r) = loaded r

-- A list in which every run call is by value.
abbrev pub all_by_value : List Entry → List Entry
all_by_value [] = []
all_by_value (e ∷ es) = record { call = call_by_value e.call; result = result_by_value e.result } ∷ all_by_value es

-- A list of calls without the record form.
abbrev pub NoRecord : List Call → Type 0
NoRecord [] = Unit {0}
NoRecord (feeding by_value piece last lent ∷ cs) = NoRecord cs
NoRecord (feeding in_record piece last lent ∷ cs) = ⊥
NoRecord (saving lent ∷ cs) = NoRecord cs
NoRecord (loading line ∷ cs) = NoRecord cs

-- A record holds, after a call in the record form, the run that is then in hand: the new one, or on refusal what it held.
abbrev pub RecordHolds : (hand : Run) → Result → Type 0
RecordHolds hand (fed r lent) = Unit {0}
RecordHolds hand (fed_here r held lent) = held ≡ hand_after hand (fed_here r held lent)
RecordHolds hand (saved r lent) = Unit {0}
RecordHolds hand (loaded r) = Unit {0}
