-- Document 01, "The little page, and sixteen rows to prove": the sample page, and its rows of run calls, row 7 as amended by CR 2
-- and row 15 by CR 5, each under 555 by name (CR 4) unless it names digits; and rows of CR 2, CR 4 and CR 5.
-- docs/RULES.md, "The little page", above the first heading, has the page.
use Rattle.std.specs.Prelude.{Bool, true, false, List, [], ◌∷◌, ◌++◌, ◌≡◌, ℕ, zero, suc, length, set, replicate}
use Rattle.codepage.specs.CodePage.{CodePage}
use Rattle.codepage.specs.Lent.{over}
use Rattle.engine.specs.declared.Direction.{Direction}
use Rattle.engine.specs.declared.Direction.TheVariants.{Decoding, Encoding}
use Rattle.engine.specs.declared.Policy.{Policy}
use Rattle.engine.specs.Policies.{digits, standard, replacing}
use Rattle.convert.specs.declared.Pending.{Pending}
use Rattle.convert.specs.declared.Pending.TheVariants.{Nothing, Byte, High}
use Rattle.convert.specs.declared.Run.{Run}
use Rattle.convert.specs.Runs.{fresh}
use Rattle.convert.specs.Calls.{Called, run_call}

-- n, n + 1, .., of them `count`
abbrev pub up_from : (n count : ℕ) → List ℕ
up_from n zero = []
up_from n (suc count) = n ∷ up_from (suc n) count

-- FFFF, `count` times
abbrev pub none_of : ℕ → List ℕ
none_of count = replicate count 0xFFFF

-- Page 7, default byte 3F, default unit 30FB. 00 to 7F single, same unit. 80 single, none. 81, 82 lead. A0 single, 00A0. All
-- others never. Second bytes: 40 to 7E. Pairs 8140 is 3000, 8141 is 3001, 827C is 4E00. Units: 0000 to 007F the same, 00A0
-- gives 20, 3000 gives 8140, 3001 gives 8141, 4E00 gives 827C.
abbrev pub sample_page : CodePage
sample_page =
    record {
      page = 7;
      default_byte = 0x3F;
      default_unit = 0x30FB;
      classes = replicate 0x40 1 ++ (replicate 0x3F 5 ++ (1 ∷ 1 ∷ 2 ∷ 2 ∷ (replicate 0x1D 0 ++ (1 ∷ replicate 0x5F 0))));
      singles = up_from 0 0x80 ++ (none_of 0x20 ++ (0xA0 ∷ none_of 0x5F));
      pairs = set (set (none_of 256) 0x40 0x3000) 0x41 0x3001 ++ set (none_of 256) 0x7C 0x4E00;
      index = set (set (set (replicate 256 0) 0x00 1) 0x30 2) 0x4E 3;
      blocks =
          none_of 256
          ++ (up_from 0 0x80 ++ (none_of 0x20 ++ (0x20 ∷ none_of 0x5F)) ++ (set (set (none_of 256) 0x00 0x8140) 0x01 0x8141 ++ set (none_of 256) 0x00 0x827C));
    }

-- What is seen of a call: its answer, what it read and wrote, the lent output after it, and the new run's flags, totals, what is
-- pending, and whether it has ended.
pub record Seen : Type 0 where
  pub number : ℕ
  pub read : ℕ
  pub written : ℕ
  pub lent : List ℕ
  pub flags : ℕ
  pub total_read : ℕ
  pub total_written : ℕ
  pub pending : Pending
  pub ended : Bool

-- A run call on the sample page: direction, run, piece, mark and lent output before it, and what must be seen of it.
pub record Row : Type 0 where
  pub direction : Direction
  pub run : Run
  pub piece : List ℕ
  pub last : Bool
  pub lent : List ℕ
  pub seen : Seen

abbrev pub called : Row → Called
called r = run_call r.direction r.run sample_page r.piece r.last (length r.lent)

abbrev pub seen_of : (before : List ℕ) → Called → Seen
seen_of before c =
    record {
      number = c.number;
      read = c.read;
      written = length c.output;
      lent = over before c.output;
      flags = c.run.flags;
      total_read = c.run.read;
      total_written = c.run.written;
      pending = c.run.pending;
      ended = c.run.ended;
    }

-- The rules give what the row says is seen.
abbrev pub RowHolds : Row → Type 0
RowHolds r = seen_of r.lent (called r) ≡ r.seen

-- lent output of some units, all EE
abbrev pub room : ℕ → List ℕ
room n = replicate n 0xEE

-- room enough
abbrev pub ample : List ℕ
ample = room 9

-- a call on a fresh run of the sample page, marked last
abbrev pub last_call : Direction → Policy → (lent : List ℕ) → List ℕ → Seen → Row
last_call direction policy lent piece seen = record { direction = direction; run = fresh direction 7 policy; piece = piece; last = true; lent = lent; seen = seen }

-- a call on a fresh run that is all read and ends it: the output in front of the lent places that are left
abbrev pub all_read : (read : ℕ) → (output left : List ℕ) → (flags : ℕ) → Seen
all_read read output left flags =
    record {
      number = 0;
      read = read;
      written = length output;
      lent = output ++ left;
      flags = flags;
      total_read = read;
      total_written = length output;
      pending = Nothing;
      ended = true;
    }

abbrev pub row4 : Row
row4 =
    record {
      direction = Decoding;
      run = fresh Decoding 7 replacing;
      piece = 0x82 ∷ [];
      last = false;
      lent = ample;
      seen =
          record {
            number = 1;
            read = 1;
            written = 0;
            lent = ample;
            flags = 0;
            total_read = 1;
            total_written = 0;
            pending = Byte 0x82;
            ended = false;
          };
    }

-- Rows 1 to 15 of document 01, in their order; row 16 is the saved line (traces/specs/Examples.antt).
abbrev pub rows : List Row
rows =
    -- 1. empty: nothing, 0, ended
    last_call Decoding replacing ample [] (all_read 0 [] (room 9) 0)
    -- 2. 41: 0041
    ∷ last_call Decoding replacing ample (0x41 ∷ []) (all_read 1 (0x0041 ∷ []) (room 8) 0)
    -- 3. 82 7C: 4E00
    ∷ last_call Decoding replacing ample (0x82 ∷ 0x7C ∷ []) (all_read 2 (0x4E00 ∷ []) (room 8) 0)
    -- 4. 82 not last: 1, read 1, written 0; then 7C last: 4E00
    ∷ row4
    ∷ record {
      direction = Decoding;
      run = (called row4).run;
      piece = 0x7C ∷ [];
      last = true;
      lent = ample;
      seen =
          record {
            number = 0;
            read = 1;
            written = 1;
            lent = 0x4E00 ∷ room 8;
            flags = 0;
            total_read = 2;
            total_written = 1;
            pending = Nothing;
            ended = true;
          };
    }
    -- 5. 82: 30FB, flag 4
    ∷ last_call Decoding replacing ample (0x82 ∷ []) (all_read 1 (0x30FB ∷ []) (room 8) 4)
    -- 6. 81 5A: 30FB, flag 2
    ∷ last_call Decoding replacing ample (0x81 ∷ 0x5A ∷ []) (all_read 2 (0x30FB ∷ []) (room 8) 2)
    -- 7. 81 0A 41: 30FB 000A 0041, flag 4 (CR 2)
    ∷ last_call Decoding replacing ample (0x81 ∷ 0x0A ∷ 0x41 ∷ []) (all_read 3 (0x30FB ∷ 0x000A ∷ 0x0041 ∷ []) (room 6) 4)
    -- 8. 83 41: 30FB 0041, flag 4
    ∷ last_call Decoding replacing ample (0x83 ∷ 0x41 ∷ []) (all_read 2 (0x30FB ∷ 0x0041 ∷ []) (room 7) 4)
    -- 9. 80, policy 655: F180, flag 1
    ∷ last_call Decoding (digits 6 5 5) ample (0x80 ∷ []) (all_read 1 (0xF180 ∷ []) (room 8) 1)
    -- 10. 41 42, room 1: 0041, answer 2, read 1
    ∷ last_call Decoding replacing (room 1) (0x41 ∷ 0x42 ∷ [])
    (record {
      number = 2;
      read = 1;
      written = 1;
      lent = 0x0041 ∷ [];
      flags = 0;
      total_read = 1;
      total_written = 1;
      pending = Nothing;
      ended = false;
    })
    -- 11. 80 41, policy 055: nothing, 3, read 1, flags 9, ended
    ∷ last_call Decoding (digits 0 5 5) ample (0x80 ∷ 0x41 ∷ [])
    (record {
      number = 3;
      read = 1;
      written = 0;
      lent = ample;
      flags = 9;
      total_read = 1;
      total_written = 0;
      pending = Nothing;
      ended = true;
    })
    -- 12. encode 3000, room 1: answer 2, read 0, byte untouched
    ∷ last_call Encoding replacing (0xEE ∷ []) (0x3000 ∷ [])
    (record {
      number = 2;
      read = 0;
      written = 0;
      lent = 0xEE ∷ [];
      flags = 0;
      total_read = 0;
      total_written = 0;
      pending = Nothing;
      ended = false;
    })
    -- 13. encode 3000, room 2: 81 40
    ∷ last_call Encoding replacing (room 2) (0x3000 ∷ []) (all_read 1 (0x81 ∷ 0x40 ∷ []) [] 0)
    -- 14. encode 00A0: 20, no flag
    ∷ last_call Encoding replacing ample (0x00A0 ∷ []) (all_read 1 (0x20 ∷ []) (room 8) 0)
    -- 15. encode D83D DE00: 3F, flag 1 (CR 5)
    ∷ last_call Encoding replacing ample (0xD83D ∷ 0xDE00 ∷ []) (all_read 2 (0x3F ∷ []) (room 8) 1)
    ∷ []

-- CR 4: under the standard 82 at the text's end stops: 3, read 1, flags 12, nothing written, ended. Under 555, asked for by name,
-- it is replaced, as before; and the standard goes on over an undefined single and an undefined pair.
abbrev pub standard_rows : List Row
standard_rows =
    last_call Decoding standard ample (0x82 ∷ [])
    (record {
      number = 3;
      read = 1;
      written = 0;
      lent = ample;
      flags = 12;
      total_read = 1;
      total_written = 0;
      pending = Nothing;
      ended = true;
    })
    ∷ last_call Decoding replacing ample (0x82 ∷ []) (all_read 1 (0x30FB ∷ []) (room 8) 4)
    ∷ last_call Decoding standard ample (0x80 ∷ 0x81 ∷ 0x5A ∷ 0x41 ∷ []) (all_read 4 (0x30FB ∷ 0x30FB ∷ 0x0041 ∷ []) (room 6) 3)
    ∷ []

-- a run that has read one unit, which is pending
abbrev pub with_pending : Direction → Pending → Policy → Run
with_pending direction pending policy =
    record {
      direction = direction;
      page = 7;
      policy = policy;
      pending = pending;
      flags = 0;
      read = 1;
      written = 0;
      ended = false;
    }

-- a call, not marked last, on a decoding run with 82 pending
abbrev pub pending_byte_call : Policy → (lent : List ℕ) → List ℕ → Seen → Row
pending_byte_call policy lent piece seen = record { direction = Decoding; run = with_pending Decoding (Byte 0x82) policy; piece = piece; last = false; lent = lent; seen = seen }

-- CR 2: when a lead is followed by a byte below 80 that may not be second, only the lead is the invalid code, and the next byte is
-- read afresh; a byte of 80 or more is still taken with it.
abbrev pub bad_half_rows : List Row
bad_half_rows =
    -- 82 pending, 0A, room 1: the lead is settled, 0A does not fit and stays unread
    pending_byte_call replacing (room 1) (0x0A ∷ [])
    (record {
      number = 2;
      read = 0;
      written = 1;
      lent = 0x30FB ∷ [];
      flags = 4;
      total_read = 1;
      total_written = 1;
      pending = Nothing;
      ended = false;
    })
    -- room 0: nothing fits, the lead stays pending
    ∷ pending_byte_call replacing [] (0x0A ∷ [])
    (record {
      number = 2;
      read = 0;
      written = 0;
      lent = [];
      flags = 0;
      total_read = 1;
      total_written = 0;
      pending = Byte 0x82;
      ended = false;
    })
    -- policy 551, room 0: the lead is skipped; nothing is read, nothing written, and the run has changed
    ∷ pending_byte_call (digits 5 5 1) [] (0x0A ∷ [])
    (record {
      number = 2;
      read = 0;
      written = 0;
      lent = [];
      flags = 4;
      total_read = 1;
      total_written = 0;
      pending = Nothing;
      ended = false;
    })
    -- policy 550: stopped, with 0A unread
    ∷ pending_byte_call (digits 5 5 0) ample (0x0A ∷ [])
    (record {
      number = 3;
      read = 0;
      written = 0;
      lent = ample;
      flags = 12;
      total_read = 1;
      total_written = 0;
      pending = Nothing;
      ended = true;
    })
    -- room enough: the lead, and 0A by itself
    ∷ pending_byte_call replacing ample (0x0A ∷ [])
    (record {
      number = 0;
      read = 1;
      written = 2;
      lent = 0x30FB ∷ 0x000A ∷ room 7;
      flags = 4;
      total_read = 2;
      total_written = 2;
      pending = Nothing;
      ended = false;
    })
    -- 81, a lead that may not be second: taken with it, not pending
    ∷ pending_byte_call replacing (room 1) (0x81 ∷ [])
    (record {
      number = 0;
      read = 1;
      written = 1;
      lent = 0x30FB ∷ [];
      flags = 4;
      total_read = 2;
      total_written = 1;
      pending = Nothing;
      ended = false;
    })
    -- 82 7F, marked last: 30FB 007F; 82 80: one invalid code of two bytes
    ∷ last_call Decoding replacing ample (0x82 ∷ 0x7F ∷ []) (all_read 2 (0x30FB ∷ 0x007F ∷ []) (room 7) 4)
    ∷ last_call Decoding replacing ample (0x82 ∷ 0x80 ∷ []) (all_read 2 (0x30FB ∷ []) (room 8) 4)
    ∷ []

-- a call on an encoding run with D83D pending
abbrev pub high_call : Policy → (last : Bool) → (lent : List ℕ) → List ℕ → Seen → Row
high_call policy last lent piece seen = record { direction = Encoding; run = with_pending Encoding (High 0xD83D) policy; piece = piece; last = last; lent = lent; seen = seen }

-- CR 5: a high surrogate followed by a low one is one undefined single of two units; a surrogate otherwise is invalid, one unit, and
-- the unit after it is read afresh. A high surrogate is pending between pieces.
abbrev pub surrogate_rows : List Row
surrogate_rows =
    -- D83D not last, room 0: 1, pending
    record {
      direction = Encoding;
      run = fresh Encoding 7 replacing;
      piece = 0xD83D ∷ [];
      last = false;
      lent = [];
      seen =
          record {
            number = 1;
            read = 1;
            written = 0;
            lent = [];
            flags = 0;
            total_read = 1;
            total_written = 0;
            pending = High 0xD83D;
            ended = false;
          };
    }
    -- D83D pending, DE00 last: one 3F, flag 1
    ∷ high_call replacing true (room 1) (0xDE00 ∷ [])
    (record {
      number = 0;
      read = 1;
      written = 1;
      lent = 0x3F ∷ [];
      flags = 1;
      total_read = 2;
      total_written = 1;
      pending = Nothing;
      ended = true;
    })
    -- 0041 last, room 1: D83D is settled alone, flag 4; 0041 does not fit and stays unread
    ∷ high_call replacing true (room 1) (0x0041 ∷ [])
    (record {
      number = 2;
      read = 0;
      written = 1;
      lent = 0x3F ∷ [];
      flags = 4;
      total_read = 1;
      total_written = 1;
      pending = Nothing;
      ended = false;
    })
    -- D83D again, not last: the first is settled alone, the second is pending
    ∷ high_call replacing false (room 1) (0xD83D ∷ [])
    (record {
      number = 1;
      read = 1;
      written = 1;
      lent = 0x3F ∷ [];
      flags = 4;
      total_read = 2;
      total_written = 1;
      pending = High 0xD83D;
      ended = false;
    })
    -- policy 550: stopped, with 0041 unread
    ∷ high_call (digits 5 5 0) true ample (0x0041 ∷ [])
    (record {
      number = 3;
      read = 0;
      written = 0;
      lent = ample;
      flags = 12;
      total_read = 1;
      total_written = 0;
      pending = Nothing;
      ended = true;
    })
    -- an empty piece marked last: D83D at the text's end is invalid
    ∷ high_call replacing true ample []
    (record {
      number = 0;
      read = 0;
      written = 1;
      lent = 0x3F ∷ room 8;
      flags = 4;
      total_read = 1;
      total_written = 1;
      pending = Nothing;
      ended = true;
    })
    -- DE00 D83D: two that are invalid
    ∷ last_call Encoding replacing ample (0xDE00 ∷ 0xD83D ∷ []) (all_read 2 (0x3F ∷ 0x3F ∷ []) (room 7) 4)
    -- DBFF DFFF and D800 DC00 are pairs; D7FF and E000 are no surrogates
    ∷ last_call Encoding replacing ample (0xDBFF ∷ 0xDFFF ∷ 0xD800 ∷ 0xDC00 ∷ []) (all_read 4 (0x3F ∷ 0x3F ∷ []) (room 7) 1)
    ∷ last_call Encoding (digits 5 5 0) ample (0xD7FF ∷ 0xE000 ∷ []) (all_read 2 (0x3F ∷ 0x3F ∷ []) (room 7) 1)
    ∷ []

-- a refused call on a run that has read 1: the run is given back
abbrev pub refused_row : Direction → Run → Row
refused_row direction run =
    record {
      direction = direction;
      run = run;
      piece = 0x41 ∷ [];
      last = true;
      lent = ample;
      seen =
          record {
            number = 12;
            read = 0;
            written = 0;
            lent = ample;
            flags = run.flags;
            total_read = run.read;
            total_written = run.written;
            pending = run.pending;
            ended = run.ended;
          };
    }

-- CR 5: under 12 a pending unit is allowed in an encoding run if it is a high surrogate, the run is not ended, and written plus 2 is
-- at most 2 × read.
abbrev pub pending_refusals : List Row
pending_refusals =
    -- a low surrogate; a unit that is none; the units beside the high ones
    refused_row Encoding (with_pending Encoding (High 0xDC00) replacing)
    ∷ refused_row Encoding (with_pending Encoding (High 0x0041) replacing)
    ∷ refused_row Encoding (with_pending Encoding (High 0xD7FF) replacing)
    -- a byte in encoding, a unit in decoding
    ∷ refused_row Encoding (with_pending Encoding (Byte 0x82) replacing)
    ∷ refused_row Decoding (with_pending Decoding (High 0xD83D) replacing)
    -- read 1, written 1; ended
    ∷ refused_row Encoding (record { direction = Encoding; page = 7; policy = replacing; pending = High 0xD83D; flags = 0; read = 1; written = 1; ended = false })
    ∷ refused_row Encoding (record { direction = Encoding; page = 7; policy = replacing; pending = High 0xD83D; flags = 0; read = 1; written = 0; ended = true })
    ∷ []

-- Every row of a list holds.
abbrev pub RowsHold : List Row → Type 0
RowsHold [] = Unit {0}
RowsHold (r ∷ rs) = RowHolds r × RowsHold rs
