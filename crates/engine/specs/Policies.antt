-- Document 01, "Policies and flags"; docs/RULES.md, the same heading.
use Rattle.std.specs.Prelude.{Bool, ◌&&◌, ℕ, ◌+◌, leb, eqb}
use Rattle.codepage.specs.CodePage.{pick}
use Rattle.codepage.specs.declared.Kind.{Kind}
use Rattle.codepage.specs.declared.Kind.TheVariants.{UndefinedSingle, UndefinedPair, Invalid}
use Rattle.engine.specs.declared.Direction.{Direction}
use Rattle.engine.specs.declared.Direction.TheVariants.{Decoding, Encoding}
use Rattle.engine.specs.declared.Policy.{Policy}
use Rattle.engine.specs.declared.policies.Action.{Action}
use Rattle.engine.specs.declared.policies.Action.TheVariants.{Stop, Skip, Write}

-- the three digits: undefined single, undefined pair, invalid
abbrev pub digit_of : Policy → Kind → ℕ
digit_of policy UndefinedSingle = policy.single
digit_of policy UndefinedPair = policy.pair
digit_of policy Invalid = policy.invalid

-- the flags: 1 undefined single, 2 undefined pair, 4 invalid
abbrev pub flag_of : Kind → ℕ
flag_of UndefinedSingle = 1
flag_of UndefinedPair = 2
flag_of Invalid = 4

-- and 8 stopped
abbrev pub stopped_flag : ℕ
stopped_flag = 8

-- 0 stop with error, 1 skip, 2 write NUL, 3 write 3F, 4 write 5F, 5 write the default, 6 write F100 plus the byte
unfoldable pub action_of : (digit default byte : ℕ) → Action
action_of digit default byte =
    pick (eqb digit 0) Stop
    (pick (eqb digit 1) Skip
    (pick (eqb digit 2) (Write 0x00)
    (pick (eqb digit 3) (Write 0x3F)
    (pick (eqb digit 4) (Write 0x5F)
    (pick (eqb digit 5) (Write default)
    (Write (0xF100 + byte)))))))

-- 6 is allowed only in the first digit of a decoding run
abbrev pub highest_single : Direction → ℕ
highest_single Decoding = 6
highest_single Encoding = 5

-- whether a run of a direction may have these digits; a start refuses others with 17
unfoldable pub policy_allowed : Direction → Policy → Bool
policy_allowed direction policy = leb policy.single (highest_single direction) && (leb policy.pair 5 && leb policy.invalid 5)

-- the policy of three digits: for undefined singles, undefined pairs and invalid codes
abbrev pub digits : (single pair invalid : ℕ) → Policy
digits single pair invalid = record { single = single; pair = pair; invalid = invalid }

-- the standard policy is 550: it stops on an invalid code (CR 4)
abbrev pub standard : Policy
standard = digits 5 5 0

-- 555, by name for programs that must get through: the default is written for every code without a character
abbrev pub replacing : Policy
replacing = digits 5 5 5

-- 111: every code without a character is skipped
abbrev pub skipping : Policy
skipping = digits 1 1 1
