-- The lines that the program prints. Assumes nothing.
use Rattle.std.specs.Prelude.{ℕ, Bool, List, ◌++◌, Ok, Err, Some, None, codes, decimal, is_err, Option}
use Rattle.domains.specs.Lines.{answer_line}
use Rattle.domains.specs.Refusals.{line}
use Rattle.wording.specs.declared.reply.Complaint.{Complaint}
use Rattle.wording.specs.declared.reply.Complaint.TheVariants.{NoCommand, UnknownCommand, TooFewWords, TooManyWords, NoDomain, NoNumber, LargeNumber, NoHexDigit, OddDigits}
use Rattle.wording.specs.declared.reply.Fault.{Fault}
use Rattle.wording.specs.declared.reply.Fault.TheVariants.{Refused, Wrong}
use Rattle.wording.specs.declared.reply.Reply.{Reply}
use Rattle.wording.specs.declared.reply.Said.{Said}
use Rattle.wording.specs.declared.reply.Said.TheVariants.{Help, Euclid}

-- a word in quotes, with what is said of it
abbrev pub quoted : List ℕ → List ℕ → List ℕ
quoted word rest = codes "error: '" ++ (word ++ rest)

abbrev pub complaint_line : Complaint → List ℕ
complaint_line NoCommand = codes "error: no command"
complaint_line (UnknownCommand w) = quoted w.now (codes "' is no command")
complaint_line (TooFewWords u) = codes "error: " ++ u.now
complaint_line (TooManyWords w) = quoted w.now (codes "' is one word too many")
complaint_line (NoDomain w) = quoted w.now (codes "' is no domain")
complaint_line (NoNumber w) = quoted w.now (codes "' is no number")
complaint_line (LargeNumber w) = quoted w.now (codes "' is past 64 bits")
complaint_line (NoHexDigit w n) = quoted w.now (codes "' has no hexadecimal digit at " ++ decimal n)
complaint_line (OddDigits w) = quoted w.now (codes "' has an odd number of digits")

abbrev pub fault_line : Fault → List ℕ
fault_line (Refused e) = line e
fault_line (Wrong c) = complaint_line c

-- the lines of an answer; of the help nothing is said
abbrev pub said_lines : Said → Option (List ℕ)
said_lines Help = None
said_lines (Euclid x) = Some (answer_line x)

-- the lines of a reply
abbrev pub reply_lines : Reply → Option (List ℕ)
reply_lines r = elim r.outcome [ Ok x ↦ said_lines x | Err e ↦ Some (fault_line e) ]

-- a refusal, or a line that is no command
abbrev pub fails : Reply → Bool
fails r = is_err r.outcome
