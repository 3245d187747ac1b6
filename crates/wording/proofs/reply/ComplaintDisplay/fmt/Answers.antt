use Rattle.std.proofs.Common.{sym, ap}
use Rattle.std.proofs.Output.{has_written_of_eq}
use Rattle.wording.specs.Replies.{complaint_line}
use Rattle.wording.proofs.reply.ComplaintDisplay.fmt.Goals as goal

pub returns-in-NoHexDigit-clause-writes : goal.returns-in-NoHexDigit-clause-writes
returns-in-NoHexDigit-clause-writes g c plain ok =
    has_written_of_eq _ _ _ _ _ (sym (ap complaint_line c.in-NoHexDigit.is)) (c.write-in-NoHexDigit.ensures.writes plain ok)

pub returns-in-OddDigits-clause-writes : goal.returns-in-OddDigits-clause-writes
returns-in-OddDigits-clause-writes g c plain ok =
    has_written_of_eq _ _ _ _ _ (sym (ap complaint_line c.in-OddDigits.is)) (c.write-in-OddDigits.ensures.writes plain ok)
