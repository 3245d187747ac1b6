-- Why a program is not listed that was not read, or not accepted. Assumes nothing.
use Rattle.casebook.specs.declared.unlisted.Unlisted.{Unlisted}
use Rattle.casebook.specs.declared.unlisted.Unlisted.TheVariants.{Fault, NoMemory}
use Rattle.tasks.specs.declared.reading.ReadError.{ReadError}
use Rattle.tasks.specs.declared.reading.ReadError.TheVariants.{Refused, NoMemory as Memoryless}
use Rattle.wording.specs.declared.reply.Fault.TheVariants.{Refused as RefusedFault}

abbrev pub unlisted_by : ReadError → Unlisted
unlisted_by (Refused e) = Fault (RefusedFault e)
unlisted_by Memoryless = NoMemory
