-- The exit status of the process.
use Rattle.std.specs.Prelude.{ℕ}
use Rattle.job_reader.specs.declared.status.Status.{Status}
use Rattle.job_reader.specs.declared.status.Status.TheVariants as status

abbrev pub code_of : Status → ℕ
code_of status.Done = 0
code_of status.Usage = 1
code_of status.ReadFault = 2
code_of status.WriteFault = 3
code_of status.NoMemory = 4
code_of (status.BadScript line) = 5
code_of status.NoInit = 6
code_of (status.TooLarge limit number) = 7
code_of (status.BadPolicy allow line) = 8
code_of (status.BadStore line why) = 9
code_of (status.BadWire at) = 11
code_of status.BadTrace = 12
