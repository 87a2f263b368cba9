-- Exit statuses.
use Rattle.std.specs.Prelude.{ℕ}
use Rattle.cicada_top.specs.declared.finish.Status.{Status}
use Rattle.cicada_top.specs.declared.finish.Status.TheVariants.{Done, Usage, Input, TooLong, ReadFault, WriteFault, NoMemory, Differs}

abbrev pub number_of : Status → ℕ
number_of Done = 0
number_of Usage = 2
number_of Input = 3
number_of TooLong = 3
number_of ReadFault = 4
number_of WriteFault = 5
number_of NoMemory = 6
number_of Differs = 8
