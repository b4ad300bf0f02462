-- The number with which the program ends.
use Rattle.std.specs.Prelude.{ℕ}
use Rattle.acg_base.specs.declared.status.Status.{Status}
use Rattle.acg_base.specs.declared.status.Status.TheVariants.{Done, Failed, Escaped, Full, Running, ExitAbove, Words, ReadFault, WriteFault, Description, Source, Uncovered, Numeral, IllSorted, Limit, Memory, Image, Trapped, Action}

-- the exit status of the program
abbrev pub code_of : Status → ℕ
code_of Done = 0
code_of Failed = 1
code_of Escaped = 2
code_of Full = 3
code_of Running = 4
code_of ExitAbove = 5
code_of Words = 10
code_of ReadFault = 11
code_of WriteFault = 12
code_of Description = 13
code_of Source = 14
code_of Uncovered = 15
code_of Numeral = 16
code_of IllSorted = 17
code_of Limit = 18
code_of Memory = 19
code_of Image = 20
code_of Trapped = 21
code_of Action = 22
