-- The code and the word of each status.
use Rattle.std.specs.Prelude.{ℕ, List, [], codes}
use Rattle.aol_lines.specs.declared.status.StatusKind.{StatusKind}
use Rattle.aol_lines.specs.declared.status.StatusKind.TheVariants.{Done, Words, Read, Sink, Memory, Long, Json, Grammar, Shape, Limit, Twice, Unwritten, Cycle, Input, Transform, Allocate, Fault, Unbuilt, Stuck}

-- the number that the program ends with
abbrev pub code_of : StatusKind → ℕ
code_of Done = 0
code_of Words = 1
code_of Read = 2
code_of Sink = 3
code_of Memory = 4
code_of Long = 5
code_of Json = 6
code_of Grammar = 7
code_of Shape = 8
code_of Limit = 9
code_of Twice = 10
code_of Unwritten = 11
code_of Cycle = 12
code_of Input = 13
code_of Transform = 14
code_of Allocate = 15
code_of Fault = 16
code_of Unbuilt = 17
code_of Stuck = 18

-- the first word of its line; the output, a part of a text, and nothing have none
abbrev pub word_of : StatusKind → List ℕ
word_of Done = []
word_of Words = codes "words"
word_of Read = codes "read"
word_of Sink = []
word_of Memory = []
word_of Long = codes "long"
word_of Json = codes "json"
word_of Grammar = codes "grammar"
word_of Shape = codes "shape"
word_of Limit = codes "limit"
word_of Twice = codes "twice"
word_of Unwritten = codes "unwritten"
word_of Cycle = codes "cycle"
word_of Input = codes "input"
word_of Transform = codes "transform"
word_of Allocate = codes "allocate"
word_of Fault = codes "fault"
word_of Unbuilt = codes "unbuilt"
word_of Stuck = codes "stuck"
