-- What a source in memory has left, and what a read of it answers.
use Rattle.std.specs.Prelude.{ℕ, ◌==◌, List, length, drop, min, if◌then◌else◌}
use Rattle.trace_base.specs.Outside.{one_more, is_one_of}
use Rattle.trace_base.specs.declared.mem_source.MemSource.{MemSource}
use Rattle.trace_base.specs.declared.source.ReadAnswer.{ReadAnswer}
use Rattle.trace_base.specs.declared.source.ReadAnswer.TheVariants.{Got, End, Failed}

-- the bytes that weren't given yet
abbrev pub bytes_left : MemSource → List ℕ
bytes_left s = drop s.given s.bytes

-- how many reads there have been, which is the number of the next one, counted from 0
abbrev pub reads_so_far : MemSource → ℕ
reads_so_far s = s.calls

-- the numbers of the reads that fail
abbrev pub failing_reads : MemSource → List ℕ
failing_reads s = s.fails

-- how many reads failed
abbrev pub source_faults : MemSource → ℕ
source_faults s = s.faults

-- What a read into this much room answers: it fails where its number is one of those that fail, and gives the
-- lesser of what is left and the room otherwise.
abbrev pub read_answer : MemSource → ℕ → ReadAnswer
read_answer s room = if is_one_of (failing_reads s) (reads_so_far s) then Failed
    else (if length (bytes_left s) == 0 then End else Got (min (length (bytes_left s)) room))

-- how many bytes a read put into the room
abbrev pub bytes_given : ReadAnswer → ℕ
bytes_given (Got n) = n
bytes_given End = 0
bytes_given Failed = 0

-- how many faults there are after a read with this answer
abbrev pub faults_after_read : ReadAnswer → ℕ → ℕ
faults_after_read (Got n) faults = faults
faults_after_read End faults = faults
faults_after_read Failed faults = one_more faults
