-- What a sink in memory holds, and what a write to it answers.
use Rattle.std.specs.Prelude.{◌≡◌, ℕ, ◌+◌, ◌<◌, Bool, true, false, ◌⊎◌, List, length, min, vec_capacity}
use Rattle.trace_base.specs.Outside.{one_more, is_one_of}
use Rattle.trace_base.specs.declared.mem_sink.MemSink.{MemSink}
use Rattle.trace_base.specs.declared.sink.WriteAnswer.{WriteAnswer}
use Rattle.trace_base.specs.declared.sink.WriteAnswer.TheVariants.{Took, Failed}

-- the bytes that it took
abbrev pub bytes_held : MemSink → List ℕ
bytes_held s = s.written.items

-- how many writes there have been, which is the number of the next one, counted from 0
abbrev pub writes_so_far : MemSink → ℕ
writes_so_far s = s.calls

-- the numbers of the writes that fail
abbrev pub failing_writes : MemSink → List ℕ
failing_writes s = s.fails

-- the most bytes that a write takes
abbrev pub step_of : MemSink → ℕ
step_of s = s.step

-- how many writes failed
abbrev pub sink_faults : MemSink → ℕ
sink_faults s = s.faults

-- whether the next write is one of those that fail
abbrev pub is_to_fail : MemSink → Bool
is_to_fail s = is_one_of (failing_writes s) (writes_so_far s)

-- how many of so many bytes a write takes, where it takes any
abbrev pub share : MemSink → ℕ → ℕ
share s offered = min offered (step_of s)

-- The answer to a write of so many bytes: it fails where it is one of those that fail, and otherwise only
-- where the sink has no room and a growth was refused; else it takes its share.
abbrev pub AnswersWrite : MemSink → ℕ → WriteAnswer → Type 0
AnswersWrite s offered (Took n) = (is_to_fail s ≡ false) × (n ≡ share s offered)
AnswersWrite s offered Failed =
    (is_to_fail s ≡ true) ⊎ (vec_capacity s.written < length (bytes_held s) + share s offered)

-- how many faults there are after a write with this answer
abbrev pub faults_after_write : WriteAnswer → ℕ → ℕ
faults_after_write (Took n) faults = faults
faults_after_write Failed faults = one_more faults
