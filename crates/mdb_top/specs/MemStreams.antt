-- What a source and a sink in memory mean.
use Rattle.std.specs.Prelude.{ℕ, ◌+◌, ◌-◌, ◌^◌, ◌≡◌, ◌⊎◌, min, List, [], Contains, Result, OnOk, OnErr, drop, length}
use Rattle.mdb_top.specs.declared.mem_streams.MemSource.{MemSource}
use Rattle.mdb_top.specs.declared.mem_streams.MemSink.{MemSink}

-- the bytes that weren't given yet
abbrev pub source_left : MemSource → List ℕ
source_left source = drop source.place source.bytes.items

-- how many calls failed, and how many were made
abbrev pub source_faults : MemSource → ℕ
source_faults source = source.faults

abbrev pub source_calls : MemSource → ℕ
source_calls source = source.calls

-- the most bytes that one call gives, and the calls that fail, counted from 1
abbrev pub source_most : MemSource → ℕ
source_most source = source.most

abbrev pub source_failing : MemSource → List ℕ
source_failing source = source.failing.items

-- the bytes that were put
abbrev pub sink_written : MemSink → List ℕ
sink_written sink = sink.bytes.items

-- how many calls failed, and how many were made
abbrev pub sink_faults : MemSink → ℕ
sink_faults sink = sink.faults

abbrev pub sink_calls : MemSink → ℕ
sink_calls sink = sink.calls

-- how many bytes it takes in all, the most that one call takes, and the calls that fail, counted from 1
abbrev pub sink_room : MemSink → ℕ
sink_room sink = sink.room

abbrev pub sink_most : MemSink → ℕ
sink_most sink = sink.most

abbrev pub sink_failing : MemSink → List ℕ
sink_failing sink = sink.failing.items

-- a count with one more, kept in 64 bits
abbrev pub counted : ℕ → ℕ
counted n = min (n + 1) (2 ^ 64 - 1)

-- a source as it was made gives these bytes, at most so many in one call, and fails at these calls
pub record IsNewSource (source : MemSource) (bytes : List ℕ) (most : ℕ) (failing : List ℕ) : Type 0 where
  pub left : source_left source ≡ bytes
  pub most_is : source_most source ≡ most
  pub failing_is : source_failing source ≡ failing
  pub calls : source_calls source ≡ 0
  pub faults : source_faults source ≡ 0

-- a call is counted, and changes neither of these
pub record SourceKeeps (old new : MemSource) : Type 0 where
  pub calls : source_calls new ≡ counted (source_calls old)
  pub most : source_most new ≡ source_most old
  pub failing : source_failing new ≡ source_failing old

-- a call with this number fails exactly where it is one of these
pub record FailsExactlyAt {T E : Type 0} (failing : List ℕ) (call : ℕ) (outcome : Result T E) : Type 0 where
  pub listed : OnErr outcome (Contains failing call)
  pub unlisted : OnOk outcome (Contains failing call → ⊥)

-- a sink as it was made is empty, takes so many bytes in all and at most so many in one call, and fails at these calls
pub record IsNewSink (sink : MemSink) (room most : ℕ) (failing : List ℕ) : Type 0 where
  pub written : sink_written sink ≡ []
  pub room_is : sink_room sink ≡ room
  pub most_is : sink_most sink ≡ most
  pub failing_is : sink_failing sink ≡ failing
  pub calls : sink_calls sink ≡ 0
  pub faults : sink_faults sink ≡ 0

-- a call is counted, and changes none of these
pub record SinkKeeps (old new : MemSink) : Type 0 where
  pub calls : sink_calls new ≡ counted (sink_calls old)
  pub room : sink_room new ≡ sink_room old
  pub most : sink_most new ≡ sink_most old
  pub failing : sink_failing new ≡ sink_failing old

-- how many bytes it takes yet
abbrev pub sink_left : MemSink → ℕ
sink_left sink = sink_room sink - length (sink_written sink)

-- a call fails exactly where it is one of those that do, or finds the sink full
pub record SinkFailsExactly {T E : Type 0} (old : MemSink) (outcome : Result T E) : Type 0 where
  pub listed : OnErr outcome (Contains (sink_failing old) (counted (sink_calls old)) ⊎ (sink_left old ≡ 0))
  pub unlisted : OnOk outcome (Contains (sink_failing old) (counted (sink_calls old)) → ⊥)
  pub room : OnOk outcome (sink_left old ≡ 0 → ⊥)
