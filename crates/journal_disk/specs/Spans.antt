-- Where frames stand among the bytes of a journal.
use Rattle.std.specs.Prelude.{ℕ, ◌≡◌, ◌≤◌, ◌-◌, ◌++◌, ◌∷◌, List, length, map, take, drop}
use Rattle.std.specs.List.{AllByRecursion}
use Rattle.byte_numbers.specs.Numbers.{number}
use Rattle.journal_disk.specs.Frames.{Frame, Old, New, AreRight, frames, frames_size}
use Rattle.journal_disk.specs.declared.frames.Version.{Version}
use Rattle.journal_disk.specs.declared.frames.Version.TheVariants.{First, Second}
use Rattle.journal_disk.specs.declared.reading.Span.{Span}

-- the bytes from one place to another
abbrev pub between : List ℕ → ℕ → ℕ → List ℕ
between bytes start end = take (end - start) (drop start bytes)

-- the payload of a span
abbrev pub piece : List ℕ → Span → List ℕ
piece bytes span = between bytes span.start span.end

-- the frame of this version with this payload, behind which these bytes stand
abbrev pub with_digest : Version → List ℕ → List ℕ → Frame
with_digest First payload digest = Old payload
with_digest Second payload digest = New payload digest

-- the frame of a span: its payload, and its digest where it has one
abbrev pub frame_at : List ℕ → Span → Frame
frame_at bytes span = with_digest span.version (piece bytes span) (between bytes span.end span.next)

-- those of each span
abbrev pub frames_at : List ℕ → List Span → List Frame
frames_at bytes spans = map (frame_at bytes) spans

-- two bytes of 0 stand at the front
abbrev pub BeginsNew : List ℕ → Type 0
BeginsNew bytes = bytes ≡ 0 ∷ 0 ∷ drop 2 bytes

-- a span's places rise, and lie within the bytes
pub record IsWithin (bytes : List ℕ) (span : Span) : Type 0 where
  pub payload : span.start ≤ span.end
  pub digest : span.end ≤ span.next
  pub next : span.next ≤ length bytes

-- before a span's payload stand the two bytes of its length
pub record IsCounted (bytes : List ℕ) (span : Span) : Type 0 where
  pub room : 2 ≤ span.start
  pub is : between bytes (span.start - 2) span.end ≡ number 2 (length (piece bytes span)) ++ piece bytes span

-- the spans are those of the first whole frames, which are right and end at this place
pub record Scans (bytes : List ℕ) (spans : List Span) (place : ℕ) : Type 0 where
  pub right : AreRight (frames_at bytes spans)
  pub are_within : AllByRecursion (IsWithin bytes) spans
  pub size : place ≡ frames_size (frames_at bytes spans)
  pub reached : place ≤ length bytes
  pub parts : bytes ≡ frames (frames_at bytes spans) ++ drop place bytes
