-- One more whole frame behind those that were found.
use Rattle.std.proofs.Common.{◌≡◌, ℕ, zero, suc, ◌+◌, ◌<◌, List, [], ◌∷◌, ◌++◌, length, get_or, drop, refl, sym, ap, ◌∙◌, arith, append_assoc}
use Rattle.std.specs.List.{AllByRecursion}
use Rattle.std.proofs.lemmas.List.{append-nil, length-append, length-drop, map_push}
use Rattle.mdb_base.proofs.ForCallers.{all_push}
use Rattle.journal_disk.specs.Frames.{Frame, Old, New, IsFrame, IsRight, IsPayload, IsPartOfFrame, AreRight, AreWhole, IsDamagedBehind, frame_bytes, frame_size, frames, frames_size}
use Rattle.journal_disk.specs.Spans.{between, piece, with_digest, frame_at, frames_at, IsWithin, Scans}
use Rattle.journal_disk.specs.declared.frames.Version.{Version}
use Rattle.journal_disk.specs.declared.frames.Version.TheVariants.{First, Second}
use Rattle.journal_disk.specs.declared.reading.Span.{Span}

pub right_push : (found : List Frame) (f : Frame) → AreRight found → IsFrame f → IsRight f → AreRight (found ++ f ∷ [])
right_push found f right fits good = record { are_frames = all_push IsFrame found f right.are_frames fits; are_right = all_push IsRight found f right.are_right good }

pub frames_push : (found : List Frame) (f : Frame) → frames (found ++ f ∷ []) ≡ frames found ++ frame_bytes f
frames_push [] f = append-nil (frame_bytes f)
frames_push (first ∷ others) f =
    ap (λ (x : List ℕ). frame_bytes first ++ x) (frames_push others f) ∙ sym (append_assoc (frame_bytes first) (frames others) (frame_bytes f))

pub frames_size_push : (found : List Frame) (f : Frame) → frames_size (found ++ f ∷ []) ≡ frames_size found + frame_size f
frames_size_push [] f = omega arith
frames_size_push (first ∷ others) f = omega (arith, frames_size_push others f)

pub scans_none : (bytes : List ℕ) → Scans bytes [] 0
scans_none bytes = record { right = record { are_frames = tt; are_right = tt }; are_within = tt; size = refl; reached = omega arith; parts = refl }

module _ (bytes : List ℕ) (spans : List Span) (place : ℕ) (span : Span) (so_far : Scans bytes spans place) (within : IsWithin bytes span) (fits : IsFrame (frame_at bytes span))
    (next : drop place bytes ≡ frame_bytes (frame_at bytes span) ++ drop span.next bytes) where
  -- one more, which is right
  pub scans_more : IsRight (frame_at bytes span) → Scans bytes (spans ++ span ∷ []) span.next
  scans_more right =
      let more : frames_at bytes (spans ++ span ∷ []) ≡ frames_at bytes spans ++ frame_at bytes span ∷ [] = map_push (frame_at bytes) spans span in
      let f = frame_at bytes span in
      let sizes : length (drop place bytes) ≡ length (frame_bytes f ++ drop span.next bytes) = ap length next in
      let end : span.next ≡ place + frame_size f = omega (arith, length-drop place bytes, length-drop span.next bytes, length-append (frame_bytes f) (drop span.next bytes), within.next, so_far.reached) in
      record {
        right = rw more (right_push (frames_at bytes spans) f so_far.right fits right);
        are_within = all_push (IsWithin bytes) spans span so_far.are_within within;
        size = rw more (omega (arith, end, frames_size_push (frames_at bytes spans) f, so_far.size));
        reached = within.next;
        parts = rw (more, frames_push) (so_far.parts ∙ ap (λ (x : List ℕ). frames (frames_at bytes spans) ++ x) next ∙ sym (append_assoc (frames (frames_at bytes spans)) (frame_bytes f) (drop span.next bytes)));
      }

pub frame_got : (bytes : List ℕ) (spans : List Span) (place : ℕ) (span : Span) → AllByRecursion IsFrame (frames_at bytes spans) → place < length spans → span ≡ get_or spans place span → IsFrame (frame_at bytes span)
frame_got bytes [] place span all below e = absurd (omega arith)
frame_got bytes (first ∷ spans) zero span all below e = rw e all.0
frame_got bytes (first ∷ spans) (suc place) span all below e = frame_got bytes spans place span all.1 (omega arith) e

with_digest_payload : (version : Version) (payload digest : List ℕ) → IsFrame (with_digest version payload digest) → IsPayload payload
with_digest_payload First payload digest fits = fits.1
with_digest_payload Second payload digest fits = fits.0

pub frame_payload : (bytes : List ℕ) (span : Span) → IsFrame (frame_at bytes span) → IsPayload (piece bytes span)
frame_payload bytes span fits = with_digest_payload span.version (piece bytes span) (between bytes span.end span.next) fits

-- only a frame of version 2 can be wrong
damaged_of : (bytes : List ℕ) (before : List Frame) (f : Frame) (rest : List ℕ) → AreRight before → IsFrame f → (IsRight f → ⊥) → bytes ≡ frames before ++ (frame_bytes f ++ rest) → IsDamagedBehind bytes before
damaged_of bytes before (Old payload) rest right fits wrong parts = absurd (wrong tt)
damaged_of bytes before (New payload digest) rest right fits wrong parts =
    record { right = right; payload = payload; digest = digest; is_frame = fits; is_wrong = wrong; rest = rest; parts = parts }

pub scanned : (bytes told : List ℕ) (spans : List Span) (place : ℕ) → bytes ≡ told → Scans bytes spans place → IsPartOfFrame (drop place bytes) → AreWhole told (frames_at bytes spans)
scanned bytes told spans place same s torn = record { right = s.right; rest = drop place bytes; parts = sym same ∙ s.parts; is_torn = torn }

-- where the frame that follows is wrong
pub scans_wrong : (bytes : List ℕ) (spans : List Span) (place : ℕ) (span : Span) → Scans bytes spans place → IsFrame (frame_at bytes span)
    → drop place bytes ≡ frame_bytes (frame_at bytes span) ++ drop span.next bytes → (IsRight (frame_at bytes span) → ⊥) → IsDamagedBehind bytes (frames_at bytes spans)
scans_wrong bytes spans place span so_far fits next wrong = damaged_of bytes (frames_at bytes spans) (frame_at bytes span) (drop span.next bytes) so_far.right fits wrong (so_far.parts ∙ ap (λ (x : List ℕ). frames (frames_at bytes spans) ++ x) next)
