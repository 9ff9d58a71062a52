-- Frames: how payloads stand in a journal, whose bytes are whole frames and a proper prefix of one more frame. A version 1 frame is the
-- payload's length in two bytes, the highest first, and a payload of at least one byte. A version 2 frame is two bytes of 0, the length in
-- two bytes, the payload, and a digest of 32 bytes, which is right where it is the SHA-256 (FIPS 180-4) of the length's two bytes and the
-- payload. Both are read, and only version 2 is written (this project's profile).
use Rattle.std.specs.Prelude.{Bool, true, false, ℕ, ◌≡◌, ◌+◌, ◌-◌, ◌<◌, ◌^◌, List, [], ◌∷◌, ◌++◌, length, nat_le, if◌then◌else◌}
use Rattle.std.specs.List.{AllByRecursion}
use Rattle.byte_numbers.specs.Numbers.{number}
use Rattle.sha2.specs.Sha256.{sha256}
use Rattle.journal_disk.specs.declared.frames.Version.{Version}
use Rattle.journal_disk.specs.declared.frames.Version.TheVariants.{First, Second}

-- a payload has at most 65,535 bytes
abbrev pub IsPayload : List ℕ → Type 0
IsPayload payload = length payload < 2 ^ 16

-- the digest of a payload and its length
unfoldable pub digest_of : List ℕ → List ℕ
digest_of payload = sha256 (number 2 (length payload) ++ payload)

-- a frame of either version
pub data Frame : Type 0 where
  Old : List ℕ → Frame  -- the payload
  New : List ℕ → List ℕ → Frame  -- the payload and the digest that stands behind it

abbrev pub payload_of : Frame → List ℕ
payload_of (Old payload) = payload
payload_of (New payload digest) = payload

abbrev pub version_of : Frame → Version
version_of (Old payload) = First
version_of (New payload digest) = Second

-- the bytes of a frame
abbrev pub frame_bytes : Frame → List ℕ
frame_bytes (Old payload) = number 2 (length payload) ++ payload
frame_bytes (New payload digest) = 0 ∷ 0 ∷ (number 2 (length payload) ++ (payload ++ digest))

-- the parts have the lengths that they may have
abbrev pub IsFrame : Frame → Type 0
IsFrame (Old payload) = (0 < length payload) × IsPayload payload
IsFrame (New payload digest) = IsPayload payload × (length digest ≡ 32)

-- the digest is that of the length and the payload; version 1 has none
abbrev pub IsRight : Frame → Type 0
IsRight (Old payload) = Unit {0}
IsRight (New payload digest) = digest ≡ digest_of payload

-- the frame that is written
abbrev pub written : List ℕ → Frame
written payload = New payload (digest_of payload)

-- its bytes
abbrev pub frame : List ℕ → List ℕ
frame payload = frame_bytes (written payload)

-- the right frame of a payload in a version
abbrev pub frame_in : Version → List ℕ → Frame
frame_in First payload = Old payload
frame_in Second payload = written payload

-- how many bytes a frame has
abbrev pub frame_size : Frame → ℕ
frame_size f = length (frame_bytes f)

-- the bytes of these frames, one behind the other
abbrev pub frames : List Frame → List ℕ
frames [] = []
frames (first ∷ others) = frame_bytes first ++ frames others

-- how many bytes these frames have
abbrev pub frames_size : List Frame → ℕ
frames_size [] = 0
frames_size (first ∷ others) = frame_size first + frames_size others

-- a proper prefix of one frame, right or not; no byte at all is one
pub record IsPartOfFrame (bytes : List ℕ) : Type 0 where
  pub whole : Frame
  pub is_frame : IsFrame whole
  pub lacking : List ℕ
  pub lacks_some : 0 < length lacking
  pub parts : bytes ++ lacking ≡ frame_bytes whole

-- each of these is a frame, and right
pub record AreRight (found : List Frame) : Type 0 where
  pub are_frames : AllByRecursion IsFrame found
  pub are_right : AllByRecursion IsRight found

-- these are the whole frames from the front, all of them right, and what follows them is a proper prefix of one frame
pub record AreWhole (bytes : List ℕ) (found : List Frame) : Type 0 where
  pub right : AreRight found
  pub rest : List ℕ
  pub parts : bytes ≡ frames found ++ rest
  pub is_torn : IsPartOfFrame rest

-- behind these whole frames from the front, all of them right, stands a whole frame of version 2 with another digest
pub record IsDamagedBehind (bytes : List ℕ) (before : List Frame) : Type 0 where
  pub right : AreRight before
  pub payload : List ℕ
  pub digest : List ℕ
  pub is_frame : IsFrame (New payload digest)
  pub is_wrong : digest ≡ digest_of payload → ⊥
  pub rest : List ℕ
  pub parts : bytes ≡ frames before ++ (frame_bytes (New payload digest) ++ rest)

-- such a frame stands at this place
abbrev pub IsDamaged : List ℕ → ℕ → Type 0
IsDamaged bytes at = (before : List Frame) × IsDamagedBehind bytes before × (at ≡ frames_size before)

-- what stands behind these whole frames: a damaged one, or a proper prefix of one
abbrev pub IsFront : List ℕ → List Frame → Bool → Type 0
IsFront bytes found true = IsDamagedBehind bytes found
IsFront bytes found false = AreWhole bytes found

-- the frames that end within the first n bytes
abbrev pub whole_within : ℕ → List Frame → List Frame
whole_within n [] = []
whole_within n (first ∷ others) =
    if nat_le (frame_size first) n then first ∷ whole_within (n - frame_size first) others else []
