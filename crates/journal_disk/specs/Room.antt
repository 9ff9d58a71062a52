-- A payload with the room for its frame.
use Rattle.std.specs.Prelude.{ℕ, ◌-◌, List, length, take, drop}

-- the payload behind four bytes of room and before 32 more
abbrev pub payload_in : List ℕ → List ℕ
payload_in frame = take (length frame - 36) (drop 4 frame)
