-- A frame whose room was filled in.
use Rattle.std.proofs.Common.{◌≡◌, ℕ, ◌-◌, ◌≤◌, List, [], ◌∷◌, ◌++◌, length, take, drop, refl, ap, ◌∙◌, arith, append_assoc}
use Rattle.std.proofs.lemmas.List.{append-nil, length-append, length-drop, nil_from_length}
use Rattle.byte_numbers.specs.Numbers.{number}
use Rattle.byte_numbers.proofs.ForCallers.{length-number}
use Rattle.journal_disk.specs.Room.{payload_in}
use Rattle.journal_disk.proofs.Whole.{take-past}
use borrow.Rule.Slice.PartMut.{put_mid}

-- the last bytes are written over
over_end : (xs ys : List ℕ) (n : ℕ) → n ≤ length xs → put_mid n (length xs - n) xs ys ≡ take n xs ++ ys
over_end xs ys n long =
    let none : drop (length xs - n) (drop n xs) ≡ [] = nil_from_length (drop (length xs - n) (drop n xs)) (omega (arith, length-drop (length xs - n) (drop n xs), length-drop n xs)) in
    rw (none, append-nil) refl

-- four bytes before the payload, and a digest behind it
pub filled : (frame head digest : List ℕ) → 36 ≤ length frame → length head ≡ 4
    → put_mid (length frame - 32) (length (head ++ drop 4 frame) - (length frame - 32)) (head ++ drop 4 frame) digest ≡ head ++ (payload_in frame ++ digest)
filled frame head digest long four =
    let whole = head ++ drop 4 frame in
    let size : length whole ≡ length frame = omega (arith, length-append head (drop 4 frame), length-drop 4 frame) in
    let count : length frame - 32 - length head ≡ length frame - 36 = omega arith in
    over_end whole digest (length frame - 32) (omega arith) ∙ ap (λ (x : List ℕ). x ++ digest) (take-past (length frame - 32) head (drop 4 frame) (omega arith)) ∙ append_assoc head (take (length frame - 32 - length head) (drop 4 frame)) digest
    ∙ ap (λ (k : ℕ). head ++ (take k (drop 4 frame) ++ digest)) count

-- what is digested: the payload's length and the payload, behind two bytes
pub counted : (frame head : List ℕ) → 36 ≤ length frame → head ≡ 0 ∷ 0 ∷ number 2 (length (payload_in frame))
    → take (length frame - 32 - 2) (drop 2 (head ++ drop 4 frame)) ≡ number 2 (length (payload_in frame)) ++ payload_in frame
counted frame head long is =
    let two = number 2 (length (payload_in frame)) in
    let size : length two ≡ 2 = length-number 2 (length (payload_in frame)) in
    let count : length frame - 32 - 2 - length two ≡ length frame - 36 = omega arith in
    ap (λ (h : List ℕ). take (length frame - 32 - 2) (drop 2 (h ++ drop 4 frame))) is ∙ take-past (length frame - 32 - 2) two (drop 4 frame) (omega arith)
    ∙ ap (λ (k : ℕ). two ++ take k (drop 4 frame)) count
