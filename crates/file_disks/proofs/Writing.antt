-- One write more.
use Rattle.std.proofs.Common.{◌≡◌, ℕ, ◌+◌, ◌-◌, ◌≤◌, List, ◌++◌, length, take, drop, sym, ◌∙◌, ap, arith, append_assoc, length-append, length-drop, length-take-le, take-add}
use Rattle.journal_disk.specs.Disk.{Image, appended}
use Rattle.file_disks.specs.Files.{IsEnd}
use Rattle.mdb_base.proofs.ForCallers.{take_left}

-- a front of the rest goes behind the front that was written
pub appended-more : (piece : List ℕ) (before : Image) (done count : ℕ) → appended (take count (take (length piece - done) (drop done piece))) (appended (take done piece) before) ≡ appended (take (done + count) piece) before
appended-more piece before done count =
    let make : List ℕ → Image = λ bytes. record { bytes = bytes; synced = before.synced } in
    ap make (append_assoc before.bytes (take done piece) (take count (take (length piece - done) (drop done piece)))
    ∙ ap (λ rest. before.bytes ++ (take done piece ++ take count rest)) (take_left piece done)
    ∙ ap (λ front. before.bytes ++ front) (sym (take-add done count piece)))

-- the next byte stands behind the front that was written
pub next-end : (piece : List ℕ) (before now : Image) (done place : ℕ) → done ≤ length piece → place ≡ length before.bytes + done → now ≡ appended (take done piece) before → IsEnd place now
next-end piece before now done place within at e =
    let a = ap (λ image. length image.bytes) e in
    let b = length-append before.bytes (take done piece) in
    let c = length-take-le done piece within in
    omega (arith, a, b, c, at)

-- the front that is written is one of the piece
pub within-more : (piece : List ℕ) (done count : ℕ) → done ≤ length piece → count ≤ length (take (length piece - done) (drop done piece)) → done + count ≤ length piece
within-more piece done count within le =
    let a = ap length (take_left piece done) in
    let b = length-drop done piece in
    omega (arith, a, b, within, le)
