use Rattle.std.proofs.Common.{◌≡◌, ◌∷◌, length, ap, ◌∙◌, refl, rules}
use Rattle.byte_numbers.specs.Numbers.{number}
use Rattle.sha2.specs.Sha256.{sha256}
use Rattle.journal_disk.specs.Frames.{digest_of}
use Rattle.journal_disk.specs.Room.{payload_in}
use Rattle.journal_disk.proofs.Room.{counted, filled}
use Rattle.journal_disk.proofs.frames.fill_in.Goals as goal

pub returns : goal.returns
unfolding digest_of
returns c =
    let frame = c.args.frame.now in
    let payload = payload_in frame in
    let head : c.copy_from_slice.new.self ≡ 0 ∷ 0 ∷ number 2 (length payload) = search rules in
    let put : c.copy_from_slice-2.new.self ≡ c.digest_of-digest.result = search rules in
    let digest : c.copy_from_slice-2.new.self ≡ digest_of payload = put ∙ c.digest_of-digest.ensures ∙ ap sha256 (counted frame c.copy_from_slice.new.self c.requires.room head) in
    filled frame c.copy_from_slice.new.self c.copy_from_slice-2.new.self c.requires.room (ap length head) ∙ rw (head, digest) refl
