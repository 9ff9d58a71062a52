-- What the noting of an access leaves of the ages, once there is room.
use Rattle.std.proofs.Common.{◌≡◌, cond, ap, ◌∙◌}
use Rattle.mdb_base.specs.declared.names.Key.{Key}
use Rattle.mdb_base.specs.Names.{same_key}
use Rattle.run_book.specs.declared.key_ages.KeyAges.{KeyAges}
use Rattle.run_book.specs.Ages.{Ages, ages_of, with_reader, with_writer}
use Rattle.run_book.specs.AgeLaws.{AreNow, at_key}
use Rattle.run_book.specs.declared.rival.Rival.{Rival}

pub read_noted : (old room new : Ages) (key : Key) (rival run : Rival) → rival ≡ run → AreNow room (ages_of old) → AreNow new (at_key key (with_reader rival) room) → AreNow new (at_key key (with_reader run) old)
read_noted old room new key rival run is same noted q =
    noted q
    ∙ (ap (λ (a : KeyAges). cond (same_key key q) (with_reader rival a) a) (same q)
    ∙ ap (λ (r : Rival). cond (same_key key q) (with_reader r (ages_of old q)) (ages_of old q)) is)

pub write_noted : (old room new : Ages) (key : Key) (rival run : Rival) → rival ≡ run → AreNow room (ages_of old) → AreNow new (at_key key (with_writer rival) room) → AreNow new (at_key key (with_writer run) old)
write_noted old room new key rival run is same noted q =
    noted q
    ∙ (ap (λ (a : KeyAges). cond (same_key key q) (with_writer rival a) a) (same q)
    ∙ ap (λ (r : Rival). cond (same_key key q) (with_writer r (ages_of old q)) (ages_of old q)) is)
