-- What is on the disk of an actor's store while the actor is up: the frames of its records alone.
use Rattle.std.proofs.Common.{◌≡◌, ℕ, Bool, true, false, IsTrue, List, [], ◌++◌, length, map, ◌∙◌, ap, arith}
use Rattle.std.proofs.lemmas.List.{append-nil, length-append}
use Rattle.mdb_base.proofs.ForCallers.{nothing_left}
use Rattle.fed_rules.specs.Disk.{Disk}
use Rattle.journal_disk.specs.Disk.{Seen}
use Rattle.frame_journal.specs.Journal.{IsKeptOn}
use Rattle.frame_journal.specs.Records.{entry_frame, spelled, spelled_size}
use Rattle.frame_journal.proofs.ForCallers.{length-frames, not_torn}
use Rattle.actor_store.specs.declared.store.Standing.{Standing}
use Rattle.actor_store.specs.declared.store.Standing.TheVariants.{Up, Down, Failing}
use Rattle.actor_store.specs.Store.{IsInOrder, Stored, is_up}

-- while an actor is up nothing stands behind the frames of its entries
pub nothing_behind : {R : Type 0} (spelling : R → List ℕ) (tells : Bool) (seen : Seen) (store : Stored R) (rules : Disk R) → IsTrue tells → length seen.image.bytes ≡ seen.size → is_up store.standing ≡ true
    → IsInOrder store.standing store.journal rules → IsKeptOn spelling tells seen store.journal → seen.image.bytes ≡ spelled (entry_frame spelling) store.journal.entries
nothing_behind spelling tells seen store rules told sized up order kept =
    let entries = store.journal.entries in
    let are = kept.records told in
    let whole : store.journal.is_torn ≡ false = untorn store.standing up order in
    let most = not_torn store.journal.is_torn (spelled_size (entry_frame spelling) entries) seen.size kept.is_torn whole in
    let parts : length seen.image.bytes ≡ length (spelled (entry_frame spelling) entries ++ are.rest) = ap length are.parts in
    let none : are.rest ≡ [] = nothing_left are.rest (omega (arith, most, parts, sized, length-append (spelled (entry_frame spelling) entries) are.rest, length-frames (map (entry_frame spelling) entries))) in
    are.parts ∙ ap (λ rest. spelled (entry_frame spelling) entries ++ rest) none ∙ append-nil (spelled (entry_frame spelling) entries)
  where
    untorn : (standing : Standing) → is_up standing ≡ true → IsInOrder standing store.journal rules → store.journal.is_torn ≡ false
    untorn Up e o = o
    untorn Down e o = absurd cc
    untorn Failing e o = absurd cc
