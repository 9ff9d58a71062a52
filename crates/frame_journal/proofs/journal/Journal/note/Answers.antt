use Rattle.std.proofs.Common.{ℕ, ltb, ◌≡◌, ◌+◌, ◌-◌, inl, map, sym, subst, refl, arith}
use Rattle.std.proofs.lemmas.List.{map_push, length_push}
use Rattle.mdb_base.proofs.ForCallers.{all_push}
use Rattle.journal_disk.specs.declared.frames.Version.TheVariants.{Second}
use Rattle.journal_disk.proofs.ForCallers.{right_push, written_is_frame}
use Rattle.frame_journal.specs.Journal.{IsKeptOn, written_size}
use Rattle.frame_journal.specs.Records.{as_written, entry_frame, entries_of, spelled_size}
use Rattle.frame_journal.proofs.Entries.{entries_push}
use Rattle.frame_journal.proofs.Keeping.{not_torn}
use Rattle.frame_journal.proofs.Noting.{note_keeps, note_tears, noted_view, on_ok, on_err}
use Rattle.frame_journal.proofs.Sizes.{spelled_size_push}
use Rattle.frame_journal.proofs.journal.Journal.note.Goals as goal

pub invariant_of-self : goal.invariant_of-self
invariant_of-self g c =
    let kept = rw (← c.self.view_is) at c.requires.kept_on in
    let untorn = rw (← c.self.view_is) at c.requires.whole in
    let room = rw (← c.self.view_is) at c.requires.reserved in
    let spelling = g.F.Format.spelling in
    let shape = entry_frame spelling in
    let entry = c.args.entry in
    let i = c.self.invariant in
    let o = c.append_entry-outcome.ensures in
    let rs = c.self.inside.records.items in
    let vs = c.self.inside.versions.items in
    let entries = entries_of vs rs in
    let full = not_torn c.self.inside.is_torn (spelled_size shape entries) (g.D.Disk.seen c.args.disk.now).size kept.is_torn untorn in
    let items = c.push_reserved.ensures.items in
    let versions = c.push_reserved-then-size-self.ensures.items in
    let pushed = entries_push vs rs Second entry i.side_by_side in
    record {
      are_records = rw items (all_push g.F.Format.is_record rs entry i.are_records o.is_record);
      side_by_side = rw (items, versions) (omega (arith, length_push rs entry, length_push vs Second, i.side_by_side));
      are_right = rw (items, versions, pushed, map_push) (right_push (map shape entries) (shape (as_written entry)) i.are_right (written_is_frame (spelling entry) c.requires.payload) refl);
      sized = rw (items, versions, pushed) (omega (arith, spelled_size_push shape entries (as_written entry), full, kept.whole, i.sized, c.if-size-self.true, c.len-bytes.ensures, c.len-size.ensures, o.frame, o.grows));
      has_places = rw (items, c.push_reserved.ensures.capacity) (omega (arith, length_push rs entry, i.has_places, room));
      has_versions = rw (items, c.push_reserved-then-size-self.ensures.capacity) (omega (arith, length_push rs entry, i.has_versions, room));
      has_bytes = omega (arith, i.has_bytes, o.room);
    }

pub returns-then-size-self-clause-ok : goal.returns-then-size-self-clause-ok
returns-then-size-self-clause-ok g c =
    let j = c.self.inside in
    let made = noted_view g.F.Format.spelling j.versions.items c.push_reserved-then-size-self.new.self.items j.records.items c.push_reserved.new.self.items c.args.entry j.is_torn j.places j.room c.len-bytes.result
    c.push_reserved-then-size-self.ensures.items c.push_reserved.ensures.items c.self.invariant.side_by_side (omega (arith, c.len-bytes.ensures, c.append_entry-outcome.ensures.frame)) in
    rw (← c.self.view_is) (on_ok c.append_entry-outcome.result _ made)

pub returns-then-size-self-clause-err : goal.returns-then-size-self-clause-err
returns-then-size-self-clause-err g c =
    let j = c.self.inside in
    let made = noted_view g.F.Format.spelling j.versions.items c.push_reserved-then-size-self.new.self.items j.records.items c.push_reserved.new.self.items c.args.entry j.is_torn j.places j.room c.len-bytes.result
    c.push_reserved-then-size-self.ensures.items c.push_reserved.ensures.items c.self.invariant.side_by_side (omega (arith, c.len-bytes.ensures, c.append_entry-outcome.ensures.frame)) in
    rw (← c.self.view_is) (on_err c.append_entry-outcome.result _ (inl made))

pub returns-then-size-self-clause-kept_on : goal.returns-then-size-self-clause-kept_on
returns-then-size-self-clause-kept_on g c =
    let kept = rw (← c.self.view_is) at c.requires.kept_on in
    let untorn = rw (← c.self.view_is) at c.requires.whole in
    let room = rw (← c.self.view_is) at c.requires.reserved in
    let j = c.self.inside in
    let spelling = g.F.Format.spelling in
    let o = c.append_entry-outcome.ensures in
    let old = g.D.Disk.seen c.args.disk.now in
    let new = g.D.Disk.seen c.append_entry-outcome.new.disk in
    let entries = entries_of j.versions.items j.records.items in
    let full = not_torn j.is_torn (spelled_size (entry_frame spelling) entries) old.size kept.is_torn untorn in
    let size : new.size ≡ spelled_size (entry_frame spelling) entries + written_size spelling c.args.entry = omega (arith, full, kept.whole, c.self.invariant.sized, c.if-size-self.true, c.len-bytes.ensures, c.len-size.ensures, o.frame, o.grows) in
    let made = noted_view spelling j.versions.items c.push_reserved-then-size-self.new.self.items j.records.items c.push_reserved.new.self.items c.args.entry j.is_torn j.places j.room c.len-bytes.result
    c.push_reserved-then-size-self.ensures.items c.push_reserved.ensures.items c.self.invariant.side_by_side (omega (arith, c.len-bytes.ensures, o.frame)) in
    subst (IsKeptOn spelling g.D.Disk.tells new) (sym made)
    (note_keeps spelling g.D.Disk.tells old new _ c.args.entry c.append_entry-outcome.result kept untorn room c.requires.payload o.ok o.err (g.met.D.Disk.told_size c.args.disk.now) (g.met.D.Disk.told_size c.append_entry-outcome.new.disk) o.spare o.grows size)

pub returns-else-size-self-clause-kept_on : goal.returns-else-size-self-clause-kept_on
returns-else-size-self-clause-kept_on g c =
    let kept = rw (← c.self.view_is) at c.requires.kept_on in
    let untorn = rw (← c.self.view_is) at c.requires.whole in
    let room = rw (← c.self.view_is) at c.requires.reserved in
    let j = c.self.inside in
    let spelling = g.F.Format.spelling in
    let o = c.append_entry-outcome.ensures in
    let old = g.D.Disk.seen c.args.disk.now in
    let new = g.D.Disk.seen c.append_entry-outcome.new.disk in
    let entries = entries_of j.versions.items j.records.items in
    let full = not_torn j.is_torn (spelled_size (entry_frame spelling) entries) old.size kept.is_torn untorn in
    let fewer : new.size ≡ spelled_size (entry_frame spelling) entries + written_size spelling c.args.entry → ⊥ = λ e. c.if-size-self.false (omega (arith, e, c.self.invariant.sized, c.len-bytes.ensures, c.len-size.ensures, o.frame)) in
    let torn : ltb j.whole c.len-size.result ≡ ltb (spelled_size (entry_frame spelling) entries) new.size = rw (c.len-size.ensures, c.self.invariant.sized) refl in
    let bytes : c.len-bytes.result ≡ written_size spelling c.args.entry = omega (arith, c.len-bytes.ensures, o.frame) in
    subst (λ (n : ℕ). IsKeptOn spelling g.D.Disk.tells new (record { entries = entries; is_torn = ltb j.whole c.len-size.result; places = j.places - 1; room = j.room - n })) (sym bytes)
    (note_tears spelling g.D.Disk.tells old new _ c.args.entry c.append_entry-outcome.result kept untorn room c.requires.payload o.ok o.err (g.met.D.Disk.told_size c.args.disk.now) (g.met.D.Disk.told_size c.append_entry-outcome.new.disk) o.spare o.grows (ltb j.whole c.len-size.result) torn fewer)
