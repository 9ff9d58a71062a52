use Rattle.std.proofs.Common.{◌≡◌, ◌+◌, ◌-◌, ap, sym, subst, ◌∙◌, arith}
use Rattle.journal_disk.specs.Disk.{trimmed_to}
use Rattle.frame_journal.specs.Journal.{IsKeptOn}
use Rattle.frame_journal.specs.Records.{before_last, entries_of, entry_frame, last_alone, spelled_size}
use Rattle.frame_journal.proofs.Entries.{ends_with_some, some_values}
use Rattle.frame_journal.proofs.Sizes.{all_of_last, length-last, right_last, size_split}
use Rattle.frame_journal.proofs.Trimmed.{trim_is_kept, trimmed_entries, trimmed_view}
use Rattle.frame_journal.proofs.journal.Journal.trim.Goals as goal

pub overflow_sub-self-inside : goal.overflow_sub-self-inside
overflow_sub-self-inside g c =
    let j = c.self.inside in
    let i = c.self.invariant in
    let shape = entry_frame g.F.Format.spelling in
    let entries = entries_of j.versions.items j.records.items in
    let split = size_split shape entries in
    let size = c.last_frame_len-size.ensures in
    omega (arith, split, rw (c.deref.ensures.value, c.deref-2.ensures.value) at size, i.sized)

pub invariant_of-self : goal.invariant_of-self
invariant_of-self g c =
    let j = c.self.inside in
    let i = c.self.invariant in
    let shape = entry_frame g.F.Format.spelling in
    let entries = entries_of j.versions.items j.records.items in
    let split = size_split shape entries in
    let size = c.last_frame_len-size.ensures in
    let some = some_values j.versions.items j.records.items (ends_with_some g.F.Format.is_checkpoint _ (rw (← c.self.view_is) at c.requires.checkpoint)) in
    let rs = c.keep_last.ensures.last in
    let vs = c.keep_last-2.ensures.last in
    let left = trimmed_entries j.versions.items c.keep_last-2.new.items.items j.records.items c.keep_last.new.items.items i.side_by_side vs rs in
    let one = length-last j.records.items some in
    let two = length-last j.versions.items (omega (arith, some, i.side_by_side)) in
    record {
      are_records = rw rs (all_of_last g.F.Format.is_record j.records.items i.are_records);
      side_by_side = rw (rs, vs) (omega (arith, one, two));
      are_right = rw left (right_last shape entries i.are_right);
      sized = rw left (rw (c.deref.ensures.value, c.deref-2.ensures.value) at size);
      has_places = rw rs (omega (arith, one, some, c.keep_last.ensures.room, i.has_places));
      has_versions = rw rs (omega (arith, one, some, c.keep_last-2.ensures.room, i.has_versions));
      has_bytes = i.has_bytes;
    }

pub returns-clause-ok : goal.returns-clause-ok
returns-clause-ok g c =
    let j = c.self.inside in
    let left = trimmed_entries j.versions.items c.keep_last-2.new.items.items j.records.items c.keep_last.new.items.items c.self.invariant.side_by_side c.keep_last-2.ensures.last c.keep_last.ensures.last in
    rw (← c.self.view_is) (trimmed_view (last_alone (entries_of j.versions.items j.records.items)) _ j.is_torn j.places j.room left)

pub returns-clause-image_ok : goal.returns-clause-image_ok
returns-clause-image_ok g c = λ told.
    let j = c.self.inside in
    let i = c.self.invariant in
    let shape = entry_frame g.F.Format.spelling in
    let entries = entries_of j.versions.items j.records.items in
    let split = size_split shape entries in
    let size = c.last_frame_len-size.ensures in
    let front : j.whole - c.last_frame_len-size.result ≡ spelled_size shape (before_last entries) = omega (arith, split, rw (c.deref.ensures.value, c.deref-2.ensures.value) at size, i.sized) in
    rw (← c.self.view_is) (c.in_ok-trim_front.ensures.ok told ∙ ap (λ n. trimmed_to n (g.D.Disk.seen c.args.disk.now).image) front)

pub returns-clause-kept_on : goal.returns-clause-kept_on
returns-clause-kept_on g c =
    let j = c.self.inside in
    let i = c.self.invariant in
    let shape = entry_frame g.F.Format.spelling in
    let entries = entries_of j.versions.items j.records.items in
    let split = size_split shape entries in
    let size = c.last_frame_len-size.ensures in
    let kept = rw (← c.self.view_is) at c.requires.kept_on in
    let old = g.D.Disk.seen c.args.disk.now in
    let new = g.D.Disk.seen c.trim_front.new.self in
    let front : j.whole - c.last_frame_len-size.result ≡ spelled_size shape (before_last entries) = omega (arith, split, rw (c.deref.ensures.value, c.deref-2.ensures.value) at size, i.sized) in
    let less : new.size + spelled_size shape (before_last entries) ≡ old.size = omega (arith, front, c.in_ok-trim_front.ensures.size_ok) in
    let left = trimmed_entries j.versions.items c.keep_last-2.new.items.items j.records.items c.keep_last.new.items.items i.side_by_side c.keep_last-2.ensures.last c.keep_last.ensures.last in
    let view = trimmed_view (last_alone entries) (entries_of c.keep_last-2.new.items.items c.keep_last.new.items.items) j.is_torn j.places j.room left in
    subst (IsKeptOn g.F.Format.spelling g.D.Disk.tells new) (sym view)
    (trim_is_kept g.F.Format.spelling g.D.Disk.tells old new _ kept (λ told. c.in_ok-trim_front.ensures.ok told ∙ ap (λ n. trimmed_to n old.image) front) less c.in_ok-trim_front.ensures.spare)
