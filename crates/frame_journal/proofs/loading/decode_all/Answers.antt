use Rattle.std.proofs.Common.{◌≡◌, ◌+◌, ◌++◌, ◌∷◌, [], take, map, arith, ap, sym, ◌∙◌, refl}
use Rattle.std.proofs.lemmas.List.{map_push, length_push}
use Rattle.mdb_base.proofs.ForCallers.{all_push}
use Rattle.journal_disk.specs.Frames.{frame_in, frame_size, frames_size}
use Rattle.journal_disk.proofs.ForCallers.{frames_size_push}
use Rattle.frame_journal.specs.Records.{Entry, entries_at, entries_of, entry_frame}
use Rattle.frame_journal.proofs.Entries.{entries_push, got, got_frame}
use Rattle.frame_journal.proofs.ReadOn.{take_got, frames_size_take, reading_fails, reading_goes_on}
use Rattle.frame_journal.proofs.loading.decode_all.Goals as goal

pub returns-in-Err-NoValue-clause-read : goal.returns-in-Err-NoValue-clause-read
returns-in-Err-NoValue-clause-read g c =
    let fs = c.args.frames.now in
    let payload = c.at-payload.result.now in
    let f = got fs c.loop-i.i payload c.version-version.result c.at-payload.ensures.payload c.version-version.ensures in
    reading_fails g.F.Format.reading (entries_of c.loop-i.versions.items c.loop-i.records.items) c.loop-i.place c.loop-i.i fs f.frame payload (entries_at g.F.Format.reading 0 fs) f.here f.payload_is (c.in-Err-NoValue.ensures.no_record (rw c.in-Err-NoValue.field-0-is refl)) c.loop-i.invariant.read

pub overflow_add-place : goal.overflow_add-place
overflow_add-place g c =
    let fs = c.args.frames.now in
    let payload = c.at-payload.result.now in
    let f = got fs c.loop-i.i payload c.version-version.result c.at-payload.ensures.payload c.version-version.ensures in
    let size : c.frame_len.result ≡ frame_size f.frame = c.frame_len.ensures payload refl ∙ ap frame_size (got_frame fs c.loop-i.i payload c.version-version.result f c.len-i-end.ensures.right) in
    omega (arith, size, ap frames_size (take_got fs c.loop-i.i f.frame f.here), frames_size_push (take c.loop-i.i fs) f.frame, frames_size_take fs (c.loop-i.i + 1), c.loop-i.invariant.size, c.whole-whole.ensures)

pub loop-i-preserved : goal.loop-i-preserved
loop-i-preserved g c =
    let fs = c.args.frames.now in
    let shape = entry_frame g.F.Format.spelling in
    let payload = c.at-payload.result.now in
    let version = c.version-version.result in
    let entry = c.in-Ok.entry in
    let i = c.loop-i.invariant in
    let rs = c.loop-i.records.items in
    let vs = c.loop-i.versions.items in
    let so_far = entries_of vs rs in
    let next : Entry _ = record { version = version; value = entry } in
    let f = got fs c.loop-i.i payload version c.at-payload.ensures.payload c.version-version.ensures in
    let same = got_frame fs c.loop-i.i payload version f c.len-i-end.ensures.right in
    let size : c.frame_len.result ≡ frame_size f.frame = c.frame_len.ensures payload refl ∙ ap frame_size same in
    let pushed : c.push.new.self.items ≡ rs ++ entry ∷ [] = c.in_ok-push-in-Ok.ensures.items in
    let versions : c.push-in-loop-i.new.self.items ≡ vs ++ version ∷ [] = c.in_ok-push.ensures.items in
    let entries : entries_of c.push-in-loop-i.new.self.items c.push.new.self.items ≡ so_far ++ next ∷ [] = rw (versions, pushed) (entries_push vs rs version entry i.side_by_side) in
    let spelled : shape next ≡ f.frame = ap (frame_in version) (sym c.in-Ok.ensures.spelled) ∙ same in
    let taken = take_got fs c.loop-i.i f.frame f.here in
    record {
      read = rw (entries, size) (reading_goes_on g.F.Format.reading so_far c.loop-i.place c.loop-i.i fs f.frame payload version entry (entries_at g.F.Format.reading 0 fs) f.here f.payload_is f.version_is c.in-Ok.ensures.ok i.read);
      side_by_side = rw (versions, pushed) (omega (arith, length_push rs entry, length_push vs version, i.side_by_side));
      spelled = ap (map shape) entries ∙ map_push shape so_far next ∙ ap (λ l. l ++ shape next ∷ []) i.spelled ∙ ap (λ x. take c.loop-i.i fs ++ x ∷ []) spelled ∙ sym taken;
      are_records = rw pushed (all_push g.F.Format.is_record rs entry i.are_records c.in-Ok.ensures.is_record);
      size = rw taken (omega (arith, frames_size_push (take c.loop-i.i fs) f.frame, size, i.size));
    }
