use Rattle.std.proofs.Common.{◌≡◌, ◌++◌, [], ◌∷◌, length, map, inl, inr, refl, sym, subst, ◌∙◌}
use Rattle.std.proofs.lemmas.List.{length-map}
use Rattle.outputs.specs.declared.output.Output.{Output}
use Rattle.fed_rules.specs.Resumed.{going_on, resuming}
use Rattle.closing.specs.Towards.{BreaksAt, FailsToward, IsShort}
use Rattle.fed_world.specs.declared.errors.WorldErr.{WorldErr}
use Rattle.fed_world.specs.Faults.{FailedAs, faults_of}
use Rattle.fed_world.specs.Lines.{AreLinesIn}
use Rattle.fed_world.proofs.ForCallers.{recalls}
use Rattle.found_disks.specs.Finding.{found_in}
use Rattle.found_disks.specs.Reading.{images_of}
use Rattle.outputs.proofs.ForCallers.{all_sized, stands_keeps, whole_weaker}
use Rattle.resume_output.specs.Resumes.{GoesOnFromLeft, IsFoundOn, ResumesAs}
use Rattle.resume_output.proofs.Small.{may_close}
use Rattle.resume_output.proofs.Resumed.{answered_left, as_many_disks, breaks_behind, broken_answered, found_goes_on, if_broken, lines_fit, printed_front, refused_as, refused_left, short_left, stands_behind, whole_answered}
use Rattle.resume_output.proofs.resuming.resume_output_of.Goals as goal

pub returns-then-not-are_small-clause-output : goal.returns-then-not-are_small-clause-output
returns-then-not-are_small-clause-output g c = inl (refl, refl)

pub returns-then-not-are_small-clause-left : goal.returns-then-not-are_small-clause-left
returns-then-not-are_small-clause-left g c = short_left c.left_disks_go_on.ensures (map g.D.Disk.seen c.args.disks.now.items)

pub returns-then-not-are_small-clause-nine : goal.returns-then-not-are_small-clause-nine
returns-then-not-are_small-clause-nine g c = c.requires.nine

pub reopen-requires-clause-told : goal.reopen-requires-clause-told
reopen-requires-clause-told g c = c.requires.told

pub reopen-requires-clause-nine : goal.reopen-requires-clause-nine
reopen-requires-clause-nine g c = c.requires.nine

pub reopen-requires-clause-synced : goal.reopen-requires-clause-synced
reopen-requires-clause-synced g c = c.requires.synced

pub close-requires-clause-told : goal.close-requires-clause-told
close-requires-clause-told g c = c.requires.told

pub close-requires-clause-stood : goal.close-requires-clause-stood
close-requires-clause-stood g c =
    let seen = g.D.Disk.seen in
    let old = map seen c.args.disks.now.items in
    let r = c.in-Ok.ensures.reopened in
    let sized : (one : g.row.D.Denot) → length (seen one).image.bytes ≡ (seen one).size = λ one. g.met.D.Disk.told_size one c.requires.told in
    record {
      session = going_on (found_in (images_of old) r.journals);
      commands = [];
      stood = r.stands;
      holds = may_close c.found_sessions_begin_shortly.ensures seen sized c.args.disks.now.items _ _ c.as_slice.ensures.value c.are_small.ensures c.if-not-are_small.false r.journals r.read r.named;
    }

pub printed-requires-clause-stood : goal.printed-requires-clause-stood
printed-requires-clause-stood g c =
    let seen = g.D.Disk.seen in
    let old = map seen c.args.disks.now.items in
    let new = map seen c.close.new.disks.items in
    let r = c.in-Ok.ensures.reopened in
    let found = found_in (images_of old) r.journals in
    let sized : (one : g.row.D.Denot) → length (seen one).image.bytes ≡ (seen one).size = λ one. g.met.D.Disk.told_size one c.requires.told in
    let can = may_close c.found_sessions_begin_shortly.ensures seen sized c.args.disks.now.items _ _ c.as_slice.ensures.value c.are_small.ensures c.if-not-are_small.false r.journals r.read r.named in
    record {
      session = going_on found;
      commands = resuming found;
      stood = recalls g.D.Disk.tells c.close.new.world new (going_on found) (resuming found) (c.in-Ok-close.ensures.done (going_on found) [] r.stands can);
      holds = record { goes_on = found_goes_on (images_of old) r.journals r.stands.has.begins; rests = c.in-Ok-close.ensures.rests (going_on found) [] r.stands can };
    }

pub printed-requires-clause-fit : goal.printed-requires-clause-fit
printed-requires-clause-fit g c =
    let seen = g.D.Disk.seen in
    let old = map seen c.args.disks.now.items in
    let r = c.in-Ok.ensures.reopened in
    let found = found_in (images_of old) r.journals in
    let sized : (one : g.row.D.Denot) → length (seen one).image.bytes ≡ (seen one).size = λ one. g.met.D.Disk.told_size one c.requires.told in
    let can = may_close c.found_sessions_begin_shortly.ensures seen sized c.args.disks.now.items _ _ c.as_slice.ensures.value c.are_small.ensures c.if-not-are_small.false r.journals r.read r.named in
    let stood = c.in-Ok-close.ensures.done (going_on found) [] r.stands can in
    lines_fit c.resumed_lines_fit.ensures.all found (found_goes_on (images_of old) r.journals r.stands.has.begins).usable (resuming found) c.close.new.world.lines.items
    (c.sessions_close_heard.ensures.resuming found [] (resuming found) refl) (record { commands_are = stood.has.commands_are; right = stood.has.right })

pub returns-in-Ok-close-clause-output : goal.returns-in-Ok-close-clause-output
returns-in-Ok-close-clause-output g c =
    let seen = g.D.Disk.seen in
    let old = map seen c.args.disks.now.items in
    let new = map seen c.close.new.disks.items in
    let r = c.in-Ok.ensures.reopened in
    let found = found_in (images_of old) r.journals in
    let sized : (one : g.row.D.Denot) → length (seen one).image.bytes ≡ (seen one).size = λ one. g.met.D.Disk.told_size one c.requires.told in
    let can = may_close c.found_sessions_begin_shortly.ensures seen sized c.args.disks.now.items _ _ c.as_slice.ensures.value c.are_small.ensures c.if-not-are_small.false r.journals r.read r.named in
    let goes = found_goes_on (images_of old) r.journals r.stands.has.begins in
    let is_found : IsFoundOn old found = record { journals = r.journals; read = r.read; is = refl; usable = goes.usable } in
    let stood = c.in-Ok-close.ensures.done (going_on found) [] r.stands can in
    let rests = c.in-Ok-close.ensures.rests (going_on found) [] r.stands can in
    let kept = stands_keeps g.D.Disk.tells c.close.new.world new (going_on found) (resuming found) c.requires.told (all_sized seen sized c.close.new.disks.items) goes stood in
    subst (λ result. ResumesAs seen result old new) (sym c.answered.ensures)
    (whole_answered seen c.printed.result old new
    (whole_weaker c.printed.result _ _
    (λ bytes printed. record {
      found = found;
      is_found = is_found;
      printed = printed (going_on found) (resuming found) (recalls g.D.Disk.tells c.close.new.world new (going_on found) (resuming found) stood) (record { goes_on = goes; rests = rests });
      rests = rests;
      kept = kept;
      calm = c.in-Ok-close.ensures.cause ∙ c.in-Ok.ensures.cause;
    })
    c.printed.ensures)
    (inr (record { found = found; is_found = is_found; came_to = inl (record { done = resuming found; left = []; of_all = refl; kept = kept; calm = c.in-Ok-close.ensures.cause ∙ c.in-Ok.ensures.cause }) })))

pub returns-in-Ok-close-clause-left : goal.returns-in-Ok-close-clause-left
returns-in-Ok-close-clause-left g c =
    let old = map g.D.Disk.seen c.args.disks.now.items in
    subst (λ result. GoesOnFromLeft {T = Output} result old) (sym c.answered.ensures) (answered_left c.left_disks_go_on.ensures c.printed.result old)

pub returns-in-Ok-close-clause-nine : goal.returns-in-Ok-close-clause-nine
returns-in-Ok-close-clause-nine g c =
    sym (length-map c.close.new.disks.items g.D.Disk.seen)
    ∙ (as_many_disks c.close.result _ _ c.close.ensures.cause ∙ (length-map c.reopen.new.disks.items g.D.Disk.seen ∙ c.in-Ok.ensures.count))

pub broken-requires : goal.broken-requires
broken-requires g c =
    let seen = g.D.Disk.seen in
    let old = map seen c.args.disks.now.items in
    let mid = map seen c.reopen.new.disks.items in
    let r = c.in-Ok.ensures.reopened in
    let found = found_in (images_of old) r.journals in
    let sized : (one : g.row.D.Denot) → length (seen one).image.bytes ≡ (seen one).size = λ one. g.met.D.Disk.told_size one c.requires.told in
    let can = may_close c.found_sessions_begin_shortly.ensures seen sized c.args.disks.now.items _ _ c.as_slice.ensures.value c.are_small.ensures c.if-not-are_small.false r.journals r.read r.named in
    let b : BreaksAt seen c.in-Err-Disk.number g.D.Disk.tells mid c.close.new.world (map seen c.close.new.disks.items) (resuming found) (going_on found) [] =
    subst (λ (why : WorldErr). FailsToward seen g.D.Disk.tells why mid c.close.new.world (map seen c.close.new.disks.items) (resuming found) (going_on found) []) c.in-Err-Disk.field-0-is
    (c.in-Err-Disk.ensures.failed (going_on found) [] r.stands can) in
    lines_fit c.resumed_lines_fit.ensures.all found (found_goes_on (images_of old) r.journals r.stands.has.begins).usable (b.done ++ []) c.lines.result.now
    (c.sessions_close_heard.ensures.resuming found (b.left ++ b.command ∷ []) (b.done ++ []) (printed_front b.left b.command (b.done ++ []) ∙ sym b.of_whole))
    (c.lines.ensures.right (going_on found) (b.done ++ []) b.broken.has)

pub returns-in-Err-Disk-clause-output : goal.returns-in-Err-Disk-clause-output
returns-in-Err-Disk-clause-output g c =
    let seen = g.D.Disk.seen in
    let old = map seen c.args.disks.now.items in
    let mid = map seen c.reopen.new.disks.items in
    let new = map seen c.close.new.disks.items in
    let r = c.in-Ok.ensures.reopened in
    let found = found_in (images_of old) r.journals in
    let sized : (one : g.row.D.Denot) → length (seen one).image.bytes ≡ (seen one).size = λ one. g.met.D.Disk.told_size one c.requires.told in
    let can = may_close c.found_sessions_begin_shortly.ensures seen sized c.args.disks.now.items _ _ c.as_slice.ensures.value c.are_small.ensures c.if-not-are_small.false r.journals r.read r.named in
    let goes = found_goes_on (images_of old) r.journals r.stands.has.begins in
    let b : BreaksAt seen c.in-Err-Disk.number g.D.Disk.tells mid c.close.new.world (map seen c.close.new.disks.items) (resuming found) (going_on found) [] =
    subst (λ (why : WorldErr). FailsToward seen g.D.Disk.tells why mid c.close.new.world (map seen c.close.new.disks.items) (resuming found) (going_on found) []) c.in-Err-Disk.field-0-is
    (c.in-Err-Disk.ensures.failed (going_on found) [] r.stands can) in
    let is_found : IsFoundOn old found = record { journals = r.journals; read = r.read; is = refl; usable = goes.usable } in
    let broke = breaks_behind seen sized g.D.Disk.tells c.close.new.world old mid new found c.in-Err-Disk.number c.requires.told (all_sized seen sized c.close.new.disks.items) goes c.in-Ok.ensures.cause b in
    subst (λ result. ResumesAs seen result old new) (sym c.answered-in-Err-Disk.ensures)
    (broken_answered seen c.broken.result old new
    (if_broken c.broken.result _ _
    (λ bytes is. record {
      found = found;
      is_found = is_found;
      number = c.in-Err-Disk.number;
      broke = broke.0;
      lines = c.lines.result.now;
      lines_are = subst (λ done. AreLinesIn c.lines.result.now (going_on found) done) (sym broke.1) (c.lines.ensures.right (going_on found) (b.done ++ []) b.broken.has);
      output_is = is;
    })
    c.broken.ensures)
    (inr (record { found = found; is_found = is_found; came_to = inr (c.in-Err-Disk.number, broke.0) })))

pub returns-in-Err-Disk-clause-left : goal.returns-in-Err-Disk-clause-left
returns-in-Err-Disk-clause-left g c =
    let old = map g.D.Disk.seen c.args.disks.now.items in
    subst (λ result. GoesOnFromLeft {T = Output} result old) (sym c.answered-in-Err-Disk.ensures) (answered_left c.left_disks_go_on.ensures c.broken.result old)

pub returns-in-Err-Disk-clause-nine : goal.returns-in-Err-Disk-clause-nine
returns-in-Err-Disk-clause-nine g c =
    sym (length-map c.close.new.disks.items g.D.Disk.seen)
    ∙ (as_many_disks c.close.result _ _ c.close.ensures.cause ∙ (length-map c.reopen.new.disks.items g.D.Disk.seen ∙ c.in-Ok.ensures.count))

pub returns-in-Ok-clause-output : goal.returns-in-Ok-clause-output
returns-in-Ok-clause-output g c =
    let seen = g.D.Disk.seen in
    let old = map seen c.args.disks.now.items in
    let new = map seen c.close.new.disks.items in
    let r = c.in-Ok.ensures.reopened in
    let found = found_in (images_of old) r.journals in
    let sized : (one : g.row.D.Denot) → length (seen one).image.bytes ≡ (seen one).size = λ one. g.met.D.Disk.told_size one c.requires.told in
    let can = may_close c.found_sessions_begin_shortly.ensures seen sized c.args.disks.now.items _ _ c.as_slice.ensures.value c.are_small.ensures c.if-not-are_small.false r.journals r.read r.named in
    let goes = found_goes_on (images_of old) r.journals r.stands.has.begins in
    let s : IsShort g.D.Disk.tells c.close.new.world new (resuming found) (going_on found) [] =
    subst (λ (why : WorldErr). FailsToward seen g.D.Disk.tells why (map seen c.reopen.new.disks.items) c.close.new.world new (resuming found) (going_on found) []) c.in-Err-Memory.field-0-is
    (c.in-Err-Memory.ensures.failed (going_on found) [] r.stands can) in
    let calm : faults_of new ≡ faults_of old =
    subst (λ (why : WorldErr). FailedAs why (map seen c.reopen.new.disks.items) new) c.in-Err-Memory.field-0-is c.in-Err-Memory.ensures.cause ∙ c.in-Ok.ensures.cause in
    inr (record {
      found = found;
      is_found = record { journals = r.journals; read = r.read; is = refl; usable = goes.usable };
      came_to = inl (stands_behind g.D.Disk.tells c.close.new.world old new found c.requires.told (all_sized seen sized c.close.new.disks.items) goes calm s);
    })

pub returns-in-Ok-clause-left : goal.returns-in-Ok-clause-left
returns-in-Ok-clause-left g c = short_left c.left_disks_go_on.ensures (map g.D.Disk.seen c.args.disks.now.items)

pub returns-in-Ok-clause-nine : goal.returns-in-Ok-clause-nine
returns-in-Ok-clause-nine g c =
    sym (length-map c.close.new.disks.items g.D.Disk.seen)
    ∙ (as_many_disks c.close.result _ _ c.close.ensures.cause ∙ (length-map c.reopen.new.disks.items g.D.Disk.seen ∙ c.in-Ok.ensures.count))

pub returns-clause-output : goal.returns-clause-output
returns-clause-output g c =
    refused_as g.D.Disk.seen c.in-Err.why (map g.D.Disk.seen c.args.disks.now.items) (map g.D.Disk.seen c.reopen.new.disks.items) c.in-Err.ensures.reopened c.in-Err.ensures.images c.in-Err.ensures.cause

pub returns-clause-left : goal.returns-clause-left
returns-clause-left g c = refused_left c.left_disks_are_accepted.ensures c.left_disks_go_on.ensures c.in-Err.why (map g.D.Disk.seen c.args.disks.now.items) c.in-Err.ensures.reopened

pub returns-clause-nine : goal.returns-clause-nine
returns-clause-nine g c = c.in-Err.ensures.count
