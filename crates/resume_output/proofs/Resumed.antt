-- A session that goes on: what it is, what is printed of it, and what is said of the disks.
use Rattle.std.proofs.Common.{◌≡◌, ◌++◌, ℕ, Bool, IsTrue, Option, Some, List, [], ◌∷◌, Result, Ok, Err, length, length-set, reverse, inl, inr, refl, sym, ap, subst, ◌∙◌}
use Rattle.std.proofs.lemmas.List.{length-map, reverse-reverse}
use Rattle.mdb_base.specs.declared.names.Memory.{Memory}
use Rattle.mdb_base.specs.Words.{Each}
use Rattle.order_laws.proofs.ForCallers.{each_reverse}
use Rattle.fed_rules.specs.declared.commands.Command.{Command}
use Rattle.fed_rules.specs.declared.commands.Line.{Line}
use Rattle.fed_rules.specs.declared.records.CoordRecord.{CoordRecord}
use Rattle.fed_rules.specs.declared.scenario.Scenario.{Scenario}
use Rattle.fed_rules.specs.Found.{Found, Journal}
use Rattle.fed_rules.specs.Resumed.{going_on, plan_of, resuming}
use Rattle.fed_rules.specs.Sessions.{Session}
use Rattle.fed_rules.specs.Story.{story_in, story_of}
use Rattle.journal_disk.specs.Disk.{Image, Seen}
use Rattle.found_laws.specs.FoundSessions.{AreUsable}
use Rattle.line_text.specs.Fits.{line_fits}
use Rattle.line_laws.specs.Resumed.{ResumedLinesFit}
use Rattle.line_laws.specs.Lines.{IsHeard}
use Rattle.found_disks.specs.declared.errors.ReopenErr.{ReopenErr}
use Rattle.found_disks.specs.declared.errors.ReopenErr.TheVariants as Err_is
use Rattle.found_disks.specs.Faults.{faults_of}
use Rattle.found_disks.specs.declared.reading.Journals.{Journals}
use Rattle.found_disks.specs.Finding.{FindsAs, found_in}
use Rattle.found_disks.specs.Reading.{FaultsTell, images_of}
use Rattle.left_disks.specs.Left as Left
use Rattle.left_disks.specs.Left.{IsLeft, LeftDisksAreAccepted, LeftDisksGoOn}
use Rattle.fed_world.specs.declared.errors.WorldErr.{WorldErr}
use Rattle.fed_world.specs.declared.errors.WorldErr.TheVariants as World_err
use Rattle.fed_world.specs.declared.world.World.{World}
use Rattle.fed_world.specs.Beginnings.{Begins, GoesOn}
use Rattle.fed_world.specs.Faults.{CountsTell}
use Rattle.fed_world.specs.Lines.{AreLinesIn}
use Rattle.fed_world.specs.Reporting.{found_report, report_by, report_for}
use Rattle.closing.specs.Towards.{BreaksAt, IsShort}
use Rattle.closing.proofs.ForCallers.{calm_since}
use Rattle.outputs.proofs.ForCallers.{AreSized, actor_breaks, all_sized, stands_keeps}
use Rattle.outputs.specs.declared.output.Output.{Output}
use Rattle.outputs.specs.declared.output.Output.TheVariants.{Whole, Broken}
use Rattle.outputs.specs.Outputs.{IfBroken, IfWhole}
use Rattle.resume_output.specs.Resumes.{AllGoesOn, BreaksBehind, GoesOnFromLeft, IsRefusedAs, NoneIsBad, ResumesAs, ResumesBroken, ResumesShort, ResumesWhole, StandsBehind, answered}

-- its report is that of what is found: the journal of a coordinator is there
pub found_reported : (session : Session) (commands : List Command) → GoesOn session → report_for session (story_in session commands) ≡ found_report session.found (story_in session commands)
found_reported session commands goes =
    ap (λ (c : Option (Journal CoordRecord)). report_by c session (story_in session commands)) goes.usable.is

-- a session that begins with the journal of a coordinator goes on
pub goes_on : (session : Session) (journal : Journal CoordRecord) → session.found.coordinator ≡ Some journal → Begins session → GoesOn session
goes_on session journal is (inr goes) = goes
goes_on session journal is (inl fresh) = (let other = sym is ∙ ap (λ (s : Session). s.found.coordinator) fresh in cc)

pub found_goes_on : (images : List Image) (journals : Journals) → Begins (going_on (found_in images journals)) → GoesOn (going_on (found_in images journals))
found_goes_on images journals = goes_on (going_on (found_in images journals)) _ refl

-- right lines of commands that are heard can be printed
pub lines_fit : ResumedLinesFit → (found : Found) → AreUsable found → (commands : List Command) (lines : List Line) → Each (IsHeard (plan_of found).sites) commands
    → AreLinesIn lines (going_on found) commands → Each (λ line. IsTrue (line_fits line)) lines
lines_fit law found usable commands lines heard are =
    subst (λ (ls : List Line). Each (λ line. IsTrue (line_fits line)) ls) (reverse-reverse lines)
    (each_reverse (λ line. IsTrue (line_fits line)) (reverse lines)
    (law found usable (reverse lines) (subst (λ cs. Each (IsHeard (plan_of found).sites) cs) (sym are.commands_are) heard) are.right))

-- the first commands are those behind which the others stand
pub printed_front : (left : List Command) (command : Command) (done : List Command) → (left ++ command ∷ []) ++ done ≡ left ++ command ∷ done
printed_front [] command done = refl
printed_front (first ∷ left) command done = ap (λ (commands : List Command). first ∷ commands) (printed_front left command done)

-- there are as many disks as before
as_many : (old new : List Seen) → length (faults_of new) ≡ length (faults_of old) → length new ≡ length old
as_many old new e = sym (length-map new (λ (disk : Seen). disk.faults)) ∙ (e ∙ length-map old (λ (disk : Seen). disk.faults))

pub as_many_disks : {T : Type 0} (outcome : Result T WorldErr) (old new : List Seen) → CountsTell outcome old new → length new ≡ length old
as_many_disks (Ok done) old new told = as_many old new (ap (λ (counts : List ℕ). length counts) told)
as_many_disks (Err World_err.Memory) old new told = as_many old new (ap (λ (counts : List ℕ). length counts) told)
as_many_disks (Err (World_err.Disk number)) old new told = as_many old new (ap (λ (counts : List ℕ). length counts) told.others ∙ length-set (faults_of old) number told.now)

-- ---- the disks that a session left

pub all_go_on : LeftDisksGoOn → (disks : List Seen) (scenario : Scenario) (commands : List Command) → IsLeft disks scenario commands
    → AllGoesOn disks scenario (story_of scenario commands)
all_go_on law disks scenario commands left found f = subst (λ (g : Found). Left.GoesOnFrom g scenario (story_of scenario commands)) (sym f.is) (law disks scenario commands left f.journals f.read)

none_bad : LeftDisksAreAccepted → (why : ReopenErr) (disks : List Seen) (scenario : Scenario) (commands : List Command) → IsLeft disks scenario commands
    → FindsAs (Err why) (images_of disks) → NoneIsBad {T = Output} (Err why)
none_bad law (Err_is.Damaged number at) disks scenario commands left finds = (law disks scenario commands left).undamaged number at finds
none_bad law (Err_is.Foreign number) disks scenario commands left finds = (law disks scenario commands left).usable number finds
none_bad law (Err_is.Disk number) disks scenario commands left finds = tt
none_bad law Err_is.Memory disks scenario commands left finds = tt

-- where no session goes on
pub refused_left : LeftDisksAreAccepted → LeftDisksGoOn → (why : ReopenErr) (disks : List Seen) → FindsAs (Err why) (images_of disks) → GoesOnFromLeft {T = Output} (Err why) disks
refused_left accepted law why disks finds scenario commands left = (none_bad accepted why disks scenario commands left finds, all_go_on law disks scenario commands left)

not_bad : (made : Result Output Memory) → NoneIsBad (answered made)
not_bad (Ok output) = tt
not_bad (Err why) = tt

-- and where one does
pub answered_left : LeftDisksGoOn → (made : Result Output Memory) (disks : List Seen) → GoesOnFromLeft (answered made) disks
answered_left law made disks scenario commands left = (not_bad made, all_go_on law disks scenario commands left)

pub short_left : LeftDisksGoOn → (disks : List Seen) → GoesOnFromLeft {T = Output} (Err Err_is.Memory) disks
short_left law disks scenario commands left = (tt, all_go_on law disks scenario commands left)

-- ---- what is answered

pub refused_as : {D : Type 0} (see : D → Seen) (why : ReopenErr) (old new : List Seen) → FindsAs (Err why) (images_of old) → images_of new ≡ images_of old → FaultsTell {T = Output} (Err why) old new → IsRefusedAs see why old new
refused_as see (Err_is.Damaged number at) old new finds same told = (record { finds = finds; images = same }, told)
refused_as see (Err_is.Foreign number) old new finds same told = (record { finds = finds; images = same }, told)
refused_as see (Err_is.Disk number) old new finds same told = (record { finds = finds; images = same }, told)
refused_as see Err_is.Memory old new finds same told = inl (same, told)

-- an output was made, or memory was wanting for it
pub whole_answered : {D : Type 0} (see : D → Seen) (made : Result Output Memory) (old new : List Seen) → IfWhole made (λ bytes. ResumesWhole bytes old new) → ResumesShort see old new → ResumesAs see (answered made) old new
whole_answered see (Ok (Whole bytes)) old new p short = p
whole_answered see (Ok (Broken bytes)) old new p short = absurd p
whole_answered see (Err why) old new p short = short

pub broken_answered : {D : Type 0} (see : D → Seen) (made : Result Output Memory) (old new : List Seen) → IfBroken made (λ bytes. ResumesBroken see bytes old new) → ResumesShort see old new → ResumesAs see (answered made) old new
broken_answered see (Ok (Whole bytes)) old new p short = absurd p
broken_answered see (Ok (Broken bytes)) old new p short = p
broken_answered see (Err why) old new p short = short

pub if_broken : (made : Result Output Memory) (P Q : List ℕ → Type 0) → ((bytes : List ℕ) → P bytes → Q bytes) → IfBroken made P → IfBroken made Q
if_broken (Ok (Whole bytes)) P Q f p = p
if_broken (Ok (Broken bytes)) P Q f p = f bytes.items p
if_broken (Err why) P Q f p = p

-- ---- what is on the disks on the way to rest

-- where a world breaks on the way to rest
pub breaks_behind : {D : Type 0} (see : D → Seen) → ((one : D) → length (see one).image.bytes ≡ (see one).size) → (tells : Bool) (world : World) (old mid disks : List Seen) (found : Found) (number : ℕ) → IsTrue tells → AreSized disks
    → GoesOn (going_on found) → faults_of mid ≡ faults_of old → (b : BreaksAt see number tells mid world disks (resuming found) (going_on found) []) → (broke : BreaksBehind see number found old disks) × (broke.done ≡ b.done ++ [])
breaks_behind see each tells world old mid disks found number told sized goes same b =
    let (seen, at, stop, others) = actor_breaks tells world disks told sized (going_on found) goes b.broken.others b.command (story_in (going_on found) (b.done ++ [])) number b.broken.actor in (
      record {
        done = b.done ++ [];
        command = b.command;
        left = b.left;
        of_all = b.of_whole;
        before = b.before;
        were = calm_since see old mid b.before same b.were;
        kept = stands_keeps tells b.was b.before (going_on found) (b.done ++ []) told (subst AreSized b.were.are (all_sized see each b.were.disks)) goes b.stood;
        rose = record { before = b.rose.before; now = b.rose.now; own = b.rose.own; later = b.rose.later; rose = b.rose.rose; others = b.rose.others };
        disk = seen;
        own = at;
        stop = stop;
        others = others;
      },
      refl,
    )

-- where memory is wanting on the way to rest
pub stands_behind : (tells : Bool) (world : World) (old disks : List Seen) (found : Found) → IsTrue tells → AreSized disks → GoesOn (going_on found) → faults_of disks ≡ faults_of old
    → IsShort tells world disks (resuming found) (going_on found) [] → StandsBehind found old disks
stands_behind tells world old disks found told sized goes calm s =
    record { done = s.done ++ []; left = s.left; of_all = s.of_whole; kept = stands_keeps tells world disks (going_on found) (s.done ++ []) told sized goes s.stood; calm = calm }
