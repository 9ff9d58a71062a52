-- Calls one after another on the way to all of some commands.
use Rattle.std.proofs.Common.{◌≡◌, ℕ, Result, Ok, Err, OnOk, IfErr, Bool, List, [], ◌∷◌, ◌++◌, length, map, refl, sym, ◌∙◌, ap, subst, append_assoc, length-append, arith}
use Rattle.fed_rules.specs.declared.commands.Command.{Command}
use Rattle.fed_rules.specs.Sessions.{Session}
use Rattle.journal_disk.specs.Disk.{Seen}
use Rattle.fed_world.specs.declared.errors.WorldErr.{WorldErr}
use Rattle.fed_world.specs.declared.errors.WorldErr.TheVariants as Err_is
use Rattle.fed_world.specs.declared.world.World.{World}
use Rattle.fed_world.specs.Faults.{CountsTell, FailedAs, faults_of}
use Rattle.fed_world.specs.Worlds.{FailsAt, HasRoom, IsBroken, Stands}
use Rattle.closing.specs.Between.{WereCalm}
use Rattle.closing.specs.Towards.{BreaksAt, FailsToward, Fits, IsShort}

-- what follows where a call succeeds
pub on_success : {A B P Q : Type 0} (r : Result A B) → (P → Q) → OnOk r P → OnOk r Q
on_success (Ok a) f p = f p
on_success (Err e) f p = p

-- and where it fails
pub on_failure : {A B : Type 0} (P Q : B → Type 0) (r : Result A B) → ((e : B) → P e → Q e) → IfErr r P → IfErr r Q
on_failure P Q (Ok a) f p = p
on_failure P Q (Err e) f p = f e p

-- and where the counts of faults tell why
pub on_failure_told : {A : Type 0} (P Q : WorldErr → Type 0) (r : Result A WorldErr) (old new : List Seen) → ((why : WorldErr) → FailedAs why old new → P why → Q why) → CountsTell r old new → IfErr r P → IfErr r Q
on_failure_told P Q (Ok a) old new f told p = p
on_failure_told P Q (Err why) old new f told p = f why told p

-- the commands with others behind them
pub record Extends (whole commands : List Command) : Type 0 where
  pub front : List Command
  pub is : whole ≡ front ++ commands

pub extends_here : (commands : List Command) → Extends commands commands
extends_here commands = record { front = []; is = refl }

pub extends_one : (command : Command) (commands : List Command) → Extends (command ∷ commands) commands
extends_one command commands = record { front = command ∷ []; is = refl }

pub extends_twice : (a b c : List Command) → Extends c b → Extends b a → Extends c a
extends_twice a b c x y = record { front = x.front ++ y.front; is = x.is ∙ (ap (λ cs. x.front ++ cs) y.is ∙ sym (append_assoc x.front y.front a)) }

-- where the numbers of all fit, those of the first ones do
pub fits_less : (session : Session) (whole commands : List Command) → Extends whole commands → Fits session whole → Fits session commands
fits_less session whole commands x fits =
    let same = ap (λ (cs : List Command). length cs) x.is in
    let parts = length-append x.front commands in omega (arith, fits, same, parts)

-- so there is room for the last one
pub room_one : (session : Session) (command : Command) (commands : List Command) → Fits session (command ∷ commands) → HasRoom session commands
room_one session command commands fits = omega (arith, fits)

module _ (tells : Bool) (world : World) (disks : List Seen) (session : Session) where
  -- memory was wanting before the first command
  pub short_here : (whole commands : List Command) → Extends whole commands → Stands tells world disks session commands → IsShort tells world disks whole session commands
  short_here whole commands x s = record { done = []; left = x.front; of_whole = x.is; stood = s }

  -- what stops short of some commands stops short of further ones, and from earlier ones on
  pub short_within : (longer whole mid commands : List Command) → Extends longer whole → Extends mid commands
      → IsShort tells world disks whole session mid → IsShort tells world disks longer session commands
  short_within longer whole mid commands x y f =
      let same : f.done ++ mid ≡ (f.done ++ y.front) ++ commands = ap (λ cs. f.done ++ cs) y.is ∙ sym (append_assoc f.done y.front commands) in
      record {
        done = f.done ++ y.front;
        left = x.front ++ f.left;
        of_whole = x.is ∙ (ap (λ cs. x.front ++ cs) (f.of_whole ∙ ap (λ cs. f.left ++ cs) same) ∙ sym (append_assoc x.front f.left ((f.done ++ y.front) ++ commands)));
        stood = subst (λ cs. Stands tells world disks session cs) same f.stood;
      }

-- disks on which no count had risen since a later beginning, where none had risen before it
pub calm_since : {D : Type 0} (seen : D → Seen) (old mid between : List Seen) → faults_of mid ≡ faults_of old → WereCalm seen mid between → WereCalm seen old between
calm_since seen old mid between same w = record { disks = w.disks; are = w.are; calm = w.calm ∙ same }

module _ {D : Type 0} (seen : D → Seen) (tells : Bool) (world : World) (disks : List Seen) (session : Session) where
  -- the first command fails
  pub fails_at : (why : WorldErr) (command : Command) (commands : List Command) (was : World) (before : List D) → Stands tells was (map seen before) session commands → FailedAs why (map seen before) disks
      → FailsAt tells why world disks command session commands → FailsToward seen tells why (map seen before) world disks (command ∷ commands) session commands
  fails_at Err_is.Memory command commands was before s told f = record { done = []; left = command ∷ []; of_whole = refl; stood = f }
  fails_at (Err_is.Disk number) command commands was before s told f = record {
    command = command;
    done = [];
    left = [];
    of_whole = refl;
    was = was;
    before = map seen before;
    were = record { disks = before; are = refl; calm = refl };
    stood = s;
    rose = told;
    broken = f;
  }

  -- a disk call that failed on the way failed so since an earlier beginning too, where no count had risen before
  pub breaks_since : (number : ℕ) (whole commands : List Command) (old mid : List Seen) → faults_of mid ≡ faults_of old
      → BreaksAt seen number tells mid world disks whole session commands → BreaksAt seen number tells old world disks whole session commands
  breaks_since number whole commands old mid same b = record {
    command = b.command;
    done = b.done;
    left = b.left;
    of_whole = b.of_whole;
    was = b.was;
    before = b.before;
    were = calm_since seen old mid b.before same b.were;
    stood = b.stood;
    rose = b.rose;
    broken = b.broken;
  }

  -- what fails toward some commands fails toward further ones, and from earlier ones on, where no count had risen before
  pub fails_within : (why : WorldErr) (longer whole mid commands : List Command) → Extends longer whole → Extends mid commands → (old between : List Seen) → faults_of between ≡ faults_of old
      → FailsToward seen tells why between world disks whole session mid → FailsToward seen tells why old world disks longer session commands
  fails_within Err_is.Memory longer whole mid commands x y old between calm f = short_within tells world disks session longer whole mid commands x y f
  fails_within (Err_is.Disk number) longer whole mid commands x y old between calm f =
      let same : f.done ++ mid ≡ (f.done ++ y.front) ++ commands = ap (λ cs. f.done ++ cs) y.is ∙ sym (append_assoc f.done y.front commands) in
      record {
        command = f.command;
        done = f.done ++ y.front;
        left = x.front ++ f.left;
        of_whole = x.is ∙ (ap (λ cs. x.front ++ cs) (f.of_whole ∙ ap (λ cs. f.left ++ f.command ∷ cs) same) ∙ sym (append_assoc x.front f.left (f.command ∷ ((f.done ++ y.front) ++ commands))));
        was = f.was;
        before = f.before;
        were = calm_since seen old between f.before calm f.were;
        stood = subst (λ cs. Stands tells f.was f.before session cs) same f.stood;
        rose = f.rose;
        broken = subst (λ cs. IsBroken number tells world disks f.command session cs) same f.broken;
      }
