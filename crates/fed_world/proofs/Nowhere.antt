-- A command of which nobody hears leaves all actors as they are.
use Rattle.std.proofs.Common.{◌≡◌, ℕ, ◌≤◌, suc, Bool, List, [], ◌∷◌, ◌++◌, length, sym, ◌∙◌, ap, subst, arith}
use Rattle.std.proofs.lemmas.List.{append-nil}
use Rattle.mdb_base.specs.declared.names.SiteId.{SiteId}
use Rattle.fed_rules.specs.declared.answers.Answer.TheVariants as Say
use Rattle.fed_rules.specs.declared.commands.Command.{Command}
use Rattle.fed_rules.specs.declared.commands.Line.{Line}
use Rattle.fed_rules.specs.declared.messages.FromSite.{FromSite}
use Rattle.fed_rules.specs.declared.messages.ToSite.{ToSite}
use Rattle.fed_rules.specs.CoordPast.{CoordPast}
use Rattle.fed_rules.specs.Right.{IsAnswer}
use Rattle.fed_rules.specs.Scenarios.{global_program, protocols}
use Rattle.fed_rules.specs.SitePast.{SitePast}
use Rattle.fed_rules.specs.SiteRecords.{Home}
use Rattle.fed_rules.specs.Story.{Story, Happened, Nowhere, coord_past, happens, past_of, places_of, sends_from, sends_to, sent_from, sent_to, with_coordinator, with_site, story_in}
use Rattle.fed_rules.specs.Sessions.{Session}
use Rattle.session_report.specs.declared.marks.Mark.{Mark}
use Rattle.journal_disk.specs.Disk.{Seen}
use Rattle.local_dbms.specs.Stands.{OwnPrograms}
use Rattle.session_report.specs.declared.marks.Marks.{Marks}
use Rattle.session_routes.specs.declared.traffic.Traffic.{Traffic}
use Rattle.fed_world.specs.SeatParts.{PartAt}
use Rattle.fed_world.specs.Seats.{AreFew, OfDbms}
use Rattle.fed_world.specs.declared.cores.Cores.{Cores}
use Rattle.fed_world.specs.declared.world.World.{World}
use Rattle.fed_world.specs.Asks.{terms_of}
use Rattle.fed_world.specs.Worlds.{ActorsAt, ActorsStand, HasActorsOf, IsHeard, OfManager}
use Rattle.fed_world.proofs.Broken.{same_actors}

-- the same pasts and messages
pub record IsSameStory (old new : Story) : Type 0 where
  pub coordinator : coord_past old ≡ coord_past new
  pub sites : (site : SiteId) → past_of site old ≡ past_of site new
  pub to : (site : SiteId) → sent_to site old ≡ sent_to site new
  pub from : (site : SiteId) → sent_from site old ≡ sent_from site new

-- so it is behind a command of which nobody hears
pub same_story : (session : Session) (commands : List Command) (command : Command) → happens session.plan (story_in session commands) command ≡ Nowhere Say.None
    → IsSameStory (story_in session commands) (story_in session (command ∷ commands))
same_story session commands command is =
    let story : Story = story_in session commands in
    record {
      coordinator = sym (ap (λ (h : Happened). with_coordinator h (coord_past story)) is);
      sites = λ site. sym (ap (λ (h : Happened). with_site site h (past_of site story)) is);
      to = λ site. sym (ap (λ (h : Happened). sent_to site story ++ sends_to site h) is ∙ append-nil (sent_to site story));
      from = λ site. sym (ap (λ (h : Happened). sent_from site story ++ sends_from site h) is ∙ append-nil (sent_from site story));
    }

part_same : (K : Home → OwnPrograms → SitePast → Type 0) (own : Marks) (traffic : Traffic) (home : Home) (programs : OwnPrograms) (past later : SitePast) (first : List Mark) (to into : List ToSite) (from out : List FromSite)
    → past ≡ later → to ≡ into → from ≡ out → PartAt K own traffic home programs past first to from → PartAt K own traffic home programs later first into out
part_same K own traffic home programs past later first to into from out e f g part =
    subst (λ (xs : List FromSite). PartAt K own traffic home programs later first into xs) g
    (subst (λ (xs : List ToSite). PartAt K own traffic home programs later first xs from) f
    (subst (λ (xs : SitePast). PartAt K own traffic home programs xs first to from) e part))

-- actors that stand for the one stand for the other
pub actors_same_story : (M : OfManager) (K : OfDbms) (cores : Cores) (channels : List Traffic) (session : Session) (old new : Story) → IsSameStory old new
    → ActorsAt M K cores channels session old → ActorsAt M K cores channels session new
actors_same_story M K cores channels session old new same s = record {
  coordinator = subst (λ (past : CoordPast). M cores.coordinator (terms_of session.plan) (global_program session.plan) past) same.coordinator s.coordinator;
  sites = record {
    all_cores = s.sites.all_cores;
    all_marks = s.sites.all_marks;
    all_channels = s.sites.all_channels;
    each = λ place site dbms own traffic there a b c.
        let at = s.sites.each place site dbms own traffic there a b c in
        record {
          home = at.home;
          is = at.is;
          declared = at.declared;
          part = part_same (K dbms) own traffic at.home _ _ _ _ _ _ _ _ (same.sites site) (same.to site) (same.from site) at.part;
        };
  };
}

more : (n m k : ℕ) → n ≤ m → n ≡ k → k ≤ suc m
more n m k h e = omega arith

few_same : (old new : Story) (most : ℕ) → IsSameStory old new → AreFew old most → AreFew new (suc most)
few_same old new most same few = record {
  to = λ site. more _ most _ (few.to site) (ap (λ (ms : List ToSite). length ms) (same.to site));
  from = λ site. more _ most _ (few.from site) (ap (λ (ms : List FromSite). length ms) (same.from site));
}

-- the actors stay as they are
pub actors_stay : (tells : Bool) (world : World) (disks : List Seen) (session : Session) (commands : List Command) (command : Command) → happens session.plan (story_in session commands) command ≡ Nowhere Say.None
    → ActorsStand tells world disks session commands → ActorsStand tells world disks session (command ∷ commands)
actors_stay tells world disks session commands command is s =
    let same = same_story session commands command is in
    record {
      actors = actors_same_story _ _ world.cores world.traffic.items session (story_in session commands) (story_in session (command ∷ commands)) same s.actors;
      few = few_same (story_in session commands) (story_in session (command ∷ commands)) (length commands) same s.few;
      others = s.others;
    }

-- and it is answered by none
pub nobody_hears : (tells : Bool) (world next : World) (disks : List Seen) (line : Line) (session : Session) (commands : List Command) (command : Command)
    → happens session.plan (story_in session commands) command ≡ Nowhere Say.None → line.answer ≡ Say.None → line.sends ≡ []
    → HasActorsOf world next → ActorsStand tells world disks session commands → IsHeard tells next disks line command session commands
nobody_hears tells world next disks line session commands command is answer sends same s = record {
  answer = subst (λ (h : Happened). IsAnswer (protocols session.plan) (story_in session commands) h line.answer) (sym is) answer;
  sends = sends ∙ sym (ap (places_of (story_in session commands)) is);
  next = same_actors tells world next disks session (command ∷ commands) same (actors_stay tells world disks session commands command is s);
}
