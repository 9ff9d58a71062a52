-- How a site's host begins, and what it leaves.
use Rattle.std.proofs.Common.{◌≡◌, Bool, false, List, [], ◌∷◌, map, refl, sym, ◌∙◌, subst, arith}
use Rattle.mdb_base.specs.Rising.{IsRising}
use Rattle.fed_rules.specs.declared.commands.Stamped.{Stamped}
use Rattle.fed_rules.specs.declared.messages.FromSite.{FromSite}
use Rattle.fed_rules.specs.Runs.{Start, EngineLine}
use Rattle.fed_messages.specs.declared.Packet.{Packet}
use Rattle.journal_disk.specs.Disk.{Seen}
use Rattle.scripted_link.specs.Rings.{Wire}
use Rattle.scripted_link.proofs.ForCallers.{unoffered_moved}
use Rattle.fed_hosts.specs.declared.site_actor.SiteActor.{SiteActor}
use Rattle.host_laws.specs.Hearing.{HasHeard}
use Rattle.host_laws.specs.History.{IsHistory}
use Rattle.fed_hosts.specs.Hosts.{CanOpen, IsHeld}
use Rattle.fed_hosts.specs.Keeps.{Keeps}
use Rattle.host_laws.specs.Lines.{stamp_of}
use Rattle.host_laws.specs.Plans.{SitePlan}
use Rattle.host_laws.specs.Turns.{SiteTurn, last_stamp}
use Rattle.fed_hosts.proofs.Rising.{Rise, above, newest, rise_turned}

newest_is : (turns : List SiteTurn) → newest (map (λ (turn : SiteTurn). turn.line) turns) ≡ last_stamp turns
newest_is [] = refl
newest_is (turn ∷ turns) = refl

stamps_rise : (plan : SitePlan) (turns : List SiteTurn) → IsHistory plan turns → Rise (map (λ (turn : SiteTurn). turn.line) turns)
stamps_rise plan [] right = tt
stamps_rise plan (turn ∷ turns) right =
    let stamp = right.0.stamp in
    let more = above (last_stamp turns) (stamp_of turn.took) in
    let newest = newest_is turns in
    (omega (arith, stamp, more, newest), stamps_rise plan turns right.1)

module _ {E D : Type 0} (stands : E → Start → List EngineLine → Type 0) (tells : Bool) (seen : D → Seen) (sites : List SitePlan) (rings : List Wire) where
  pub opens : (actor : SiteActor E D) → CanOpen stands tells sites rings actor.dbms (seen actor.disk) actor.stops.items actor.ends → actor.lines.items ≡ [] → actor.sent.items ≡ [] → actor.armed ≡ 0 → actor.last ≡ 0
      → Keeps stands tells seen sites rings false actor
  opens actor can lines sent armed last = record {
    plan = can.plan;
    turns = [];
    planned = can.planned;
    kept = record {
      logged = record { right = tt; lines = lines; sent = sent; offers = can.offered_none; stops = can.stops_are; armed = armed; last = last; low = omega arith; short = omega arith; few_sent = omega arith; counted = λ tx. refl; few = λ tx. omega arith };
      settled = λ less. refl;
    };
    moved_on = unoffered_moved actor.ends.outlet can.offered_none;
    heard = subst (λ (ps : List Packet). HasHeard can.plan.programs ps []) (sym can.taken_none) (record { takings = []; packets_are = refl; read = tt; envelopes_are = refl });
    standing = can.stood;
    faults = can.faults;
  }

  pub held : (failed : Bool) (actor : SiteActor E D) → Keeps stands tells seen sites rings failed actor → (lines : List Stamped) (sent : List FromSite) → lines ≡ actor.lines.items → sent ≡ actor.sent.items
      → IsHeld stands tells seen sites rings (record { dbms = actor.dbms; disk = actor.disk; lines = lines; sent = sent; ends = actor.ends; failed = failed })
  held failed actor k lines sent lines_are sent_are =
      let l = k.kept.logged in
      record {
        plan = k.plan;
        turns = k.turns;
        planned = k.planned;
        right = l.right;
        lines = lines_are ∙ l.lines;
        rise = subst (λ (ls : List Stamped). IsRising (λ (line : Stamped). line.stamp) ls) (sym (lines_are ∙ l.lines)) (rise_turned (map (λ (turn : SiteTurn). turn.line) k.turns) (stamps_rise k.plan k.turns l.right));
        sent = sent_are ∙ l.sent;
        offers = l.offers;
        moved_on = k.moved_on;
        heard = k.heard;
        short = l.short;
        few = l.few;
        settled = k.kept.settled;
        standing = k.standing;
        faults = k.faults;
      }
