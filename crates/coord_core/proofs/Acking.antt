-- The line of an acknowledgement, before its disk call.
use Rattle.std.proofs.Common.{◌≡◌, Bool, false, [], ◌∷◌, refl, sym, ap, subst, ◌∙◌}
use Rattle.mdb_base.specs.declared.names.SiteId.{SiteId}
use Rattle.mdb_base.specs.declared.names.Tid.{Tid}
use Rattle.presumptions.specs.declared.Decision.{Decision}
use Rattle.fed_rules.specs.declared.answers.Answer.{Answer}
use Rattle.fed_rules.specs.declared.events.CoordEvent.TheVariants as Ev
use Rattle.fed_rules.specs.declared.events.CoordStep.{CoordStep}
use Rattle.fed_rules.specs.declared.messages.FromSite.TheVariants as From
use Rattle.fed_rules.specs.Happenings.{is_down}
use Rattle.fed_rules.specs.CoordPast.{CoordPast, Decided, standing}
use Rattle.fed_rules.specs.CoordPast as Past
use Rattle.fed_rules.specs.Policies.{Policy}
use Rattle.fed_rules.specs.Right.{MayPrint}
use Rattle.journal_disk.specs.Disk.{Seen}
use Rattle.protocol_table.specs.declared.ends.AckEnd.{AckEnd}
use Rattle.protocol_table.specs.Ends as ends
use Rattle.coord_core.specs.declared.coord.CoordCore.{CoordCore}
use Rattle.coord_tables.specs.declared.tables.Tables.{Tables}
use Rattle.coord_tables.specs.Trees.{noted}
use Rattle.coord_core.specs.Pending.{IsPending}
use Rattle.coord_core.specs.Found.{was_found}
use Rattle.coord_core.specs.Stands.{Stands}
use Rattle.coord_core.specs.Store.{Keeps}
use Rattle.coord_tables.specs.Tables.{IsServing}
use Rattle.coord_tables.specs.Terms.{Terms}
use Rattle.coord_tables.proofs.ForCallers.{ack_begins, ack_follows, ack_goes, ack_heard, ack_line, ack_prints, ack_silent, ack_stays, attempts_same, range_same, table_end}

-- and the disk calls are to be made
pub ack_pending : {P : Type 0} (test : P → Policy) (tells : Bool) (step : CoordStep) (old new : CoordCore P) (before after : Seen) (terms : Terms) (past : CoordPast) (site : SiteId) (tid : Tid) (d : Decision) (end : AckEnd)
    → Stands test tells old before terms past → IsServing old.tables terms past → is_down past ≡ false → standing terms.protocols past tid ≡ Decided d
    → end ≡ table_end old.tables tid site → new.tables ≡ record old.tables { known = ends.after_ack end tid site old.tables.known }
    → step.answer ≡ (ack_line site tid end).answer → step.sends ≡ [] → Keeps (was_found past) tells after new.store (Past.disk past) (Past.trip past)
    → new.protocols ≡ old.protocols → new.policy ≡ old.policy → new.begun ≡ old.begun
    → IsPending test tells (ack_line site tid end).calls step new after terms past (Ev.Take site (From.Ack tid)) (ack_line site tid end)
ack_pending test tells step old new before after terms past site tid d end k s up st is tables said silent stored sites policy begun =
    let x = ack_line site tid end in
    let f = ack_follows old.tables terms past site tid d end s st is in
    record {
      answered = record {
        usual = tt;
        line = f.answer;
        heard = ack_heard site tid end;
        numbered = tt;
        goes = ack_goes site tid end;
        stays = ack_stays site tid end;
        answer = subst (λ (a : Answer). MayPrint terms.protocols past x x.event a) (sym said) (ack_prints terms.protocols past site tid end);
        sends = silent ∙ sym (ack_silent site tid end);
      };
      ready = record {
        stored = stored;
        up = up;
        protocols = sites ∙ k.holds.protocols;
        policy = ap test policy ∙ k.holds.policy;
        sound = k.holds.sound;
        in_range = range_same past x (ack_begins site tid end) k.holds.sound.in_range;
        serving = subst (λ (t : Tables). IsServing t terms (x ∷ past)) (sym tables) f.serving;
        begun = λ tx. ap (λ n. noted n.listed tx) begun ∙ k.holds.begun tx ∙ sym (attempts_same past x (ack_begins site tid end) tx);
      };
      none_begun = ack_begins site tid end;
      makes = refl;
    }
