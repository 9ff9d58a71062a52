-- The line that decides an attempt abort, before its disk calls.
use Rattle.std.proofs.Common.{◌≡◌, Bool, false, option_to_list, Option, Some, ◌∷◌, ◌++◌, refl, sym, ap, subst, ◌∙◌}
use Rattle.mdb_base.specs.declared.names.Tid.{Tid}
use Rattle.presumptions.specs.declared.Decision.TheVariants as Decided
use Rattle.fed_rules.specs.declared.answers.Answer.{Answer}
use Rattle.fed_rules.specs.declared.answers.Answer.TheVariants as Say
use Rattle.fed_rules.specs.declared.answers.Cause.{Cause}
use Rattle.fed_rules.specs.declared.events.CoordEvent.{CoordEvent}
use Rattle.fed_rules.specs.declared.events.CoordStep.{CoordStep}
use Rattle.fed_rules.specs.declared.records.CoordRecord.{CoordRecord}
use Rattle.fed_rules.specs.declared.records.CoordRecord.TheVariants as Rec
use Rattle.fed_rules.specs.Happenings.{is_down}
use Rattle.fed_rules.specs.Coord.{decide_to, forced, forgets_at_once}
use Rattle.fed_rules.specs.CoordPast.{CoordHappening, CoordPast, participants, records}
use Rattle.fed_rules.specs.CoordPast as Past
use Rattle.fed_rules.specs.Policies.{Policy}
use Rattle.fed_rules.specs.Right.{MayPrint}
use Rattle.journal_disk.specs.Disk.{Seen}
use Rattle.coord_core.specs.declared.coord.CoordCore.{CoordCore}
use Rattle.coord_tables.specs.Trees.{noted}
use Rattle.coord_tables.specs.Deciding.{IsAborting, abort_of}
use Rattle.coord_core.specs.Pending.{IsPending}
use Rattle.coord_core.specs.Found.{was_found}
use Rattle.coord_core.specs.Stands.{Stands}
use Rattle.coord_core.specs.Store.{Keeps}
use Rattle.coord_tables.specs.Tables.{IsServing}
use Rattle.coord_tables.specs.Terms.{Terms, IsSound}
use Rattle.coord_tables.proofs.ForCallers.{abort_line, aborted, aborts_are, attempts_same, is_recorded, listed, range_same}

module _ (terms : Terms) (past : CoordPast) (event : CoordEvent) (tid : Tid) (printed : Cause) (i : IsAborting terms past event tid printed) (sound : IsSound terms past) where
  abbrev x : CoordHappening
  x = aborted terms past event tid printed i sound

  abbrev forgets : Bool
  forgets = forgets_at_once terms.protocols (option_to_list (abort_of terms.protocols past tid) ++ records past) tid Decided.Abort

  -- the disk calls are to be made
  pub abort_pending : {P : Type 0} (test : P → Policy) (tells : Bool) (step : CoordStep) (old new : CoordCore P) (before after : Seen) (written : Option CoordRecord) (result : Bool)
      → Stands test tells old before terms past → written ≡ abort_of terms.protocols past tid → result ≡ forgets
      → step.answer ≡ Say.Decides Decided.Abort (Some printed) result → step.sends ≡ decide_to tid Decided.Abort (participants terms.protocols past tid)
      → Keeps (was_found past) tells after new.store (Past.disk past) (Past.trip past) → is_down past ≡ false → new.protocols ≡ old.protocols → new.policy ≡ old.policy → new.begun ≡ old.begun
      → IsServing new.tables terms (x ∷ past) → IsPending test tells (forced (option_to_list written)) step new after terms past event x
  abort_pending test tells step old new before after written result k w r said sends stored up sites policy begun serving = record {
    answered = record {
      usual = i.usual;
      line = i.line ∙ aborts_are terms.protocols past event tid i.cause ∙ ap (abort_line terms.protocols past event tid i.cause) (listed (Rec.Abort tid (participants terms.protocols past tid)) (is_recorded terms.protocols past tid));
      heard = refl;
      numbered = i.numbered;
      goes = refl;
      stays = refl;
      answer = subst (λ (a : Answer). MayPrint terms.protocols past x event a) (sym (said ∙ ap (λ (b : Bool). Say.Decides Decided.Abort (Some printed) b) r)) (i.prints x forgets refl refl);
      sends = sends;
    };
    ready = record {
      stored = stored;
      up = up;
      protocols = sites ∙ k.holds.protocols;
      policy = ap test policy ∙ k.holds.policy;
      sound = k.holds.sound;
      in_range = range_same past x refl k.holds.sound.in_range;
      serving = serving;
      begun = λ tx. ap (λ n. noted n.listed tx) begun ∙ k.holds.begun tx ∙ sym (attempts_same past x refl tx);
    };
    none_begun = refl;
    makes = ap (λ (o : Option CoordRecord). forced (option_to_list o)) (sym w);
  }
