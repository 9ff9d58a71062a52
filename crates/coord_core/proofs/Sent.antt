-- The line that sends what is outstanding, before its disk calls.
use Rattle.std.proofs.Common.{◌≡◌, Bool, false, cond, ◌&&◌, option_to_list, Option, Some, None, List, ◌∷◌, map, refl, sym, ap, ◌∙◌}
use Rattle.mdb_base.specs.declared.names.Tid.{Tid}
use Rattle.mdb_base.specs.Words.{some_of}
use Rattle.fed_rules.specs.declared.events.CoordEvent.{CoordEvent}
use Rattle.fed_rules.specs.declared.events.CoordStep.{CoordStep}
use Rattle.fed_rules.specs.declared.messages.Due.{Due}
use Rattle.fed_rules.specs.declared.records.CoordRecord.{CoordRecord}
use Rattle.fed_rules.specs.declared.records.CoordRecord.TheVariants as Rec
use Rattle.fed_rules.specs.Happenings.{is_down}
use Rattle.fed_rules.specs.Coord.{forced, is_prepare, lacks_initiation, send_due}
use Rattle.fed_rules.specs.CoordPast.{CoordHappening, CoordPast, participants}
use Rattle.fed_rules.specs.CoordPast as Past
use Rattle.fed_rules.specs.Policies.{Policy}
use Rattle.journal_disk.specs.Disk.{Seen}
use Rattle.global_exec.specs.Live.{Live}
use Rattle.coord_core.specs.declared.coord.CoordCore.{CoordCore}
use Rattle.coord_tables.specs.Trees.{noted}
use Rattle.coord_core.specs.Pending.{IsPending}
use Rattle.coord_tables.specs.declared.replies.Taken.{Taken}
use Rattle.coord_tables.specs.Sending.{IsSending, initiation_of, says_sent}
use Rattle.coord_core.specs.Found.{was_found}
use Rattle.coord_core.specs.Stands.{Stands}
use Rattle.coord_core.specs.Store.{Keeps}
use Rattle.coord_tables.specs.Tables.{IsServing}
use Rattle.coord_tables.specs.Terms.{Terms}
use Rattle.coord_tables.proofs.ForCallers.{IsCalmAnswer, attempts_same, prints_calm, range_same, says_calm, sent_is, sent_line}

module _ (terms : Terms) (past : CoordPast) (event : CoordEvent) (tid : Tid) (taken : Option Taken) (defers : Bool) (dues : List Due) (exec exec_now : List Live) (i : IsSending terms past event tid taken defers dues exec exec_now) (b : Bool) where
  abbrev x : CoordHappening
  x = sent_line terms.protocols past event tid defers dues b

  c : IsCalmAnswer x.answer
  c = says_calm b defers

  -- the disk calls are to be made
  pub sent_pending : {P : Type 0} (test : P → Policy) (tells : Bool) (step : CoordStep) (old new : CoordCore P) (before after : Seen) (entry : Option CoordRecord)
      → Stands test tells old before terms past → b ≡ (some_of is_prepare dues && lacks_initiation terms.protocols past tid) → entry ≡ initiation_of terms.protocols past tid dues
      → step.answer ≡ says_sent b defers → step.sends ≡ map (send_due tid) dues
      → Keeps (was_found past) tells after new.store (Past.disk past) (Past.trip past) → is_down past ≡ false → new.protocols ≡ old.protocols → new.policy ≡ old.policy → new.begun ≡ old.begun
      → IsServing new.tables terms (x ∷ past) → IsPending test tells (forced (option_to_list entry)) step new after terms past event x
  sent_pending test tells step old new before after entry k is entry_is said sends stored up sites policy begun serving = record {
    answered = record {
      usual = i.usual;
      line = i.line ∙ sent_is terms.protocols past event tid defers dues ∙ ap (sent_line terms.protocols past event tid defers dues) (sym is);
      heard = refl;
      numbered = i.numbered;
      goes = c.runs;
      stays = c.stays;
      answer = prints_calm terms.protocols past x event step.answer c said;
      sends = sends;
    };
    ready = record {
      stored = stored;
      up = up;
      protocols = sites ∙ k.holds.protocols;
      policy = ap test policy ∙ k.holds.policy;
      sound = k.holds.sound;
      in_range = range_same past x c.begun k.holds.sound.in_range;
      serving = serving;
      begun = λ tx. ap (λ n. noted n.listed tx) begun ∙ k.holds.begun tx ∙ sym (attempts_same past x c.begun tx);
    };
    none_begun = c.begun;
    makes = ap (λ (o : Option CoordRecord). forced (option_to_list o)) (ap (λ f. cond f (Some (Rec.Initiation tid (participants terms.protocols past tid))) None) is ∙ sym entry_is);
  }
