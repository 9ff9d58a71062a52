-- A reply that counts and doesn't refuse is a wait, or it finishes what is outstanding at its site.
use Rattle.std.proofs.Common.{◌≡◌, ◌⊎◌, ℕ, ◌==◌, Bool, true, false, ◌||◌, Option, Some, None, List, ◌∷◌, inl, inr, refl, ap, subst, ◌∙◌}
use Rattle.std.proofs.lemmas.Bool.{and_parts}
use Rattle.mdb_base.specs.declared.acts.PlainAct.{PlainAct}
use Rattle.mdb_base.specs.declared.acts.PlainAct.TheVariants.{Read, Write}
use Rattle.mdb_base.specs.declared.names.SiteId.{SiteId}
use Rattle.mdb_base.specs.declared.names.Tid.{Tid}
use Rattle.mdb_base.specs.declared.replies.Reply.{Reply}
use Rattle.mdb_base.specs.declared.replies.Reply.TheVariants as Reply_is
use Rattle.mdb_base.specs.declared.replies.Why.TheVariants as Because
use Rattle.mdb_base.specs.Words.{some_of, with_some, map_some}
use Rattle.fed_rules.specs.declared.messages.Due.{Due}
use Rattle.fed_rules.specs.declared.messages.Due.TheVariants as Due_is
use Rattle.fed_rules.specs.Coord.{did_counts, fits, fits_act, fits_take}
use Rattle.fed_rules.specs.CoordPast.{CoordHappening, CoordPast, Counted, program, counted, vote_at, outstanding, epoch_at, is_wait}
use Rattle.fed_rules.specs.Runs.{Access, Got, Wrote}
use Rattle.federation_laws.specs.Accesses.{act_of}
use Rattle.federation_laws.proofs.CoordEffects.{CountsReply}
use Rattle.coord_laws.proofs.ForCallers.{is_refusal}
use Rattle.federation_laws.proofs.CoordOps.{finished, op_at, ops, Matches}
use Rattle.federation_laws.proofs.Dues.{IsWork, IsTake, due-is, Fitting, ToWork, ToTake, fitting}

-- whether a refusal counted
abbrev pub is_dead : List Counted → Bool
is_dead replies = some_of (λ reply. is_refusal reply.reply) replies

-- the act is granted
record Grants (act : PlainAct) (reply : Reply) (due : Option Due) : Type 0 where
  access : Access
  done : finished reply due ≡ Some (Some access)
  answers : Matches reply (Some access)
  its : act ≡ act_of access

act-done : (at : SiteId) (epoch n : ℕ) (act : PlainAct) (reply : Reply) → fits_act act reply ≡ true → is_refusal reply ≡ false → (is_wait reply ≡ true) ⊎ Grants act reply (Some (Due_is.Work at epoch n act))
act-done at epoch n (Read key) (Reply_is.Value value) f r = inr (record { access = Got key value; done = refl; answers = refl; its = refl })
act-done at epoch n (Read key) (Reply_is.Wait by) f r = inl refl
act-done at epoch n (Read key) (Reply_is.Refused (Because.Die by)) f r = cc
act-done at epoch n (Read key) (Reply_is.Refused (Because.Late by)) f r = cc
act-done at epoch n (Read key) (Reply_is.Refused (Because.Invalid by k)) f r = cc
act-done at epoch n (Read key) (Reply_is.Refused (Because.TicketMoved by)) f r = cc
act-done at epoch n (Read key) Reply_is.Done f r = cc
act-done at epoch n (Read key) Reply_is.Unknown f r = cc
act-done at epoch n (Read key) (Reply_is.Ticket ticket) f r = cc
act-done at epoch n (Write key value) Reply_is.Done f r = inr (record { access = Wrote key value; done = refl; answers = tt; its = refl })
act-done at epoch n (Write key value) (Reply_is.Wait by) f r = inl refl
act-done at epoch n (Write key value) (Reply_is.Refused (Because.Die by)) f r = cc
act-done at epoch n (Write key value) (Reply_is.Refused (Because.Late by)) f r = cc
act-done at epoch n (Write key value) (Reply_is.Refused (Because.Invalid by k)) f r = cc
act-done at epoch n (Write key value) (Reply_is.Refused (Because.TicketMoved by)) f r = cc
act-done at epoch n (Write key value) (Reply_is.Value v) f r = cc
act-done at epoch n (Write key value) Reply_is.Unknown f r = cc
act-done at epoch n (Write key value) (Reply_is.Ticket ticket) f r = cc

take-done : (due : Option Due) (reply : Reply) → fits_take reply ≡ true → is_refusal reply ≡ false → (is_wait reply ≡ true) ⊎ ((finished reply due ≡ Some None) × Matches reply None)
take-done due (Reply_is.Ticket ticket) f r = inr (refl, tt)
take-done due (Reply_is.Wait by) f r = inl refl
take-done due (Reply_is.Refused (Because.Die by)) f r = cc
take-done due (Reply_is.Refused (Because.Late by)) f r = cc
take-done due (Reply_is.Refused (Because.Invalid by k)) f r = cc
take-done due (Reply_is.Refused (Because.TicketMoved by)) f r = cc
take-done due (Reply_is.Value value) f r = cc
take-done due Reply_is.Done f r = cc
take-done due Reply_is.Unknown f r = cc

wait-done : (reply : Reply) (due : Option Due) → is_wait reply ≡ true → finished reply due ≡ None
wait-done (Reply_is.Wait by) due w = refl
wait-done (Reply_is.Value value) due w = cc
wait-done Reply_is.Done due w = cc
wait-done (Reply_is.Ticket ticket) due w = cc
wait-done (Reply_is.Refused why) due w = cc
wait-done Reply_is.Unknown due w = cc

-- a counted wait
pub record Waits (past : CoordPast) (g : Tid) (x : CoordHappening) (r : CountsReply past g x) : Type 0 where
  pub waits : is_wait r.reply ≡ true
  pub done : ops (x ∷ past) g ≡ ops past g
  pub due : Due
  pub is_due : outstanding past g r.site ≡ Some due
  pub fit : fits (Some due) r.n r.reply ≡ true

-- a counted step
pub record Works (past : CoordPast) (g : Tid) (x : CoordHappening) (r : CountsReply past g x) : Type 0 where
  pub access : Access
  pub epoch : ℕ
  pub is_due : outstanding past g r.site ≡ Some (Due_is.Work r.site epoch r.n (act_of access))
  pub facts : IsWork (program past g) (counted past g) r.site r.site epoch r.n (act_of access)
  pub done : ops (x ∷ past) g ≡ op_at r.site (Some access) ∷ ops past g
  pub answers : Matches r.reply (Some access)

-- a counted ticket
pub record Takes (past : CoordPast) (g : Tid) (x : CoordHappening) (r : CountsReply past g x) : Type 0 where
  pub epoch : ℕ
  pub is_due : outstanding past g r.site ≡ Some (Due_is.Take r.site epoch r.n)
  pub facts : IsTake (program past g) (counted past g) r.site r.site epoch r.n
  pub done : ops (x ∷ past) g ≡ op_at r.site None ∷ ops past g
  pub answers : Matches r.reply None

pub data Progress (past : CoordPast) (g : Tid) (x : CoordHappening) (r : CountsReply past g x) : Type 0 where
  Waiting : Waits past g x r → Progress past g x r
  Working : Works past g x r → Progress past g x r
  Taking : Takes past g x r → Progress past g x r

pub counts-fits : (past : CoordPast) (site : SiteId) (g : Tid) (epoch n : ℕ) (reply : Reply) → did_counts past site g epoch n reply ≡ true → fits (outstanding past g site) n reply ≡ true
counts-fits past site g epoch n reply e = (and_parts _ _ (and_parts _ _ e).0).1

pub counts-epoch : (past : CoordPast) (site : SiteId) (g : Tid) (epoch n : ℕ) (reply : Reply) → did_counts past site g epoch n reply ≡ true → ((epoch_at past g site == 0) || (epoch == epoch_at past g site)) ≡ true
counts-epoch past site g epoch n reply e = (and_parts _ _ e).1

waiting : (past : CoordPast) (g : Tid) (x : CoordHappening) (r : CountsReply past g x) → is_wait r.reply ≡ true → (due : Due) → outstanding past g r.site ≡ Some due → Progress past g x r
waiting past g x r w due e =
    Waiting (record {
      waits = w;
      done = r.done ∙ ap (λ o. with_some (map_some (op_at r.site) o) (ops past g)) (wait-done r.reply (outstanding past g r.site) w);
      due = due;
      is_due = e;
      fit = subst (λ d. fits d r.n r.reply ≡ true) e (counts-fits past r.site g r.epoch r.n r.reply r.may);
    })

-- a reply that counts and doesn't refuse
pub progress : (past : CoordPast) (g : Tid) (x : CoordHappening) (r : CountsReply past g x) → is_refusal r.reply ≡ false → Progress past g x r
progress past g x r goes = of_fitting (fitting (program past g) (counted past g) r.site (outstanding past g r.site) r.n r.reply (counts-fits past r.site g r.epoch r.n r.reply r.may))
  where
    of_fitting : Fitting (program past g) (counted past g) r.site (outstanding past g r.site) r.n r.reply → Progress past g x r
    of_fitting (ToWork w) = by_done (act-done w.at w.epoch r.n w.act r.reply w.fit goes)
      where
        facts : IsWork (program past g) (counted past g) r.site w.at w.epoch r.n w.act
        facts = due-is (program past g) (counted past g) (vote_at past g r.site) r.site (Due_is.Work w.at w.epoch r.n w.act) w.is

        by_done : (is_wait r.reply ≡ true) ⊎ Grants w.act r.reply (Some (Due_is.Work w.at w.epoch r.n w.act)) → Progress past g x r
        by_done (inl waits) = waiting past g x r waits (Due_is.Work w.at w.epoch r.n w.act) w.is
        by_done (inr k) =
            Working (record {
              access = k.access;
              epoch = w.epoch;
              is_due = subst (λ a. outstanding past g r.site ≡ Some (Due_is.Work r.site w.epoch r.n a)) k.its (subst (λ s. outstanding past g r.site ≡ Some (Due_is.Work s w.epoch r.n w.act)) facts.here w.is);
              facts = subst (λ a. IsWork (program past g) (counted past g) r.site r.site w.epoch r.n a) k.its (subst (λ s. IsWork (program past g) (counted past g) r.site s w.epoch r.n w.act) facts.here facts);
              done = r.done ∙ ap (λ o. with_some (map_some (op_at r.site) o) (ops past g)) (ap (finished r.reply) w.is ∙ k.done);
              answers = k.answers;
            })
    of_fitting (ToTake w) = by_done (take-done (outstanding past g r.site) r.reply w.fit goes)
      where
        facts : IsTake (program past g) (counted past g) r.site w.at w.epoch r.n
        facts = due-is (program past g) (counted past g) (vote_at past g r.site) r.site (Due_is.Take w.at w.epoch r.n) w.is

        by_done : (is_wait r.reply ≡ true) ⊎ ((finished r.reply (outstanding past g r.site) ≡ Some None) × Matches r.reply None) → Progress past g x r
        by_done (inl waits) = waiting past g x r waits (Due_is.Take w.at w.epoch r.n) w.is
        by_done (inr k) =
            Taking (record {
              epoch = w.epoch;
              is_due = subst (λ s. outstanding past g r.site ≡ Some (Due_is.Take s w.epoch r.n)) facts.here w.is;
              facts = subst (λ s. IsTake (program past g) (counted past g) r.site s w.epoch r.n) facts.here facts;
              done = r.done ∙ ap (λ o. with_some (map_some (op_at r.site) o) (ops past g)) k.0;
              answers = k.1;
            })
