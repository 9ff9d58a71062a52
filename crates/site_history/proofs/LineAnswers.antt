-- The lines of local transactions, each of which is about one attempt.
use Rattle.std.proofs.Common.{◌≡◌, ℕ, false, cond, Some, None, [], ◌∷◌, inl, refl, ap}
use Rattle.mdb_base.specs.declared.acts.PlainAct.{PlainAct}
use Rattle.mdb_base.specs.declared.acts.PlainAct.TheVariants.{Read, Write}
use Rattle.mdb_base.specs.declared.names.Key.{Key}
use Rattle.mdb_base.specs.declared.names.Tid.{Tid}
use Rattle.mdb_base.specs.declared.names.Tx.{Tx}
use Rattle.mdb_base.specs.declared.replies.Reply.{Reply}
use Rattle.mdb_base.specs.declared.replies.Reply.TheVariants as Reply_is
use Rattle.mdb_base.specs.declared.replies.Why.{Why}
use Rattle.mdb_base.specs.declared.replies.Why.TheVariants as Because
use Rattle.mdb_base.specs.Names.{same_tid}
use Rattle.fed_rules.specs.declared.answers.Answer.{Answer}
use Rattle.fed_rules.specs.declared.answers.Answer.TheVariants as Say
use Rattle.fed_rules.specs.declared.events.SiteEvent.TheVariants as Ev
use Rattle.fed_rules.specs.Happenings.{stops, comes_up}
use Rattle.fed_rules.specs.Orders.{read_by}
use Rattle.fed_rules.specs.Runs.{Acts, Refuses}
use Rattle.fed_rules.specs.Site.{with_lines, act_answer, refusal_answer}
use Rattle.fed_rules.specs.SitePast.{begins_tx}
use Rattle.site_history.proofs.About.{IsAbout}

-- what holds of each answer to an access holds of its answer
pub act_answer-is : (P : Answer → Type 0) → ((by : Tid) → P (Say.Waits by)) → ((by : Tid) → P (Say.Dies by)) → ((by : Tid) → P (Say.Late by))
    → ((key : Key) (value : ℕ) → P (Say.Read key value)) → ((key : Key) (value : ℕ) → P (Say.Wrote key value)) → P Say.Idle
    → (tid : Tid) (reply : Reply) (act : PlainAct) → P (act_answer tid reply act)
act_answer-is P waits dies late read wrote idle tid (Reply_is.Wait by) act = waits by
act_answer-is P waits dies late read wrote idle tid (Reply_is.Refused (Because.Die by)) act = dies by
act_answer-is P waits dies late read wrote idle tid (Reply_is.Refused (Because.Late by)) act = late by
act_answer-is P waits dies late read wrote idle tid (Reply_is.Refused (Because.Invalid by key)) act = idle
act_answer-is P waits dies late read wrote idle tid (Reply_is.Refused (Because.TicketMoved by)) act = idle
act_answer-is P waits dies late read wrote idle tid (Reply_is.Value value) (Read key) = read key value
act_answer-is P waits dies late read wrote idle tid (Reply_is.Value value) (Write key v) = idle
act_answer-is P waits dies late read wrote idle tid Reply_is.Done (Read key) = idle
act_answer-is P waits dies late read wrote idle tid Reply_is.Done (Write key value) = wrote key value
act_answer-is P waits dies late read wrote idle tid (Reply_is.Ticket n) act = idle
act_answer-is P waits dies late read wrote idle tid Reply_is.Unknown act = idle

-- and so of a refused commit
pub refusal_answer-is : (P : Answer → Type 0) → ((by : Tid) (key : Key) → P (Say.Invalid by key)) → P Say.Idle → (why : Why) → P (refusal_answer why)
refusal_answer-is P invalid idle (Because.Invalid by key) = invalid by key
refusal_answer-is P invalid idle (Because.Die by) = idle
refusal_answer-is P invalid idle (Because.Late by) = idle
refusal_answer-is P invalid idle (Because.TicketMoved by) = idle

pub act_begins-none : (tx : Tx) (tid : Tid) (reply : Reply) (act : PlainAct) → begins_tx tx (act_answer tid reply act) ≡ false
act_begins-none tx = act_answer-is (λ a. begins_tx tx a ≡ false) (λ by. refl) (λ by. refl) (λ by. refl) (λ k v. refl) (λ k v. refl) refl

-- a line of an access
pub acts_about : (tid : Tid) (reply : Reply) (act : PlainAct) → IsAbout tid (with_lines (Ev.Act tid act) (act_answer tid reply act) (Acts tid act reply ∷ []))
acts_about tid reply act = record {
  stays = act_answer-is (λ a. stops a ≡ false) (λ by. refl) (λ by. refl) (λ by. refl) (λ k v. refl) (λ k v. refl) refl tid reply act;
  up = act_answer-is (λ a. comes_up a ≡ false) (λ by. refl) (λ by. refl) (λ by. refl) (λ k v. refl) (λ k v. refl) refl tid reply act;
  untripped = refl;
  sends = refl;
  lines = (refl, tt);
  calls = inl refl;
  reads = λ other e. other_act other tid reply act e;
  begins = λ other e. act_begins-none other tid reply act;
}
  where
    other_act : (other t : Tid) (reply : Reply) (act : PlainAct) → same_tid t other ≡ false → read_by other (Ev.Act t act) (act_answer t reply act) ≡ None
    other_act other t reply act e =
        act_answer-is (λ a. read_by other (Ev.Act t act) a ≡ None) (λ by. refl) (λ by. refl) (λ by. refl) (λ k v. ap (λ b. cond b (Some v) None) e) (λ k v. refl) refl t reply act

pub refused_about : (tid : Tid) (why : Why) → IsAbout tid (with_lines (Ev.Commit tid) (refusal_answer why) (Refuses tid why ∷ []))
refused_about tid why = record {
  stays = refusal_answer-is (λ a. stops a ≡ false) (λ by k. refl) refl why;
  up = refusal_answer-is (λ a. comes_up a ≡ false) (λ by k. refl) refl why;
  untripped = refl;
  sends = refl;
  lines = (refl, tt);
  calls = inl refl;
  reads = λ other e. refl;
  begins = λ other e. refusal_answer-is (λ a. begins_tx other a ≡ false) (λ by k. refl) refl why;
}
