-- Records that say the same, and go on to say the same.
use Rattle.std.proofs.Common.{◌≡◌, max, cond, Some, None, List, [], ◌∷◌, ◌++◌, refl, ap, ap₂}
use Rattle.std.specs.Prelude.{nat_lt}
use Rattle.mdb_base.specs.declared.names.Tid.{Tid}
use Rattle.mdb_base.specs.Names.{same_tid, tid_before}
use Rattle.mdb_base.specs.Words.{inserted}
use Rattle.presumptions.specs.declared.Decision.TheVariants as Decided
use Rattle.fed_rules.specs.declared.records.SiteRecord.{SiteRecord}
use Rattle.fed_rules.specs.declared.records.SiteRecord.TheVariants.{Setup, Start, Prepared, Ended, Local, Checkpoint}
use Rattle.fed_rules.specs.SiteRecords.{Home, by_number, doubt_of, install_held, installs, last_number, last_ticket, rows_after, ticket_owner}
use Rattle.fed_rules.specs.SiteSums.{epoch_with, locals_with, site_sum}
use Rattle.site_history.proofs.Doubtful.{doubts_alike}
use Rattle.site_history.proofs.Whole.{same_parts}

-- the same is installed, and the same ones are in doubt
pub record SameDue (a b : List SiteRecord) : Type 0 where
  pub due : installs a ≡ installs b
  pub doubt : (tid : Tid) → doubt_of a tid ≡ doubt_of b tid

pub record SameSays (a b : List SiteRecord) : Type 0 where
  pub same : SameDue a b
  pub number : last_number a ≡ last_number b
  pub ticket : last_ticket a ≡ last_ticket b
  pub owner : ticket_owner a ≡ ticket_owner b
  pub epoch : epoch_with 0 a ≡ epoch_with 0 b
  pub locals : locals_with [] a ≡ locals_with [] b

pub due_more : (r : SiteRecord) (a b : List SiteRecord) → SameDue a b → SameDue (r ∷ a) (r ∷ b)
due_more (Setup site engine protocol items) a b s = record { due = s.due; doubt = s.doubt }
due_more (Start n) a b s = record { due = s.due; doubt = s.doubt }
due_more (Checkpoint sum) a b s = record { due = s.due; doubt = s.doubt }
due_more (Prepared t e n ticket writes) a b s = record {
  due = s.due;
  doubt = λ tid. ap (λ o. cond (same_tid t tid) (Some (record { tid = t; epoch = e; number = n; ticket = ticket; writes = writes })) o) (s.doubt tid);
}
due_more (Ended t Decided.Abort) a b s = record { due = s.due; doubt = λ tid. ap (λ o. cond (same_tid t tid) None o) (s.doubt tid) }
due_more (Ended t Decided.Commit) a b s = record {
  due = ap₂ install_held (s.doubt t) s.due;
  doubt = λ tid. ap (λ o. cond (same_tid t tid) None o) (s.doubt tid);
}
due_more (Local t n writes) a b s = record { due = ap (by_number (record { tid = t; number = n; writes = writes })) s.due; doubt = s.doubt }

pub all_due : (xs a b : List SiteRecord) → SameDue a b → SameDue (xs ++ a) (xs ++ b)
all_due [] a b s = s
all_due (x ∷ xs) a b s = due_more x (xs ++ a) (xs ++ b) (all_due xs a b s)

pub says_more : (r : SiteRecord) (a b : List SiteRecord) → SameSays a b → SameSays (r ∷ a) (r ∷ b)
says_more (Setup site engine protocol items) a b s = record {
  same = due_more (Setup site engine protocol items) a b s.same;
  number = s.number;
  ticket = s.ticket;
  owner = s.owner;
  epoch = s.epoch;
  locals = s.locals;
}
says_more (Checkpoint sum) a b s = record {
  same = due_more (Checkpoint sum) a b s.same;
  number = s.number;
  ticket = s.ticket;
  owner = s.owner;
  epoch = s.epoch;
  locals = s.locals;
}
says_more (Start n) a b s = record {
  same = due_more (Start n) a b s.same;
  number = s.number;
  ticket = s.ticket;
  owner = s.owner;
  epoch = refl;
  locals = s.locals;
}
says_more (Prepared t e n ticket writes) a b s = record {
  same = due_more (Prepared t e n ticket writes) a b s.same;
  number = ap (max n) s.number;
  ticket = ap (max ticket) s.ticket;
  owner = ap₂ (λ l o. cond (nat_lt l ticket) (Some t) o) s.ticket s.owner;
  epoch = s.epoch;
  locals = s.locals;
}
says_more (Ended t decision) a b s = record {
  same = due_more (Ended t decision) a b s.same;
  number = s.number;
  ticket = s.ticket;
  owner = s.owner;
  epoch = s.epoch;
  locals = s.locals;
}
says_more (Local t n writes) a b s = record {
  same = due_more (Local t n writes) a b s.same;
  number = ap (max n) s.number;
  ticket = s.ticket;
  owner = s.owner;
  epoch = s.epoch;
  locals = ap (inserted tid_before t) s.locals;
}

pub all_say : (xs a b : List SiteRecord) → SameSays a b → SameSays (xs ++ a) (xs ++ b)
all_say [] a b s = s
all_say (x ∷ xs) a b s = says_more x (xs ++ a) (xs ++ b) (all_say xs a b s)

-- so their Sum is the same
pub same_sum : (home : Home) (a b : List SiteRecord) → SameSays a b → site_sum home a ≡ site_sum home b
same_sum home a b s =
    same_parts home s.epoch s.number s.ticket s.owner (ap (rows_after home.items) s.same.due) s.locals (doubts_alike a b s.same.doubt)
