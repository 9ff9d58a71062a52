-- The coordinator's records about one attempt: its Commit and End records, the participants that they name, and what is required.
use Rattle.std.proofs.Common.{◌≡◌, inl, inr, Bool, true, false, cond, is_some, Option, Some, None, List, [], ◌∷◌, ◌++◌, refl, sym, ap, subst, ◌∙◌}
use Rattle.mdb_base.specs.declared.names.SiteId.{SiteId}
use Rattle.mdb_base.specs.declared.names.Tid.{Tid}
use Rattle.mdb_base.specs.Names.{same_tid}
use Rattle.mdb_base.specs.Words.{Each, Among, those, or_else}
use Rattle.mdb_base.proofs.ForCallers.{same_tid-equal}
use Rattle.presumptions.specs.declared.Decision.{Decision}
use Rattle.presumptions.specs.declared.Decision.TheVariants as Decided
use Rattle.presumptions.specs.declared.Participant.{Participant}
use Rattle.presumptions.specs.declared.Protocol.{Protocol}
use Rattle.presumptions.specs.Table.{acks}
use Rattle.fed_rules.specs.declared.records.CoordRecord.{CoordRecord}
use Rattle.fed_rules.specs.declared.records.CoordRecord.TheVariants as Rec
use Rattle.fed_rules.specs.CoordRecords.{ticketed, named, has_commit, has_end, outcome, required_of, required, is_nobody}
use Rattle.coord_laws.specs.Records.{IsCommit, IsEnd}
use Rattle.coord_laws.proofs.Facts.{IsUncommitted, IsDecidedBy}
use Rattle.order_laws.proofs.ForCallers.{same_of}
use Rattle.fed_rules.specs.Usable.{IsEndOf}
use Rattle.fed_rules.specs.declared.records.CoordRecord.TheVariants.{Initiation, Commit, Abort, End, Checkpoint}

pub commit_among : (g : Tid) (rs : List CoordRecord) → has_commit rs g ≡ true → Among (IsCommit g) rs
commit_among g [] e = cc
commit_among g (Rec.Initiation t ms ∷ rs) e = inr (commit_among g rs e)
commit_among g (Rec.Abort t ms ∷ rs) e = inr (commit_among g rs e)
commit_among g (Rec.End t ∷ rs) e = inr (commit_among g rs e)
commit_among g (Rec.Checkpoint sum ∷ rs) e = inr (commit_among g rs e)
commit_among g (Rec.Commit t ks ∷ rs) e = by_test (same_tid t g) refl e (commit_among g rs) where
  by_test : (b : Bool) → same_tid t g ≡ b → cond b true (has_commit rs g) ≡ true → (has_commit rs g ≡ true → Among (IsCommit g) rs)
      → Among (IsCommit g) (Rec.Commit t ks ∷ rs)
  by_test true q e k = inl (same_tid-equal t g q)
  by_test false q e k = inr (k e)

pub among_commit : (g : Tid) (rs : List CoordRecord) → Among (IsCommit g) rs → has_commit rs g ≡ true
among_commit g [] m = absurd m
among_commit g (Rec.Initiation t ms ∷ rs) (inl m) = absurd m
among_commit g (Rec.Initiation t ms ∷ rs) (inr m) = among_commit g rs m
among_commit g (Rec.Abort t ms ∷ rs) (inl m) = absurd m
among_commit g (Rec.Abort t ms ∷ rs) (inr m) = among_commit g rs m
among_commit g (Rec.End t ∷ rs) (inl m) = absurd m
among_commit g (Rec.End t ∷ rs) (inr m) = among_commit g rs m
among_commit g (Rec.Checkpoint sum ∷ rs) (inl m) = absurd m
among_commit g (Rec.Checkpoint sum ∷ rs) (inr m) = among_commit g rs m
among_commit g (Rec.Commit t ks ∷ rs) (inl m) = ap (λ b. cond b true (has_commit rs g)) (same_of t g m)
among_commit g (Rec.Commit t ks ∷ rs) (inr m) = by_test (same_tid t g) (among_commit g rs m) where
  by_test : (b : Bool) → has_commit rs g ≡ true → cond b true (has_commit rs g) ≡ true
  by_test true e = refl
  by_test false e = e

pub end_among : (g : Tid) (rs : List CoordRecord) → has_end rs g ≡ true → Among (IsEndOf g) rs
end_among g [] e = cc
end_among g (Rec.Initiation t ms ∷ rs) e = inr (end_among g rs e)
end_among g (Rec.Commit t ks ∷ rs) e = inr (end_among g rs e)
end_among g (Rec.Abort t ms ∷ rs) e = inr (end_among g rs e)
end_among g (Rec.Checkpoint sum ∷ rs) e = inr (end_among g rs e)
end_among g (Rec.End t ∷ rs) e = by_test (same_tid t g) refl e (end_among g rs) where
  by_test : (b : Bool) → same_tid t g ≡ b → cond b true (has_end rs g) ≡ true → (has_end rs g ≡ true → Among (IsEndOf g) rs)
      → Among (IsEndOf g) (Rec.End t ∷ rs)
  by_test true q e k = inl (same_tid-equal t g q)
  by_test false q e k = inr (k e)

-- a record that doesn't name participants of the attempt
abbrev pub IsSilent : Tid → CoordRecord → Type 0
IsSilent g (Rec.Initiation t ms) = same_tid t g ≡ false
IsSilent g (Rec.Commit t ks) = same_tid t g ≡ false
IsSilent g (Rec.Abort t ms) = same_tid t g ≡ false
IsSilent g (Rec.End t) = Unit {0}
IsSilent g (Rec.Checkpoint sum) = Unit {0}

-- such records don't change who is named
pub named_behind : (protocols : List Participant) (g : Tid) (news rs : List CoordRecord) → Each (IsSilent g) news
    → named protocols (news ++ rs) g ≡ named protocols rs g
named_behind protocols g [] rs h = refl
named_behind protocols g (Rec.Initiation t ms ∷ news) rs h =
    ap (λ b. cond b (Some ms) (named protocols (news ++ rs) g)) h.0 ∙ named_behind protocols g news rs h.1
named_behind protocols g (Rec.Commit t ks ∷ news) rs h =
    ap (λ b. cond b (Some (or_else (named protocols (news ++ rs) g) (ticketed protocols ks))) (named protocols (news ++ rs) g)) h.0
    ∙ named_behind protocols g news rs h.1
named_behind protocols g (Rec.Abort t ms ∷ news) rs h =
    ap (λ b. cond b (Some (or_else (named protocols (news ++ rs) g) ms)) (named protocols (news ++ rs) g)) h.0
    ∙ named_behind protocols g news rs h.1
named_behind protocols g (Rec.End t ∷ news) rs h = named_behind protocols g news rs h.1
named_behind protocols g (Rec.Checkpoint sum ∷ news) rs h = named_behind protocols g news rs h.1

some_of : {A : Type 0} (b : Bool) (x : A) (o : Option A) → is_some o ≡ true → is_some (cond b (Some x) o) ≡ true
some_of true x o e = refl
some_of false x o e = e

-- what is named stays so behind further records
pub named_more : (protocols : List Participant) (g : Tid) (news rs : List CoordRecord) → is_some (named protocols rs g) ≡ true
    → is_some (named protocols (news ++ rs) g) ≡ true
named_more protocols g [] rs e = e
named_more protocols g (Rec.Initiation t ms ∷ news) rs e = some_of (same_tid t g) ms _ (named_more protocols g news rs e)
named_more protocols g (Rec.Commit t ks ∷ news) rs e = some_of (same_tid t g) _ _ (named_more protocols g news rs e)
named_more protocols g (Rec.Abort t ms ∷ news) rs e = some_of (same_tid t g) _ _ (named_more protocols g news rs e)
named_more protocols g (Rec.End t ∷ news) rs e = named_more protocols g news rs e
named_more protocols g (Rec.Checkpoint sum ∷ news) rs e = named_more protocols g news rs e

-- an attempt with a Commit is named
pub commit_named : (protocols : List Participant) (g : Tid) (rs : List CoordRecord) → has_commit rs g ≡ true
    → is_some (named protocols rs g) ≡ true
commit_named protocols g [] e = cc
commit_named protocols g (Rec.Initiation t ms ∷ rs) e = some_of (same_tid t g) ms _ (commit_named protocols g rs e)
commit_named protocols g (Rec.Commit t ks ∷ rs) e = by_test (same_tid t g) e (commit_named protocols g rs) where
  by_test : (b : Bool) → cond b true (has_commit rs g) ≡ true → (has_commit rs g ≡ true → is_some (named protocols rs g) ≡ true)
      → is_some (cond b (Some (or_else (named protocols rs g) (ticketed protocols ks))) (named protocols rs g)) ≡ true
  by_test true e k = refl
  by_test false e k = k e
commit_named protocols g (Rec.Abort t ms ∷ rs) e = some_of (same_tid t g) _ _ (commit_named protocols g rs e)
commit_named protocols g (Rec.End t ∷ rs) e = commit_named protocols g rs e
commit_named protocols g (Rec.Checkpoint sum ∷ rs) e = commit_named protocols g rs e

-- those that are named, where there are any
pub named_some : {A : Type 0} (o : Option A) → is_some o ≡ true → (x : A) × (o ≡ Some x)
named_some None e = cc
named_some (Some x) e = (x, refl)

-- an attempt of which something is required is named
pub required_named : (d : Decision) (o : Option (List Participant)) → is_nobody (required_of d o) ≡ false → is_some o ≡ true
required_named d None e = cc
required_named d (Some ms) e = refl

-- records that are no Commits of the attempt don't change its outcome
pub outcome_behind : (g : Tid) (news rs : List CoordRecord) → Each (IsUncommitted g) news → has_commit (news ++ rs) g ≡ has_commit rs g
outcome_behind g [] rs h = refl
outcome_behind g (Rec.Initiation t ns ∷ news) rs h = outcome_behind g news rs h.1
outcome_behind g (Rec.Abort t ns ∷ news) rs h = outcome_behind g news rs h.1
outcome_behind g (Rec.End t ∷ news) rs h = outcome_behind g news rs h.1
outcome_behind g (Rec.Checkpoint sum ∷ news) rs h = outcome_behind g news rs h.1
outcome_behind g (Rec.Commit t ks ∷ news) rs h = ap (λ b. cond b true (has_commit (news ++ rs) g)) h.0 ∙ outcome_behind g news rs h.1

pub outcome_is : (rs : List CoordRecord) (g : Tid) (b : Bool) → has_commit rs g ≡ b → outcome rs g ≡ cond b Decided.Commit Decided.Abort
outcome_is rs g b e = ap (λ c. cond c Decided.Commit Decided.Abort) e

-- End records are no Commits
pub ends_uncommitted : (g : Tid) (rs : List CoordRecord) → Each IsEnd rs → Each (IsUncommitted g) rs
ends_uncommitted g [] h = tt
ends_uncommitted g (Rec.End t ∷ rs) h = (tt, ends_uncommitted g rs h.1)
ends_uncommitted g (Rec.Initiation t ns ∷ rs) h = absurd h.0
ends_uncommitted g (Rec.Commit t ks ∷ rs) h = absurd h.0
ends_uncommitted g (Rec.Abort t ns ∷ rs) h = absurd h.0
ends_uncommitted g (Rec.Checkpoint sum ∷ rs) h = absurd h.0

-- and name nobody
pub ends_silent : (g : Tid) (rs : List CoordRecord) → Each IsEnd rs → Each (IsSilent g) rs
ends_silent g [] h = tt
ends_silent g (Rec.End t ∷ rs) h = (tt, ends_silent g rs h.1)
ends_silent g (Rec.Initiation t ns ∷ rs) h = absurd h.0
ends_silent g (Rec.Commit t ks ∷ rs) h = absurd h.0
ends_silent g (Rec.Abort t ns ∷ rs) h = absurd h.0
ends_silent g (Rec.Checkpoint sum ∷ rs) h = absurd h.0

-- the outcome that a decision leaves
pub decided_outcome : (g : Tid) (decision : Decision) (news rs : List CoordRecord) → has_commit rs g ≡ false
    → IsDecidedBy g decision news → outcome (news ++ rs) g ≡ decision
decided_outcome g Decided.Commit news rs e d = outcome_is (news ++ rs) g true (among_commit g (news ++ rs) (left news d)) where
  left : (xs : List CoordRecord) → Among (IsCommit g) xs → Among (IsCommit g) (xs ++ rs)
  left [] m = absurd m
  left (x ∷ xs) (inl m) = inl m
  left (x ∷ xs) (inr m) = inr (left xs m)
decided_outcome g Decided.Abort news rs e d = outcome_is (news ++ rs) g false (outcome_behind g news rs d ∙ e)

-- one that passes the test is among those that pass it
pub those_among : {A : Type 0} (P : A → Type 0) (test : A → Bool) → ((x : A) → P x → test x ≡ true) → (xs : List A) → Among P xs
    → Among P (those test xs)
those_among P test k [] m = m
those_among P test k (x ∷ xs) (inl p) = subst (λ b. Among P (cond b (x ∷ those test xs) (those test xs))) (sym (k x p)) (inl p)
those_among P test k (x ∷ xs) (inr m) = by_test (test x) (those_among P test k xs m) where
  by_test : (b : Bool) → Among P (those test xs) → Among P (cond b (x ∷ those test xs) (those test xs))
  by_test true h = inr h
  by_test false h = h

pub nobody_none : (P : Participant → Type 0) (ms : List Participant) → is_nobody ms ≡ true → Among P ms → ⊥
nobody_none P [] e m = m
nobody_none P (x ∷ ms) e m = cc

-- a participant whose acknowledgement is required stands among the required ones
pub is_required : (protocols : List Participant) (g : Tid) (d : Decision) (site : SiteId) (p : Protocol) (rs : List CoordRecord)
    (ms : List Participant) → named protocols rs g ≡ Some ms → acks p d ≡ true → Among (λ m. (m.site ≡ site) × (m.protocol ≡ p)) ms
    → Among (λ m. (m.site ≡ site) × (m.protocol ≡ p)) (required protocols rs g d)
is_required protocols g d site p rs ms e a m =
    subst (λ o. Among (λ k. (k.site ≡ site) × (k.protocol ≡ p)) (required_of d o)) (sym e)
    (those_among (λ k. (k.site ≡ site) × (k.protocol ≡ p)) (λ k. acks k.protocol d) (λ k is. ap (λ q. acks q d) is.1 ∙ a) ms m)

pub among_end : (g : Tid) (rs : List CoordRecord) → Among (IsEndOf g) rs → has_end rs g ≡ true
among_end g [] m = absurd m
among_end g (End t ∷ rs) (inl e) = ap (λ b. cond b true (has_end rs g)) (same_of t g e)
among_end g (End t ∷ rs) (inr m) = by_test (same_tid t g) (among_end g rs m)
  where
    by_test : (b : Bool) → has_end rs g ≡ true → cond b true (has_end rs g) ≡ true
    by_test true h = refl
    by_test false h = h
among_end g (Initiation t ms ∷ rs) (inl e) = absurd e
among_end g (Initiation t ms ∷ rs) (inr m) = among_end g rs m
among_end g (Commit t ks ∷ rs) (inl e) = absurd e
among_end g (Commit t ks ∷ rs) (inr m) = among_end g rs m
among_end g (Abort t ms ∷ rs) (inl e) = absurd e
among_end g (Abort t ms ∷ rs) (inr m) = among_end g rs m
among_end g (Checkpoint sum ∷ rs) (inl e) = absurd e
among_end g (Checkpoint sum ∷ rs) (inr m) = among_end g rs m
