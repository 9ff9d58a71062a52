-- A site and the coordinator agree on the finished operations of an attempt, through losses, repeats and restarts.
use Rattle.std.proofs.Common.{◌≡◌, ℕ, suc, ◌+◌, ◌<◌, Bool, true, false, cond, ◌||◌, Option, Some, None, List, [], ◌∷◌, ◌++◌, length, map, inl, inr, refl, sym, ap, subst, ◌∙◌, arith}
use Rattle.mdb_base.specs.declared.names.Tid.{Tid}
use Rattle.mdb_base.specs.Words.{Each, some_of}
use Rattle.mdb_base.proofs.ForCallers.{append_each, each_map}
use Rattle.presumptions.specs.declared.Protocol.{Protocol}
use Rattle.order_laws.specs.Chains.{In}
use Rattle.order_laws.proofs.ForCallers.{each_at, first_or_second}
use Rattle.fed_rules.specs.declared.events.SiteEvent.{SiteEvent}
use Rattle.fed_rules.specs.declared.events.SiteEvent.TheVariants as To_site
use Rattle.fed_rules.specs.declared.messages.FromSite.{FromSite}
use Rattle.fed_rules.specs.declared.messages.FromSite.TheVariants as From
use Rattle.fed_rules.specs.declared.messages.ToSite.{ToSite}
use Rattle.fed_rules.specs.declared.messages.ToSite.TheVariants as To
use Rattle.fed_rules.specs.declared.records.SiteRecord.{SiteRecord}
use Rattle.fed_rules.specs.declared.records.SiteRecord.TheVariants as Rec
use Rattle.fed_rules.specs.CoordPast.{CoordPast, counted, program}
use Rattle.fed_rules.specs.Runs.{Access, Run, has_ticket}
use Rattle.fed_rules.specs.SitePast.{SiteHappening, SitePast, records, epoch, live}
use Rattle.fed_rules.specs.SiteRecords.{Home}
use Rattle.commit_laws.specs.Records.{IsLooseEnded}
use Rattle.commit_laws.proofs.ForCallers.{Kept, Line}
use Rattle.site_history.specs.Accesses.{seals, acts_of, acts_at}
use Rattle.federation_laws.specs.Accesses.{act_of}
use Rattle.site_history.specs.Records.{IsPrepared}
use Rattle.federation_laws.proofs.Asked.{IsAskedVote, IsOld, Asked}
use Rattle.federation_laws.proofs.CoordHolds.{Holds}
use Rattle.federation_laws.proofs.CoordOps.{ops, ops_at, granted, Matches, agree-count}
use Rattle.federation_laws.proofs.CountedReplies.{is_dead}
use Rattle.federation_laws.proofs.Dues.{epoch_of}
use Rattle.federation_laws.proofs.SiteMoves.{run_ops, ops_of, done-ops, IsNth, IsFrom, finishes, Says, IsSealing, Moves}
use Rattle.federation_laws.proofs.SiteRuns.{site_ops, RunsHold, Growth, Stays, Grows, growth, runs-next, live-plain}
use Rattle.std.proofs.lemmas.List.{length-append}

-- the operation was asked for, so many operations of the site being done
abbrev pub WasAsked : Tid → List ToSite → Option Access → ℕ → Type 0
WasAsked g sent (Some access) n = (e : ℕ) × In (To.Work g e n (act_of access)) sent
WasAsked g sent None n = (e : ℕ) × In (To.Take g e n) sent

-- each of the operations was asked for
abbrev pub WereAsked : Tid → List ToSite → List (Option Access) → Type 0
WereAsked g sent [] = Unit {0}
WereAsked g sent (op ∷ more) = WasAsked g sent op (length more) × WereAsked g sent more

-- a reply that was sent is that of an operation that was finished in its epoch, and a yes vote is kept with its ticket
abbrev pub IsSaid : Home → SitePast → Tid → FromSite → Type 0
IsSaid home past g (From.Did tid e n reply) =
    tid ≡ g → (0 < e) × (finishes reply ≡ true → (op : Option Access) × IsNth (site_ops home past g e) n op × Matches reply op)
IsSaid home past g (From.Vote tid (Some ticket)) = tid ≡ g → IsPrepared (records home past) g ticket
IsSaid home past g message = Unit {0}

-- whether a line sealed the attempt
abbrev pub has_sealed : SitePast → Tid → Bool
has_sealed [] g = false
has_sealed (x ∷ past) g = some_of (seals g) x.calls || has_sealed past g

-- the operations of the site that counted are the first ones that it finished in their epoch
abbrev pub IsBehind : List (Option Access) → List (Option Access) → Type 0
IsBehind all first = (newer : List (Option Access)) × (all ≡ newer ++ first)

-- a sealed run did what counted
pub record IsSealed (home : Home) (past : SitePast) (coordinator : CoordPast) (sent : List ToSite) (g : Tid) : Type 0 where
  pub e : ℕ
  pub n : ℕ
  pub asked : In (To.Prepare g e n) sent
  pub same : is_dead (counted coordinator g) ≡ false → acts_at home past g ≡ granted (ops_at home.site (ops coordinator g))

-- the site and the coordinator agree on the attempt
pub record Agrees (home : Home) (past : SitePast) (coordinator : CoordPast) (sent : List ToSite) (answered : List FromSite) (g : Tid) : Type 0 where
  pub runs : RunsHold home past g
  pub asked : Asked coordinator g home.site sent
  pub said : Each (IsSaid home past g) answered
  pub from : (e : ℕ) → WereAsked g sent (site_ops home past g e)
  pub behind : is_dead (counted coordinator g) ≡ false → IsBehind (site_ops home past g (epoch_of (counted coordinator g) home.site)) (ops_at home.site (ops coordinator g))
  pub sealed : has_sealed past g ≡ true → IsSealed home past coordinator sent g

-- a Prepared record stays
ended-prepared : (protocol : Protocol) (newer now : List SiteRecord) (g : Tid) (ticket : ℕ) → Each (IsLooseEnded protocol) newer → IsPrepared (newer ++ now) g ticket → IsPrepared now g ticket
ended-prepared protocol newer now g ticket h p = record { epoch = p.epoch; number = p.number; writes = p.writes; kept = found-in newer h p.kept }
  where
    found-in : (newer : List SiteRecord) → Each (IsLooseEnded protocol) newer → In (Rec.Prepared g p.epoch p.number ticket p.writes) (newer ++ now) → In (Rec.Prepared g p.epoch p.number ticket p.writes) now
    found-in [] h i = i
    found-in (r ∷ newer) h (inl e) = absurd (subst (IsLooseEnded protocol) e h.0)
    found-in (r ∷ newer) h (inr i) = found-in newer h.1 i

pub prepared-stays : (home : Home) (g : Tid) (past : SitePast) (event : SiteEvent) (now : List SiteRecord) (t : Tid) (ticket : ℕ) → Kept home g past event now → IsPrepared (records home past) t ticket → IsPrepared now t ticket
prepared-stays home g past event now t ticket (inl (r, w, e)) p = subst (λ rs. IsPrepared rs t ticket) (sym e) (record { epoch = p.epoch; number = p.number; writes = p.writes; kept = inr p.kept })
prepared-stays home g past event now t ticket (inr (newer, loose, e)) p = ended-prepared home.protocol newer now t ticket loose (subst (λ rs. IsPrepared rs t ticket) e p)

-- what was said stays true
nth-stays : (home : Home) (past : SitePast) (g : Tid) (event : SiteEvent) (x : SiteHappening) (e n : ℕ) (op : Option Access) → Growth home past g event x e → IsNth (site_ops home past g e) n op → IsNth (site_ops home (x ∷ past) g e) n op
nth-stays home past g event x e n op (Stays s) i = subst (λ all. IsNth all n op) (sym s) i
nth-stays home past g event x e n op (Grows more q s from) i = subst (λ all. IsNth all n op) (sym s) (inr i)

said-stays : (home : Home) (past : SitePast) (g : Tid) (event : SiteEvent) (x : SiteHappening) → ((e : ℕ) → Growth home past g event x e) → Kept home g past event (records home (x ∷ past)) → (message : FromSite) → IsSaid home past g message → IsSaid home (x ∷ past) g message
said-stays home past g event x grow kept (From.Did tid e n reply) h = λ own. ((h own).0, λ f. let (op, i, m) = (h own).1 f in (op, nth-stays home past g event x e n op (grow e) i, m))
said-stays home past g event x grow kept (From.Vote tid None) h = tt
said-stays home past g event x grow kept (From.Vote tid (Some ticket)) h = λ own. prepared-stays home g past event (records home (x ∷ past)) g ticket kept (h own)
said-stays home past g event x grow kept (From.Ack tid) h = tt
said-stays home past g event x grow kept (From.Inquiry tid) h = tt

-- and what a line says is true
says-now : (home : Home) (past : SitePast) (g : Tid) (event : SiteEvent) (x : SiteHappening) (n : ℕ) (op : Option Access) → RunsHold home (x ∷ past) g → Moves home g past event x
    → IsNth (ops_of (live home (x ∷ past) g)) n op → IsNth (site_ops home (x ∷ past) g (epoch home past)) n op
says-now home past g event x n op h m i = of_live (live home (x ∷ past) g) refl
  where
    of_live : (o : Option Run) → live home (x ∷ past) g ≡ o → IsNth (site_ops home (x ∷ past) g (epoch home past)) n op
    of_live None e = absurd (subst (λ o. IsNth (ops_of o) n op) e i)
    of_live (Some run) e =
        subst (λ k. IsNth (site_ops home (x ∷ past) g k) n op) (m.calm (live-plain home past x g run e))
        (subst (λ all. IsNth all n op) (sym (h.now run e)) (subst (λ o. IsNth (ops_of o) n op) e i))

said-now : (home : Home) (past : SitePast) (g : Tid) (event : SiteEvent) (x : SiteHappening) → RunsHold home past g → RunsHold home (x ∷ past) g → Moves home g past event x → (message : FromSite) → Says home g past x message → IsSaid home (x ∷ past) g message
said-now home past g event x was h m (From.Did tid e n reply) s = λ own.
    let known = (s own).0 in
    let some = was.some in
    (omega (arith, known, some), λ f. let (op, i, matches) = (s own).1 f in (op, subst (λ k. IsNth (site_ops home (x ∷ past) g k) n op) (sym known) (says-now home past g event x n op h m i), matches))
said-now home past g event x was h m (From.Vote tid None) s = tt
said-now home past g event x was h m (From.Vote tid (Some ticket)) s = s
said-now home past g event x was h m (From.Ack tid) s = tt
said-now home past g event x was h m (From.Inquiry tid) s = tt

-- an operation that a line finished was asked for
asked-from : (g : Tid) (event : SiteEvent) (sent : List ToSite) (op : Option Access) (n : ℕ) → ((message : ToSite) → event ≡ To_site.Give message → In message sent) → IsFrom g event op n → WasAsked g sent op n
asked-from g event sent (Some access) n given from = (from.0, given _ from.1)
asked-from g event sent None n given from = (from.0, given _ from.1)

were-asked : (home : Home) (past : SitePast) (g : Tid) (event : SiteEvent) (x : SiteHappening) (sent : List ToSite) (e : ℕ) → ((message : ToSite) → event ≡ To_site.Give message → In message sent) → Growth home past g event x e → WereAsked g sent (site_ops home past g e) → WereAsked g sent (site_ops home (x ∷ past) g e)
were-asked home past g event x sent e given (Stays s) h = subst (WereAsked g sent) (sym s) h
were-asked home past g event x sent e given (Grows op q s from) h = subst (WereAsked g sent) (sym s) (asked-from g event sent op (length (site_ops home past g e)) given from, h)

-- what counted stays the first of what was finished
behind-stays : (home : Home) (past : SitePast) (g : Tid) (event : SiteEvent) (x : SiteHappening) (e : ℕ) (first : List (Option Access)) → Growth home past g event x e → IsBehind (site_ops home past g e) first → IsBehind (site_ops home (x ∷ past) g e) first
behind-stays home past g event x e first (Stays s) h = (h.0, s ∙ h.1)
behind-stays home past g event x e first (Grows op q s from) h = (op ∷ h.0, s ∙ ap (λ all. op ∷ all) h.1)

granted-map : (xs : List Access) → granted (map (λ access. Some access) xs) ≡ xs
granted-map [] = refl
granted-map (x ∷ xs) = ap (λ ys. x ∷ ys) (granted-map xs)

-- the accesses of a run are those of its operations
granted-run : (run : Run) → granted (run_ops run) ≡ run.acts
granted-run run = by_test (has_ticket run)
  where
    by_test : (t : Bool) → granted (cond t (None ∷ map (λ access. Some access) run.acts) (map (λ access. Some access) run.acts)) ≡ run.acts
    by_test true = granted-map run.acts
    by_test false = granted-map run.acts

-- where as many were finished as counted, they are the same
all-behind : {A : Type 0} (newer first all : List A) → all ≡ newer ++ first → length all ≡ length first → all ≡ first
all-behind [] first all e n = e
all-behind (x ∷ newer) first all e n =
    let longer : length all ≡ suc (length newer + length first) = ap length e ∙ ap (λ k. suc k) (length-append newer first) in
    absurd (omega (arith, longer, n))

-- a sealing of the attempt
seals-now : (home : Home) (past : SitePast) (g : Tid) (event : SiteEvent) (x : SiteHappening) (coordinator : CoordPast) (sent : List ToSite) (answered : List FromSite) → Holds coordinator g → Agrees home past coordinator sent answered g → ((message : ToSite) → event ≡ To_site.Give message → In message sent)
    → some_of (seals g) x.calls ≡ true → IsSealing home g past event → IsSealed home (x ∷ past) coordinator sent g
seals-now home past g event x coordinator sent answered holds a given s sealing =
    record { e = sealing.e; n = sealing.n; asked = prepare; same = same }
  where
    prepare : In (To.Prepare g sealing.e sealing.n) sent
    prepare = given _ sealing.taken

    same : is_dead (counted coordinator g) ≡ false → acts_at home (x ∷ past) g ≡ granted (ops_at home.site (ops coordinator g))
    same alive =
        let old : IsAskedVote (program coordinator g) (counted coordinator g) home.site sealing.e sealing.n = each_at (IsOld g (program coordinator g) (counted coordinator g) home.site) (To.Prepare g sealing.e sealing.n) sent (a.asked.old alive) prepare refl in
        let known : epoch_of (counted coordinator g) home.site ≡ epoch home past = sym old.known ∙ sealing.epoch_is in
        let behind = a.behind alive in
        let done : site_ops home past g (epoch_of (counted coordinator g) home.site) ≡ run_ops sealing.run = ap (site_ops home past g) known ∙ a.runs.now sealing.run sealing.is_live in
        let count : length (run_ops sealing.run) ≡ length (ops_at home.site (ops coordinator g)) =
        sym (done-ops sealing.run) ∙ (sym sealing.all ∙ (old.count ∙ agree-count (counted coordinator g) (ops coordinator g) home.site (holds.agree alive))) in
        let ops_are : run_ops sealing.run ≡ ops_at home.site (ops coordinator g) = all-behind behind.0 (ops_at home.site (ops coordinator g)) (run_ops sealing.run) (sym done ∙ behind.1) count in
        ap (λ t. cond t (acts_of (live home past g)) (acts_at home past g)) s
        ∙ (ap acts_of sealing.is_live ∙ (sym (granted-run sealing.run) ∙ ap granted ops_are))

sealed-before : (home : Home) (past : SitePast) (g : Tid) (x : SiteHappening) (coordinator : CoordPast) (sent : List ToSite) → some_of (seals g) x.calls ≡ false → IsSealed home past coordinator sent g → IsSealed home (x ∷ past) coordinator sent g
sealed-before home past g x coordinator sent f s =
    record { e = s.e; n = s.n; asked = s.asked; same = λ alive. ap (λ t. cond t (acts_of (live home past g)) (acts_at home past g)) f ∙ s.same alive }

-- they agree after a line of the site
pub agrees-site : (home : Home) (past : SitePast) (g : Tid) (event : SiteEvent) (x : SiteHappening) (coordinator : CoordPast) (sent : List ToSite) (answered : List FromSite) → Holds coordinator g → ((message : ToSite) → event ≡ To_site.Give message → In message sent)
    → Moves home g past event x → Line home g past event x → Agrees home past coordinator sent answered g → Agrees home (x ∷ past) coordinator sent (answered ++ x.sends) g
agrees-site home past g event x coordinator sent answered holds given m line a =
    let grow = growth home past g event x a.runs m in
    let runs = runs-next home past g event x m line a.runs in
    record {
      runs = runs;
      asked = a.asked;
      said = append_each (IsSaid home (x ∷ past) g) answered x.sends
          (each_map (IsSaid home past g) (IsSaid home (x ∷ past) g) (said-stays home past g event x grow line.kept) answered a.said)
          (each_map (Says home g past x) (IsSaid home (x ∷ past) g) (said-now home past g event x a.runs runs m) x.sends m.says);
      from = λ e. were-asked home past g event x sent e given (grow e) (a.from e);
      behind = λ alive. behind-stays home past g event x _ _ (grow (epoch_of (counted coordinator g) home.site)) (a.behind alive);
      sealed = λ s. elim (first_or_second (some_of (seals g) x.calls) (has_sealed past g) s) [
        | inl now ↦ seals-now home past g event x coordinator sent answered holds a given now (m.sealing now)
        | inr before ↦ sealed-before home past g x coordinator sent before.0 (a.sealed before.1)
      ];
    }
