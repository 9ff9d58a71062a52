-- Who is a member of a site's order: it has a Local record there, or a Prepared one, and its outcome is commit.
use Rattle.mdb_base.proofs.ForCallers.{reverse_more, same_tid-refl}
use Rattle.site_history.proofs.ForCallers.{install_before}
use Rattle.std.proofs.Common.{◌≡◌, ◌⊎◌, ℕ, Bool, true, false, cond, ◌||◌, nat_le, List, [], ◌∷◌, map, reverse, inl, inr, refl, sym, ap, subst, ◌∙◌}
use Rattle.mdb_base.specs.declared.names.Tid.{Tid}
use Rattle.mdb_base.specs.declared.rows.Put.{Put}
use Rattle.mdb_base.specs.Words.{Among, some_of, inserted}
use Rattle.order_laws.specs.Chains.{In}
use Rattle.order_laws.proofs.ForCallers.{append_in, in_inserted, in_reverse}
use Rattle.fed_rules.specs.declared.records.SiteRecord.{SiteRecord}
use Rattle.fed_rules.specs.declared.records.SiteRecord.TheVariants as Rec
use Rattle.fed_rules.specs.Disk.{Disk, Call, Append, Sync, CutBack, TrimFront, Stops, bytes_of, whole, after_calls}
use Rattle.fed_rules.specs.SitePast.{SitePast, disk, records}
use Rattle.fed_rules.specs.SiteRecords.{Home, Install, site_frame, by_number, due_installs, order_of}
use Rattle.site_history.specs.Accesses.{seals}
use Rattle.site_history.specs.Records.{IsPrepared}
use Rattle.federation_laws.proofs.Agreement.{has_sealed}

-- a Local record of the attempt is kept
pub record IsLocal (records : List SiteRecord) (tid : Tid) : Type 0 where
  pub number : ℕ
  pub writes : List Put
  pub kept : In (Rec.Local tid number writes) records

-- a Prepared record of it is kept, and its outcome is commit
pub record IsCommitted (commits : Tid → Bool) (records : List SiteRecord) (tid : Tid) : Type 0 where
  pub ticket : ℕ
  pub prepared : IsPrepared records tid ticket
  pub commit : commits tid ≡ true

pub data IsMember (commits : Tid → Bool) (records : List SiteRecord) (tid : Tid) : Type 0 where
  AsLocal : IsLocal records tid → IsMember commits records tid
  AsGlobal : IsCommitted commits records tid → IsMember commits records tid

member-behind : (commits : Tid → Bool) (r : SiteRecord) (rs : List SiteRecord) (tid : Tid) → IsMember commits rs tid → IsMember commits (r ∷ rs) tid
member-behind commits r rs tid (AsLocal l) = AsLocal (record { number = l.number; writes = l.writes; kept = inr l.kept })
member-behind commits r rs tid (AsGlobal c) =
    AsGlobal (record { ticket = c.ticket; prepared = record { epoch = c.prepared.epoch; number = c.prepared.number; writes = c.prepared.writes; kept = inr c.prepared.kept }; commit = c.commit })

install-member : (commits : Tid → Bool) (rs : List SiteRecord) (install : Install) → In install (due_installs commits rs) → IsMember commits rs install.tid
install-member commits [] install i = absurd i
install-member commits (Rec.Local tid number writes ∷ rs) install i =
    elim (in_inserted install_before (record { tid = tid; number = number; writes = writes }) install (due_installs commits rs) i) [
      | inl e ↦ subst (λ (x : Install). IsMember commits (Rec.Local tid number writes ∷ rs) x.tid) e (AsLocal (record { number = number; writes = writes; kept = inl refl }))
      | inr j ↦ member-behind commits _ rs install.tid (install-member commits rs install j)
    ]
install-member commits (Rec.Prepared tid epoch number ticket writes ∷ rs) install i = by_test (commits tid) refl i (install-member commits rs install)
  where
    by_test : (t : Bool) → commits tid ≡ t → In install (cond t (by_number (record { tid = tid; number = number; writes = writes }) (due_installs commits rs)) (due_installs commits rs))
        → (In install (due_installs commits rs) → IsMember commits rs install.tid) → IsMember commits (Rec.Prepared tid epoch number ticket writes ∷ rs) install.tid
    by_test true q i h =
        elim (in_inserted install_before (record { tid = tid; number = number; writes = writes }) install (due_installs commits rs) i) [
          | inl e ↦ subst (λ (x : Install). IsMember commits (Rec.Prepared tid epoch number ticket writes ∷ rs) x.tid) e
              (AsGlobal (record { ticket = ticket; prepared = record { epoch = epoch; number = number; writes = writes; kept = inl refl }; commit = q }))
          | inr j ↦ member-behind commits (Rec.Prepared tid epoch number ticket writes) rs install.tid (h j)
        ]
    by_test false q i h = member-behind commits (Rec.Prepared tid epoch number ticket writes) rs install.tid (h i)
install-member commits (Rec.Setup site engine protocol items ∷ rs) install i = member-behind commits _ rs install.tid (install-member commits rs install i)
install-member commits (Rec.Checkpoint sum ∷ rs) install i = member-behind commits _ rs install.tid (install-member commits rs install i)
install-member commits (Rec.Start epoch ∷ rs) install i = member-behind commits _ rs install.tid (install-member commits rs install i)
install-member commits (Rec.Ended tid decision ∷ rs) install i = member-behind commits _ rs install.tid (install-member commits rs install i)

reverse-in : {A : Type 0} (x : A) (xs : List A) → In x xs → In x (reverse xs)
reverse-in x [] i = i
reverse-in x (y ∷ xs) (inl e) = subst (In x) (sym (reverse_more y xs)) (append_in x (reverse xs) (y ∷ []) (inr (inl e)))
reverse-in x (y ∷ xs) (inr i) = subst (In x) (sym (reverse_more y xs)) (append_in x (reverse xs) (y ∷ []) (inl (reverse-in x xs i)))

-- a member of the order has its record
pub member-of : (commits : Tid → Bool) (rs : List SiteRecord) (tid : Tid) → In tid (order_of commits rs) → IsMember commits rs tid
member-of commits rs tid i = image (due_installs commits rs) (in_reverse (map (λ install. install.tid) (due_installs commits rs)) tid i) (λ install j. install-member commits rs install j)
  where
    image : (installs : List Install) → In tid (map (λ install. install.tid) installs) → ((install : Install) → In install installs → IsMember commits rs install.tid) → IsMember commits rs tid
    image [] i h = absurd i
    image (install ∷ installs) (inl e) h = subst (IsMember commits rs) e (h install (inl refl))
    image (install ∷ installs) (inr i) h = image installs i (λ x j. h x (inr j))

-- the attempts of a list with one more
tid-inserted : (before : Install → Install → Bool) (x : Install) (xs : List Install) (tid : Tid) → (x.tid ≡ tid) ⊎ In tid (map (λ i. i.tid) xs) → In tid (map (λ i. i.tid) (inserted before x xs))
tid-inserted before x [] tid (inl e) = inl e
tid-inserted before x [] tid (inr i) = absurd i
tid-inserted before x (z ∷ zs) tid i = by_test (before z x) i (tid-inserted before x zs tid)
  where
    by_test : (t : Bool) → (x.tid ≡ tid) ⊎ In tid (map (λ i. i.tid) (z ∷ zs)) → ((x.tid ≡ tid) ⊎ In tid (map (λ i. i.tid) zs) → In tid (map (λ i. i.tid) (inserted before x zs)))
        → In tid (map (λ i. i.tid) (cond t (z ∷ inserted before x zs) (x ∷ z ∷ zs)))
    by_test true (inl e) h = inr (h (inl e))
    by_test true (inr (inl e)) h = inl e
    by_test true (inr (inr j)) h = inr (h (inr j))
    by_test false (inl e) h = inl e
    by_test false (inr j) h = inr j

due-tid : (commits : Tid → Bool) (rs : List SiteRecord) (tid : Tid) (epoch number ticket : ℕ) (writes : List Put) → commits tid ≡ true → In (Rec.Prepared tid epoch number ticket writes) rs → In tid (map (λ install. install.tid) (due_installs commits rs))
due-tid commits [] tid epoch number ticket writes c i = absurd i
due-tid commits (Rec.Local t n w ∷ rs) tid epoch number ticket writes c (inl e) = cc
due-tid commits (Rec.Local t n w ∷ rs) tid epoch number ticket writes c (inr i) = tid-inserted install_before (record { tid = t; number = n; writes = w }) (due_installs commits rs) tid (inr (due-tid commits rs tid epoch number ticket writes c i))
due-tid commits (Rec.Prepared t p n k w ∷ rs) tid epoch number ticket writes c (inl e) = first (let own : t ≡ tid = cc in own) (commits t) refl
  where
    first : t ≡ tid → (b : Bool) → commits t ≡ b → In tid (map (λ install. install.tid) (cond b (by_number (record { tid = t; number = n; writes = w }) (due_installs commits rs)) (due_installs commits rs)))
    first own true q = tid-inserted install_before (record { tid = t; number = n; writes = w }) (due_installs commits rs) tid (inl own)
    first own false q = (let yes : commits t ≡ true = ap commits own ∙ c in let clash = sym yes ∙ q in cc)
due-tid commits (Rec.Prepared t p n k w ∷ rs) tid epoch number ticket writes c (inr i) = later (commits t) (due-tid commits rs tid epoch number ticket writes c i)
  where
    later : (b : Bool) → In tid (map (λ install. install.tid) (due_installs commits rs)) → In tid (map (λ install. install.tid) (cond b (by_number (record { tid = t; number = n; writes = w }) (due_installs commits rs)) (due_installs commits rs)))
    later true j = tid-inserted install_before (record { tid = t; number = n; writes = w }) (due_installs commits rs) tid (inr j)
    later false j = j
due-tid commits (Rec.Setup site engine protocol items ∷ rs) tid epoch number ticket writes c (inl e) = cc
due-tid commits (Rec.Checkpoint sum ∷ rs) tid epoch number ticket writes c (inl e) = cc
due-tid commits (Rec.Setup site engine protocol items ∷ rs) tid epoch number ticket writes c (inr i) = due-tid commits rs tid epoch number ticket writes c i
due-tid commits (Rec.Checkpoint sum ∷ rs) tid epoch number ticket writes c (inr i) = due-tid commits rs tid epoch number ticket writes c i
due-tid commits (Rec.Start s ∷ rs) tid epoch number ticket writes c (inl e) = cc
due-tid commits (Rec.Start s ∷ rs) tid epoch number ticket writes c (inr i) = due-tid commits rs tid epoch number ticket writes c i
due-tid commits (Rec.Ended t decision ∷ rs) tid epoch number ticket writes c (inl e) = cc
due-tid commits (Rec.Ended t decision ∷ rs) tid epoch number ticket writes c (inr i) = due-tid commits rs tid epoch number ticket writes c i

due-local : (commits : Tid → Bool) (rs : List SiteRecord) (tid : Tid) (number : ℕ) (writes : List Put) → In (Rec.Local tid number writes) rs → In tid (map (λ install. install.tid) (due_installs commits rs))
due-local commits [] tid number writes i = absurd i
due-local commits (Rec.Local t n w ∷ rs) tid number writes (inl e) = tid-inserted install_before (record { tid = t; number = n; writes = w }) (due_installs commits rs) tid (inl (let own : t ≡ tid = cc in own))
due-local commits (Rec.Local t n w ∷ rs) tid number writes (inr i) = tid-inserted install_before (record { tid = t; number = n; writes = w }) (due_installs commits rs) tid (inr (due-local commits rs tid number writes i))
due-local commits (Rec.Prepared t p n k w ∷ rs) tid number writes (inl e) = cc
due-local commits (Rec.Prepared t p n k w ∷ rs) tid number writes (inr i) = later (commits t) (due-local commits rs tid number writes i)
  where
    later : (b : Bool) → In tid (map (λ install. install.tid) (due_installs commits rs)) → In tid (map (λ install. install.tid) (cond b (by_number (record { tid = t; number = n; writes = w }) (due_installs commits rs)) (due_installs commits rs)))
    later true j = tid-inserted install_before (record { tid = t; number = n; writes = w }) (due_installs commits rs) tid (inr j)
    later false j = j
due-local commits (Rec.Setup site engine protocol items ∷ rs) tid number writes (inl e) = cc
due-local commits (Rec.Checkpoint sum ∷ rs) tid number writes (inl e) = cc
due-local commits (Rec.Setup site engine protocol items ∷ rs) tid number writes (inr i) = due-local commits rs tid number writes i
due-local commits (Rec.Checkpoint sum ∷ rs) tid number writes (inr i) = due-local commits rs tid number writes i
due-local commits (Rec.Start s ∷ rs) tid number writes (inl e) = cc
due-local commits (Rec.Start s ∷ rs) tid number writes (inr i) = due-local commits rs tid number writes i
due-local commits (Rec.Ended t decision ∷ rs) tid number writes (inl e) = cc
due-local commits (Rec.Ended t decision ∷ rs) tid number writes (inr i) = due-local commits rs tid number writes i

-- who has a Local record is a member
pub local-member : (commits : Tid → Bool) (rs : List SiteRecord) (tid : Tid) (number : ℕ) (writes : List Put) → In (Rec.Local tid number writes) rs → In tid (order_of commits rs)
local-member commits rs tid number writes i = reverse-in tid (map (λ install. install.tid) (due_installs commits rs)) (due-local commits rs tid number writes i)

-- and who is prepared and commits
pub prepared-member : (commits : Tid → Bool) (rs : List SiteRecord) (tid : Tid) (ticket : ℕ) → commits tid ≡ true → IsPrepared rs tid ticket → In tid (order_of commits rs)
prepared-member commits rs tid ticket c p =
    reverse-in tid (map (λ install. install.tid) (due_installs commits rs)) (due-tid commits rs tid p.epoch p.number ticket p.writes c p.kept)

in-whole : (b : ℕ) (rs : List SiteRecord) (r : SiteRecord) → In r (whole site_frame b rs) → In r rs
in-whole b [] r i = i
in-whole b (x ∷ rs) r i = by_test (nat_le (bytes_of site_frame (x ∷ rs)) b) i (in-whole b rs r)
  where
    by_test : (t : Bool) → In r (cond t (x ∷ rs) (whole site_frame b rs)) → (In r (whole site_frame b rs) → In r rs) → In r (x ∷ rs)
    by_test true i h = i
    by_test false i h = inr (h i)

-- a record that is kept after some calls was kept before, or one of them appended it
pub record-from : (calls : List (Call SiteRecord)) (d : Disk SiteRecord) (r : SiteRecord) → In r (after_calls site_frame d calls).records → In r d.records ⊎ Among (λ call. call ≡ Append r) calls
record-from [] d r i = inl i
record-from (Append x ∷ calls) d r i = elim (record-from calls _ r i) [
  | inl (inl e) ↦ inr (inl (ap (λ q. Append q) e))
  | inl (inr j) ↦ inl j
  | inr k ↦ inr (inr k)
]
record-from (Sync ∷ calls) d r i = elim (record-from calls _ r i) [ inl k ↦ inl k | inr k ↦ inr (inr k) ]
record-from (CutBack ∷ calls) d r i = elim (record-from calls _ r i) [ inl k ↦ inl k | inr k ↦ inr (inr k) ]
record-from (TrimFront ∷ calls) d r i = elim (record-from calls _ r i) [ inl k ↦ inl k | inr k ↦ inr (inr k) ]
record-from (Stops cut ∷ calls) d r i = elim (record-from calls _ r i) [ inl k ↦ inl (in-whole _ d.records r k) | inr k ↦ inr (inr k) ]

-- the record is by which an attempt is sealed
abbrev pub SealsBy : Tid → SiteRecord → Type 0
SealsBy g r = seals g (Append r) ≡ true

pub sealing-call : (g : Tid) (r : SiteRecord) (calls : List (Call SiteRecord)) → SealsBy g r → Among (λ call. call ≡ Append r) calls → some_of (seals g) calls ≡ true
sealing-call g r [] s i = absurd i
sealing-call g r (call ∷ calls) s (inl e) = ap (λ t. t || some_of (seals g) calls) (ap (seals g) e ∙ s)
sealing-call g r (call ∷ calls) s (inr i) = by_test (seals g call) (sealing-call g r calls s i)
  where
    by_test : (t : Bool) → some_of (seals g) calls ≡ true → (t || some_of (seals g) calls) ≡ true
    by_test true h = refl
    by_test false h = h

-- a kept record by which an attempt is sealed was appended by a line
kept-sealed : (home : Home) (past : SitePast) (g : Tid) (r : SiteRecord) → SealsBy g r → In r (records home past) → has_sealed past g ≡ true
kept-sealed home [] g r s (inl e) = (let start = ap (λ q. seals g (Append q)) e in let clash = start ∙ s in cc)
kept-sealed home [] g r s (inr (inl e)) = (let setup = ap (λ q. seals g (Append q)) e in let clash = setup ∙ s in cc)
kept-sealed home [] g r s (inr (inr i)) = absurd i
kept-sealed home (x ∷ past) g r s i = by_case (record-from x.calls (disk home past) r i) (kept-sealed home past g r s)
  where
    by_test : (t : Bool) → has_sealed past g ≡ true → (t || has_sealed past g) ≡ true
    by_test true h = refl
    by_test false h = h

    by_case : In r (records home past) ⊎ Among (λ call. call ≡ Append r) x.calls → (In r (records home past) → has_sealed past g ≡ true) → (some_of (seals g) x.calls || has_sealed past g) ≡ true
    by_case (inl old) h = by_test (some_of (seals g) x.calls) (h old)
    by_case (inr new) h = ap (λ t. t || has_sealed past g) (sealing-call g r x.calls s new)

-- so a prepared attempt was sealed
pub prepared-sealed : (home : Home) (past : SitePast) (g : Tid) (ticket : ℕ) → IsPrepared (records home past) g ticket → has_sealed past g ≡ true
prepared-sealed home past g ticket p = kept-sealed home past g (Rec.Prepared g p.epoch p.number ticket p.writes) (same_tid-refl g) p.kept

-- and so was a local one that committed
pub local-sealed : (home : Home) (past : SitePast) (g : Tid) → IsLocal (records home past) g → has_sealed past g ≡ true
local-sealed home past g l = kept-sealed home past g (Rec.Local g l.number l.writes) (same_tid-refl g) l.kept
