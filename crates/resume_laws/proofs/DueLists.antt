-- Lists of records: those due are the installed ones once nothing committed is in doubt, and what Ended records behind others leave.
use Rattle.std.proofs.Common.{◌≡◌, ◌⊎◌, ◌≤◌, nat_lt, Bool, true, false, cond, Option, Some, None, List, [], ◌∷◌, ◌++◌, map, refl, sym, ap, ap₂, subst, ◌∙◌, inl, inr, arith}
use Rattle.mdb_base.specs.declared.names.Key.{Key}
use Rattle.mdb_base.specs.declared.names.Tid.{Tid}
use Rattle.mdb_base.specs.declared.rows.Put.{Put}
use Rattle.mdb_base.specs.Names.{same_key, same_tid}
use Rattle.mdb_base.specs.Rows.{look_up, with_rows}
use Rattle.mdb_base.specs.Words.{Each}
use Rattle.mdb_base.proofs.ForCallers.{each_inserted}
use Rattle.order_laws.specs.Chains.{In, Distinct}
use Rattle.order_laws.proofs.ForCallers.{each_at}
use Rattle.presumptions.specs.declared.Decision.TheVariants as Decided
use Rattle.fed_rules.specs.declared.records.SiteRecord.{SiteRecord}
use Rattle.fed_rules.specs.declared.records.SiteRecord.TheVariants as Rec
use Rattle.fed_rules.specs.SiteRecords.{Held, Home, Install, by_number, doubt_of, doubts, due_installs, install_held, installs, rows_after, site_rows}
use Rattle.fed_rules.specs.SiteSums.{carried, site_sum, sum_with}
use Rattle.site_history.specs.Records.{BindOnce, TellOutcomes}
use Rattle.site_history.proofs.ForCallers.{InstallsFall, IsDoubtful, carried_same, doubt_behind, due_distinct, due_fall, due_installed, goes_on_behind, installed_due, installs_distinct, installs_fall}
use Rattle.engine_laws.proofs.ForCallers.{look_up_with_row}
use Rattle.fed_rules.proofs.ForCallers.{carried_none}
use Rattle.site_history.specs.Sums.{NoneIsOvertaken, StaysBelow}
use Rattle.resume_laws.specs.Tables.{DoubtsAreClear, NumbersDiffer}

-- ---- one falling list

tid_in : (x : Install) (xs : List Install) → In x xs → In x.tid (map (λ (i : Install). i.tid) xs)
tid_in x [] i = absurd i
tid_in x (y ∷ ys) (inl e) = inl (ap (λ (i : Install). i.tid) e)
tid_in x (y ∷ ys) (inr i) = inr (tid_in x ys i)

same_fall : (xs ys : List Install) → InstallsFall xs → InstallsFall ys → Distinct (map (λ (i : Install). i.tid) xs) → Distinct (map (λ (i : Install). i.tid) ys) → NumbersDiffer xs
    → ((i : Install) → In i xs → In i ys) → ((i : Install) → In i ys → In i xs) → xs ≡ ys
same_fall [] [] fx fy dx dy one to from = refl
same_fall [] (y ∷ ys) fx fy dx dy one to from = absurd (from y (inl refl))
same_fall (x ∷ xs) [] fx fy dx dy one to from = absurd (to x (inl refl))
same_fall (x ∷ xs) (y ∷ ys) fx fy dx dy one to from =
    ap₂ (λ i is. i ∷ is) head (same_fall xs ys fx.1 fy.1 dx.1 dy.1 (λ a b i j e. one a b (inr i) (inr j) e) (λ i j. to_tail i j (to i (inr j))) (λ i j. from_tail i j (from i (inr j))))
  where
    most : (z : Install) (zs : List Install) → Each (λ (i : Install). i.number ≤ z.number) zs → (w : Install) → In w (z ∷ zs) → w.number ≤ z.number
    most z zs h w (inl e) = subst (λ (i : Install). i.number ≤ z.number) e (omega arith)
    most z zs h w (inr i) = each_at (λ (k : Install). k.number ≤ z.number) w zs h i

    head : x ≡ y
    head =
        let up = most x xs fx.0 y (from y (inl refl)) in
        let down = most y ys fy.0 x (to x (inl refl)) in
        one x y (inl refl) (from y (inl refl)) (omega (arith, up, down))

    to_tail : (i : Install) → In i xs → In i (y ∷ ys) → In i ys
    to_tail i j (inl e) = absurd (dx.0 (subst (λ t. In t (map (λ (k : Install). k.tid) xs)) (ap (λ (k : Install). k.tid) (sym (head ∙ e))) (tid_in i xs j)))
    to_tail i j (inr k) = k

    from_tail : (i : Install) → In i ys → In i (x ∷ xs) → In i xs
    from_tail i j (inl e) = absurd (dy.0 (subst (λ t. In t (map (λ (k : Install). k.tid) ys)) (ap (λ (k : Install). k.tid) (sym (sym head ∙ e))) (tid_in i ys j)))
    from_tail i j (inr k) = k

-- where no committed attempt is in doubt, those due are the installed ones
pub all_settled_on : (commits : Tid → Bool) (rs : List SiteRecord) → BindOnce rs → TellOutcomes commits rs → ((tid : Tid) → commits tid ≡ true → doubt_of rs tid ≡ None)
    → NumbersDiffer (due_installs commits rs) → due_installs commits rs ≡ installs rs
all_settled_on commits rs once told none one =
    same_fall (due_installs commits rs) (installs rs) (due_fall commits rs) (installs_fall rs) (due_distinct commits rs once) (installs_distinct rs once) one
    (λ i j. by_doubt i (due_installed commits rs i once told j)) (λ i j. installed_due commits rs i told j)
  where
    by_doubt : (i : Install) → In i (installs rs) ⊎ IsDoubtful commits rs i → In i (installs rs)
    by_doubt i (inl k) = k
    by_doubt i (inr d) = let clash : Some d.held ≡ None = sym d.doubt ∙ none i.tid d.commit in cc

-- ---- behind records that only start and end

abbrev pub IsLast : SiteRecord → Type 0
IsLast (Rec.Start e) = Unit {0}
IsLast (Rec.Checkpoint sum) = Unit {0}
IsLast (Rec.Ended g d) = Unit {0}
IsLast other = ⊥

pub last_due : (commits : Tid → Bool) (news rs : List SiteRecord) → Each IsLast news → due_installs commits (news ++ rs) ≡ due_installs commits rs
last_due commits [] rs h = refl
last_due commits (Rec.Start e ∷ news) rs h = last_due commits news rs h.1
last_due commits (Rec.Checkpoint sum ∷ news) rs h = last_due commits news rs h.1
last_due commits (Rec.Ended g d ∷ news) rs h = last_due commits news rs h.1
last_due commits (Rec.Setup site engine protocol items ∷ news) rs h = absurd h.0
last_due commits (Rec.Prepared tid e number ticket writes ∷ news) rs h = absurd h.0
last_due commits (Rec.Local tid number writes ∷ news) rs h = absurd h.0

pub last_once : (news rs : List SiteRecord) → Each IsLast news → BindOnce rs → BindOnce (news ++ rs)
last_once [] rs h o = o
last_once (Rec.Start e ∷ news) rs h o = last_once news rs h.1 o
last_once (Rec.Checkpoint sum ∷ news) rs h o = last_once news rs h.1 o
last_once (Rec.Ended g d ∷ news) rs h o = last_once news rs h.1 o
last_once (Rec.Setup site engine protocol items ∷ news) rs h o = absurd h.0
last_once (Rec.Prepared tid e number ticket writes ∷ news) rs h o = absurd h.0
last_once (Rec.Local tid number writes ∷ news) rs h o = absurd h.0

still_doubt : (news rs : List SiteRecord) (g : Tid) (held : Held) → Each IsLast news → doubt_of (news ++ rs) g ≡ Some held → doubt_of rs g ≡ Some held
still_doubt [] rs g held h e = e
still_doubt (Rec.Start n ∷ news) rs g held h e = still_doubt news rs g held h.1 e
still_doubt (Rec.Checkpoint sum ∷ news) rs g held h e = still_doubt news rs g held h.1 e
still_doubt (Rec.Ended t d ∷ news) rs g held h e = by_test (same_tid t g) e (still_doubt news rs g held h.1)
  where
    by_test : (b : Bool) → cond b None (doubt_of (news ++ rs) g) ≡ Some held → (doubt_of (news ++ rs) g ≡ Some held → doubt_of rs g ≡ Some held) → doubt_of rs g ≡ Some held
    by_test true e k = cc
    by_test false e k = k e
still_doubt (Rec.Setup site engine protocol items ∷ news) rs g held h e = absurd h.0
still_doubt (Rec.Prepared tid n number ticket writes ∷ news) rs g held h e = absurd h.0
still_doubt (Rec.Local tid number writes ∷ news) rs g held h e = absurd h.0

-- what they install was in doubt, and overtakes nothing
none_over : (news older : List SiteRecord) → Each IsLast news → DoubtsAreClear older → NoneIsOvertaken news older
none_over [] older h clear = subst (Each (λ i. Each (StaysBelow i) (installs older))) (sym (carried_none (doubts older))) tt
none_over (Rec.Start n ∷ news) older h clear = none_over news older h.1 clear
none_over (Rec.Checkpoint sum ∷ news) older h clear = none_over news older h.1 clear
none_over (Rec.Ended t Decided.Abort ∷ news) older h clear = none_over news older h.1 clear
none_over (Rec.Ended t Decided.Commit ∷ news) older h clear = by_held (doubt_of (news ++ carried (doubts older)) t) refl (none_over news older h.1 clear)
  where
    by_held : (o : Option Held) → doubt_of (news ++ carried (doubts older)) t ≡ o → NoneIsOvertaken news older
        → Each (λ i. Each (StaysBelow i) (installs older)) (install_held o (installs (news ++ carried (doubts older))))
    by_held None e rest = rest
    by_held (Some held) e rest =
        each_inserted (λ i. Each (StaysBelow i) (installs older)) (λ (a b : Install). nat_lt b.number a.number) (record { tid = held.tid; number = held.number; writes = held.writes }) (installs (news ++ carried (doubts older)))
        (clear t held (sym (carried_same older t) ∙ still_doubt news (carried (doubts older)) t held h.1 e)) rest
none_over (Rec.Setup site engine protocol items ∷ news) older h clear = absurd h.0
none_over (Rec.Prepared tid n number ticket writes ∷ news) older h clear = absurd h.0
none_over (Rec.Local tid number writes ∷ news) older h clear = absurd h.0

-- so equal Sums give equal rows behind them
pub same_site_rows : (a b : Home) (news xs ys : List SiteRecord) → Each IsLast news → DoubtsAreClear xs → DoubtsAreClear ys → site_sum a xs ≡ site_sum b ys
    → site_rows a (news ++ xs) ≡ site_rows b (news ++ ys)
same_site_rows a b news xs ys h cx cy e =
    ap (λ sum. sum.rows) (sym (goes_on_behind a news xs (none_over news xs h cx)) ∙ ap (λ sum. sum_with sum news) e ∙ goes_on_behind b news ys (none_over news ys h cy))

-- installs behind lists that say the same
pub same_installs : (news xs ys : List SiteRecord) → ((g : Tid) → doubt_of xs g ≡ doubt_of ys g) → installs xs ≡ installs ys → installs (news ++ xs) ≡ installs (news ++ ys)
same_installs [] xs ys d e = e
same_installs (Rec.Local tid number writes ∷ news) xs ys d e = ap (by_number (record { tid = tid; number = number; writes = writes })) (same_installs news xs ys d e)
same_installs (Rec.Ended t Decided.Commit ∷ news) xs ys d e = ap₂ install_held (doubt_behind news ys xs d t) (same_installs news xs ys d e)
same_installs (Rec.Ended t Decided.Abort ∷ news) xs ys d e = same_installs news xs ys d e
same_installs (Rec.Setup site engine protocol items ∷ news) xs ys d e = same_installs news xs ys d e
same_installs (Rec.Start n ∷ news) xs ys d e = same_installs news xs ys d e
same_installs (Rec.Prepared tid n number ticket writes ∷ news) xs ys d e = same_installs news xs ys d e
same_installs (Rec.Checkpoint sum ∷ news) xs ys d e = same_installs news xs ys d e

-- rows that these leave, by the tables that they are laid on
pub same_look_ups : (xs ys : List Put) → ((key : Key) → look_up xs key ≡ look_up ys key) → (is : List Install) (key : Key) → look_up (rows_after xs is) key ≡ look_up (rows_after ys is) key
same_look_ups xs ys same [] key = same key
same_look_ups xs ys same (i ∷ is) key =
    over i.writes (rows_after xs is) (rows_after ys is) (same_look_ups xs ys same is)
  where
    over : (puts us vs : List Put) → ((k : Key) → look_up us k ≡ look_up vs k) → look_up (with_rows puts us) key ≡ look_up (with_rows puts vs) key
    over [] us vs h = h key
    over (put ∷ puts) us vs h =
        look_up_with_row put (with_rows puts us) key ∙ ap (cond (same_key put.key key) put.value) (over puts us vs h) ∙ sym (look_up_with_row put (with_rows puts vs) key)

pub look_up_alone : (puts : List Put) (key : Key) → look_up (with_rows puts []) key ≡ look_up puts key
look_up_alone [] key = refl
look_up_alone (put ∷ puts) key = look_up_with_row put (with_rows puts []) key ∙ ap (cond (same_key put.key key) put.value) (look_up_alone puts key)
