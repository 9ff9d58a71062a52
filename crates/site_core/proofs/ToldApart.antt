-- A test that follows the past that a journal stands for tells the attempts of the journal apart.
use Rattle.std.proofs.Common.{◌≡◌, Bool, true, false, ◌||◌, Option, Some, None, List, [], ◌∷◌, ◌++◌, map, refl, ap, ◌∙◌}
use Rattle.std.proofs.lemmas.Bool.{or_left, or_right}
use Rattle.mdb_base.specs.declared.names.Tid.{Tid}
use Rattle.mdb_base.specs.declared.names.Tx.{Tx}
use Rattle.mdb_base.specs.Names.{same_tx}
use Rattle.mdb_base.specs.Words.{Each, some_of}
use Rattle.mdb_base.proofs.ForCallers.{or_assoc, same_tx-refl}
use Rattle.fed_rules.specs.declared.events.SiteEvent.{SiteEvent}
use Rattle.fed_rules.specs.declared.records.SiteRecord.{SiteRecord}
use Rattle.fed_rules.specs.declared.records.SiteRecord.TheVariants as Rec
use Rattle.fed_rules.specs.Reopened.{all_named, owner_named, site_names, was_global as named_global, was_local as named_local}
use Rattle.fed_rules.specs.SitePast.{SitePast}
use Rattle.fed_rules.specs.SiteRecords.{Held}
use Rattle.site_history.specs.FoundSites.{AreToldApart, IsOf}
use Rattle.site_core.specs.Made.{is_of_global, is_of_local}

-- whether an event of this kind, about this transaction, is one of them
abbrev pub came : (Tx → SiteEvent → Bool) → Tx → SitePast → Bool
came kind tx past = some_of (λ x. kind tx x.event) past

pub came_append : (kind : Tx → SiteEvent → Bool) (tx : Tx) (xs ys : SitePast) → came kind tx (xs ++ ys) ≡ (came kind tx xs || came kind tx ys)
came_append kind tx [] ys = refl
came_append kind tx (x ∷ xs) ys = ap (λ b. kind tx x.event || b) (came_append kind tx xs ys) ∙ or_assoc (kind tx x.event) (came kind tx xs) (came kind tx ys)

-- the test is this of each transaction that an event of the kind is about
abbrev pub Follows : (Tx → Bool) → (Tx → SiteEvent → Bool) → Bool → SitePast → Type 0
Follows local kind b past = (tx : Tx) → came kind tx past ≡ true → local tx ≡ b

module _ (local : Tx → Bool) (kind : Tx → SiteEvent → Bool) (b : Bool) where
  first_part : (xs ys : SitePast) → Follows local kind b (xs ++ ys) → Follows local kind b xs
  first_part xs ys f tx e = f tx (came_append kind tx xs ys ∙ or_left (came kind tx xs) (came kind tx ys) e)

  last_part : (xs ys : SitePast) → Follows local kind b (xs ++ ys) → Follows local kind b ys
  last_part xs ys f tx e = f tx (came_append kind tx xs ys ∙ or_right (came kind tx xs) (came kind tx ys) e)

of_one : (t : Tid) → (same_tx t.tx t.tx || false) ≡ true
of_one t = or_left (same_tx t.tx t.tx) false (same_tx-refl t.tx)

abbrev held_named : List Held → SitePast
held_named held = map (λ (h : Held). named_global h.tid) held

module _ (local : Tx → Bool) where
  abbrev Locals : SitePast → Type 0
  Locals past = Follows local is_of_local true past

  abbrev Globals : SitePast → Type 0
  Globals past = Follows local is_of_global false past

  held_told : (held : List Held) → Globals (held_named held) → Each (λ (h : Held). local h.tid.tx ≡ false) held
  held_told [] f = tt
  held_told (h ∷ held) f = (
    first_part local is_of_global false (named_global h.tid ∷ []) (held_named held) f h.tid.tx (of_one h.tid),
    held_told held (last_part local is_of_global false (named_global h.tid ∷ []) (held_named held) f),
  )

  locals_told : (tids : List Tid) → Locals (map named_local tids) → Each (λ (t : Tid). local t.tx ≡ true) tids
  locals_told [] f = tt
  locals_told (t ∷ tids) f = (
    first_part local is_of_local true (named_local t ∷ []) (map named_local tids) f t.tx (of_one t),
    locals_told tids (last_part local is_of_local true (named_local t ∷ []) (map named_local tids) f),
  )

  owner_told : (o : Option Tid) → Globals (owner_named o) → IsOf local false o
  owner_told None f = tt
  owner_told (Some t) f = f t.tx (of_one t)

  record_told : (r : SiteRecord) → Locals (site_names r) → Globals (site_names r) → AreToldApart local r
  record_told (Rec.Setup site engine protocol items) f g = tt
  record_told (Rec.Start epoch) f g = tt
  record_told (Rec.Prepared t epoch n ticket writes) f g = g t.tx (of_one t)
  record_told (Rec.Ended t decision) f g = tt
  record_told (Rec.Local t n writes) f g = f t.tx (of_one t)
  record_told (Rec.Checkpoint sum) f g =
      let held : SitePast = held_named sum.doubtful in
      let owner : SitePast = owner_named sum.owner in
      let locals : SitePast = map named_local sum.locals in
      let given = first_part local is_of_global false (held ++ owner) locals g in (
        held_told sum.doubtful (first_part local is_of_global false held owner given),
        owner_told sum.owner (last_part local is_of_global false held owner given),
        locals_told sum.locals (last_part local is_of_local true (held ++ owner) locals f),
      )

  pub all_told : (rs : List SiteRecord) → Locals (all_named rs) → Globals (all_named rs) → Each (AreToldApart local) rs
  all_told [] f g = tt
  all_told (r ∷ rs) f g = (
    record_told r (first_part local is_of_local true (site_names r) (all_named rs) f) (first_part local is_of_global false (site_names r) (all_named rs) g),
    all_told rs (last_part local is_of_local true (site_names r) (all_named rs) f) (last_part local is_of_global false (site_names r) (all_named rs) g),
  )
