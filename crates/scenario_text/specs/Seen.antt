-- What a draft keeps beside its lists, so that a line isn't compared with each line before it: sets of names, and counts by site.
use Rattle.std.specs.Prelude.{ℕ, ◌≡◌, ◌≤◌, Bool, true, false, ◌&&◌, ◌==◌, slice_index, List}
use Rattle.std.specs.Ordering.{nat_cmp, ordering_then}
use Rattle.std.specs.declared.cmp.Ordering.{Ordering}
use Rattle.std.specs.BTreeSet.{BTreeSet, contains}
use Rattle.mdb_base.specs.declared.names.SiteId.{SiteId}
use Rattle.mdb_base.specs.declared.names.Key.{Key}
use Rattle.mdb_base.specs.declared.names.Tx.{Tx}
use Rattle.mdb_base.specs.Names.{same_site, same_key, same_tx, tx_cmp}
use Rattle.mdb_base.specs.Words.{some_of, how_many}
use Rattle.fed_rules.specs.declared.scenario.ItemLine.{ItemLine}
use Rattle.fed_rules.specs.declared.scenario.TxLine.{TxLine}
use Rattle.fed_rules.specs.declared.scenario.LinkLine.{LinkLine}
use Rattle.fed_rules.specs.declared.scenario.StopLine.{StopLine}
use Rattle.fed_rules.specs.Plans.{same_way, stops_actor, has_site}

-- by site, then by key or place
abbrev pub row_order : SiteId × Key → SiteId × Key → Ordering
row_order a b = ordering_then (nat_cmp a.0.0 b.0.0) (nat_cmp a.1.0 b.1.0)

abbrev pub place_order : SiteId × ℕ → SiteId × ℕ → Ordering
place_order a b = ordering_then (nat_cmp a.0.0 b.0.0) (nat_cmp a.1 b.1)

-- whether a line is of this row, this transaction, this message
abbrev pub is_of_row : SiteId × Key → ItemLine → Bool
is_of_row row line = same_site row.0 line.site && same_key row.1 line.put.key

abbrev pub is_of_tx : Tx → TxLine → Bool
is_of_tx tx line = same_tx line.tx tx

abbrev pub is_of_message : Bool → SiteId × ℕ → LinkLine → Bool
is_of_message to place line = same_way to line.to && same_site place.0 line.site && (place.1 == line.place)

-- the set has the rows of the lines, and the counts are those of the sites' lines
pub record IsItemDraft (lines : List ItemLine) (rows : BTreeSet (SiteId × Key)) (counts : List ℕ) : Type 0 where
  pub rows_seen : (row : SiteId × Key) → contains row_order rows row ≡ some_of (is_of_row row) lines
  pub counted : (site : SiteId) → site.0 ≤ 8 → slice_index counts site.0 ≡ how_many (has_site site) lines

pub record IsTxDraft (lines : List TxLine) (numbers : BTreeSet Tx) : Type 0 where
  pub numbers_seen : (tx : Tx) → contains tx_cmp numbers tx ≡ some_of (is_of_tx tx) lines

pub record IsLinkDraft (lines : List LinkLine) (to from : BTreeSet (SiteId × ℕ)) : Type 0 where
  pub to_seen : (place : SiteId × ℕ) → contains place_order to place ≡ some_of (is_of_message true place) lines
  pub from_seen : (place : SiteId × ℕ) → contains place_order from place ≡ some_of (is_of_message false place) lines

pub record IsStopDraft (lines : List StopLine) (counts : List ℕ) : Type 0 where
  pub counted : (actor : ℕ) → actor ≤ 8 → slice_index counts actor ≡ how_many (stops_actor actor) lines
