-- Each program of a made scenario moves an amount from a row of one of its sites to another row.
use Rattle.std.proofs.Common.{◌≡◌, ℕ, zero, suc, ◌+◌, ◌-◌, ◌%◌, ◌<◌, ◌≤◌, Bool, true, false, cond, ◌&&◌, Option, Some, None, List, [], ◌∷◌, inl, inr, refl, arith, leb-true, mod-lt}
use Rattle.std.specs.Prelude.{◌==◌, nat_le}
use Rattle.mdb_base.specs.declared.names.SiteId.{SiteId}
use Rattle.mdb_base.specs.declared.names.Tx.{Tx}
use Rattle.mdb_base.specs.Names.{same_tx}
use Rattle.mdb_base.specs.Words.{Each, first_where}
use Rattle.mdb_base.proofs.ForCallers.{append_each}
use Rattle.order_laws.specs.Chains.{In}
use Rattle.order_laws.proofs.ForCallers.{each_at, first_where_some}
use Rattle.fed_rules.specs.declared.scenario.TxLine.{TxLine}
use Rattle.fed_rules.specs.Scenarios.{program_of, program_of_line}
use Rattle.scenario_maker.specs.Draws.{drawn, so_far}
use Rattle.scenario_maker.specs.Made.{behind_sites, behind_transactions, is_global, made, made_global, made_local, made_sites, made_transaction, made_transactions, transfer}
use Rattle.scenario_maker.proofs.ForCallers.{declared, drawn_below}
use Rattle.made_laws.specs.Moves.{MovesAtMost}
use Rattle.made_laws.proofs.SiteLists.{declared_there, sites_of}

module _ (count number : ℕ) (some : 1 ≤ count) (bound : SiteId → ℕ) (wide : (s : SiteId) → 10 ≤ bound s) where
  abbrev ss : List SiteId
  ss = sites_of (made_sites count number)

  there : (s : ℕ) → 1 ≤ s → s ≤ count → In (record { 0 = s }) ss
  there s low high = declared_there (made_sites count number) (record { 0 = s }) (declared count number s low high)

  moved : (from key to other amount : ℕ) → 1 ≤ from → from ≤ count → 1 ≤ to → to ≤ count → key < 10 → other < 10 → amount ≤ 10 → MovesAtMost ss bound (transfer from key to other amount)
  moved from key to other amount a b c d k o m = inr (record {
    from = record { 0 = from };
    key = key;
    to = record { 0 = to };
    other = other;
    amount = amount;
    is = refl;
    from_in = there from a b;
    to_in = there to c d;
    key_low = (let w = wide (record { 0 = from }) in omega (arith, k, w));
    other_low = (let w = wide (record { 0 = to }) in omega (arith, o, w));
    fits = omega (arith, m);
  })

  global_moved : (t x : ℕ) → 2 ≤ count → MovesAtMost ss bound (made_global count t x).program
  global_moved t x two =
      let f = drawn_below x count (omega (arith, some)) in
      let g = mod-lt (1 + drawn x count + drawn (so_far 1 x) (count - 1)) (positive count some) in
      let k = drawn_below (so_far 2 x) 10 (omega arith) in
      let o = drawn_below (so_far 3 x) 10 (omega arith) in
      let m = drawn_below (so_far 4 x) 9 (omega arith) in
      moved (1 + drawn x count) (drawn (so_far 2 x) 10) (1 + (1 + drawn x count + drawn (so_far 1 x) (count - 1)) % count) (drawn (so_far 3 x) 10) (1 + drawn (so_far 4 x) 9)
      (omega arith) (omega (arith, f)) (omega arith) (omega (arith, g)) k o (omega (arith, m))
    where
      positive : (n : ℕ) → 1 ≤ n → 0 < n
      positive n h = omega (arith, h)

  local_moved : (t x : ℕ) → MovesAtMost ss bound (made_local count t x).program
  local_moved t x =
      let f = drawn_below x count (omega (arith, some)) in
      let k = drawn_below (so_far 1 x) 10 (omega arith) in
      let o = mod-lt (drawn (so_far 1 x) 10 + 1 + drawn (so_far 2 x) 9) ten in
      let m = drawn_below (so_far 3 x) 9 (omega arith) in
      moved (1 + drawn x count) (drawn (so_far 1 x) 10) (1 + drawn x count) ((drawn (so_far 1 x) 10 + 1 + drawn (so_far 2 x) 9) % 10) (1 + drawn (so_far 3 x) 9)
      (omega arith) (omega (arith, f)) (omega arith) (omega (arith, f)) k o (omega (arith, m))
    where
      ten : 0 < 10
      ten = omega arith

  one_moved : (t x : ℕ) → MovesAtMost ss bound (made_transaction count t x).program
  one_moved t x = by_kind (is_global count t) refl
    where
      two : (a b : Bool) → (a && b) ≡ true → a ≡ true
      two true b e = refl
      two false b e = cc

      by_kind : (b : Bool) → is_global count t ≡ b → MovesAtMost ss bound (cond b (made_global count t x) (made_local count t x)).program
      by_kind true e = global_moved t x (leb-true 2 count (two (nat_le 2 count) (t % 2 == 0) e))
      by_kind false e = local_moved t x

  all_moved : (n x : ℕ) → Each (λ line. MovesAtMost ss bound line.program) (made_transactions count n x)
  all_moved zero x = tt
  all_moved (suc n) x =
      append_each (λ line. MovesAtMost ss bound line.program) (made_transactions count n x) (made_transaction count (suc n) (behind_transactions count n x) ∷ []) (all_moved n x)
      (one_moved (suc n) (behind_transactions count n x), tt)

  pub program_moves : (transactions : ℕ) (tx : Tx) → MovesAtMost ss bound (program_of (made number count transactions) tx)
  program_moves transactions tx = by_line (first_where (λ (line : TxLine). same_tx line.tx tx) (made_transactions count transactions (behind_sites count number))) refl
    where
      by_line : (o : Option TxLine) → first_where (λ (line : TxLine). same_tx line.tx tx) (made_transactions count transactions (behind_sites count number)) ≡ o → MovesAtMost ss bound (program_of_line o)
      by_line None e = inl refl
      by_line (Some line) e =
          each_at (λ (l : TxLine). MovesAtMost ss bound l.program) line (made_transactions count transactions (behind_sites count number)) (all_moved transactions (behind_sites count number))
          (first_where_some (λ (l : TxLine). same_tx l.tx tx) (made_transactions count transactions (behind_sites count number)) line e).0
