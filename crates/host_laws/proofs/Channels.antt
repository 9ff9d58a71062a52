-- A channel: each message goes over it with its number and the stamp of its line, and so whoever takes one with a lesser stamp than that of
-- the next line finds it among those that were sent so far.
use Rattle.std.proofs.Common.{◌≡◌, ℕ, ◌<◌, ◌≤◌, ◌⊎◌, inl, inr, Some, List, [], ◌∷◌, ◌++◌, length, map, reverse, refl, sym, ap, ◌∙◌, subst, append_assoc, arith}
use Rattle.std.proofs.lemmas.List.{append-nil, length-append}
use Rattle.mdb_base.specs.Words.{item_at}
use Rattle.order_laws.specs.Chains.{In}
use Rattle.order_laws.proofs.ForCallers.{in_reverse}
use Rattle.host_laws.proofs.Standing.{item_behind, stands}

module _ {T M P : Type 0} (stamp : T → ℕ) (wrap : ℕ → ℕ → M → P) (sends : List T → T → List M) (sent : List T → List M) (offered : List T → List P) where
  -- a line sends at most one message, which gets the next number; what is offered is each message with its number and the stamp of its line
  pub record IsChannel : Type 0 where
    pub few : (ts : List T) (t : T) → length (sends ts t) ≤ 1
    pub sent_more : (t : T) (ts : List T) → sent (t ∷ ts) ≡ sent ts ++ sends ts t
    pub none_sent : sent [] ≡ []
    pub none : offered [] ≡ []
    pub offered_more : (t : T) (ts : List T) → offered (t ∷ ts) ≡ offered ts ++ map (wrap (length (sent ts)) (stamp t)) (sends ts t)

  -- the turn that sent a packet
  pub record IsSent (turns : List T) (packet : P) : Type 0 where
    pub up : List T
    pub turn : T
    pub down : List T
    pub message : M
    pub split : up ++ turn ∷ down ≡ turns
    pub says : sends down turn ≡ message ∷ []
    pub packet_is : wrap (length (sent down)) (stamp turn) message ≡ packet

  module _ (channel : IsChannel) where
    in_wrapped : (t : T) (ts : List T) (packet : P) (ms : List M) → sends ts t ≡ ms → length ms ≤ 1 → In packet (map (wrap (length (sent ts)) (stamp t)) ms) → IsSent (t ∷ ts) packet
    in_wrapped t ts packet [] e few i = absurd i
    in_wrapped t ts packet (m ∷ []) e few (inl same) = record { up = []; turn = t; down = ts; message = m; split = refl; says = e; packet_is = same }
    in_wrapped t ts packet (m ∷ []) e few (inr i) = absurd i
    in_wrapped t ts packet (m ∷ n ∷ ms) e few i = absurd (omega (arith, few))

    -- each packet was sent by some turn
    pub sender : (turns : List T) (packet : P) → In packet (offered turns) → IsSent turns packet
    sender [] packet i = absurd (subst (In packet) channel.none i)
    sender (t ∷ ts) packet i =
        elim (either (offered ts) (map (wrap (length (sent ts)) (stamp t)) (sends ts t)) (subst (In packet) (channel.offered_more t ts) i)) [
          | inl j ↦ let s = sender ts packet j in
              record { up = t ∷ s.up; turn = s.turn; down = s.down; message = s.message; split = ap (λ (xs : List T). t ∷ xs) s.split; says = s.says; packet_is = s.packet_is }
          | inr j ↦ in_wrapped t ts packet (sends ts t) refl (channel.few ts t) j
        ]
      where
        either : (xs ys : List P) → In packet (xs ++ ys) → In packet xs ⊎ In packet ys
        either [] ys j = inr j
        either (x ∷ xs) ys (inl same) = inl (inl same)
        either (x ∷ xs) ys (inr j) = elim (either xs ys j) [ inl k ↦ inl (inr k) | inr k ↦ inr k ]

    -- no more messages were sent than there are turns
    pub few_sent : (turns : List T) → length (sent turns) ≤ length turns
    few_sent [] = let none = ap (λ (ms : List M). length ms) channel.none_sent in omega (arith, none)
    few_sent (t ∷ ts) =
        let one = channel.few ts t in
        let before = few_sent ts in
        let both = ap (λ (ms : List M). length ms) (channel.sent_more t ts) ∙ length-append (sent ts) (sends ts t) in
        omega (arith, one, before, both)

    -- what was sent stays at the front
    kept : (middle turns : List T) → (more : List M) × (sent (middle ++ turns) ≡ sent turns ++ more)
    kept [] turns = ([], sym (append-nil (sent turns)))
    kept (t ∷ middle) turns =
        let rest = kept middle turns in
        (rest.0 ++ sends (middle ++ turns) t, channel.sent_more t (middle ++ turns) ∙ ap (λ (ms : List M). ms ++ sends (middle ++ turns) t) rest.1 ∙ append_assoc (sent turns) rest.0 (sends (middle ++ turns) t))

    -- the message of a turn that is done stands at its number
    pub numbered : (middle down : List T) (turn : T) (message : M) → sends down turn ≡ message ∷ [] → item_at (sent (middle ++ turn ∷ down)) (length (sent down)) ≡ Some message
    numbered middle down turn message says =
        let more = kept middle (turn ∷ down) in
        let first : sent (turn ∷ down) ≡ sent down ++ message ∷ [] = channel.sent_more turn down ∙ ap (λ (ms : List M). sent down ++ ms) says in
        ap (λ (ms : List M). item_at ms (length (sent down))) (more.1 ∙ ap (λ (ms : List M). ms ++ more.0) first) ∙ item_behind (sent down) more.0 message

    -- where the turns ahead have no stamp less than this one and the packet has, its message stands among those that were sent so far
    pub arrives : (turns ahead done : List T) (packet : P) (limit : ℕ) → reverse ahead ++ done ≡ turns → ((t : T) → In t ahead → limit ≤ stamp t) → (s : IsSent turns packet) → stamp s.turn < limit
        → item_at (sent done) (length (sent s.down)) ≡ Some s.message
    arrives turns ahead done packet limit split late s earlier = elim (stands (reverse ahead) done s.up s.down s.turn (split ∙ sym s.split)) [
      | inl i ↦ let most = late s.turn (in_reverse ahead s.turn i) in absurd (omega (arith, most, earlier))
      | inr (middle, is) ↦ ap (λ (ts : List T). item_at (sent ts) (length (sent s.down))) is ∙ numbered middle s.down s.turn s.message s.says
    ]
