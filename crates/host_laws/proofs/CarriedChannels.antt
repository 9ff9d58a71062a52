-- A ring, whatever its messages are: what the lines of the sender offered to it, and what the receiver made of the packets that came.
use Rattle.std.proofs.Common.{◌≡◌, ℕ, suc, ◌+◌, ◌<◌, ◌≤◌, ◌^◌, Option, Some, None, List, [], ◌∷◌, ◌++◌, length, map, reverse, refl, sym, ap, ap₂, ◌∙◌, subst, inl, inr, arith}
use Rattle.std.proofs.lemmas.List.{append-nil, length-append, length-map, map-append}
use mathlib.Core.List.{IsPrefix}
use Rattle.mdb_base.specs.Words.{Each, Among, found, with_some}
use Rattle.mdb_base.proofs.ForCallers.{append_each, each_append, each_map, each_of_map}
use Rattle.order_laws.specs.Chains.{In}
use Rattle.order_laws.proofs.ForCallers.{each_at, each_from}
use Rattle.fed_messages.specs.declared.Envelope.{Envelope}
use Rattle.fed_messages.specs.declared.Packet.{Packet}
use Rattle.fed_messages.specs.Packets.{Spells, envelope_bytes, packet_of}
use Rattle.scripted_link.specs.declared.script.FateAt.{FateAt}
use Rattle.scripted_link.specs.Script.{let_through}
use Rattle.scripted_link.proofs.ForCallers.{see_places_alone, were_offered}
use Rattle.host_laws.specs.Merged.{IsCarried, first_places}
use Rattle.host_laws.proofs.CarriedLists.{each_both, each_reverse, found_each}
use Rattle.host_laws.proofs.CarriedPackets.{index_in, index_spelled, spells_text, stamp_in, stamp_spelled}

-- What the lines of the sender say, the newest line first.

-- the stamp of a line, and the messages that it sends over the ring, of which there is at most one
pub record Said (M : Type 0) : Type 0 where
  pub stamp : ℕ
  pub messages : List M
  pub few : length messages ≤ 1

-- the messages that were sent, in the order of sending
abbrev pub sent_in : {M : Type 0} → List (Said M) → List M
sent_in [] = []
sent_in (said ∷ saids) = sent_in saids ++ said.messages

-- a fact of each stamp of what is said holds of one of them
pub said_stamp : {M : Type 0} (P : ℕ → Type 0) (stamp : ℕ) (saids : List (Said M)) → Each (λ said. P said.stamp) saids → Among (λ said. said.stamp ≡ stamp) saids → P stamp
said_stamp P stamp [] h i = absurd i
said_stamp P stamp (said ∷ saids) h (inl e) = subst P e h.0
said_stamp P stamp (said ∷ saids) h (inr i) = said_stamp P stamp saids h.1 i

module _ {M : Type 0} (message_bytes : M → List ℕ) where
  -- a message with its number and the stamp of its line, as a packet
  abbrev pub packet_at : ℕ → ℕ → M → Packet
  packet_at index stamp message = packet_of (envelope_bytes message_bytes (record { index = index; stamp = stamp; message = message }))

  -- the packets that were offered: each with the number of messages before it, and the stamp of its line
  abbrev pub offered_in : List (Said M) → List Packet
  offered_in [] = []
  offered_in (said ∷ saids) = offered_in saids ++ map (packet_at (length (sent_in saids)) said.stamp) said.messages

  -- a line sent the packet
  pub record WasSent (saids : List (Said M)) (packet : Packet) : Type 0 where
    pub index : ℕ
    pub stamp : ℕ
    pub message : M
    pub is : packet ≡ packet_at index stamp message
    pub within : index < length (sent_in saids)
    pub among : In message (sent_in saids)
    pub line : Among (λ said. said.stamp ≡ stamp) saids

  -- no more messages than lines
  pub few_messages : (saids : List (Said M)) → length (sent_in saids) ≤ length saids
  few_messages [] = omega arith
  few_messages (said ∷ saids) =
      let rest = few_messages saids in
      let few = said.few in
      let both = length-append (sent_in saids) said.messages in
      omega (arith, rest, few, both)

  index_of_packet : (index stamp : ℕ) (message : M) → index < 2 ^ 32 → index_in (packet_at index stamp message) ≡ index
  index_of_packet index stamp message low =
      index_spelled message_bytes (packet_at index stamp message) (record { index = index; stamp = stamp; message = message }) (spells_text (envelope_bytes message_bytes (record { index = index; stamp = stamp; message = message }))) low

  places_more : (n stamp : ℕ) (messages : List M) → length messages ≤ 1 → n + length messages ≤ 2 ^ 32 → (places : List ℕ) → places ≡ first_places n → (count : ℕ) → count ≡ n + length messages
      → places ++ map index_in (map (packet_at n stamp) messages) ≡ first_places count
  places_more n stamp [] few low places e count is =
      let next : n ≡ count = omega (arith, is) in
      append-nil places ∙ e ∙ ap first_places next
  places_more n stamp (message ∷ []) few low places e count is =
      let next : suc n ≡ count = omega (arith, is) in
      ap₂ (λ (xs ys : List ℕ). xs ++ ys) e (ap (λ (i : ℕ). i ∷ []) (index_of_packet n stamp message (omega (arith, low))))
      ∙ ap first_places next
  places_more n stamp (message ∷ other ∷ messages) few low places e count is = absurd (omega (arith, few))

  -- the packets that were offered bear the numbers from 0
  pub offered_places : (saids : List (Said M)) → length (sent_in saids) ≤ 2 ^ 32 → map index_in (offered_in saids) ≡ first_places (length (sent_in saids))
  offered_places [] low = refl
  offered_places (said ∷ saids) low =
      let both = length-append (sent_in saids) said.messages in
      map-append index_in (offered_in saids) (map (packet_at (length (sent_in saids)) said.stamp) said.messages)
      ∙ places_more (length (sent_in saids)) said.stamp said.messages said.few (omega (arith, low, both)) (map index_in (offered_in saids)) (offered_places saids (omega (arith, low, both))) (length (sent_in (said ∷ saids))) both

  sent_more : (said : Said M) (saids : List (Said M)) (packet : Packet) → WasSent saids packet → WasSent (said ∷ saids) packet
  sent_more said saids packet w =
      record {
        index = w.index;
        stamp = w.stamp;
        message = w.message;
        is = w.is;
        within = let low = w.within in let both = length-append (sent_in saids) said.messages in omega (arith, low, both);
        among = among_front (sent_in saids) said.messages w.among;
        line = inr w.line;
      }
    where
      among_front : (xs ys : List M) → In w.message xs → In w.message (xs ++ ys)
      among_front [] ys i = absurd i
      among_front (x ∷ xs) ys (inl e) = inl e
      among_front (x ∷ xs) ys (inr i) = inr (among_front xs ys i)

  sent_last : (said : Said M) (saids : List (Said M)) → Each (WasSent (said ∷ saids)) (map (packet_at (length (sent_in saids)) said.stamp) said.messages)
  sent_last said saids = each_of_them said.messages (λ message i. i)
    where
      among_behind : (xs ys : List M) (message : M) → In message ys → In message (xs ++ ys)
      among_behind [] ys message i = i
      among_behind (x ∷ xs) ys message i = inr (among_behind xs ys message i)

      some_there : (message : M) (ys : List M) → In message ys → 1 ≤ length ys
      some_there message [] i = absurd i
      some_there message (y ∷ ys) i = omega arith

      was : (message : M) → In message said.messages → WasSent (said ∷ saids) (packet_at (length (sent_in saids)) said.stamp message)
      was message i =
          record {
            index = length (sent_in saids);
            stamp = said.stamp;
            message = message;
            is = refl;
            within = let some = some_there message said.messages i in let both = length-append (sent_in saids) said.messages in omega (arith, some, both);
            among = among_behind (sent_in saids) said.messages message i;
            line = inl refl;
          }

      each_of_them : (messages : List M) → ((message : M) → In message messages → In message said.messages) → Each (WasSent (said ∷ saids)) (map (packet_at (length (sent_in saids)) said.stamp) messages)
      each_of_them [] there = tt
      each_of_them (message ∷ messages) there = (was message (there message (inl refl)), each_of_them messages (λ other i. there other (inr i)))

  -- each packet that was offered was sent by a line
  pub offered_sent : (saids : List (Said M)) → Each (WasSent saids) (offered_in saids)
  offered_sent [] = tt
  offered_sent (said ∷ saids) =
      append_each (WasSent (said ∷ saids)) (offered_in saids) (map (packet_at (length (sent_in saids)) said.stamp) said.messages)
      (each_map (WasSent saids) (WasSent (said ∷ saids)) (λ packet w. sent_more said saids packet w) (offered_in saids) (offered_sent saids)) (sent_last said saids)

-- a fact of each packet that was offered is one of each that was taken
pub taken_each : (P : Packet → Type 0) (script : List FateAt) (offered took : List Packet) → Each P offered → IsPrefix took (let_through script offered) → Each P took
taken_each P script offered took h prefix =
    (each_append P took prefix.0
    (subst (Each P) (sym prefix.1) (each_from P (let_through script offered) (λ packet i. each_at P packet offered h (were_offered Packet script offered packet i))))).0

-- What the receiver makes of the packets.

-- a fact of each packet, the oldest first, is one of each that was taken, the newest first
pub takings_each : {T : Type 0} (packet : T → Packet) (P : Packet → Type 0) (took : List Packet) (takings : List T) → took ≡ reverse (map packet takings) → Each P took → Each (λ taking. P (packet taking)) takings
takings_each packet P took takings is h = each_of_map P packet takings (each_reverse P (map packet takings) (subst (Each P) is h))

module _ {M : Type 0} (message_bytes : M → List ℕ) where
  -- the packet spells the envelope, whose number has its bytes, and whose stamp is small
  pub record IsBorne (packet : Packet) (envelope : Envelope M) : Type 0 where
    pub index : envelope.index < 2 ^ 32
    pub spelled : Spells packet (envelope_bytes message_bytes envelope)
    pub small : envelope.stamp < 2 ^ 62

  -- so it is where an envelope is taken
  abbrev pub MayBear : Packet → Option (Envelope M) → Type 0
  MayBear packet None = Unit {0}
  MayBear packet (Some envelope) = IsBorne packet envelope

  -- and one is
  abbrev pub DoesBear : Packet → Option (Envelope M) → Type 0
  DoesBear packet None = ⊥
  DoesBear packet (Some envelope) = IsBorne packet envelope

  module _ {T : Type 0} (packet : T → Packet) (bears : T → Option (Envelope M)) where
    may_bear : (taking : T) (envelope : Envelope M) → MayBear (packet taking) (bears taking) → bears taking ≡ Some envelope → IsBorne (packet taking) envelope
    may_bear taking envelope h e = subst (MayBear (packet taking)) e h

    -- where the stamps of the lines have their bytes, each stamp that is read is that of a line
    pub taken_stamps : (saids : List (Said M)) (takings : List T) → Each (λ said. said.stamp < 2 ^ 64) saids
        → Each (λ taking. MayBear (packet taking) (bears taking)) takings → Each (λ taking. WasSent message_bytes saids (packet taking)) takings
        → Each (λ envelope. Among (λ said. said.stamp ≡ envelope.stamp) saids) (found bears takings)
    taken_stamps saids takings low may sent =
        found_each _ bears takings
        (each_map _ _ (λ taking both envelope e. stamp_is taking envelope both.1 (may_bear taking envelope both.0 e)) takings (each_both _ _ takings may sent))
      where
        stamp_is : (taking : T) (envelope : Envelope M) → WasSent message_bytes saids (packet taking) → IsBorne (packet taking) envelope → Among (λ said. said.stamp ≡ envelope.stamp) saids
        stamp_is taking envelope w borne =
            let sent : Envelope M = record { index = w.index; stamp = w.stamp; message = w.message } in
            let there : stamp_in (packet taking) ≡ w.stamp =
            ap stamp_in w.is ∙ stamp_spelled message_bytes (packet_at message_bytes w.index w.stamp w.message) sent (spells_text (envelope_bytes message_bytes sent)) (said_stamp (λ n. n < 2 ^ 64) w.stamp saids low w.line) in
            let small = borne.small in
            let here : stamp_in (packet taking) ≡ envelope.stamp = stamp_spelled message_bytes (packet taking) envelope borne.spelled (omega (arith, small)) in
            subst (λ (n : ℕ). Among (λ (said : Said M). said.stamp ≡ n) saids) (sym there ∙ here) w.line

    -- where each packet bears an envelope, the numbers in the packets are those of the envelopes
    pub taken_places : (takings : List T) → Each (λ taking. DoesBear (packet taking) (bears taking)) takings → map index_in (map packet takings) ≡ map (λ (envelope : Envelope M). envelope.index) (found bears takings)
    taken_places [] h = refl
    taken_places (taking ∷ takings) h = by_value (bears taking) h.0 (taken_places takings h.1)
      where
        by_value : (o : Option (Envelope M)) → DoesBear (packet taking) o → map index_in (map packet takings) ≡ map (λ (envelope : Envelope M). envelope.index) (found bears takings)
            → index_in (packet taking) ∷ map index_in (map packet takings) ≡ map (λ (envelope : Envelope M). envelope.index) (with_some o (found bears takings))
        by_value None never rest = absurd never
        by_value (Some envelope) borne rest = ap₂ (λ (i : ℕ) (is : List ℕ). i ∷ is) (index_spelled message_bytes (packet taking) envelope borne.spelled borne.index) rest

  -- what was taken is carried, where the numbers in the packets are the places that the lines name
  pub carried : (script : List FateAt) (saids : List (Said M)) (took : List Packet) (places : List ℕ) (sent : ℕ) → length (sent_in saids) ≤ 2 ^ 32 → sent ≡ length (sent_in saids)
      → IsPrefix took (let_through script (offered_in message_bytes saids)) → map index_in took ≡ places → IsCarried places script sent took
  carried script saids took places sent low count prefix same =
      let through : map index_in (let_through script (offered_in message_bytes saids)) ≡ let_through script (first_places sent) =
      sym (see_places_alone Packet ℕ script index_in (offered_in message_bytes saids))
      ∙ ap (let_through script) (offered_places message_bytes saids low ∙ ap first_places (sym count)) in
      record {
        all = ap length (sym same) ∙ length-map took index_in;
        first = (
          map index_in prefix.0,
          ap (λ (xs : List ℕ). xs ++ map index_in prefix.0) (sym same) ∙ sym (map-append index_in took prefix.0) ∙ ap (map index_in) prefix.1 ∙ through,
        );
      }
