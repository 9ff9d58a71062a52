-- What a host takes off a ring was sent by the other host, with the number and the stamp that its envelope bears.
use Rattle.std.proofs.Common.{◌≡◌, ℕ, ◌<◌, ◌≤◌, ◌^◌, inl, inr, Option, Some, List, [], ◌∷◌, ◌++◌, length, map, reverse, refl, sym, ◌∙◌, subst, arith}
use Rattle.std.specs.Prelude.{replicate, ◌-◌}
use Rattle.std.proofs.lemmas.List.{reverse-reverse, take_at}
use Rattle.mdb_base.specs.Words.{Each, found, item_at}
use Rattle.mdb_base.proofs.ForCallers.{item_at-below}
use Rattle.order_laws.specs.Chains.{In}
use Rattle.order_laws.proofs.ForCallers.{each_at, in_map, in_more, in_reverse, item_at-in}
use Rattle.fed_messages.specs.declared.Envelope.{Envelope}
use Rattle.fed_messages.specs.declared.Packet.{Packet}
use Rattle.scripted_link.specs.declared.script.FateAt.{FateAt}
use Rattle.fed_messages.specs.Packets.{IsEnvelope, Spells, envelope_bytes, packet_of}
use Rattle.host_laws.specs.Logs.{IsDelivered}
use Rattle.scripted_link.proofs.ForCallers.{were_offered}
use Rattle.host_laws.proofs.Channels.{IsChannel, arrives, few_sent, numbered, sender}
use Rattle.host_laws.proofs.Standing.{found_of}

-- a packet that came was offered
pub came_offered : (script : List FateAt) (offered took : List Packet) (packet : Packet) → IsDelivered script offered took → In packet took → In packet offered
came_offered script offered took packet delivered i =
    were_offered Packet script offered packet (subst (In packet) delivered.1 (in_more packet took delivered.0 i))

-- the packet that bore an envelope which was heard
pub record IsHeard {P E : Type 0} (Read : P → Option E → Type 0) (packets : List P) (envelope : E) : Type 0 where
  pub packet : P
  pub among : In packet packets
  pub read : Read packet (Some envelope)

pub heard : {K P E : Type 0} (packet : K → P) (bears : K → Option E) (Read : P → Option E → Type 0) (takings : List K) (packets : List P) (envelopes : List E) (envelope : E) → packets ≡ reverse (map packet takings)
    → Each (λ k. Read (packet k) (bears k)) takings → envelopes ≡ found bears takings → In envelope envelopes → IsHeard Read packets envelope
heard packet bears Read takings packets envelopes envelope packets_are read envelopes_are i =
    let f = found_of bears envelope takings (subst (In envelope) envelopes_are i) in
    record {
      packet = packet f.item;
      among = subst (In (packet f.item)) (sym packets_are)
          (in_reverse (reverse (map packet takings)) (packet f.item) (subst (In (packet f.item)) (sym (reverse-reverse (map packet takings))) (in_map packet f.item takings f.among)));
      read = subst (Read (packet f.item)) f.is (each_at (λ k. Read (packet k) (bears k)) f.item takings read f.among);
    }

-- a packet spells its text alone
pub one_text : (text other : List ℕ) (packet : Packet) → packet_of text ≡ packet → Spells packet other → text ≡ other
one_text text other packet is spells =
    let s : Spells (packet_of text) other = subst (λ (p : Packet). Spells p other) (sym is) spells in
    sym (take_at text (replicate (40 - length text) 0) (length text) refl) ∙ s.bytes

pub in_middle : {A : Type 0} (up down : List A) (x : A) → In x (up ++ x ∷ down)
in_middle [] down x = inl refl
in_middle (y ∷ up) down x = inr (in_middle up down x)

module _ {T M : Type 0} (stamp : T → ℕ) (bytes : M → List ℕ) (sends : List T → T → List M) (sent : List T → List M) (offered : List T → List Packet) where
  abbrev wrap : ℕ → ℕ → M → Packet
  wrap index stamp message = packet_of (envelope_bytes bytes (record { index = index; stamp = stamp; message = message }))

  -- an envelope that a line takes with a lesser stamp than its own bears the message of its number, where each message that was sent fits its
  -- bytes, and bytes tell such messages apart
  pub arrived : (FitsMessage IsMessage : M → Type 0) → ((x e : Envelope M) → IsEnvelope FitsMessage x → IsEnvelope IsMessage e → envelope_bytes bytes x ≡ envelope_bytes bytes e → x ≡ e)
      → IsChannel stamp wrap sends sent offered → (turns ahead done : List T) → reverse ahead ++ done ≡ turns → length turns ≤ 2 ^ 32 → Each (λ t. stamp t < 2 ^ 64) turns → Each FitsMessage (sent turns)
      → (packet : Packet) (envelope : Envelope M) → In packet (offered turns) → IsEnvelope IsMessage envelope → Spells packet (envelope_bytes bytes envelope)
      → (limit : ℕ) → ((t : T) → In t ahead → limit ≤ stamp t) → envelope.stamp < limit → item_at (sent done) envelope.index ≡ Some envelope.message
  arrived FitsMessage IsMessage tells channel turns ahead done split short stamps fit packet envelope i in_range spelled limit late earlier =
      let s = sender stamp wrap sends sent offered channel turns packet i in
      let x : Envelope M = record { index = length (sent s.down); stamp = stamp s.turn; message = s.message } in
      let there : item_at (sent turns) x.index ≡ Some x.message = subst (λ (ts : List T). item_at (sent ts) x.index ≡ Some x.message) s.split (numbered stamp wrap sends sent offered channel s.up s.down s.turn s.message s.says) in
      let within = item_at-below (sent turns) x.index x.message there in
      let few = few_sent stamp wrap sends sent offered channel turns in
      let fits : IsEnvelope FitsMessage x = record {
        index = omega (arith, within, few, short);
        stamp = each_at (λ t. stamp t < 2 ^ 64) s.turn turns stamps (subst (In s.turn) s.split (in_middle s.up s.down s.turn));
        message = each_at FitsMessage x.message (sent turns) fit (item_at-in (sent turns) x.index x.message there);
      } in
      let same : x ≡ envelope = tells x envelope fits in_range (one_text (envelope_bytes bytes x) (envelope_bytes bytes envelope) packet s.packet_is spelled) in
      let before : stamp s.turn < limit = subst (λ (e : Envelope M). e.stamp < limit) (sym same) earlier in
      subst (λ (e : Envelope M). item_at (sent done) e.index ≡ Some e.message) same (arrives stamp wrap sends sent offered channel turns ahead done packet limit split late s before)
