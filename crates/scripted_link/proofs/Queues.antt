-- The steps of an outlet.
use Rattle.std.proofs.Common.{◌≡◌, ℕ, zero, suc, ◌+◌, ◌≤◌, inl, inr, List, [], ◌∷◌, ◌++◌, length, take, drop, refl, ap, sym, ◌∙◌, append_assoc, arith}
use Rattle.std.proofs.lemmas.List.{take-append-drop, append-nil}
use Rattle.fed_messages.specs.declared.Packet.{Packet}
use Rattle.mdb_base.specs.declared.names.Fate.{Fate}
use Rattle.scripted_link.specs.declared.script.FateAt.{FateAt}
use Rattle.scripted_link.specs.Script.{fate_at, copies, due, at_offer, through_behind, let_through}
use Rattle.scripted_link.specs.Moves.{Moves}

-- one more of the queued packets, the first of those that are left
one_more : (m : ℕ) (queued : List Packet) (x : Packet) (rest : List Packet) → drop m queued ≡ x ∷ rest → (take (suc m) queued ≡ take m queued ++ x ∷ []) × (drop (suc m) queued ≡ rest)
one_more zero [] x rest e = cc
one_more zero (y ∷ ys) x rest e = (cc, cc)
one_more (suc m) [] x rest e = cc
one_more (suc m) (y ∷ ys) x rest e = let (t, d) = one_more m ys x rest e in (ap (λ (zs : List Packet). y ∷ zs) t, d)

-- so many of the queued packets are moved, and as many slots may be used up
pub record IsMoving (sent queued now_sent now_queued : List Packet) (free now_free : ℕ) : Type 0 where
  pub moved : ℕ
  pub goes : now_sent ≡ sent ++ take moved queued
  pub stays : now_queued ≡ drop moved queued
  pub room : free ≤ now_free + moved

pub moving_starts : (sent queued : List Packet) (free : ℕ) → IsMoving sent queued sent queued free free
moving_starts sent queued free = record { moved = 0; goes = sym (append-nil sent); stays = refl; room = omega arith }

pub moving_on : (sent queued now_sent now_queued next_sent rest : List Packet) (free now_free next_free : ℕ) (x : Packet) → IsMoving sent queued now_sent now_queued free now_free →
    now_queued ≡ x ∷ rest → next_sent ≡ now_sent ++ x ∷ [] → now_free ≤ next_free + 1 → IsMoving sent queued next_sent rest free next_free
moving_on sent queued now_sent now_queued next_sent rest free now_free next_free x m first pushed room =
    let (t, d) = one_more m.moved queued x rest (sym m.stays ∙ first) in
    let r = m.room in
    record {
      moved = suc m.moved;
      goes = pushed ∙ (ap (λ (zs : List Packet). zs ++ x ∷ []) m.goes ∙ (append_assoc sent (take m.moved queued) (x ∷ []) ∙ ap (λ (zs : List Packet). sent ++ zs) (sym t)));
      stays = sym d;
      room = omega arith;
    }

-- the ring is full
pub moving_stops : (sent queued now_sent now_queued next_sent : List Packet) (free now_free next_free : ℕ) → IsMoving sent queued now_sent now_queued free now_free → next_sent ≡ now_sent →
    now_free ≡ 0 → next_free ≡ 0 → Moves sent queued next_sent now_queued free next_free
moving_stops sent queued now_sent now_queued next_sent free now_free next_free m same none full =
    let r = m.room in
    record { moved = m.moved; goes = same ∙ m.goes; stays = m.stays; most = inr (omega arith, full) }

-- nothing is queued
pub moving_ends : (sent queued now_sent now_queued : List Packet) (free now_free : ℕ) → IsMoving sent queued now_sent now_queued free now_free → now_queued ≡ [] →
    Moves sent queued now_sent now_queued free now_free
moving_ends sent queued now_sent now_queued free now_free m none = record { moved = m.moved; goes = m.goes; stays = m.stays; most = inl none }

-- what was sent and what is queued stay the same together
pub moves_none : (sent queued now_sent now_queued : List Packet) (free now_free : ℕ) → Moves sent queued now_sent now_queued free now_free → now_sent ++ now_queued ≡ sent ++ queued
moves_none sent queued now_sent now_queued free now_free m =
    ap (λ (zs : List Packet). zs ++ now_queued) m.goes
    ∙ (ap (λ (zs : List Packet). (sent ++ take m.moved queued) ++ zs) m.stays
    ∙ (append_assoc sent (take m.moved queued) (drop m.moved queued) ∙ ap (λ (zs : List Packet). sent ++ zs) (take-append-drop m.moved queued)))

behind_more : (script : List FateAt) (before packets : List Packet) (packet : Packet) →
    through_behind script before (packets ++ packet ∷ []) ≡ through_behind script before packets ++ at_offer script (before ++ packets) packet
behind_more script before [] packet =
    append-nil (at_offer script before packet) ∙ ap (λ (zs : List Packet). at_offer script zs packet) (sym (append-nil before))
behind_more script before (p ∷ ps) packet =
    ap (λ (zs : List Packet). at_offer script before p ++ zs) (behind_more script (before ++ p ∷ []) ps packet
    ∙ ap (λ (zs : List Packet). through_behind script (before ++ p ∷ []) ps ++ at_offer script zs packet) (append_assoc before (p ∷ []) ps))
    ∙ sym (append_assoc (at_offer script before p) (through_behind script (before ++ p ∷ []) ps) (at_offer script (before ++ p ∷ ps) packet))

-- what one more offer lets through
pub lets_more : (script : List FateAt) (offered : List Packet) (packet : Packet) → let_through script (offered ++ packet ∷ []) ≡ let_through script offered ++ at_offer script offered packet
lets_more script offered packet = behind_more script [] offered packet

-- behind the offer the outlet holds what the script lets through
pub offered_more : (script : List FateAt) (sent queued with_copies all offered more : List Packet) (fate : Fate) (packet : Packet) → sent ++ queued ≡ let_through script offered →
    fate ≡ fate_at script (length offered) → more ≡ offered ++ packet ∷ [] → with_copies ≡ queued ++ copies fate packet → all ≡ with_copies ++ due script more →
    (all ≡ queued ++ at_offer script offered packet) × (sent ++ all ≡ let_through script more)
offered_more script sent queued with_copies all offered more fate packet lets fated m c a =
    let goes : all ≡ queued ++ at_offer script offered packet =
    a ∙ (ap (λ (zs : List Packet). zs ++ due script more) (c ∙ ap (λ (f : Fate). queued ++ copies f packet) fated)
    ∙ (append_assoc queued (copies (fate_at script (length offered)) packet) (due script more)
    ∙ ap (λ (zs : List Packet). queued ++ (copies (fate_at script (length offered)) packet ++ due script zs)) m)) in (
      goes,
      ap (λ (zs : List Packet). sent ++ zs) goes ∙ (sym (append_assoc sent queued (at_offer script offered packet))
          ∙ (ap (λ (zs : List Packet). zs ++ at_offer script offered packet) lets ∙ (sym (lets_more script offered packet) ∙ ap (let_through script) (sym m)))),
    )
