-- What is seen of a turn, from what is seen of its parts.
use Rattle.std.proofs.Common.{◌≡◌, ℕ, ◌+◌, ◌-◌, ◌^◌, min, inl, inr, arith, Bool, Result, Ok, Err, IfOk, IfErr, List, [], ◌∷◌, ◌++◌, refl, sym, ap, ap₂, ◌∙◌, subst}
use Rattle.std.proofs.lemmas.Bool.{cases_lt}
use Rattle.mdb_base.specs.declared.names.SiteId.{SiteId}
use Rattle.fed_rules.specs.declared.commands.Stamped.{Stamped}
use Rattle.fed_rules.specs.SitePast.{SitePast}
use Rattle.fed_rules.specs.SiteRecords.{Home}
use Rattle.fed_messages.specs.declared.Packet.{Packet}
use Rattle.actor_store.specs.declared.errors.StepErr.{StepErr}
use Rattle.local_dbms.specs.Stands.{OwnPrograms}
use Rattle.fed_hosts.specs.Turns.{Hears, Inquires, IsCounted, Takes, Waits}
use Rattle.fed_hosts.specs.Views.{SiteView}

-- of a success more is said
pub ok_map : {P Q : Bool → Type 0} (r : Result Bool StepErr) → ((made : Bool) → P made → Q made) → IfOk r P → IfOk r Q
ok_map (Ok made) f p = f made p
ok_map (Err why) f p = tt

-- from two things that are said of it
pub ok_both : {P Q R : Bool → Type 0} (r : Result Bool StepErr) → ((made : Bool) → P made → Q made → R made) → IfOk r P → IfOk r Q → IfOk r R
ok_both (Ok made) f p q = f made p q
ok_both (Err why) f p q = tt

-- all of a view
pub view_from : (a b : SiteView) → a.site ≡ b.site → a.lines ≡ b.lines → a.took ≡ b.took → a.empties ≡ b.empties → a.idle ≡ b.idle → a.failed ≡ b.failed → a ≡ b
view_from a b site lines took empties idle failed =
    ap₂ (λ (s : SiteId) (ls : List Stamped). let view : SiteView = record { site = s; lines = ls; took = a.took; empties = a.empties; idle = a.idle; failed = a.failed } in view) site lines
    ∙ ap₂ (λ (ps : List Packet) (n : ℕ). let view : SiteView = record { site = b.site; lines = b.lines; took = ps; empties = n; idle = a.idle; failed = a.failed } in view) took empties
    ∙ ap₂ (λ (n : ℕ) (f : Bool). let view : SiteView = record { site = b.site; lines = b.lines; took = b.took; empties = b.empties; idle = n; failed = f } in view) idle failed

-- a turn without a message looks at no packets, and at no count of them
pub inquires_beside : (home : Home) (past : SitePast) (old new : SiteView) (took : List Packet) (empties : ℕ) (made : Bool) → Inquires home past (record old { took = took; empties = empties }) new made → Inquires home past old new made
inquires_beside home past old new took empties made (inl counts) = inl (record { few = counts.few; idle = counts.idle; none = counts.none })
inquires_beside home past old new took empties made (inr (inl asks)) = inr (inl (record { eighth = asks.eighth; idle = asks.idle; tid = asks.tid; least = asks.least; line = asks.line }))
inquires_beside home past old new took empties made (inr (inr nothing)) = inr (inr (record { eighth = nothing.eighth; idle = nothing.idle; sure = nothing.sure; none = nothing.none }))

-- an inlet that gave nothing counts it
pub counted_once : (old same new : ℕ) → same ≡ old → new ≡ min (same + 1) (2 ^ 64 - 1) → IsCounted old new
counted_once old same new is counted = elim (cases_lt old 18446744073709551615) [
  | inl less ↦ inl (omega (arith, is, counted, less))
  | inr most ↦ inr (omega (arith, is, counted, most))
]

-- only the count of the inlet changed
pub view_same_but : (a b : SiteView) → a ≡ b → a ≡ record b { empties = a.empties }
view_same_but a b same =
    view_from a (record b { empties = a.empties }) (ap (λ (v : SiteView). v.site) same) (ap (λ (v : SiteView). v.lines) same) (ap (λ (v : SiteView). v.took) same) refl (ap (λ (v : SiteView). v.idle) same) (ap (λ (v : SiteView). v.failed) same)

-- what is seen where nothing was answered
pub put_back_from : (old new : SiteView) → new.site ≡ old.site → new.lines ≡ old.lines → new.took ≡ old.took → new.idle ≡ old.idle → new.failed ≡ old.failed → new ≡ record old { empties = new.empties }
put_back_from old new site lines took idle failed = view_from new (record old { empties = new.empties }) site lines took refl idle failed

-- what is seen where a packet was heard
pub hears_from : (programs : OwnPrograms) (packet : Packet) (old new : SiteView) (took : List Packet) (empties : ℕ) (made : Bool) → took ≡ old.took ++ packet ∷ [] → empties ≡ old.empties
    → new ≡ record old { lines = new.lines; took = took; empties = empties } → Takes programs old.site packet old.lines new.lines made → Hears programs old new made
hears_from programs packet old new took empties made took_are counted beside takes =
    record { packet = packet; takes = takes; others = beside ∙ ap₂ (λ (ps : List Packet) (n : ℕ). record old { lines = new.lines; took = ps; empties = n }) took_are counted }

-- what is seen where nothing was heard
pub waits_from : (home : Home) (past : SitePast) (old new : SiteView) (took : List Packet) (empties : ℕ) (made : Bool) → took ≡ old.took → empties ≡ min (old.empties + 1) (2 ^ 64 - 1)
    → new ≡ record old { lines = new.lines; took = took; empties = empties; idle = new.idle } → Inquires home past (record old { took = took; empties = empties }) new made → Waits home past old new made
waits_from home past old new took empties made took_are counted beside inquires = record {
  counted = subst (λ (n : ℕ). IsCounted old.empties n) (sym (ap (λ (v : SiteView). v.empties) beside)) (counted_once old.empties old.empties empties refl counted);
  inquires = inquires_beside home past old new took empties made inquires;
  others = view_from new (record old { lines = new.lines; empties = new.empties; idle = new.idle }) (ap (λ (v : SiteView). v.site) beside) refl (ap (λ (v : SiteView). v.took) beside ∙ took_are) refl refl (ap (λ (v : SiteView). v.failed) beside);
}

pub err_map : {X Y : Type 0} (r : Result Bool StepErr) → (X → Y) → IfErr r (λ why. X) → IfErr r (λ why. Y)
err_map (Ok made) f x = tt
err_map (Err why) f x = f x

pub err_both : {X Y Z : Type 0} (r : Result Bool StepErr) → (X → Y → Z) → IfErr r (λ why. X) → IfErr r (λ why. Y) → IfErr r (λ why. Z)
err_both (Ok made) f x y = tt
err_both (Err why) f x y = f x y
