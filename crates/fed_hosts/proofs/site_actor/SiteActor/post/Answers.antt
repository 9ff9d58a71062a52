use Rattle.std.proofs.Common.{ℕ, ◌≡◌, [], ◌∷◌, ◌++◌, Option, length, sym, ap, ◌∙◌, arith}
use Rattle.std.specs.Prelude.{option_to_list}
use Rattle.fed_rules.specs.declared.messages.FromSite.{FromSite}
use Rattle.fed_messages.specs.declared.Packet.{Packet}
use Rattle.scripted_link.specs.Outlets.{offered}
use Rattle.host_laws.specs.Lines.{packet_from, packets_at}
use Rattle.fed_hosts.proofs.site_actor.SiteActor.post.Goals as goal

pub returns-clause-offers : goal.returns-clause-offers
returns-clause-offers g c =
    let sent = c.args.self.now.sent in
    let before = offered c.args.self.now.ends.outlet in
    let count : c.len-place.result ≡ length sent.items = omega (arith, sent.ok.0, c.len-place.ensures) in
    c.offer.ensures.offered
    ∙ ap (λ (p : Packet). before ++ p ∷ []) (c.encode_from-packet.ensures.spelled ∙ ap (λ (n : ℕ). packet_from n c.args.stamp c.in-Some.message) count)
    ∙ sym (ap (λ (s : Option FromSite). before ++ packets_at (length sent.items) c.args.stamp (option_to_list s)) c.in-Some.is)
