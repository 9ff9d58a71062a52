use Rattle.std.proofs.Common.{IfSome}
use Rattle.std.proofs.lemmas.Option.{IfSome_then}
use Rattle.fed_messages.specs.Reading.{to_site_at}
use Rattle.fed_messages.specs.Spelling.{to_site_bytes, IsToSite}
use Rattle.fed_messages.proofs.Again.{to_site_again}
use Rattle.fed_messages.proofs.Found.{to_site_found}
use Rattle.fed_messages.proofs.Whole.{IsRead, decoded_found, decoded_only}
use Rattle.fed_messages.proofs.decoding.decode_to.Goals as goal

is_read : (c : goal.After-to_envelope) → IfSome c.to_envelope.result (IsRead to_site_bytes IsToSite c.args.p.now)
is_read c =
    decoded_found to_site_bytes IsToSite to_site_at c.args.p.now c.in_ok-text_of.field-0.now c.in_ok-text_of.ensures.text to_site_found c.in_ok-text_of.ensures.short c.to_envelope.ensures.bytes c.to_envelope.result c.to_envelope.ensures.value

pub returns-clause-in_range : goal.returns-clause-in_range
returns-clause-in_range c = IfSome_then c.to_envelope.result (is_read c) (λ envelope h. h.in_range)

pub returns-clause-spelled : goal.returns-clause-spelled
returns-clause-spelled c = IfSome_then c.to_envelope.result (is_read c) (λ envelope h. h.spelled)

pub returns-clause-only : goal.returns-clause-only
returns-clause-only c =
    decoded_only to_site_bytes IsToSite to_site_at c.args.p.now c.in_ok-text_of.field-0.now c.in_ok-text_of.ensures.text to_site_again c.to_envelope.result c.to_envelope.ensures.value
