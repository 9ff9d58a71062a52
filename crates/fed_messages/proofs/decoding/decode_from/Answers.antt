use Rattle.std.proofs.Common.{IfSome}
use Rattle.std.proofs.lemmas.Option.{IfSome_then}
use Rattle.fed_messages.specs.Reading.{from_site_at}
use Rattle.fed_messages.specs.Spelling.{from_site_bytes, IsFromSite}
use Rattle.fed_messages.proofs.Again.{from_site_again}
use Rattle.fed_messages.proofs.Found.{from_site_found}
use Rattle.fed_messages.proofs.Whole.{IsRead, decoded_found, decoded_only}
use Rattle.fed_messages.proofs.decoding.decode_from.Goals as goal

is_read : (c : goal.After-from_envelope) → IfSome c.from_envelope.result (IsRead from_site_bytes IsFromSite c.args.p.now)
is_read c =
    decoded_found from_site_bytes IsFromSite from_site_at c.args.p.now c.in_ok-text_of.field-0.now c.in_ok-text_of.ensures.text from_site_found c.in_ok-text_of.ensures.short c.from_envelope.ensures.bytes c.from_envelope.result c.from_envelope.ensures.value

pub returns-clause-in_range : goal.returns-clause-in_range
returns-clause-in_range c = IfSome_then c.from_envelope.result (is_read c) (λ envelope h. h.in_range)

pub returns-clause-spelled : goal.returns-clause-spelled
returns-clause-spelled c = IfSome_then c.from_envelope.result (is_read c) (λ envelope h. h.spelled)

pub returns-clause-only : goal.returns-clause-only
returns-clause-only c =
    decoded_only from_site_bytes IsFromSite from_site_at c.args.p.now c.in_ok-text_of.field-0.now c.in_ok-text_of.ensures.text from_site_again c.from_envelope.result c.from_envelope.ensures.value
