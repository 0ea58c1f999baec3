use Rattle.std.proofs.Common.{◌∙◌, ap, sym, Err, subst, inr, take}
use Rattle.std.proofs.lemmas.Bool.{false≢true}
use Rattle.http_wire.specs.Response.{ResponseParts, SpellsResponse}
use Rattle.http_wire.proofs.LimitLemmas.{few_feeds}
use Rattle.http_wire.proofs.ResponseLemmas.{none_with_room, refused, spells_found, long_found}
use Rattle.http_wire.proofs.response.try_head.Goals as goal

pub returns-then-exceeds_feeds : goal.returns-then-exceeds_feeds
returns-then-exceeds_feeds c =
    let whole = rw c.in-Ok-Complete.field-0-is at c.in-Ok-Complete.ensures.complete in
    let long = long_found c.args.bytes.now c.parse_response.new.headers c.in-Ok-Complete.found whole.0 whole.1 (c.exceeds_feeds.ensures.0 c.if-exceeds_feeds.true) in
    (long.0, inr long.1)

pub returns-in-Ok : goal.returns-in-Ok
returns-in-Ok c =
    let whole = rw c.in-Ok-Complete.field-0-is at c.in-Ok-Complete.ensures.complete in
    let within = rw c.in-Ok-Complete.field-0-is at c.in-Ok-Complete.ensures.within in (
      within.section.len_fits,
      subst (λ (parts : ResponseParts). SpellsResponse (take c.in-Ok-Complete.found.len c.args.bytes.now) parts) (sym c.in-Ok.ensures)
          (spells_found c.args.bytes.now c.parse_response.new.headers c.in-Ok-Complete.found whole.0 whole.1 within (few_feeds _ (λ many. false≢true (sym c.if-exceeds_feeds.false ∙ c.exceeds_feeds.ensures.1 many))) c.requires),
    )

pub returns-in-Err : goal.returns-in-Err
returns-in-Err c =
    (none_with_room c.args.bytes.now c.in-Err.ensures.no_room, refused c.args.bytes.now c.in-Err.field-0 c.in-Err.ensures.invalid (λ p. c.in-Err.ensures.too_many (ap Err p)))
