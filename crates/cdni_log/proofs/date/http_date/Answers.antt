use Rattle.std.proofs.Common.{◌∙◌}
use Rattle.cdni_log.proofs.DateLemmas.{date_text_of}
use Rattle.cdni_log.proofs.FixdateLemmas.{second_shows, month_shows}
use Rattle.cdni_log.proofs.date.http_date.Goals as goal

pub returns : goal.returns
returns c =
    let text = c.to_bytes.ensures ∙ date_text_of c.args.second c.in-Ok.date c.requires c.in-Ok.ensures.value in
    let shown = second_shows c.args.second c.to_bytes.result c.requires text in
    record {
      year = shown.year;
      month = month_shows c.args.second c.to_bytes.result c.requires shown;
      day = shown.day;
      clock = shown.clock;
    }
