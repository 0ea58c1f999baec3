-- The values of the options.
use Rattle.std.specs.Prelude.{ℕ, List, codes}
use Rattle.std.specs.Option.{option_map}
use Rattle.std.specs.Borrow.{Bor}
use Rattle.std.specs.declared.option.Option.{Option}
use Rattle.serve_words.specs.Form.{Pair, value_of}
use Rattle.serve_words.specs.declared.matching.Values.{Values}

-- the text of each option's value, where it is there
pub record ValueTexts : Type 0 where
  pub listen : Option (List ℕ)
  pub metadata : Option (List ℕ)
  pub control : Option (List ℕ)
  pub protocol : Option (List ℕ)
  pub workers : Option (List ℕ)
  pub connections : Option (List ℕ)
  pub places : Option (List ℕ)
  pub footprints : Option (List ℕ)
  pub cdn_id : Option (List ℕ)
  pub claimed_origin : Option (List ℕ)
  pub log_fields : Option (List ℕ)
  pub cache : Option (List ℕ)
  pub rows : Option (List ℕ)
  pub triggers : Option (List ℕ)
  pub files : Option (List ℕ)
  pub period : Option (List ℕ)

-- those that are found by their names
unfoldable pub values_by : (List ℕ → Option (List ℕ)) → ValueTexts
values_by found = record {
  listen = found (codes "listen");
  metadata = found (codes "metadata");
  control = found (codes "control");
  protocol = found (codes "protocol");
  workers = found (codes "workers");
  connections = found (codes "connections");
  places = found (codes "places");
  footprints = found (codes "footprints");
  cdn_id = found (codes "cdn-id");
  claimed_origin = found (codes "claimed-origin");
  log_fields = found (codes "log-fields");
  cache = found (codes "cache");
  rows = found (codes "rows");
  triggers = found (codes "triggers");
  files = found (codes "files");
  period = found (codes "period");
}

-- those of these options
abbrev pub values_of : List Pair → ValueTexts
values_of pairs = values_by (λ name. value_of name pairs)

abbrev pub text_at : Option (Bor (List ℕ)) → Option (List ℕ)
text_at = option_map (λ text. text.now)

-- the texts of borrowed values
abbrev pub texts_at : Values → ValueTexts
texts_at v = record {
  listen = text_at v.listen;
  metadata = text_at v.metadata;
  control = text_at v.control;
  protocol = text_at v.protocol;
  workers = text_at v.workers;
  connections = text_at v.connections;
  places = text_at v.places;
  footprints = text_at v.footprints;
  cdn_id = text_at v.cdn_id;
  claimed_origin = text_at v.claimed_origin;
  log_fields = text_at v.log_fields;
  cache = text_at v.cache;
  rows = text_at v.rows;
  triggers = text_at v.triggers;
  files = text_at v.files;
  period = text_at v.period;
}
