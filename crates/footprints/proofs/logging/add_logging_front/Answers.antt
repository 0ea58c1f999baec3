use Rattle.std.proofs.Common.{◌∙◌}
use Rattle.json.specs.Print.{escape_byte}
use Rattle.footprints.proofs.LoggingLemmas.{logging_added}
use Rattle.footprints.specs.Logging.{optional_names}
use Rattle.footprints.proofs.logging.add_logging_front.Goals as goal

pub returns : goal.returns
unfolding escape_byte
returns c others = logging_added (optional_names c.args.fields.now) c.as_slice.result.now others _ _ _ _ (c.as_slice.ensures ∙ c.in_ok-names.ensures) c.in_ok-extend_from_slice.ensures.items c.in_ok-add_texts.ensures c.in_ok-extend_from_slice-2.ensures.items
