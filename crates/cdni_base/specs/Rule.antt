-- The rules that forbid a delivery: with which status and in which words.
use Rattle.std.specs.Prelude.{ℕ, List, [], ◌++◌, codes, decimal, None, Some}
use Rattle.std.specs.declared.option.Option.{Option}
use Rattle.cdni_base.specs.declared.rule.Rule.{Rule}
use Rattle.cdni_base.specs.declared.rule.Rule.TheVariants as rule

-- the status code (RFC 9110, section 15)
abbrev pub rule_status : Rule → ℕ
rule_status rule.Method = 405
rule_status rule.NoMetadata = 503
rule_status (rule.MetadataInvalid trigger) = 503
rule_status rule.NoHost = 404
rule_status (rule.Unenforceable kind) = 403
rule_status (rule.Location number) = 403
rule_status (rule.Time number) = 403
rule_status (rule.Protocol number) = 403
rule_status rule.NoSource = 503

-- a number, or `-` for none
abbrev pub number_or_dash : Option ℕ → List ℕ
number_or_dash None = codes "-"
number_or_dash (Some n) = decimal n

-- the rule's word, with a space where something follows it
abbrev pub rule_word : Rule → List ℕ
rule_word rule.Method = codes "method"
rule_word rule.NoMetadata = codes "no-metadata"
rule_word (rule.MetadataInvalid trigger) = codes "metadata-invalid "
rule_word rule.NoHost = codes "no-host"
rule_word (rule.Unenforceable kind) = codes "unenforceable "
rule_word (rule.Location number) = codes "location "
rule_word (rule.Time number) = codes "time "
rule_word (rule.Protocol number) = codes "protocol "
rule_word rule.NoSource = codes "no-source"

-- the trigger, type or number of the list's rule that follows the word
abbrev pub rule_detail : Rule → List ℕ
rule_detail rule.Method = []
rule_detail rule.NoMetadata = []
rule_detail (rule.MetadataInvalid trigger) = decimal trigger
rule_detail rule.NoHost = []
rule_detail (rule.Unenforceable kind) = kind
rule_detail (rule.Location number) = number_or_dash number
rule_detail (rule.Time number) = number_or_dash number
rule_detail (rule.Protocol number) = number_or_dash number
rule_detail rule.NoSource = []

-- the text of the answer
abbrev pub rule_text : Rule → List ℕ
rule_text rule = rule_word rule ++ rule_detail rule
