-- What the `href` of a Link names (RFC 8006, section 4.3.1).
use Rattle.std.specs.Prelude.{ℕ, List, ◌++◌, None, Some, codes, false, if◌then◌else◌}
use Rattle.std.specs.Option.{option_and_then}
use Rattle.std.specs.Result.{result_ok}
use Rattle.std.specs.declared.option.Option.{Option}
use Rattle.serde_json.specs.Data.{Data}
use Rattle.serde_json.specs.Find.{as_str}
use Rattle.targets.specs.Target.{begins_with, port_text, target_of}
use Rattle.targets.specs.declared.target.Target.{Target}

-- the endpoint of a document: its host, and `:` and its port, where that is not 80
abbrev pub base_of : Target → List ℕ
base_of target = target.host ++ port_text target.port

-- An absolute `http` URL names its own target, and a path names the one at the endpoint of the document that holds it
-- (RFC 3986, section 4.2). Any other text names none.
unfoldable pub named_by : List ℕ → List ℕ → Option Target
named_by base href = if begins_with (codes "https://") href then None else result_ok (target_of href (Some base) false)

-- what the value of a property `href` names
abbrev pub named_in : List ℕ → Data → Option Target
named_in base href = option_and_then (named_by base) (as_str href)
