-- What the installed metadata says of a target and of a request (RFC 8006, sections 3.3 and 4).
use Rattle.std.specs.Prelude.{ℕ, Bool, true, false, List, [], ◌∷◌, codes, bytes_eq, None, Some, is_some, unwrap_or, ◌||◌, if◌then◌else◌}
use Rattle.std.specs.Option.{option_and_then, option_map}
use Rattle.std.specs.declared.option.Option.{Option}
use Rattle.cdni_base.specs.Key.{KeyParts, key_of}
use Rattle.cdni_base.specs.declared.asked.Asked.{Asked}
use Rattle.cdni_base.specs.declared.key.Ignored.TheVariants as ignored
use Rattle.cdni_base.specs.declared.rule.Rule.{Rule}
use Rattle.cdni_base.specs.declared.rule.Rule.TheVariants as rule
use Rattle.inheritance.specs.Chain.{chain}
use Rattle.inheritance.specs.Effective.{effective}
use Rattle.inheritance.specs.Held.{ignored_of, ccid_of, unenforceable_of}
use Rattle.location_acl.specs.declared.footprint.Place.{Place}
use Rattle.metadata_objects.specs.LevelData.{Index}
use Rattle.metadata_objects.specs.declared.generic.Generic.{Generic}
use Rattle.targets.specs.declared.endpoint.Endpoint.{Endpoint}
use Rattle.targets.specs.declared.target.Target.{Target}
use Rattle.verdict.specs.Plan.{plan_of}
use Rattle.verdict.specs.Verdict.{first_rule}

-- ---- of a target

-- its effective metadata, where a HostMatch matches (RFC 8006, section 3.3)
abbrev pub objects_in : Index → Target → Option (List Generic)
objects_in index target = option_map effective (chain index target)

-- the same of the installed metadata; no objects where none is installed, or none applies
abbrev pub objects_of : Option Index → Target → List Generic
objects_of index target = unwrap_or (option_and_then (λ installed. objects_in installed target) index) []

-- the cache key: what of the query does not count is said by the effective MI.Cache (RFC 8006, section 4.2.6)
abbrev pub key_by : List Generic → Target → KeyParts
key_by objects target = key_of target (unwrap_or (ignored_of objects) ignored.None)

abbrev pub key_at : Option Index → Target → KeyParts
key_at index target = key_by (objects_of index target) target

-- the collection, by the effective MI.Grouping (RFC 8006, section 4.2.8)
abbrev pub ccid_at : Option Index → Target → Option (List ℕ)
ccid_at index target = ccid_of (objects_of index target)

-- the endpoints of the effective sources, in order (RFC 8006, section 4.2.1)
abbrev pub plan_at : Option Index → Target → List Endpoint
plan_at index target = plan_of (objects_of index target)

-- ---- of a request

-- GET and HEAD are served (RFC 9110, sections 9.3.1 and 9.3.2)
abbrev pub is_served : List ℕ → Bool
is_served method = bytes_eq method (codes "GET") || bytes_eq method (codes "HEAD")

-- no HostMatch matches, or the first rule of the effective metadata that forbids
abbrev pub rule_by : Option (List Generic) → Asked → Place → ℕ → Option Rule
rule_by None asked place moment = Some rule.NoHost
rule_by (Some objects) asked place moment = first_rule objects asked.protocol place moment

-- the installed metadata was made invalid by this trigger, or it is asked
abbrev pub rule_in : Index → Option ℕ → Asked → Place → ℕ → Option Rule
rule_in index (Some trigger) asked place moment = Some (rule.MetadataInvalid trigger)
rule_in index None asked place moment = rule_by (objects_in index asked.target) asked place moment

abbrev pub rule_at : Option Index → Option ℕ → Asked → Place → ℕ → Option Rule
rule_at None invalid asked place moment = Some rule.NoMetadata
rule_at (Some index) invalid asked place moment = rule_in index invalid asked place moment

-- the first rule that forbids the delivery, of: method, no metadata, metadata invalid, no host, unenforceable, location,
-- time, protocol, no source
unfoldable pub forbidden : Option Index → Option ℕ → Asked → Place → ℕ → Option Rule
forbidden index invalid asked place moment =
    if is_served asked.method then rule_at index invalid asked place moment else Some rule.Method

-- ---- of a URL that a trigger would fetch

-- there is no endpoint
abbrev pub is_without_source : List Endpoint → Bool
is_without_source [] = true
is_without_source (endpoint ∷ endpoints) = false

abbrev pub is_skipped_by : Option (List Generic) → Bool
is_skipped_by None = true
is_skipped_by (Some objects) = is_some (unenforceable_of objects) || is_without_source (plan_of objects)

abbrev pub is_skipped_in : Index → Option ℕ → Target → Bool
is_skipped_in index (Some trigger) target = true
is_skipped_in index None target = is_skipped_by (objects_in index target)

-- it is skipped: no metadata is installed, it is invalid, no HostMatch matches, an object that must be enforced is not
-- understood, or no source can be asked
abbrev pub is_skipped : Option Index → Option ℕ → Target → Bool
is_skipped None invalid target = true
is_skipped (Some index) invalid target = is_skipped_in index invalid target
