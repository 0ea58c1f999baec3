-- Trigger collections (RFC 8007, section 5.1.3). The members of an object stand in the order of their bytes.
use Rattle.std.specs.Prelude.{ℕ, List, ◌++◌, codes, decimal}
use Rattle.cdni_base.specs.declared.provider.ProviderId.{ProviderId}
use Rattle.serde_json.specs.Data.{Data, string, array, object, Members, no_members, member}
use Rattle.serde_json.specs.Written.{compact_text}
use Rattle.trigger_status.specs.Items.{each_as}
use Rattle.trigger_status.specs.declared.job.Filter.{Filter}
use Rattle.trigger_status.specs.declared.job.Filter.TheVariants as filter

-- the URL of this path at the control host
abbrev pub control_url : List ℕ → List ℕ → List ℕ
control_url control path = codes "http://" ++ control ++ path

-- the URL of a trigger's status resource
abbrev pub trigger_url : List ℕ → ℕ → Data
trigger_url control id = string (control_url control (codes "/triggers/" ++ decimal id))

abbrev pub link : List ℕ → List ℕ → Data
link control path = string (control_url control path)

-- a collection lists the URLs of its triggers
unfoldable pub some_members : List ℕ → List ℕ → Members
some_members ids control = member (codes "triggers") (array (each_as (trigger_url control) ids)) no_members

-- the collection of all triggers also names this CDN and all collections
unfoldable pub all_members : List ℕ → ProviderId → List ℕ → Members
all_members ids own control = member (codes "cdn-id") (string own.0)
    (member (codes "coll-active") (link control (codes "/triggers/active"))
    (member (codes "coll-all") (link control (codes "/triggers"))
    (member (codes "coll-complete") (link control (codes "/triggers/complete"))
    (member (codes "coll-failed") (link control (codes "/triggers/failed"))
    (member (codes "coll-pending") (link control (codes "/triggers/pending"))
    (some_members ids control))))))

abbrev pub collection_data : List ℕ → Filter → ProviderId → List ℕ → Data
collection_data ids filter.All own control = object (all_members ids own control)
collection_data ids filter.Pending own control = object (some_members ids control)
collection_data ids filter.Active own control = object (some_members ids control)
collection_data ids filter.Complete own control = object (some_members ids control)
collection_data ids filter.Failed own control = object (some_members ids control)

-- the collection, without spaces
abbrev pub collection_text : List ℕ → Filter → ProviderId → List ℕ → List ℕ
collection_text ids filter own control = compact_text (collection_data ids filter own control)
